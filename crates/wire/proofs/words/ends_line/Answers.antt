use mathlib.Core.Path.{sym}
use Rattle.wire.proofs.WordPlaces.{ends_short, ends_other, ends_last}
use Rattle.wire.proofs.words.ends_line.Goals as goal

-- Two bytes at a place, where two are left.
pub returns-then-s-at-lt2 : goal.returns-then-s-at-lt2
returns-then-s-at-lt2 c = sym (ends_short _ _ c.if-s-at-lt2.true)

pub returns-then-s-at-ne13 : goal.returns-then-s-at-ne13
returns-then-s-at-ne13 c = sym (ends_other _ _ c.if-s-at-lt2.false c.if-s-at-ne13.true)

pub returns : goal.returns
returns c = ends_last _ _ c.if-s-at-lt2.false c.if-s-at-ne13.false
