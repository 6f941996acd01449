use mathlib.Core.Path.{sym, ap, ◌∙◌}
use lib.ListN.{length}
use Rattle.std.proofs.Common.{rules}
use Rattle.wire.proofs.ByteLoops.{not_same}
use Rattle.wire.proofs.NameRows.{length_upper, spelled}
use Rattle.wire.proofs.names.spells.Goals as goal

pub returns-then-word-name : goal.returns-then-word-name
returns-then-word-name c = sym (not_same _ _ (λ e. c.if-word-name.true (sym (length_upper c.args.word.now) ∙ ap length e)))

pub returns : goal.returns
returns c = spelled _ _ _ c.if-word-name.false (search rules)
