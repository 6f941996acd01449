use mathlib.Core.Path.{◌≡◌}
use lib.ListN.{length}
use Rattle.wire.proofs.Elements.{Going}
use Rattle.store.specs.Store.{decode}
use Rattle.compare.specs.Promises.{pass_text}
use Rattle.compare.proofs.LineTexts.{rest_text}
use Rattle.compare.proofs.listing.Side.put_lines.Given as goal

-- What is left does the same.
abbrev pub invariant-loop-i : goal.invariant-loop-i
invariant-loop-i l =
    Going (pass_text l.self.pass l.self.instant l.self.store.now l.self.other.now)
    (rest_text l.self.pass l.self.instant l.self.store.now l.self.other.now l.i) l.initial.out l.out l.at × (l.i-end ≡ length (decode l.self.store.now).slots)
