use mathlib.Core.Path.{sym, ap}
use lib.ListN.{length}
use Rattle.std.proofs.Common.{rules}
use Rattle.wire.proofs.ByteLoops.{not_same, same_back}
use Rattle.wire.proofs.bytes.equal.Goals as goal

pub returns-then-a-b : goal.returns-then-a-b
returns-then-a-b c = sym (not_same _ _ (λ e. c.if-a-b.true (ap length e)))

pub returns : goal.returns
returns c = same_back _ _ _ c.if-a-b.false (search rules)
