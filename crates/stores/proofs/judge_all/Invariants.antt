use lib.ListN.{length}
use Rattle.stores.proofs.judge_all.Given as goal

-- Each turn goes on past one store.
abbrev pub decreases-loop-bytes : goal.decreases-loop-bytes
decreases-loop-bytes g l = length l.rest
