use lib.ListN.{length}
use Rattle.cases.proofs.try_all.Given as goal

-- Each turn goes on past one case.
abbrev pub decreases-loop-rest : goal.decreases-loop-rest
decreases-loop-rest g l = length l.rest
