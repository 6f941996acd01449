use lib.ListN.{length}
use Rattle.demo.proofs.show_reply.Given as goal

abbrev pub decreases-loop-rest : goal.decreases-loop-rest
decreases-loop-rest g l = length l.rest
