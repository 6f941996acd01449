use lib.ListN.{length}
use Rattle.searches.proofs.search_all.Given as goal

-- Each turn goes on past one search.
abbrev pub decreases-loop-search : goal.decreases-loop-search
decreases-loop-search g l = length l.rest
