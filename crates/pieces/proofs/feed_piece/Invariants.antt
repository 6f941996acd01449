use mathlib.Core.Path.{◌≡◌}
use lib.ListN.{length}
use Rattle.pieces.proofs.feed_piece.Given as goal

-- Store and buffer keep their lengths. The measure is what is left of the piece.
abbrev pub invariant-loop-rest : goal.invariant-loop-rest
invariant-loop-rest l = (length l.store ≡ length l.initial.store) × (length l.reply ≡ length l.initial.reply)

abbrev pub decreases-loop-rest : goal.decreases-loop-rest
decreases-loop-rest l = length l.rest
