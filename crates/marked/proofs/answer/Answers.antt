use mathlib.Core.Path.{◌≡◌, sym}
use mathlib.Core.List.{List}
use Prim.Native.Nat.{ℕ, ◌≤◌}
use native.Mathlib.Omega.{arith}
use lib.Seq.{length-take-le}
use lib.ListN.{length, length-append}
use Rattle.wire.specs.Replies.{laid_over}
use Rattle.marked.proofs.answer.Goals as goal

-- A reply stands in its buffer.
inside : (x d : List ℕ) {e : List ℕ} {r : ℕ} → r ≡ length x → e ≡ laid_over x d → r ≤ length e
unfolding laid_over
inside x d size bytes = rw (bytes, length-append) (omega arith)

pub slice_bounds-reply-end : goal.slice_bounds-reply-end
slice_bounds-reply-end g c = inside _ _ c.execute-done.ensures.size c.execute-done.ensures.bytes

pub slice_bounds-write_spelt-end : goal.slice_bounds-write_spelt-end
slice_bounds-write_spelt-end g c = sym (length-take-le _ _ (inside _ _ c.execute-done.ensures.size c.execute-done.ensures.bytes))
