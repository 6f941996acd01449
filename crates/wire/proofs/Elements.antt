-- An array laid element by element: what is laid, and what is left to lay.
use mathlib.Core.Path.{◌≡◌, sym, ap, ◌∙◌}
use mathlib.Core.List.{List, [], ◌++◌, append_assoc, append-nil}
use Prim.Native.Nat.{ℕ, ◌+◌, ◌-◌, ◌≤◌}
use native.Mathlib.Omega.{arith}
use borrow.Rule.Slice.PartMut.{put_mid}
use lib.ListN.{length, take, drop, length-append, length-take, length-drop}
use Rattle.wire.specs.Promises.{Laid}
use Rattle.wire.proofs.ReplyLaying.{laid_tail, laid_within, laid_length, tail_room}

-- of what is left, y comes next
pub record Next (rest y more : List ℕ) : Type 0 where
  pub parts : rest ≡ y ++ more

-- a part of a total is laid, and rest is left
pub record Going (total rest before after : List ℕ) (at : ℕ) : Type 0 where
  pub done : List ℕ
  pub laid : Laid done before after at
  pub left : done ++ rest ≡ total
  pub room : length total ≤ length before

pub going_begins : {h rest total d e : List ℕ} {at : ℕ} → Laid h d e at → h ++ rest ≡ total → length total ≤ length d → Going total rest d e at
going_begins {h} l q r = record { done = h; laid = l; left = q; room = r }

module _ {total rest d e : List ℕ} {at : ℕ} (g : Going total rest d e at) where
  module _ {y more : List ℕ} (n : Next rest y more) where
    whole : (g.done ++ y) ++ more ≡ total
    whole = append_assoc g.done y more ∙ ap (λ z. g.done ++ z) (sym n.parts) ∙ g.left

    enough : length (g.done ++ y) ≤ length d
    enough = omega (arith, length-append (g.done ++ y) more, ap length whole, g.room)

    -- the next element has room in the tail
    pub going_room : length y ≤ length (take (length e - at) (drop at e))
    going_room = tail_room y g.laid enough

    module _ {u : List ℕ} {r : ℕ} (l : Laid y (take (length e - at) (drop at e)) u r) where
      -- it is laid there
      pub going_on_lem : Going total more d (put_mid at (length e - at) e u) (r + at)
      going_on_lem = record { done = g.done ++ y; laid = laid_tail g.laid l; left = whole; room = g.room }

      -- and ends within the buffer
      pub going_within : r + at ≤ length d
      going_within = laid_within (laid_tail g.laid l) enough

  -- nothing is left
  pub going_ends : rest ≡ [] → Laid total d e at
  going_ends q = rw (sym g.left ∙ ap (λ z. g.done ++ z) q ∙ append-nil g.done) g.laid

  pub going_length : length e ≡ length d
  going_length = laid_length g.laid (omega (arith, length-append g.done rest, ap length g.left, g.room))

  -- what is laid is no longer than the total
  pub going_at : at ≤ length total
  going_at = omega (arith, g.laid.size, length-append g.done rest, ap length g.left)

  -- so the tail begins within the buffer
  pub going_start : at ≤ length e
  going_start = omega (arith, going_at, going_length, g.room)

  -- and has what the buffer has beyond the total
  pub going_spare : (n : ℕ) → n + length total ≤ length d → n ≤ length (take (length e - at) (drop at e))
  going_spare n h = rw (length-take, length-drop) (omega (arith, going_at, going_length))

-- Where a buffer has room for x and y and k bytes more, the part after x has room for y and k more.
pub tail_spare : {x d e : List ℕ} {a : ℕ} (k : ℕ) (y : List ℕ) → Laid x d e a → k + length (x ++ y) ≤ length d
    → k + length y ≤ length (take (length e - a) (drop a e))
tail_spare {x} k y l h =
    let n : length (x ++ y) ≡ length x + length y = length-append x y in
    rw (length-take, length-drop) (omega (arith, l.size, laid_length l (omega arith)))
