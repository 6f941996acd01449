-- What the tests of the code tell of the head at a place of two lists, w and then p, taken as one.
use mathlib.Core.Path.{◌≡◌, sym, ap, ◌∙◌}
use mathlib.Core.Logic.{◌⊎◌, inl, inr}
use mathlib.Core.Bool.{or-true}
use mathlib.Core.List.{List, ◌++◌}
use Prim.Native.Nat.{ℕ, ◌+◌, ◌-◌, ◌*◌, ◌≤◌, ◌<◌}
use native.Mathlib.Nat.{add-zero}
use native.Mathlib.Omega.{arith}
use lib.Dec.{ltb}
use lib.ListN.{length, drop, get_or, length-drop}
use lib.Seq.{drop-cons, get_or-drop, get_or-append-add}
use borrow.Author.Tests.{eq-eqb, ne_eqb, lt-ltb, le-ltb}
use Rattle.wire.specs.Bytes.{from_le, part}
use Rattle.feeder.specs.declared.record.Head.TheVariants as heads
use Rattle.feeder.specs.Record.{head_of, command_length, first_mark, second_mark, length_at, command_at, command_most}
use Rattle.feeder.specs.Promises.{head_for}
use Rattle.feeder.proofs.RecordHead.{last_tests, after_mark, after_first}

-- ---- one byte of the two lists

pub byte_after : (w p : List ℕ) (i : ℕ) → length w ≤ i → get_or p (i - length w) 0 ≡ get_or (w ++ p) i 0
byte_after w p i l =
    let e : length w + (i - length w) ≡ i = omega arith in
    sym (get_or-append-add w p (i - length w) 0) ∙ ap (λ (n : ℕ). get_or (w ++ p) n 0) e

-- ---- the length of a command, of its two bytes

pub length_spelled : (s : List ℕ) → command_at ≤ length s → command_length s ≡ get_or s length_at 0 + 256 * get_or s (length_at + 1) 0
unfolding command_length from_le part
length_spelled s l =
    let low : length_at < length s = omega arith in
    let high : length_at + 1 < length s = omega arith in
    rw (drop-cons s length_at 0 low) (rw (drop-cons s (length_at + 1) 0 high) (omega arith))

-- ---- the tests, in their order

-- the first byte is no mark
pub no_first : (s : List ℕ) (at : ℕ) {a : ℕ} → a ≡ get_or s at 0 → (a ≡ first_mark → ⊥) → heads.Skip ≡ head_for (head_of (drop at s))
unfolding head_for head_of
no_first s at {a} ea h = rw (get_or-drop at s 0 0, add-zero, ← ea, ne_eqb a first_mark h)

module _ (w p : List ℕ) (at : ℕ) {a count : ℕ} (ea : a ≡ get_or (w ++ p) at 0) (ec : count ≡ length (w ++ p)) where
  abbrev s : List ℕ
  s = drop at (w ++ p)

  abbrev left : ℕ
  left = count - at

  left_is : length s ≡ left
  left_is = rw (length-drop, ec)

  zeroth : get_or s 0 0 ≡ a
  zeroth = get_or-drop at (w ++ p) 0 0 ∙ rw add-zero (sym ea)

  -- the first byte is a mark and stands alone
  pub alone : a ≡ first_mark → left < 2 → heads.Wait ≡ head_for (head_of s)
  unfolding head_for head_of
  alone first l = rw (zeroth, eq-eqb a first_mark first, left_is, lt-ltb left 2 l)

  module _ (first : a ≡ first_mark) (two : 2 ≤ left) {b : ℕ} (eb : b ≡ get_or (w ++ p) (at + 1) 0) where
    after_first_lem : head_of s ≡ after_first s
    unfolding head_of after_first after_mark last_tests
    after_first_lem = rw (zeroth, eq-eqb a first_mark first, left_is, le-ltb left 2 two)

    second : get_or s 1 0 ≡ b
    second = get_or-drop at (w ++ p) 1 0 ∙ sym eb

    pub no_second : (b ≡ second_mark → ⊥) → heads.Skip ≡ head_for (head_of s)
    unfolding head_for after_first
    no_second h = rw (after_first_lem, second, ne_eqb b second_mark h)

    module _ (mark : b ≡ second_mark) where
      after_mark_lem : head_of s ≡ after_mark s
      unfolding after_first
      after_mark_lem = after_first_lem ∙ rw (second, eq-eqb b second_mark mark)

      -- the mark stands, and its command's length is not there
      pub no_length : left < command_at → heads.Wait ≡ head_for (head_of s)
      unfolding head_for after_mark
      no_length l = rw (after_mark_lem, left_is, lt-ltb left command_at l)

      module _ (enough : command_at ≤ left) {low high : ℕ}
          (el : low ≡ get_or (w ++ p) (at + length_at) 0) (eh : high ≡ get_or (w ++ p) (at + (length_at + 1)) 0) where
        abbrev n : ℕ
        n = low + 256 * high

        size : command_length s ≡ n
        size =
            length_spelled s (rw left_is enough)
            ∙ rw (get_or-drop at (w ++ p) length_at 0, get_or-drop at (w ++ p) (length_at + 1) 0, ← el, ← eh)

        after_length : head_of s ≡ last_tests left n
        unfolding after_mark
        after_length = after_mark_lem ∙ rw (left_is, le-ltb left command_at enough, size)

        -- the length is out of range
        pub outside : (n < 1) ⊎ (command_most < n) → heads.Skip ≡ head_for (head_of s)
        unfolding head_for last_tests
        outside (inl l) = rw (after_length, lt-ltb n 1 l)
        outside (inr l) = rw (after_length, lt-ltb command_most n l, or-true (ltb n 1))

        module _ (some : 1 ≤ n) (few : n ≤ command_most) where
          pub cut_short : left < command_at + n → heads.Wait ≡ head_for (head_of s)
          unfolding head_for last_tests
          cut_short l = rw (after_length, le-ltb n 1 some, le-ltb command_most n few, lt-ltb left (command_at + n) l)

          pub all_there : command_at + n ≤ left → heads.Whole n ≡ head_for (head_of s)
          unfolding head_for last_tests
          all_there l = rw (after_length, le-ltb n 1 some, le-ltb command_most n few, le-ltb left (command_at + n) l)

pub ruleset tells_head = (no_first, alone, no_second, no_length, outside, cut_short, all_there)
