-- What more bytes do to the head of a stream: a byte to skip and a whole record stay what they are.
use mathlib.Core.Path.{◌≡◌, refl, ap}
use mathlib.Core.Bool.{Bool, true, false, not, cond, ◌||◌, false≢true}
use mathlib.Core.List.{List, [], ◌++◌, append-nil}
use Prim.Native.Nat.{ℕ, ◌+◌, ◌≤◌, ◌<◌}
use native.Mathlib.Omega.{arith}
use lib.Dec.{ltb, eqb}
use lib.ListN.{length, drop, get_or, length-append, length-drop, get_or-append}
use lib.Seq.{take-append-le, drop-append-le}
use borrow.Author.Tests.{ltb-true, ltb-false, le-ltb}
use Rattle.wire.specs.Bytes.{from_le, part}
use Rattle.wire.proofs.Lists.{or_right}
use Rattle.feeder.specs.Record.{Head, head_of, command_length, record_of, first_mark, second_mark, clock_at, length_at, command_at, command_most, record_most}
use Rattle.feeder.specs.Record.Head.{skip, whole, wait}

-- a part of s is the same part of s ++ u
pub part_more : (at n : ℕ) (s u : List ℕ) → at + n ≤ length s → part at n (s ++ u) ≡ part at n s
unfolding part
part_more at n s u h =
    let a : at ≤ length s = omega arith in
    let b : n ≤ length (drop at s) = rw length-drop (omega arith) in
    rw (drop-append-le at s u) (rw (take-append-le n (drop at s) u))

pub length_more : (s u : List ℕ) → command_at ≤ length s → command_length (s ++ u) ≡ command_length s
unfolding command_length
length_more s u h = ap from_le (part_more length_at 2 s u (omega arith))

-- the record at the start of s is that at the start of s ++ u
pub record_more : (n : ℕ) (s u : List ℕ) → command_at + n ≤ length s → record_of n (s ++ u) ≡ record_of n s
unfolding record_of
record_more n s u h = rw (part_more clock_at 8 s u (omega arith), part_more command_at n s u h)

-- a head that can be told
unfoldable pub told : Head → Bool
told skip = true
told (whole n) = true
told wait = false

short : (k : ℕ) (s u : List ℕ) → ltb (length s) k ≡ false → ltb (length (s ++ u)) k ≡ false
short k s u h = le-ltb (length (s ++ u)) k (rw (length-append s u) (omega (arith, ltb-false (length s) k h)))

-- the tests of head_of by their order: where the length of the command is known, after the mark, after the first byte
unfoldable pub last_tests : ℕ → ℕ → Head
last_tests size n = cond (ltb n 1 || ltb command_most n) skip (cond (ltb size (command_at + n)) wait (whole n))

unfoldable pub after_mark : List ℕ → Head
after_mark s = cond (ltb (length s) command_at) wait (last_tests (length s) (command_length s))

unfoldable pub after_first : List ℕ → Head
after_first s = cond (not (eqb (get_or s 1 0) second_mark)) skip (after_mark s)

-- a head that can be told stays as it is
module _ (s u : List ℕ) where
  last_more : (n : ℕ) → told (last_tests (length s) n) ≡ true → last_tests (length (s ++ u)) n ≡ last_tests (length s) n
  unfolding last_tests told
  last_more n = go (ltb n 1 || ltb command_most n) (ltb (length s) (command_at + n)) refl
    where
      go : (e f : Bool) → ltb (length s) (command_at + n) ≡ f → told (cond e skip (cond f wait (whole n))) ≡ true
          → cond e skip (cond (ltb (length (s ++ u)) (command_at + n)) wait (whole n)) ≡ cond e skip (cond f wait (whole n))
      go true f p h = refl
      go false true p h = absurd (false≢true h)
      go false false p h = rw (short (command_at + n) s u p)

  mark_more : told (after_mark s) ≡ true → after_mark (s ++ u) ≡ after_mark s
  unfolding after_mark told
  mark_more = go (ltb (length s) command_at) refl
    where
      go : (d : Bool) → ltb (length s) command_at ≡ d → told (cond d wait (last_tests (length s) (command_length s))) ≡ true
          → cond (ltb (length (s ++ u)) command_at) wait (last_tests (length (s ++ u)) (command_length (s ++ u)))
          ≡ cond d wait (last_tests (length s) (command_length s))
      go true p h = absurd (false≢true h)
      go false p h =
          rw (short command_at s u p, length_more s u (ltb-false (length s) command_at p)) (last_more (command_length s) h)

  second_more : 1 < length s → told (after_first s) ≡ true → after_first (s ++ u) ≡ after_first s
  unfolding after_first told
  second_more l = rw (get_or-append s u 0 1 l) (go (not (eqb (get_or s 1 0) second_mark)))
    where
      go : (c : Bool) → told (cond c skip (after_mark s)) ≡ true → cond c skip (after_mark (s ++ u)) ≡ cond c skip (after_mark s)
      go true h = refl
      go false h = mark_more h

  pub head_more : 1 ≤ length s → told (head_of s) ≡ true → head_of (s ++ u) ≡ head_of s
  unfolding head_of told after_first after_mark last_tests
  head_more l = rw (get_or-append s u 0 0 l) (go (not (eqb (get_or s 0 0) first_mark)) (ltb (length s) 2) refl)
    where
      go : (a b : Bool) → ltb (length s) 2 ≡ b → told (cond a skip (cond b wait (after_first s))) ≡ true
          → cond a skip (cond (ltb (length (s ++ u)) 2) wait (after_first (s ++ u))) ≡ cond a skip (cond b wait (after_first s))
      go true b p h = refl
      go false true p h = absurd (false≢true h)
      go false false p h = rw (short 2 s u p) (second_more (ltb-false (length s) 2 p) h)

-- ---- which heads there are

module _ (P : Head → Type 0) (s : List ℕ)
    (skips : P skip)
    (waits : length s < record_most → P wait)
    (wholes : command_at + command_length s ≤ length s → command_length s ≤ command_most → P (whole (command_length s))) where
  last_cases : (n : ℕ) → n ≡ command_length s → P (last_tests (length s) n)
  unfolding last_tests
  last_cases n e = go (ltb n 1 || ltb command_most n) (ltb (length s) (command_at + n)) refl refl
    where
      go : (x f : Bool) → ltb n 1 || ltb command_most n ≡ x → ltb (length s) (command_at + n) ≡ f → P (cond x skip (cond f wait (whole n)))
      go true f p q = skips
      go false true p q =
          waits (omega (arith, ltb-true (length s) (command_at + n) q, ltb-false command_most n (or_right (ltb n 1) (ltb command_most n) p)))
      go false false p q =
          rw e (wholes (rw e at (ltb-false (length s) (command_at + n) q)) (rw e at (ltb-false command_most n (or_right (ltb n 1) (ltb command_most n) p))))

  mark_cases : P (after_mark s)
  unfolding after_mark
  mark_cases = go (ltb (length s) command_at) refl
    where
      go : (d : Bool) → ltb (length s) command_at ≡ d → P (cond d wait (last_tests (length s) (command_length s)))
      go true p = waits (omega (arith, ltb-true (length s) command_at p))
      go false p = last_cases (command_length s) refl

  -- a head is one to skip, waits for want of bytes, or is a record that lies whole in s
  pub head_cases : P (head_of s)
  unfolding head_of after_first after_mark last_tests
  head_cases = go (not (eqb (get_or s 0 0) first_mark)) (ltb (length s) 2) refl (not (eqb (get_or s 1 0) second_mark))
    where
      go : (a b : Bool) → ltb (length s) 2 ≡ b → (c : Bool) → P (cond a skip (cond b wait (cond c skip (after_mark s))))
      go true b p c = skips
      go false true p c = waits (omega (arith, ltb-true (length s) 2 p))
      go false false p true = skips
      go false false p false = mark_cases

-- the same as a view of the head
pub data Told (s : List ℕ) : Head → Type 0 where
  skips : Told s skip
  waits : length s < record_most → Told s wait
  wholes : {n : ℕ} → command_at + n ≤ length s → n ≤ command_most → Told s (whole n)

head_told : (s : List ℕ) (h : Head) → head_of s ≡ h → Told s h
head_told s h e = rw e at (head_cases (λ k. Told s k) s skips waits wholes)

-- a whole record lies in s
pub whole_fits : (s : List ℕ) (n : ℕ) → head_of s ≡ whole n → command_at + n ≤ length s
whole_fits s n e = go (head_told s (whole n) e)
  where
    go : Told s (whole n) → command_at + n ≤ length s
    go (wholes l m) = l

-- its command is short
pub whole_most : (s : List ℕ) (n : ℕ) → head_of s ≡ whole n → n ≤ command_most
whole_most s n e = go (head_told s (whole n) e)
  where
    go : Told s (whole n) → n ≤ command_most
    go (wholes l m) = m

-- what waits is short
pub wait_short : (s : List ℕ) → head_of s ≡ wait → length s < record_most
wait_short s e = go (head_told s wait e)
  where
    go : Told s wait → length s < record_most
    go (waits l) = l

-- ---- what fewer bytes do, where a whole head stands in them

-- the head of bytes that start with s, of so many in all
long : List ℕ → ℕ → Head
long s size =
    cond (not (eqb (get_or s 0 0) first_mark)) skip (cond (not (eqb (get_or s 1 0) second_mark)) skip (last_tests size (command_length s)))

head_long : (s u : List ℕ) → command_at ≤ length s → head_of (s ++ u) ≡ long s (length (s ++ u))
unfolding head_of long last_tests
head_long s u l =
    let size : command_at ≤ length (s ++ u) = rw (length-append s u) (omega arith) in
    let zeroth : 0 < length s = omega arith in
    let first : 1 < length s = omega arith in
    rw (
      get_or-append s u 0 0 zeroth,
      get_or-append s u 0 1 first,
      length_more s u l,
      le-ltb (length (s ++ u)) 2 (omega arith),
      le-ltb (length (s ++ u)) command_at size,
    )

head_itself : (s : List ℕ) → command_at ≤ length s → head_of s ≡ long s (length s)
head_itself s l = rw append-nil at (head_long s [] l)

-- a byte to skip among more bytes is one to skip
pub skip_fewer : (s u : List ℕ) → command_at ≤ length s → head_of (s ++ u) ≡ skip → head_of s ≡ skip
unfolding long last_tests
skip_fewer s u l h = rw (head_itself s l)
    (go (not (eqb (get_or s 0 0) first_mark)) (not (eqb (get_or s 1 0) second_mark)) (ltb (command_length s) 1 || ltb command_most (command_length s))
    (ltb (length (s ++ u)) (command_at + command_length s)) (rw (head_long s u l) at h))
  where
    go : (a c e f : Bool) → cond a skip (cond c skip (cond e skip (cond f wait (whole (command_length s))))) ≡ skip
        → cond a skip (cond c skip (cond e skip (cond (ltb (length s) (command_at + command_length s)) wait (whole (command_length s))))) ≡ skip
    go true c e f p = refl
    go false true e f p = refl
    go false false true f p = refl
    go false false false true p = cc
    go false false false false p = cc

-- a record among more bytes is one if it lies whole in fewer
pub whole_fewer : (n : ℕ) (s u : List ℕ) → command_at + n ≤ length s → head_of (s ++ u) ≡ whole n → head_of s ≡ whole n
unfolding long last_tests
whole_fewer n s u l h = rw (head_itself s (omega arith))
    (go (not (eqb (get_or s 0 0) first_mark)) (not (eqb (get_or s 1 0) second_mark)) (ltb (command_length s) 1 || ltb command_most (command_length s))
    (ltb (length (s ++ u)) (command_at + command_length s)) (rw (head_long s u (omega arith)) at h))
  where
    go : (a c e f : Bool) → cond a skip (cond c skip (cond e skip (cond f wait (whole (command_length s))))) ≡ whole n
        → cond a skip (cond c skip (cond e skip (cond (ltb (length s) (command_at + command_length s)) wait (whole (command_length s))))) ≡ whole n
    go true c e f p = cc
    go false true e f p = cc
    go false false true f p = cc
    go false false false true p = cc
    go false false false false p =
        let z : command_length s ≡ n = cc in
        rw (le-ltb (length s) (command_at + command_length s) (rw z l)) p
