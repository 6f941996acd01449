-- States that feeding leaves: their bytes are none, or start with what waits.
use mathlib.Core.Path.{◌≡◌, refl, sym, ap, ◌∙◌}
use mathlib.Core.Logic.{◌↔◌}
use mathlib.Core.Bool.{Bool, true, false, false≢true, ◌&&◌}
use mathlib.Core.List.{List, [], ◌∷◌, ◌++◌, append-nil}
use Prim.Native.Nat.{ℕ, ◌+◌, ◌-◌, ◌≤◌, ◌<◌}
use native.Mathlib.Omega.{arith}
use lib.Dec.{leb, eqb}
use lib.Pow.{are_bytes}
use lib.ListN.{length, take, drop, length-drop}
use lib.Seq.{take_all, length-take-le}
use borrow.Author.Tests.{eqb-true, leb-true, eq-eqb, le-leb, lt-leb}
use Rattle.wire.specs.Lists.{every}
use Rattle.wire.specs.Bytes.{Bytes, all_zero, padded, same}
use Rattle.wire.proofs.ByteLaws.{bytes_take, bytes_padded, length_padded, padded_is, take_padded, drop_padded, same_refl, same_true, zero_replicate}
use Rattle.wire.proofs.Lists.{every_at, impossible}
use Rattle.wire.proofs.ByteLoops.{not_same}
use Rattle.feeder.specs.declared.Feeder.{Feeder}
use Rattle.feeder.specs.declared.record.Head as codes
use Rattle.feeder.specs.declared.record.Head.TheVariants as heads
use Rattle.feeder.specs.Record.{Head, head_of, command_at}
use Rattle.feeder.specs.Record.Head.{skip, whole, wait}
use Rattle.feeder.specs.Stream.{ended, divided_at, divide_after, divide}
use Rattle.feeder.specs.State.{waiting_most, state_of, waiting_in, is_left}
use Rattle.feeder.specs.Promises.{head_for}
use Rattle.feeder.proofs.RecordHead.{told}
use Rattle.feeder.proofs.StreamDivide.{rest_is, all_wait, rest_waits, rest_short, rest_bytes}

-- ---- a state made of bytes

-- the waiting bytes of a state are those that it was made of
pub waiting_back : (s : List ℕ) → waiting_in (state_of s) ≡ s
unfolding waiting_in state_of
waiting_back s = take_padded waiting_most s

-- what waits after a stream is a state that feeding leaves
pub rest_left : (s : List ℕ) → Bytes s → is_left (state_of (divide s).rest) ≡ true
unfolding is_left every state_of
rest_left s bs =
    let r : List ℕ = (divide s).rest in
    let short : length r ≤ waiting_most = rest_short s in
    rw (
      bytes_padded waiting_most r (rest_bytes s bs),
      eq-eqb (length (padded waiting_most r)) waiting_most (length_padded waiting_most r short),
      le-leb (length r) waiting_most short,
      waiting_back r,
      rest_waits s,
      same_refl r,
      drop_padded waiting_most r,
      zero_replicate (waiting_most - length r),
    )

-- ---- whether bytes all wait

pub none_waits : (s : List ℕ) → length s ≡ 0 → true ≡ same (divide s).rest s
unfolding divide divide_after same
none_waits [] e = refl
none_waits (b ∷ s) e = impossible (omega arith)

-- past its first byte a stream has a rest of fewer bytes
rest_fewer : (k : ℕ) (s : List ℕ) → length (divide_after k s).rest ≤ length s
rest_fewer k s = rest_is (λ r. length r ≤ length s) (omega arith) k s (λ i h. rw length-drop (omega arith))

told_not_all : (b : ℕ) (s : List ℕ) (k : ℕ) → same (divide_after k s).rest (b ∷ s) ≡ false
told_not_all b s k = not_same (divide_after k s).rest (b ∷ s) (λ e. omega (arith, ap length e, rest_fewer k s))

tells : (s : List ℕ) → (length s ≡ 0 → ⊥) → told (head_of s) ≡ true → false ≡ same (divide s).rest s
unfolding told divide divide_after divided_at
tells [] some e = absurd (some refl)
tells (b ∷ s) some e = go (head_of (b ∷ s)) e
  where
    go : (h : Head) → told h ≡ true → false ≡ same (divided_at h (b ∷ s) (λ k. divide_after k s)).rest (b ∷ s)
    go skip e = sym (told_not_all b s 0)
    go (whole n) e = sym (told_not_all b s (command_at - 1 + n))
    go wait e = absurd (false≢true e)

module _ (s : List ℕ) (some : length s ≡ 0 → ⊥) where
  pub head_waits : heads.Wait ≡ head_for (head_of (drop 0 (s ++ []))) → true ≡ same (divide s).rest s
  unfolding head_for
  head_waits e = go (head_of s) refl (rw append-nil at e)
    where
      go : (h : Head) → head_of s ≡ h → heads.Wait ≡ head_for h → true ≡ same (divide s).rest s
      go skip q e = cc
      go (whole n) q e = cc
      go wait q e = rw (all_wait s q) (sym (same_refl s))

  pub head_tells : {k : codes.Head} → (k ≡ heads.Wait → ⊥) → k ≡ head_for (head_of (drop 0 (s ++ []))) → false ≡ same (divide s).rest s
  unfolding head_for told
  head_tells {k} other e = tells s some (go (head_of s) (rw append-nil at e))
    where
      go : (h : Head) → k ≡ head_for h → told h ≡ true
      go skip e = refl
      go (whole n) e = refl
      go wait e = absurd (other e)

-- ---- whether feeding leaves a state

-- the part of a slice from a place to its end
pub tail_part : (n : ℕ) (s : List ℕ) → take (length s - n) (drop n s) ≡ drop n s
tail_part n s = take_all (length s - n) (drop n s) (rw length-drop (omega arith))

module _ (s : List ℕ) (n : ℕ) where
  pub left_many : waiting_most < n → false ≡ is_left (record { waiting = s; count = n })
  unfolding is_left every
  left_many l = rw (lt-leb n waiting_most l) (go (are_bytes s) (eqb (length s) waiting_most))
    where
      go : (a b : Bool) → false ≡ a && (b && false)
      go true true = refl
      go true false = refl
      go false b = refl

  module _ (bytes : Bytes s) (size : length s ≡ waiting_most) (few : n ≤ waiting_most) where
    tests : is_left (record { waiting = s; count = n }) ≡ same (divide (take n s)).rest (take n s) && (all_zero (drop n s) && true)
    unfolding is_left every waiting_in
    tests = rw (bytes, eq-eqb (length s) waiting_most size, le-leb n waiting_most few)

    clean_tail : {z : Bool} → z ≡ all_zero (take (waiting_most - n) (drop n s)) → z ≡ all_zero (drop n s)
    clean_tail e = e ∙ ap all_zero (rw (← size) (tail_part n s))

    pub left_dirty : false ≡ all_zero (take (waiting_most - n) (drop n s)) → false ≡ is_left (record { waiting = s; count = n })
    left_dirty e = rw (tests, ← clean_tail e) (go (same (divide (take n s)).rest (take n s)))
      where
        go : (a : Bool) → false ≡ a && false
        go true = refl
        go false = refl

    pub left_clean : true ≡ all_zero (take (waiting_most - n) (drop n s)) → {r : Bool} → r ≡ same (divide (take n s)).rest (take n s)
        → r ≡ is_left (record { waiting = s; count = n })
    left_clean e all = rw (tests, ← clean_tail e) (all ∙ go (same (divide (take n s)).rest (take n s)))
      where
        go : (a : Bool) → a ≡ a && true
        go true = refl
        go false = refl

abbrev tests_of : Feeder → List Bool
tests_of f =
    are_bytes f.waiting
    ∷ eqb (length f.waiting) waiting_most
    ∷ leb f.count waiting_most
    ∷ same (divide (waiting_in f)).rest (waiting_in f)
    ∷ all_zero (drop f.count f.waiting)
    ∷ []

-- what is known of a state that feeding leaves
pub record LeftState (f : Feeder) : Type 0 where
  pub size : length f.waiting ≡ waiting_most
  pub few : f.count ≤ waiting_most
  pub count : length (take f.count f.waiting) ≡ f.count
  pub waits : divide (waiting_in f) ≡ ended (waiting_in f)
  pub zeros : all_zero (drop f.count f.waiting) ≡ true

pub left_state : (f : Feeder) → is_left f ≡ true → LeftState f
unfolding is_left
left_state f h =
    let size : length f.waiting ≡ waiting_most = eqb-true (length f.waiting) waiting_most (every_at (tests_of f) h 1) in
    let few : f.count ≤ waiting_most = leb-true f.count waiting_most (every_at (tests_of f) h 2) in
    let all : (divide (waiting_in f)).rest ≡ waiting_in f = same_true (divide (waiting_in f)).rest (waiting_in f) (every_at (tests_of f) h 3) in
    record {
      size = size;
      few = few;
      count = length-take-le f.count f.waiting (omega arith);
      waits = rw all at (rest_waits (waiting_in f));
      zeros = every_at (tests_of f) h 4;
    }

-- a state that feeding leaves is made of its waiting bytes
state_back : (f : Feeder) → LeftState f → f ≡ state_of (waiting_in f)
unfolding state_of waiting_in
state_back f l = λ i. record {
  waiting = sym (padded_is waiting_most f.count f.waiting l.size l.few l.zeros) i;
  count = sym l.count i;
}

-- the states that feeding leaves are those of what waits after some bytes
pub left_exactly : (f : Feeder) → (is_left f ≡ true) ↔ ((s : List ℕ) × Bytes s × (f ≡ state_of (divide s).rest))
left_exactly f = (go, back)
  where
    go : is_left f ≡ true → (s : List ℕ) × Bytes s × (f ≡ state_of (divide s).rest)
    go h =
        let l : LeftState f = left_state f h in
        (waiting_in f, bytes h, rw l.waits (state_back f l))
      where
        bytes : is_left f ≡ true → Bytes (waiting_in f)
        bytes h = unfold is_left waiting_in in bytes_take f.count f.waiting (every_at (tests_of f) h 0)

    back : (s : List ℕ) × Bytes s × (f ≡ state_of (divide s).rest) → is_left f ≡ true
    back e = rw e.2 (rest_left e.0 e.1)
