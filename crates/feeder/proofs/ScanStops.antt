-- Where reading stops: from a byte to skip on it stops where it stops from the next.
use Rattle.std.specs.Prelude.{Option, None, Some}
use mathlib.Core.Path.{◌≡◌, refl, sym, ap, ◌∙◌}
use mathlib.Core.Bool.{Bool, true, false, cond, not, false≢true}
use mathlib.Core.List.{List, ◌∷◌, ◌++◌}
use Prim.Native.Nat.{ℕ, zero, suc, ◌+◌, ◌-◌, ◌≤◌, ◌<◌}
use native.Mathlib.Nat.{add-zero, zero-add}
use native.Mathlib.Numerals.{add-one}
use native.Mathlib.Omega.{arith}
use lib.Dec.{eqb, ltb}
use Rattle.std.specs.List.{prefix_len, position, position_or_len}
use Rattle.std.specs.Prelude.{◌==◌, nat_lt, unwrap_or}
use Rattle.std.proofs.lemmas.List.Sums.{prefix_len-le-length, prefix_len_passes}
use lib.ListN.{length, take, drop, get_or, length-append, length-take, length-drop, drop_of_length-le}
use lib.Seq.{drop-cons, get_or-take, get_or-drop}
use borrow.Author.Tests.{ltb-true, ltb-false, le-ltb, ne_eqb, eqb-true}
use Rattle.wire.specs.Lists.{or_else}
use Rattle.feeder.specs.declared.record.Head.TheVariants as heads
use Rattle.feeder.specs.declared.scan.Stop.{Stop}
use Rattle.feeder.specs.declared.scan.Stop.TheVariants as stops
use Rattle.feeder.specs.Record.{Head, head_of, first_mark, second_mark}
use Rattle.feeder.specs.Record.Head.{skip, whole, wait}
use Rattle.feeder.specs.Stream.{divided_at, divide_after, divide}
use Rattle.feeder.specs.Absorb.{Place, placed_at, first_record}
use Rattle.feeder.proofs.RecordTests.{byte_after}
use Rattle.feeder.specs.Promises.{head_for, block_size, stop_of, later_by, stop_from, NoPair, UnmarkedPairs, Unmarked, UnmarkedUpTo, NextPlace}

-- ---- one byte at a time

unfoldable stopped_at : Head → Stop → Stop
stopped_at skip more = later_by 1 more
stopped_at (whole n) more = stops.Record 0 n
stopped_at wait more = stops.Rest 0

stop_cons : (b : ℕ) (s : List ℕ) → stop_of (b ∷ s) ≡ stopped_at (head_of (b ∷ s)) (stop_of s)
unfolding stop_of stopped_at later_by or_else first_record placed_at divide divide_after divided_at
stop_cons b s = go (head_of (b ∷ s)) (first_record s)
  where
    go : (h : Head) (m : Option Place)
        → or_else (placed_at h m) (stops.Rest (divided_at h (b ∷ s) (λ k. divide_after k s)).skipped) (λ p. stops.Record p.at p.size)
        ≡ stopped_at h (or_else m (stops.Rest (divide_after 0 s).skipped) (λ p. stops.Record p.at p.size))
    go skip None = ap stops.Rest (omega arith)
    go skip (Some p) = ap (λ (n : ℕ). stops.Record n p.size) (omega arith)
    go (whole n) None = refl
    go (whole n) (Some p) = refl
    go wait None = refl
    go wait (Some p) = refl

module _ (s : List ℕ) (k : ℕ) where
  stop_step : k < length s → stop_from k s ≡ later_by k (stopped_at (head_of (drop k s)) (stop_of (drop (suc k) s)))
  unfolding stop_from
  stop_step l = rw (drop-cons s k 0 l) (ap (later_by k) (stop_cons (get_or s k 0) (drop (suc k) s)))

  later_later : (m : Stop) → later_by k (later_by 1 m) ≡ later_by (k + 1) m
  unfolding later_by
  later_later (stops.Record at n) = ap (λ (i : ℕ). stops.Record i n) (omega arith)
  later_later (stops.Rest at) = ap stops.Rest (omega arith)

  stop_on : k < length s → head_of (drop k s) ≡ skip → stop_from k s ≡ stop_from (k + 1) s
  unfolding stopped_at stop_from
  stop_on l h = stop_step l ∙ rw (h, later_later, add-one)

  -- at a record and at bytes that wait reading stops
  pub stop_whole : (n : ℕ) → k < length s → heads.Whole n ≡ head_for (head_of (drop k s)) → stops.Record k n ≡ stop_from k s
  unfolding stopped_at head_for later_by
  stop_whole n l e = sym (stop_step l ∙ go (head_of (drop k s)) e)
    where
      go : (h : Head) → heads.Whole n ≡ head_for h → later_by k (stopped_at h (stop_of (drop (suc k) s))) ≡ stops.Record k n
      go skip e = cc
      go (whole m) e =
          let same : n ≡ m = cc in
          rw (same, add-zero)
      go wait e = cc

  pub stop_wait : k < length s → heads.Wait ≡ head_for (head_of (drop k s)) → stops.Rest k ≡ stop_from k s
  unfolding stopped_at head_for later_by
  stop_wait l e = sym (stop_step l ∙ go (head_of (drop k s)) e)
    where
      go : (h : Head) → heads.Wait ≡ head_for h → later_by k (stopped_at h (stop_of (drop (suc k) s))) ≡ stops.Rest k
      go skip e = cc
      go (whole m) e = cc
      go wait e = rw add-zero

  pub stop_skip : k < length s → heads.Skip ≡ head_for (head_of (drop k s)) → stop_from k s ≡ stop_from (k + 1) s
  unfolding head_for
  stop_skip l e = go (head_of (drop k s)) refl e
    where
      go : (h : Head) → head_of (drop k s) ≡ h → heads.Skip ≡ head_for h → stop_from k s ≡ stop_from (k + 1) s
      go skip q e = stop_on l q
      go (whole m) q e = cc
      go wait q e = cc

  -- past the last byte nothing is left, and nothing waits
  pub stop_end : length s ≤ k → stops.Rest k ≡ stop_from k s
  unfolding stop_from later_by stop_of or_else first_record divide divide_after
  stop_end l = rw (drop_of_length-le s {i = k} l, add-zero)

-- reading from the start on
pub stop_begins : (s : List ℕ) → stop_from 0 s ≡ stop_of s
unfolding stop_from later_by
stop_begins s = go (stop_of s)
  where
    go : (m : Stop) → later_by 0 m ≡ m
    go (stops.Record at n) = rw zero-add
    go (stops.Rest at) = rw zero-add

-- what a stop says
data Stopped (s : List ℕ) : Stop → Type 0 where
  at_record : {at n : ℕ} → first_record s ≡ Some (record { at = at; size = n }) → Stopped s (stops.Record at n)
  at_rest : {k : ℕ} → first_record s ≡ None → (divide s).skipped ≡ k → Stopped s (stops.Rest k)

stop_says : (s : List ℕ) (m : Stop) → m ≡ stop_of s → Stopped s m
unfolding stop_of or_else
stop_says s m e = rw e (go (first_record s) refl)
  where
    go : (f : Option Place) → first_record s ≡ f → Stopped s (or_else f (stops.Rest (divide s).skipped) (λ p. stops.Record p.at p.size))
    go None q = at_rest q refl
    go (Some p) q = at_record q

pub stop_record : (s : List ℕ) (at n : ℕ) → stops.Record at n ≡ stop_of s → first_record s ≡ Some (record { at = at; size = n })
stop_record s at n e = go (stop_says s (stops.Record at n) e)
  where
    go : Stopped s (stops.Record at n) → first_record s ≡ Some (record { at = at; size = n })
    go (at_record q) = q

pub stop_rest : (s : List ℕ) (at : ℕ) → stops.Rest at ≡ stop_of s → (first_record s ≡ None) × ((divide s).skipped ≡ at)
stop_rest s at e = go (stop_says s (stops.Rest at) e)
  where
    go : Stopped s (stops.Rest at) → (first_record s ≡ None) × ((divide s).skipped ≡ at)
    go (at_rest q k) = (q, k)

-- ---- many bytes at a time

-- where no mark begins a byte is skipped
unmarked_skips : (s : List ℕ) (k : ℕ) → Unmarked s k → head_of (drop k s) ≡ skip
unfolding head_of
unmarked_skips s k h = rw (get_or-drop k s 0 0, get_or-drop k s 1 0, add-zero) (go (eqb (get_or s k 0) first_mark) refl _)
  where
    go : (t : Bool) → eqb (get_or s k 0) first_mark ≡ t → (after : Head)
        → cond (not t) skip (cond (ltb (length (drop k s)) 2) wait (cond (not (eqb (get_or s (k + 1) 0) second_mark)) skip after)) ≡ skip
    go false q after = refl
    go true q after =
        let (more, other) = h (eqb-true (get_or s k 0) first_mark q) in
        let l : 2 ≤ length (drop k s) = rw length-drop (omega (arith, more)) in
        rw (le-ltb (length (drop k s)) 2 l, ne_eqb (get_or s (k + 1) 0) second_mark other)

pass_over : (s : List ℕ) (k n : ℕ) → k + n ≤ length s → ((i : ℕ) → k ≤ i → i < k + n → Unmarked s i) → stop_from k s ≡ stop_from (k + n) s
pass_over s k zero l h = rw add-zero
pass_over s k (suc n) l h =
    stop_on s k (omega arith) (unmarked_skips s k (h k (omega arith) (omega arith)))
    ∙ pass_over s (k + 1) n (omega arith) (λ i a b. h i (omega arith) (omega arith))
    ∙ ap (λ (i : ℕ). stop_from i s) (omega arith)

-- the place of the first byte that passes a test, or the end
place_or_end : (p : ℕ → Bool) (s : List ℕ) → unwrap_or (position p s) (length s) ≡ position_or_len p s
place_or_end p s = go (nat_lt (position_or_len p s) (length s)) refl
  where
    go : (t : Bool) → nat_lt (position_or_len p s) (length s) ≡ t
        → unwrap_or (cond t (Some (position_or_len p s)) None) (length s) ≡ position_or_len p s
    go true q = refl
    go false q = omega (arith, ltb-false (position_or_len p s) (length s) q, prefix_len-le-length (λ b. not (p b)) s)

pub pass_others : (s : List ℕ) (from : ℕ) → from ≤ length s → {o : Option ℕ} {n : ℕ}
    → o ≡ position (λ b. b == first_mark) (take (length s - from) (drop from s)) → n ≡ unwrap_or o (length s - from)
    → UnmarkedUpTo s from (from + n)
pass_others s from l {n = n} q r =
    record {
      ahead = omega arith;
      inside = omega (arith, e, long);
      unmarked = λ i a b m. absurd (false≢true (other (i - from) i (omega arith) (omega (arith, e)) m));
    }
  where
    rest : List ℕ
    rest = take (length s - from) (drop from s)

    size : length rest ≡ length s - from
    size = rw (length-take, length-drop) (omega arith)

    e : n ≡ position_or_len (λ b. b == first_mark) rest
    e = r ∙ rw q (ap (λ (k : ℕ). unwrap_or (position (λ b. b == first_mark) rest) k) (sym size)) ∙ place_or_end (λ b. b == first_mark) rest

    long : prefix_len (λ b. not (eqb b first_mark)) rest ≤ length s - from
    long = omega (arith, prefix_len-le-length (λ b. not (eqb b first_mark)) rest, length-take (length s - from) (drop from s))

    other : (k i : ℕ) → from + k ≡ i → k < prefix_len (λ b. not (eqb b first_mark)) rest → get_or s i 0 ≡ first_mark → false ≡ true
    other k i at b m =
        let this : get_or rest k 0 ≡ first_mark = get_or-take (length s - from) (drop from s) k 0 (omega (arith, long)) ∙ get_or-drop from s k 0 ∙ rw at m in
        rw this at (prefix_len_passes (λ b. not (eqb b first_mark)) rest k 0 b)

-- bytes passed after others
pub pass_on : (s : List ℕ) (from i r : ℕ) → UnmarkedUpTo s from i → UnmarkedUpTo s i r → UnmarkedUpTo s from r
pass_on s from i r f g =
    record { ahead = omega (arith, f.ahead, g.ahead); inside = g.inside; unmarked = λ j a b. go j a b (ltb j i) refl }
  where
    go : (j : ℕ) → from ≤ j → j < r → (t : Bool) → ltb j i ≡ t → Unmarked s j
    go j a b true q = f.unmarked j a (ltb-true j i q)
    go j a b false q = g.unmarked j (ltb-false j i q) b

-- a byte of a part
part_byte : (s : List ℕ) (a e i : ℕ) → a + i < e → get_or (take (e - a) (drop a s)) i 0 ≡ get_or s (a + i) 0
part_byte s a e i l =
    let near : i < e - a = omega arith in
    get_or-take (e - a) (drop a s) i 0 near ∙ get_or-drop a s i 0

-- bytes passed in blocks
pub pass_block : (s : List ℕ) (from i : ℕ) → UnmarkedUpTo s from i → block_size < length s - i
    → UnmarkedPairs (take (i + block_size - i) (drop i s)) (take (i + block_size + 1 - (i + 1)) (drop (i + 1) s)) → UnmarkedUpTo s from (i + block_size)
pass_block s from i f l h =
    pass_on s from i (i + block_size) f (record { ahead = omega arith; inside = omega arith; unmarked = λ j a b. go (j - i) j (omega arith) b })
  where
    go : (k j : ℕ) → i + k ≡ j → j < i + block_size → Unmarked s j
    go k j e b =
        let near : i + k < i + block_size = omega arith in
        let next : i + 1 + k < i + block_size + 1 = omega arith in
        let after : i + 1 + k ≡ j + 1 = omega arith in
        λ m. (
          omega arith,
          λ n.
              h k (part_byte s i (i + block_size) k near ∙ ap (λ (x : ℕ). get_or s x 0) e ∙ m)
              (part_byte s (i + 1) (i + block_size + 1) k next ∙ ap (λ (x : ℕ). get_or s x 0) after ∙ n),
        )

-- bytes looked at: where no mark was seen yet, none begins before i
pub record Looking (s next : List ℕ) (clear : Bool) (i : ℕ) : Type 0 where
  pub inside : i ≤ length s
  pub unmarked : clear ≡ true → (k : ℕ) → k < i → NoPair s next k

-- the next place in the piece is its next mark
pub next_marked : (w p : List ℕ) (at r : ℕ) → length w ≤ at + 1 → UnmarkedUpTo p (at + 1 - length w) r → NextPlace (w ++ p) at (length w + r)
next_marked w p at r l f =
    record { ahead = omega (arith, f.ahead); inside = rw length-append (omega (arith, f.inside)); stops_there = passes }
  where
    unmarked : (i : ℕ) → at + 1 ≤ i → i < at + 1 + (length w + r - (at + 1)) → Unmarked (w ++ p) i
    unmarked i a b h =
        let u : Unmarked p (i - length w) = f.unmarked (i - length w) (omega arith) (omega (arith, f.ahead)) in
        let (more, other) = u (byte_after w p i (omega arith) ∙ h) in
        let after : i - length w + 1 ≡ i + 1 - length w = omega arith in
        (rw length-append (omega (arith, more)), λ n. other (ap (λ (x : ℕ). get_or p x 0) after ∙ byte_after w p (i + 1) (omega arith) ∙ n))

    passes : stop_from (at + 1) (w ++ p) ≡ stop_from (length w + r) (w ++ p)
    passes =
        pass_over (w ++ p) (at + 1) (length w + r - (at + 1)) (rw length-append (omega (arith, f.ahead, f.inside))) unmarked
        ∙ ap (λ (i : ℕ). stop_from i (w ++ p)) (omega (arith, f.ahead))

-- ---- reading has come to a place

pub record Scanning (s : List ℕ) (at : ℕ) : Type 0 where
  pub inside : at ≤ length s
  pub rest : stop_from at s ≡ stop_of s

pub scan_begins : (s : List ℕ) → Scanning s 0
scan_begins s = record { inside = omega arith; rest = stop_begins s }

module _ (s : List ℕ) (at : ℕ) (f : Scanning s at) {n : ℕ} (all : n ≡ length s) where
  pub scan_ends : n ≤ at → stops.Rest n ≡ stop_of s
  scan_ends l =
      let e : n ≡ at = omega (arith, all, f.inside) in
      rw e (stop_end s at (omega arith) ∙ f.rest)

  module _ (more : at < n) where
    here : at < length s
    here = omega arith

    pub scan_whole : (size : ℕ) → heads.Whole size ≡ head_for (head_of (drop at s)) → stops.Record at size ≡ stop_of s
    scan_whole size e = stop_whole s at size here e ∙ f.rest

    pub scan_waits : heads.Wait ≡ head_for (head_of (drop at s)) → stops.Rest at ≡ stop_of s
    scan_waits e = stop_wait s at here e ∙ f.rest

    pub scan_goes_on : (r : ℕ) → heads.Skip ≡ head_for (head_of (drop at s)) → NextPlace s at r → Scanning s r
    scan_goes_on r e n = record { inside = n.inside; rest = sym (stop_skip s at here e ∙ n.stops_there) ∙ f.rest }

pub ruleset tells_stop = (scan_begins, scan_whole, scan_waits, scan_goes_on, scan_ends)
