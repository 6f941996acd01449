-- Bytes taken: what is joined of the waiting bytes and a piece, the record done, what waits, and what a call comes to.
use Rattle.std.specs.Prelude.{None, Some}
use Rattle.std.specs.Prelude.{Ok}
use mathlib.Core.Path.{◌≡◌, refl, sym, ap, ◌∙◌}
use mathlib.Core.Bool.{true}
use mathlib.Core.List.{List, ◌++◌}
use Prim.Native.Nat.{ℕ, ◌+◌, ◌-◌, ◌≤◌, ◌<◌}
use native.Mathlib.Nat.{sub-zero}
use native.Mathlib.Omega.{arith}
use lib.ListN.{length, take, drop, replicate, length-append, length-drop, length-take, length-replicate, replicate-append-replicate, take-append-drop}
use lib.Seq.{take_all, length-take-le, drop-append-le, drop-drop, take-append-add}
use borrow.Rule.Slice.PartMut.{put_mid}
use Rattle.wire.specs.Lists.{or_else}
use Rattle.wire.specs.Bytes.{all_zero, from_le, part, padded}
use Rattle.wire.specs.Replies.{laid_over}
use Rattle.wire.specs.Promises.{Laid}
use Rattle.wire.proofs.ByteLaws.{zero_is, zero_drop, zero_replicate}
use Rattle.wire.proofs.ReplyLaying.{laid_whole, laid_copied, laid_tail}
use Rattle.commands.specs.declared.Executed.{Executed}
use Rattle.commands.specs.Promises.{Replied}
use Rattle.commands.specs.Execute.{exec_bytes}
use Rattle.feeder.specs.declared.Feeder.{Feeder}
use Rattle.feeder.specs.declared.scan.Stop.TheVariants as stops
use Rattle.feeder.specs.Record.{record_of, clock_at, command_at}
use Rattle.feeder.specs.Stream.{divide}
use Rattle.feeder.specs.State.{waiting_most, state_of, fresh, waiting_in, is_left}
use Rattle.feeder.specs.Absorb.{used_most, first_record, offered, keeping, completing, absorb}
use Rattle.feeder.specs.Feed.{doing, answering}
use Rattle.feeder.specs.Promises.{stop_of, Completing, fed_for}
use Rattle.feeder.proofs.RecordHead.{part_more}
use Rattle.feeder.proofs.StreamDivide.{rest_short}
use Rattle.feeder.proofs.FirstRecord.{First, NoFirst, first_found, none_found, first_fits, first_most, none_rest, none_skipped}
use Rattle.feeder.proofs.OneAbsorbing.{beyond}
use Rattle.feeder.proofs.ScanStops.{stop_record, stop_rest}
use Rattle.feeder.proofs.StateLeft.{tail_part, left_state}

-- ---- the bytes of a piece that a call looks at

pub offer_all : (p : List ℕ) → length p ≤ used_most → p ≡ offered p
unfolding offered
offer_all p l = sym (take_all used_most p l)

pub offer_some : (p : List ℕ) → take used_most p ≡ offered p
unfolding offered
offer_some p = refl

offered_short : (p : List ℕ) → length (offered p) ≤ used_most
unfolding offered
offered_short p = rw (length-take used_most p) (omega arith)

-- ---- bytes laid from two lists

module _ (w p : List ℕ) (at : ℕ) where
  pub gather_early : (out t u : List ℕ) → at ≤ length w → t ≡ laid_over (take (length w - at) (drop at w)) out
      → u ≡ laid_over p (take (length t - (length w - at)) (drop (length w - at) t))
      → put_mid (length w - at) (length t - (length w - at)) t u ≡ laid_over (drop at (w ++ p)) out
  gather_early out t u l e f = rw (drop-append-le at w p l) (laid_tail first second).bytes
    where
      first : Laid (drop at w) out t (length w - at)
      first = record { bytes = e ∙ rw (tail_part at w); size = sym (length-drop at w) }

      second : Laid p (take (length t - (length w - at)) (drop (length w - at) t)) u (length p)
      second = laid_copied f

pub appended : (s p u : List ℕ) (n : ℕ) → n ≤ length s → u ≡ laid_over p (take (length s - n) (drop n s))
    → put_mid n (length s - n) s u ≡ laid_over (take n s ++ p) s
unfolding laid_over
appended s p u n l e = (laid_tail front back).bytes
  where
    front : Laid (take n s) s s n
    front =
        record {
          bytes = rw (length-take-le n s l) (sym (take-append-drop n s));
          size = sym (length-take-le n s l);
        }

    back : Laid p (take (length s - n) (drop n s)) u (length p)
    back = laid_copied e

-- ---- the record completed

-- what `execute` answers for the record at the start of bytes
module _ (size : ℕ) (s b : List ℕ) {clock : ℕ} {after buffer over : List ℕ} {r : Executed} where
  pub record_done : clock ≡ from_le (take 8 (drop clock_at s))
      → Replied (exec_bytes clock (take (command_at + size - command_at) (drop command_at s)) b) after buffer over r
      → Replied (doing (Some (record_of size s)) b) after buffer over r
  unfolding doing or_else record_of part
  record_done e h =
      let n : command_at + size - command_at ≡ size = omega arith in
      rw (e, n) at h

module _ (w p : List ℕ) (at size : ℕ) (c : Completing w p at size) where
  module _ (l : at < length w) where
    -- the record as it was sent
    abbrev sent : List ℕ
    sent = part at (command_at + size) (w ++ p)

    -- it is joined of both
    both : drop at (w ++ take (at + (command_at + size) - length w) p) ≡ sent
    unfolding part
    both =
        let n : command_at + size ≡ length (drop at w) + (at + (command_at + size) - length w) = rw length-drop (omega (arith, c.beyond)) in
        let low : at ≤ length w = omega arith in
        rw (drop-append-le at w (take (at + (command_at + size) - length w) p) low, drop-append-le at w p low)
        (sym (ap (λ (k : ℕ). take k (drop at w ++ p)) n ∙ take-append-add (drop at w) p (at + (command_at + size) - length w)))

    joins : length sent ≡ command_at + size
    unfolding part
    joins = length-take-le (command_at + size) (drop at (w ++ p)) (rw (length-drop, length-append) (omega (arith, c.inside)))

    -- a part of the record is that part of what was joined
    same_part : (j : List ℕ) (a n : ℕ) → a + n ≤ command_at + size → part a n (laid_over sent j) ≡ part a n (drop at (w ++ p))
    unfolding laid_over
    same_part j a n h =
        let fits : a + n ≤ length sent = omega (arith, joins) in
        part_more a n sent (drop (length sent) j) fits
        ∙ sym (part_more a n sent (drop (command_at + size) (drop at (w ++ p))) fits)
        ∙ ap (part a n) (unfold part in take-append-drop (command_at + size) (drop at (w ++ p)))

    same_record : (j : List ℕ) {t : List ℕ} → t ≡ laid_over (drop at (w ++ take (at + (command_at + size) - length w) p)) j
        → record_of size t ≡ record_of size (drop at (w ++ p))
    unfolding record_of
    same_record j e = rw (e, both, same_part j clock_at 8 (omega arith), same_part j command_at size (omega arith))

    pub joined_done : (j b : List ℕ) {t after buffer over : List ℕ} {r : Executed}
        → t ≡ laid_over (drop at (w ++ take (at + (command_at + size) - length w) p)) j
        → Replied (doing (Some (record_of size t)) b) after buffer over r
        → Replied (doing (Some (record_of size (drop at (w ++ p)))) b) after buffer over r
    joined_done j b e h = rw (← same_record j e) h

-- ---- what waits

-- bytes laid over zeros are as many as the places, or more
laid_long : (x w : List ℕ) → length w ≡ waiting_most → length w ≤ length (laid_over x (replicate waiting_most 0))
unfolding laid_over
laid_long x w n = rw (length-append, length-drop, length-replicate {A = ℕ} waiting_most 0) (omega arith)

-- bytes laid over places that are zero beyond them
laid_state : (x t : List ℕ) → length t ≡ waiting_most → all_zero (drop (length x) t) ≡ true
    → record { waiting = laid_over x t; count = length x } ≡ state_of x
unfolding laid_over state_of padded
laid_state x t n z =
    let m : length (drop (length x) t) ≡ waiting_most - length x = length-drop (length x) t ∙ ap (λ (k : ℕ). k - length x) n in
    rw (zero_is (drop (length x) t) z, m)

-- the bytes that waited are cleared
pub forgotten : (f : Feeder) → is_left f ≡ true → {u : List ℕ} → u ≡ replicate (length (take f.count f.waiting)) 0
    → record { waiting = u ++ drop f.count f.waiting; count = 0 } ≡ fresh
unfolding fresh state_of padded
forgotten f left e =
    let n : f.count + length (drop f.count f.waiting) ≡ waiting_most =
    rw (length-drop, (left_state f left).size) (omega (arith, (left_state f left).few))
    in
    rw (
      e,
      (left_state f left).count,
      zero_is (drop f.count f.waiting) (left_state f left).zeros,
      replicate-append-replicate {A = ℕ} f.count (length (drop f.count f.waiting)) 0,
      n,
    )

module _ (f : Feeder) (p : List ℕ) (left : is_left f ≡ true) where
  total : length (waiting_in f ++ p) ≡ f.count + length p
  unfolding waiting_in
  total = length-append (take f.count f.waiting) p ∙ rw (left_state f left).count

  -- all waits
  pub kept_all : {t : List ℕ} (at : ℕ) → at ≡ 0 → t ≡ laid_over (take f.count f.waiting ++ p) f.waiting
      → record { waiting = t; count = f.count + length p - at } ≡ state_of (drop at (waiting_in f ++ p))
  unfolding waiting_in
  kept_all at zeroth e = rw (zeroth, e, ← total, sub-zero) (laid_state (waiting_in f ++ p) f.waiting (left_state f left).size clean)
    where
      clean : all_zero (drop (length (waiting_in f ++ p)) f.waiting) ≡ true
      clean =
          rw (total, ← drop-drop (length p) f.count f.waiting)
          (zero_drop (length p) (drop f.count f.waiting) (left_state f left).zeros)

  -- what is left from a place on waits
  pub kept_rest : {u t : List ℕ} (at : ℕ) → u ≡ laid_over (drop at (take f.count f.waiting ++ p)) (replicate waiting_most 0)
      → t ≡ laid_over u f.waiting
      → record { waiting = t; count = f.count + length p - at } ≡ state_of (drop at (waiting_in f ++ p))
  unfolding waiting_in
  kept_rest {u} at e h =
      let n : length (drop at (waiting_in f ++ p)) ≡ f.count + length p - at = length-drop at (waiting_in f ++ p) ∙ rw total in
      let long : length f.waiting ≤ length u = rw e (laid_long (drop at (waiting_in f ++ p)) f.waiting (left_state f left).size) in
      rw (h, laid_whole u f.waiting long, e, ← n)
      (laid_state (drop at (waiting_in f ++ p)) (replicate waiting_most 0) (length-replicate {A = ℕ} waiting_most 0)
      (zero_drop (length (drop at (waiting_in f ++ p))) (replicate waiting_most 0) (zero_replicate waiting_most)))

-- ---- absorbing, whole

module _ (f : Feeder) (piece : List ℕ) (left : is_left f ≡ true) {o : List ℕ} (eo : o ≡ offered piece) where
  abbrev all : List ℕ
  all = waiting_in f ++ offered piece

  -- a record is completed
  module _ (at n : ℕ) (e : stops.Record at n ≡ stop_of (take f.count f.waiting ++ o)) where
    found : first_record all ≡ Some (record { at = at; size = n })
    unfolding waiting_in
    found = stop_record (take f.count f.waiting ++ offered piece) at n (rw eo at e)

    first : First all (record { at = at; size = n })
    first = first_found all (record { at = at; size = n }) found

    pub end_beyond : f.count < at + (command_at + n)
    unfolding waiting_in
    end_beyond =
        omega (arith, beyond (waiting_in f) piece (left_state f left).waits (record { at = at; size = n }) first, (left_state f left).count)

    pub end_inside : at + (command_at + n) ≤ f.count + length o
    end_inside = rw eo (omega (arith, first_fits first, total f (offered piece) left))

    pub end_small : at + (command_at + n) ≤ waiting_most + used_most
    end_small = omega (arith, end_inside, ap length eo, offered_short piece, (left_state f left).few)

    pub completes : Completing (take f.count f.waiting) o at n
    completes =
        record {
          beyond = omega (arith, end_beyond, (left_state f left).count);
          inside = omega (arith, end_inside, (left_state f left).count);
          most = omega (arith, first_most first);
        }

    pub absorbed_record : (b buffer : List ℕ) {after over : List ℕ} {r : Executed} {g : Feeder}
        → Replied (doing (Some (record_of n (drop at (take f.count f.waiting ++ o)))) b) after buffer over r
        → g ≡ fresh
        → record { fed = fed_for (Ok (record { used = at + (command_at + n) - f.count; skipped = at; replied = r.replied })) g; store = after; buffer = over }
        ≡ answering (absorb (waiting_in f) piece) b buffer
    unfolding answering absorb or_else completing waiting_in fresh
    absorbed_record b buffer d q = rw (d.size, d.stored, d.bytes, q, eo, found, (left_state f left).count)

  -- no record is completed
  module _ (at : ℕ) (e : stops.Rest at ≡ stop_of (take f.count f.waiting ++ o)) where
    stopped : (first_record all ≡ None) × ((divide all).skipped ≡ at)
    unfolding waiting_in
    stopped = stop_rest (take f.count f.waiting ++ offered piece) at (rw eo at e)

    nothing : NoFirst all
    nothing = none_found all stopped.0

    leaves : (divide all).rest ≡ drop at all
    leaves = none_rest nothing ∙ rw stopped.1

    pub rest_inside : at ≤ f.count + length o
    rest_inside = rw eo (omega (arith, stopped.1, none_skipped nothing, total f (offered piece) left))

    pub rest_waits : f.count + length o ≤ at + waiting_most
    rest_waits =
        rw eo
        (omega (
          arith,
          ap length leaves,
          length-drop at all,
          rest_short all,
          total f (offered piece) left,
        ))

    pub absorbed_none : (b buffer : List ℕ) {g : Feeder} → g ≡ state_of (drop at (waiting_in f ++ o))
        → record { fed = fed_for (Ok (record { used = length o; skipped = at; replied = 0 })) g; store = b; buffer = buffer }
        ≡ answering (absorb (waiting_in f) piece) b buffer
    unfolding answering doing absorb or_else keeping laid_over
    absorbed_none b buffer h = rw (h, eo, stopped.0, leaves, stopped.1)

pub ruleset absorbs = (left_state, completes, end_small, end_beyond, rest_inside, rest_waits)
