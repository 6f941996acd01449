-- The newer value: which store has it, and where.
use Rattle.std.specs.Prelude.{Option, None, Some}
use mathlib.Core.Path.{◌≡◌, refl, sym, ◌∙◌}
use mathlib.Core.Bool.{Bool, true, false, cond}
use mathlib.Core.Logic.{◌⊎◌, inl, inr}
use mathlib.Core.List.{List, []}
use Prim.Native.Nat.{ℕ, ◌≤◌, ◌<◌}
use lib.Dec.{leb}
use borrow.Author.Tests.{leb-true, leb-false}
use Rattle.wire.specs.Lists.{or_else}
use Rattle.wire.specs.Bytes.{part}
use Rattle.wire.specs.Checks.{first_applying}
use Rattle.wire.proofs.Lists.{impossible}
use Rattle.store.specs.Store.{Slot, decode, entry_at}
use Rattle.store.specs.Promises.{Held}
use Rattle.store.proofs.ReadAt.{value_part}
use Rattle.compare.specs.declared.Which.{Which}
use Rattle.compare.specs.declared.Which.TheVariants.{First, Second, Neither, Refused}
use Rattle.compare.specs.Listing.{live_slot_of}
use Rattle.compare.specs.Newer.{newer_of, newer_slot, place_of, part_at}
use Rattle.compare.specs.Calls.{checks, newer_in}
use Rattle.compare.proofs.MarkLaws.{live_held}
use Rattle.compare.proofs.CallChecks.{Passed, passed}

-- ---- what the code finds

module _ (first second k f : List ℕ) (instant : ℕ) where
  pub newer_refused : {n : ℕ} → first_applying (checks first second instant) ≡ Some n → Refused n ≡ newer_in first second k f instant
  unfolding newer_in or_else
  newer_refused h = rw h

  pub newer_found : {left right : Option ℕ} {r : Which} → Passed first second instant
      → left ≡ live_slot_of instant k f (decode first).slots → right ≡ live_slot_of instant k f (decode second).slots
      → r ≡ newer_of (decode first).slots (decode second).slots left right → r ≡ newer_in first second k f instant
  unfolding newer_in or_else newer_slot
  newer_found p l m h = h ∙ rw (p.clear, l, m)

-- ---- what an answer says

-- by the slots in which a name is live: which of them is named, and why
pub data Chosen (a b : List Slot) (o p : Option ℕ) : Which → Type 0 where
  in_first : (i : ℕ) → o ≡ Some i → ((j : ℕ) → p ≡ Some j → (entry_at b j).version ≤ (entry_at a i).version) → Chosen a b o p (First i)
  in_second : (j : ℕ) → p ≡ Some j → ((i : ℕ) → o ≡ Some i → (entry_at a i).version < (entry_at b j).version) → Chosen a b o p (Second j)
  in_neither : o ≡ None → p ≡ None → Chosen a b o p Neither

chosen : (a b : List Slot) (o p : Option ℕ) → Chosen a b o p (newer_of a b o p)
unfolding newer_of
chosen a b None None = Chosen.in_neither refl refl
chosen a b None (Some n) = Chosen.in_second n refl (λ i e. impossible cc)
chosen a b (Some m) None = Chosen.in_first m refl (λ j e. impossible cc)
chosen a b (Some m) (Some n) = go (leb (entry_at b n).version (entry_at a m).version) refl
  where
    go : (t : Bool) → leb (entry_at b n).version (entry_at a m).version ≡ t → Chosen a b (Some m) (Some n) (cond t (First m) (Second n))
    go true q = Chosen.in_first m refl (λ j e. let z : n ≡ j = cc in rw (← z) (leb-true (entry_at b n).version (entry_at a m).version q))
    go false q = Chosen.in_second n refl (λ i e. let z : m ≡ i = cc in rw (← z) (leb-false (entry_at b n).version (entry_at a m).version q))

module _ (first second k f : List ℕ) (instant : ℕ) where
  -- the call is refused, or one is named
  pub data Answered : Which → Type 0 where
    stopped : {m : ℕ} → first_applying (checks first second instant) ≡ Some m → Answered (Refused m)
    named :
        {w : Which} → Passed first second instant
        → Chosen (decode first).slots (decode second).slots (live_slot_of instant k f (decode first).slots) (live_slot_of instant k f (decode second).slots) w → Answered w

  pub answered : Answered (newer_in first second k f instant)
  unfolding newer_in newer_slot or_else
  answered = go (first_applying (checks first second instant)) refl
    where
      go : (o : Option ℕ) → first_applying (checks first second instant) ≡ o
          → Answered (or_else o (newer_of (decode first).slots (decode second).slots (live_slot_of instant k f (decode first).slots) (live_slot_of instant k f (decode second).slots)) Refused)
      go None e = Answered.named (passed first second instant e) (chosen (decode first).slots (decode second).slots (live_slot_of instant k f (decode first).slots) (live_slot_of instant k f (decode second).slots))
      go (Some n) e = Answered.stopped e

  pub first_held : (i : ℕ) → newer_in first second k f instant ≡ First i → Held first i
  first_held i = go answered
    where
      go : {w : Which} → Answered w → w ≡ First i → Held first i
      go (Answered.stopped r) h = impossible cc
      go (Answered.named p (Chosen.in_first m e l)) h =
          let z : m ≡ i = cc in
          live_held first k f instant {found = Some i} p.well (rw (e, z)) i refl
      go (Answered.named p (Chosen.in_second j e l)) h = impossible cc
      go (Answered.named p (Chosen.in_neither e l)) h = impossible cc

  pub second_held : (j : ℕ) → newer_in first second k f instant ≡ Second j → Held second j
  second_held j = go answered
    where
      go : {w : Which} → Answered w → w ≡ Second j → Held second j
      go (Answered.stopped r) h = impossible cc
      go (Answered.named p (Chosen.in_first i e l)) h = impossible cc
      go (Answered.named p (Chosen.in_second m e l)) h =
          let z : m ≡ j = cc in
          live_held second k f instant {found = Some j} p.also_well (rw (e, z)) j refl
      go (Answered.named p (Chosen.in_neither e l)) h = impossible cc

  -- ---- the part that is shown

  module _ {v : List ℕ} where
    pub first_shown : (i : ℕ) → newer_in first second k f instant ≡ First i → v ≡ (entry_at (decode first).slots i).value
        → v ≡ part_at first second (place_of first second (newer_in first second k f instant))
    unfolding part_at place_of
    first_shown i h e = e ∙ rw h (sym (value_part (first_held i h)))

    pub second_shown : (j : ℕ) → newer_in first second k f instant ≡ Second j → v ≡ (entry_at (decode second).slots j).value
        → v ≡ part_at first second (place_of first second (newer_in first second k f instant))
    unfolding part_at place_of
    second_shown j h e = e ∙ rw h (sym (value_part (second_held j h)))

pub neither_shown : (first second : List ℕ) (w : Which) → (w ≡ Neither) ⊎ ((n : ℕ) × (w ≡ Refused n)) → [] ≡ part_at first second (place_of first second w)
unfolding part_at place_of part
neither_shown first second w (inl h) = rw h
neither_shown first second w (inr (n, h)) = rw h
