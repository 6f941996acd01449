-- Which refusal is given, and which store has the newer value: exactly when.
use Rattle.std.specs.Prelude.{Option, None, Some}
use mathlib.Core.Path.{◌≡◌, refl, sym, ap, subst, ◌∙◌}
use mathlib.Core.Logic.{◌⊎◌, inl, inr, ◌↔◌}
use mathlib.Core.Bool.{Bool, true, false, not, ◌||◌}
use mathlib.Core.List.{List, [], ◌∷◌}
use Prim.Native.Nat.{ℕ, ◌≤◌, ◌<◌}
use native.Mathlib.Omega.{arith}
use lib.Dec.{leb, ltb}
use lib.ListN.{length}
use borrow.Author.Tests.{ltb-true, ltb-false, leb-true, leb-false}
use Rattle.wire.specs.Lists.{or_else}
use Rattle.wire.specs.Bytes.{part}
use Rattle.wire.specs.Checks.{◌when◌, first_applying}
use Rattle.wire.proofs.ReplyLaying.{take_laid, drop_laid, length_laid}
use Rattle.wire.proofs.Lists.{both_ways, impossible}
use Rattle.store.specs.Layout.{key_most, field_most, time_limit}
use Rattle.store.specs.Store.{Entry, entry, Slot, clock_of, decode, well_formed, entry_at}
use Rattle.store.specs.Valid.{Fits, FitsSlot, Apart}
use Rattle.store.proofs.Encode.{decode_valid}
use Rattle.store.proofs.ReadAt.{value_within}
use Rattle.compare.specs.declared.Which.{Which}
use Rattle.compare.specs.declared.Which.TheVariants.{First, Second, Neither, Refused}
use Rattle.compare.specs.Listing.{live_slot_of, listing}
use Rattle.compare.specs.Newer.{place_of, part_at}
use Rattle.compare.specs.Calls.{checks, output_least, Answer, refusing, answering, compare, newer_in}
use Rattle.compare.specs.Claims.{SameName, Outputs, LiveNamed, AtMost, Below, NoLive, Newest, Inside, Proper, Refusal}
use Rattle.compare.specs.Claims.Refusal.{damaged_first, damaged_second, before_first, before_second, too_late}
use Rattle.compare.proofs.ListingSize.{listing_short}
use Rattle.compare.proofs.CallChecks.{listing_checks_lem}
use Rattle.compare.proofs.ListedLines.{live_once, entry_here_lem, search_some, search_none, search_only}
use Rattle.compare.proofs.NewerPlaces.{Chosen, Answered, answered, first_held, second_held, first_shown, second_shown}

-- ---- the checks

module _ (first second : List ℕ) (instant : ℕ) where
  -- the outcome of the checks, by what applies
  pub data Checked : Option ℕ → Type 0 where
    stopped : {m : ℕ} → Refusal first second instant m → Checked (Some m)
    clear : Proper first second instant → Checked None

  ranged : well_formed first ≡ true → well_formed second ≡ true → (s t u : Bool) → ltb instant (clock_of first) ≡ s → ltb instant (clock_of second) ≡ t → leb time_limit instant ≡ u
      → Checked (first_applying (11 when (s || (t || u)) ∷ []))
  unfolding first_applying
  ranged w v true t u p q r = stopped (before_first w v (ltb-true instant (clock_of first) p))
  ranged w v false true u p q r = stopped (before_second w v (ltb-true instant (clock_of second) q))
  ranged w v false false true p q r = stopped (too_late w v (leb-true time_limit instant r))
  ranged w v false false false p q r =
      clear
      (record {
        well = w;
        also_well = v;
        not_before = ltb-false instant (clock_of first) p;
        nor_before = ltb-false instant (clock_of second) q;
        in_time = leb-false time_limit instant r;
      })

  pub checked : Checked (first_applying (checks first second instant))
  unfolding checks first_applying
  checked = go (well_formed first) (well_formed second) refl refl
    where
      go : (a b : Bool) → well_formed first ≡ a → well_formed second ≡ b
          → Checked (first_applying (2 when not a ∷ 2 when not b ∷ 11 when (ltb instant (clock_of first) || (ltb instant (clock_of second) || leb time_limit instant)) ∷ []))
      go false b p q = stopped (damaged_first p)
      go true false p q = stopped (damaged_second q)
      go true true p q = ranged p q (ltb instant (clock_of first)) (ltb instant (clock_of second)) (leb time_limit instant) refl refl refl

  -- a number and a proper call exclude each other, and so do two numbers
  refusal_proper : {n : ℕ} → Refusal first second instant n → Proper first second instant → ⊥
  refusal_proper (damaged_first h) p = both_ways p.well h
  refusal_proper (damaged_second h) p = both_ways p.also_well h
  refusal_proper (before_first w v h) p = omega (arith, h, p.not_before)
  refusal_proper (before_second w v h) p = omega (arith, h, p.nor_before)
  refusal_proper (too_late w v h) p = omega (arith, h, p.in_time)

  whole_11 : {n : ℕ} → Refusal first second instant n → well_formed first ≡ true → well_formed second ≡ true → n ≡ 11
  whole_11 (damaged_first h) w v = both_ways w h
  whole_11 (damaged_second h) w v = both_ways v h
  whole_11 (before_first a b h) w v = refl
  whole_11 (before_second a b h) w v = refl
  whole_11 (too_late a b h) w v = refl

  damaged_2 : {n : ℕ} → Refusal first second instant n → (well_formed first ≡ false) ⊎ (well_formed second ≡ false) → n ≡ 2
  damaged_2 (damaged_first h) d = refl
  damaged_2 (damaged_second h) d = refl
  damaged_2 (before_first w v h) (inl d) = both_ways w d
  damaged_2 (before_first w v h) (inr d) = both_ways v d
  damaged_2 (before_second w v h) (inl d) = both_ways w d
  damaged_2 (before_second w v h) (inr d) = both_ways v d
  damaged_2 (too_late w v h) (inl d) = both_ways w d
  damaged_2 (too_late w v h) (inr d) = both_ways v d

  refusal_once : {m n : ℕ} → Refusal first second instant m → Refusal first second instant n → m ≡ n
  refusal_once x (damaged_first h) = damaged_2 x (inl h)
  refusal_once x (damaged_second h) = damaged_2 x (inr h)
  refusal_once x (before_first w v h) = whole_11 x w v
  refusal_once x (before_second w v h) = whole_11 x w v
  refusal_once x (too_late w v h) = whole_11 x w v

  pub checks_refuse : (n : ℕ) → (first_applying (checks first second instant) ≡ Some n) ↔ Refusal first second instant n
  checks_refuse n = (λ h. there checked h, λ r. back checked r)
    where
      there : {o : Option ℕ} → Checked o → o ≡ Some n → Refusal first second instant n
      there (stopped {m} r) h = let z : m ≡ n = cc in rw (← z) r
      there (clear p) h = impossible cc

      back : {o : Option ℕ} → Checked o → Refusal first second instant n → o ≡ Some n
      back (stopped x) r = ap Some (refusal_once x r)
      back (clear p) r = absurd (refusal_proper r p)

  pub checks_pass : (first_applying (checks first second instant) ≡ None) ↔ Proper first second instant
  checks_pass = (λ h. there checked h, λ p. back checked p)
    where
      there : {o : Option ℕ} → Checked o → o ≡ None → Proper first second instant
      there (stopped r) h = impossible cc
      there (clear p) h = p

      back : {o : Option ℕ} → Checked o → Proper first second instant → o ≡ None
      back (stopped x) p = absurd (refusal_proper x p)
      back (clear q) p = refl

-- ---- the live entry of a key and a field

-- an entry of a key and a field, whatever else
abbrev called : List ℕ → List ℕ → Entry
called k f = entry k f [] 0 None

module _ (instant : ℕ) (k f : List ℕ) (ss : List Slot) where
  search_shown : (j : ℕ) → live_slot_of instant k f ss ≡ Some j → LiveNamed instant k f ss j (entry_at ss j)
  search_shown j h =
      let q = search_some instant (called k f) ss j h in
      rw q.3 (record { at = q.1; key = sym q.2.key; field = sym q.2.field })

  shown_search : Apart ss → (i : ℕ) (e : Entry) → LiveNamed instant k f ss i e → live_slot_of instant k f ss ≡ Some i
  shown_search a i e s = search_only instant (called k f) ss a e (record { slot = i; at = s.at }) (record { key = sym s.key; field = sym s.field })

  shown_entry : (i : ℕ) (e : Entry) → LiveNamed instant k f ss i e → entry_at ss i ≡ e
  shown_entry i e s = entry_here_lem ss i e s.at.here

  search_no_live : live_slot_of instant k f ss ≡ None → NoLive instant k f ss
  search_no_live h i e s = search_none instant (called k f) ss h e (record { slot = i; at = s.at }) (record { key = sym s.key; field = sym s.field })

  no_live_search : NoLive instant k f ss → live_slot_of instant k f ss ≡ None
  no_live_search h = go (live_slot_of instant k f ss) refl
    where
      go : (o : Option ℕ) → live_slot_of instant k f ss ≡ o → o ≡ None
      go None q = refl
      go (Some j) q = absurd (h j (entry_at ss j) (search_shown j q))

  -- what holds of the version in the slot that the search gives holds of every live one
  by_search : (P : ℕ → Type 0) → Apart ss → ((j : ℕ) → live_slot_of instant k f ss ≡ Some j → P (entry_at ss j).version)
      → (j : ℕ) (e : Entry) → LiveNamed instant k f ss j e → P e.version
  by_search P a h j e s = subst (λ (g : Entry). P g.version) (shown_entry j e s) (h j (shown_search a j e s))

-- ---- the newer value

module _ (first second k f : List ℕ) (instant : ℕ) where
  apart : well_formed first ≡ true → Apart (decode first).slots
  apart w = (decode_valid first w).apart

  also_apart : well_formed second ≡ true → Apart (decode second).slots
  also_apart w = (decode_valid second w).apart

  pub first_exactly : (i : ℕ) → (newer_in first second k f instant ≡ First i)
      ↔ (Proper first second instant × ((e : Entry) × LiveNamed instant k f (decode first).slots i e × AtMost instant k f (decode second).slots e.version))
  first_exactly i = (there (answered first second k f instant), λ q. back (answered first second k f instant) q)
    where
      there : {w : Which} → Answered first second k f instant w → w ≡ First i
          → Proper first second instant × ((e : Entry) × LiveNamed instant k f (decode first).slots i e × AtMost instant k f (decode second).slots e.version)
      there (Answered.stopped r) h = impossible cc
      there (Answered.named p (Chosen.in_first m e l)) h =
          let z : m ≡ i = cc in
          let bound = by_search instant k f (decode second).slots (λ n. n ≤ (entry_at (decode first).slots m).version) (also_apart p.also_well) l in
          ((checks_pass first second instant).0 p.clear, rw (← z) (entry_at (decode first).slots m, search_shown instant k f (decode first).slots m e, bound))
      there (Answered.named p (Chosen.in_second j e l)) h = impossible cc
      there (Answered.named p (Chosen.in_neither e l)) h = impossible cc

      back : {w : Which} → Answered first second k f instant w
          → Proper first second instant × ((e : Entry) × LiveNamed instant k f (decode first).slots i e × AtMost instant k f (decode second).slots e.version) → w ≡ First i
      back (Answered.stopped r) q = absurd (refusal_proper first second instant ((checks_refuse first second instant _).0 r) q.0)
      back (Answered.named p (Chosen.in_first m e l)) q =
          let here : Some m ≡ Some i = sym e ∙ shown_search instant k f (decode first).slots (apart p.well) i q.1.0 q.1.1 in
          let z : m ≡ i = cc in
          ap First z
      back (Answered.named p (Chosen.in_second j e l)) q =
          let below = by_search instant k f (decode first).slots (λ n. n < (entry_at (decode second).slots j).version) (apart p.well) l i q.1.0 q.1.1 in
          absurd (omega (arith, below, q.1.2 j (entry_at (decode second).slots j) (search_shown instant k f (decode second).slots j e)))
      back (Answered.named p (Chosen.in_neither e l)) q = absurd (search_no_live instant k f (decode first).slots e i q.1.0 q.1.1)

  pub second_exactly : (j : ℕ) → (newer_in first second k f instant ≡ Second j)
      ↔ (Proper first second instant × ((e : Entry) × LiveNamed instant k f (decode second).slots j e × Below instant k f (decode first).slots e.version))
  second_exactly j = (there (answered first second k f instant), λ q. back (answered first second k f instant) q)
    where
      there : {w : Which} → Answered first second k f instant w → w ≡ Second j
          → Proper first second instant × ((e : Entry) × LiveNamed instant k f (decode second).slots j e × Below instant k f (decode first).slots e.version)
      there (Answered.stopped r) h = impossible cc
      there (Answered.named p (Chosen.in_first i e l)) h = impossible cc
      there (Answered.named p (Chosen.in_second m e l)) h =
          let z : m ≡ j = cc in
          let bound = by_search instant k f (decode first).slots (λ n. n < (entry_at (decode second).slots m).version) (apart p.well) l in
          ((checks_pass first second instant).0 p.clear, rw (← z) (entry_at (decode second).slots m, search_shown instant k f (decode second).slots m e, bound))
      there (Answered.named p (Chosen.in_neither e l)) h = impossible cc

      back : {w : Which} → Answered first second k f instant w
          → Proper first second instant × ((e : Entry) × LiveNamed instant k f (decode second).slots j e × Below instant k f (decode first).slots e.version) → w ≡ Second j
      back (Answered.stopped r) q = absurd (refusal_proper first second instant ((checks_refuse first second instant _).0 r) q.0)
      back (Answered.named p (Chosen.in_first i e l)) q =
          let most = by_search instant k f (decode second).slots (λ n. n ≤ (entry_at (decode first).slots i).version) (also_apart p.also_well) l j q.1.0 q.1.1 in
          absurd (omega (arith, most, q.1.2 i (entry_at (decode first).slots i) (search_shown instant k f (decode first).slots i e)))
      back (Answered.named p (Chosen.in_second m e l)) q =
          let here : Some m ≡ Some j = sym e ∙ shown_search instant k f (decode second).slots (also_apart p.also_well) j q.1.0 q.1.1 in
          let z : m ≡ j = cc in
          ap Second z
      back (Answered.named p (Chosen.in_neither e l)) q = absurd (search_no_live instant k f (decode second).slots l j q.1.0 q.1.1)

  pub neither_exactly : (newer_in first second k f instant ≡ Neither)
      ↔ (Proper first second instant × NoLive instant k f (decode first).slots × NoLive instant k f (decode second).slots)
  neither_exactly = (there (answered first second k f instant), λ q. back (answered first second k f instant) q)
    where
      there : {w : Which} → Answered first second k f instant w → w ≡ Neither
          → Proper first second instant × NoLive instant k f (decode first).slots × NoLive instant k f (decode second).slots
      there (Answered.stopped r) h = impossible cc
      there (Answered.named p (Chosen.in_first i e l)) h = impossible cc
      there (Answered.named p (Chosen.in_second j e l)) h = impossible cc
      there (Answered.named p (Chosen.in_neither e l)) h =
          ((checks_pass first second instant).0 p.clear, search_no_live instant k f (decode first).slots e, search_no_live instant k f (decode second).slots l)

      back : {w : Which} → Answered first second k f instant w
          → Proper first second instant × NoLive instant k f (decode first).slots × NoLive instant k f (decode second).slots → w ≡ Neither
      back (Answered.stopped r) q = absurd (refusal_proper first second instant ((checks_refuse first second instant _).0 r) q.0)
      back (Answered.named p (Chosen.in_first i e l)) q = absurd (q.1 i (entry_at (decode first).slots i) (search_shown instant k f (decode first).slots i e))
      back (Answered.named p (Chosen.in_second j e l)) q = absurd (q.2 j (entry_at (decode second).slots j) (search_shown instant k f (decode second).slots j e))
      back (Answered.named p (Chosen.in_neither e l)) q = refl

  pub refused_exactly : (n : ℕ) → (newer_in first second k f instant ≡ Refused n) ↔ Refusal first second instant n
  refused_exactly n = (there (answered first second k f instant), λ q. back (answered first second k f instant) q)
    where
      there : {w : Which} → Answered first second k f instant w → w ≡ Refused n → Refusal first second instant n
      there (Answered.stopped {m} r) h = let z : m ≡ n = cc in rw z at ((checks_refuse first second instant m).0 r)
      there (Answered.named p (Chosen.in_first i e l)) h = impossible cc
      there (Answered.named p (Chosen.in_second j e l)) h = impossible cc
      there (Answered.named p (Chosen.in_neither e l)) h = impossible cc

      back : {w : Which} → Answered first second k f instant w → Refusal first second instant n → w ≡ Refused n
      back (Answered.stopped {m} r) q = ap Refused (refusal_once first second instant ((checks_refuse first second instant m).0 r) q)
      back (Answered.named p c) q = absurd (refusal_proper first second instant q ((checks_pass first second instant).0 p.clear))

-- ---- the part that is shown

no_store_neither : (first second : List ℕ) → (place_of first second Neither).which ≡ 0
unfolding place_of
no_store_neither first second = refl

no_store_refused : (first second : List ℕ) (n : ℕ) → (place_of first second (Refused n)).which ≡ 0
unfolding place_of
no_store_refused first second n = refl

module _ (first second k f : List ℕ) (instant : ℕ) where
  shown_value : (b : List ℕ) (i : ℕ) (e : Entry) → LiveNamed instant k f (decode b).slots i e → (entry_at (decode b).slots i).value ≡ e.value
  shown_value b i e s = rw (shown_entry instant k f (decode b).slots i e s)

  -- all live entries of a key and a field in one store are one
  once : {ss : List Slot} → Apart ss → {i : ℕ} {e : Entry} → LiveNamed instant k f ss i e → AtMost instant k f ss e.version
  once {ss} a {i} {e} s j g t =
      let n : SameName g e = record { key = t.key ∙ sym s.key; field = t.field ∙ sym s.field } in
      let z : g ≡ e = live_once instant ss a g e (record { slot = j; at = t.at }) (record { slot = i; at = s.at }) n in
      rw z (omega arith)

  newest_first : (i : ℕ) → newer_in first second k f instant ≡ First i
      → Newest instant k f (decode first).slots (decode second).slots (part_at first second (place_of first second (First i)))
  newest_first i e =
      let q = (first_exactly first second k f instant i).0 e in
      record {
        entry = q.1.0;
        slot = i;
        shown = inl q.1.1;
        value = rw e at (sym (first_shown first second k f instant i e (sym (shown_value first i q.1.0 q.1.1))));
        most = once (decode_valid first q.0.well).apart q.1.1;
        also_most = q.1.2;
      }

  newest_second : (j : ℕ) → newer_in first second k f instant ≡ Second j
      → Newest instant k f (decode first).slots (decode second).slots (part_at first second (place_of first second (Second j)))
  newest_second j e =
      let q = (second_exactly first second k f instant j).0 e in
      record {
        entry = q.1.0;
        slot = j;
        shown = inr q.1.1;
        value = rw e at (sym (second_shown first second k f instant j e (sym (shown_value second j q.1.0 q.1.1))));
        most = λ i g s. let l : g.version < q.1.0.version = q.1.2 i g s in omega (arith, l);
        also_most = once (decode_valid second q.0.also_well).apart q.1.1;
      }

  pub newest : ((place_of first second (newer_in first second k f instant)).which ≡ 0 → ⊥)
      → Newest instant k f (decode first).slots (decode second).slots (part_at first second (place_of first second (newer_in first second k f instant)))
  newest h = go (newer_in first second k f instant) refl h
    where
      go : (w : Which) → newer_in first second k f instant ≡ w → ((place_of first second w).which ≡ 0 → ⊥)
          → Newest instant k f (decode first).slots (decode second).slots (part_at first second (place_of first second w))
      go (First i) e d = newest_first i e
      go (Second j) e d = newest_second j e
      go Neither e d = absurd (d (no_store_neither first second))
      go (Refused n) e d = absurd (d (no_store_refused first second n))

  -- where no store is named, nothing is shown
  pub none_shown : (place_of first second (newer_in first second k f instant)).which ≡ 0 → part_at first second (place_of first second (newer_in first second k f instant)) ≡ []
  unfolding place_of part_at part
  none_shown h = go (newer_in first second k f instant) h
    where
      go : (w : Which) → (place_of first second w).which ≡ 0 → part_at first second (place_of first second w) ≡ []
      go (First i) e = absurd (omega (arith, e))
      go (Second j) e = absurd (omega (arith, e))
      go Neither e = refl
      go (Refused n) e = refl

  -- the place lies in its store's bytes
  pub place_inside : Inside first second (place_of first second (newer_in first second k f instant))
  unfolding place_of
  place_inside = go (newer_in first second k f instant) refl
    where
      go : (w : Which) → newer_in first second k f instant ≡ w → Inside first second (place_of first second w)
      go (First i) e = value_within (first_held first second k f instant i e)
      go (Second j) e = value_within (second_held first second k f instant j e)
      go Neither e = omega arith
      go (Refused n) e = omega arith

-- ---- the listing's call

module _ (first second : List ℕ) (instant : ℕ) (out : List ℕ) where
  -- it is refused by a check, finds its output short, or writes the listing
  pub data Went : Answer → Type 0 where
    refused : {m : ℕ} → Refusal first second instant m → Went (refusing m out)
    short : Proper first second instant → length out < output_least → Went (refusing 3 out)
    listed : Proper first second instant → output_least ≤ length out → Went (answering (listing instant (decode first) (decode second)) out)

  pub went : Went (compare first second instant out)
  unfolding compare or_else first_applying
  went = rw (listing_checks_lem first second instant out) (go (checked first second instant))
    where
      sized : Proper first second instant → (t : Bool) → ltb (length out) output_least ≡ t
          → Went (or_else (first_applying (3 when t ∷ [])) (answering (listing instant (decode first) (decode second)) out) (λ n. refusing n out))
      sized p true q = short p (ltb-true (length out) output_least q)
      sized p false q = listed p (ltb-false (length out) output_least q)

      go : {o : Option ℕ} → Checked first second instant o
          → Went (or_else (or_else o (first_applying (3 when ltb (length out) output_least ∷ [])) Some) (answering (listing instant (decode first) (decode second)) out) (λ n. refusing n out))
      go (stopped r) = refused r
      go (clear p) = sized p (ltb (length out) output_least) refl

  refusal_nonzero : {m : ℕ} → Refusal first second instant m → m ≡ 0 → ⊥
  refusal_nonzero (damaged_first h) z = omega (arith, z)
  refusal_nonzero (damaged_second h) z = omega (arith, z)
  refusal_nonzero (before_first w v h) z = omega (arith, z)
  refusal_nonzero (before_second w v h) z = omega (arith, z)
  refusal_nonzero (too_late w v h) z = omega (arith, z)

  pub call_refused : ((compare first second instant out).compared.refusal ≡ 0 → ⊥)
      → ((compare first second instant out).compared.written ≡ 0) × ((compare first second instant out).output ≡ out)
  call_refused = go went
    where
      go : {a : Answer} → Went a → (a.compared.refusal ≡ 0 → ⊥) → (a.compared.written ≡ 0) × (a.output ≡ out)
      go (refused r) h = (refl, refl)
      go (short p l) h = (refl, refl)
      go (listed p l) h = absurd (h refl)

  pub call_number : (n : ℕ) → (n ≡ 0 → ⊥)
      → ((compare first second instant out).compared.refusal ≡ n) ↔ (Refusal first second instant n ⊎ ((n ≡ 3) × Proper first second instant × (length out < output_least)))
  call_number n nonzero = (there went, back went)
    where
      there : {a : Answer} → Went a → a.compared.refusal ≡ n → Refusal first second instant n ⊎ ((n ≡ 3) × Proper first second instant × (length out < output_least))
      there (refused r) h = inl (rw (← h) r)
      there (short p l) h = inr (sym h, p, l)
      there (listed p l) h = absurd (nonzero (sym h))

      back : {a : Answer} → Went a → Refusal first second instant n ⊎ ((n ≡ 3) × Proper first second instant × (length out < output_least)) → a.compared.refusal ≡ n
      back (refused r) (inl q) = refusal_once first second instant r q
      back (refused r) (inr q) = absurd (refusal_proper first second instant r q.1)
      back (short p l) (inl q) = absurd (refusal_proper first second instant q p)
      back (short p l) (inr q) = sym q.0
      back (listed p l) (inl q) = absurd (refusal_proper first second instant q p)
      back (listed p l) (inr q) = let m : length out < output_least = q.2 in absurd (omega (arith, l, m))

  pub call_listed : Proper first second instant → output_least ≤ length out
      → compare first second instant out ≡ answering (listing instant (decode first) (decode second)) out
  call_listed p l = go went
    where
      go : {a : Answer} → Went a → a ≡ answering (listing instant (decode first) (decode second)) out
      go (refused r) = absurd (refusal_proper first second instant r p)
      go (short q m) = absurd (omega (arith, l, m))
      go (listed q m) = refl

  pub call_writes : Proper first second instant → output_least ≤ length out
      → Outputs (listing instant (decode first) (decode second)) out (compare first second instant out).output (compare first second instant out).compared.written
  call_writes p l =
      let short = listing_short instant (decode first) (decode second) (decode_valid first p.well) (decode_valid second p.also_well) in
      rw (call_listed p l)
      (record {
        counted = refl;
        starts = take_laid (listing instant (decode first) (decode second)) out;
        beyond = drop_laid (listing instant (decode first) (decode second)) out;
        size = length_laid (listing instant (decode first) (decode second)) out (omega (arith, short, l));
      })

-- ---- a name that no slot has room for

long_named : (b k f : List ℕ) (instant : ℕ) → well_formed b ≡ true → (key_most < length k) ⊎ (field_most < length f) → NoLive instant k f (decode b).slots
long_named b k f instant w long i e s = go long (subst FitsSlot s.at.here ((decode_valid b w).fits i))
  where
    go : (key_most < length k) ⊎ (field_most < length f) → Fits e → ⊥
    go (inl h) q = omega (arith, h, q.short.key, ap length s.key)
    go (inr h) q = omega (arith, h, q.short.field, ap length s.field)

pub long_neither : (first second k f : List ℕ) (instant : ℕ) → Proper first second instant → (key_most < length k) ⊎ (field_most < length f)
    → newer_in first second k f instant ≡ Neither
long_neither first second k f instant p long =
    (neither_exactly first second k f instant).1 (p, long_named first k f instant p.well long, long_named second k f instant p.also_well long)

-- ---- the place's number

pub place_refused_exactly : (first second k f : List ℕ) (instant n : ℕ) → (n ≡ 0 → ⊥)
    → ((place_of first second (newer_in first second k f instant)).refusal ≡ n) ↔ Refusal first second instant n
unfolding place_of
place_refused_exactly first second k f instant n d =
    (λ h. go (newer_in first second k f instant) refl h, λ r. rw ((refused_exactly first second k f instant n).1 r))
  where
    go : (w : Which) → newer_in first second k f instant ≡ w → (place_of first second w).refusal ≡ n → Refusal first second instant n
    go (First i) e h = absurd (d (sym h))
    go (Second j) e h = absurd (d (sym h))
    go Neither e h = absurd (d (sym h))
    go (Refused m) e h = (refused_exactly first second k f instant n).0 (rw (← h) e)
