-- Laws of the slots of a store, as a list of slots: the lowest of which a test holds, names and clashes, the entry of a name.
use Rattle.std.specs.Prelude.{Option, None, Some, option_map}
use mathlib.Core.Path.{◌≡◌, refl, ap, subst, ◌∙◌}
use mathlib.Core.Bool.{Bool, true, false, cond}
use mathlib.Core.List.{List, [], ◌∷◌}
use Rattle.std.proofs.lemmas.Option.{none-some}
use Prim.Native.Nat.{ℕ, zero, suc, ◌≤◌, ◌<◌}
use native.Mathlib.Omega.{arith}
use lib.Dec.{ltb, eqb}
use borrow.Author.Tests.{ltb-true, ltb-false, eqb-true, eqb-false}
use lib.ListN.{length, get_or}
use Rattle.wire.specs.Lists.{or_else}
use Rattle.wire.specs.Bytes.{same}
use Rattle.wire.proofs.Lists.{and_left, and_right, both_ways, impossible}
use Rattle.wire.proofs.ByteLaws.{same_true, same_refl, same_sym}
use Rattle.store.specs.Store.{Entry, Slot, holds, clash}
use Rattle.store.specs.Time.{lowest_slot, entry_of}
use Rattle.store.specs.Valid.{Fits, FitsSlot, AllFit, Apart}

-- slot i is the lowest of which p holds
pub record Lowest (p : Slot → Bool) (ss : List Slot) (i : ℕ) : Type 0 where
  pub inside : i < length ss
  pub here : p (get_or ss i None) ≡ true
  pub earlier : (j : ℕ) → j < i → p (get_or ss j None) ≡ false

lowest_cons : (p : Slot → Bool) (s : Slot) (ss : List Slot) (i : ℕ) (t : Bool) (o : Option ℕ) → p s ≡ t → ((k : ℕ) → o ≡ Some k → Lowest p ss k)
    → cond t (Some 0) (option_map suc o) ≡ Some i → Lowest p (s ∷ ss) i
lowest_cons p s ss zero true o e f h = record { inside = omega arith; here = e; earlier = λ j l. absurd (omega arith) }
lowest_cons p s ss (suc i) true o e f h = let z : ◌≡◌ {A = ℕ} 0 (suc i) = cc in absurd (omega arith)
lowest_cons p s ss i false None e f h = impossible cc
lowest_cons p s ss zero false (Some k) e f h = let z : ◌≡◌ {A = ℕ} 0 (suc k) = cc in absurd (omega arith)
lowest_cons p s ss (suc i) false (Some k) e f h = go (f i (cc))
  where
    before : Lowest p ss i → (j : ℕ) → j < suc i → p (get_or {A = Slot} (s ∷ ss) j None) ≡ false
    before l zero m = e
    before l (suc j) m = l.earlier j (omega arith)

    go : Lowest p ss i → Lowest p (s ∷ ss) (suc i)
    go l = record { inside = omega arith; here = l.here; earlier = before l }

-- the lowest slot of which p holds: it is inside, p holds of it, and of none before it
pub lowest_some : (p : Slot → Bool) (ss : List Slot) (i : ℕ) → lowest_slot p ss ≡ Some i → Lowest p ss i
unfolding lowest_slot
lowest_some p [] i h = impossible cc
lowest_some p (s ∷ ss) i h = lowest_cons p s ss i (p s) (lowest_slot p ss) refl (lowest_some p ss) h

none_cons : (t : Bool) (o : Option ℕ) → cond t (Some 0) (option_map suc o) ≡ None → (t ≡ false) × (o ≡ None)
none_cons true o h = (cc, cc)
none_cons false None h = (refl, refl)
none_cons false (Some i) h = (cc, cc)

-- there is no lowest slot of which p holds: it holds of none
pub lowest_none : (p : Slot → Bool) (ss : List Slot) → lowest_slot p ss ≡ None → (i : ℕ) → i < length ss → p (get_or ss i None) ≡ false
unfolding lowest_slot
lowest_none p [] h i l = absurd (omega arith)
lowest_none p (s ∷ ss) h zero l = (none_cons (p s) (lowest_slot p ss) h).0
lowest_none p (s ∷ ss) h (suc i) l = lowest_none p ss (none_cons (p s) (lowest_slot p ss) h).1 i (omega arith)

-- what holds of an empty slot and of every slot inside holds of every place
pub each_slot : (P : Slot → Type 0) (ss : List Slot) → P None → ((i : ℕ) → i < length ss → P (get_or ss i None)) → (i : ℕ) → P (get_or ss i None)
each_slot P [] e h i = e
each_slot P (s ∷ ss) e h zero = h 0 (omega arith)
each_slot P (s ∷ ss) e h (suc i) = each_slot P ss e (λ j l. h (suc j) (omega arith)) i

-- the same without a bound, where p holds not of an empty slot
pub lowest_nowhere : (p : Slot → Bool) (ss : List Slot) → p None ≡ false → lowest_slot p ss ≡ None → (i : ℕ) → p (get_or ss i None) ≡ false
lowest_nowhere p ss e h = each_slot (λ s. p s ≡ false) ss e (lowest_none p ss h)

-- the entry of a key and a field is that of the lowest slot that holds them
pub entry_lowest : (k f : List ℕ) (ss : List Slot) → entry_of k f ss ≡ or_else (lowest_slot (holds k f) ss) None (λ i. get_or ss i None)
unfolding entry_of lowest_slot or_else
entry_lowest k f [] = refl
entry_lowest k f (s ∷ ss) = go (holds k f s) (lowest_slot (holds k f) ss) (entry_lowest k f ss)
  where
    go : (t : Bool) (o : Option ℕ) → entry_of k f ss ≡ or_else o None (λ i. get_or ss i None)
        → cond t s (entry_of k f ss) ≡ or_else (cond t (Some 0) (option_map suc o)) None (λ i. get_or (s ∷ ss) i None)
    go true o h = refl
    go false None h = h
    go false (Some i) h = h

-- the same, where there is such a slot
pub entry_at_lowest : (k f : List ℕ) (ss : List Slot) (i : ℕ) → lowest_slot (holds k f) ss ≡ Some i → entry_of k f ss ≡ get_or ss i None
unfolding or_else
entry_at_lowest k f ss i h = rw (entry_lowest, h)

-- ---- names

-- an entry has a key and a field
pub record Named (k f : List ℕ) (e : Entry) : Type 0 where
  pub key : e.key ≡ k
  pub field : e.field ≡ f

-- a slot that holds a name has an entry of that name
pub holds_named : (k f : List ℕ) (e : Entry) → holds k f (Some e) ≡ true → Named k f e
unfolding holds or_else
holds_named k f e h =
    record {
      key = same_true e.key k (and_left (same e.key k) (same e.field f) h);
      field = same_true e.field f (and_right (same e.key k) (same e.field f) h);
    }

-- an entry holds its own name
pub holds_own : (e : Entry) → holds e.key e.field (Some e) ≡ true
unfolding holds or_else
holds_own e = rw (same_refl e.key, same_refl e.field)

-- an empty slot holds no name
pub holds_none : (k f : List ℕ) → holds k f None ≡ false
unfolding holds or_else
holds_none k f = refl

-- slots clash both ways
pub clash_sym : (s t : Slot) → clash s t ≡ clash t s
unfolding clash holds or_else
clash_sym None None = refl
clash_sym None (Some e) = refl
clash_sym (Some d) None = refl
clash_sym (Some d) (Some e) = rw (same_sym d.key, same_sym d.field)

-- an empty slot clashes with none
pub none_clash : (s : Slot) → clash None s ≡ false
unfolding clash or_else
none_clash s = refl

pub clash_none : (s : Slot) → clash s None ≡ false
clash_none s = rw (clash_sym s None) (none_clash s)

-- a slot that holds a name clashes with the slots that hold it
pub holds_clash : (k f : List ℕ) (s t : Slot) → holds k f s ≡ true → clash s t ≡ holds k f t
unfolding clash or_else
holds_clash k f None t h = both_ways h (holds_none k f)
holds_clash k f (Some e) t h =
    let n : Named k f e = holds_named k f e h in
    rw (n.key, n.field)

-- two different slots do not clash, whichever is the first
pub apart_at : (ss : List Slot) → Apart ss → (i j : ℕ) → (i ≡ j → ⊥) → clash (get_or ss i None) (get_or ss j None) ≡ false
apart_at ss a i j d = go (ltb i j) refl
  where
    go : (t : Bool) → ltb i j ≡ t → clash (get_or ss i None) (get_or ss j None) ≡ false
    go true q = a i j (ltb-true i j q)
    go false q = let l : j ≤ i = ltb-false i j q in rw (clash_sym (get_or ss i None)) (a j i (omega arith))

-- of one name there is one slot
pub holds_once : (k f : List ℕ) (ss : List Slot) → Apart ss → (i j : ℕ) → (i ≡ j → ⊥) → holds k f (get_or ss i None) ≡ true → holds k f (get_or ss j None) ≡ false
holds_once k f ss a i j d h = rw (← holds_clash k f (get_or ss i None) (get_or ss j None) h) (apart_at ss a i j d)

pub holds_only : (k f : List ℕ) (ss : List Slot) → Apart ss → (i j : ℕ) → holds k f (get_or ss i None) ≡ true → holds k f (get_or ss j None) ≡ true → i ≡ j
holds_only k f ss a i j p q = go (eqb i j) refl
  where
    go : (t : Bool) → eqb i j ≡ t → i ≡ j
    go true r = eqb-true i j r
    go false r = both_ways q (holds_once k f ss a i j (eqb-false i j r) p)

-- ---- the entry of a name

-- where the entry of a key and a field stands
pub record Stands (k f : List ℕ) (ss : List Slot) (e : Entry) : Type 0 where
  pub slot : ℕ
  pub lowest : lowest_slot (holds k f) ss ≡ Some slot
  pub inside : slot < length ss
  pub here : get_or ss slot None ≡ Some e
  pub named : Named k f e

-- the entry of a name stands in a slot, and has that name
pub entry_some : (k f : List ℕ) (ss : List Slot) (e : Entry) → entry_of k f ss ≡ Some e → Stands k f ss e
unfolding or_else
entry_some k f ss e h = go (lowest_slot (holds k f) ss) refl (rw entry_lowest at h)
  where
    go : (o : Option ℕ) → lowest_slot (holds k f) ss ≡ o → or_else o None (λ i. get_or ss i None) ≡ Some e → Stands k f ss e
    go None q r = absurd (none-some e r)
    go (Some i) q r =
        let l : Lowest (holds k f) ss i = lowest_some (holds k f) ss i q in
        record { slot = i; lowest = q; inside = l.inside; here = r; named = holds_named k f e (rw r at l.here) }

-- a name without an entry stands in no slot
pub entry_none : (k f : List ℕ) (ss : List Slot) → entry_of k f ss ≡ None → (i : ℕ) → holds k f (get_or ss i None) ≡ false
unfolding or_else
entry_none k f ss h = go (lowest_slot (holds k f) ss) refl (rw entry_lowest at h)
  where
    go : (o : Option ℕ) → lowest_slot (holds k f) ss ≡ o → or_else o None (λ i. get_or ss i None) ≡ None → (i : ℕ) → holds k f (get_or ss i None) ≡ false
    go None q r = lowest_nowhere (holds k f) ss (holds_none k f) q
    go (Some i) q r =
        let l : holds k f None ≡ true = rw r at (lowest_some (holds k f) ss i q).here in
        both_ways l (holds_none k f)

-- where no slot holds a name there is no entry of it
pub lowest_entry_none : (k f : List ℕ) (ss : List Slot) → lowest_slot (holds k f) ss ≡ None → entry_of k f ss ≡ None
unfolding or_else
lowest_entry_none k f ss h = rw (entry_lowest, h)

-- the entry of a name fits
pub entry_fits : (k f : List ℕ) (ss : List Slot) (e : Entry) → AllFit ss → entry_of k f ss ≡ Some e → Fits e
entry_fits k f ss e a h =
    let s : Stands k f ss e = entry_some k f ss e h in
    subst FitsSlot s.here (a s.slot)

-- where no two slots have one name, a slot that holds a name is the lowest that does
pub lowest_only : (k f : List ℕ) (ss : List Slot) (i : ℕ) → Apart ss → holds k f (get_or ss i None) ≡ true → lowest_slot (holds k f) ss ≡ Some i
lowest_only k f ss i a h = go (lowest_slot (holds k f) ss) refl
  where
    go : (o : Option ℕ) → lowest_slot (holds k f) ss ≡ o → o ≡ Some i
    go None q = both_ways h (lowest_nowhere (holds k f) ss (holds_none k f) q i)
    go (Some j) q = ap Some (holds_only k f ss a j i (lowest_some (holds k f) ss j q).here h)

-- and its entry is that of the name
pub entry_is : (ss : List Slot) (i : ℕ) (e : Entry) → Apart ss → get_or ss i None ≡ Some e → entry_of e.key e.field ss ≡ Some e
entry_is ss i e a h = entry_at_lowest e.key e.field ss i (lowest_only e.key e.field ss i a (rw h (holds_own e))) ∙ h
