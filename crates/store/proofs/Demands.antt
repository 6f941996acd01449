-- What M-103 says of the bytes that a search compares, over its definitions (specs/Search). `find::search` promises what they give.
use Rattle.std.specs.Prelude.{Option, None, Some, option_map}
use mathlib.Core.Path.{◌≡◌, refl, ap, ◌∙◌}
use mathlib.Core.Bool.{Bool, true, false, cond, not, ◌||◌}
use mathlib.Core.List.{List, [], ◌∷◌, ◌++◌, map}
use Prim.Native.Nat.{ℕ, zero, suc, ◌+◌, ◌≤◌}
use native.Mathlib.Omega.{arith}
use lib.Dec.{eqb}
use lib.ListN.{length, take, get_or, length-append}
use borrow.Author.Tests.{eq-eqb, ne_eqb}
use Rattle.wire.specs.Lists.{or_else}
use Rattle.wire.specs.Bytes.{same}
use Rattle.wire.proofs.Lists.{and_left, and_right, impossible}
use Rattle.wire.proofs.ByteLaws.{same_true}
use Rattle.store.specs.Store.{Entry, Slot, holds}
use Rattle.store.specs.Time.{lowest_slot}
use Rattle.store.specs.Search.{skipped, run_compared, slot_compared, compared}
use Rattle.store.specs.Promises.{searched}
use Rattle.store.proofs.Pieces.{total}
use Rattle.store.proofs.Runs.{compared_same, compared_most, compared_first, compared_until}

-- ---- which slots are skipped

-- "as soon as it is empty": an empty slot
pub empty_skipped : (k f : List ℕ) → skipped k f None ≡ true
unfolding skipped or_else
empty_skipped k f = refl

module _ (k f : List ℕ) (e : Entry) where
  -- "or its key .. length differs": one whose key is longer or shorter
  pub key_length_skipped : (length e.key ≡ length k → ⊥) → skipped k f (Some e) ≡ true
  unfolding skipped or_else
  key_length_skipped n = rw (ne_eqb (length e.key) (length k) n)

  -- "or field length": one whose field is
  pub field_length_skipped : (length e.field ≡ length f → ⊥) → skipped k f (Some e) ≡ true
  unfolding skipped or_else
  field_length_skipped n = rw (ne_eqb (length e.field) (length f) n) (go (eqb (length e.key) (length k)))
    where
      go : (b : Bool) → not b || true ≡ true
      go true = refl
      go false = refl

  -- and no other
  pub same_lengths_compared : length e.key ≡ length k → length e.field ≡ length f → skipped k f (Some e) ≡ false
  unfolding skipped or_else
  same_lengths_compared p q = rw (eq-eqb (length e.key) (length k) p, eq-eqb (length e.field) (length f) q)

-- ---- the bytes of one slot

-- "none for a slot skipped": it counts no byte
pub skipped_counts_none : (k f : List ℕ) (s : Slot) → skipped k f s ≡ true → slot_compared k f s ≡ 0
unfolding slot_compared
skipped_counts_none k f s h = rw h

module _ (k f : List ℕ) (e : Entry) where
  module _ (ke : length e.key ≡ length k) (fe : length e.field ≡ length f) where
    counts_run : slot_compared k f (Some e) ≡ run_compared (e.key ++ e.field) (k ++ f)
    unfolding slot_compared or_else
    counts_run = rw (same_lengths_compared k f e ke fe)

    -- "those up to and with the first that differs": where i bytes of key and field are the same and the next one is not, these and that one
    pub up_to_first : (i : ℕ) → take i (e.key ++ e.field) ≡ take i (k ++ f) → (get_or (e.key ++ e.field) i 0 ≡ get_or (k ++ f) i 0 → ⊥)
        → slot_compared k f (Some e) ≡ i + 1
    up_to_first i q d =
        let sizes : length (e.key ++ e.field) ≡ length (k ++ f) = rw (length-append, length-append, ke, fe) in
        counts_run ∙ compared_until i (e.key ++ e.field) (k ++ f) sizes q d

    -- "key before field": where the keys differ no byte of the field is compared
    pub no_field_byte : (e.key ≡ k → ⊥) → slot_compared k f (Some e) ≤ length k
    no_field_byte n = omega (arith, counts_run, compared_first e.key k e.field f ke n, compared_most e.key k)

  -- "or all": a match counts every byte of key and field
  pub all_of_match : holds k f (Some e) ≡ true → slot_compared k f (Some e) ≡ length k + length f
  unfolding holds or_else
  all_of_match h =
      let p : e.key ≡ k = same_true e.key k (and_left (same e.key k) (same e.field f) h) in
      let q : e.field ≡ f = same_true e.field f (and_right (same e.key k) (same e.field f) h) in
      counts_run (ap length p) (ap length q) ∙ rw (p, q, compared_same (k ++ f), length-append k f)

  -- never more than all
  pub at_most_all : slot_compared k f (Some e) ≤ length k + length f
  unfolding slot_compared or_else
  at_most_all = go (skipped k f (Some e))
    where
      go : (b : Bool) → cond b 0 (run_compared (e.key ++ e.field) (k ++ f)) ≤ length k + length f
      go true = omega arith
      go false = omega (arith, compared_most (e.key ++ e.field) (k ++ f), length-append k f)

  -- a dead slot is compared like a live one: value, version and expiry don't count
  pub name_alone_counts : (e' : Entry) → e.key ≡ e'.key → e.field ≡ e'.field → slot_compared k f (Some e) ≡ slot_compared k f (Some e')
  unfolding slot_compared skipped or_else
  name_alone_counts e' p q = rw (p, q)

-- ---- the search

-- "slots in ascending order and ended by a match": the bytes of the slots before the match and of the match, and of none after it
pub ended_by_match : (k f : List ℕ) (ss : List Slot) (i : ℕ) → lowest_slot (holds k f) ss ≡ Some i
    → compared k f ss ≡ total (map (slot_compared k f) (take (suc i) ss))
unfolding compared lowest_slot total
ended_by_match k f [] i h = impossible cc
ended_by_match k f (s ∷ ss) i h = go (holds k f s) (lowest_slot (holds k f) ss) i (ended_by_match k f ss) h
  where
    go : (b : Bool) (o : Option ℕ) (i : ℕ) → ((j : ℕ) → o ≡ Some j → compared k f ss ≡ total (map (slot_compared k f) (take (suc j) ss)))
        → cond b (Some 0) (option_map suc o) ≡ Some i
        → slot_compared k f s + cond b 0 (compared k f ss) ≡ slot_compared k f s + total (map (slot_compared k f) (take i ss))
    go true o zero r h = refl
    go true o (suc i) r h = let z : ◌≡◌ {A = ℕ} 0 (suc i) = cc in absurd (omega arith)
    go false None i r h = impossible cc
    go false (Some j) zero r h = let z : ◌≡◌ {A = ℕ} 0 (suc j) = cc in absurd (omega arith)
    go false (Some j) (suc i) r h = ap (λ (n : ℕ). slot_compared k f s + n) (r i (cc))

-- without a match, those of all slots
pub without_match : (k f : List ℕ) (ss : List Slot) → lowest_slot (holds k f) ss ≡ None → compared k f ss ≡ total (map (slot_compared k f) ss)
unfolding compared lowest_slot total
without_match k f [] h = refl
without_match k f (s ∷ ss) h = go (holds k f s) (lowest_slot (holds k f) ss) (without_match k f ss) h
  where
    go : (b : Bool) (o : Option ℕ) → (o ≡ None → compared k f ss ≡ total (map (slot_compared k f) ss)) → cond b (Some 0) (option_map suc o) ≡ None
        → slot_compared k f s + cond b 0 (compared k f ss) ≡ slot_compared k f s + total (map (slot_compared k f) ss)
    go true o r h = impossible cc
    go false None r h = ap (λ (n : ℕ). slot_compared k f s + n) (r refl)
    go false (Some j) r h = impossible cc

module _ (k f : List ℕ) (ss : List Slot) where
  -- "also hands back": the search answers the lowest slot that holds them, and these bytes
  pub answers_match : (i : ℕ) → lowest_slot (holds k f) ss ≡ Some i
      → searched k f ss ≡ record { found = Some i; compared = total (map (slot_compared k f) (take (suc i) ss)) }
  unfolding searched
  answers_match i h = λ j. record { found = (h j); compared = ended_by_match k f ss i h j }

  -- or that there is none, and these
  pub answers_nothing : lowest_slot (holds k f) ss ≡ None → searched k f ss ≡ record { found = None; compared = total (map (slot_compared k f) ss) }
  unfolding searched
  answers_nothing h = λ j. record { found = (h j); compared = without_match k f ss h j }
