-- Loops over the pairs that the words of a command say: what is left does the same.
use Rattle.std.specs.Prelude.{Option, None, Some, is_some, Ok, Err}
use mathlib.Core.Path.{◌≡◌, refl, sym, ap, subst, ◌∙◌}
use mathlib.Core.Bool.{Bool, true, false, cond, not, ◌||◌}
use mathlib.Core.List.{List, [], ◌∷◌, map}
use Prim.Native.Nat.{ℕ, suc, ◌+◌, ◌-◌, ◌*◌, ◌/◌, ◌≤◌, ◌<◌}
use native.Mathlib.Omega.{arith}
use borrow.Author.Tests.{ltb-false, lt-ltb, le-ltb, ne_eqb}
use lib.Dec.{ltb, eqb}
use lib.ListN.{length, drop, length-map}
use Rattle.wire.specs.Lists.{any, keep}
use Rattle.wire.specs.Bytes.{same}
use Rattle.wire.specs.Words.{Word, word_at}
use Rattle.wire.proofs.Lists.{impossible, or_left, or_right, or_neither, length_keep}
use Rattle.store.specs.Layout.{key_most, field_most, value_most, version_most}
use Rattle.store.specs.Store.{Entry, entry, Slot, Store, decode, holds, well_formed}
use Rattle.store.specs.Time.{lowest_slot, put}
use Rattle.store.specs.Promises.{Holds}
use Rattle.store.specs.Valid.{Short}
use Rattle.store.proofs.Finding.{any_lowest}
use Rattle.commands.specs.declared.refusal.Refusal.TheVariants.{VersionOverflow}
use Rattle.commands.specs.Command.{Pair, key_of, fields_of, values_of}
use Rattle.commands.specs.Command.Command.{set_many}
use Rattle.commands.specs.Parse.{pairs_of, too_long}
use Rattle.commands.specs.Effect.{change, change_all, next_expiry, written, writes_of}
use Rattle.commands.specs.Effect.Change.{write}
use Rattle.commands.specs.Execute.{passes}
use Rattle.commands.specs.Promises.{Sought, entry_for, with_put, held_version}
use Rattle.commands.specs.Promises.{fields_in, times_in, version_in, overflowing, missing, new_field, Telling, survey_of, pair_entry, Pairing, Placing, with_all}
use Rattle.commands.proofs.FieldDeeds.{sought_entry}
use Rattle.commands.proofs.FieldLoops.{words_from, next_word, length_from}
use Rattle.commands.proofs.Sound.{pair_count}
use Rattle.commands.proofs.PairOverflow.{next_is}

-- ---- the next pair

-- the pairs from pair i on, and their fields
unfoldable pub pairs_from : List Word → ℕ → List Pair
pairs_from ws i = pairs_of (words_from ws (2 * i))

unfoldable pub named_from : List Word → ℕ → List Word
named_from ws i = fields_in (words_from ws (2 * i))

pairs_none : (ws : List Word) → length ws ≤ 1 → pairs_of ws ≡ []
unfolding pairs_of
pairs_none [] l = refl
pairs_none (w ∷ []) l = refl
pairs_none (w ∷ v ∷ ws) l = absurd (let z : ⊥ = omega arith in z)

module _ (ws : List Word) (i : ℕ) where
  pub next_pair : i < length ws / 2 → {f v : Word} → f ≡ word_at (2 * i) ws → v ≡ word_at (2 * i + 1) ws
      → pairs_from ws i ≡ record { field = f; value = v } ∷ pairs_from ws (i + 1)
  unfolding pairs_from pairs_of
  next_pair l p q =
      let two : 2 * i + 1 + 1 ≡ 2 * (i + 1) = omega arith in
      rw (next_word ws (2 * i) (omega arith) p, next_word ws (2 * i + 1) (omega arith) q, two)

  pub no_pair : length ws / 2 ≤ i → pairs_from ws i ≡ []
  unfolding pairs_from
  no_pair l = pairs_none (words_from ws (2 * i)) (rw (length_from ws (2 * i)) (omega arith))

  -- and its field
  pub next_named : i < length ws / 2 → {f : Word} → f ≡ word_at (2 * i) ws → named_from ws i ≡ f ∷ named_from ws (i + 1)
  unfolding pairs_from named_from fields_in
  next_named l p = ap (map (λ x. x.field)) (next_pair l p refl)

  pub none_named_lem : length ws / 2 ≤ i → named_from ws i ≡ []
  unfolding pairs_from named_from fields_in
  none_named_lem l = ap (map (λ x. x.field)) (no_pair l)

  -- at most as many as a command has words
  pub few_named : length (named_from ws i) ≤ length ws
  unfolding named_from fields_in
  few_named =
      rw (length-map (pairs_of (words_from ws (2 * i))) (λ x. x.field))
      (omega (arith, pair_count (words_from ws (2 * i)), length_from ws (2 * i)))

pub few_fields : (ws : List Word) → length (fields_in ws) ≤ length ws
unfolding named_from words_from
few_fields ws = few_named ws 0

-- ---- how often a field comes again

few_times : (f : Word) (fs : List Word) → times_in f fs ≤ length fs
unfolding times_in
few_times f fs = length_keep (λ g. same g f) fs

module _ (f g : Word) (fs : List Word) where
  times_hit : same g f ≡ true → times_in f (g ∷ fs) ≡ suc (times_in f fs)
  unfolding times_in keep
  times_hit h = rw h

  times_skip : same g f ≡ false → times_in f (g ∷ fs) ≡ times_in f fs
  unfolding times_in keep
  times_skip h = rw h

times_none : (f : Word) → times_in f [] ≡ 0
unfolding times_in keep
times_none f = refl

-- n of a field's times among some are counted, those in the rest are not
pub record Repeating (f : Word) (fields rest : List Word) (n : ℕ) : Type 0 where
  pub sum : n + times_in f rest ≡ times_in f fields

module _ {f : Word} {fields rest : List Word} {n : ℕ} (r : Repeating f fields rest n) where
  pub repeating_few : n ≤ length fields
  repeating_few = omega (arith, r.sum, few_times f fields)

  pub repeating_ends : rest ≡ [] → n ≡ times_in f fields
  repeating_ends q = omega (arith, r.sum, ap (times_in f) q, times_none f)

  module _ {g : Word} {more : List Word} (q : rest ≡ g ∷ more) {t : Bool} (e : t ≡ same g f) where
    pub repeating_hit : t ≡ true → Repeating f fields more (n + 1)
    repeating_hit h = record { sum = omega (arith, r.sum, ap (times_in f) q, times_hit f g more (sym e ∙ h)) }

    pub repeating_skip : t ≡ false → Repeating f fields more n
    repeating_skip h = record { sum = omega (arith, r.sum, ap (times_in f) q, times_skip f g more (sym e ∙ h)) }

-- the field of pair i comes again so often
module _ (ws : List Word) (i : ℕ) {f : Word} {r : ℕ} (q : f ≡ word_at (2 * i) ws)
    (e : r ≡ times_in (word_at (2 * i) ws) (fields_in (drop (2 * (i + 1)) ws))) where
  pub again_is : r ≡ times_in f (named_from ws (i + 1))
  unfolding named_from words_from
  again_is = rw q e

  pub again_few : r ≤ length ws
  again_few = omega (arith, again_is, few_times f (named_from ws (i + 1)), few_named ws (i + 1))

-- ---- what these times tell

-- they tell it themselves
pub telling_all : {found : Option ℕ} {held times n : ℕ} → n ≡ times → Telling found held times n
telling_all e = record { most = omega arith; passes = rw e; added = rw e }

-- of a field that is held, with a version far from the largest, 0 tells as much
pub telling_none : {found : Option ℕ} {held times most : ℕ} → is_some found ≡ true → held < version_most - most → times ≤ most → Telling found held times 0
unfolding new_field
telling_none {found} {held} {times} e l m =
    record {
      most = omega arith;
      passes = le-ltb version_most (held + (0 + 1)) (omega arith) ∙ sym (le-ltb version_most (held + (times + 1)) (omega arith));
      added = go found e;
    }
  where
    go : (o : Option ℕ) → is_some o ≡ true → new_field o 0 ≡ new_field o times
    go (Some i) q = refl
    go None q = impossible cc

module _ (ws : List Word) (i : ℕ) where
  pub times_few : times_in (word_at (2 * i) ws) (fields_in (drop (2 * (i + 1)) ws)) ≤ length ws
  times_few = again_few ws i refl refl

  pub telling_is : {found : Option ℕ} {held n : ℕ} {f : Word} → f ≡ word_at (2 * i) ws
      → Telling found held (times_in (word_at (2 * i) ws) (fields_in (drop (2 * (i + 1)) ws))) n
      → Telling found held (times_in f (named_from ws (i + 1))) n
  unfolding named_from words_from
  telling_is q t = rw q t

-- ---- what the pairs would do

-- a field is among some if it comes again
named_times : (f : Word) (fs : List Word) → any (λ g. same g f) fs ≡ not (eqb (times_in f fs) 0)
unfolding any times_in keep
named_times f [] = refl
named_times f (g ∷ gs) = go (same g f) (named_times f gs)
  where
    go : (t : Bool) → any (λ h. same h f) gs ≡ not (eqb (length (keep (λ h. same h f) gs)) 0)
        → t || any (λ h. same h f) gs ≡ not (eqb (length (cond t (g ∷ keep (λ h. same h f) gs) (keep (λ h. same h f) gs))) 0)
    go true q = sym (rw (ne_eqb (suc (length (keep (λ h. same h f) gs))) 0 (λ z. omega arith)))
    go false q = q

-- one more field that is missing, or not
missing_more : (k f : Word) (fs : List Word) (ss : List Slot) {found : Option ℕ} {again : ℕ} → found ≡ lowest_slot (holds k f) ss
    → again ≡ times_in f fs
    → missing k (f ∷ fs) ss ≡ new_field found again + missing k fs ss
unfolding missing new_field
missing_more k f fs ss h q = rw (h, q, any_lowest (holds k f) ss, named_times f fs) (go (lowest_slot (holds k f) ss) (eqb (times_in f fs) 0) refl)
  where
    go : (o : Option ℕ) (t : Bool) → eqb (times_in f fs) 0 ≡ t
        → cond (not (is_some o || not t)) (suc (missing k fs ss)) (missing k fs ss) ≡ new_field (o) (times_in f fs) + missing k fs ss
    go (Some i) t e = omega arith
    go None true e = rw e (omega arith)
    go None false e = rw e (omega arith)

pub missing_most : (k : Word) (fs : List Word) (ss : List Slot) → missing k fs ss ≤ length fs
unfolding missing
missing_most k [] ss = omega arith
missing_most k (f ∷ fs) ss = go (not (any (holds k f) ss || any (λ g. same g f) fs)) (missing_most k fs ss)
  where
    go : (t : Bool) → missing k fs ss ≤ length fs → cond t (suc (missing k fs ss)) (missing k fs ss) ≤ suc (length fs)
    go true h = omega arith
    go false h = omega arith

-- n of the missing fields are counted, and none of the fields so far passes the largest version
pub record Surveying (k : Word) (fields rest : List Word) (ss : List Slot) (n : ℕ) : Type 0 where
  pub sum : n + missing k rest ss ≡ missing k fields ss
  pub same : overflowing (version_in k ss) rest ≡ overflowing (version_in k ss) fields

module _ {k : Word} {fields rest : List Word} {ss : List Slot} {n : ℕ} (s : Surveying k fields rest ss n) where
  -- few are counted
  pub surveying_few : n ≤ length fields
  surveying_few = omega (arith, s.sum, missing_most k fields ss)

  pub surveying_ends : rest ≡ [] → Ok n ≡ survey_of k fields ss
  unfolding survey_of overflowing missing
  surveying_ends q =
      let m : n ≡ missing k fields ss = omega (arith, s.sum, ap (λ (fs : List Word). missing k fs ss) q) in
      rw (← s.same, q, ← m)

  module _ {f : Word} {more : List Word} {found : Option ℕ} {held again : ℕ} (q : rest ≡ f ∷ more) (v : held ≡ version_in k ss f)
      (a : Telling found held (times_in f more) again) where
    passes_here : ltb version_most (held + (again + 1)) || overflowing (version_in k ss) more ≡ overflowing (version_in k ss) fields
    unfolding overflowing
    passes_here =
        let e : times_in f more + 1 ≡ suc (times_in f more) = omega arith in
        rw (a.passes, e, v) (ap (overflowing (version_in k ss)) (sym q) ∙ s.same)

    -- the field passes the largest version
    pub surveying_over : version_most < held + (again + 1) → Err VersionOverflow ≡ survey_of k fields ss
    unfolding survey_of
    surveying_over h = rw (← passes_here, lt-ltb version_most (held + (again + 1)) h)

    -- or not
    pub surveying_on : held + (again + 1) ≤ version_most → {r : ℕ} → found ≡ lowest_slot (holds k f) ss
        → r ≡ new_field found again
        → Surveying k fields more ss (n + r)
    surveying_on h g w =
        record {
          sum = omega (arith, s.sum, ap (λ (fs : List Word). missing k fs ss) q, missing_more k f more ss g refl, w, a.added);
          same = rw (le-ltb version_most (held + (again + 1)) h) at passes_here;
        }

-- ---- the pairs are written

module _ (k : Word) (p : Pair) (ps : List Pair) (h : too_long (set_many k (p ∷ ps)) ≡ false) where
  module _ (a b c d e : Bool) where
    apart : (a || (b || c)) || (d || e) ≡ false → (a ≡ false) × (b ≡ false) × (d ≡ false) × ((a || c) || e ≡ false)
    apart q =
        let ab = or_left (a || (b || c)) (d || e) q in
        let de = or_right (a || (b || c)) (d || e) q in
        let bc = or_right a (b || c) ab in
        (or_left a (b || c) ab, or_left b c bc, or_left d e de, or_neither (or_neither (or_left a (b || c) ab) (or_right b c bc)) (or_right d e de))

  -- the first pair is short, and so are the others
  short_parts : Short k p.field p.value × (too_long (set_many k ps) ≡ false)
  unfolding too_long key_of fields_of values_of any
  short_parts =
      let r =
      apart
      (ltb key_most (length k))
      (ltb field_most (length p.field))
      (any (λ f. ltb field_most (length f)) (map (λ q. q.field) ps))
      (ltb value_most (length p.value))
      (any (λ v. ltb value_most (length v)) (map (λ q. q.value) ps))
      h in (
        record {
          key = ltb-false key_most (length k) r.0;
          field = ltb-false field_most (length p.field) r.1;
          value = ltb-false value_most (length p.value) r.2;
        },
        r.3,
      )

-- of pairs, some are left to write
pub record Writing (now : ℕ) (k : Word) (pairs left : List Pair) (before after : List ℕ) : Type 0 where
  pub placing : Placing now k left after
  pub same : with_all now k left (decode after) ≡ with_all now k pairs (decode before)

module _ {now : ℕ} {k : Word} {pairs left : List Pair} {b d : List ℕ} (w : Writing now k pairs left b d) where
  pub writing_ends : left ≡ [] → Holds d (with_all now k pairs (decode b))
  unfolding with_all writes_of change_all
  writing_ends q =
      record { means = ap (λ (ps : List Pair). with_all now k ps (decode d)) (sym q) ∙ w.same; well = w.placing.well }

  module _ {f v : Word} {more : List Pair} (q : left ≡ record { field = f; value = v } ∷ more) where
    abbrev one : Pair
    one = record { field = f; value = v }

    parts : Short k f v × (too_long (set_many k more) ≡ false)
    parts = short_parts k one more (ap (λ (ps : List Pair). too_long (set_many k ps)) (sym q) ∙ w.placing.short)

    abbrev own : Entry
    own = pair_entry k f v (decode d).slots

    abbrev others : Bool
    others = any passes (writes_of now k more (put now own (decode d).slots))

    numbers : (passes (write own) || others) ≡ false
    unfolding writes_of any
    numbers = ap (λ (ps : List Pair). any passes (writes_of now k ps (decode d).slots)) (sym q) ∙ w.placing.numbered

    -- the next pair can be written
    pub writing_next : Pairing d k f v
    unfolding passes
    writing_next =
        record {
          well = w.placing.well;
          short = parts.0;
          version =
              omega (
                arith,
                ltb-false version_most own.version (or_left (passes (write own)) others numbers),
                next_is k one (decode d).slots,
              );
        }

    -- it is written
    pub writing_on : {e : List ℕ} → Holds e (with_put now own (decode d)) → Writing now k pairs more b e
    unfolding with_all writes_of change_all change with_put
    writing_on h =
        record {
          placing =
              record {
                well = h.well;
                short = parts.1;
                numbered = ap (λ (s : Store). any passes (writes_of now k more s.slots)) h.means
                    ∙ or_right (passes (write own)) others numbers;
              };
          same = ap (with_all now k more) h.means ∙ ap (λ (ps : List Pair). with_all now k ps (decode d)) (sym q) ∙ w.same;
        }

-- ---- one pair

-- the version that is held in the slot that was found
pub version_sought : {b k f : List ℕ} {r : Option ℕ} {n : ℕ} → Sought b k f r → n ≡ held_version (entry_for (decode b).slots r)
    → n ≡ version_in k (decode b).slots f
unfolding version_in
version_sought s q = q ∙ ap held_version (sym (sought_entry s))

-- the entry that is placed is the pair's
pub placed_entry : (k f v : Word) (ss : List Slot) {n : ℕ} → n ≡ version_in k ss f → entry k f v (n + 1) None ≡ pair_entry k f v ss
unfolding written next_expiry
placed_entry k f v ss q = ap (λ (m : ℕ). entry k f v m None) (rw q (sym (next_is k (record { field = f; value = v }) ss)))

pub placed_pair : (now : ℕ) (k f v : Word) (s : Store) {n : ℕ} {d : List ℕ} → n ≡ version_in k s.slots f
    → Holds d (with_put now (entry k f v (n + 1) None) s) → Holds d (with_put now (pair_entry k f v s.slots) s)
placed_pair now k f v s {d = d} q h = subst (λ (e : Entry). Holds d (with_put now e s)) (placed_entry k f v s.slots q) h

-- What the code knows of the field at i tells whether it passes the largest version.
abbrev pub Passing : List Word → List ℕ → Word → ℕ → Type 0
Passing ws b k i = (f : Word) (found : Option ℕ) (held again : ℕ) → i < length ws / 2 → f ≡ word_at (2 * i) ws
    → found ≡ lowest_slot (holds k f) (decode b).slots → held ≡ held_version (entry_for (decode b).slots found)
    → Telling found held (times_in (word_at (2 * i) ws) (fields_in (drop (2 * (i + 1)) ws))) again → version_most < held + (again + 1)
    → Err VersionOverflow ≡ survey_of k (fields_in ws) (decode b).slots

pub survey_passes : (ws : List Word) (b : List ℕ) (k : Word) (i : ℕ) {n : ℕ} → well_formed b ≡ true
    → Surveying k (fields_in ws) (named_from ws i) (decode b).slots n → Passing ws b k i
survey_passes ws b k i w now f found held again l e q v t h =
    surveying_over now (next_named _ _ l e) (version_sought (record { well = w; looked = q }) v) (telling_is _ _ e t) h
