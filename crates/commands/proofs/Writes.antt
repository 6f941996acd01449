-- Every entry that a sound command writes fits, if its version does not pass its largest.
use Rattle.std.specs.Prelude.{Option, None, Some, unwrap_or}
use mathlib.Core.Path.{◌≡◌, refl, ◌∙◌}
use mathlib.Core.Bool.{Bool, true, false, cond, not, ◌&&◌}
use mathlib.Core.List.{List, [], ◌∷◌, map}
use Prim.Native.Nat.{ℕ, suc, ◌≤◌}
use lib.IntN.{ℤ, pos, negsuc, ◌+ℤ◌}
use lib.ListN.{length}
use native.Mathlib.Omega.{arith}
use borrow.Author.Tests.{ltb-false, not-false}
use Rattle.wire.specs.Lists.{any, or_else}
use Rattle.wire.specs.Integers.{lowest64, highest64, within, integer_text}
use Rattle.wire.specs.Words.{Word}
use Rattle.wire.specs.Replies.{integer, number}
use Rattle.wire.proofs.IntegerLaws.{bytes_integer_text, length_integer_text}
use Rattle.wire.proofs.Lists.{and_left, or_left, or_right}
use Rattle.store.specs.Layout.{key_most, field_most, value_most, version_most, time_limit}
use Rattle.store.specs.Store.{Entry, Slot, instant_of}
use Rattle.store.specs.Time.{entry_of, put}
use Rattle.store.specs.Promises.{stamped}
use Rattle.store.specs.Valid.{Fits, FitsSlot, AllFit, Apart}
use Rattle.store.proofs.Slots.{entry_fits}
use Rattle.store.proofs.Put.{length_put, put_fits, put_apart}
use Rattle.store.proofs.Without.{length_without, without_fits, without_apart}
use Rattle.commands.specs.declared.Versioning.{Versioning}
use Rattle.commands.specs.declared.Versioning.TheVariants.{Next}
use Rattle.commands.specs.declared.Lifetime.{Lifetime}
use Rattle.commands.specs.declared.Lifetime.TheVariants.{Clear, Keep, Until}
use Rattle.commands.specs.Command.{Deed, Pair, Command, key_of, fields_of, values_of, deed_values}
use Rattle.commands.specs.Command.Deed.{assign, increment, expire, persist, renumber, ask}
use Rattle.commands.specs.Command.Command.{on_field, set_many, get_many, delete, count_held, count_live, list}
use Rattle.commands.specs.Parse.{beyond, deed_lifetime, on_deed}
use Rattle.commands.specs.Effect.{Change, Effect, answer, writing, change, change_all, next_expiry, has_expiry, barred, is_stale, written, set_effect, counted, increment_effect, expire_effect, persist_effect, renumber_effect, deed_effect, writes_of, effect}
use Rattle.commands.specs.Effect.Change.{write, remove}
use Rattle.commands.specs.Execute.{passes}
use Rattle.commands.proofs.Sound.{Bounded, AllBounded, Sound}

-- ---- slots that are changed

-- an entry that fits if its version does
abbrev pub FitsOnce : Change → Type 0
FitsOnce (write e) = e.version ≤ version_most → Fits e
FitsOnce (remove k f) = Unit {0}

abbrev pub AllFitOnce : List Change → Type 0
AllFitOnce [] = Unit {0}
AllFitOnce (c ∷ cs) = FitsOnce c × AllFitOnce cs

change_fits : (now : ℕ) (c : Change) (ss : List Slot) → passes c ≡ false → FitsOnce c → AllFit ss → AllFit (change now c ss)
unfolding change passes
change_fits now (write e) ss p w h = put_fits now e ss (w (ltb-false version_most e.version p)) h
change_fits now (remove k f) ss p w h = without_fits _ ss h

-- Changes whose entries fit leave slots that fit.
pub changes_fit : (now : ℕ) (cs : List Change) (ss : List Slot) → any passes cs ≡ false → AllFitOnce cs → AllFit ss → AllFit (change_all now cs ss)
unfolding change_all any
changes_fit now [] ss p w h = h
changes_fit now (c ∷ cs) ss p w h =
    changes_fit now cs (change now c ss) (or_right (passes c) (any passes cs) p) w.1
    (change_fits now c ss (or_left (passes c) (any passes cs) p) w.0 h)

change_apart : (now : ℕ) (c : Change) (ss : List Slot) → Apart ss → Apart (change now c ss)
unfolding change
change_apart now (write e) ss h = put_apart now e ss h
change_apart now (remove k f) ss h = without_apart _ ss h

-- No change leaves two slots of one key and field.
pub changes_apart : (now : ℕ) (cs : List Change) (ss : List Slot) → Apart ss → Apart (change_all now cs ss)
unfolding change_all
changes_apart now [] ss h = h
changes_apart now (c ∷ cs) ss h = changes_apart now cs (change now c ss) (change_apart now c ss h)

length_change : (now : ℕ) (c : Change) (ss : List Slot) → length (change now c ss) ≡ length ss
unfolding change
length_change now (write e) ss = length_put now e ss
length_change now (remove k f) ss = length_without _ ss

-- No change adds a slot or takes one away.
pub length_changes : (now : ℕ) (cs : List Change) (ss : List Slot) → length (change_all now cs ss) ≡ length ss
unfolding change_all
length_changes now [] ss = refl
length_changes now (c ∷ cs) ss = length_changes now cs (change now c ss) ∙ length_change now c ss

-- ---- the entries that are written

-- The entry of a key and a field, if it is found, fits.
pub found_fits : (k f : Word) (ss : List Slot) → AllFit ss → FitsSlot (entry_of k f ss)
found_fits k f ss h = go (entry_of k f ss) refl
  where
    go : (o : Option Entry) → entry_of k f ss ≡ o → FitsSlot o
    go None e = tt
    go (Some e) q = entry_fits k f ss e h q

-- An expiry that a field is given lies within the limit.
pub next_expiry_lem : (t : Lifetime) (found : Option Entry) → beyond t ≡ false → FitsSlot found → instant_of (next_expiry t found) ≤ time_limit
unfolding beyond next_expiry or_else instant_of
next_expiry_lem Clear found b h = omega arith
next_expiry_lem Keep None b h = omega arith
next_expiry_lem Keep (Some e) b h = h.expiry
next_expiry_lem (Until t) found b h = ltb-false time_limit t b

writing_fits : (k f v : Word) (n : Versioning) (t : Lifetime) (found : Option Entry) → Bounded key_most k → Bounded field_most f → Bounded value_most v
    → instant_of (next_expiry t found) ≤ time_limit → FitsOnce (write (written k f v n t found))
unfolding written
writing_fits k f v n t found hk hf hv x m =
    record {
      short = record { key = hk.short; field = hf.short; value = hv.short };
      version = m;
      expiry = x;
      key_bytes = hk.bytes;
      field_bytes = hf.bytes;
      value_bytes = hv.bytes;
    }

stamped_fits : (e : Entry) (v : ℕ) (t : Option ℕ) → Fits e → instant_of t ≤ time_limit → FitsOnce (write (stamped v t e))
stamped_fits e v t h x m =
    record {
      short = h.short;
      version = m;
      expiry = x;
      key_bytes = h.key_bytes;
      field_bytes = h.field_bytes;
      value_bytes = h.value_bytes;
    }

-- the text of a sum within 64 bits
sum_short : (z : ℤ) (t : Bool) → not (within lowest64 highest64 z && t) ≡ false → Bounded value_most (integer_text z)
sum_short z t h =
    record {
      short = omega (arith, length_integer_text z (and_left (within lowest64 highest64 z) t (not-false (within lowest64 highest64 z && t) h)));
      bytes = bytes_integer_text z;
    }

either_writable : (t : Bool) (a b : Effect) → AllFitOnce a.changes → AllFitOnce b.changes → AllFitOnce (cond t a b).changes
either_writable true a b h g = h
either_writable false a b h g = g

module _ (now : ℕ) (ss : List Slot) (k f : Word) (hk : Bounded key_most k) (hf : Bounded field_most f) where
  deed_writable : (d : Deed) (found : Option Entry) → AllBounded value_most (deed_values d) → beyond (deed_lifetime d) ≡ false → FitsSlot found
      → (deed_effect now ss k f d found).overflows ≡ false → AllFitOnce (deed_effect now ss k f d found).changes
  unfolding deed_effect deed_values deed_lifetime set_effect increment_effect expire_effect persist_effect renumber_effect or_else beyond instant_of
  deed_writable (assign v c n t) found hv b h o =
      either_writable (barred c found) (answer (integer (negsuc 0)))
      (writing (is_stale n found) (written k f v n t found) (number (or_else found 1 (λ e. 0))))
      tt
      (writing_fits k f v n t found hk hf (hv 0) (next_expiry_lem t found b h), tt)
  deed_writable (increment a l g n t) found hv b h o =
      (writing_fits k f (integer_text (unwrap_or (counted found) (pos 0) +ℤ a)) n t found hk hf (sum_short _ _ o) (next_expiry_lem t found b h), tt)
  deed_writable (expire t n) None hv b h o = tt
  deed_writable (expire t n) (Some e) hv b h o = (stamped_fits e _ (Some t) h (ltb-false time_limit t b), tt)
  deed_writable persist None hv b h o = tt
  deed_writable persist (Some e) hv b h o =
      either_writable (has_expiry e.expiry) (writing false (stamped e.version None e) (number 1)) (answer (number 0))
      (stamped_fits e e.version None h (omega arith), tt)
      tt
  deed_writable (renumber v) None hv b h o = tt
  deed_writable (renumber v) (Some e) hv b h o = (stamped_fits e v e.expiry h h.expiry, tt)
  deed_writable (ask q) found hv b h o = tt

pairs_writable : (now : ℕ) (k : Word) (ps : List Pair) (ss : List Slot) → Bounded key_most k → AllBounded field_most (map (λ p. p.field) ps)
    → AllBounded value_most (map (λ p. p.value) ps) → AllFitOnce (writes_of now k ps ss)
unfolding writes_of next_expiry instant_of
pairs_writable now k [] ss hk hf hv = tt
pairs_writable now k (p ∷ ps) ss hk hf hv =
    let e : Entry = written k p.field p.value Next Clear (entry_of k p.field ss) in (
      writing_fits k p.field p.value Next Clear (entry_of k p.field ss) hk (hf 0) (hv 0) (omega arith),
      pairs_writable now k ps (put now e ss) hk (λ i. hf (suc i)) (λ i. hv (suc i)),
    )

removes_writable : (k : Word) (fs : List Word) → AllFitOnce (map (remove k) fs)
removes_writable k [] = tt
removes_writable k (f ∷ fs) = (tt, removes_writable k fs)

-- What a sound command writes fits, where neither 22 nor 23 applies.
pub effect_writable : (now : ℕ) (c : Command) (ss : List Slot) → Sound c → AllFit ss → (effect now c ss).overflows ≡ false
    → AllFitOnce (effect now c ss).changes
unfolding effect key_of fields_of values_of on_deed
effect_writable now (on_field k f d) ss s h o =
    deed_writable now ss k f s.key (s.fields 0) d (entry_of k f ss) s.values s.within (found_fits k f ss h) o
effect_writable now (set_many k ps) ss s h o = pairs_writable now k ps ss s.key s.fields s.values
effect_writable now (get_many k fs q) ss s h o = tt
effect_writable now (delete k fs) ss s h o = removes_writable k fs
effect_writable now (count_held k) ss s h o = tt
effect_writable now (count_live k) ss s h o = tt
effect_writable now (list k l) ss s h o = tt
