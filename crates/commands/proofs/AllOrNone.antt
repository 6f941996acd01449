-- An EXHMSET that is not refused writes all of its pairs.
use Rattle.std.specs.Prelude.{Option, None, Some}
use mathlib.Core.Path.{◌≡◌, refl, ◌∙◌}
use mathlib.Core.Bool.{Bool, true, false, cond, ◌||◌, and-false}
use mathlib.Core.List.{List, [], ◌∷◌, map}
use Prim.Native.Nat.{ℕ, ◌≤◌}
use lib.ListN.{get_or}
use Rattle.wire.specs.Lists.{any, or_else}
use Rattle.wire.specs.Bytes.{same}
use Rattle.wire.specs.Words.{Word}
use Rattle.wire.proofs.Lists.{impossible, or_neither, both_ways}
use Rattle.wire.proofs.ByteLaws.{same_refl, same_true}
use Rattle.store.specs.Store.{Entry, Slot, Store, holds}
use Rattle.store.specs.Time.{now_at, before, live, live_slot, slot_for, put}
use Rattle.store.specs.Valid.{Apart}
use Rattle.store.proofs.Slots.{holds_none, holds_named, entry_is}
use Rattle.store.proofs.Put.{put_apart, put_here}
use Rattle.commands.specs.Command.{Pair, key_of, fields_of}
use Rattle.commands.specs.Command.Command.{set_many}
use Rattle.commands.specs.Parse.{parse}
use Rattle.commands.specs.Parse.Parsed.{accepted}
use Rattle.commands.specs.Effect.{Change, change, change_all, next_expiry, written, writes_of, effect}
use Rattle.commands.specs.Execute.{Outcome, exec}
use Rattle.commands.specs.Claims.{last_of, Written}
use Rattle.commands.proofs.Writes.{changes_apart}
use Rattle.commands.proofs.Went.{Went, went, swept_by}
use Rattle.commands.proofs.Went.Went.{early, late, done}
use Rattle.commands.proofs.Full.{added_by, room_in, proper}
use Rattle.commands.proofs.Sweep.{sweep_apart, sweep_alive}
use Rattle.commands.proofs.Ready.{Ready, put_ready}
use Rattle.commands.proofs.Others.{changes_keep, other_pairs}
use Rattle.commands.proofs.Names.{named, named_flip, added_missing, pair_entry}

-- a field that has no pair is not named
unnamed : (f : Word) (ps : List Pair) → last_of f ps ≡ None → named f (map (λ p. p.field) ps) ≡ false
unfolding last_of any or_else
unnamed f [] h = refl
unnamed f (p ∷ ps) h = go (unnamed f ps) (last_of f ps) refl (same p.field f) refl h
  where
    go : (last_of f ps ≡ None → named f (map (λ q. q.field) ps) ≡ false) → (o : Option Word) → last_of f ps ≡ o → (t : Bool)
        → same p.field f ≡ t → or_else o (cond t (Some p.value) None) Some ≡ None
        → (same p.field f || named f (map (λ q. q.field) ps)) ≡ false
    go ih (Some v) a t b h = cc
    go ih None a true b h = cc
    go ih None a false b h = or_neither b (ih a)

-- an entry that is put and that no later pair concerns stays
pair_stays : (now : ℕ) (k : Word) (p : Pair) (ps : List Pair) (ss : List Slot) (i : ℕ) → Apart ss
    → slot_for now k p.field ss ≡ Some i → named p.field (map (λ q. q.field) ps) ≡ false
    → Written k p.field p.value (change_all now (writes_of now k ps (put now (pair_entry k p.field p.value ss) ss)) (put now (pair_entry k p.field p.value ss) ss))
unfolding written next_expiry live before
pair_stays now k p ps ss i a q n =
    let e : Entry = pair_entry k p.field p.value ss in
    let ss₁ : List Slot = put now e ss in
    let cs : List Change = writes_of now k ps ss₁ in
    record {
      entry = e;
      here = entry_is (change_all now cs ss₁) i e (changes_apart now cs ss₁ (put_apart now e ss a))
          (changes_keep now cs ss₁ i e (put_here now e ss i q) refl
          (other_pairs now k ps ss₁ e (simp (named_flip p.field (map (λ q. q.field) ps), n, and-false))));
      value = refl;
      expiry = refl;
    }

-- On ready slots every field ends with the value of its last pair.
pairs_written : (now : ℕ) (k : Word) (ps : List Pair) (ss : List Slot) → Ready now k (map (λ p. p.field) ps) ss
    → (f v : Word) → last_of f ps ≡ Some v → Written k f v (change_all now (writes_of now k ps ss) ss)
unfolding writes_of change_all change last_of or_else written next_expiry live before
pairs_written now k [] ss r f v h = impossible cc
pairs_written now k (p ∷ ps) ss r f v h =
    let q = put_ready now (pair_entry k p.field p.value ss) (map (λ p. p.field) ps) ss refl r in
    go q (pairs_written now k ps (put now (pair_entry k p.field p.value ss) ss) q.2 f v) (last_of f ps) refl (same p.field f) refl h
  where
    after_all : List Slot
    after_all = change_all now (writes_of now k ps (put now (pair_entry k p.field p.value ss) ss)) (put now (pair_entry k p.field p.value ss) ss)

    go : (i : ℕ) × (slot_for now k p.field ss ≡ Some i) × Ready now k (map (λ p. p.field) ps) (put now (pair_entry k p.field p.value ss) ss)
        → (last_of f ps ≡ Some v → Written k f v after_all) → (o : Option Word) → last_of f ps ≡ o → (t : Bool) → same p.field f ≡ t
        → or_else o (cond t (Some p.value) None) Some ≡ Some v → Written k f v after_all
    go q ih (Some w) a t b h = ih (a ∙ h)
    go q ih None a true b h =
        let d : p.field ≡ f = same_true p.field f b in
        let m : p.value ≡ v = cc in
        rw (← d, ← m) (pair_stays now k p ps ss q.0 r.apart q.1 (rw d (unnamed f ps a)))
    go q ih None a false b h = impossible cc

-- ---- after the sweep

-- after its sweep, and where 24 does not apply, the slots are ready for an EXHMSET
swept_ready : (now : ℕ) (k : Word) (ps : List Pair) (s : Store) → Apart s.slots → added_by now (set_many k ps) s ≤ room_in now (set_many k ps) s
    → Ready now k (map (λ p. p.field) ps) (swept_by now (set_many k ps) s)
unfolding effect key_of fields_of live_slot or_else
swept_ready now k ps s a h =
    record {
      apart = sweep_apart now k (map (λ p. p.field) ps) s.slots a;
      enough = rw (added_missing now k ps (swept_by now (set_many k ps) s) (swept_by now (set_many k ps) s)) at h;
      alive = λ f n i. go f n i (get_or (swept_by now (set_many k ps) s) i None) refl;
    }
  where
    go : (f : Word) → named f (map (λ p. p.field) ps) ≡ true → (i : ℕ) (x : Slot) → get_or (swept_by now (set_many k ps) s) i None ≡ x
        → holds k f x ≡ true → live_slot now x ≡ true
    go f n i None q t = both_ways t (holds_none k f)
    go f n i (Some e) q t =
        let m = holds_named k f e t in
        sweep_alive now k (map (λ p. p.field) ps) s.slots i e q (rw (m.key, same_refl k, m.field, named_flip f (map (λ p. p.field) ps)) n)

-- Where an EXHMSET is not refused, the entry of each of its fields has the value of the field's last pair.
pub all_set : (clock : ℕ) (command : List ℕ) (s : Store) (k : Word) (ps : List Pair) → Apart s.slots
    → parse (now_at clock s) clock command ≡ accepted (set_many k ps) → (exec clock command s).refusal ≡ None
    → (f v : Word) → last_of f ps ≡ Some v → Written k f v (exec clock command s).store.slots
unfolding effect
all_set clock command s k ps a p = go (went clock command s)
  where
    go : {o : Outcome} → Went clock command s o → o.refusal ≡ None → (f v : Word) → last_of f ps ≡ Some v → Written k f v o.store.slots
    go (early n q) e f v h = impossible cc
    go (late c n q l) e f v h = impossible cc
    go (done c q l) e f v h =
        let m : c ≡ set_many k ps = cc in
        rw m
        (pairs_written (now_at clock s) k ps (swept_by (now_at clock s) (set_many k ps) s)
        (swept_ready (now_at clock s) k ps s a (proper (now_at clock s) (set_many k ps) s (rw m at l)).1)
        f
        v
        h)
