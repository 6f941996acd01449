-- A command changes no live entry that it does not name, and makes no other entry that it does not name.
use Rattle.std.specs.Prelude.{Option, None, Some}
use mathlib.Core.Path.{◌≡◌, refl, ◌∙◌}
use mathlib.Core.Bool.{Bool, true, false, cond, ◌&&◌, ◌||◌}
use mathlib.Core.List.{List, [], ◌∷◌, map}
use Prim.Native.Nat.{ℕ}
use lib.ListN.{get_or}
use Rattle.wire.specs.Lists.{any, or_else}
use Rattle.wire.specs.Bytes.{same}
use Rattle.wire.specs.Words.{Word}
use Rattle.wire.proofs.Lists.{or_left, or_right, or_neither}
use Rattle.store.specs.Store.{Entry, Slot, Store, holds}
use Rattle.store.specs.Time.{now_at, live, live_slot, entry_of}
use Rattle.store.proofs.Slots.{Named, entry_some}
use Rattle.store.proofs.Put.{put_keeps, put_from}
use Rattle.store.proofs.Without.{without_keeps, without_from}
use Rattle.commands.specs.Command.{Deed, Pair, Command, key_of, fields_of}
use Rattle.commands.specs.Command.Deed.{assign, increment, expire, persist, renumber, ask}
use Rattle.commands.specs.Command.Command.{on_field, set_many, get_many, delete, count_held, count_live, list}
use Rattle.commands.specs.Effect.{Change, Effect, change, change_all, written, barred, has_expiry, set_effect, increment_effect, expire_effect, persist_effect, renumber_effect, deed_effect, writes_of, effect}
use Rattle.commands.specs.Effect.Change.{write, remove}
use Rattle.commands.specs.Parse.{parse}
use Rattle.commands.specs.Parse.Parsed.{accepted}
use Rattle.commands.specs.Execute.{Outcome, exec}
use Rattle.commands.specs.Claims.{names}
use Rattle.commands.proofs.Went.{Went, went, swept_by, effect_on}
use Rattle.commands.proofs.Went.Went.{early, late, done}
use Rattle.commands.proofs.Sweep.{sweep_keeps_live, sweep_from}

-- whether a change is of the entry's key and field
unfoldable pub concerns : Entry → Change → Bool
concerns e (write x) = holds x.key x.field (Some e)
concerns e (remove k f) = holds k f (Some e)

change_keeps : (now : ℕ) (c : Change) (ss : List Slot) (i : ℕ) (e : Entry) → get_or ss i None ≡ Some e → live now e ≡ true → concerns e c ≡ false
    → get_or (change now c ss) i None ≡ Some e
unfolding change concerns live_slot or_else holds
change_keeps now (write x) ss i e h l n = put_keeps now x ss i (rw h l) (rw h n) ∙ h
change_keeps now (remove k f) ss i e h l n = without_keeps _ ss i e h n

-- Changes keep a live entry that none of them concerns in its slot.
pub changes_keep : (now : ℕ) (cs : List Change) (ss : List Slot) (i : ℕ) (e : Entry) → get_or ss i None ≡ Some e → live now e ≡ true
    → any (concerns e) cs ≡ false → get_or (change_all now cs ss) i None ≡ Some e
unfolding change_all any
changes_keep now [] ss i e h l n = h
changes_keep now (c ∷ cs) ss i e h l n =
    changes_keep now cs (change now c ss) i e
    (change_keeps now c ss i e h l (or_left (concerns e c) (any (concerns e) cs) n))
    l
    (or_right (concerns e c) (any (concerns e) cs) n)

-- An entry that no change concerns and that stands in a slot then stood there before.
change_from : (now : ℕ) (c : Change) (ss : List Slot) (i : ℕ) (e : Entry) → concerns e c ≡ false → get_or (change now c ss) i None ≡ Some e
    → get_or ss i None ≡ Some e
unfolding change concerns
change_from now (write x) ss i e n h = put_from now x ss i e n h
change_from now (remove k f) ss i e n h = without_from _ ss i e h

changes_from : (now : ℕ) (cs : List Change) (ss : List Slot) (i : ℕ) (e : Entry) → any (concerns e) cs ≡ false
    → get_or (change_all now cs ss) i None ≡ Some e → get_or ss i None ≡ Some e
unfolding change_all any
changes_from now [] ss i e n h = h
changes_from now (c ∷ cs) ss i e n h =
    change_from now c ss i e (or_left (concerns e c) (any (concerns e) cs) n)
    (changes_from now cs (change now c ss) i e (or_right (concerns e c) (any (concerns e) cs) n) h)

-- ---- what a command names

-- an entry that is found has the key and the field that were looked for
abbrev FoundNamed : Word → Word → Option Entry → Type 0
FoundNamed k f None = Unit {0}
FoundNamed k f (Some x) = Named k f x

found_named : (k f : Word) (ss : List Slot) → FoundNamed k f (entry_of k f ss)
found_named k f ss = go (entry_of k f ss) refl
  where
    go : (o : Option Entry) → entry_of k f ss ≡ o → FoundNamed k f o
    go None q = tt
    go (Some x) q = (entry_some k f ss x q).named

and_or_left : (a b c : Bool) → (a && (b || c)) ≡ false → (a && b) ≡ false
and_or_left true b c h = or_left b c h
and_or_left false b c h = h

and_or_right : (a b c : Bool) → (a && (b || c)) ≡ false → (a && c) ≡ false
and_or_right true b c h = or_right b c h
and_or_right false b c h = h

other_either : (e : Entry) (t : Bool) (a b : Effect) → any (concerns e) a.changes ≡ false → any (concerns e) b.changes ≡ false
    → any (concerns e) (cond t a b).changes ≡ false
other_either e true a b h g = h
other_either e false a b h g = g

other_found : (e x : Entry) (k f : Word) → Named k f x → (same e.key k && same e.field f) ≡ false
    → (same e.key x.key && same e.field x.field) ≡ false
other_found e x k f m h = rw (m.key, m.field) h

other_deed : (now : ℕ) (ss : List Slot) (e : Entry) (k f : Word) (d : Deed) (found : Option Entry) → (same e.key k && same e.field f) ≡ false
    → FoundNamed k f found → any (concerns e) (deed_effect now ss k f d found).changes ≡ false
unfolding deed_effect set_effect increment_effect expire_effect persist_effect renumber_effect or_else written any concerns holds
other_deed now ss e k f (assign v c n t) found h m = other_either e (barred c found) _ _ refl (or_neither h refl)
other_deed now ss e k f (increment a l g n t) found h m = or_neither h refl
other_deed now ss e k f (expire t n) None h m = refl
other_deed now ss e k f (expire t n) (Some x) h m = or_neither (other_found e x k f m h) refl
other_deed now ss e k f persist None h m = refl
other_deed now ss e k f persist (Some x) h m = other_either e (has_expiry x.expiry) _ _ (or_neither (other_found e x k f m h) refl) refl
other_deed now ss e k f (renumber v) None h m = refl
other_deed now ss e k f (renumber v) (Some x) h m = or_neither (other_found e x k f m h) refl
other_deed now ss e k f (ask q) found h m = refl

-- The pairs of an EXHMSET concern no entry of another name.
pub other_pairs : (now : ℕ) (k : Word) (ps : List Pair) (ss : List Slot) (e : Entry)
    → (same e.key k && any (same e.field) (map (λ p. p.field) ps)) ≡ false → any (concerns e) (writes_of now k ps ss) ≡ false
unfolding writes_of any concerns written holds or_else
other_pairs now k [] ss e h = refl
other_pairs now k (p ∷ ps) ss e h =
    let a = same e.key k in
    let b = same e.field p.field in
    let c = any (same e.field) (map (λ q. q.field) ps) in
    or_neither (and_or_left a b c h) (other_pairs now k ps _ e (and_or_right a b c h))

other_removes : (k : Word) (fs : List Word) (e : Entry) → (same e.key k && any (same e.field) fs) ≡ false
    → any (concerns e) (map (remove k) fs) ≡ false
unfolding any concerns holds or_else
other_removes k [] e h = refl
other_removes k (f ∷ fs) e h =
    let a = same e.key k in
    let b = same e.field f in
    let c = any (same e.field) fs in
    or_neither (and_or_left a b c h) (other_removes k fs e (and_or_right a b c h))

-- No change of a command concerns an entry that it does not name.
pub effect_concerns : (now : ℕ) (c : Command) (ss : List Slot) (e : Entry) → names c e ≡ false → any (concerns e) (effect now c ss).changes ≡ false
unfolding effect key_of fields_of any
effect_concerns now (on_field k f d) ss e h =
    other_deed now ss e k f d (entry_of k f ss) (and_or_left (same e.key k) (same e.field f) false h) (found_named k f ss)
effect_concerns now (set_many k ps) ss e h = other_pairs now k ps ss e h
effect_concerns now (get_many k fs q) ss e h = refl
effect_concerns now (delete k fs) ss e h = other_removes k fs e h
effect_concerns now (count_held k) ss e h = refl
effect_concerns now (count_live k) ss e h = refl
effect_concerns now (list k l) ss e h = refl

-- Every live entry that an accepted command does not name keeps its slot.
pub others_kept : (clock : ℕ) (command : List ℕ) (s : Store) (c : Command) → parse (now_at clock s) clock command ≡ accepted c
    → (i : ℕ) (e : Entry) → get_or s.slots i None ≡ Some e → live (now_at clock s) e ≡ true → names c e ≡ false
    → get_or (exec clock command s).store.slots i None ≡ Some e
others_kept clock command s c a i e h l n = go (went clock command s)
  where
    go : {o : Outcome} → Went clock command s o → get_or o.store.slots i None ≡ Some e
    go (early k p) = h
    go (late d k p r) = sweep_keeps_live (now_at clock s) (key_of d) (fields_of d) s.slots i e h l
    go (done d p r) =
        let m : c ≡ d = cc in
        changes_keep (now_at clock s) (effect_on (now_at clock s) d s).changes (swept_by (now_at clock s) d s) i e
        (sweep_keeps_live (now_at clock s) (key_of d) (fields_of d) s.slots i e h l)
        l
        (effect_concerns (now_at clock s) d (swept_by (now_at clock s) d s) e (rw m at n))

-- Every entry that an accepted command does not name and that stands in a slot after it stood there before.
pub others_from : (clock : ℕ) (command : List ℕ) (s : Store) (c : Command) → parse (now_at clock s) clock command ≡ accepted c
    → (i : ℕ) (e : Entry) → names c e ≡ false → get_or (exec clock command s).store.slots i None ≡ Some e → get_or s.slots i None ≡ Some e
others_from clock command s c a i e n = go (went clock command s)
  where
    go : {o : Outcome} → Went clock command s o → get_or o.store.slots i None ≡ Some e → get_or s.slots i None ≡ Some e
    go (early k p) h = h
    go (late d k p r) h = sweep_from (now_at clock s) (key_of d) (fields_of d) s.slots i e h
    go (done d p r) h =
        let m : c ≡ d = cc in
        sweep_from (now_at clock s) (key_of d) (fields_of d) s.slots i e
        (changes_from (now_at clock s) (effect_on (now_at clock s) d s).changes (swept_by (now_at clock s) d s) i e
        (effect_concerns (now_at clock s) d (swept_by (now_at clock s) d s) e (rw m at n)) h)
