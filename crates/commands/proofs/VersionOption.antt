-- What a command with VER, ABS or GT does with its field: nothing, or one entry written at the version that the option gives.
use Rattle.std.specs.Prelude.{Option, None, Some}
use mathlib.Core.Path.{◌≡◌, refl, sym, ap, ◌∙◌}
use mathlib.Core.Logic.{◌≢◌, ◌⊎◌, inl, inr, ◌↔◌}
use mathlib.Core.Bool.{Bool, true, false, cond, not, ◌&&◌, ◌||◌}
use mathlib.Core.List.{List, [], ◌∷◌}
use Prim.Native.Nat.{ℕ, ◌≤◌}
use lib.Dec.{ltb}
use lib.IntN.{negsuc}
use native.Mathlib.Omega.{arith}
use borrow.Author.Tests.{not-true}
use Rattle.wire.specs.Lists.{any, or_else}
use Rattle.wire.specs.Words.{Word}
use Rattle.wire.specs.Replies.{integer, number}
use Rattle.wire.proofs.Lists.{and_left, and_right, both_ways}
use Rattle.wire.proofs.ByteLaws.{same_refl}
use Rattle.store.specs.Layout.{version_most}
use Rattle.store.specs.Store.{Entry, Slot, Store}
use Rattle.store.specs.Time.{now_at, live, entry_of, slot_for, put}
use Rattle.store.specs.Valid.{Apart}
use Rattle.store.proofs.Slots.{Named, entry_some, entry_is, holds_own}
use Rattle.store.proofs.Put.{put_entry}
use Rattle.commands.specs.declared.Versioning.{Versioning}
use Rattle.commands.specs.declared.Versioning.TheVariants.{Next, Match, Exactly, Above}
use Rattle.commands.specs.Command.{Deed, Command, key_of, fields_of}
use Rattle.commands.specs.Command.Deed.{assign, increment, expire, persist, renumber, ask}
use Rattle.commands.specs.Command.Command.{on_field}
use Rattle.commands.specs.Parse.{deed_versioning, parse}
use Rattle.commands.specs.Parse.Parsed.{accepted}
use Rattle.commands.specs.Effect.{Effect, answer, writing, change, change_all, next_version, is_stale, setter_version, barred, written, set_effect, increment_effect, expire_effect, deed_effect, effect}
use Rattle.commands.specs.Effect.Change.{write}
use Rattle.commands.specs.Execute.{sweep, passes, writes, adds, added, room, late_checks, exec}
use Rattle.commands.specs.Claims.{Applies, idle, Numbered}
use Rattle.commands.proofs.Went.{swept_by, effect_on, accepted_refusal}
use Rattle.commands.proofs.Sweep.{sweep_apart, sweep_from, sweep_keeps_live, found_alive}
use Rattle.commands.proofs.Room.{slot_none}
use Rattle.wire.proofs.Checks.{check_applies, check_passed, check_other}
use Rattle.commands.proofs.Full.{done_exactly}
use Rattle.commands.proofs.Exactly.{late_exactly, done_gives}
use Rattle.commands.proofs.VersionPlans.{missing_fresh}

-- ---- the named field and the sweep

-- an entry that is found by its own name is found by the names that it has
pub named_entry : (k f : Word) (ss : List Slot) (e : Entry) → Named k f e → entry_of e.key e.field ss ≡ Some e → entry_of k f ss ≡ Some e
named_entry k f ss e n h = ap (λ x. entry_of x f ss) (sym n.key) ∙ ap (λ y. entry_of e.key y ss) (sym n.field) ∙ h

module _ (now : ℕ) (k f : Word) (ss : List Slot) (apart : Apart ss) where
  -- A live entry is found after the sweep,
  pub live_found : (e : Entry) → entry_of k f ss ≡ Some e → live now e ≡ true → entry_of k f (sweep now k (f ∷ []) ss) ≡ Some e
  live_found e h l =
      let t = entry_some k f ss e h in
      named_entry k f (sweep now k (f ∷ []) ss) e t.named
      (entry_is (sweep now k (f ∷ []) ss) t.slot e (sweep_apart now k (f ∷ []) ss apart) (sweep_keeps_live now k (f ∷ []) ss t.slot e t.here l))

  -- what is found then was there, and live,
  found_was : (e : Entry) → entry_of k f (sweep now k (f ∷ []) ss) ≡ Some e → (entry_of k f ss ≡ Some e) × (live now e ≡ true)
  unfolding any
  found_was e q =
      let t = entry_some k f (sweep now k (f ∷ []) ss) e q in (
        named_entry k f ss e t.named (entry_is ss t.slot e apart (sweep_from now k (f ∷ []) ss t.slot e t.here)),
        found_alive now k (f ∷ []) ss f e (rw (same_refl f) refl) q,
      )

  -- and a dead one is gone.
  pub dead_gone : ((e : Entry) → entry_of k f ss ≡ Some e → live now e ≡ false) → entry_of k f (sweep now k (f ∷ []) ss) ≡ None
  dead_gone dead = go (entry_of k f (sweep now k (f ∷ []) ss)) refl
    where
      go : (o : Option Entry) → entry_of k f (sweep now k (f ∷ []) ss) ≡ o → entry_of k f (sweep now k (f ∷ []) ss) ≡ None
      go None q = q
      go (Some e) q = both_ways (found_was e q).1 (dead e (found_was e q).0)

  -- So what holds of the entry that is found then holds of a live one.
  pub live_exactly : (P : Option Entry → Type 0) → (P None → ⊥)
      → P (entry_of k f (sweep now k (f ∷ []) ss)) ↔ ((e : Entry) × (entry_of k f ss ≡ Some e) × (live now e ≡ true) × P (Some e))
  live_exactly P never = (λ p. go (entry_of k f (sweep now k (f ∷ []) ss)) refl p, λ (e, h, l, p). rw (live_found e h l) p)
    where
      go : (o : Option Entry) → entry_of k f (sweep now k (f ∷ []) ss) ≡ o → P o → (e : Entry) × (entry_of k f ss ≡ Some e) × (live now e ≡ true) × P (Some e)
      go None q p = absurd (never p)
      go (Some e) q p = (e, (found_was e q).0, (found_was e q).1, p)

-- ---- one entry written

-- A command that is done and writes just one entry leaves it as the entry of its key and field.
pub wrote_one : (clock : ℕ) (command : List ℕ) (s : Store) (c : Command) (e : Entry) → Apart s.slots → parse (now_at clock s) clock command ≡ accepted c
    → (exec clock command s).refusal ≡ None → (effect_on (now_at clock s) c s).changes ≡ write e ∷ []
    → entry_of e.key e.field (exec clock command s).store.slots ≡ Some e
unfolding change_all change added adds any
wrote_one clock command s c e apart a r w =
    rw ((done_gives clock command s c a r).1, w)
    (go (slot_for (now_at clock s) e.key e.field left) refl (rw w at ((done_exactly clock command s c a).0 r).1))
  where
    left : List Slot
    left = swept_by (now_at clock s) c s

    go : (o : Option ℕ) → slot_for (now_at clock s) e.key e.field left ≡ o → added (write e ∷ []) left ≤ room (now_at clock s) left
        → entry_of e.key e.field (put (now_at clock s) e left) ≡ Some e
    go (Some i) q h = put_entry (now_at clock s) e left i (sweep_apart (now_at clock s) (key_of c) (fields_of c) s.slots apart) q
    go None q h =
        let full = slot_none (now_at clock s) e.key e.field left q in
        absurd (omega (arith, rw (full.0, full.1) at h))

-- ---- 20 and 23

-- what 20 and 23 say where they apply
late_applied : (now : ℕ) (e : Effect) (ss : List Slot) (n : ℕ) → Applies n (late_checks now e ss)
    → (n ≡ 20 → e.stale ≡ true) × (n ≡ 23 → any passes e.changes ≡ true)
unfolding late_checks Applies
late_applied now e ss n (inl p) = (λ q. p.1, λ q. absurd (omega (arith, p.0)))
late_applied now e ss n (inr (inl p)) = (λ q. absurd (omega (arith, p.0)), λ q. absurd (omega (arith, p.0)))
late_applied now e ss n (inr (inr (inl p))) = (λ q. absurd (omega (arith, p.0)), λ q. absurd (omega (arith, p.0)))
late_applied now e ss n (inr (inr (inr (inl p)))) = (λ q. absurd (omega (arith, p.0)), λ q. p.1)
late_applied now e ss n (inr (inr (inr (inr (inl p))))) = (λ q. absurd (omega (arith, p.0)), λ q. absurd (omega (arith, p.0)))
late_applied now e ss n (inr (inr (inr (inr (inr p))))) = absurd p

module _ (clock : ℕ) (command : List ℕ) (s : Store) (c : Command) (a : parse (now_at clock s) clock command ≡ accepted c) where
  abbrev says : Effect
  says = effect_on (now_at clock s) c s

  -- 20 is given exactly if the version is stale,
  pub stale_given : ((exec clock command s).refusal ≡ Some 20) ↔ (says.stale ≡ true)
  unfolding late_checks
  stale_given = (
    λ r. (late_applied (now_at clock s) says _ 20 ((late_exactly clock command s c a 20).0 r).applies).0 refl,
    λ t. accepted_refusal clock command s c a ∙ check_applies 20 _ t,
  )

  -- so where it is not given the version is not stale,
  pub not_stale : (exec clock command s).refusal ≢ Some 20 → says.stale ≡ false
  not_stale r = go says.stale refl
    where
      go : (t : Bool) → says.stale ≡ t → t ≡ false
      go true q = absurd (r (stale_given.1 q))
      go false q = refl

  -- and 23 exactly if none of 20 to 22 applies and a version would pass its largest.
  pub overflow_given : ((exec clock command s).refusal ≡ Some 23)
      ↔ ((says.stale ≡ false) × (says.not_integer ≡ false) × (says.overflows ≡ false) × (any passes says.changes ≡ true))
  unfolding late_checks
  overflow_given = (
    λ r.
        let p = check_other _ _ (omega arith) (sym (accepted_refusal clock command s c a) ∙ r) in
        let q = check_other _ _ (omega arith) p.1 in
        let o = check_other _ _ (omega arith) q.1 in
        (p.0, q.0, o.0, (late_applied (now_at clock s) says _ 23 ((late_exactly clock command s c a 23).0 r).applies).1 refl),
    λ (p, q, o, t).
        accepted_refusal clock command s c a ∙ check_passed 20 _ p ∙ check_passed 21 _ q ∙ check_passed 22 _ o ∙ check_applies 23 _ t,
  )

-- ---- what it changes

-- no change, or one entry of the field at the version that the option gives; and it is stale where the option is
abbrev Changed : Word → Word → Versioning → Deed → Option Entry → Effect → Type 0
Changed k f n d found E =
    ((idle d found ≡ true) × (E.changes ≡ []) × (E.stale ≡ false))
    ⊎ ((e : Entry)
    × (idle d found ≡ false)
    × (E.changes ≡ write e ∷ [])
    × Named k f e
    × (e.version ≡ next_version n found)
    × (E.stale ≡ is_stale n found))

-- an entry that is found has the names by which it was looked for
FoundBy : Word → Word → Option Entry → Type 0
FoundBy k f None = Unit {0}
FoundBy k f (Some e) = Named k f e

-- with an option a setter changes the version as any other command does
setter_next : (n : Versioning) (e : Entry) → n ≢ Next → setter_version n e ≡ next_version n (Some e)
unfolding setter_version
setter_next Next e g = absurd (g refl)
setter_next (Match v) e g = refl
setter_next (Exactly v) e g = refl
setter_next (Above v) e g = refl

module _ (now : ℕ) (ss : List Slot) (k f : Word) (n : Versioning) (g : n ≢ Next) where
  given_changes : (d : Deed) (found : Option Entry) → FoundBy k f found → deed_versioning d ≡ n → Changed k f n d found (deed_effect now ss k f d found)
  unfolding deed_effect deed_versioning set_effect increment_effect expire_effect written idle or_else FoundBy
  given_changes (assign x c m t) found b h = go (barred c found) refl
    where
      go : (p : Bool) → barred c found ≡ p
          → Changed k f n (assign x c m t) found
          (cond p (answer (integer (negsuc 0))) (writing (is_stale m found) (written k f x m t found) (number (or_else found 1 (λ e. 0)))))
      go true q = inl (q, refl, refl)
      go false q = inr (written k f x m t found, q, refl, record { key = refl; field = refl }, rw h refl, rw h refl)
  given_changes (increment a l u m t) found b h = inr (_, refl, refl, record { key = refl; field = refl }, rw h refl, rw h refl)
  given_changes (expire t m) None b h = inl (refl, refl, refl)
  given_changes (expire t m) (Some e) b h = inr (_, refl, refl, record { key = b.key; field = b.field }, rw h (setter_next n e g), rw h refl)
  given_changes persist found b h = absurd (g (sym h))
  given_changes (renumber m) found b h = absurd (g (sym h))
  given_changes (ask q) found b h = absurd (g (sym h))

found_by : (k f : Word) (ss : List Slot) → FoundBy k f (entry_of k f ss)
unfolding FoundBy
found_by k f ss = go (entry_of k f ss) refl
  where
    go : (o : Option Entry) → entry_of k f ss ≡ o → FoundBy k f o
    go None h = tt
    go (Some e) h = (entry_some k f ss e h).named

pub and_none : (t : Bool) → t && false ≡ false
and_none true = refl
and_none false = refl

pub not_and : (a b : Bool) → (not a && b ≡ true) ↔ ((a ≡ false) × (b ≡ true))
not_and a b = (λ h. (not-true a (and_left (not a) b h), and_right (not a) b h), λ (p, q). rw (p, q) refl)

module _ (clock : ℕ) (command : List ℕ) (s : Store) (k f : Word) (d : Deed) (n : Versioning) (g : n ≢ Next)
    (a : parse (now_at clock s) clock command ≡ accepted (on_field k f d)) (h : deed_versioning d ≡ n) where
  abbrev left : List Slot
  left = sweep (now_at clock s) k (f ∷ []) s.slots

  abbrev did : Effect
  did = effect_on (now_at clock s) (on_field k f d) s

  changed : Changed k f n d (entry_of k f left) did
  unfolding effect key_of fields_of
  changed = given_changes (now_at clock s) left k f n g d (entry_of k f left) (found_by k f left) h

  -- It writes its field, unless it is idle;
  pub given_writes_unless : any (writes k f) did.changes ≡ not (idle d (entry_of k f left))
  unfolding any writes
  given_writes_unless = go changed
    where
      go : Changed k f n d (entry_of k f left) did → any (writes k f) did.changes ≡ not (idle d (entry_of k f left))
      go (inl (i, q, z)) = rw (q, i) refl
      go (inr (e, i, q, m, v, st)) = rw (q, i, ← m.key, ← m.field, holds_own e) refl

  -- then it is stale where the option is,
  pub given_stale : did.stale ≡ not (idle d (entry_of k f left)) && is_stale n (entry_of k f left)
  given_stale = go changed
    where
      go : Changed k f n d (entry_of k f left) did → did.stale ≡ not (idle d (entry_of k f left)) && is_stale n (entry_of k f left)
      go (inl (i, q, z)) = rw (z, i) refl
      go (inr (e, i, q, m, v, st)) = rw (st, i) refl

  -- and passes the largest version where the option's version does.
  pub given_passes : any passes did.changes ≡ not (idle d (entry_of k f left)) && ltb version_most (next_version n (entry_of k f left))
  unfolding any passes
  given_passes = go changed
    where
      or_none : (t : Bool) → t || false ≡ t
      or_none true = refl
      or_none false = refl

      go : Changed k f n d (entry_of k f left) did
          → any passes did.changes ≡ not (idle d (entry_of k f left)) && ltb version_most (next_version n (entry_of k f left))
      go (inl (i, q, z)) = rw (q, i) refl
      go (inr (e, i, q, m, v, st)) = rw (q, i) (or_none (ltb version_most e.version) ∙ rw v refl)

  -- If it is done and writes its field, it leaves it at the version that the option gives, and the option was not stale.
  pub given_leaves : Apart s.slots → (exec clock command s).refusal ≡ None → any (writes k f) did.changes ≡ true
      → Numbered k f (next_version n (entry_of k f left)) (exec clock command s).store.slots × (is_stale n (entry_of k f left) ≡ false)
  unfolding any
  given_leaves apart r w = go changed
    where
      go : Changed k f n d (entry_of k f left) did
          → Numbered k f (next_version n (entry_of k f left)) (exec clock command s).store.slots × (is_stale n (entry_of k f left) ≡ false)
      go (inl (i, q, z)) = both_ways w (rw q refl)
      go (inr (e, i, q, m, v, st)) = (
        record {
          entry = e;
          here = named_entry k f (exec clock command s).store.slots e m (wrote_one clock command s (on_field k f d) e apart a r q);
          version = v;
        },
        sym st ∙ ((done_exactly clock command s (on_field k f d) a).0 r).0.fresh,
      )

  -- It is refused with 20 exactly if its field is live and the option stale there, and it is not idle.
  pub given_stale_exactly : Apart s.slots
      → ((exec clock command s).refusal ≡ Some 20)
      ↔ ((x : Entry) × (entry_of k f s.slots ≡ Some x) × (live (now_at clock s) x ≡ true) × (idle d (Some x) ≡ false) × (is_stale n (Some x) ≡ true))
  given_stale_exactly apart =
      let found = live_exactly (now_at clock s) k f s.slots apart (λ o. (idle d o ≡ false) × (is_stale n o ≡ true)) (λ p. both_ways p.1 (sym (missing_fresh n))) in
      let given = stale_given clock command s (on_field k f d) a in (
        λ r.
            let (x, q, l, p) = found.0 ((not_and (idle d (entry_of k f left)) _).0 (sym given_stale ∙ given.0 r)) in
            (x, q, l, p.0, p.1),
        λ (x, q, l, i, t). given.1 (given_stale ∙ (not_and (idle d (entry_of k f left)) _).1 (found.1 (x, q, l, (i, t)))),
      )
