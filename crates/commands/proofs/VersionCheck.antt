-- VER: when it is stale, that VER 0 never is, and what a command with VER comes to.
use Rattle.std.specs.Prelude.{Option, None, Some}
use mathlib.Core.Path.{◌≡◌, refl, sym, ◌∙◌}
use mathlib.Core.Logic.{◌≢◌, ◌↔◌}
use mathlib.Core.Bool.{Bool, true, false, cond, not, ◌&&◌}
use mathlib.Core.List.{List, [], ◌∷◌}
use Prim.Native.Nat.{ℕ, ◌+◌, ◌≤◌, ◌<◌}
use lib.Dec.{ltb, eqb}
use lib.IntN.{ℤ, negsuc}
use native.Mathlib.Omega.{arith}
use borrow.Author.Tests.{eqb-false, ne_eqb, not-true, ltb-true, lt-ltb, le-ltb}
use Rattle.wire.specs.Lists.{any, or_else}
use Rattle.wire.specs.Words.{Word}
use Rattle.wire.specs.Replies.{integer, number}
use Rattle.wire.proofs.Lists.{impossible, both_ways, and_left, and_right, any_some}
use Rattle.store.specs.Layout.{version_most}
use Rattle.store.specs.Store.{Entry, entry, with_version, with_expiry, Slot, Store, holds}
use Rattle.store.specs.Time.{now_at, live, entry_of}
use Rattle.store.specs.Valid.{Apart, AllFit}
use Rattle.store.proofs.Slots.{entry_some, entry_fits, holds_own}
use Rattle.commands.specs.declared.Versioning.TheVariants.{Next, Match}
use Rattle.commands.specs.declared.Lifetime.{Lifetime}
use Rattle.commands.specs.declared.Condition.{Condition}
use Rattle.commands.specs.Command.{Deed, Command, key_of, fields_of}
use Rattle.commands.specs.Command.Deed.{assign, increment, expire}
use Rattle.commands.specs.Command.Command.{on_field}
use Rattle.commands.specs.Parse.{deed_versioning, parse}
use Rattle.commands.specs.Parse.Parsed.{accepted}
use Rattle.commands.specs.Effect.{Effect, answer, writing, change_all, next_version, is_stale, setter_version, barred, written, set_effect, increment_effect, expire_effect, deed_effect, effect}
use Rattle.commands.specs.Execute.{sweep, passes, writes, adds, added, run_on, run, exec}
use Rattle.commands.specs.Claims.{idle, Numbered}
use Rattle.commands.proofs.Went.{effect_on, accepted_runs}
use Rattle.commands.proofs.Full.{done_exactly}
use Rattle.commands.proofs.Exactly.{done_gives}
use Rattle.commands.proofs.VersionOption.{named_entry, live_found, dead_gone, live_exactly, wrote_one, and_none, not_and, stale_given, not_stale, overflow_given, given_stale, given_passes, given_leaves, given_stale_exactly}

match_given : (v : ℕ) → Match v ≢ Next
match_given v e = impossible cc

-- ---- VER v

match_differs : (v : ℕ) (x : Entry) → (is_stale (Match v) (Some x) ≡ true) ↔ ((v ≢ 0) × (x.version ≢ 0) × (x.version ≢ v))
unfolding is_stale or_else
match_differs v x = (there, λ (a, b, c). rw (ne_eqb v 0 a, ne_eqb x.version 0 b, ne_eqb x.version v c) refl)
  where
    there : not (eqb v 0) && not (eqb x.version 0) && not (eqb x.version v) ≡ true → (v ≢ 0) × (x.version ≢ 0) × (x.version ≢ v)
    there t =
        let p = and_left (not (eqb v 0) && not (eqb x.version 0)) (not (eqb x.version v)) t in (
          eqb-false v 0 (not-true (eqb v 0) (and_left (not (eqb v 0)) (not (eqb x.version 0)) p)),
          eqb-false x.version 0 (not-true (eqb x.version 0) (and_right (not (eqb v 0)) (not (eqb x.version 0)) p)),
          eqb-false x.version v (not-true (eqb x.version v) (and_right (not (eqb v 0) && not (eqb x.version 0)) (not (eqb x.version v)) t)),
        )

module _ (clock : ℕ) (command : List ℕ) (s : Store) (k f : Word) (d : Deed) (v : ℕ)
    (a : parse (now_at clock s) clock command ≡ accepted (on_field k f d)) (h : deed_versioning d ≡ Match v) (apart : Apart s.slots) where
  -- It is refused with 20 exactly if v is not 0, its field is live at another version than 0 and v, and it is not idle.
  pub match_stale_exactly : ((exec clock command s).refusal ≡ Some 20)
      ↔ ((x : Entry)
      × (entry_of k f s.slots ≡ Some x)
      × (live (now_at clock s) x ≡ true)
      × (idle d (Some x) ≡ false)
      × (v ≢ 0)
      × (x.version ≢ 0)
      × (x.version ≢ v))
  match_stale_exactly =
      let e = given_stale_exactly clock command s k f d (Match v) (match_given v) a h apart in (
        λ r.
            let (x, q, l, i, t) = e.0 r in
            let (z, w, m) = (match_differs v x).0 t in
            (x, q, l, i, z, w, m),
        λ (x, q, l, i, z, w, m). e.1 (x, q, l, i, (match_differs v x).1 (z, w, m)),
      )

  -- If it is done and writes its field, it leaves a live one at its version plus 1, and another at 1.
  pub match_next : (exec clock command s).refusal ≡ None → any (writes k f) (effect_on (now_at clock s) (on_field k f d) s).changes ≡ true
      → ((x : Entry) → entry_of k f s.slots ≡ Some x → live (now_at clock s) x ≡ true
      → Numbered k f (x.version + 1) (exec clock command s).store.slots)
      × (((x : Entry) → entry_of k f s.slots ≡ Some x → live (now_at clock s) x ≡ false) → Numbered k f 1 (exec clock command s).store.slots)
  unfolding next_version or_else
  match_next r w =
      let g = (given_leaves clock command s k f d (Match v) (match_given v) a h apart r w).0 in (
        λ x q l. rw (live_found (now_at clock s) k f s.slots apart x q l) at g,
        λ dead. rw (dead_gone (now_at clock s) k f s.slots apart dead) at g,
      )

-- ---- VER 0

zero_fresh : (found : Option Entry) → is_stale (Match 0) found ≡ false
unfolding is_stale or_else
zero_fresh None = refl
zero_fresh (Some e) = refl

module _ (clock : ℕ) (command : List ℕ) (s : Store) (k f : Word) (d : Deed)
    (a : parse (now_at clock s) clock command ≡ accepted (on_field k f d)) (h : deed_versioning d ≡ Match 0) where
  abbrev left : List Slot
  left = sweep (now_at clock s) k (f ∷ []) s.slots

  abbrev did : Effect
  did = effect_on (now_at clock s) (on_field k f d) s

  fresh : did.stale ≡ false
  fresh =
      given_stale clock command s k f d (Match 0) (match_given 0) a h
      ∙ rw (zero_fresh (entry_of k f left)) (and_none (not (idle d (entry_of k f left))))

  -- It is never refused with 20.
  pub zero_never_stale : (exec clock command s).refusal ≡ Some 20 → ⊥
  zero_never_stale r = both_ways ((stale_given clock command s (on_field k f d) a).0 r) fresh

  -- It is refused with 23 exactly if its field is live at the largest version, it is not idle, and neither 21 nor 22 applies.
  pub zero_overflows_exactly : Apart s.slots → AllFit s.slots
      → ((exec clock command s).refusal ≡ Some 23)
      ↔ ((x : Entry)
      × (entry_of k f s.slots ≡ Some x)
      × (live (now_at clock s) x ≡ true)
      × (idle d (Some x) ≡ false)
      × (x.version ≡ version_most)
      × (did.not_integer ≡ false)
      × (did.overflows ≡ false))
  unfolding next_version or_else
  zero_overflows_exactly apart fit =
      let passed = given_passes clock command s k f d (Match 0) (match_given 0) a h in
      let idling = idle d (entry_of k f left) in
      let found = live_exactly (now_at clock s) k f s.slots apart
      (λ o. (idle d o ≡ false) × (ltb version_most (next_version (Match 0) o) ≡ true))
      (λ p. both_ways p.1 (le-ltb version_most 1 (omega arith))) in
      let given = overflow_given clock command s (on_field k f d) a in (
        λ r.
            let (st, n, o, t) = given.0 r in
            let (x, q, l, p) = found.0 ((not_and idling _).0 (sym passed ∙ t)) in
            (x, q, l, p.0, largest x (entry_fits k f s.slots x fit q).version (ltb-true version_most (x.version + 1) p.1), n, o),
        λ (x, q, l, i, m, n, o).
            given.1 (fresh, n, o, passed ∙ (not_and idling _).1 (found.1 (x, q, l, (i, lt-ltb version_most (x.version + 1) (omega (arith, m)))))),
      )
    where
      largest : (x : Entry) → x.version ≤ version_most → version_most < x.version + 1 → x.version ≡ version_most
      largest x l m = omega arith

-- ---- VER on an expiry setter

module _ (clock : ℕ) (command : List ℕ) (s : Store) (k f : Word) (t v : ℕ)
    (a : parse (now_at clock s) clock command ≡ accepted (on_field k f (expire t (Match v)))) (apart : Apart s.slots) where
  abbrev setting : Command
  setting = on_field k f (expire t (Match v))

  abbrev remaining : List Slot
  remaining = sweep (now_at clock s) k (f ∷ []) s.slots

  module _ (x : Entry) (q : entry_of k f s.slots ≡ Some x) (l : live (now_at clock s) x ≡ true) (r : (exec clock command s).refusal ≢ Some 20) where
    abbrev stamped : Entry
    stamped = with_version (x.version + 1) (with_expiry (Some t) x)

    here : entry_of k f remaining ≡ Some x
    here = live_found (now_at clock s) k f s.slots apart x q l

    sets : effect_on (now_at clock s) setting s ≡ writing false stamped (number 1)
    unfolding effect deed_effect expire_effect key_of fields_of or_else setter_version next_version
    sets =
        let stale : effect_on (now_at clock s) setting s ≡ writing (is_stale (Match v) (Some x)) stamped (number 1) = rw here refl in
        let fresh : is_stale (Match v) (Some x) ≡ false = rw stale at (not_stale clock command s setting a r) in
        rw (stale, fresh) refl

    -- A live field below the largest version keeps its value, and takes the expiry and its version plus 1;
    pub set_live : x.version < version_most
        → ((exec clock command s).refusal ≡ None)
        × ((exec clock command s).reply ≡ number 1)
        × (entry_of k f (exec clock command s).store.slots ≡ Some (entry k f x.value (x.version + 1) (Some t)))
    unfolding key_of fields_of added adds any passes
    set_live m =
        let w = entry_some k f remaining x here in
        let held = any_some (holds x.key x.field) remaining None w.slot w.inside (rw w.here (holds_own x)) in
        let done = (done_exactly clock command s setting a).1 (
          record {
            fresh = rw sets refl;
            integral = rw sets refl;
            bounded = rw sets refl;
            numbered = rw sets (rw (le-ltb version_most (x.version + 1) (omega (arith, m))) refl);
          },
          rw (sets, held) (omega arith),
        ) in (
          done,
          (done_gives clock command s setting a done).0 ∙ rw sets refl,
          named_entry k f (exec clock command s).store.slots stamped (record { key = w.named.key; field = w.named.field })
              (wrote_one clock command s setting stamped apart a done (rw sets refl))
              ∙ rw (w.named.key, w.named.field) refl,
        )

    -- at the largest it is refused with 23.
    pub set_largest : x.version ≡ version_most → (exec clock command s).refusal ≡ Some 23
    unfolding any passes
    set_largest m =
        (overflow_given clock command s setting a).1 (
          rw sets refl,
          rw sets refl,
          rw sets refl,
          rw sets (rw (lt-ltb version_most (x.version + 1) (omega (arith, m))) refl),
        )

  -- A field that is not live is missing then, and stays so.
  pub set_none : ((x : Entry) → entry_of k f s.slots ≡ Some x → live (now_at clock s) x ≡ false)
      → ((exec clock command s).refusal ≡ None)
      × ((exec clock command s).reply ≡ number 0)
      × (entry_of k f (exec clock command s).store.slots ≡ None)
  unfolding effect deed_effect expire_effect key_of fields_of or_else added any change_all
  set_none dead =
      let gone = dead_gone (now_at clock s) k f s.slots apart dead in
      let sets : effect_on (now_at clock s) setting s ≡ answer (number 0) = rw gone refl in
      let done = (done_exactly clock command s setting a).1 (
        record { fresh = rw sets refl; integral = rw sets refl; bounded = rw sets refl; numbered = rw sets refl },
        rw sets (omega arith),
      ) in
      let gives = done_gives clock command s setting a done in
      (done, gives.0 ∙ rw sets refl, rw (gives.1, sets) gone)

-- ---- VER and no option

module _ (clock : ℕ) (command plain : List ℕ) (s : Store) (k f : Word) (v : ℕ) where
  abbrev slots : List Slot
  slots = sweep (now_at clock s) k (f ∷ []) s.slots

  abbrev found : Option Entry
  found = entry_of k f slots

  -- Two commands with the same effect have the same outcome.
  same_outcome : (d e : Deed) → deed_effect (now_at clock s) slots k f d found ≡ deed_effect (now_at clock s) slots k f e found
      → parse (now_at clock s) clock command ≡ accepted (on_field k f d) → parse (now_at clock s) clock plain ≡ accepted (on_field k f e)
      → exec clock command s ≡ exec clock plain s
  unfolding run run_on effect key_of fields_of
  same_outcome d e same a b =
      accepted_runs clock command s (on_field k f d) a ∙ rw same (sym (accepted_runs clock plain s (on_field k f e) b))

  -- An EXHSET with VER that is not refused with 20 has the outcome of one without,
  pub assigns_as_none : (x : Word) (c : Condition) (t : Lifetime)
      → parse (now_at clock s) clock command ≡ accepted (on_field k f (assign x c (Match v) t))
      → parse (now_at clock s) clock plain ≡ accepted (on_field k f (assign x c Next t)) → (exec clock command s).refusal ≢ Some 20
      → exec clock command s ≡ exec clock plain s
  unfolding effect deed_effect set_effect written next_version is_stale key_of fields_of
  assigns_as_none x c t a b r =
      same_outcome (assign x c (Match v) t) (assign x c Next t)
      (go (barred c found) (not_stale clock command s (on_field k f (assign x c (Match v) t)) a r)) a b
    where
      barring : Effect
      barring = answer (integer (negsuc 0))

      setting_with : Bool → Effect
      setting_with stale = writing stale (written k f x Next t found) (number (or_else found 1 (λ e. 0)))

      go : (p : Bool) → (cond p barring (setting_with (is_stale (Match v) found))).stale ≡ false
          → cond p barring (setting_with (is_stale (Match v) found)) ≡ cond p barring (setting_with false)
      go true h = refl
      go false h = rw h refl

  -- and so has an EXHINCRBY.
  pub increments_as_none : (m l g : ℤ) (t : Lifetime)
      → parse (now_at clock s) clock command ≡ accepted (on_field k f (increment m l g (Match v) t))
      → parse (now_at clock s) clock plain ≡ accepted (on_field k f (increment m l g Next t)) → (exec clock command s).refusal ≢ Some 20
      → exec clock command s ≡ exec clock plain s
  unfolding effect deed_effect increment_effect written next_version is_stale key_of fields_of
  increments_as_none m l g t a b r =
      let fresh : is_stale (Match v) found ≡ false = not_stale clock command s (on_field k f (increment m l g (Match v) t)) a r in
      same_outcome (increment m l g (Match v) t) (increment m l g Next t) (rw fresh refl) a b
