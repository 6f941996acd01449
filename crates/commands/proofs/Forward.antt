-- A version that only moves forward: what a command with GT leaves, and that of two counts the later one wins.
use Rattle.std.specs.Prelude.{None, Some}
use mathlib.Core.Path.{◌≡◌, refl, ◌∙◌}
use mathlib.Core.Logic.{◌≢◌, ◌↔◌}
use mathlib.Core.Bool.{Bool, true, false, cond, not, ◌||◌}
use mathlib.Core.List.{List, [], ◌∷◌}
use Prim.Native.Nat.{ℕ, ◌≤◌, ◌<◌}
use lib.ListN.{length}
use native.Mathlib.Omega.{arith}
use borrow.Author.Tests.{leb-true, leb-false, le-leb, lt-leb, le-ltb}
use Rattle.wire.specs.Lists.{any, keep, or_else}
use Rattle.wire.specs.Words.{Word}
use Rattle.wire.proofs.Lists.{impossible, both_ways, any_some}
use Rattle.store.specs.Layout.{version_most}
use Rattle.store.specs.Store.{Entry, entry, Slot, Store, holds}
use Rattle.store.specs.Time.{now_at, before, live, live_slot, room_slot, entry_of}
use Rattle.store.specs.Valid.{Apart}
use Rattle.store.proofs.Slots.{entry_some, entry_is, holds_own}
use Rattle.commands.specs.declared.Versioning.TheVariants.{Next, Above}
use Rattle.commands.specs.declared.Lifetime.TheVariants.{Clear}
use Rattle.commands.specs.declared.Condition.TheVariants.{Always}
use Rattle.commands.specs.Command.{Deed, Command, key_of, fields_of}
use Rattle.commands.specs.Command.Deed.{assign}
use Rattle.commands.specs.Command.Command.{on_field}
use Rattle.commands.specs.Parse.{deed_versioning, parse}
use Rattle.commands.specs.Parse.Parsed.{accepted}
use Rattle.commands.specs.Effect.{Effect, next_version, is_stale, next_expiry, barred, written, set_effect, deed_effect, effect}
use Rattle.commands.specs.Effect.Change.{write}
use Rattle.commands.specs.Execute.{sweep, passes, writes, adds, added, room, exec}
use Rattle.commands.specs.Claims.{idle, Numbered, Behind, Step, exec_all}
use Rattle.commands.specs.Claims.Behind.{below, missing}
use Rattle.commands.proofs.Went.{effect_on}
use Rattle.commands.proofs.Sweep.{room_sweep}
use Rattle.commands.proofs.Clock.{dead_later}
use Rattle.commands.proofs.Full.{done_exactly}
use Rattle.commands.proofs.Refused.{refused_keeps_live}
use Rattle.commands.proofs.Keeps.{exec_apart}
use Rattle.commands.proofs.GivenVersion.{above_most, parse_anytime}
use Rattle.commands.proofs.VersionOption.{named_entry, live_found, dead_gone, wrote_one, and_none, overflow_given, given_passes, given_leaves, given_stale_exactly}

-- As time goes no slot is lost that was empty or dead.
room_later : (now later : ℕ) → now ≤ later → (ss : List Slot) → room now ss ≤ room later ss
unfolding room keep room_slot live_slot or_else
room_later now later l [] = omega arith
room_later now later l (None ∷ ss) = omega (arith, room_later now later l ss)
room_later now later l (Some e ∷ ss) = go (live now e) refl (live later e) refl (room_later now later l ss)
  where
    go : (a : Bool) → live now e ≡ a → (b : Bool) → live later e ≡ b → room now ss ≤ room later ss
        → length (cond (not a) (Some e ∷ keep (room_slot now) ss) (keep (room_slot now) ss))
        ≤ length (cond (not b) (Some e ∷ keep (room_slot later) ss) (keep (room_slot later) ss))
    go true p true q h = h
    go true p false q h = omega (arith, h)
    go false p true q h = both_ways q (dead_later now later e l p)
    go false p false q h = omega (arith, h)

-- ---- what a command with GT does

above_given : (v : ℕ) → Above v ≢ Next
above_given v e = impossible cc

module _ (clock : ℕ) (command : List ℕ) (s : Store) (k f : Word) (d : Deed) (v : ℕ)
    (a : parse (now_at clock s) clock command ≡ accepted (on_field k f d)) (h : deed_versioning d ≡ Above v) where
  abbrev left : List Slot
  left = sweep (now_at clock s) k (f ∷ []) s.slots

  abbrev did : Effect
  did = effect_on (now_at clock s) (on_field k f d) s

  -- If it is done and writes its field, it leaves it at version v, and a live one was below v.
  pub above_forward : Apart s.slots → (exec clock command s).refusal ≡ None → any (writes k f) did.changes ≡ true
      → Numbered k f v (exec clock command s).store.slots
      × ((e : Entry) → entry_of k f s.slots ≡ Some e → live (now_at clock s) e ≡ true → e.version < v)
  unfolding next_version is_stale or_else
  above_forward apart r w =
      let g = given_leaves clock command s k f d (Above v) (above_given v) a h apart r w in (
        g.0,
        λ x found l. leb-false v x.version (rw (live_found (now_at clock s) k f s.slots apart x found l) at g.1),
      )

  -- It is refused with 20 exactly if its field is live and not below v, and it is not idle.
  pub above_stale_exactly : Apart s.slots
      → ((exec clock command s).refusal ≡ Some 20)
      ↔ ((x : Entry) × (entry_of k f s.slots ≡ Some x) × (live (now_at clock s) x ≡ true) × (idle d (Some x) ≡ false) × (v ≤ x.version))
  unfolding is_stale or_else
  above_stale_exactly apart =
      let e = given_stale_exactly clock command s k f d (Above v) (above_given v) a h apart in (
        λ r. let (x, q, l, i, t) = e.0 r in (x, q, l, i, leb-true v x.version t),
        λ (x, q, l, i, t). e.1 (x, q, l, i, le-leb v x.version t),
      )

  above_within : any passes did.changes ≡ false
  unfolding next_version
  above_within =
      given_passes clock command s k f d (Above v) (above_given v) a h
      ∙ rw (le-ltb version_most v (above_most (now_at clock s) clock command k f d v a h)) (and_none (not (idle d (entry_of k f left))))

  -- It is never refused with 23.
  pub above_never_passes : (exec clock command s).refusal ≡ Some 23 → ⊥
  above_never_passes r = both_ways ((overflow_given clock command s (on_field k f d) a).0 r).3 above_within

-- ---- the later count wins

module _ (clock : ℕ) (command : List ℕ) (s : Store) (k f x : Word) (v : ℕ) (apart : Apart s.slots)
    (a : parse (now_at clock s) clock command ≡ accepted (on_field k f (assign x Always (Above v) Clear))) where
  abbrev counting : Command
  counting = on_field k f (assign x Always (Above v) Clear)

  abbrev remaining : List Slot
  remaining = sweep (now_at clock s) k (f ∷ []) s.slots

  not_before : s.clock ≤ now_at clock s
  unfolding now_at
  not_before = omega arith

  counting_writes : (effect_on (now_at clock s) counting s).changes ≡ write (entry k f x v None) ∷ []
  unfolding effect deed_effect set_effect barred written next_version next_expiry
  counting_writes = refl

  counting_stale : (effect_on (now_at clock s) counting s).stale ≡ is_stale (Above v) (entry_of k f remaining)
  unfolding effect deed_effect set_effect barred key_of fields_of
  counting_stale = refl

  -- the field is found below v, or not found while there is room
  found_behind : Behind k f v s
      → (is_stale (Above v) (entry_of k f remaining) ≡ false) × (added (write (entry k f x v None) ∷ []) remaining ≤ room (now_at clock s) remaining)
  unfolding is_stale or_else added adds any live before
  found_behind (below e q n l) =
      let here : entry_of k f remaining ≡ Some e = live_found (now_at clock s) k f s.slots apart e q (rw n refl) in
      let t = entry_some k f remaining e here in
      let held : any (holds k f) remaining ≡ true =
      any_some (holds k f) remaining None t.slot t.inside (rw t.here (rw (← t.named.key, ← t.named.field) (holds_own e))) in
      (rw here (lt-leb v e.version l), rw held (omega arith))
  found_behind (missing dead free) =
      let gone : entry_of k f remaining ≡ None =
      dead_gone (now_at clock s) k f s.slots apart (λ e q. dead_later s.clock (now_at clock s) e not_before (dead e q)) in
      let least : 1 ≤ room (now_at clock s) remaining =
      rw (room_sweep (now_at clock s) k (f ∷ []) s.slots) (omega (arith, room_later s.clock (now_at clock s) not_before s.slots, free)) in
      (rw gone refl, omega (arith, added_one (not (any (holds k f) remaining || false)), least))
    where
      added_one : (t : Bool) → cond t 1 0 ≤ 1
      added_one true = omega arith
      added_one false = omega arith

  -- Where the field is behind v it takes the count.
  pub count_taken : Behind k f v s → entry_of k f (exec clock command s).store.slots ≡ Some (entry k f x v None)
  unfolding effect deed_effect set_effect barred deed_versioning key_of fields_of
  count_taken b =
      let g = found_behind b in
      wrote_one clock command s counting (entry k f x v None) apart a
      ((done_exactly clock command s counting a).1 (
        record {
          fresh = counting_stale ∙ g.0;
          integral = refl;
          bounded = refl;
          numbered = above_within clock command s k f (assign x Always (Above v) Clear) v a refl;
        },
        rw counting_writes g.1,
      ))
      counting_writes

  -- Where it is live without expiry and not behind v it stays.
  pub count_kept : (e : Entry) → entry_of k f s.slots ≡ Some e → e.expiry ≡ None → v ≤ e.version
      → entry_of k f (exec clock command s).store.slots ≡ Some e
  unfolding live before deed_versioning idle barred
  count_kept e q n l =
      let alive : live (now_at clock s) e ≡ true = rw n refl in
      let refused : (exec clock command s).refusal ≡ Some 20 =
      (above_stale_exactly clock command s k f (assign x Always (Above v) Clear) v a refl apart).1 (e, q, alive, refl, l) in
      let t = entry_some k f s.slots e q in
      named_entry k f (exec clock command s).store.slots e t.named
      (entry_is (exec clock command s).store.slots t.slot e (exec_apart clock command s apart)
      (refused_keeps_live clock command s 20 refused t.slot e t.here alive))

behind_more : (k f : Word) (v w : ℕ) (s : Store) → v < w → Behind k f v s → Behind k f w s
behind_more k f v w s l (below e q n m) = below e q n (omega arith)
behind_more k f v w s l (missing dead free) = missing dead free

module _ (first second : Step) (s : Store) (k f x y : Word) (v w : ℕ) (apart : Apart s.slots)
    (p : parse (now_at first.clock s) first.clock first.command ≡ accepted (on_field k f (assign x Always (Above v) Clear)))
    (q : parse (now_at second.clock s) second.clock second.command ≡ accepted (on_field k f (assign y Always (Above w) Clear)))
    (l : v < w) (b : Behind k f v s) where
  abbrev after_first : Store
  after_first = (exec first.clock first.command s).store

  abbrev after_second : Store
  after_second = (exec second.clock second.command s).store

  -- Of two counts the one with the greater GT wins, whichever comes first.
  pub greater_wins : (entry_of k f (exec_all (first ∷ second ∷ []) s).slots ≡ Some (entry k f y w None))
      × (entry_of k f (exec_all (second ∷ first ∷ []) s).slots ≡ Some (entry k f y w None))
  unfolding exec_all
  greater_wins = (
    count_taken second.clock second.command after_first k f y w (exec_apart first.clock first.command s apart)
        (parse_anytime k f y Always (Above w) (now_at second.clock s) (now_at second.clock after_first) second.clock second.command q)
        (below (entry k f x v None) (count_taken first.clock first.command s k f x v apart p b) refl l),
    count_kept first.clock first.command after_second k f x v (exec_apart second.clock second.command s apart)
        (parse_anytime k f x Always (Above v) (now_at first.clock s) (now_at first.clock after_second) first.clock first.command p)
        (entry k f y w None) (count_taken second.clock second.command s k f y w apart q (behind_more k f v w s l b)) refl (omega arith),
  )
