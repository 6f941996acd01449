-- The store is full exactly where the fields that a command would add are more than the slots that are empty or dead.
use Rattle.std.specs.Prelude.{None, Some}
use mathlib.Core.Path.{◌≡◌, ◌∙◌}
use mathlib.Core.Logic.{◌↔◌}
use mathlib.Core.List.{List, [], ◌∷◌}
use Prim.Native.Nat.{ℕ, ◌≤◌, ◌<◌}
use lib.Dec.{ltb}
use native.Mathlib.Omega.{arith}
use borrow.Author.Tests.{ltb-true, ltb-false, lt-ltb, le-ltb}
use Rattle.store.specs.Store.{Slot, Store}
use Rattle.store.specs.Time.{now_at}
use Rattle.wire.specs.Checks.{◌when◌, first_applying}
use Rattle.commands.specs.Command.{Command}
use Rattle.commands.specs.Parse.{parse}
use Rattle.commands.specs.Parse.Parsed.{accepted}
use Rattle.commands.specs.Effect.{Effect}
use Rattle.commands.specs.Execute.{late_checks, added, room, exec}
use Rattle.commands.specs.Claims.{Proper}
use Rattle.wire.proofs.Checks.{check_applies, check_passed, first_none, check_other, check_only}
use Rattle.commands.proofs.Went.{swept_by, effect_on, late_refusal, accepted_refusal}
use Rattle.commands.proofs.Refused.{late_refusal_lem}

-- the slots that are empty or dead, and the fields that the command would add
abbrev pub room_in : ℕ → Command → Store → ℕ
room_in now c s = room now (swept_by now c s)

abbrev pub added_by : ℕ → Command → Store → ℕ
added_by now c s = added (effect_on now c s).changes (swept_by now c s)

-- where none of 20 to 23 applies, 24 is left
proper_last : (now : ℕ) (e : Effect) (ss : List Slot) → Proper e
    → first_applying (late_checks now e ss) ≡ first_applying (24 when ltb (room now ss) (added e.changes ss) ∷ [])
unfolding late_checks
proper_last now e ss p =
    check_passed 20 _ p.fresh ∙ check_passed 21 _ p.integral ∙ check_passed 22 _ p.bounded ∙ check_passed 23 _ p.numbered

full_late : (now : ℕ) (e : Effect) (ss : List Slot)
    → (first_applying (late_checks now e ss) ≡ Some 24) ↔ (Proper e × (room now ss < added e.changes ss))
unfolding late_checks
full_late now e ss = (there, back)
  where
    there : first_applying (late_checks now e ss) ≡ Some 24 → Proper e × (room now ss < added e.changes ss)
    there h =
        let a = check_other _ _ (omega arith) h in
        let b = check_other _ _ (omega arith) a.1 in
        let c = check_other _ _ (omega arith) b.1 in
        let d = check_other _ _ (omega arith) c.1 in (
          record { fresh = a.0; integral = b.0; bounded = c.0; numbered = d.0 },
          ltb-true (room now ss) (added e.changes ss) (check_only _ d.1),
        )

    back : Proper e × (room now ss < added e.changes ss) → first_applying (late_checks now e ss) ≡ Some 24
    back f = proper_last now e ss f.0 ∙ check_applies 24 [] (lt-ltb (room now ss) (added e.changes ss) f.1)

clear_proper : (now : ℕ) (e : Effect) (ss : List Slot) → first_applying (late_checks now e ss) ≡ None → Proper e × (added e.changes ss ≤ room now ss)
unfolding late_checks
clear_proper now e ss h =
    let a = first_none _ _ h in
    let b = first_none _ _ a.1 in
    let c = first_none _ _ b.1 in
    let d = first_none _ _ c.1 in
    let f = first_none _ _ d.1 in
    (record { fresh = a.0; integral = b.0; bounded = c.0; numbered = d.0 }, ltb-false (room now ss) (added e.changes ss) f.0)

clear_late : (now : ℕ) (e : Effect) (ss : List Slot)
    → (first_applying (late_checks now e ss) ≡ None) ↔ (Proper e × (added e.changes ss ≤ room now ss))
unfolding first_applying
clear_late now e ss = (clear_proper now e ss, back)
  where
    back : Proper e × (added e.changes ss ≤ room now ss) → first_applying (late_checks now e ss) ≡ None
    back f = proper_last now e ss f.0 ∙ check_passed 24 [] (le-ltb (room now ss) (added e.changes ss) f.1)

-- An accepted command is refused with 24 exactly if none of 20 to 23 applies and it would add more fields than there is room for.
pub full_exactly : (clock : ℕ) (command : List ℕ) (s : Store) (c : Command) → parse (now_at clock s) clock command ≡ accepted c
    → ((exec clock command s).refusal ≡ Some 24)
    ↔ (Proper (effect_on (now_at clock s) c s) × (room_in (now_at clock s) c s < added_by (now_at clock s) c s))
full_exactly clock command s c a =
    rw (accepted_refusal clock command s c a) (full_late (now_at clock s) (effect_on (now_at clock s) c s) (swept_by (now_at clock s) c s))

-- An accepted command is done exactly if none of 20 to 23 applies and there is room for the fields that it would add.
pub done_exactly : (clock : ℕ) (command : List ℕ) (s : Store) (c : Command) → parse (now_at clock s) clock command ≡ accepted c
    → ((exec clock command s).refusal ≡ None)
    ↔ (Proper (effect_on (now_at clock s) c s) × (added_by (now_at clock s) c s ≤ room_in (now_at clock s) c s))
done_exactly clock command s c a =
    rw (accepted_refusal clock command s c a) (clear_late (now_at clock s) (effect_on (now_at clock s) c s) (swept_by (now_at clock s) c s))

-- What is not refused by 20 to 24.
pub proper : (now : ℕ) (c : Command) (s : Store) → late_refusal now c s ≡ None → Proper (effect_on now c s) × (added_by now c s ≤ room_in now c s)
proper now c s h = clear_proper now (effect_on now c s) (swept_by now c s) h

-- A record refused with 24 was accepted before.
pub full_accepted : (clock : ℕ) (command : List ℕ) (s : Store) → (exec clock command s).refusal ≡ Some 24
    → (c : Command) × (parse (now_at clock s) clock command ≡ accepted c)
full_accepted clock command s h =
    let l = late_refusal_lem clock command s 24 h (omega arith) in
    (l.0, l.1)
