-- The three ways in which one record goes. Every law about `exec` looks at these, and at nothing else of the frame.
use Rattle.std.specs.Prelude.{Option, None, Some}
use mathlib.Core.Path.{◌≡◌, refl}
use mathlib.Core.List.{List}
use Prim.Native.Nat.{ℕ}
use Rattle.wire.specs.Lists.{or_else}
use Rattle.store.specs.Store.{Slot, Store}
use Rattle.store.specs.Time.{now_at}
use Rattle.wire.specs.Checks.{first_applying}
use Rattle.commands.specs.Command.{Command, key_of, fields_of}
use Rattle.commands.specs.Parse.{Parsed, parse}
use Rattle.commands.specs.Parse.Parsed.{refused, accepted}
use Rattle.commands.specs.Effect.{Effect, effect, change_all}
use Rattle.commands.specs.Execute.{sweep, late_checks, Outcome, refused_with, done_with, settle, run_on, run, perform, exec}

-- the slots after the sweep, and what the command would do with them
abbrev pub swept_by : ℕ → Command → Store → List Slot
swept_by now c s = sweep now (key_of c) (fields_of c) s.slots

abbrev pub effect_on : ℕ → Command → Store → Effect
effect_on now c s = effect now c (swept_by now c s)

-- the refusal of an accepted command, 20 to 24
abbrev pub late_refusal : ℕ → Command → Store → Option ℕ
late_refusal now c s = first_applying (late_checks now (effect_on now c s) (swept_by now c s))

abbrev pub store_of : ℕ → List Slot → Store
store_of now ss = record { clock = now; slots = ss }

abbrev pub doing : ℕ → Command → Store → Outcome
doing now c s = done_with (effect_on now c s).reply (store_of now (change_all now (effect_on now c s).changes (swept_by now c s)))

-- refused by checks 10 to 18, refused by checks 20 to 24, or done
pub data Went (clock : ℕ) (command : List ℕ) (s : Store) : Outcome → Type 0 where
  early : (n : ℕ) → parse (now_at clock s) clock command ≡ refused n → Went clock command s (refused_with n s)
  late :
      (c : Command) (n : ℕ) → parse (now_at clock s) clock command ≡ accepted c → late_refusal (now_at clock s) c s ≡ Some n
      → Went clock command s (refused_with n (store_of (now_at clock s) (swept_by (now_at clock s) c s)))
  done :
      (c : Command) → parse (now_at clock s) clock command ≡ accepted c → late_refusal (now_at clock s) c s ≡ None
      → Went clock command s (doing (now_at clock s) c s)

-- an accepted command: refused late, or done
went_accepted : (clock : ℕ) (command : List ℕ) (s : Store) (c : Command) → parse (now_at clock s) clock command ≡ accepted c
    → Went clock command s (run (now_at clock s) c s)
unfolding run run_on settle or_else
went_accepted clock command s c p = go (late_refusal (now_at clock s) c s) refl
  where
    go : (r : Option ℕ) → late_refusal (now_at clock s) c s ≡ r → Went clock command s (run (now_at clock s) c s)
    go None e = rw e (done c p e)
    go (Some n) e = rw e (late c n p e)

-- Every record goes in one of the three ways.
pub went : (clock : ℕ) (command : List ℕ) (s : Store) → Went clock command s (exec clock command s)
unfolding exec perform
went clock command s = go (parse (now_at clock s) clock command) refl
  where
    go : (p : Parsed) → parse (now_at clock s) clock command ≡ p → Went clock command s (perform (now_at clock s) p s)
    go (refused n) e = early n e
    go (accepted c) e = went_accepted clock command s c e

-- An accepted command is refused exactly as the checks 20 to 24 say.
pub accepted_refusal : (clock : ℕ) (command : List ℕ) (s : Store) (c : Command) → parse (now_at clock s) clock command ≡ accepted c
    → (exec clock command s).refusal ≡ late_refusal (now_at clock s) c s
accepted_refusal clock command s c a = go (went clock command s)
  where
    go : {o : Outcome} → Went clock command s o → o.refusal ≡ late_refusal (now_at clock s) c s
    go (early n p) = cc
    go (late d n p l) = let m : c ≡ d = cc in rw (m, l)
    go (done d p l) = let m : c ≡ d = cc in rw (m, l)

-- An accepted command is run.
pub accepted_runs : (clock : ℕ) (command : List ℕ) (s : Store) (c : Command) → parse (now_at clock s) clock command ≡ accepted c
    → exec clock command s ≡ run (now_at clock s) c s
unfolding exec perform
accepted_runs clock command s c a = rw a refl
