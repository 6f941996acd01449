-- The store's clock never goes back, and a dead entry is never live again.
use Rattle.std.specs.Prelude.{Option, None, Some}
use mathlib.Core.Path.{◌≡◌, refl}
use mathlib.Core.Bool.{false}
use mathlib.Core.List.{List, [], ◌∷◌}
use Prim.Native.Nat.{ℕ, ◌≤◌}
use native.Mathlib.Omega.{arith}
use borrow.Author.Tests.{ltb-false, le-ltb}
use Rattle.store.specs.Store.{Entry, Store}
use Rattle.store.specs.Time.{now_at, live, before}
use Rattle.commands.specs.Command.{Command}
use Rattle.commands.specs.Parse.{parse}
use Rattle.commands.specs.Parse.Parsed.{accepted}
use Rattle.commands.specs.Execute.{Outcome, exec}
use Rattle.commands.specs.Claims.{Step, exec_all}
use Rattle.commands.proofs.Went.{Went, went}
use Rattle.commands.proofs.Went.Went.{early, late, done}

-- A command that passes checks 10 to 18 sets the clock to now.
pub clock_is_now : (clock : ℕ) (command : List ℕ) (s : Store) (c : Command) → parse (now_at clock s) clock command ≡ accepted c
    → (exec clock command s).store.clock ≡ now_at clock s
clock_is_now clock command s c = go (went clock command s)
  where
    go : {o : Outcome} → Went clock command s o → parse (now_at clock s) clock command ≡ accepted c → o.store.clock ≡ now_at clock s
    go (early n p) q = cc
    go (late d n p l) q = refl
    go (done d p l) q = refl

-- No record takes the clock back.
pub clock_forward : (clock : ℕ) (command : List ℕ) (s : Store) → s.clock ≤ (exec clock command s).store.clock
unfolding now_at
clock_forward clock command s = go (went clock command s)
  where
    go : {o : Outcome} → Went clock command s o → s.clock ≤ o.store.clock
    go (early n p) = omega arith
    go (late d n p l) = omega arith
    go (done d p l) = omega arith

-- No list of records takes the clock back.
pub clock_forward_all : (rs : List Step) (s : Store) → s.clock ≤ (exec_all rs s).clock
unfolding exec_all
clock_forward_all [] s = omega arith
clock_forward_all (r ∷ rs) s =
    omega (arith, clock_forward r.clock r.command s, clock_forward_all rs (exec r.clock r.command s).store)

-- What is dead at one time is dead at every later one.
pub dead_later : (now later : ℕ) (e : Entry) → now ≤ later → live now e ≡ false → live later e ≡ false
unfolding live before
dead_later now later e = go e.expiry
  where
    go : (t : Option ℕ) → now ≤ later → before now t ≡ false → before later t ≡ false
    go None h d = d
    go (Some t) h d = le-ltb later t (omega (arith, ltb-false now t d))

later : (now clock : ℕ) (s : Store) → now ≤ s.clock → now ≤ now_at clock s
unfolding now_at
later now clock s h = omega arith

-- An entry dead at the store's own clock is live at no later record, whatever clock that brings.
pub dead_at_clock : (rs : List Step) (next : Step) (s : Store) (e : Entry) → live s.clock e ≡ false
    → live (now_at next.clock (exec_all rs s)) e ≡ false
dead_at_clock rs next s e d =
    dead_later s.clock (now_at next.clock (exec_all rs s)) e (later s.clock next.clock (exec_all rs s) (clock_forward_all rs s)) d

-- An entry dead at the now of a record that passes checks 10 to 18 is never live at a later record, whatever clock that brings.
pub dead_stays_dead : (r : Step) (rs : List Step) (next : Step) (s : Store) (c : Command) (e : Entry)
    → parse (now_at r.clock s) r.clock r.command ≡ accepted c → live (now_at r.clock s) e ≡ false
    → live (now_at next.clock (exec_all (r ∷ rs) s)) e ≡ false
unfolding exec_all
dead_stays_dead r rs next s c e p d =
    dead_at_clock rs next (exec r.clock r.command s).store e (rw (clock_is_now r.clock r.command s c p) d)
