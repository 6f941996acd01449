-- What a refused command replies and leaves.
use Rattle.std.specs.Prelude.{None, Some}
use mathlib.Core.Path.{◌≡◌, refl}
use mathlib.Core.Logic.{◌⊎◌, inl, inr, ◌↔◌}
use mathlib.Core.Bool.{Bool, true, false, cond, ◌||◌}
use mathlib.Core.List.{List, [], ◌∷◌, Mem, mem-cons_self, mem-cons_of_mem}
use Prim.Native.Nat.{ℕ, ◌≤◌, ◌<◌}
use lib.Dec.{eqb}
use lib.ListN.{get_or}
use native.Mathlib.Omega.{arith}
use borrow.Author.Tests.{eqb-true}
use Rattle.wire.specs.Lists.{all, any, or_else}
use Rattle.wire.specs.Words.{words_of}
use Rattle.wire.specs.Replies.{line}
use Rattle.wire.proofs.Lists.{impossible}
use Rattle.store.specs.Store.{Entry, Slot, Store}
use Rattle.store.specs.Time.{now_at, live}
use Rattle.commands.specs.Refusal.{RefusalRow, table, early_least, early_most, late_least, late_most, line_in, error_line}
use Rattle.wire.specs.Checks.{first_applying}
use Rattle.commands.specs.Command.{Command, key_of, fields_of}
use Rattle.commands.specs.Parse.{Parsed, parse, scanned_of, said_by}
use Rattle.commands.specs.Parse.Parsed.{refused, accepted}
use Rattle.commands.specs.Effect.{Effect}
use Rattle.commands.specs.Execute.{late_checks, Outcome, perform, exec}
use Rattle.commands.proofs.ParseChecks.{is_refusal, checks_number, Reads, reads, parse_refused, parse_known}
use Rattle.wire.proofs.Checks.{first_number, first_between}
use Rattle.commands.proofs.ParseChecks.Reads.{damaged, clock_out, unknown, checked, passed}
use Rattle.commands.proofs.Sweep.{sweep_keeps_live}
use Rattle.commands.proofs.Went.{Went, went, store_of, swept_by, effect_on, late_refusal}
use Rattle.commands.proofs.Went.Went.{early, late, done}

-- 20 to 24 have lines.
pub late_known : (time : ℕ) (E : Effect) (ss : List Slot) (n : ℕ) → first_applying (late_checks time E ss) ≡ Some n → is_refusal n ≡ true
unfolding late_checks is_refusal any table all
late_known time E ss n h = first_number is_refusal (late_checks time E ss) n refl h

-- A command that is refused after it was accepted is refused with one of 20 to 24.
pub late_number : (now : ℕ) (c : Command) (s : Store) (n : ℕ) → late_refusal now c s ≡ Some n → (late_least ≤ n) × (n ≤ late_most)
unfolding late_checks all
late_number now c s n h = first_between late_least late_most (late_checks now (effect_on now c s) (swept_by now c s)) n refl h

-- The number of a refusal is one of 10 to 18 or one of 20 to 24.
pub refusal_number : (clock : ℕ) (command : List ℕ) (s : Store) (n : ℕ) → (exec clock command s).refusal ≡ Some n
    → ((early_least ≤ n) × (n ≤ early_most)) ⊎ ((late_least ≤ n) × (n ≤ late_most))
refusal_number clock command s n = go (went clock command s)
  where
    go : {o : Outcome} → Went clock command s o → o.refusal ≡ Some n → ((early_least ≤ n) × (n ≤ early_most)) ⊎ ((late_least ≤ n) × (n ≤ late_most))
    go (early k p) e = let q : k ≡ n = cc in inl (rw q at (parse_refused (now_at clock s) clock command k p))
    go (late c k p l) e = let q : k ≡ n = cc in inr (rw q at (late_number (now_at clock s) c s k l))
    go (done c p l) e = impossible cc

-- A row of the table has it, whose text and CR LF are its line.
pub refusal_known : (clock : ℕ) (command : List ℕ) (s : Store) (n : ℕ) → (exec clock command s).refusal ≡ Some n → is_refusal n ≡ true
refusal_known clock command s n = go (went clock command s)
  where
    go : {o : Outcome} → Went clock command s o → o.refusal ≡ Some n → is_refusal n ≡ true
    go (early k p) e = let q : k ≡ n = cc in rw q at (parse_known (now_at clock s) clock command k p)
    go (late c k p l) e = let q : k ≡ n = cc in rw q at (late_known (now_at clock s) (effect_on (now_at clock s) c s) (swept_by (now_at clock s) c s) k l)
    go (done c p l) e = impossible cc

row_known : (rs : List RefusalRow) (n : ℕ) → any (λ r. eqb r.number n) rs ≡ true
    → (r : RefusalRow) × Mem r rs × (r.number ≡ n) × (line_in rs n ≡ line r.reply)
unfolding any line_in
row_known [] n h = impossible cc
row_known (r ∷ rs) n h = go (eqb r.number n) refl (row_known rs n) h
  where
    go : (t : Bool) → eqb r.number n ≡ t
        → (any (λ r. eqb r.number n) rs ≡ true → (q : RefusalRow) × Mem q rs × (q.number ≡ n) × (line_in rs n ≡ line q.reply))
        → t || any (λ r. eqb r.number n) rs ≡ true
        → (q : RefusalRow) × Mem q (r ∷ rs) × (q.number ≡ n) × (cond t (line r.reply) (line_in rs n) ≡ line q.reply)
    go true e ih h = (r, mem-cons_self, eqb-true r.number n e, refl)
    go false e ih h = let q = ih h in (q.0, mem-cons_of_mem r q.1, q.2, q.3)

pub refusal_row : (clock : ℕ) (command : List ℕ) (s : Store) (n : ℕ) → (exec clock command s).refusal ≡ Some n
    → (r : RefusalRow) × Mem r table × (r.number ≡ n) × (error_line n ≡ line r.reply)
unfolding error_line is_refusal
refusal_row clock command s n h = row_known table n (refusal_known clock command s n h)

-- 10 is given exactly where the command is not the protocol's array.
pub protocol_exactly : (clock : ℕ) (command : List ℕ) (s : Store) → ((exec clock command s).refusal ≡ Some 10) ↔ (words_of command ≡ None)
protocol_exactly clock command s = (go (went clock command s), back)
  where
    read : {p : Parsed} → Reads (now_at clock s) clock command p → p ≡ refused 10 → words_of command ≡ None
    read (damaged w) e = w
    read (clock_out ws w k) e = impossible cc
    read (unknown ws w k m) e = impossible cc
    read (checked ws r n w k m l) e =
        let q : n ≡ 10 = cc in
        absurd (omega (arith, checks_number r.form r.count ws (scanned_of r.form ws) (said_by (now_at clock s) r.form ws) n l))
    read (passed ws r w k m l) e = impossible cc

    go : {o : Outcome} → Went clock command s o → o.refusal ≡ Some 10 → words_of command ≡ None
    go (early n p) e = let q : n ≡ 10 = cc in read (reads (now_at clock s) clock command) (rw q at p)
    go (late c n p l) e = let q : n ≡ 10 = cc in absurd (omega (arith, late_number (now_at clock s) c s n l))
    go (done c p l) e = impossible cc

    back : words_of command ≡ None → (exec clock command s).refusal ≡ Some 10
    back w = unfold exec perform parse or_else in rw w

-- The reply of a refused command is its line alone.
pub refused_reply : (clock : ℕ) (command : List ℕ) (s : Store) (n : ℕ) → (exec clock command s).refusal ≡ Some n
    → (exec clock command s).reply ≡ error_line n
refused_reply clock command s n = go (went clock command s)
  where
    go : {o : Outcome} → Went clock command s o → o.refusal ≡ Some n → o.reply ≡ error_line n
    go (early k p) e = let q : k ≡ n = cc in rw q
    go (late c k p l) e = let q : k ≡ n = cc in rw q
    go (done c p l) e = cc

-- 10 to 18 leave the whole store.
pub early_refusal : (clock : ℕ) (command : List ℕ) (s : Store) (n : ℕ) → (exec clock command s).refusal ≡ Some n → n ≤ early_most
    → (exec clock command s).store ≡ s
early_refusal clock command s n = go (went clock command s)
  where
    go : {o : Outcome} → Went clock command s o → o.refusal ≡ Some n → n ≤ early_most → o.store ≡ s
    go (early k p) e h = refl
    go (late c k p l) e h = let q : k ≡ n = cc in absurd (omega (arith, late_number (now_at clock s) c s k l))
    go (done c p l) e h = cc

-- 20 to 24 set the clock to now and remove the named dead entries, and do no more; there is no 19.
pub late_refusal_lem : (clock : ℕ) (command : List ℕ) (s : Store) (n : ℕ) → (exec clock command s).refusal ≡ Some n → early_most < n
    → (c : Command)
    × (parse (now_at clock s) clock command ≡ accepted c)
    × ((exec clock command s).store ≡ store_of (now_at clock s) (swept_by (now_at clock s) c s))
    × (late_least ≤ n)
    × (n ≤ late_most)
late_refusal_lem clock command s n = go (went clock command s)
  where
    go : {o : Outcome} → Went clock command s o → o.refusal ≡ Some n → early_most < n
        → (c : Command)
        × (parse (now_at clock s) clock command ≡ accepted c)
        × (o.store ≡ store_of (now_at clock s) (swept_by (now_at clock s) c s))
        × (late_least ≤ n)
        × (n ≤ late_most)
    go (early k p) e h = let q : k ≡ n = cc in absurd (omega (arith, parse_refused (now_at clock s) clock command k p))
    go (late c k p l) e h =
        let q : k ≡ n = cc in
        let b : (late_least ≤ k) × (k ≤ late_most) = late_number (now_at clock s) c s k l in
        (c, p, refl, omega arith, omega arith)
    go (done c p l) e h = impossible cc

-- A refused command keeps every live entry in its slot.
pub refused_keeps_live : (clock : ℕ) (command : List ℕ) (s : Store) (n : ℕ) → (exec clock command s).refusal ≡ Some n
    → (i : ℕ) (e : Entry) → get_or s.slots i None ≡ Some e → live (now_at clock s) e ≡ true
    → get_or (exec clock command s).store.slots i None ≡ Some e
refused_keeps_live clock command s n = go (went clock command s)
  where
    go : {o : Outcome} → Went clock command s o → o.refusal ≡ Some n
        → (i : ℕ) (e : Entry) → get_or s.slots i None ≡ Some e → live (now_at clock s) e ≡ true → get_or o.store.slots i None ≡ Some e
    go (early k p) r i e h l = h
    go (late c k p x) r i e h l = sweep_keeps_live (now_at clock s) (key_of c) (fields_of c) s.slots i e h l
    go (done c p x) r i e h l = cc
