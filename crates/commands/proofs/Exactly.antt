-- Exactly which refusal a record gets, and exactly what one that is done gives.
use Rattle.std.specs.Prelude.{Option, None, Some, unwrap_or, is_some}
use mathlib.Core.Path.{◌≡◌, refl, sym, ap, ◌∙◌}
use mathlib.Core.Logic.{◌⊎◌, inl, inr, ◌↔◌}
use mathlib.Core.Bool.{Bool, true, false, not, ◌&&◌}
use mathlib.Core.List.{List, [], ◌∷◌}
use Prim.Native.Nat.{ℕ, ◌≤◌, ◌<◌}
use lib.Dec.{leb, ltb}
use native.Mathlib.Omega.{arith}
use borrow.Author.Tests.{ltb-true, le-leb, lt-leb}
use Rattle.wire.specs.Lists.{all, or_else}
use Rattle.wire.specs.Words.{word_at, words_of}
use Rattle.wire.proofs.Lists.{and_left, and_right, impossible}
use Rattle.store.specs.Layout.{time_limit}
use Rattle.store.specs.Store.{Store}
use Rattle.store.specs.Time.{now_at}
use Rattle.commands.specs.Refusal.{early_most}
use Rattle.wire.specs.Checks.{Check, ◌when◌, first_applying}
use Rattle.commands.specs.Command.{Command, key_of, fields_of}
use Rattle.commands.specs.Parse.{Parsed, CommandRow, commands, command_named, later_checks, checks, checks_of, parse}
use Rattle.commands.specs.Parse.Parsed.{refused, accepted}
use Rattle.commands.specs.Effect.{change_all}
use Rattle.commands.specs.Execute.{swept, late_checks, Outcome, run_on, run, perform, exec}
use Rattle.commands.specs.Claims.{Applies, early_checks, LowestOf}
use Rattle.commands.proofs.ParseChecks.{Reads, reads}
use Rattle.wire.proofs.Checks.{first_some, first_none}
use Rattle.commands.proofs.ParseChecks.Reads.{damaged, clock_out, unknown, checked, passed}
use Rattle.commands.proofs.Sweep.{sweep_again}
use Rattle.commands.proofs.Went.{Went, went, swept_by, effect_on, store_of, accepted_refusal}
use Rattle.commands.proofs.Went.Went.{early, late, done}
use Rattle.commands.proofs.Refused.{late_number}

-- ---- the lowest number that applies

-- the numbers of checks ascend
unfoldable pub ascending : List Check → Bool
ascending [] = true
ascending (c ∷ cs) = all (λ d. ltb c.number d.number) cs && ascending cs

-- what is given applies
lowest_applies : (cs : List Check) (n : ℕ) → first_applying cs ≡ Some n → Applies n cs
unfolding Applies first_applying
lowest_applies [] n h = impossible cc
lowest_applies (c ∷ cs) n h = go (first_some c cs n h) (lowest_applies cs n)
  where
    go : ((c.applies ≡ true) × (c.number ≡ n)) ⊎ ((c.applies ≡ false) × (first_applying cs ≡ Some n)) → (first_applying cs ≡ Some n → Applies n cs)
        → ((c.number ≡ n) × (c.applies ≡ true)) ⊎ Applies n cs
    go (inl q) ih = inl (q.1, q.0)
    go (inr q) ih = inr (ih q.1)

-- a number that applies has what all numbers have
applies_number : (p : ℕ → Bool) (cs : List Check) (m : ℕ) → all (λ d. p d.number) cs ≡ true → Applies m cs → p m ≡ true
unfolding Applies all
applies_number p [] m h a = absurd a
applies_number p (c ∷ cs) m h (inl q) = rw q.0 at (and_left (p c.number) (all (λ d. p d.number) cs) h)
applies_number p (c ∷ cs) m h (inr a) = applies_number p cs m (and_right (p c.number) (all (λ d. p d.number) cs) h) a

-- where checks ascend, none that applies has a lower number
lowest_below : (cs : List Check) (n m : ℕ) → ascending cs ≡ true → first_applying cs ≡ Some n → Applies m cs → n ≤ m
unfolding Applies first_applying ascending
lowest_below [] n m a h b = absurd b
lowest_below (c ∷ cs) n m a h b = go (first_some c cs n h) b (lowest_below cs n m (and_right above (ascending cs) a))
  where
    above : Bool
    above = all (λ d. ltb c.number d.number) cs

    go : ((c.applies ≡ true) × (c.number ≡ n)) ⊎ ((c.applies ≡ false) × (first_applying cs ≡ Some n)) → ((c.number ≡ m) × (c.applies ≡ true)) ⊎ Applies m cs
        → (first_applying cs ≡ Some n → Applies m cs → n ≤ m) → n ≤ m
    go (inl p) (inl q) ih = omega (arith, p.1, q.0)
    go (inl p) (inr q) ih =
        let l : c.number < m = ltb-true c.number m (applies_number (ltb c.number) cs m (and_left above (ascending cs) a) q) in
        omega (arith, p.1)
    go (inr p) (inl q) ih = let z : true ≡ false = sym q.1 ∙ p.0 in impossible cc
    go (inr p) (inr q) ih = ih p.1 q

-- where one applies, one is given
applies_given : (cs : List Check) (m : ℕ) → Applies m cs → first_applying cs ≡ None → ⊥
unfolding Applies first_applying
applies_given [] m a h = a
applies_given (c ∷ cs) m (inl q) h = let z : true ≡ false = sym q.1 ∙ (first_none c cs h).0 in impossible cc
applies_given (c ∷ cs) m (inr a) h = applies_given cs m a (first_none c cs h).1

-- Of ascending checks the lowest that applies is given.
pub lowest_exactly : (cs : List Check) (n : ℕ) → ascending cs ≡ true → (first_applying cs ≡ Some n) ↔ LowestOf cs n
lowest_exactly cs n a = (λ h. record { applies = lowest_applies cs n h; least = λ m. lowest_below cs n m a h }, back)
  where
    back : LowestOf cs n → first_applying cs ≡ Some n
    back l = go (first_applying cs) refl
      where
        go : (o : Option ℕ) → first_applying cs ≡ o → o ≡ Some n
        go None e = absurd (applies_given cs n l.applies e)
        go (Some k) e =
            let low : k ≤ n = lowest_below cs k n a e l.applies in
            let high : n ≤ k = l.least k (lowest_applies cs k e) in
            ap Some (omega arith)

-- ---- refused

-- 10 to 18 are given exactly as parsing gives them.
pub early_exactly : (clock : ℕ) (command : List ℕ) (s : Store) (n : ℕ) → n ≤ early_most
    → ((exec clock command s).refusal ≡ Some n) ↔ (parse (now_at clock s) clock command ≡ refused n)
early_exactly clock command s n l = (go (went clock command s), back (went clock command s))
  where
    go : {o : Outcome} → Went clock command s o → o.refusal ≡ Some n → parse (now_at clock s) clock command ≡ refused n
    go (early k p) e = let q : k ≡ n = cc in rw q at p
    go (late c k p r) e = let q : k ≡ n = cc in absurd (omega (arith, late_number (now_at clock s) c s k r))
    go (done c p r) e = impossible cc

    back : {o : Outcome} → Went clock command s o → parse (now_at clock s) clock command ≡ refused n → o.refusal ≡ Some n
    back (early k p) e = cc
    back (late c k p r) e = impossible cc
    back (done c p r) e = impossible cc

-- the number of a refusal, none of an accepted command
number_of : Parsed → Option ℕ
number_of (refused n) = Some n
number_of (accepted c) = None

-- Parsing refuses with the first of the checks 10 to 18 that applies.
parse_lowest : {now clock : ℕ} {s : List ℕ} {p : Parsed} → Reads now clock s p → first_applying (early_checks now clock s) ≡ number_of p
unfolding early_checks first_applying or_else number_of
parse_lowest (damaged w) = rw w refl
parse_lowest {now} {clock} (clock_out ws w k) = rw w (rw (le-leb time_limit clock k) refl)
parse_lowest {now} {clock} (unknown ws w k m) = rw w (rw (lt-leb time_limit clock k) (rw m refl))
parse_lowest {now} {clock} (checked ws r n w k m l) = rw w (rw (lt-leb time_limit clock k) (rw m l))
parse_lowest {now} {clock} (passed ws r w k m l) = rw w (rw (lt-leb time_limit clock k) (rw m l))

early_ascending : (now clock : ℕ) (s : List ℕ) → ascending (early_checks now clock s) ≡ true
unfolding early_checks checks later_checks ascending all or_else
early_ascending now clock s = go (command_named commands (word_at 0 (unwrap_or (words_of s) [])))
  where
    go : (row : Option CommandRow)
        → ascending
        (10 when not (is_some (words_of s))
        ∷ 11 when leb time_limit clock
        ∷ 12 when not (is_some row)
        ∷ or_else row [] (λ r. checks_of now r (unwrap_or (words_of s) []))) ≡ true
    go None = refl
    go (Some r) = refl

-- They are given exactly as their checks say: the lowest that applies.
pub early_lowest : (clock : ℕ) (command : List ℕ) (s : Store) (n : ℕ) → n ≤ early_most
    → ((exec clock command s).refusal ≡ Some n) ↔ LowestOf (early_checks (now_at clock s) clock command) n
unfolding number_of
early_lowest clock command s n l = (λ e. both.0 (there (early.0 e)), λ m. early.1 (back (both.1 m)))
  where
    early : ((exec clock command s).refusal ≡ Some n) ↔ (parse (now_at clock s) clock command ≡ refused n)
    early = early_exactly clock command s n l

    cs : List Check
    cs = early_checks (now_at clock s) clock command

    both : (first_applying cs ≡ Some n) ↔ LowestOf cs n
    both = lowest_exactly cs n (early_ascending (now_at clock s) clock command)

    given : first_applying cs ≡ number_of (parse (now_at clock s) clock command)
    given = parse_lowest (reads (now_at clock s) clock command)

    there : parse (now_at clock s) clock command ≡ refused n → first_applying cs ≡ Some n
    there e = given ∙ ap number_of e

    refusing : (p : Parsed) → number_of p ≡ Some n → p ≡ refused n
    refusing (refused k) e = cc
    refusing (accepted c) e = impossible cc

    back : first_applying cs ≡ Some n → parse (now_at clock s) clock command ≡ refused n
    back e = refusing (parse (now_at clock s) clock command) (sym given ∙ e)

-- 20 to 24 are given exactly as their checks say: the lowest that applies.
pub late_exactly : (clock : ℕ) (command : List ℕ) (s : Store) (c : Command) → parse (now_at clock s) clock command ≡ accepted c → (n : ℕ)
    → ((exec clock command s).refusal ≡ Some n)
    ↔ LowestOf (late_checks (now_at clock s) (effect_on (now_at clock s) c s) (swept_by (now_at clock s) c s)) n
unfolding late_checks ascending all
late_exactly clock command s c a n =
    rw (accepted_refusal clock command s c a)
    (lowest_exactly (late_checks (now_at clock s) (effect_on (now_at clock s) c s) (swept_by (now_at clock s) c s)) n refl)

-- ---- done

-- A command that is not refused replies what its effect says, sets the clock and makes the effect's changes.
pub done_gives : (clock : ℕ) (command : List ℕ) (s : Store) (c : Command) → parse (now_at clock s) clock command ≡ accepted c
    → (exec clock command s).refusal ≡ None
    → ((exec clock command s).reply ≡ (effect_on (now_at clock s) c s).reply)
    × ((exec clock command s).store ≡ store_of (now_at clock s) (change_all (now_at clock s) (effect_on (now_at clock s) c s).changes (swept_by (now_at clock s) c s)))
done_gives clock command s c a = go (went clock command s)
  where
    go : {o : Outcome} → Went clock command s o → o.refusal ≡ None
        → (o.reply ≡ (effect_on (now_at clock s) c s).reply)
        × (o.store ≡ store_of (now_at clock s) (change_all (now_at clock s) (effect_on (now_at clock s) c s).changes (swept_by (now_at clock s) c s)))
    go (early k p) e = impossible cc
    go (late d k p r) e = impossible cc
    go (done d p r) e = let m : c ≡ d = cc in rw m (refl, refl)

-- A dead entry that a command names is as good as missing.
pub dead_as_missing : (clock : ℕ) (command : List ℕ) (s : Store) (c : Command) → parse (now_at clock s) clock command ≡ accepted c
    → exec clock command s ≡ exec clock command (swept (now_at clock s) (key_of c) (fields_of c) s)
unfolding exec perform run run_on now_at
dead_as_missing clock command s c a = rw a (rw (sweep_again (now_at clock s) (key_of c) (fields_of c) s.slots))
