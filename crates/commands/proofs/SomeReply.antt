-- No reply is empty, and what a record says tells whether it was refused, and with which number.
use Rattle.std.specs.Prelude.{Option, None, Some}
use mathlib.Core.Path.{◌≡◌, refl, sym, ap, ◌∙◌}
use mathlib.Core.Logic.{◌↔◌}
use mathlib.Core.Bool.{Bool, true, false, cond, ◌&&◌, ◌||◌}
use mathlib.Core.List.{List, [], ◌∷◌}
use Prim.Native.Nat.{ℕ, ◌≤◌}
use lib.Dec.{leb, eqb}
use lib.IntN.{ℤ}
use lib.ListN.{length, get_or}
use native.Mathlib.Omega.{arith}
use borrow.Author.Tests.{eqb-true, leb-true}
use Rattle.wire.specs.Lists.{all, any, or_else}
use Rattle.wire.proofs.Lists.{and_left, and_right, or_left, or_right, both_ways, impossible}
use Rattle.wire.specs.Bytes.{text, same}
use Rattle.wire.specs.Words.{Word}
use Rattle.wire.specs.Replies.{line, nil, integer, header, bulk, array}
use Rattle.store.specs.Store.{Entry, Slot, Store}
use Rattle.store.specs.Time.{now_at, entry_of}
use Rattle.commands.specs.declared.Question.{Question}
use Rattle.commands.specs.declared.Question.TheVariants.{Value, Length, Exists, Versioned, Version, Seconds, Milliseconds}
use Rattle.commands.specs.Refusal.{RefusalRow, table, line_in, error_line}
use Rattle.commands.specs.Command.{Deed, Command}
use Rattle.commands.specs.Command.Deed.{assign, increment, expire, persist, renumber, ask}
use Rattle.commands.specs.Command.Command.{on_field, set_many, get_many, delete, count_held, count_live, list}
use Rattle.commands.specs.Effect.{Effect, barred, set_effect, increment_effect, has_expiry, expire_effect, persist_effect, renumber_effect, reply, deed_effect, effect}
use Rattle.commands.specs.Execute.{Outcome, exec}
use Rattle.commands.proofs.ParseChecks.{is_refusal}
use Rattle.commands.proofs.Went.{Went, went, swept_by}
use Rattle.commands.proofs.Went.Went.{early, late, done}
use Rattle.commands.proofs.Refused.{refusal_known, refused_reply}

-- a reply that is not empty and begins with no minus, as no line of a refusal does
record Said (r : List ℕ) : Type 0 where
  long : 1 ≤ length r
  plain : eqb (get_or r 0 0) 45 ≡ false

-- ---- the forms of a reply

integer_some : (z : ℤ) → Said (integer z)
unfolding integer text
integer_some z = record { long = omega arith; plain = refl }

bulk_some : (w : Word) → Said (bulk w)
unfolding bulk text
bulk_some w = record { long = omega arith; plain = refl }

array_some : (xs : List (List ℕ)) → Said (array xs)
unfolding array header text
array_some xs = record { long = omega arith; plain = refl }

nil_some : Said nil
unfolding nil line text
nil_some = record { long = omega arith; plain = refl }

ok_some : Said (line "+OK")
unfolding line text
ok_some = record { long = omega arith; plain = refl }

-- ---- one field

answer_some : (now : ℕ) (ss : List Slot) (k : Word) (q : Question) (found : Option Entry) → Said (reply now ss k q found)
unfolding reply or_else
answer_some now ss k Value None = nil_some
answer_some now ss k Value (Some e) = bulk_some e.value
answer_some now ss k Length found = integer_some _
answer_some now ss k Exists found = integer_some _
answer_some now ss k Versioned None = nil_some
answer_some now ss k Versioned (Some e) = array_some _
answer_some now ss k Version found = integer_some _
answer_some now ss k Seconds found = integer_some _
answer_some now ss k Milliseconds found = integer_some _

-- one of two effects
either_some : (t : Bool) (a b : Effect) → Said a.reply → Said b.reply → Said (cond t a b).reply
either_some true a b h g = h
either_some false a b h g = g

deed_some : (now : ℕ) (ss : List Slot) (k f : Word) (d : Deed) (found : Option Entry) → Said (deed_effect now ss k f d found).reply
unfolding deed_effect set_effect increment_effect expire_effect persist_effect renumber_effect or_else
deed_some now ss k f (assign v c n t) found = either_some (barred c found) _ _ (integer_some _) (integer_some _)
deed_some now ss k f (increment a l g n t) found = integer_some _
deed_some now ss k f (expire t n) None = integer_some _
deed_some now ss k f (expire t n) (Some e) = integer_some _
deed_some now ss k f persist None = integer_some _
deed_some now ss k f persist (Some e) = either_some (has_expiry e.expiry) _ _ (integer_some _) (integer_some _)
deed_some now ss k f (renumber v) None = integer_some _
deed_some now ss k f (renumber v) (Some e) = integer_some _
deed_some now ss k f (ask q) found = answer_some now ss k q found

-- ---- every record

effect_some : (now : ℕ) (c : Command) (ss : List Slot) → Said (effect now c ss).reply
unfolding effect
effect_some now (on_field k f d) ss = deed_some now ss k f d (entry_of k f ss)
effect_some now (set_many k ps) ss = ok_some
effect_some now (get_many k fs q) ss = array_some _
effect_some now (delete k fs) ss = integer_some _
effect_some now (count_held k) ss = integer_some _
effect_some now (count_live k) ss = integer_some _
effect_some now (list k l) ss = array_some _

-- ---- the lines of refusals

abbrev known_in : List RefusalRow → ℕ → Bool
known_in rows n = any (λ r. eqb r.number n) rows

-- a number that no row has has no line
line_unknown : (rows : List RefusalRow) (n : ℕ) → known_in rows n ≡ false → line_in rows n ≡ []
unfolding any line_in
line_unknown [] n h = refl
line_unknown (r ∷ rs) n h =
    rw (or_left (eqb r.number n) (known_in rs n) h) (line_unknown rs n (or_right (eqb r.number n) (known_in rs n) h))

-- what holds of each row's line and number holds of the line of a number that a row has
line_each : (p : List ℕ → ℕ → Bool) (rows : List RefusalRow) (n : ℕ) → all (λ r. p (line r.reply) r.number) rows ≡ true → known_in rows n ≡ true
    → p (line_in rows n) n ≡ true
unfolding any all line_in
line_each p [] n h k = impossible cc
line_each p (r ∷ rs) n h k =
    let this = p (line r.reply) r.number in
    let rest = all (λ q. p (line q.reply) q.number) rs in
    go (eqb r.number n) refl k (and_left this rest h) (line_each p rs n (and_right this rest h))
  where
    go : (t : Bool) → eqb r.number n ≡ t → t || known_in rs n ≡ true → p (line r.reply) r.number ≡ true
        → (known_in rs n ≡ true → p (line_in rs n) n ≡ true) → p (cond t (line r.reply) (line_in rs n)) n ≡ true
    go true e k this ih = let m : r.number ≡ n = eqb-true r.number n e in rw m at this
    go false e k this ih = ih k

-- the number of the first row that has a line
unfoldable number_in : List RefusalRow → List ℕ → ℕ
number_in [] l = 0
number_in (r ∷ rs) l = cond (same (line r.reply) l) r.number (number_in rs l)

-- no two numbers have one line, and each line begins with a minus
error_number : (n : ℕ) → is_refusal n ≡ true → number_in table (error_line n) ≡ n
unfolding is_refusal error_line table all number_in line text same
error_number n k = eqb-true (number_in table (error_line n)) n (line_each (λ l m. eqb (number_in table l) m) table n refl k)

error_minus : (n : ℕ) → is_refusal n ≡ true → (1 ≤ length (error_line n)) × (eqb (get_or (error_line n) 0 0) 45 ≡ true)
unfolding is_refusal error_line table all line text
error_minus n k =
    let l = leb 1 (length (error_line n)) in
    let m = eqb (get_or (error_line n) 0 0) 45 in
    let b : (l && m) ≡ true = line_each (λ l m. leb 1 (length l) && eqb (get_or l 0 0) 45) table n refl k in
    (leb-true 1 (length (error_line n)) (and_left l m b), and_right l m b)

-- a line that a record says is that of a known number
line_known : (n : ℕ) {r : List ℕ} → 1 ≤ length r → r ≡ error_line n → is_refusal n ≡ true
unfolding is_refusal error_line
line_known n {r} l e = go (known_in table n) refl
  where
    go : (t : Bool) → known_in table n ≡ t → t ≡ true
    go true q = refl
    go false q =
        let z : r ≡ [] = e ∙ line_unknown table n q in
        let none-there : 1 ≤ 0 = rw z at l in
        impossible (omega arith)

-- ---- what a record says

module _ (clock : ℕ) (command : List ℕ) (s : Store) where
  -- No reply is empty.
  pub exec_some : 1 ≤ length (exec clock command s).reply
  exec_some = go (went clock command s) (λ n e. (error_minus n (refusal_known clock command s n e)).0)
    where
      go : {o : Outcome} → Went clock command s o → ((n : ℕ) → o.refusal ≡ Some n → 1 ≤ length (error_line n)) → 1 ≤ length o.reply
      go (early n p) Line-of = Line-of n refl
      go (late c n p l) Line-of = Line-of n refl
      go (done c p l) Line-of = (effect_some (now_at clock s) c (swept_by (now_at clock s) c s)).long

  -- A record says the line of a number exactly if it is refused with it.
  pub refused_said : (n : ℕ) → ((exec clock command s).reply ≡ error_line n) ↔ ((exec clock command s).refusal ≡ Some n)
  refused_said n =
      (λ e. go (went clock command s) (line_known n exec_some e) (λ k r. refusal_known clock command s k r) e, refused_reply clock command s n)
    where
      go : {o : Outcome} → Went clock command s o → is_refusal n ≡ true → ((k : ℕ) → o.refusal ≡ Some k → is_refusal k ≡ true)
          → o.reply ≡ error_line n → o.refusal ≡ Some n
      go (early k p) known knows e = ap Some (sym (error_number k (knows k refl)) ∙ ap (number_in table) e ∙ error_number n known)
      go (late c k p l) known knows e = ap Some (sym (error_number k (knows k refl)) ∙ ap (number_in table) e ∙ error_number n known)
      go (done c p l) known knows e =
          let x = effect_some (now_at clock s) c (swept_by (now_at clock s) c s) in
          let m : eqb (get_or (error_line n) 0 0) 45 ≡ false = rw e at x.plain in
          both_ways (error_minus n known).1 m
