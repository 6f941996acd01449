-- What the checks 10 to 18 promise of an accepted command.
use Rattle.std.specs.Prelude.{Some, unwrap_or, is_some}
use mathlib.Core.Path.{◌≡◌, refl}
use mathlib.Core.Bool.{Bool, true, false, cond, ◌||◌}
use mathlib.Core.List.{List, [], ◌∷◌, map}
use Prim.Native.Nat.{ℕ, zero, suc, ◌+◌, ◌≤◌, ◌<◌}
use lib.Dec.{ltb}
use lib.ListN.{length, drop, get_or, length-drop, length-map, get_or-eq_default}
use lib.Seq.{get_or-drop}
use native.Mathlib.Omega.{arith}
use borrow.Author.Tests.{ltb-false, ltb-true}
use Rattle.wire.specs.Lists.{any}
use Rattle.wire.specs.Bytes.{Bytes}
use Rattle.wire.specs.Words.{Word, words_most, words_of, word_at}
use Rattle.wire.proofs.WordLaws.{words_bytes, words_count}
use Rattle.wire.proofs.Lists.{or_left, or_right, any_at}
use Rattle.store.specs.Layout.{key_most, field_most, value_most, time_limit}
use Rattle.commands.specs.Command.{Deed, Command, key_of, fields_of, values_of, deed_values}
use Rattle.commands.specs.Command.Deed.{assign}
use Rattle.commands.specs.Command.Command.{on_field, count_held, count_live}
use Rattle.commands.specs.Options.{Given, given_of, no_exp_group, lifetime, condition, versioning}
use Rattle.commands.specs.Promises.{fields_most}
use Rattle.commands.specs.Parse.{Form, pairs_of, build, too_long, beyond, deed_lifetime, on_deed, parse, scanned_of, said_by}
use Rattle.commands.specs.Parse.Form.{set_form, set_many_form, increment_form, expire_form, persist_form, renumber_form, ask_form, get_many_form, delete_form, count_form, list_form}
use Rattle.commands.specs.Parse.Parsed.{accepted}
use Rattle.commands.proofs.ParseChecks.{checks_clear, Accepted, parse_accepted}

-- a word of at most so many bytes
pub record Bounded (most : ℕ) (w : Word) : Type 0 where
  pub short : length w ≤ most
  pub bytes : Bytes w

-- every word of a list; past its end there is the empty one
abbrev pub AllBounded : ℕ → List Word → Type 0
AllBounded most ws = (i : ℕ) → Bounded most (get_or ws i [])

pub record Sound (c : Command) : Type 0 where
  pub key : Bounded key_most (key_of c)
  pub fields : AllBounded field_most (fields_of c)
  pub values : AllBounded value_most (values_of c)
  pub within : on_deed (λ d. beyond (deed_lifetime d)) c ≡ false

-- ---- every word of the command is a word of the array, or empty

-- a property of every word of a list; past its end there is the empty one
abbrev AllHave : (Word → Type 0) → List Word → Type 0
AllHave P ws = (i : ℕ) → P (get_or ws i [])

-- what a command says, where P holds of every word of its array
record Taken (P : Word → Type 0) (c : Command) : Type 0 where
  key : P (key_of c)
  fields : AllHave P (fields_of c)
  values : AllHave P (values_of c)
  few : length (fields_of c) ≤ fields_most

pub pair_count : (ws : List Word) → length (pairs_of ws) ≤ length ws
unfolding pairs_of
pair_count [] = omega arith
pair_count (f ∷ []) = omega arith
pair_count (f ∷ v ∷ ws) = omega (arith, pair_count ws)

module _ (P : Word → Type 0) (empty : P []) where
  have_one : (w : Word) → P w → AllHave P (w ∷ [])
  have_one w h zero = h
  have_one w h (suc i) = empty

  have_drop : (n : ℕ) (ws : List Word) → AllHave P ws → AllHave P (drop n ws)
  have_drop n ws h i = rw get_or-drop (h (n + i))

  pair_fields : (ws : List Word) → AllHave P ws → AllHave P (map (λ p. p.field) (pairs_of ws))
  unfolding pairs_of
  pair_fields [] h i = empty
  pair_fields (f ∷ []) h i = empty
  pair_fields (f ∷ v ∷ ws) h zero = h 0
  pair_fields (f ∷ v ∷ ws) h (suc i) = pair_fields ws (λ j. h (suc (suc j))) i

  pair_values : (ws : List Word) → AllHave P ws → AllHave P (map (λ p. p.value) (pairs_of ws))
  unfolding pairs_of
  pair_values [] h i = empty
  pair_values (f ∷ []) h i = empty
  pair_values (f ∷ v ∷ ws) h zero = h 1
  pair_values (f ∷ v ∷ ws) h (suc i) = pair_values ws (λ j. h (suc (suc j))) i

  module _ (ws : List Word) (h : AllHave P ws) (n : length ws ≤ words_most) where
    of_field : (d : Deed) → AllHave P (deed_values d) → Taken P (on_field (word_at 1 ws) (word_at 2 ws) d)
    unfolding key_of fields_of values_of word_at
    of_field d v = record { key = h 1; fields = have_one (word_at 2 ws) (h 2); values = v; few = omega arith }

    few_left : length (drop 2 ws) ≤ fields_most
    few_left = simp length-drop (omega arith)

    of_build : (now : ℕ) (gs : List Given) (f : Form) → Taken P (build now f ws gs)
    unfolding build key_of fields_of values_of word_at deed_values
    of_build now gs set_form =
        of_field (assign (word_at 3 ws) (condition gs) (versioning gs) (lifetime now gs)) (have_one (word_at 3 ws) (h 3))
    of_build now gs set_many_form =
        record {
          key = h 1;
          fields = pair_fields (drop 2 ws) (have_drop 2 ws h);
          values = pair_values (drop 2 ws) (have_drop 2 ws h);
          few = simp length-map (omega (arith, pair_count (drop 2 ws), few_left));
        }
    of_build now gs increment_form = of_field _ (λ i. empty)
    of_build now gs (expire_form u) = of_field _ (λ i. empty)
    of_build now gs persist_form = of_field _ (λ i. empty)
    of_build now gs renumber_form = of_field _ (λ i. empty)
    of_build now gs (ask_form q) = of_field _ (λ i. empty)
    of_build now gs (get_many_form q) = record { key = h 1; fields = have_drop 2 ws h; values = λ i. empty; few = few_left }
    of_build now gs delete_form = record { key = h 1; fields = have_drop 2 ws h; values = λ i. empty; few = few_left }
    of_build now gs count_form = go (is_some (given_of no_exp_group gs))
      where
        go : (t : Bool) → Taken P (cond t (count_live (word_at 1 ws)) (count_held (word_at 1 ws)))
        go true = record { key = h 1; fields = λ i. empty; values = λ i. empty; few = omega arith }
        go false = record { key = h 1; fields = λ i. empty; values = λ i. empty; few = omega arith }
    of_build now gs (list_form l) = record { key = h 1; fields = λ i. empty; values = λ i. empty; few = omega arith }

  parse_taken : (now clock : ℕ) (s : List ℕ) (c : Command)
      → ((ws : List Word) → words_of s ≡ Some ws → AllHave P ws) → Accepted now clock s c → Taken P c
  parse_taken now clock s c h a =
      rw a.built at
      (of_build a.words (h a.words a.split) (words_count s a.words a.split).1 now
      (unwrap_or (scanned_of a.row.form a.words) [])
      a.row.form)

-- ---- no word is too long

all_short : (most : ℕ) (ws : List Word) → any (λ w. ltb most (length w)) ws ≡ false → AllHave Bytes ws → AllBounded most ws
all_short most ws a h i = record { short = go (ltb i (length ws)) refl; bytes = h i }
  where
    go : (t : Bool) → ltb i (length ws) ≡ t → length (get_or ws i []) ≤ most
    go true e = ltb-false most (length (get_or ws i [])) (any_at (λ w. ltb most (length w)) ws [] a i (ltb-true i (length ws) e))
    go false e = rw (get_or-eq_default ws [] (ltb-false i (length ws) e)) (omega arith)

-- What is accepted is sound.
pub parse_sound : (now clock : ℕ) (s : List ℕ) (c : Command) → Bytes s → parse now clock s ≡ accepted c → Sound c
unfolding too_long
parse_sound now clock s c b e =
    let a = parse_accepted now clock s c e in
    let r = a.row in
    let k = checks_clear r.form r.count a.words (scanned_of r.form a.words) (said_by now r.form a.words) a.clear in
    let l : too_long c ≡ false = rw a.built at k.short in
    let w : on_deed (λ d. beyond (deed_lifetime d)) c ≡ false = rw a.built at k.timed in
    let t : Taken Bytes c = parse_taken Bytes refl now clock s c (λ ws q. words_bytes s ws b q) a in
    let tooKey : Bool = ltb key_most (length (key_of c)) in
    let tooField : Bool = any (λ f. ltb field_most (length f)) (fields_of c) in
    let tooValue : Bool = any (λ v. ltb value_most (length v)) (values_of c) in
    let m : (tooKey || tooField) ≡ false = or_left (tooKey || tooField) tooValue l in
    record {
      key = record { short = ltb-false key_most (length (key_of c)) (or_left tooKey tooField m); bytes = t.key };
      fields = all_short field_most (fields_of c) (or_right tooKey tooField m) t.fields;
      values = all_short value_most (values_of c) (or_right (tooKey || tooField) tooValue l) t.values;
      within = w;
    }

-- What is accepted names no more fields.
pub parse_few : (now clock : ℕ) (s : List ℕ) (c : Command) → parse now clock s ≡ accepted c → length (fields_of c) ≤ fields_most
parse_few now clock s c e = (parse_taken (λ w. Unit {0}) tt now clock s c (λ ws q i. tt) (parse_accepted now clock s c e)).few

-- What is accepted comes with a clock below the limit.
pub parse_clock : (now clock : ℕ) (s : List ℕ) (c : Command) → parse now clock s ≡ accepted c → clock < time_limit
parse_clock now clock s c e = (parse_accepted now clock s c e).early
