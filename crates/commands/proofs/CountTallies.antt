-- How many words a command takes, and how long they may be.
use Rattle.std.specs.Prelude.{is_some}
use mathlib.Core.Path.{◌≡◌, refl, ◌∙◌}
use mathlib.Core.Bool.{Bool, true, false, cond, ◌||◌, or-false, or_assoc}
use mathlib.Core.List.{List, [], ◌∷◌, map}
use Prim.Native.Nat.{ℕ, suc, ◌+◌, ◌*◌, ◌/◌, ◌≤◌, ◌<◌}
use native.Mathlib.Numerals.{add-one}
use native.Mathlib.Omega.{arith}
use borrow.Author.Tests.{lt-ltb, le-ltb}
use lib.Dec.{ltb}
use lib.ListN.{length, drop, length-drop, drop_of_length-le}
use lib.Seq.{drop-cons}
use Rattle.wire.specs.Lists.{any}
use Rattle.wire.specs.Words.{Word, word_at}
use Rattle.store.specs.Layout.{key_most, field_most, value_most}
use Rattle.commands.specs.Command.{Pair, Command, key_of, fields_of, deed_values, values_of}
use Rattle.commands.specs.Command.Command.{count_held, count_live}
use Rattle.commands.specs.Options.{Given, no_exp_group, given_of}
use Rattle.commands.specs.Parse.{Form, pairs_of, build, too_long}
use Rattle.commands.specs.Parse.Form.{set_form, set_many_form, increment_form, expire_form, persist_form, renumber_form, ask_form, get_many_form, delete_form, count_form, list_form}
use Rattle.commands.specs.ParsePromises.{any_over, pair_over}

-- ---- the lengths of words

-- whether a word after the key is too long, by the form
unfoldable pub long_after : Form → List Word → Bool
long_after set_form ws = ltb field_most (length (word_at 2 ws)) || ltb value_most (length (word_at 3 ws))
long_after set_many_form ws = pair_over ws
long_after increment_form ws = ltb field_most (length (word_at 2 ws))
long_after (expire_form u) ws = ltb field_most (length (word_at 2 ws))
long_after persist_form ws = ltb field_most (length (word_at 2 ws))
long_after renumber_form ws = ltb field_most (length (word_at 2 ws))
long_after (ask_form q) ws = ltb field_most (length (word_at 2 ws))
long_after (get_many_form q) ws = any_over ws
long_after delete_form ws = any_over ws
long_after count_form ws = false
long_after (list_form l) ws = false

-- too long fields or values among pairs
pairs_long : (ps : List Pair)
    → any (λ f. ltb field_most (length f)) (map (λ p. p.field) ps) || any (λ v. ltb value_most (length v)) (map (λ p. p.value) ps)
    ≡ any (λ p. ltb field_most (length p.field) || ltb value_most (length p.value)) ps
unfolding any
pairs_long [] = refl
pairs_long (p ∷ ps) =
    rw (← pairs_long ps)
    (swap (ltb field_most (length p.field)) (any (λ f. ltb field_most (length f)) (map (λ p. p.field) ps)) (ltb value_most (length p.value))
    (any (λ v. ltb value_most (length v)) (map (λ p. p.value) ps)))
  where
    swap : (a b c d : Bool) → (a || b) || (c || d) ≡ (a || c) || (b || d)
    swap true b c d = refl
    swap false true true d = refl
    swap false true false d = refl
    swap false false c d = refl

-- the key, and what comes after it
unfoldable after_key : Command → Bool
after_key c = any (λ f. ltb field_most (length f)) (fields_of c) || any (λ v. ltb value_most (length v)) (values_of c)

long_parts : (c : Command) → too_long c ≡ ltb key_most (length (key_of c)) || after_key c
unfolding too_long after_key
long_parts c = or_assoc (ltb key_most (length (key_of c))) (any (λ f. ltb field_most (length f)) (fields_of c)) (any (λ v. ltb value_most (length v)) (values_of c))

long_key : (time : ℕ) (f : Form) (ws : List Word) (gs : List Given) → key_of (build time f ws gs) ≡ word_at 1 ws
unfolding build key_of
long_key time set_form ws gs = refl
long_key time set_many_form ws gs = refl
long_key time increment_form ws gs = refl
long_key time (expire_form u) ws gs = refl
long_key time persist_form ws gs = refl
long_key time renumber_form ws gs = refl
long_key time (ask_form q) ws gs = refl
long_key time (get_many_form q) ws gs = refl
long_key time delete_form ws gs = refl
long_key time count_form ws gs = go (is_some (given_of no_exp_group gs))
  where
    go : (t : Bool) → key_of (cond t (count_live (word_at 1 ws)) (count_held (word_at 1 ws))) ≡ word_at 1 ws
    go true = refl
    go false = refl
long_key time (list_form l) ws gs = refl

long_after_lem : (time : ℕ) (f : Form) (ws : List Word) (gs : List Given) → after_key (build time f ws gs) ≡ long_after f ws
unfolding after_key build long_after fields_of values_of deed_values any pair_over any_over
long_after_lem time set_form ws gs = simp or-false
long_after_lem time set_many_form ws gs = pairs_long (pairs_of (drop 2 ws))
long_after_lem time increment_form ws gs = simp or-false
long_after_lem time (expire_form u) ws gs = simp or-false
long_after_lem time persist_form ws gs = simp or-false
long_after_lem time renumber_form ws gs = simp or-false
long_after_lem time (ask_form q) ws gs = simp or-false
long_after_lem time (get_many_form q) ws gs = simp or-false
long_after_lem time delete_form ws gs = simp or-false
long_after_lem time count_form ws gs = go (is_some (given_of no_exp_group gs))
  where
    go : (t : Bool) → after_key (cond t (count_live (word_at 1 ws)) (count_held (word_at 1 ws))) ≡ false
    go true = refl
    go false = refl
long_after_lem time (list_form l) ws gs = refl

-- a command of a form: its key is too long, or what comes after it decides
module _ (ws : List Word) (f : Form) (time : ℕ) (gs : List Given) where
  long_at : too_long (build time f ws gs) ≡ ltb key_most (length (word_at 1 ws)) || long_after f ws
  long_at = long_parts (build time f ws gs) ∙ rw (long_key time f ws gs, long_after_lem time f ws gs)

  pub key_long : key_most < length (word_at 1 ws) → true ≡ too_long (build time f ws gs)
  key_long h = rw (long_at, lt-ltb key_most (length (word_at 1 ws)) h)

  pub key_fits : length (word_at 1 ws) ≤ key_most → too_long (build time f ws gs) ≡ long_after f ws
  key_fits h = rw (long_at, le-ltb key_most (length (word_at 1 ws)) h)

pub ruleset key_lengths = (key_long, key_fits)

-- ---- the loops

-- what is left does the same as all from word 2 on; v is the next word, and u the one after it
module _ (ws : List Word) {count : ℕ} (size : length ws ≡ count) (i : ℕ) where
  here : i < count → drop i ws ≡ word_at i ws ∷ drop (suc i) ws
  unfolding word_at
  here l = drop-cons ws i [] (omega arith)

  module _ (h : any_over ws ≡ any (λ f. ltb field_most (length f)) (drop i ws)) where
    pub over_ends : count ≤ i → false ≡ any_over ws
    unfolding any
    over_ends l = rw (h, drop_of_length-le ws {i = i} (omega arith))

    module _ (l : i < count) {v : Word} (ev : v ≡ word_at i ws) where
      pub over_found : field_most < length v → true ≡ any_over ws
      unfolding any
      over_found m = rw (h, here l, ← ev, lt-ltb field_most (length v) m)

      pub over_on : length v ≤ field_most → any_over ws ≡ any (λ f. ltb field_most (length f)) (drop (i + 1) ws)
      unfolding any
      over_on m = h ∙ rw (here l, add-one i, ← ev, le-ltb field_most (length v) m)

  abbrev pair_long : Pair → Bool
  pair_long = λ p. ltb field_most (length p.field) || ltb value_most (length p.value)

  -- a pair is two words
  two_here : i < count / 2 → drop (2 * i) ws ≡ word_at (2 * i) ws ∷ word_at (2 * i + 1) ws ∷ drop (2 * (i + 1)) ws
  unfolding word_at
  two_here l =
      let n : 2 * (i + 1) ≡ suc (suc (2 * i)) = omega arith in
      drop-cons ws (2 * i) [] (omega arith) ∙ rw (add-one (2 * i), n, drop-cons ws (suc (2 * i)) [] (omega arith))

  one_left : (vs : List Word) → length vs ≤ 1 → pairs_of vs ≡ []
  unfolding pairs_of
  one_left [] l = refl
  one_left (v ∷ []) l = refl
  one_left (v ∷ w ∷ vs) l = absurd (omega arith)

  module _ (h : pair_over ws ≡ any pair_long (pairs_of (drop (2 * i) ws))) where
    pub pair_ends : count / 2 ≤ i → false ≡ pair_over ws
    unfolding any
    pair_ends l = rw (h, one_left (drop (2 * i) ws) (rw length-drop (omega arith)))

    module _ (l : i < count / 2) {v : Word} (ev : v ≡ word_at (2 * i) ws) where
      pub pair_field : field_most < length v → true ≡ pair_over ws
      unfolding any pairs_of
      pair_field m = rw (h, two_here l, ← ev, lt-ltb field_most (length v) m)

      module _ (s : length v ≤ field_most) {u : Word} (eu : u ≡ word_at (2 * i + 1) ws) where
        pub pair_value : value_most < length u → true ≡ pair_over ws
        unfolding any pairs_of
        pair_value m = rw (h, two_here l, ← ev, ← eu, le-ltb field_most (length v) s, lt-ltb value_most (length u) m)

        pub pair_on : length u ≤ value_most → pair_over ws ≡ any pair_long (pairs_of (drop (2 * (i + 1)) ws))
        unfolding any pairs_of
        pair_on m = h ∙ rw (two_here l, ← ev, ← eu, le-ltb field_most (length v) s, le-ltb value_most (length u) m)
