-- Two runs of bytes compared from the left: cut in two, padded, and a key and a field in their places by words.
use mathlib.Core.Path.{◌≡◌, refl, sym, ap, ◌∙◌}
use mathlib.Core.Bool.{Bool, true, false, false≢true, cond, ◌&&◌}
use mathlib.Core.List.{List, [], ◌∷◌, ◌++◌}
use Prim.Native.Nat.{ℕ, zero, suc, ◌+◌, ◌*◌, ◌≤◌, ◌<◌}
use native.Mathlib.Omega.{arith}
use lib.Dec.{ltb, eqb}
use lib.ListN.{length, take, drop, get_or, length-append, length-take, length-drop, take-append-drop}
use lib.Seq.{take_at, drop_at, take-add, take-take, take-append-le, drop-append-le, drop-append-add, drop-drop}
use borrow.Author.Tests.{lt-ltb, le-ltb, ltb-true, ltb-false, eq-eqb, ne_eqb}
use Rattle.wire.specs.Bytes.{part, padded, same, from_le}
use Rattle.wire.proofs.ByteLaws.{same_refl, same_true, length_padded, take_padded, from_le_padded}
use Rattle.wire.proofs.ByteLoops.{not_same}
use Rattle.store.specs.Layout.{key_most, field_most}
use Rattle.store.specs.Search.{run_compared}
use Rattle.store.specs.Promises.{name_words, run_start}

-- ---- any two runs

-- a run is compared whole with itself
pub compared_same : (s : List ℕ) → run_compared s s ≡ length s
unfolding run_compared
compared_same [] = refl
compared_same (x ∷ s) = rw (eq-eqb x x refl) (ap suc (compared_same s))

-- no more than the bytes there are
pub compared_most : (s t : List ℕ) → run_compared s t ≤ length t
unfolding run_compared
compared_most [] t = omega arith
compared_most (x ∷ s) [] = omega arith
compared_most (x ∷ s) (y ∷ t) = go (eqb x y) (compared_most s t)
  where
    go : (b : Bool) → run_compared s t ≤ length t → cond b (suc (run_compared s t)) 1 ≤ suc (length t)
    go true h = omega arith
    go false h = omega arith

-- up to a byte they are the same, and it differs
pub compared_until : (i : ℕ) (s t : List ℕ) → length s ≡ length t → take i s ≡ take i t → (get_or s i 0 ≡ get_or t i 0 → ⊥) → run_compared s t ≡ i + 1
unfolding run_compared
compared_until i [] [] e q d = absurd (d refl)
compared_until i [] (y ∷ t) e q d = absurd (omega arith)
compared_until i (x ∷ s) [] e q d = absurd (omega arith)
compared_until zero (x ∷ s) (y ∷ t) e q d = rw (ne_eqb x y d)
compared_until (suc i) (x ∷ s) (y ∷ t) e q d =
    let h : x ≡ y = cc in
    let r : take i s ≡ take i t = cc in
    rw (eq-eqb x y h) (omega (arith, compared_until i s t (omega arith) r d))

-- cut in two: the second parts are compared where the first ones are the same
compared_append : (x y u v : List ℕ) → length x ≡ length y → run_compared (x ++ u) (y ++ v) ≡ run_compared x y + cond (same x y) (run_compared u v) 0
unfolding run_compared same
compared_append [] [] u v e = omega arith
compared_append [] (y ∷ ys) u v e = absurd (omega arith)
compared_append (x ∷ xs) [] u v e = absurd (omega arith)
compared_append (x ∷ xs) (y ∷ ys) u v e = go (eqb x y) (compared_append xs ys u v (omega arith))
  where
    go : (b : Bool) → run_compared (xs ++ u) (ys ++ v) ≡ run_compared xs ys + cond (same xs ys) (run_compared u v) 0
        → cond b (suc (run_compared (xs ++ u) (ys ++ v))) 1 ≡ cond b (suc (run_compared xs ys)) 1 + cond (b && same xs ys) (run_compared u v) 0
    go true h = omega (arith, h)
    go false h = refl

-- what differs in the first parts decides
pub compared_first : (x y u v : List ℕ) → length x ≡ length y → (x ≡ y → ⊥) → run_compared (x ++ u) (y ++ v) ≡ run_compared x y
compared_first x y u v e d = rw (compared_append x y u v e, not_same x y d) (omega arith)

-- after the same first part
compared_after : (x u v : List ℕ) → run_compared (x ++ u) (x ++ v) ≡ length x + run_compared u v
compared_after x u v = rw (compared_append x x u v refl, same_refl x, compared_same x)

-- padding is not compared where the runs differ
compared_padded : (n : ℕ) (s t : List ℕ) → length s ≡ length t → (s ≡ t → ⊥) → run_compared (padded n s) (padded n t) ≡ run_compared s t
unfolding padded
compared_padded n s t e d = compared_first s t _ _ e d

-- padded alike, they are the same
padded_same : (n : ℕ) (s t : List ℕ) → length s ≡ length t → padded n s ≡ padded n t → s ≡ t
padded_same n s t e q = sym (take_padded n s) ∙ rw (q, e) (take_padded n t)

-- ---- words

-- a run as what stands before a word, the word, and what stands after it
cut_word : (at : ℕ) (s : List ℕ) → take at s ++ (part at 8 s ++ drop (at + 8) s) ≡ s
unfolding part
cut_word at s = rw (← drop-drop 8 at s, take-append-drop 8 (drop at s)) (take-append-drop at s)

module _ (at : ℕ) (s t : List ℕ) (e : length s ≡ length t) (l : at + 8 ≤ length s) where
  length_before : length (take at s) ≡ at
  length_before = rw length-take (omega arith)

  length_word : length (part at 8 s) ≡ length (part at 8 t)
  unfolding part
  length_word = rw (length-take, length-drop, length-take, length-drop, e)

  -- up to a word they are the same, and the word differs
  compared_word : take at s ≡ take at t → (part at 8 s ≡ part at 8 t → ⊥) → run_compared s t ≡ at + run_compared (part at 8 s) (part at 8 t)
  compared_word q d =
      let left : take at s ++ (part at 8 s ++ drop (at + 8) s) ≡ s = cut_word at s in
      let right : take at s ++ (part at 8 t ++ drop (at + 8) t) ≡ t = rw q (cut_word at t) in
      let after = compared_after (take at s) (part at 8 s ++ drop (at + 8) s) (part at 8 t ++ drop (at + 8) t) in
      rw (left, right, length_before, compared_first (part at 8 s) (part at 8 t) (drop (at + 8) s) (drop (at + 8) t) length_word d) at after

  -- and the word is the same
  pub same_word : take at s ≡ take at t → part at 8 s ≡ part at 8 t → take (at + 8) s ≡ take (at + 8) t
  unfolding part
  same_word q d = rw (take-add at 8 s, take-add at 8 t, q, d)

-- ---- a key and a field in their places

-- as they stand in a slot, zero after each
abbrev pub placed : List ℕ → List ℕ → List ℕ
placed k f = padded key_most k ++ padded field_most f

-- a word of the first part, and of the second
part_left : (at : ℕ) (x y : List ℕ) → at + 8 ≤ length x → part at 8 (x ++ y) ≡ part at 8 x
unfolding part
part_left at x y l = rw (drop-append-le at x y (omega arith)) (take-append-le 8 (drop at x) y (rw length-drop (omega arith)))

part_right : (at n : ℕ) (x y : List ℕ) → length x ≡ n → part (n + at) 8 (x ++ y) ≡ part at 8 y
unfolding part
part_right at n x y e = rw (← e, drop-append-add x y at)

module _ (k f : List ℕ) (ks : length k ≤ key_most) (fs : length f ≤ field_most) where
  length_key : length (padded key_most k) ≡ key_most
  length_key = length_padded key_most k ks

  pub length_placed : length (placed k f) ≡ 48
  length_placed = rw (length-append, length_key, length_padded field_most f fs)

  key_word : (at : ℕ) → at + 8 ≤ 16 → from_le (part at 8 k) ≡ from_le (part at 8 (placed k f))
  key_word at l = rw (part_left at (padded key_most k) (padded field_most f) (rw length_key l)) (sym (from_le_padded at 8 key_most k))

  field_word : (at : ℕ) → from_le (part at 8 f) ≡ from_le (part (16 + at) 8 (placed k f))
  field_word at = rw (part_right at 16 (padded key_most k) (padded field_most f) length_key) (sym (from_le_padded at 8 field_most f))

  -- the words of a name are those of its places
  pub word_placed : (w : ℕ) → w < 6 → get_or (name_words k f) w 0 ≡ from_le (part (8 * w) 8 (placed k f))
  unfolding name_words
  word_placed zero l = key_word 0 (omega arith)
  word_placed (suc zero) l = key_word 8 (omega arith)
  word_placed (suc (suc zero)) l = field_word 0
  word_placed (suc (suc (suc zero))) l = field_word 8
  word_placed (suc (suc (suc (suc zero)))) l = field_word 16
  word_placed (suc (suc (suc (suc (suc zero))))) l = field_word 24
  word_placed (suc (suc (suc (suc (suc (suc w)))))) l = absurd (omega arith)

-- two names of the same lengths
module _ (k f k' f' : List ℕ) (ke : length k ≡ length k') (fe : length f ≡ length f') (ks : length k ≤ key_most) (fs : length f ≤ field_most) where
  key_place : length (padded key_most k) ≡ key_most
  key_place = length_padded key_most k ks

  key_place' : length (padded key_most k') ≡ key_most
  key_place' = length_padded key_most k' (omega arith)

  -- names that stand alike in their places are the same
  same_keys : take 16 (placed k f) ≡ take 16 (placed k' f') → k ≡ k'
  same_keys q = padded_same key_most k k' ke
      (sym (take_at (padded key_most k) (padded field_most f) 16 key_place) ∙ q ∙ take_at (padded key_most k') (padded field_most f') 16 key_place')

  pub same_names : placed k f ≡ placed k' f' → (k ≡ k') × (f ≡ f')
  same_names q = (
    same_keys (ap (λ (s : List ℕ). take 16 s) q),
    padded_same field_most f f' fe
        (sym (drop_at (padded key_most k) (padded field_most f) 16 key_place)
        ∙ ap (λ (s : List ℕ). drop 16 s) q
        ∙ drop_at (padded key_most k') (padded field_most f') 16 key_place'),
  )

  module _ (w : ℕ) (l : w < 6) (q : take (8 * w) (placed k f) ≡ take (8 * w) (placed k' f'))
      (d : part (8 * w) 8 (placed k f) ≡ part (8 * w) 8 (placed k' f') → ⊥) where
    places_compared : run_compared (placed k f) (placed k' f') ≡ 8 * w + run_compared (part (8 * w) 8 (placed k f)) (part (8 * w) 8 (placed k' f'))
    places_compared =
        let s : length (placed k f) ≡ 48 = length_placed k f ks fs in
        let t : length (placed k' f') ≡ 48 = length_placed k' f' (omega arith) (omega arith) in
        compared_word (8 * w) (placed k f) (placed k' f') (s ∙ sym t) (omega arith) q d

    -- the same keys have the same words; other keys differ in one
    late : k ≡ k' → 2 ≤ w
    late e = go (ltb w 2) refl
      where
        go : (b : Bool) → ltb w 2 ≡ b → 2 ≤ w
        go true h =
            let m : w < 2 = ltb-true w 2 h in
            absurd (d (part_left (8 * w) (padded key_most k) (padded field_most f) (omega (arith, key_place))
            ∙ ap (λ (s : List ℕ). part (8 * w) 8 (padded key_most s)) e
            ∙ sym (part_left (8 * w) (padded key_most k') (padded field_most f') (omega (arith, key_place')))))
        go false h = ltb-false w 2 h

    early : (k ≡ k' → ⊥) → w < 2
    early n = go (ltb w 2) refl
      where
        go : (b : Bool) → ltb w 2 ≡ b → w < 2
        go true h = ltb-true w 2 h
        go false h =
            let m : 16 ≤ 8 * w = omega (arith, ltb-false w 2 h) in
            absurd (n (same_keys
            (sym (take-take 16 (8 * w) (placed k f) m) ∙ ap (λ (s : List ℕ). take 16 s) q ∙ take-take 16 (8 * w) (placed k' f') m)))

    abbrev pub Counted : Type 0
    Counted = run_compared (k ++ f) (k' ++ f') ≡ run_start w (length k') + run_compared (part (8 * w) 8 (placed k f)) (part (8 * w) 8 (placed k' f'))

    in_field : k ≡ k' → Counted
    unfolding run_start
    in_field e =
        let other : f ≡ f' → ⊥ = λ g. d (rw (e, g)) in
        let run : run_compared (k ++ f) (k' ++ f') ≡ length k' + run_compared f f' = rw e (compared_after k' f f') in
        let places : run_compared (placed k f) (placed k' f') ≡ 16 + run_compared f f'
        = rw (e, compared_after (padded key_most k') (padded field_most f) (padded field_most f'), key_place', compared_padded field_most f f' fe other) in
        rw (le-ltb w 2 (late e), run) (omega (arith, places, places_compared, late e))

    in_key : (k ≡ k' → ⊥) → Counted
    unfolding run_start
    in_key n =
        let run : run_compared (k ++ f) (k' ++ f') ≡ run_compared k k' = compared_first k k' f f' ke n in
        let places : run_compared (placed k f) (placed k' f') ≡ run_compared k k'
        = compared_first (padded key_most k) (padded key_most k') (padded field_most f) (padded field_most f') (key_place ∙ sym key_place')
        (λ g. n (padded_same key_most k k' ke g))
        ∙ compared_padded key_most k k' ke n in
        rw (lt-ltb w 2 (early n), run, ← places) places_compared

    -- up to a word they stand alike, and the word differs: the bytes compared are those before it and those in it
    pub run_compared_lem : Counted
    run_compared_lem = go (same k k') refl
      where
        go : (b : Bool) → same k k' ≡ b → Counted
        go true h = in_field (same_true k k' h)
        go false h = in_key (λ e. false≢true (sym h ∙ rw e (same_refl k')))
