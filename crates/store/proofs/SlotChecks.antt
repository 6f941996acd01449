-- Laws of the tests of a slot's bytes, in the forms in which the code makes them.
use mathlib.Core.Path.{◌≡◌, refl, sym, ap, ◌∙◌}
use mathlib.Core.Bool.{Bool, true, false, ◌&&◌, and-true, and_assoc}
use mathlib.Core.List.{List, [], ◌∷◌}
use Prim.Native.Nat.{ℕ, zero, suc, ◌+◌, ◌-◌, ◌*◌, ◌/◌, ◌^◌, ◌≤◌}
use native.Mathlib.Omega.{arith}
use lib.Bits.{bit_or}
use lib.Dec.{leb, eqb}
use lib.ListN.{take, drop, get_or}
use lib.Seq.{drop-drop, take-nil}
use borrow.Author.Tests.{eq-eqb, ne_eqb, eqb-true, eqb-false, le-leb, leb-true}
use Rattle.wire.specs.Lists.{every, all}
use Rattle.wire.specs.Bytes.{Bytes, from_le, part, all_zero}
use Rattle.wire.proofs.Lists.{every_at}
use Rattle.wire.proofs.ByteLaws.{bytes_part, zero_split, from_le_none}
use Rattle.wire.proofs.ByteLoops.{or_zero, from_le_drop}
use Rattle.store.specs.Layout.{state_at, key_length_at, field_length_at, value_length_at, empty_state, expiring_state, expiry_at, expiry_size, key_at, key_most, field_at, field_most, value_at, value_most, time_limit}
use Rattle.store.specs.Store.{zero_beyond, held_well, slot_well, length_tests, expiry_tests, place_tests}
use Rattle.store.proofs.Pieces.{take_part}

-- ---- tests in parts

-- a test that fails fails them all
pub every_fails : (ts : List Bool) (i : ℕ) → get_or ts i true ≡ false → every ts ≡ false
unfolding every
every_fails [] i h = h
every_fails (t ∷ ts) zero h = rw h
every_fails (true ∷ ts) (suc i) h = every_fails ts i h
every_fails (false ∷ ts) (suc i) h = refl

-- a held slot passes its tests of lengths, expiry and places
pub held_parts : (t : List ℕ) → held_well t ≡ every (length_tests t) && (every (expiry_tests t) && every (place_tests t))
unfolding held_well every
held_parts t = rw (and-true (every (place_tests t)))

module _ (t : List ℕ) where
  -- the test of an empty slot
  pub well_empty : get_or t state_at 0 ≡ empty_state → slot_well t ≡ all_zero t
  unfolding slot_well
  well_empty e = rw (eq-eqb (get_or t state_at 0) empty_state e)

  -- the tests of a held one
  pub well_held : (get_or t state_at 0 ≡ empty_state → ⊥) → slot_well t ≡ every (length_tests t) && (every (expiry_tests t) && every (place_tests t))
  unfolding slot_well
  well_held n = rw (ne_eqb (get_or t state_at 0) empty_state n) (held_parts t)

  -- lengths that pass their tests
  pub key_fits : every (length_tests t) ≡ true → get_or t key_length_at 0 ≤ key_most
  unfolding length_tests
  key_fits h = leb-true (get_or t key_length_at 0) key_most (every_at _ h 1)

  pub field_fits : every (length_tests t) ≡ true → get_or t field_length_at 0 ≤ field_most
  unfolding length_tests
  field_fits h = leb-true (get_or t field_length_at 0) field_most (every_at _ h 2)

  pub value_fits : every (length_tests t) ≡ true → get_or t value_length_at 0 ≤ value_most
  unfolding length_tests
  value_fits h = leb-true (get_or t value_length_at 0) value_most (every_at _ h 3)

-- ---- an expiry

module _ (t : List ℕ) where
  -- of a slot that expires only the instant is tested
  pub expiring_test : get_or t state_at 0 ≡ expiring_state → every (expiry_tests t) ≡ leb (from_le (part expiry_at expiry_size t)) time_limit
  unfolding expiry_tests every
  expiring_test e = rw (eq-eqb (get_or t state_at 0) expiring_state e) (and-true (leb (from_le (part expiry_at expiry_size t)) time_limit))

  -- of another it is zero
  pub lasting_test : (get_or t state_at 0 ≡ expiring_state → ⊥) → every (expiry_tests t) ≡ eqb (from_le (part expiry_at expiry_size t)) 0
  unfolding expiry_tests every
  lasting_test n = rw (ne_eqb (get_or t state_at 0) expiring_state n, ← from_le_none (part expiry_at expiry_size t)) (go (from_le (part expiry_at expiry_size t)))
    where
      go : (x : ℕ) → eqb x 0 && (leb x time_limit && true) ≡ eqb x 0
      go zero = refl
      go (suc x) = rw (ne_eqb (suc x) 0 (λ p. omega arith))

  -- an instant of zero is right for both
  pub none_test : from_le (part expiry_at expiry_size t) ≡ 0 → every (expiry_tests t) ≡ true
  none_test e = go (eqb (get_or t state_at 0) expiring_state) refl
    where
      go : (x : Bool) → eqb (get_or t state_at 0) expiring_state ≡ x → every (expiry_tests t) ≡ true
      go true q = expiring_test (eqb-true (get_or t state_at 0) expiring_state q) ∙ rw e (le-leb 0 time_limit (omega arith))
      go false q = lasting_test (eqb-false (get_or t state_at 0) expiring_state q) ∙ rw e

  -- another is wrong for a slot that does not expire
  pub some_test : (get_or t state_at 0 ≡ expiring_state → ⊥) → (from_le (part expiry_at expiry_size t) ≡ 0 → ⊥) → every (expiry_tests t) ≡ false
  some_test n e = lasting_test n ∙ ne_eqb (from_le (part expiry_at expiry_size t)) 0 e

-- ---- places

-- what is left of the first n is the first of what is left
pub drop_take : (m n : ℕ) (s : List ℕ) → drop m (take n s) ≡ take (n - m) (drop m s)
drop_take zero n s = let e : n - 0 ≡ n = omega arith in rw e
drop_take (suc m) zero s = let e : zero - suc m ≡ 0 = omega arith in rw e
drop_take (suc m) (suc n) [] = sym (take-nil (suc n - suc m))
drop_take (suc m) (suc n) (x ∷ s) = let e : suc n - suc m ≡ n - m = omega arith in rw e (drop_take m n s)

-- a word's bytes beyond those used are zero exactly if the number without its lowest bytes is
pub word_beyond : (at used : ℕ) (t : List ℕ) → Bytes t → (x : ℕ) → x ≡ from_le (part at 8 t) → eqb (x / 2 ^ (8 * used)) 0 ≡ zero_beyond at 8 used t
unfolding zero_beyond
word_beyond at used t b x e = rw (e, from_le_drop used (part at 8 t) (bytes_part at 8 t b)) (from_le_none (drop used (part at 8 t)))

-- nothing is beyond a place that is used whole
pub beyond_whole : (at size : ℕ) (t : List ℕ) → zero_beyond at size size t ≡ true
unfolding zero_beyond part all_zero all
beyond_whole at size t =
    let e : size - size ≡ 0 = omega arith in
    rw (drop_take size size (drop at t), e)

-- a place in two parts of m and n bytes
module _ (at m n used : ℕ) (t : List ℕ) where
  rest_part : drop m (part at (m + n) t) ≡ part (at + m) n t
  unfolding part
  rest_part =
      let e : m + n - m ≡ n = omega arith in
      rw (drop_take m (m + n) (drop at t), drop-drop m at t, e)

  -- where the bytes used end in the first
  beyond_first : used ≤ m → zero_beyond at (m + n) used t ≡ zero_beyond at m used t && all_zero (part (at + m) n t)
  unfolding zero_beyond
  beyond_first h =
      let e : used + (m - used) ≡ m = omega arith in
      let first : take (m - used) (drop used (part at (m + n) t)) ≡ drop used (part at m t) = sym (drop_take used m (part at (m + n) t)) ∙ ap (λ (s : List ℕ). drop used s) (take_part at m (m + n) t (omega arith)) in
      let last : drop (m - used) (drop used (part at (m + n) t)) ≡ part (at + m) n t = drop-drop (m - used) used (part at (m + n) t) ∙ rw e rest_part in
      zero_split (m - used) (drop used (part at (m + n) t)) ∙ rw (first, last)

  -- where they end in the last
  pub beyond_last : m ≤ used → zero_beyond at (m + n) used t ≡ zero_beyond (at + m) n (used - m) t
  unfolding zero_beyond
  beyond_last h =
      let e : m + (used - m) ≡ used = omega arith in
      rw (← rest_part, drop-drop (used - m) m (part at (m + n) t), e)

  -- a number of what is beyond in the first and one of the second are together one of what is beyond in both
  pub beyond_bits : used ≤ m → (x y : ℕ) → eqb x 0 ≡ zero_beyond at m used t → eqb y 0 ≡ all_zero (part (at + m) n t) → eqb (bit_or x y) 0 ≡ zero_beyond at (m + n) used t
  beyond_bits h x y p q = or_zero x y ∙ rw (p, q) (sym (beyond_first h))

-- where the bytes used end in the last word of a place, what is beyond is what is left of it
pub beyond_end : (at size used : ℕ) (t : List ℕ) → Bytes t → size - 8 ≤ used → 8 ≤ size → (x : ℕ) → x ≡ from_le (part (at + (size - 8)) 8 t)
    → eqb (x / 2 ^ (8 * (used - (size - 8)))) 0 ≡ zero_beyond at size used t
beyond_end at size used t b h l x e =
    let s : size - 8 + 8 ≡ size = omega arith in
    word_beyond (at + (size - 8)) (used - (size - 8)) t b x e ∙ sym (rw s at (beyond_last at (size - 8) 8 used t h))

-- the word after the bytes used
pub beyond_word : (at used : ℕ) (t : List ℕ) (x : ℕ) → x ≡ from_le (part (at + used) 8 t) → eqb x 0 ≡ zero_beyond at (used + 8) used t
unfolding zero_beyond
beyond_word at used t x e = rw (e, rest_part at used 8 used t) (from_le_none (part (at + used) 8 t))

overlap : (a b c : Bool) → (a && b) && (b && c) ≡ a && (b && c)
overlap true true c = refl
overlap true false c = refl
overlap false b c = refl

-- what is beyond up to m, and the k bytes from c on, which may overlap it
pub beyond_more : (at used c k m : ℕ) (t : List ℕ) → used ≤ c → c ≤ m → m ≤ c + k → (x y : ℕ) → eqb x 0 ≡ zero_beyond at m used t → y ≡ from_le (part (at + c) k t)
    → eqb (bit_or x y) 0 ≡ zero_beyond at (c + k) used t
beyond_more at used c k m t h i l x y p q =
    let e : c + (m - c) ≡ m = omega arith in
    let first : zero_beyond at m used t ≡ zero_beyond at c used t && all_zero (part (at + c) (m - c) t) = rw e at (beyond_first at c (m - c) used t h) in
    let last : all_zero (part (at + c) k t) ≡ all_zero (part (at + c) (m - c) t) && all_zero (drop (m - c) (part (at + c) k t)) = rw (take_part (at + c) (m - c) k t (omega arith)) at (zero_split (m - c) (part (at + c) k t)) in
    or_zero x y
    ∙ rw (p, q, from_le_none (part (at + c) k t), beyond_first at c k used t h, first, last)
    (overlap (zero_beyond at c used t) (all_zero (part (at + c) (m - c) t)) (all_zero (drop (m - c) (part (at + c) k t))))

-- the bits beyond the lengths of a slot's three places
pub places_bits : (t : List ℕ) (k f v : ℕ) → eqb k 0 ≡ zero_beyond key_at key_most (get_or t key_length_at 0) t
    → eqb f 0 ≡ zero_beyond field_at field_most (get_or t field_length_at 0) t
    → eqb v 0 ≡ zero_beyond value_at value_most (get_or t value_length_at 0) t
    → eqb (bit_or (bit_or k f) v) 0 ≡ every (place_tests t)
unfolding place_tests every
places_bits t k f v p q r = rw (or_zero (bit_or k f) v, or_zero k f, ← p, ← q, ← r, and-true (eqb v 0)) (and_assoc (eqb k 0) (eqb f 0) (eqb v 0))
