-- Laws of bytes, of numbers in them, and of lists that are the same.
use mathlib.Core.Path.{◌≡◌, refl, sym, ap, ap₂, ◌∙◌}
use mathlib.Core.Bool.{Bool, true, false, false≢true, ◌&&◌}
use mathlib.Core.List.{List, [], ◌∷◌, ◌++◌, flatten}
use Prim.Native.Nat.{ℕ, zero, suc, ◌+◌, ◌-◌, ◌*◌, ◌/◌, ◌%◌, ◌^◌, ◌≤◌, ◌<◌}
use native.Mathlib.Nat.{pow-suc}
use native.Mathlib.Omega.{arith}
use lib.Dec.{ltb, eqb}
use lib.Pow.{are_bytes}
use lib.ListN.{length, take, drop, get_or, replicate, length-append, length-replicate, length-take, length-drop, take-append-drop}
use lib.Seq.{take-append_seam, drop-append_seam}
use borrow.Author.Tests.{ltb-true, lt-ltb, eqb-true, eqb-false, eq-eqb, ne_eqb}
use Rattle.wire.specs.Lists.{all}
use Rattle.wire.specs.Bytes.{Bytes, from_le, to_le, part, padded, all_zero, same}
use Rattle.wire.proofs.Lists.{and_left, and_right, and_both}

-- ---- lists of bytes

pub bytes_head : (b : ℕ) (s : List ℕ) → Bytes (b ∷ s) → b < 256
bytes_head b s h = ltb-true b 256 (and_left (ltb b 256) (are_bytes s) h)

pub bytes_tail : (b : ℕ) (s : List ℕ) → Bytes (b ∷ s) → Bytes s
bytes_tail b s h = and_right (ltb b 256) (are_bytes s) h

pub bytes_cons : (b : ℕ) (s : List ℕ) → b < 256 → Bytes s → Bytes (b ∷ s)
bytes_cons b s l h = and_both (lt-ltb b 256 l) h

pub bytes_append : (s t : List ℕ) → Bytes s → Bytes t → Bytes (s ++ t)
bytes_append [] t p q = q
bytes_append (b ∷ s) t p q = bytes_cons b (s ++ t) (bytes_head b s p) (bytes_append s t (bytes_tail b s p) q)

pub bytes_take : (n : ℕ) (s : List ℕ) → Bytes s → Bytes (take n s)
bytes_take zero s h = refl
bytes_take (suc n) [] h = refl
bytes_take (suc n) (b ∷ s) h = bytes_cons b (take n s) (bytes_head b s h) (bytes_take n s (bytes_tail b s h))

pub bytes_drop : (n : ℕ) (s : List ℕ) → Bytes s → Bytes (drop n s)
bytes_drop zero s h = h
bytes_drop (suc n) [] h = refl
bytes_drop (suc n) (b ∷ s) h = bytes_drop n s (bytes_tail b s h)

pub bytes_part : (at n : ℕ) (s : List ℕ) → Bytes s → Bytes (part at n s)
unfolding part
bytes_part at n s h = bytes_take n (drop at s) (bytes_drop at s h)

pub bytes_zeros : (n : ℕ) → Bytes (replicate n 0)
bytes_zeros zero = refl
bytes_zeros (suc n) = bytes_zeros n

pub bytes_padded : (n : ℕ) (s : List ℕ) → Bytes s → Bytes (padded n s)
unfolding padded
bytes_padded n s h = bytes_append s (replicate (n - length s) 0) h (bytes_zeros (n - length s))

-- elements below 256 are bytes
pub bytes_intro : (s : List ℕ) → ((i : ℕ) → get_or s i 0 < 256) → Bytes s
bytes_intro [] h = refl
bytes_intro (b ∷ s) h = bytes_cons b s (h 0) (bytes_intro s (λ i. h (suc i)))

pub bytes_flatten : (ss : List (List ℕ)) → ((i : ℕ) → Bytes (get_or ss i [])) → Bytes (flatten ss)
unfolding flatten
bytes_flatten [] h = refl
bytes_flatten (s ∷ ss) h = bytes_append s (flatten ss) (h 0) (bytes_flatten ss (λ i. h (suc i)))

-- ---- numbers, low byte first, over any width

pub length_to_le : (w x : ℕ) → length (to_le w x) ≡ w
unfolding to_le
length_to_le zero x = refl
length_to_le (suc w) x = ap suc (length_to_le w (x / 256))

pub bytes_to_le : (w x : ℕ) → Bytes (to_le w x)
unfolding to_le
bytes_to_le zero x = refl
bytes_to_le (suc w) x = bytes_cons (x % 256) (to_le w (x / 256)) (omega arith) (bytes_to_le w (x / 256))

-- a number that its width holds is read back
pub from_le_to_le : (w x : ℕ) → x < 256 ^ w → from_le (to_le w x) ≡ x
unfolding to_le from_le
from_le_to_le zero x h = omega arith
from_le_to_le (suc w) x h =
    let p : x / 256 < 256 ^ w = omega (arith, pow-suc 256 w) in
    rw (from_le_to_le w (x / 256) p) (omega arith)

-- bytes are written back
pub to_le_from_le : (s : List ℕ) → Bytes s → to_le (length s) (from_le s) ≡ s
unfolding to_le from_le
to_le_from_le [] h = refl
to_le_from_le (b ∷ s) h =
    let l : b < 256 = bytes_head b s h in
    let low : (b + 256 * from_le s) % 256 ≡ b = omega arith in
    let high : (b + 256 * from_le s) / 256 ≡ from_le s = omega arith in
    rw (low, high) (ap (λ (t : List ℕ). b ∷ t) (to_le_from_le s (bytes_tail b s h)))

-- bytes spell a number that their width holds
pub from_le_below : (s : List ℕ) → Bytes s → from_le s < 256 ^ length s
unfolding from_le
from_le_below [] h = omega arith
from_le_below (b ∷ s) h =
    let l : b < 256 = bytes_head b s h in
    let r : from_le s < 256 ^ length s = from_le_below s (bytes_tail b s h) in
    omega (arith, pow-suc 256 (length s))

-- ---- lists that are the same

pub same_refl : (s : List ℕ) → same s s ≡ true
unfolding same
same_refl [] = refl
same_refl (b ∷ s) = and_both (eq-eqb b b refl) (same_refl s)

pub same_true : (s t : List ℕ) → same s t ≡ true → s ≡ t
unfolding same
same_true [] [] h = refl
same_true [] (y ∷ ys) h = absurd (false≢true h)
same_true (x ∷ xs) [] h = absurd (false≢true h)
same_true (x ∷ xs) (y ∷ ys) h =
    ap₂ (λ (a : ℕ) (l : List ℕ). a ∷ l) (eqb-true x y (and_left (eqb x y) (same xs ys) h)) (same_true xs ys (and_right (eqb x y) (same xs ys) h))

pub eqb_sym : (x y : ℕ) → eqb x y ≡ eqb y x
eqb_sym x y = go (eqb x y) refl (eqb y x) refl
  where
    go : (t : Bool) → eqb x y ≡ t → (u : Bool) → eqb y x ≡ u → t ≡ u
    go true p true q = refl
    go true p false q = absurd (eqb-false y x q (sym (eqb-true x y p)))
    go false p true q = absurd (eqb-false x y p (sym (eqb-true y x q)))
    go false p false q = refl

pub same_sym : (s t : List ℕ) → same s t ≡ same t s
unfolding same
same_sym [] [] = refl
same_sym [] (y ∷ ys) = refl
same_sym (x ∷ xs) [] = refl
same_sym (x ∷ xs) (y ∷ ys) = rw (eqb_sym x y, same_sym xs ys)

-- ---- zero

pub zero_replicate : (n : ℕ) → all_zero (replicate n 0) ≡ true
unfolding all_zero all
zero_replicate zero = refl
zero_replicate (suc n) = zero_replicate n

pub zero_is : (s : List ℕ) → all_zero s ≡ true → s ≡ replicate (length s) 0
unfolding all_zero all
zero_is [] h = refl
zero_is (b ∷ s) h =
    ap₂ (λ (a : ℕ) (l : List ℕ). a ∷ l) (sym (eqb-true 0 b (and_left (eqb 0 b) (all (eqb 0) s) h))) (zero_is s (and_right (eqb 0 b) (all (eqb 0) s) h))

pub zero_drop : (m : ℕ) (s : List ℕ) → all_zero s ≡ true → all_zero (drop m s) ≡ true
unfolding all_zero all
zero_drop zero s h = h
zero_drop (suc m) [] h = h
zero_drop (suc m) (b ∷ s) h = zero_drop m s (and_right (eqb 0 b) (all_zero s) h)

pub zero_split : (m : ℕ) (s : List ℕ) → all_zero s ≡ all_zero (take m s) && all_zero (drop m s)
unfolding all_zero all
zero_split zero s = refl
zero_split (suc m) [] = refl
zero_split (suc m) (b ∷ s) = go (eqb 0 b) (all_zero s) (all_zero (take m s)) (all_zero (drop m s)) (zero_split m s)
  where
    go : (t x y z : Bool) → x ≡ y && z → t && x ≡ (t && y) && z
    go true x y z e = e
    go false x y z e = refl

-- bytes spell 0 exactly if all are zero
pub from_le_none : (s : List ℕ) → eqb (from_le s) 0 ≡ all_zero s
unfolding from_le all_zero all
from_le_none [] = refl
from_le_none (zero ∷ s) = go (from_le s) (from_le_none s)
  where
    go : (n : ℕ) {z : Bool} → eqb n 0 ≡ z → eqb (0 + 256 * n) 0 ≡ z
    go zero e = e
    go (suc n) e = ne_eqb (0 + 256 * suc n) 0 (λ p. omega arith) ∙ sym (ne_eqb (suc n) 0 (λ p. omega arith)) ∙ e
from_le_none (suc b ∷ s) = rw (ne_eqb 0 (suc b) (λ p. omega arith)) (ne_eqb (suc b + 256 * from_le s) 0 (λ p. omega arith))

-- ---- padding

pub length_padded : (n : ℕ) (s : List ℕ) → length s ≤ n → length (padded n s) ≡ n
unfolding padded
length_padded n s h = simp (length-append, length-replicate) (omega arith)

-- past a list there is 0 either way
pub padded_at : (n : ℕ) (s : List ℕ) (k : ℕ) → get_or (padded n s) k 0 ≡ get_or s k 0
unfolding padded
padded_at n s = go s (n - length s)
  where
    zeros : (m k : ℕ) → get_or {A = ℕ} (replicate m 0) k 0 ≡ 0
    zeros zero k = refl
    zeros (suc m) zero = refl
    zeros (suc m) (suc k) = zeros m k

    go : (s : List ℕ) (m k : ℕ) → get_or (s ++ replicate m 0) k 0 ≡ get_or s k 0
    go [] m k = zeros m k
    go (b ∷ s) m zero = refl
    go (b ∷ s) m (suc k) = go s m k

pub take_padded : (n : ℕ) (s : List ℕ) → take (length s) (padded n s) ≡ s
unfolding padded
take_padded n s = take-append_seam s (replicate (n - length s) 0)

pub drop_padded : (n : ℕ) (s : List ℕ) → drop (length s) (padded n s) ≡ replicate (n - length s) 0
unfolding padded
drop_padded n s = drop-append_seam s (replicate (n - length s) 0)

-- a list of n bytes of which those beyond a length are zero is its first part, padded
pub padded_is : (n used : ℕ) (t : List ℕ) → length t ≡ n → used ≤ n → all_zero (drop used t) ≡ true → padded n (take used t) ≡ t
unfolding padded
padded_is n used t e l h =
    let z : drop used t ≡ replicate (length (drop used t)) 0 = zero_is (drop used t) h in
    let k : length (drop used t) ≡ n - length (take used t) = rw (length-drop, length-take) (omega arith) in
    rw (← k, ← z) (take-append-drop used t)

-- zero spells nothing, at any place
zeros_spell : (at n k : ℕ) → from_le (part at n (replicate k 0)) ≡ 0
unfolding from_le part
zeros_spell at zero k = refl
zeros_spell zero (suc n) zero = refl
zeros_spell zero (suc n) (suc k) = rw (zeros_spell zero n k)
zeros_spell (suc at) (suc n) zero = refl
zeros_spell (suc at) (suc n) (suc k) = zeros_spell at (suc n) k

-- padding changes no number
pub from_le_padded : (at n k : ℕ) (s : List ℕ) → from_le (part at n (padded k s)) ≡ from_le (part at n s)
unfolding padded from_le part
from_le_padded at n k s = go at n s (k - length s)
  where
    go : (at n : ℕ) (s : List ℕ) (z : ℕ) → from_le (part at n (s ++ replicate z 0)) ≡ from_le (part at n s)
    go at n [] z = zeros_spell at n z ∙ sym (zeros_spell at n 0)
    go at zero (b ∷ s) z = refl
    go zero (suc n) (b ∷ s) z = rw (go zero n s z)
    go (suc at) (suc n) (b ∷ s) z = go at (suc n) s z
