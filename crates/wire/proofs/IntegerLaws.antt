-- Plain integers and their text: what is written is read back, and what is read is written so.
use Rattle.std.specs.Prelude.{Some, option_map}
use mathlib.Core.Path.{◌≡◌, refl, ap, ◌∙◌}
use mathlib.Core.Bool.{Bool, true, false, false≢true}
use mathlib.Core.List.{List, [], ◌∷◌}
use Rattle.std.proofs.lemmas.Option.{none-some}
use Prim.Native.Nat.{ℕ, zero, suc, ◌≤◌}
use native.Mathlib.Omega.{arith}
use borrow.Author.Tests.{leb-true, eqb-true, le-leb, ne_eqb}
use lib.Dec.{leb, eqb}
use lib.IntN.{ℤ, pos, negsuc, neg_ℤ, nat_abs}
use lib.ListN.{length}
use Rattle.wire.specs.Lists.{all, only_if, or_else}
use Rattle.wire.specs.Bytes.{Bytes}
use Rattle.wire.specs.Integers.{is_digit, is_natural, is_negated, value, natural_text, integer_text, read_plain, read_integer, read_natural, within, lowest64, highest64}
use Rattle.wire.proofs.Lists.{and_left, and_right, and_both}
use Rattle.wire.proofs.Options.{option_map_some, only_if_some, or_else_some}
use Rattle.wire.proofs.IntegerDigits.{digit_least, length_natural_text, text_negated, text_natural, natural_digits, value_text, negated_value, text_value, bytes_natural_text}

-- ---- with no bounds

-- a number's digits are read as it
natural_plain : (s : List ℕ) → is_natural s ≡ true → read_plain s ≡ Some (pos (value s))
unfolding read_plain only_if is_natural all
natural_plain [] h = absurd (false≢true h)
natural_plain (c ∷ s) h =
    let least : 48 ≤ c = digit_least c (and_left (is_digit c) (all is_digit s) (natural_digits (c ∷ s) h)) in
    rw (ne_eqb c 45 (omega arith), h)

-- the text of an integer is read as it
plain_text : (z : ℤ) → read_plain (integer_text z) ≡ Some z
unfolding integer_text read_plain only_if
plain_text (pos n) = natural_plain (natural_text n) (text_natural n) ∙ ap (λ (k : ℕ). Some (pos k)) (value_text n)
plain_text (negsuc n) = rw (text_negated (suc n) (omega arith), value_text (suc n))

-- what is read as an integer is its text
text_plain : (s : List ℕ) (z : ℤ) → read_plain s ≡ Some z → integer_text z ≡ s
unfolding integer_text read_plain
text_plain [] z h = absurd (none-some z h)
text_plain (c ∷ s) z h = go (eqb c 45) refl
  where
    minus : (n : ℕ) → 1 ≤ n → integer_text (neg_ℤ (pos n)) ≡ 45 ∷ natural_text n
    minus zero positive = absurd (omega arith)
    minus (suc n) positive = refl

    go : (t : Bool) → eqb c 45 ≡ t → integer_text z ≡ c ∷ s
    go true e =
        let r : (is_negated s ≡ true) × (neg_ℤ (pos (value s)) ≡ z) = only_if_some (is_negated s) (rw e at h) in
        let v : (1 ≤ value s) × (natural_text (value s) ≡ s) = negated_value s r.0 in
        rw (← r.1, eqb-true c 45 e) (minus (value s) v.0 ∙ ap (λ (t : List ℕ). 45 ∷ t) v.1)
    go false e =
        let r : (is_natural (c ∷ s) ≡ true) × (pos (value (c ∷ s)) ≡ z) = only_if_some (is_natural (c ∷ s)) (rw e at h) in
        rw (← r.1) (text_value (c ∷ s) r.0)

-- ---- within bounds

-- The text of an integer within bounds is read as it.
pub read_text : (lo hi z : ℤ) → within lo hi z ≡ true → read_integer lo hi (integer_text z) ≡ Some z
unfolding read_integer or_else only_if
read_text lo hi z h = rw (plain_text z, h)

-- what is read within bounds is read without them, and lies within them
read_parts : (lo hi : ℤ) (s : List ℕ) (z : ℤ) → read_integer lo hi s ≡ Some z → (read_plain s ≡ Some z) × (within lo hi z ≡ true)
unfolding read_integer
read_parts lo hi s z h =
    let (y, p, q) = or_else_some (read_plain s) h in
    let (w, e) = only_if_some (within lo hi y) q in
    (rw e at p, rw e at w)

-- What is read as an integer is its text.
pub text_read : (lo hi : ℤ) (s : List ℕ) (z : ℤ) → read_integer lo hi s ≡ Some z → integer_text z ≡ s
text_read lo hi s z h = text_plain s z (read_parts lo hi s z h).0

-- What is read is within the bounds.
pub read_within : (lo hi : ℤ) (s : List ℕ) (z : ℤ) → read_integer lo hi s ≡ Some z → within lo hi z ≡ true
read_within lo hi s z h = (read_parts lo hi s z h).1

-- ---- numbers

-- The text of a number up to hi is read as it.
pub read_natural_text : (hi n : ℕ) → n ≤ hi → read_natural hi (natural_text n) ≡ Some n
unfolding read_natural integer_text within
read_natural_text hi n l = ap (option_map nat_abs) (read_text (pos 0) (pos hi) (pos n) (and_both (le-leb 0 n (omega arith)) (le-leb n hi l)))

-- A number is read as the integer that it is.
pub natural_read : (hi : ℕ) (s : List ℕ) (n : ℕ) → read_natural hi s ≡ Some n → read_integer (pos 0) (pos hi) s ≡ Some (pos n)
unfolding read_natural within
natural_read hi s n h =
    let (z, p, q) = option_map_some nat_abs (read_integer (pos 0) (pos hi) s) h in
    p ∙ go z (read_within (pos 0) (pos hi) s z p) q
  where
    go : (z : ℤ) → within (pos 0) (pos hi) z ≡ true → nat_abs z ≡ n → Some z ≡ Some (pos n)
    go (pos m) w q = rw q
    go (negsuc m) w q = absurd (false≢true w)

-- What is read as a number is its text.
pub text_read_natural : (hi : ℕ) (s : List ℕ) (n : ℕ) → read_natural hi s ≡ Some n → natural_text n ≡ s
unfolding integer_text
text_read_natural hi s n h = text_read (pos 0) (pos hi) s (pos n) (natural_read hi s n h)

-- What is read as a number is at most hi.
pub read_natural_most : (hi : ℕ) (s : List ℕ) (n : ℕ) → read_natural hi s ≡ Some n → n ≤ hi
unfolding within
read_natural_most hi s n h = leb-true n hi (and_right (leb 0 n) (leb n hi) (read_within (pos 0) (pos hi) s (pos n) (natural_read hi s n h)))

-- ---- bytes

-- An integer's text is bytes.
pub bytes_integer_text : (z : ℤ) → Bytes (integer_text z)
unfolding integer_text
bytes_integer_text (pos n) = bytes_natural_text n
bytes_integer_text (negsuc n) = bytes_natural_text (suc n)

-- The text of a signed integer of 64 bits is at most 20 bytes.
pub length_integer_text : (z : ℤ) → within lowest64 highest64 z ≡ true → length (integer_text z) ≤ 20
unfolding integer_text within
length_integer_text (pos n) h = omega (arith, length_natural_text 19 n (omega arith) (omega (arith, leb-true n 0x7fff_ffff_ffff_ffff h)))
length_integer_text (negsuc n) h = omega (arith, length_natural_text 19 (suc n) (omega arith) (omega (arith, leb-true n 0x7fff_ffff_ffff_ffff (and_left (leb n 0x7fff_ffff_ffff_ffff) true h))))
