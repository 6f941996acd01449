-- A number read digit by digit: what is left of its text, after those digits that spell n, says the same.
use Rattle.std.specs.Prelude.{Option, None, Some, option_map}
use mathlib.Core.Path.{◌≡◌, refl, ap, ◌∙◌}
use mathlib.Core.Bool.{Bool, true, false, not, ◌&&◌, ◌||◌, and-true, and-false}
use mathlib.Core.List.{List, [], ◌∷◌}
use Prim.Native.Nat.{ℕ, zero, suc, ◌+◌, ◌-◌, ◌*◌, ◌≤◌, ◌<◌}
use native.Mathlib.Numerals.{add-one}
use native.Mathlib.Omega.{arith}
use borrow.Author.Tests.{le-leb, lt-leb, eqb-true, ne_eqb, eq-eqb}
use lib.Dec.{leb, eqb}
use lib.IntN.{pos, neg_ℤ, nat_abs}
use lib.ListN.{length, drop, get_or}
use lib.Seq.{drop-cons, drop-length}
use Rattle.std.specs.Char.{is_ascii_digit}
use Rattle.wire.specs.Lists.{all, is_empty, only_if, or_else}
use Rattle.wire.specs.Integers.{is_digit, is_natural, is_negated, value_from, value, read_plain, within, read_integer, read_natural}
use Rattle.wire.proofs.IntegerDigits.{negated_value}

-- ---- tests

-- ---- what is read, with no integers in between

-- A text is read as a number where it is digits with no leading zero whose number is at most `most`.
pub natural_is : (most : ℕ) (s : List ℕ) → read_natural most s ≡ only_if (is_natural s && leb (value s) most) (value s)
unfolding read_natural read_integer read_plain is_natural or_else only_if within is_digit all
natural_is most [] = refl
natural_is most (c ∷ s) = go (eqb c 45) refl
  where
    minus : (t : Bool) (v : ℕ) → (t ≡ true → 1 ≤ v) → option_map nat_abs (or_else (only_if t (neg_ℤ (pos v))) None (λ z. only_if (within (pos 0) (pos most) z) z)) ≡ None
    minus false v h = refl
    minus true zero h = absurd (omega (arith, h refl))
    minus true (suc v) h = refl

    plain : (t : Bool) (v : ℕ) (u : Bool) → leb v most ≡ u → option_map nat_abs (or_else (only_if t (pos v)) None (λ z. only_if (within (pos 0) (pos most) z) z)) ≡ only_if (t && leb v most) v
    plain false v u e = refl
    plain true v true e = rw (le-leb 0 v (omega arith), e)
    plain true v false e = rw (le-leb 0 v (omega arith), e)

    go : (t : Bool) → eqb c 45 ≡ t → read_natural most (c ∷ s) ≡ only_if (is_natural (c ∷ s) && leb (value (c ∷ s)) most) (value (c ∷ s))
    go true e =
        let dash : c ≡ 45 = eqb-true c 45 e in
        rw (e, lt-leb 48 c (omega arith)) (minus (is_negated s) (value s) (λ h. (negated_value s h).0))
    go false e = rw e (plain (is_natural (c ∷ s)) (value (c ∷ s)) (leb (value (c ∷ s)) most) refl)

-- The library's test of a digit.
pub digit_is : (c : ℕ) → is_ascii_digit c ≡ is_digit c
unfolding is_digit
digit_is c = refl

-- ---- what is left

-- what is read of digits after those that spell n
unfoldable pub read_on : ℕ → ℕ → List ℕ → Option ℕ
read_on most n t = only_if (all is_digit t && leb (value_from n t) most) (value_from n t)

-- digits only add to a number
value_from_least : (n : ℕ) (t : List ℕ) → n ≤ value_from n t
unfolding value_from
value_from_least n [] = omega arith
value_from_least n (c ∷ t) = omega (arith, value_from_least (n * 10 + (c - 48)) t)

-- a digit is taken
read_digit : (most n c : ℕ) (t : List ℕ) → is_digit c ≡ true → read_on most n (c ∷ t) ≡ read_on most (n * 10 + (c - 48)) t
unfolding read_on all value_from
read_digit most n c t h = rw h

-- another byte is refused
read_other : (most n c : ℕ) (t : List ℕ) → is_digit c ≡ false → read_on most n (c ∷ t) ≡ None
unfolding read_on all only_if
read_other most n c t h = rw h

-- a number above `most` stays above, whatever follows
read_above : (most n c : ℕ) (t : List ℕ) → most < n * 10 + (c - 48) → read_on most n (c ∷ t) ≡ None
unfolding read_on value_from only_if
read_above most n c t h =
    let above : most < value_from (n * 10 + (c - 48)) t = omega (arith, value_from_least (n * 10 + (c - 48)) t) in
    rw (lt-leb (value_from (n * 10 + (c - 48)) t) most above, and-false)

-- with nothing left, the number is read
read_end : (most n : ℕ) → n ≤ most → read_on most n [] ≡ Some n
unfolding read_on all value_from only_if
read_end most n h = rw (le-leb n most h)

-- ---- what is refused before the first digit

-- An empty text is refused.
pub read_empty : (most : ℕ) (s : List ℕ) → length s ≡ 0 → None ≡ read_natural most s
unfolding read_natural read_integer read_plain or_else
read_empty most [] e = refl
read_empty most (c ∷ s) e = absurd (omega arith)

-- A leading zero is refused.
pub read_zero : (most : ℕ) (s : List ℕ) → get_or s 0 0 ≡ 48 → 1 < length s → None ≡ read_natural most s
unfolding is_natural is_empty only_if
read_zero most [] e l = absurd (omega arith)
read_zero most (c ∷ []) e l = absurd (omega arith)
read_zero most (c ∷ b ∷ s) e l = rw (natural_is, eq-eqb c 48 e, and-false)

-- ---- the loop

-- after i digits that spell n, the rest says what is read
pub record Reading (most : ℕ) (s : List ℕ) (n i : ℕ) : Type 0 where
  pub inside : i ≤ length s
  pub small : n ≤ most
  pub read : read_natural most s ≡ read_on most n (drop i s)

-- Before the first digit, where it is no leading zero.
pub reading_begins : (most : ℕ) (s : List ℕ) → 0 < length s → (get_or s 0 0 ≡ 48 → 1 < length s → ⊥) → Reading most s 0 0
unfolding read_on is_natural is_empty value
reading_begins most [] l h = absurd (omega arith)
reading_begins most (c ∷ []) l h = record { inside = omega arith; small = omega arith; read = rw (natural_is, or_true (not (eqb c 48)), and-true) }
  where
    or_true : (a : Bool) → a || true ≡ true
    or_true true = refl
    or_true false = refl
reading_begins most (c ∷ b ∷ s) l h = record { inside = omega arith; small = omega arith; read = rw (natural_is, ne_eqb c 48 (λ e. h e (omega arith)), and-true) }

module _ {most : ℕ} {s : List ℕ} {n i : ℕ} (r : Reading most s n i) (l : i < length s) where
  -- the next byte
  reading_next : read_natural most s ≡ read_on most n (get_or s i 0 ∷ drop (suc i) s)
  reading_next = r.read ∙ ap (read_on most n) (drop-cons s i 0 l)

  -- A digit is taken where the number stays small.
  pub reading_digit : is_digit (get_or s i 0) ≡ true → n * 10 + (get_or s i 0 - 48) ≤ most → Reading most s (n * 10 + (get_or s i 0 - 48)) (i + 1)
  reading_digit h small =
      record {
        inside = omega arith;
        small = small;
        read = rw add-one (reading_next ∙ read_digit most n (get_or s i 0) (drop (suc i) s) h);
      }

  -- Another byte is refused.
  pub reading_other : is_digit (get_or s i 0) ≡ false → None ≡ read_natural most s
  reading_other h = rw (reading_next, read_other most n (get_or s i 0) (drop (suc i) s) h)

  -- A number above `most` is refused, whatever follows.
  pub reading_above : most < n * 10 + (get_or s i 0 - 48) → None ≡ read_natural most s
  reading_above h = rw (reading_next, read_above most n (get_or s i 0) (drop (suc i) s) h)

-- After the last digit.
pub reading_ends : {most : ℕ} {s : List ℕ} {n i : ℕ} → Reading most s n i → length s ≤ i → Some n ≡ read_natural most s
reading_ends {most} {s} {n} {i} r l =
    let end : i ≡ length s = omega arith in
    rw (r.read, end, drop-length, read_end most n r.small)
