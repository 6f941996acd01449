-- Integers as sign and magnitude: what is read, written, compared and added of them, in plain numbers.
use Rattle.std.specs.Prelude.{Option, None, Some, option_map}
use mathlib.Core.Path.{◌≡◌, refl, sym, ap, ◌∙◌}
use mathlib.Core.Logic.{◌≢◌}
use mathlib.Core.Bool.{Bool, true, false, cond, not, ◌&&◌, beq, true≢false, false≢true, and-false}
use mathlib.Core.List.{List, [], ◌∷◌}
use Prim.Native.Nat.{ℕ, zero, suc, ◌+◌, ◌-◌, ◌≤◌, ◌<◌}
use native.Mathlib.Omega.{arith}
use borrow.Author.Tests.{le-leb, lt-leb, leb-true, leb-false, ne_eqb, eq-eqb}
use lib.Dec.{leb, eqb, leb-suc-suc}
use lib.IntN.{ℤ, pos, negsuc, neg_ℤ, ◌+ℤ◌, neg_ℤ-+ℤ, +ℤ_comm, +ℤ-neg_ℤ_cancel, -ℤ-+ℤ_cancel}
use lib.Signed.{le_z}
use lib.ListN.{length, take, drop, get_or}
use lib.Seq.{take_all}
use Rattle.wire.proofs.Lists.{impossible}
use Rattle.wire.specs.Lists.{only_if, or_else}
use Rattle.wire.specs.Integers.{is_natural, is_negated, value, read_plain, within, lowest64, highest64, read_integer, read_natural, natural_text, integer_text}
use Rattle.wire.specs.declared.integers.Signed.{Signed}
use Rattle.wire.specs.Promises.{signed_for, integer_of}
use Rattle.wire.proofs.IntegerDigits.{text_negated, negated_natural, negated_value, text_value}
use Rattle.wire.proofs.IntegerReading.{natural_is}

-- ---- signs

-- Two signs are one where the code's test says so.
pub signs_same : (t u : Bool) → beq t u ≡ true → t ≡ u
signs_same true true h = refl
signs_same true false h = absurd (false≢true h)
signs_same false true h = absurd (false≢true h)
signs_same false false h = refl

pub signs_other : (t u : Bool) → beq t u ≡ false → t ≢ u
signs_other true true h e = true≢false h
signs_other true false h e = true≢false e
signs_other false true h e = false≢true e
signs_other false false h e = true≢false h

-- a sign that is not one is the other
so : (t : Bool) → t ≢ false → t ≡ true
so true h = refl
so false h = absurd (h refl)

not_so : (t : Bool) → t ≢ true → t ≡ false
not_so true h = absurd (h refl)
not_so false h = refl

-- ---- signed 64 bits

-- what lies within them, in plain numbers
within_plain : (n : ℕ) → within lowest64 highest64 (pos n) ≡ leb n 0x7fff_ffff_ffff_ffff
unfolding within
within_plain n = refl

within_minus : (n : ℕ) → within lowest64 highest64 (negsuc n) ≡ leb (suc n) 0x8000_0000_0000_0000
unfolding within
within_minus n = go (leb n 0x7fff_ffff_ffff_ffff) refl
  where
    go : (t : Bool) → leb n 0x7fff_ffff_ffff_ffff ≡ t → leb n 0x7fff_ffff_ffff_ffff && true ≡ leb (suc n) 0x8000_0000_0000_0000
    go true e = rw (e, le-leb (suc n) 0x8000_0000_0000_0000 (omega (arith, leb-true)))
    go false e = rw (e, lt-leb (suc n) 0x8000_0000_0000_0000 (omega (arith, leb-false)))

-- An integer is what its sign and magnitude say.
pub sign_said : (z : ℤ) → integer_of (signed_for z) ≡ z
unfolding integer_of signed_for
sign_said (pos n) = refl
sign_said (negsuc n) = refl

-- ---- what a number that was read says

-- A number was read.
pub read_value : (o : Option ℕ) {n : ℕ} → Some n ≡ o → o ≡ Some n
read_value None h = impossible cc
read_value (Some m) h = cc

-- A text was refused.
pub read_refused : (o : Option ℕ) → None ≡ o → o ≡ None
read_refused None h = refl
read_refused (Some m) h = impossible cc

-- ---- an integer is a number, or one after a minus

-- digits that may start with 0 and may not are 0
natural_zero : (s : List ℕ) → is_natural s ≡ true → is_negated s ≡ false → value s ≡ 0
natural_zero s h l = go (value s) refl
  where
    go : (v : ℕ) → value s ≡ v → value s ≡ 0
    go zero e = e
    go (suc v) e =
        let negated : is_negated s ≡ true = rw (text_value s h) at (text_negated (value s) (omega arith)) in
        absurd (true≢false (sym negated ∙ l))

-- what a number after a minus says
minus : ℕ → Option ℤ
minus n = only_if (not (eqb n 0)) (neg_ℤ (pos n))

-- with a minus
read_minus : (s : List ℕ) → read_integer lowest64 highest64 (45 ∷ s) ≡ or_else (read_natural 0x8000_0000_0000_0000 s) None minus
unfolding read_integer read_plain or_else only_if minus
read_minus s = rw natural_is (go (is_negated s) refl (is_natural s) refl)
  where
    bounded : (v : ℕ) → 1 ≤ v → (t : Bool) → leb v 0x8000_0000_0000_0000 ≡ t
        → only_if (within lowest64 highest64 (neg_ℤ (pos v))) (neg_ℤ (pos v)) ≡ or_else (only_if (leb v 0x8000_0000_0000_0000) v) None minus
    bounded zero positive t e = absurd (omega arith)
    bounded (suc v) positive true e = rw (within_minus, e, ne_eqb (suc v) 0 (λ z. omega arith))
    bounded (suc v) positive false e = rw (within_minus, e)

    go : (t : Bool) → is_negated s ≡ t → (u : Bool) → is_natural s ≡ u
        → read_integer lowest64 highest64 (45 ∷ s) ≡ or_else (only_if (is_natural s && leb (value s) 0x8000_0000_0000_0000) (value s)) None minus
    go true h u l = rw (h, negated_natural s h) (bounded (value s) (negated_value s h).0 (leb (value s) 0x8000_0000_0000_0000) refl)
    go false h true l = rw (h, l, natural_zero s l h)
    go false h false l = rw (h, l)

-- without one
read_plain_lem : (s : List ℕ) → get_or s 0 0 ≢ 45 → read_integer lowest64 highest64 s ≡ option_map pos (read_natural 0x7fff_ffff_ffff_ffff s)
unfolding read_integer read_plain or_else only_if is_natural
read_plain_lem [] other = rw natural_is
read_plain_lem (c ∷ s) other = rw (natural_is, ne_eqb c 45 other) (go (is_natural (c ∷ s)) (value (c ∷ s)) (leb (value (c ∷ s)) 0x7fff_ffff_ffff_ffff) refl)
  where
    go : (t : Bool) (v : ℕ) (u : Bool) → leb v 0x7fff_ffff_ffff_ffff ≡ u
        → or_else (only_if t (pos v)) None (λ z. only_if (within lowest64 highest64 z) z) ≡ option_map pos (only_if (t && leb v 0x7fff_ffff_ffff_ffff) v)
    go false v u e = refl
    go true v true e = rw (within_plain, e)
    go true v false e = rw (within_plain, e)

-- ---- read_integer

-- An empty text is refused.
pub integer_empty : (s : List ℕ) → length s ≡ 0 → None ≡ option_map signed_for (read_integer lowest64 highest64 s)
unfolding read_integer read_plain or_else
integer_empty [] e = refl
integer_empty (c ∷ s) e = absurd (omega arith)

module _ (s : List ℕ) {r : Option ℕ} (read : r ≡ read_natural 0x7fff_ffff_ffff_ffff s) (other : get_or s 0 0 ≢ 45) where
  -- With no minus, a number that was read is the integer.
  pub plain_value : (n : ℕ) → r ≡ Some n → Some (record { negative = false; magnitude = n }) ≡ option_map signed_for (read_integer lowest64 highest64 s)
  unfolding signed_for
  plain_value n e = rw (read_plain_lem s other, read_value (read_natural 0x7fff_ffff_ffff_ffff s) (sym e ∙ read))

  pub plain_refused : r ≡ None → None ≡ option_map signed_for (read_integer lowest64 highest64 s)
  plain_refused e = rw (read_plain_lem s other, read_refused (read_natural 0x7fff_ffff_ffff_ffff s) (sym e ∙ read))

-- what follows the minus
after_minus : (s : List ℕ) → 0 < length s → get_or s 0 0 ≡ 45 → read_integer lowest64 highest64 s ≡ or_else (read_natural 0x8000_0000_0000_0000 (take (length s - 1) (drop 1 s))) None minus
after_minus [] l dash = absurd (omega arith)
after_minus (c ∷ s) l dash = rw (take_all (suc (length s) - 1) s (omega arith), dash) (read_minus s)

module _ (s : List ℕ) {r : Option ℕ} (read : r ≡ read_natural 0x8000_0000_0000_0000 (take (length s - 1) (drop 1 s))) (some_bytes : 0 < length s) (dash : get_or s 0 0 ≡ 45) where
  -- After a minus, a number that was read and is not 0 is the integer's magnitude.
  pub minus_value : (n : ℕ) → r ≡ Some n → n ≢ 0 → Some (record { negative = true; magnitude = n }) ≡ option_map signed_for (read_integer lowest64 highest64 s)
  unfolding signed_for or_else only_if minus
  minus_value zero e other = absurd (other refl)
  minus_value (suc n) e other = rw (after_minus s some_bytes dash, read_value (read_natural 0x8000_0000_0000_0000 (take (length s - 1) (drop 1 s))) (sym e ∙ read), ne_eqb (suc n) 0 other)

  -- 0 has no minus.
  pub minus_zero : (n : ℕ) → r ≡ Some n → n ≡ 0 → None ≡ option_map signed_for (read_integer lowest64 highest64 s)
  unfolding or_else only_if minus
  minus_zero n e none_left = rw (after_minus s some_bytes dash, read_value (read_natural 0x8000_0000_0000_0000 (take (length s - 1) (drop 1 s))) (sym e ∙ read), none_left)

  pub minus_refused : r ≡ None → None ≡ option_map signed_for (read_integer lowest64 highest64 s)
  unfolding or_else
  minus_refused e = rw (after_minus s some_bytes dash, read_refused (read_natural 0x8000_0000_0000_0000 (take (length s - 1) (drop 1 s))) (sym e ∙ read))

-- ---- write_integer

-- A negative integer has a minus before its magnitude's text.
pub text_minus : (z : Signed) → z.negative ≡ true → 0 < z.magnitude → integer_text (integer_of z) ≡ 45 ∷ natural_text z.magnitude
unfolding integer_of integer_text
text_minus z negative positive = rw negative (go z.magnitude positive)
  where
    go : (n : ℕ) → 0 < n → integer_text (neg_ℤ (pos n)) ≡ 45 ∷ natural_text n
    go zero positive = absurd (omega arith)
    go (suc n) positive = refl

-- Any other has its magnitude's text.
pub text_plain : (z : Signed) → (z.negative ≡ true → z.magnitude ≡ 0) → integer_text (integer_of z) ≡ natural_text z.magnitude
unfolding integer_of integer_text
text_plain z other = go z.negative other
  where
    go : (t : Bool) → (t ≡ true → z.magnitude ≡ 0) → integer_text (cond t (neg_ℤ (pos z.magnitude)) (pos z.magnitude)) ≡ natural_text z.magnitude
    go true h = rw (h refl)
    go false h = refl

-- ---- bounded

-- the integer of a sign and a magnitude
abbrev signed : Bool → ℕ → ℤ
signed t n = cond t (neg_ℤ (pos n)) (pos n)

-- an integer of signed 64 bits, or a refusal
abbrev answer : ℤ → Option Signed
answer z = option_map signed_for (only_if (within lowest64 highest64 z) z)

-- 0 has no sign.
pub answer_zero : (t : Bool) (n : ℕ) → n ≡ 0 → Some (record { negative = false; magnitude = 0 }) ≡ answer (signed t n)
unfolding signed_for only_if within
answer_zero true n e = rw e
answer_zero false n e = rw e

-- A negative integer has a magnitude of at most 2^63.
pub answer_minus : (n : ℕ) → n ≢ 0 → n ≤ 0x8000_0000_0000_0000 → Some (record { negative = true; magnitude = n }) ≡ answer (signed true n)
unfolding signed_for only_if
answer_minus zero other l = absurd (other refl)
answer_minus (suc n) other l = rw (within_minus, le-leb (suc n) 0x8000_0000_0000_0000 l)

-- Any other is below 2^63.
pub answer_plain : (n : ℕ) → n ≤ 0x7fff_ffff_ffff_ffff → Some (record { negative = false; magnitude = n }) ≡ answer (signed false n)
unfolding signed_for only_if
answer_plain n l = rw (within_plain, le-leb n 0x7fff_ffff_ffff_ffff l)

-- What lies outside is refused.
pub answer_below : (n : ℕ) → 0x8000_0000_0000_0000 < n → None ≡ answer (signed true n)
unfolding only_if
answer_below zero l = absurd (omega arith)
answer_below (suc n) l = rw (within_minus, lt-leb (suc n) 0x8000_0000_0000_0000 l)

pub answer_above : (n : ℕ) → 0x7fff_ffff_ffff_ffff < n → None ≡ answer (signed false n)
unfolding only_if
answer_above n l = rw (within_plain, lt-leb n 0x7fff_ffff_ffff_ffff l)

-- ---- add

-- integers of one sign
sum_same : (t : Bool) (m n : ℕ) → signed t m +ℤ signed t n ≡ signed t (m + n)
sum_same false m n = refl
sum_same true m n = sym (neg_ℤ-+ℤ (pos m) (pos n))

-- integers of two signs, the larger magnitude first
sum_other : (t u : Bool) (m n : ℕ) → t ≢ u → n ≤ m → signed t m +ℤ signed u n ≡ signed t (m - n)
sum_other t u m n other l =
    let again : m - n + n ≡ m = omega arith in
    ap (λ (k : ℕ). signed t k +ℤ signed u n) (sym again) ∙ ap (λ (z : ℤ). z +ℤ signed u n) (sym (sum_same t (m - n) n)) ∙ cancel t u other
  where
    cancel : (t u : Bool) → t ≢ u → signed t (m - n) +ℤ signed t n +ℤ signed u n ≡ signed t (m - n)
    cancel true true other = absurd (other refl)
    cancel true false other = -ℤ-+ℤ_cancel (signed true (m - n)) (pos n)
    cancel false true other = +ℤ-neg_ℤ_cancel (pos (m - n)) (pos n)
    cancel false false other = absurd (other refl)

module _ (a b : Signed) where
  -- A sum of one sign has the sum of the magnitudes.
  pub add_same : a.negative ≡ b.negative → integer_of a +ℤ integer_of b ≡ integer_of (record { negative = a.negative; magnitude = a.magnitude + b.magnitude })
  unfolding integer_of
  add_same e = rw (← e) (sum_same a.negative a.magnitude b.magnitude)

  -- One of two signs has their difference, with the sign of the larger.
  pub add_first : a.negative ≢ b.negative → b.magnitude ≤ a.magnitude → integer_of a +ℤ integer_of b ≡ integer_of (record { negative = a.negative; magnitude = a.magnitude - b.magnitude })
  unfolding integer_of
  add_first other l = sum_other a.negative b.negative a.magnitude b.magnitude other l

  pub add_second : a.negative ≢ b.negative → a.magnitude ≤ b.magnitude → integer_of a +ℤ integer_of b ≡ integer_of (record { negative = b.negative; magnitude = b.magnitude - a.magnitude })
  unfolding integer_of
  add_second other l = +ℤ_comm (integer_of a) (integer_of b) ∙ sum_other b.negative a.negative b.magnitude a.magnitude (λ e. other (sym e)) l

  -- A sum of one sign whose magnitude is above 2^63 is refused.
  pub add_outside : a.negative ≡ b.negative → 0x8000_0000_0000_0000 < a.magnitude + b.magnitude → None ≡ answer (integer_of a +ℤ integer_of b)
  unfolding integer_of
  add_outside e l = go a.negative (a.magnitude + b.magnitude) l ∙ ap answer (sym (add_same e))
    where
      go : (t : Bool) (n : ℕ) → 0x8000_0000_0000_0000 < n → None ≡ answer (signed t n)
      go true n l = answer_below n l
      go false n l = answer_above n (omega arith)

-- ---- at_most

-- negative integers, the larger magnitude below
le_negated : (m n : ℕ) → le_z (neg_ℤ (pos m)) (neg_ℤ (pos n)) ≡ leb n m
le_negated zero zero = refl
le_negated zero (suc n) = sym (lt-leb (suc n) 0 (omega arith))
le_negated (suc m) zero = sym (le-leb 0 (suc m) (omega arith))
le_negated (suc m) (suc n) = sym (leb-suc-suc n m)

-- a negative one is at most any other
le_across : (m n : ℕ) → le_z (neg_ℤ (pos m)) (pos n) ≡ true
le_across zero n = le-leb 0 n (omega arith)
le_across (suc m) n = refl

-- no other is at most a negative one, but 0 which is both
le_back : (m n : ℕ) → le_z (pos m) (neg_ℤ (pos n)) ≡ eqb m 0 && eqb n 0
le_back zero zero = refl
le_back (suc m) zero = rw (lt-leb (suc m) 0 (omega arith), ne_eqb (suc m) 0 (λ e. omega arith))
le_back m (suc n) = rw (ne_eqb (suc n) 0 (λ e. omega arith), and-false)

module _ (a b : Signed) where
  le_other : a.negative ≢ b.negative → a.negative ≡ false → le_z (integer_of a) (integer_of b) ≡ eqb a.magnitude 0 && eqb b.magnitude 0
  unfolding integer_of
  le_other other e = rw (e, so b.negative (λ u. other (e ∙ sym u))) (le_back a.magnitude b.magnitude)

  -- Two signs: the negative one is at most the other,
  pub le_first : a.negative ≢ b.negative → a.negative ≡ true → true ≡ le_z (integer_of a) (integer_of b)
  unfolding integer_of
  le_first other e = rw (e, not_so b.negative (λ u. other (e ∙ sym u))) (sym (le_across a.magnitude b.magnitude))

  -- and the other at most it only where both are 0.
  pub le_second : a.negative ≢ b.negative → a.negative ≡ false → a.magnitude ≡ 0 → eqb b.magnitude 0 ≡ le_z (integer_of a) (integer_of b)
  le_second other e z = rw (le_other other e, eq-eqb a.magnitude 0 z)

  pub le_never : a.negative ≢ b.negative → a.negative ≡ false → a.magnitude ≢ 0 → eqb a.magnitude 0 ≡ le_z (integer_of a) (integer_of b)
  le_never other e z = rw (le_other other e, ne_eqb a.magnitude 0 z)

  -- One sign: the magnitudes decide.
  pub le_minus : a.negative ≡ b.negative → a.negative ≡ true → leb b.magnitude a.magnitude ≡ le_z (integer_of a) (integer_of b)
  unfolding integer_of
  le_minus same e = rw (← same, e) (sym (le_negated a.magnitude b.magnitude))

  pub le_plain : a.negative ≡ b.negative → a.negative ≡ false → leb a.magnitude b.magnitude ≡ le_z (integer_of a) (integer_of b)
  unfolding integer_of
  le_plain same e = rw (← same, e)
