-- The digits of a number: they spell it, and no other digits without a leading zero do.
use mathlib.Core.Path.{◌≡◌, refl, sym, ◌∙◌}
use mathlib.Core.Bool.{Bool, true, false, false≢true, cond, not, ◌||◌}
use mathlib.Core.List.{List, [], ◌∷◌, ◌++◌, append-nil}
use Prim.Native.Nat.{ℕ, zero, suc, ◌+◌, ◌-◌, ◌*◌, ◌/◌, ◌%◌, ◌^◌, ◌≤◌, ◌<◌}
use native.Mathlib.Nat.{pow-suc}
use native.Mathlib.Omega.{arith}
use borrow.Author.Tests.{ltb-true, ltb-false, leb-true, eqb-true, eqb-false, lt-ltb, le-ltb, le-leb, ne_eqb, not-true}
use lib.Dec.{leb, ltb, eqb}
use lib.ListN.{length, length-append}
use lib.Seq.{append_snoc}
use mathlib.Core.Logic.{◌≢◌}
use Rattle.wire.specs.Lists.{all, is_empty}
use Rattle.wire.specs.Bytes.{Bytes}
use Rattle.wire.specs.Integers.{is_digit, is_natural, is_negated, value_from, value, digits, natural_text}
use Rattle.wire.proofs.Lists.{and_left, and_right, and_both, all_append}
use Rattle.wire.proofs.ByteLaws.{bytes_cons}

-- ---- the text of a number, digit by digit

-- any two bounds that are large enough give the same digits
digits_bound : (k j n : ℕ) → n < k → n < j → digits k n ≡ digits j n
unfolding digits
digits_bound zero j n h l = absurd (omega arith)
digits_bound (suc k) zero n h l = absurd (omega arith)
digits_bound (suc k) (suc j) n h l = go (ltb n 10) refl (λ big. digits_bound k j (n / 10) (omega arith) (omega arith))
  where
    go : (t : Bool) → ltb n 10 ≡ t → (10 ≤ n → digits k (n / 10) ≡ digits j (n / 10))
        → cond (ltb n 10) ((48 + n) ∷ []) (digits k (n / 10) ++ ((48 + n % 10) ∷ [])) ≡ cond (ltb n 10) ((48 + n) ∷ []) (digits j (n / 10) ++ ((48 + n % 10) ∷ []))
    go true e higher = rw e
    go false e higher = rw (e, higher (ltb-false n 10 e))

-- A number of one digit is that digit.
pub text_digit : (n : ℕ) → n < 10 → natural_text n ≡ (48 + n) ∷ []
unfolding natural_text digits
text_digit n small = rw (lt-ltb n 10 small)

-- One digit more goes after the text of the number before it.
pub text_snoc : (a d : ℕ) → 1 ≤ a → d < 10 → natural_text (a * 10 + d) ≡ natural_text a ++ ((48 + d) ∷ [])
unfolding natural_text digits
text_snoc a d positive small = rw (le-ltb (a * 10 + d) 10 (omega arith), quotient, remainder, digits_bound (a * 10 + d) (suc a) a (omega arith) (omega arith))
  where
    quotient : (a * 10 + d) / 10 ≡ a
    quotient = omega arith

    remainder : (a * 10 + d) % 10 ≡ d
    remainder = omega arith

-- What holds of each digit, and of a number with one digit more, holds of every number.
pub by_digits : (P : ℕ → Type 0) → ((n : ℕ) → n < 10 → P n) → ((a d : ℕ) → 1 ≤ a → d < 10 → P a → P (a * 10 + d)) → (n : ℕ) → P n
by_digits P base step n = go n n (omega arith)
  where
    split : (n : ℕ) (t : Bool) → ltb n 10 ≡ t → (10 ≤ n → P (n / 10)) → P n
    split n true e before = base n (ltb-true n 10 e)
    split n false e before =
        let big : 10 ≤ n = ltb-false n 10 e in
        let again : n / 10 * 10 + n % 10 ≡ n = omega arith in
        rw again at (step (n / 10) (n % 10) (omega arith) (omega arith) (before big))

    go : (k n : ℕ) → n ≤ k → P n
    go zero n l = base n (omega arith)
    go (suc k) n l = split n (ltb n 10) refl (λ big. go k (n / 10) (omega arith))

-- A number below 10 ^ d has at most d digits.
pub length_natural_text : (d n : ℕ) → 1 ≤ d → n < 10 ^ d → length (natural_text n) ≤ d
length_natural_text d n = by_digits (λ n. (d : ℕ) → 1 ≤ d → n < 10 ^ d → length (natural_text n) ≤ d) (λ n l d one small. rw (text_digit n l) one) step n d
  where
    step : (a c : ℕ) → 1 ≤ a → c < 10 → ((d : ℕ) → 1 ≤ d → a < 10 ^ d → length (natural_text a) ≤ d) → (d : ℕ) → 1 ≤ d → a * 10 + c < 10 ^ d → length (natural_text (a * 10 + c)) ≤ d
    step a c positive l before zero one small = omega arith
    step a c positive l before (suc zero) one small = omega arith
    step a c positive l before (suc (suc d)) one small =
        let fewer : a < 10 ^ suc d = omega (arith, pow-suc 10 (suc d)) in
        rw (text_snoc a c positive l, length-append) (omega (arith, before (suc d) (omega arith) fewer))

-- ---- digits

-- 48 and a number below 10 make a digit
digit_is : (d : ℕ) → d < 10 → is_digit (48 + d) ≡ true
unfolding is_digit
digit_is d l = and_both (le-leb 48 (48 + d) (omega arith)) (le-leb (48 + d) 57 (omega arith))

-- A digit is from 48 to 57.
pub digit_least : (c : ℕ) → is_digit c ≡ true → 48 ≤ c
unfolding is_digit
digit_least c h = leb-true 48 c (and_left (leb 48 c) (leb c 57) h)

pub digit_most : (c : ℕ) → is_digit c ≡ true → c ≤ 57
unfolding is_digit
digit_most c h = leb-true c 57 (and_right (leb 48 c) (leb c 57) h)

-- one digit more after digits that do not start with 0
negated_snoc : (s : List ℕ) (d : ℕ) → is_negated s ≡ true → d < 10 → is_negated (s ++ ((48 + d) ∷ [])) ≡ true
unfolding is_negated all
negated_snoc [] d h l = absurd (false≢true h)
negated_snoc (c ∷ s) d h l =
    and_both (all_append is_digit (c ∷ s) ((48 + d) ∷ []) ∙ and_both (and_left (all is_digit (c ∷ s)) (not (eqb c 48)) h) (and_both (digit_is d l) refl))
    (and_right (all is_digit (c ∷ s)) (not (eqb c 48)) h)

-- The text of a number from 1 on is digits that do not start with 0.
pub text_negated : (n : ℕ) → 1 ≤ n → is_negated (natural_text n) ≡ true
unfolding is_negated all
text_negated = by_digits (λ n. 1 ≤ n → is_negated (natural_text n) ≡ true)
    (λ n l positive. rw (text_digit n l, digit_is n l, ne_eqb (48 + n) 48 (omega arith)))
    (λ a d positive l before large. rw (text_snoc a d positive l) (negated_snoc (natural_text a) d (before positive) l))

-- Digits that do not start with 0 are a number's.
pub negated_natural : (s : List ℕ) → is_negated s ≡ true → is_natural s ≡ true
unfolding is_negated is_natural
negated_natural [] h = h
negated_natural (c ∷ s) h =
    and_both (and_left (all is_digit (c ∷ s)) (not (eqb c 48)) h) (rw (and_right (all is_digit (c ∷ s)) (not (eqb c 48)) h))

-- The text of a number is digits with no leading zero but 0 itself.
pub text_natural : (n : ℕ) → is_natural (natural_text n) ≡ true
text_natural zero = unfold natural_text digits is_natural is_digit all is_empty in refl
text_natural (suc n) = negated_natural (natural_text (suc n)) (text_negated (suc n) (omega arith))

-- What is written as a number is digits.
pub natural_digits : (s : List ℕ) → is_natural s ≡ true → all is_digit s ≡ true
unfolding is_natural
natural_digits [] h = absurd (false≢true h)
natural_digits (c ∷ s) h = and_left (all is_digit (c ∷ s)) (not (eqb c 48) || is_empty s) h

-- A number's text is digits.
pub text_digits : (n : ℕ) → all is_digit (natural_text n) ≡ true
text_digits n = natural_digits (natural_text n) (text_natural n)

-- ---- values

-- the value of one text after another
value_from_append : (a : ℕ) (s t : List ℕ) → value_from a (s ++ t) ≡ value_from (value_from a s) t
unfolding value_from
value_from_append a [] t = refl
value_from_append a (c ∷ s) t = value_from_append (a * 10 + (c - 48)) s t

-- A number's text spells it.
pub value_text : (n : ℕ) → value (natural_text n) ≡ n
unfolding value value_from
value_text = by_digits (λ n. value (natural_text n) ≡ n)
    (λ n l. rw (text_digit n l) (omega arith))
    (λ a d positive l before. rw (text_snoc a d positive l, value_from_append 0 (natural_text a) ((48 + d) ∷ []), before) (omega arith))

-- digits that follow a number go after its text
text_value_from : (a : ℕ) (s : List ℕ) → 1 ≤ a → all is_digit s ≡ true → natural_text (value_from a s) ≡ natural_text a ++ s
unfolding value_from all
text_value_from a [] positive h = sym (append-nil (natural_text a))
text_value_from a (c ∷ s) positive h =
    let digit : is_digit c ≡ true = and_left (is_digit c) (all is_digit s) h in
    let least : 48 ≤ c = digit_least c digit in
    let most : c ≤ 57 = digit_most c digit in
    let again : 48 + (c - 48) ≡ c = omega arith in
    rw (text_value_from (a * 10 + (c - 48)) s (omega arith) (and_right (is_digit c) (all is_digit s) h), text_snoc a (c - 48) positive (omega arith), again)
    (append_snoc (natural_text a) c s)

-- what follows a number from 1 on leaves it from 1 on
value_from_positive : (a : ℕ) (s : List ℕ) → 1 ≤ a → 1 ≤ value_from a s
unfolding value_from
value_from_positive a [] positive = positive
value_from_positive a (c ∷ s) positive = value_from_positive (a * 10 + (c - 48)) s (omega arith)

-- Digits that do not start with 0 are the text of a number from 1 on.
pub negated_value : (s : List ℕ) → is_negated s ≡ true → (1 ≤ value s) × (natural_text (value s) ≡ s)
unfolding is_negated value value_from all
negated_value [] h = absurd (false≢true h)
negated_value (c ∷ s) h =
    let ds : all is_digit (c ∷ s) ≡ true = and_left (all is_digit (c ∷ s)) (not (eqb c 48)) h in
    let digit : is_digit c ≡ true = and_left (is_digit c) (all is_digit s) ds in
    let least : 48 ≤ c = digit_least c digit in
    let most : c ≤ 57 = digit_most c digit in
    let other : c ≢ 48 = eqb-false c 48 (not-true (eqb c 48) (and_right (all is_digit (c ∷ s)) (not (eqb c 48)) h)) in
    let again : 48 + (0 * 10 + (c - 48)) ≡ c = omega arith in (
      value_from_positive (0 * 10 + (c - 48)) s (omega arith),
      rw (text_value_from (0 * 10 + (c - 48)) s (omega arith) (and_right (is_digit c) (all is_digit s) ds), text_digit (0 * 10 + (c - 48)) (omega arith), again),
    )

-- A number's digits are the text of the number that they spell.
pub text_value : (s : List ℕ) → is_natural s ≡ true → natural_text (value s) ≡ s
unfolding is_natural is_negated is_empty value value_from natural_text digits
text_value [] h = absurd (false≢true h)
text_value (c ∷ s) h = go s (eqb c 48) refl h
  where
    go : (s : List ℕ) (t : Bool) → eqb c 48 ≡ t → is_natural (c ∷ s) ≡ true → natural_text (value (c ∷ s)) ≡ c ∷ s
    go s false e h = (negated_value (c ∷ s) (and_both (natural_digits (c ∷ s) h) (rw e))).1
    go [] true e h = rw (eqb-true c 48 e)
    go (b ∷ s) true e h = absurd (false≢true (rw e at (and_right (all is_digit (c ∷ b ∷ s)) (not (eqb c 48) || false) h)))

-- ---- bytes

-- digits are bytes
digits_bytes : (s : List ℕ) → all is_digit s ≡ true → Bytes s
unfolding all
digits_bytes [] h = refl
digits_bytes (c ∷ s) h =
    let most : c ≤ 57 = digit_most c (and_left (is_digit c) (all is_digit s) h) in
    bytes_cons c s (omega arith) (digits_bytes s (and_right (is_digit c) (all is_digit s) h))

-- A number's text is bytes.
pub bytes_natural_text : (n : ℕ) → Bytes (natural_text n)
bytes_natural_text n = digits_bytes (natural_text n) (text_digits n)
