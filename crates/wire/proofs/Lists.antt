-- Laws of tests over lists.
use mathlib.Core.Path.{◌≡◌, refl, sym, ◌∙◌}
use mathlib.Core.Bool.{Bool, true, false, cond, ◌&&◌, ◌||◌, true≢false, false≢true}
use mathlib.Core.List.{List, [], ◌∷◌, ◌++◌}
use Prim.Native.Nat.{ℕ, zero, suc, ◌≤◌, ◌<◌}
use native.Mathlib.Nat.{not-suc-le-zero}
use native.Mathlib.Omega.{arith}
use lib.ListN.{length, get_or}
use Rattle.wire.specs.Lists.{every, all, any, keep}

-- ---- tests

-- both tests of a conjunction that passes pass
pub and_left : (a b : Bool) → a && b ≡ true → a ≡ true
and_left true b h = refl
and_left false b h = h

pub and_right : (a b : Bool) → a && b ≡ true → b ≡ true
and_right true b h = h
and_right false b h = absurd (false≢true h)

pub and_both : {a b : Bool} → a ≡ true → b ≡ true → a && b ≡ true
and_both {a} {b} p q = rw (p, q)

-- both tests of a disjunction that fails fail
pub or_left : (a b : Bool) → a || b ≡ false → a ≡ false
or_left true b h = h
or_left false b h = refl

pub or_right : (a b : Bool) → a || b ≡ false → b ≡ false
or_right true b h = absurd (true≢false h)
or_right false b h = h

pub or_neither : {a b : Bool} → a ≡ false → b ≡ false → a || b ≡ false
or_neither {a} {b} p q = rw (p, q)

pub or_late : {b : Bool} (a : Bool) → b ≡ true → a || b ≡ true
or_late true h = refl
or_late false h = h

-- a test does not pass and fail
pub both_ways {ℓ} : {A : Type ℓ} {t : Bool} → t ≡ true → t ≡ false → A
both_ways p q = absurd (true≢false (sym p ∙ q))

-- what cannot be: `cc` proves 0 ≡ 1 from an equation between different constructors, and anything follows by `impossible cc`
pub impossible {ℓ} : {A : Type ℓ} → ◌≡◌ {A = ℕ} 0 1 → A
impossible e = absurd (omega arith)

-- each test of a list that passes passes
pub every_at : (ts : List Bool) → every ts ≡ true → (i : ℕ) → get_or ts i true ≡ true
unfolding every
every_at [] h i = refl
every_at (t ∷ ts) h zero = and_left t (every ts) h
every_at (t ∷ ts) h (suc i) = every_at ts (and_right t (every ts) h) i

-- ---- elements

module _ {ℓ} {A : Type ℓ} (p : A → Bool) where
  pub all_at : (xs : List A) (d : A) → all p xs ≡ true → (i : ℕ) → i < length xs → p (get_or xs i d) ≡ true
  unfolding all
  all_at [] d h i l = absurd (not-suc-le-zero l)
  all_at (x ∷ xs) d h zero l = and_left (p x) (all p xs) h
  all_at (x ∷ xs) d h (suc i) l = all_at xs d (and_right (p x) (all p xs) h) i (omega arith)

  pub all_append : (xs ys : List A) → all p (xs ++ ys) ≡ all p xs && all p ys
  unfolding all
  all_append [] ys = refl
  all_append (x ∷ xs) ys = rw (all_append xs ys) (assoc (p x) (all p xs) (all p ys))
    where
      assoc : (a b c : Bool) → a && (b && c) ≡ a && b && c
      assoc true b c = refl
      assoc false b c = refl

  -- p holds of no element
  pub any_at : (xs : List A) (d : A) → any p xs ≡ false → (i : ℕ) → i < length xs → p (get_or xs i d) ≡ false
  unfolding any
  any_at [] d h i l = absurd (not-suc-le-zero l)
  any_at (x ∷ xs) d h zero l = or_left (p x) (any p xs) h
  any_at (x ∷ xs) d h (suc i) l = any_at xs d (or_right (p x) (any p xs) h) i (omega arith)

  pub any_none : (xs : List A) (d : A) → ((i : ℕ) → i < length xs → p (get_or xs i d) ≡ false) → any p xs ≡ false
  unfolding any
  any_none [] d h = refl
  any_none (x ∷ xs) d h = or_neither (h 0 (omega arith)) (any_none xs d (λ i l. h (suc i) (omega arith)))

  -- p holds of an element
  pub any_some : (xs : List A) (d : A) (i : ℕ) → i < length xs → p (get_or xs i d) ≡ true → any p xs ≡ true
  unfolding any
  any_some [] d i l h = absurd (not-suc-le-zero l)
  any_some (x ∷ xs) d zero l h = rw h
  any_some (x ∷ xs) d (suc i) l h = or_late (p x) (any_some xs d i (omega arith) h)

  -- no more elements are kept than there are
  pub length_keep : (xs : List A) → length (keep p xs) ≤ length xs
  unfolding keep
  length_keep [] = omega arith
  length_keep (x ∷ xs) = go (p x) (length_keep xs)
    where
      go : (t : Bool) → length (keep p xs) ≤ length xs → length (cond t (x ∷ keep p xs) (keep p xs)) ≤ suc (length xs)
      go true h = omega arith
      go false h = omega arith
