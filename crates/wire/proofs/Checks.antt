-- Laws of lists of checks.
use Rattle.std.specs.Prelude.{None, Some}
use mathlib.Core.Path.{◌≡◌, refl}
use mathlib.Core.Logic.{◌⊎◌, inl, inr}
use mathlib.Core.Bool.{Bool, true, false, cond, ◌&&◌}
use mathlib.Core.List.{List, [], ◌∷◌, ◌++◌}
use Prim.Native.Nat.{ℕ, ◌≤◌}
use lib.Dec.{leb}
use borrow.Author.Tests.{leb-true}
use Rattle.wire.specs.Lists.{all, or_else}
use Rattle.wire.specs.Checks.{Check, ◌when◌, first_applying}
use Rattle.wire.proofs.Lists.{and_left, and_right, impossible}

-- A check that applies gives its number; one that is passed leaves it to the rest.
pub check_applies : (n : ℕ) (cs : List Check) {t : Bool} → t ≡ true → first_applying (n when t ∷ cs) ≡ Some n
unfolding first_applying
check_applies n cs h = rw h

pub check_passed : (n : ℕ) (cs : List Check) {t : Bool} → t ≡ false → first_applying (n when t ∷ cs) ≡ first_applying cs
unfolding first_applying
check_passed n cs h = rw h

pub checks_end : first_applying [] ≡ None
unfolding first_applying
checks_end = refl

-- A number that is given is the first check's, which applies, or comes from the rest, where the first is passed.
pub first_some : (c : Check) (cs : List Check) (n : ℕ) → first_applying (c ∷ cs) ≡ Some n
    → ((c.applies ≡ true) × (c.number ≡ n)) ⊎ ((c.applies ≡ false) × (first_applying cs ≡ Some n))
unfolding first_applying
first_some c cs n = go c.applies
  where
    go : (t : Bool) → cond t (Some c.number) (first_applying cs) ≡ Some n → ((t ≡ true) × (c.number ≡ n)) ⊎ ((t ≡ false) × (first_applying cs ≡ Some n))
    go true h = inl (refl, cc)
    go false h = inr (refl, h)

-- Where none is given, the first is passed, and none of the rest is given.
pub first_none : (c : Check) (cs : List Check) → first_applying (c ∷ cs) ≡ None → (c.applies ≡ false) × (first_applying cs ≡ None)
unfolding first_applying
first_none c cs = go c.applies
  where
    go : (t : Bool) → cond t (Some c.number) (first_applying cs) ≡ None → (t ≡ false) × (first_applying cs ≡ None)
    go true h = impossible cc
    go false h = (refl, h)

-- What holds of the number of every check holds of the number that is given.
pub first_number : (p : ℕ → Bool) (cs : List Check) (n : ℕ) → all (λ c. p c.number) cs ≡ true → first_applying cs ≡ Some n → p n ≡ true
unfolding all first_applying
first_number p [] n h e = impossible cc
first_number p (c ∷ cs) n h e =
    let this : Bool = p c.number in
    let rest : Bool = all (λ d. p d.number) cs in
    go (first_some c cs n e) (and_left this rest h) (first_number p cs n (and_right this rest h))
  where
    go : ((c.applies ≡ true) × (c.number ≡ n)) ⊎ ((c.applies ≡ false) × (first_applying cs ≡ Some n)) → p c.number ≡ true → (first_applying cs ≡ Some n → p n ≡ true) → p n ≡ true
    go (inl q) a b = rw q.1 at a
    go (inr q) a b = b q.1

-- Checks whose numbers lie between two give a number between them.
pub first_between : (lo hi : ℕ) (cs : List Check) (n : ℕ) → all (λ c. leb lo c.number && leb c.number hi) cs ≡ true → first_applying cs ≡ Some n
    → (lo ≤ n) × (n ≤ hi)
first_between lo hi cs n h e =
    let b : (leb lo n && leb n hi) ≡ true = first_number (λ i. leb lo i && leb i hi) cs n h e in
    (leb-true lo n (and_left (leb lo n) (leb n hi) b), leb-true n hi (and_right (leb lo n) (leb n hi) b))

-- The first check is passed where another number is given; the only one applies where one is.
pub check_other : {m : ℕ} (c : Check) (cs : List Check) → (c.number ≡ m → ⊥) → first_applying (c ∷ cs) ≡ Some m → (c.applies ≡ false) × (first_applying cs ≡ Some m)
check_other {m} c cs d h = go (first_some c cs m h)
  where
    go : ((c.applies ≡ true) × (c.number ≡ m)) ⊎ ((c.applies ≡ false) × (first_applying cs ≡ Some m)) → (c.applies ≡ false) × (first_applying cs ≡ Some m)
    go (inl q) = absurd (d q.1)
    go (inr q) = q

pub check_only : {m : ℕ} (c : Check) → first_applying (c ∷ []) ≡ Some m → c.applies ≡ true
unfolding first_applying
check_only {m} c h = go (first_some c [] m h)
  where
    go : ((c.applies ≡ true) × (c.number ≡ m)) ⊎ ((c.applies ≡ false) × (first_applying [] ≡ Some m)) → c.applies ≡ true
    go (inl q) = q.0
    go (inr q) = let e = q.1 in cc

-- Of two lists in turn the second is looked at where none of the first applies.
pub first_append : (cs ds : List Check) → first_applying (cs ++ ds) ≡ or_else (first_applying cs) (first_applying ds) Some
unfolding first_applying or_else
first_append [] ds = refl
first_append (c ∷ cs) ds = go c.applies (first_append cs ds)
  where
    go : (t : Bool) → first_applying (cs ++ ds) ≡ or_else (first_applying cs) (first_applying ds) Some
        → cond t (Some c.number) (first_applying (cs ++ ds)) ≡ or_else (cond t (Some c.number) (first_applying cs)) (first_applying ds) Some
    go true h = refl
    go false h = h
