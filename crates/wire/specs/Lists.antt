-- Tests over lists, and answers that may be missing. Nothing here is the paper's; the other definitions are written with it.
use Rattle.std.specs.Prelude.{Option, None, Some}
use Rattle.std.specs.Prelude.{Bool, true, false, cond, ◌&&◌, ◌||◌, List, [], ◌∷◌}

-- every test of a list passes
unfoldable pub every : List Bool → Bool
every [] = true
every (t ∷ ts) = t && every ts

module _ {ℓ} {A : Type ℓ} where
  -- p holds of every element
  unfoldable pub all : (A → Bool) → List A → Bool
  all p [] = true
  all p (x ∷ xs) = p x && all p xs

  -- p holds of some element
  unfoldable pub any : (A → Bool) → List A → Bool
  any p [] = false
  any p (x ∷ xs) = p x || any p xs

  -- the elements of which p holds, in order
  unfoldable pub keep : (A → Bool) → List A → List A
  keep p [] = []
  keep p (x ∷ xs) = cond (p x) (x ∷ keep p xs) (keep p xs)

  unfoldable pub is_empty : List A → Bool
  is_empty [] = true
  is_empty (x ∷ xs) = false

module _ {A : Type 0} where
  -- a value that is given only where a test passes
  unfoldable pub only_if : Bool → A → Option A
  only_if true a = Some a
  only_if false a = None

module _ {κ} {A : Type 0} {B : Type κ} where
  -- what is done with a value that may be missing, and where it is missing
  unfoldable pub or_else : Option A → B → (A → B) → B
  or_else None b f = b
  or_else (Some a) b f = f a
