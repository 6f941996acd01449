-- Lists of checks, in the order in which they are made: the first that applies gives its number. Nothing here is the paper's; each list stands with its sentences.
use Rattle.std.specs.Prelude.{Option, None, Some}
use Rattle.std.specs.Prelude.{Bool, cond, List, [], ◌∷◌, ℕ}

-- a check: the number of the refusal, and whether it applies
pub record Check : Type 0 where
  pub number : ℕ
  pub applies : Bool

infix 70 ◌when◌
abbrev pub ◌when◌ : ℕ → Bool → Check
n when t = record { number = n; applies = t }

-- the number of the first that applies: of checks in ascending order the lowest
unfoldable pub first_applying : List Check → Option ℕ
first_applying [] = None
first_applying (c ∷ cs) = cond c.applies (Some c.number) (first_applying cs)
