-- Plain integers and their text: "A plain integer is 0, or an optional minus and digits not starting with 0". One reading over its
-- bounds serves counts, times, versions and signed 64 bits.
use Rattle.std.specs.Prelude.{Option, None, option_map}
use Rattle.std.specs.Prelude.{Bool, false, cond, not, ◌&&◌, ◌||◌, List, [], ◌∷◌, ◌++◌, ℕ, zero, suc, ◌+◌, ◌-◌, ◌*◌, ◌/◌, ◌%◌, leb, ltb, eqb, ℤ, pos, negsuc, neg_ℤ, nat_abs}
use Rattle.std.specs.Int.Signed.{le_z}
use Rattle.wire.specs.Lists.{all, is_empty, only_if, or_else}

unfoldable pub is_digit : ℕ → Bool
is_digit c = leb 48 c && leb c 57

-- the number that digits spell, after those that spell a
unfoldable pub value_from : ℕ → List ℕ → ℕ
value_from a [] = a
value_from a (c ∷ s) = value_from (a * 10 + (c - 48)) s

unfoldable pub value : List ℕ → ℕ
value s = value_from 0 s

-- digits with no leading zero but 0 itself
unfoldable pub is_natural : List ℕ → Bool
is_natural [] = false
is_natural (c ∷ s) = all is_digit (c ∷ s) && (not (eqb c 48) || is_empty s)

-- what follows a minus: digits not starting with 0
unfoldable pub is_negated : List ℕ → Bool
is_negated [] = false
is_negated (c ∷ s) = all is_digit (c ∷ s) && not (eqb c 48)

unfoldable pub read_plain : List ℕ → Option ℤ
read_plain [] = None
read_plain (c ∷ s) =
    cond (eqb c 45)
    (only_if (is_negated s) (neg_ℤ (pos (value s))))
    (only_if (is_natural (c ∷ s)) (pos (value (c ∷ s))))

unfoldable pub within : ℤ → ℤ → ℤ → Bool
within lo hi z = le_z lo z && le_z z hi

-- a plain integer from lo to hi; every other text is refused, whatever its length
unfoldable pub read_integer : ℤ → ℤ → List ℕ → Option ℤ
read_integer lo hi s = or_else (read_plain s) None (λ z. only_if (within lo hi z) z)

-- a plain integer from 0 to hi
unfoldable pub read_natural : ℕ → List ℕ → Option ℕ
read_natural hi s = option_map nat_abs (read_integer (pos 0) (pos hi) s)

-- "signed 64 bits"
abbrev pub lowest64 : ℤ
lowest64 = negsuc 0x7fff_ffff_ffff_ffff

abbrev pub highest64 : ℤ
highest64 = pos 0x7fff_ffff_ffff_ffff

-- a number's text: its digits in decimal, found from the last; the first argument bounds how many
unfoldable pub digits : ℕ → ℕ → List ℕ
digits zero n = []
digits (suc k) n =
    let higher : List ℕ = digits k (n / 10) in
    cond (ltb n 10) ((48 + n) ∷ []) (higher ++ ((48 + n % 10) ∷ []))

unfoldable pub natural_text : ℕ → List ℕ
natural_text n = digits (suc n) n

unfoldable pub integer_text : ℤ → List ℕ
integer_text (pos n) = natural_text n
integer_text (negsuc n) = 45 ∷ natural_text (suc n)
