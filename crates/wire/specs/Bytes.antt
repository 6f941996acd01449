-- Bytes, numbers written in them, and the bytes of a text.
use Rattle.std.specs.Prelude.{◌≡◌, Bool, true, false, cond, ◌&&◌, List, [], ◌∷◌, ◌++◌, map, ℕ, zero, suc, ◌+◌, ◌-◌, ◌*◌, ◌/◌, ◌%◌, leb, eqb, length, take, drop, replicate}
use Prim.Native.String.{String}
use Prim.Native.Char.{code}
use Rattle.std.proofs.Math.Pow.{are_bytes}
use Rattle.wire.specs.Lists.{all}

-- The one way in which it is said that the elements of a list are bytes, so below 256.
abbrev pub Bytes : List ℕ → Type 0
Bytes s = are_bytes s ≡ true

-- "Numbers low byte first": the number that bytes spell, and a number's bytes at a width
unfoldable pub from_le : List ℕ → ℕ
from_le [] = 0
from_le (b ∷ s) = b + 256 * from_le s

unfoldable pub to_le : ℕ → ℕ → List ℕ
to_le zero x = []
to_le (suc w) x = x % 256 ∷ to_le w (x / 256)

-- n bytes of s from a place on
unfoldable pub part : ℕ → ℕ → List ℕ → List ℕ
part at n s = take n (drop at s)

-- s with zero after it, n bytes in all
unfoldable pub padded : ℕ → List ℕ → List ℕ
padded n s = s ++ replicate (n - length s) 0

unfoldable pub all_zero : List ℕ → Bool
all_zero s = all (eqb 0) s

-- whether two lists are the same
unfoldable pub same : List ℕ → List ℕ → Bool
same [] [] = true
same [] (y ∷ ys) = false
same (x ∷ xs) [] = false
same (x ∷ xs) (y ∷ ys) = eqb x y && same xs ys

-- the bytes of a text, which is ASCII wherever one is written here
unfoldable pub text : String → List ℕ
text String.[] = []
text (String.◌∷◌ c t) = code c ∷ text t

-- "read without regard to case": a letter as its capital
unfoldable pub upper : ℕ → ℕ
upper b = cond (leb 97 b && leb b 122) (b - 32) b

-- whether a word is a name, without regard to case
unfoldable pub spells : String → List ℕ → Bool
spells t w = same (map upper w) (text t)
