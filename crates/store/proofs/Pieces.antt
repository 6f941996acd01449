-- Bytes as pieces of known lengths, one after another.
use mathlib.Core.Path.{◌≡◌, refl, sym, ap, subst, ◌∙◌}
use mathlib.Core.Bool.{true}
use mathlib.Core.List.{List, [], ◌∷◌, ◌++◌, map, flatten, append_assoc}
use Prim.Native.Nat.{ℕ, ◌+◌, ◌^◌, ◌≤◌, ◌<◌}
use native.Mathlib.Omega.{arith}
use lib.ListN.{length, take, drop, replicate, length-append, length-take, length-drop, take-append-drop, drop_of_length-le}
use lib.Seq.{take-append_seam, drop-append_seam, drop-drop, take-take}
use Rattle.wire.specs.Bytes.{Bytes, from_le, to_le, part, all_zero}
use Rattle.wire.proofs.ByteLaws.{bytes_part, from_le_below, to_le_from_le, zero_is}

-- the sum of numbers
unfoldable pub total : List ℕ → ℕ
total [] = 0
total (n ∷ ns) = n + total ns

-- the pieces of s of lengths ns from a place on
unfoldable pub cut : ℕ → List ℕ → List ℕ → List (List ℕ)
cut at [] s = []
cut at (n ∷ ns) s = part at n s ∷ cut (at + n) ns s

-- the pieces of lengths that are as much as s make it up
pub flatten_cut : (ns : List ℕ) (at : ℕ) (s : List ℕ) → length s ≤ at + total ns → flatten (cut at ns s) ≡ drop at s
unfolding cut total flatten part
flatten_cut [] at s h = sym (drop_of_length-le s {i = at} (omega arith))
flatten_cut (n ∷ ns) at s h =
    let r : flatten (cut (at + n) ns s) ≡ drop (at + n) s = flatten_cut ns (at + n) s (omega arith) in
    rw (r, ← drop-drop n at s) (take-append-drop n (drop at s))

-- pieces of known lengths are found again
pub cut_flatten : (ps : List (List ℕ)) (p : List ℕ) → cut (length p) (map length ps) (p ++ flatten ps) ≡ ps
unfolding cut flatten part
cut_flatten [] p = refl
cut_flatten (x ∷ ps) p =
    let here : part (length p) (length x) (p ++ (x ++ flatten ps)) ≡ x = rw (drop-append_seam, take-append_seam) in
    let rest : cut (length p + length x) (map length ps) (p ++ (x ++ flatten ps)) ≡ ps = rw (← length-append p x, ← append_assoc p x (flatten ps)) (cut_flatten ps (p ++ x)) in
    cc

-- pieces together are as long as the sum of their lengths
pub length_flatten : (ps : List (List ℕ)) → length (flatten ps) ≡ total (map length ps)
unfolding flatten total
length_flatten [] = refl
length_flatten (p ∷ ps) = rw (length-append, length_flatten ps)

-- a part inside has its length
pub length_part : (at n : ℕ) (s : List ℕ) → at + n ≤ length s → length (part at n s) ≡ n
unfolding part
length_part at n s h = rw (length-take, length-drop) (omega arith)

-- a shorter part from the same place
pub take_part : (at m n : ℕ) (s : List ℕ) → m ≤ n → take m (part at n s) ≡ part at m s
unfolding part
take_part at m n s h = take-take m n (drop at s) h

-- a number's place is the bytes of the number
pub number_back : (at size : ℕ) (t : List ℕ) → at + size ≤ length t → Bytes t → to_le size (from_le (part at size t)) ≡ part at size t
number_back at size t l b =
    let e : length (part at size t) ≡ size = length_part at size t l in
    ap (λ (w : ℕ). to_le w (from_le (part at size t))) (sym e) ∙ to_le_from_le (part at size t) (bytes_part at size t b)

-- a number's place holds a number that its width holds
pub number_below : (at size : ℕ) (t : List ℕ) → at + size ≤ length t → Bytes t → from_le (part at size t) < 256 ^ size
number_below at size t l b = subst (λ (w : ℕ). from_le (part at size t) < 256 ^ w) (length_part at size t l) (from_le_below (part at size t) (bytes_part at size t b))

-- zero bytes of a length are that many zeros
pub zeros_are : (n : ℕ) (s : List ℕ) → length s ≡ n → all_zero s ≡ true → s ≡ replicate n 0
zeros_are n s e h = zero_is s h ∙ ap (λ (k : ℕ). replicate k 0) e
