-- The forms of a reply: how long each is, and that each is bytes.
use mathlib.Core.Path.{◌≡◌, refl}
use mathlib.Core.List.{List, [], ◌∷◌, ◌++◌, flatten, append_assoc}
use mathlib.Core.Bool.{true}
use Prim.Native.Nat.{ℕ, suc, ◌+◌, ◌*◌, ◌^◌, ◌≤◌, ◌<◌}
use native.Mathlib.Nat.{mul-suc}
use native.Mathlib.Omega.{arith}
use lib.ListN.{length, get_or, length-append}
use lib.IntN.{ℤ, pos, negsuc, nat_abs}
use Rattle.wire.specs.Bytes.{Bytes, text}
use Rattle.wire.specs.Integers.{natural_text, integer_text, within, lowest64, highest64}
use Rattle.wire.specs.Words.{crlf}
use Rattle.wire.specs.Replies.{line, nil, integer, number, bulk, header, array}
use Rattle.wire.proofs.ByteLaws.{bytes_append, bytes_flatten}
use Rattle.wire.proofs.IntegerDigits.{length_natural_text, bytes_natural_text}
use Rattle.wire.proofs.IntegerLaws.{length_integer_text, bytes_integer_text}

-- ---- lengths

-- Nil is 5 bytes.
pub length_nil : length nil ≡ 5
unfolding nil line text
length_nil = refl

-- An integer's reply is at most its digits with a colon, a sign and CR LF.
pub length_integer : (d : ℕ) (z : ℤ) → 1 ≤ d → nat_abs z < 10 ^ d → length (integer z) ≤ d + 4
unfolding integer text integer_text
length_integer d (pos n) one small = simp length-append (omega (arith, length_natural_text d n one small))
length_integer d (negsuc n) one small = simp length-append (omega (arith, length_natural_text d (suc n) one small))

-- A number has no sign.
pub length_number : (d n : ℕ) → 1 ≤ d → n < 10 ^ d → length (number n) ≤ d + 3
unfolding integer text integer_text
length_number d n one small = simp length-append (omega (arith, length_natural_text d n one small))

-- A bulk string is its bytes with their count, a mark and CR LF twice.
pub length_bulk : (d : ℕ) (w : List ℕ) → 1 ≤ d → length w < 10 ^ d → length (bulk w) ≤ d + 5 + length w
unfolding bulk text
length_bulk d w one small = simp length-append (omega (arith, length_natural_text d (length w) one small))

-- An array's header is its count with a mark and CR LF.
pub length_header : (d n : ℕ) → 1 ≤ d → n < 10 ^ d → length (header n) ≤ d + 3
unfolding header text
length_header d n one small = simp length-append (omega (arith, length_natural_text d n one small))

-- Lists one after the other, and lists after them.
pub flatten_append : (xs ys : List (List ℕ)) → flatten (xs ++ ys) ≡ flatten xs ++ flatten ys
unfolding flatten
flatten_append [] ys = refl
flatten_append (x ∷ xs) ys = rw (flatten_append xs ys, append_assoc)

-- Lists of at most m elements each, one after the other, have at most m elements for each list.
pub length_flatten : (m : ℕ) (xs : List (List ℕ)) → ((i : ℕ) → length (get_or xs i []) ≤ m) → length (flatten xs) ≤ m * length xs
unfolding flatten
length_flatten m [] short = omega arith
length_flatten m (x ∷ xs) short = simp (length-append, mul-suc) (omega (arith, short 0, length_flatten m xs (λ i. short (suc i))))

-- An array is its header and its elements, of at most m bytes each.
pub length_array : (d m : ℕ) (xs : List (List ℕ)) → 1 ≤ d → length xs < 10 ^ d → ((i : ℕ) → length (get_or xs i []) ≤ m) → length (array xs) ≤ d + 3 + m * length xs
unfolding array
length_array d m xs one small short = simp length-append (omega (arith, length_header d (length xs) one small, length_flatten m xs short))

-- An integer of 64 bits is replied in at most 23 bytes.
pub length_integer64 : (z : ℤ) → within lowest64 highest64 z ≡ true → length (integer z) ≤ 23
unfolding integer text
length_integer64 z h = simp length-append (omega (arith, length_integer_text z h))

-- ---- bytes

-- Nil is bytes.
pub bytes_nil : Bytes nil
unfolding nil line text
bytes_nil = refl

-- An integer's reply is bytes.
pub bytes_integer : (z : ℤ) → Bytes (integer z)
unfolding integer text
bytes_integer z = bytes_append (58 ∷ integer_text z) crlf (bytes_integer_text z) refl

-- A bulk string of bytes is bytes.
pub bytes_bulk : (w : List ℕ) → Bytes w → Bytes (bulk w)
unfolding bulk text
bytes_bulk w h =
    bytes_append (36 ∷ natural_text (length w) ++ crlf ++ w) crlf
    (bytes_append (36 ∷ natural_text (length w) ++ crlf) w (bytes_append (36 ∷ natural_text (length w)) crlf (bytes_natural_text (length w)) refl) h) refl

-- An array's header is bytes.
pub bytes_header : (n : ℕ) → Bytes (header n)
unfolding header text
bytes_header n = bytes_append (42 ∷ natural_text n) crlf (bytes_natural_text n) refl

-- An array of elements that are bytes is bytes.
pub bytes_array : (xs : List (List ℕ)) → ((i : ℕ) → Bytes (get_or xs i [])) → Bytes (array xs)
unfolding array
bytes_array xs h = bytes_append (header (length xs)) (flatten xs) (bytes_header (length xs)) (bytes_flatten xs h)
