-- Laws of loops that pass over bytes: two lists compared, bits that tell whether all are zero, a number read and written.
use mathlib.Core.Path.{◌≡◌, refl, sym, ap, ◌∙◌}
use mathlib.Core.Bool.{Bool, true, false, ◌&&◌, and-true, and_assoc}
use mathlib.Core.List.{List, [], ◌∷◌, ◌++◌, append_assoc, append-nil}
use Prim.Native.Nat.{ℕ, zero, suc, ◌+◌, ◌-◌, ◌*◌, ◌/◌, ◌%◌, ◌^◌, ◌≤◌, ◌<◌}
use native.Mathlib.Nat.{mul-le-mul_right, div-one, zero-div, div-div-eq-div-mul}
use native.Mathlib.Numerals.{add-one}
use native.Mathlib.Omega.{arith}
use Rattle.std.specs.Bool.{MatchBool}
use Rattle.std.proofs.lemmas.Grind.{same_number_lists}
use lib.Bits.{bit_or, or_zero_l, or_add_and, and_le_r}
use lib.Dec.{eqb}
use lib.ListN.{length, take, drop, get_or, set, length-set, drop_of_length-le}
use lib.Pow.{pow-add, pow_mono, shl_exact}
use lib.Seq.{take_all, take-suc, take-suc-set, drop-cons, length-take-le}
use borrow.Author.Tests.{ne_eqb}
use Rattle.wire.specs.Lists.{all}
use Rattle.wire.specs.Bytes.{Bytes, from_le, to_le, all_zero, same}
use Rattle.wire.proofs.ByteLaws.{bytes_head, bytes_tail, same_true, same_refl, eqb_sym}

-- ---- two lists compared

-- Lists that differ anywhere are not the same.
pub not_same : (a b : List ℕ) → (a ≡ b → ⊥) → same a b ≡ false
not_same a b d = go (same a b) refl
  where
    go : (t : Bool) → same a b ≡ t → t ≡ false
    go true p = absurd (d (same_true a b p))
    go false p = refl

-- Lists of one length are the same where they agree at each place, counted from the last.
pub same_back : (a b : List ℕ) (r : Bool) → length a ≡ length b
    → MatchBool r ((k : ℕ) → k < length a → get_or a (length a - 1 - k) 0 ≡ get_or b (length b - 1 - k) 0)
    ((k : ℕ) × (k < length a) × (get_or a (length a - 1 - k) 0 ≡ get_or b (length b - 1 - k) 0 → ⊥))
    → r ≡ same a b
same_back a b true l e = rw (same_number_lists a b l at_each) (sym (same_refl b))
  where
    at_each : (i : ℕ) → i < length a → get_or a i 0 ≡ get_or b i 0
    at_each i h =
        let p : length a - 1 - (length a - 1 - i) ≡ i = omega arith in
        let q : length b - 1 - (length a - 1 - i) ≡ i = omega arith in
        rw (p, q) at (e (length a - 1 - i) (omega arith))
same_back a b false l d = sym (not_same a b (λ e. d.2 (rw e)))

-- ---- bits that tell whether all are zero

-- Whether all are zero is whether the bits of the first i bytes and the other bytes are.
abbrev pub Gathering : List ℕ → ℕ → ℕ → Type 0
Gathering s bits i = all_zero s ≡ eqb bits 0 && all_zero (drop i s)

-- The bits of two numbers are zero exactly if both are.
pub or_zero : (m n : ℕ) → eqb (bit_or m n) 0 ≡ eqb m 0 && eqb n 0
or_zero zero n = rw (or_zero_l n)
or_zero (suc m) n =
    let some : bit_or (suc m) n ≡ 0 → ⊥ = λ e. omega (arith, e, or_add_and (suc m) n, and_le_r (suc m) n) in
    rw (ne_eqb (suc m) 0 (λ e. omega arith), ne_eqb (bit_or (suc m) n) 0 some)

pub gather_goes_on : (s : List ℕ) (bits i : ℕ) → Gathering s bits i → i < length s → Gathering s (bit_or bits (get_or s i 0)) (i + 1)
unfolding all_zero all
gather_goes_on s bits i f l =
    rw (f, drop-cons s i 0 l, add-one, or_zero bits (get_or s i 0), eqb_sym (get_or s i 0) 0) (sym (and_assoc (eqb bits 0) (eqb 0 (get_or s i 0)) (all (eqb 0) (drop (suc i) s))))

pub gather_ends : (s : List ℕ) (bits i : ℕ) → Gathering s bits i → length s ≤ i → eqb bits 0 ≡ all_zero s
unfolding all_zero all
gather_ends s bits i f h = rw (f, drop_of_length-le s h) (sym (and-true (eqb bits 0)))

-- ---- a number, low byte first

pow_byte : (n : ℕ) → 2 ^ (8 * suc n) ≡ 256 * 2 ^ (8 * n)
pow_byte n =
    let e : 8 * suc n ≡ 8 + 8 * n = omega arith in
    ap (λ (k : ℕ). 2 ^ k) e ∙ pow-add 2 8 (8 * n)

-- One byte more stands above those before it.
pub from_le_snoc : (s : List ℕ) (b : ℕ) → from_le (s ++ (b ∷ [])) ≡ from_le s + b * 2 ^ (8 * length s)
unfolding from_le
from_le_snoc [] b = omega arith
from_le_snoc (a ∷ s) b = rw (from_le_snoc s b, pow_byte (length s)) (omega arith)

-- Without its lowest bytes a number is what the others spell.
pub from_le_drop : (n : ℕ) (s : List ℕ) → Bytes s → from_le s / 2 ^ (8 * n) ≡ from_le (drop n s)
unfolding from_le
from_le_drop zero s h = div-one (from_le s)
from_le_drop (suc n) [] h = zero-div (2 ^ (8 * suc n))
from_le_drop (suc n) (b ∷ s) h =
    let l : b < 256 = bytes_head b s h in
    let high : (b + 256 * from_le s) / 256 ≡ from_le s = omega arith in
    rw (pow_byte n, ← div-div-eq-div-mul (b + 256 * from_le s) 256 (2 ^ (8 * n)), high) (from_le_drop n s (bytes_tail b s h))

-- a byte of the number that bytes spell
from_le_first : (n : ℕ) (s : List ℕ) → Bytes s → from_le (drop n s) % 256 ≡ get_or s n 0
unfolding from_le
from_le_first zero [] h = refl
from_le_first (suc n) [] h = refl
from_le_first zero (b ∷ s) h = omega (arith, bytes_head b s h)
from_le_first (suc n) (b ∷ s) h = from_le_first n s (bytes_tail b s h)

pub from_le_at : (n : ℕ) (s : List ℕ) → Bytes s → from_le s / 2 ^ (8 * n) % 256 ≡ get_or s n 0
from_le_at n s h = rw (from_le_drop n s h) (from_le_first n s h)

-- The first i bytes are read.
pub record Reading (s : List ℕ) (x i : ℕ) : Type 0 where
  pub spells : x ≡ from_le (take i s)
  pub small : x < 2 ^ (8 * i)

pub read_begins : (s : List ℕ) → Reading s 0 0
unfolding from_le
read_begins s = record { spells = refl; small = omega arith }

-- A byte shifted to its place loses nothing.
shifted : (b i : ℕ) → b < 256 → i < 8 → (b * 2 ^ (8 * i)) % 2 ^ 64 ≡ b * 2 ^ (8 * i)
shifted b i h l = shl_exact 8 (8 * i) 64 h (omega arith)

read_small : (x i b : ℕ) → x < 2 ^ (8 * i) → b < 256 → x + b * 2 ^ (8 * i) < 2 ^ (8 * suc i)
read_small x i b h l =
    let least : b ≤ 255 = omega arith in
    rw (pow_byte i) (omega (arith, mul-le-mul_right (2 ^ (8 * i)) least))

module _ (s : List ℕ) (x i : ℕ) (f : Reading s x i) (width : length s ≤ 8) (more : i < length s) (byte : get_or s i 0 < 256) where
  pub read_fits : x + (get_or s i 0 * 2 ^ (8 * i)) % 2 ^ 64 < 2 ^ 64
  read_fits =
      let most : 2 ^ (8 * suc i) ≤ 2 ^ 64 = pow_mono {i = 8 * suc i} {j = 64} (omega arith) in
      rw (shifted (get_or s i 0) i byte (omega arith)) (omega (arith, most, read_small x i (get_or s i 0) f.small byte))

  pub read_goes_on : Reading s (x + (get_or s i 0 * 2 ^ (8 * i)) % 2 ^ 64) (i + 1)
  read_goes_on =
      let whole : (get_or s i 0 * 2 ^ (8 * i)) % 2 ^ 64 ≡ get_or s i 0 * 2 ^ (8 * i) = shifted (get_or s i 0) i byte (omega arith) in
      let size : length (take i s) ≡ i = length-take-le i s (omega arith) in
      record {
        spells = rw (whole, add-one, take-suc s i 0 more, from_le_snoc, size, ← f.spells);
        small = rw (whole, add-one) (read_small x i (get_or s i 0) f.small byte);
      }

-- The first i bytes and those of what is left of the number are the number's.
pub record Writing (n x : ℕ) (s : List ℕ) (rest i : ℕ) : Type 0 where
  pub size : length s ≡ n
  pub bytes : take i s ++ to_le (n - i) rest ≡ to_le n x

-- The next byte is the lowest that is left.
pub write_goes_on : (n x : ℕ) (s : List ℕ) (rest i : ℕ) → Writing n x s rest i → i < n → Writing n x (set s i (rest % 256)) (rest / 256) (i + 1)
unfolding to_le
write_goes_on n x s rest i f l =
    let k : n - i ≡ suc (n - suc i) = omega arith in
    let e : take i s ++ to_le (suc (n - suc i)) rest ≡ to_le n x = rw k at f.bytes in
    let m : i < length s = omega (arith, f.size) in
    record {
      size = length-set s i (rest % 256) ∙ f.size;
      bytes = rw (add-one i, take-suc-set s i (rest % 256) m, append_assoc) e;
    }

pub write_ends : (n x : ℕ) (s : List ℕ) (rest i : ℕ) → Writing n x s rest i → n ≤ i → s ≡ to_le n x
unfolding to_le
write_ends n x s rest i f h =
    let z : n - i ≡ 0 = omega arith in
    let e : take i s ++ to_le 0 rest ≡ to_le n x = rw z at f.bytes in
    sym (append-nil s) ∙ rw (take_all i s (omega (arith, f.size))) at e
