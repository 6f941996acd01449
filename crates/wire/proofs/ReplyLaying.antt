-- Laws of a list that is laid over the start of a buffer: element by element, and one piece after the other.
use mathlib.Core.Path.{◌≡◌, refl, sym, ap, ◌∙◌}
use mathlib.Core.List.{List, [], ◌∷◌, ◌++◌, append_assoc, append-nil}
use Prim.Native.Nat.{ℕ, suc, ◌+◌, ◌-◌, ◌*◌, ◌/◌, ◌%◌, ◌≤◌, ◌<◌}
use native.Mathlib.Numerals.{add-one}
use native.Mathlib.Omega.{arith}
use lib.ListN.{length, take, drop, get_or, set, length-append, length-take, length-drop, length-set, drop_of_length-le}
use lib.Seq.{take-append_seam, drop-append_seam, take-append-le, drop-append-add, take-take, take-add, take_all, take-suc, drop-cons, drop-drop, set_at, length-take-le}
use borrow.Rule.Slice.PartMut.{put_mid}
use Rattle.wire.specs.Integers.{natural_text}
use Rattle.wire.specs.Bytes.{Bytes, from_le, to_le, part, text}
use Rattle.wire.specs.Words.{crlf}
use Rattle.wire.specs.Replies.{laid_over, bulk}
use Rattle.wire.specs.Promises.{laid_at, Laid}
use Rattle.wire.proofs.ByteLaws.{bytes_take, bytes_drop, to_le_from_le}
use Rattle.wire.proofs.IntegerDigits.{text_snoc, text_digit}

-- ---- a list that is laid

-- A buffer keeps its length.
pub length_laid : (x s : List ℕ) → length x ≤ length s → length (laid_over x s) ≡ length s
unfolding laid_over
length_laid x s h = rw (length-append, length-drop) (omega arith)

-- What was laid stands at the start.
pub take_laid : (x s : List ℕ) → take (length x) (laid_over x s) ≡ x
unfolding laid_over
take_laid x s = take-append_seam x (drop (length x) s)

-- The rest is as it was.
pub drop_laid : (x s : List ℕ) → drop (length x) (laid_over x s) ≡ drop (length x) s
unfolding laid_over
drop_laid x s = drop-append_seam x (drop (length x) s)

-- A list as long as the buffer is all that is left.
pub laid_whole : (x s : List ℕ) → length s ≤ length x → laid_over x s ≡ x
unfolding laid_over
laid_whole x s h = rw (drop_of_length-le s h) (append-nil x)

-- One element more is stored.
pub laid_store : (x s : List ℕ) (i b : ℕ) → length x ≡ i → i < length s → set (laid_over x s) i b ≡ laid_over (x ++ (b ∷ [])) s
unfolding laid_over
laid_store x s i b e h =
    let l : length x < length s = omega arith in
    let n : length (x ++ (b ∷ [])) ≡ suc (length x) = rw length-append (omega arith) in
    rw (drop-cons s (length x) 0 l, set_at x (get_or s (length x) 0) (drop (suc (length x)) s) b i e, n, append_assoc)

-- ---- element by element

-- A loop over i has laid the first i elements of y.
pub record Filling (y before : List ℕ) (i : ℕ) (after : List ℕ) : Type 0 where
  pub inside : i ≤ length y
  pub room : length y ≤ length before
  pub size : length after ≡ length before
  pub bytes : after ≡ laid_over (take i y) before

pub fill_begins : (y s : List ℕ) → length y ≤ length s → Filling y s 0 s
unfolding laid_over
fill_begins y s h = record { inside = omega arith; room = h; size = refl; bytes = refl }

pub fill_goes_on : (y s : List ℕ) (i : ℕ) (t : List ℕ) (b : ℕ) → Filling y s i t → i < length y → b ≡ get_or y i 0 → Filling y s (i + 1) (set t i b)
fill_goes_on y s i t b f l e =
    let n : length (take i y) ≡ i = length-take-le i y (omega arith) in
    let w : i < length s = omega arith in
    record {
      inside = omega arith;
      room = f.room;
      size = length-set t i b ∙ f.size;
      bytes = rw (f.bytes, e, laid_store (take i y) s i (get_or y i 0) n w, add-one, take-suc y i 0 l);
    }

pub fill_ends : (y s : List ℕ) (i : ℕ) (t : List ℕ) → Filling y s i t → length y ≤ i → t ≡ laid_over y s
fill_ends y s i t f h = rw (← (take_all i y h)) f.bytes

-- A part of y at a place that what was laid reaches is laid there: y is laid up to the part's end.
pub fill_part : (y s : List ℕ) (i j n : ℕ) (t : List ℕ) → Filling y s i t → j ≤ i → i ≤ j + n → j + n ≤ length y → Filling y s (j + n) (laid_at j (part j n y) t)
unfolding laid_at laid_over part
fill_part y s i j n t f l m w =
    let size : length (take n (drop j y)) ≡ n = rw (length-take, length-drop) (omega arith) in
    let up_to : length (take i y) ≡ i = length-take-le i y f.inside in
    let whole : length (take (j + n) y) ≡ j + n = length-take-le (j + n) y w in
    let front : take j t ≡ take j y = rw (f.bytes, take-append-le j (take i y) (drop (length (take i y)) s) (omega arith), take-take j i y l) in
    let e : j + n ≡ length (take i y) + (j + n - i) = omega (arith, up_to) in
    let back : drop (j + n) t ≡ drop (j + n) s = rw (f.bytes, e, drop-append-add (take i y) (drop (length (take i y)) s) (j + n - i), drop-drop) in
    let bytes : take j t ++ (take n (drop j y) ++ drop (j + length (take n (drop j y))) t) ≡ take (j + n) y ++ drop (length (take (j + n) y)) s
    = rw (size, front, back, whole, take-add j n y, append_assoc) in
    record {
      inside = w;
      room = f.room;
      size = ap length bytes ∙ length_laid (take (j + n) y) s (omega (arith, f.room));
      bytes = bytes;
    }

-- The part of n elements that ends with y is the last.
module _ (y s : List ℕ) (i n : ℕ) (t : List ℕ) (f : Filling y s i t) (l : n ≤ length y) (m : length y - n ≤ i) where
  filled : Filling y s (length y) (laid_at (length y - n) (part (length y - n) n y) t)
  filled =
      let e : length y - n + n ≡ length y = omega arith in
      rw e at (fill_part y s i (length y - n) n t f m (omega (arith, f.inside)) (omega arith))

  pub fill_last : laid_at (length y - n) (part (length y - n) n y) t ≡ laid_over y s
  fill_last = fill_ends y s (length y) (laid_at (length y - n) (part (length y - n) n y) t) filled (omega arith)

-- A word read at a place and written at the same place is laid there.
pub word_laid : (at : ℕ) (y t u : List ℕ) (x : ℕ) → Bytes y → at + 8 ≤ length y → at + 8 ≤ length t
    → x ≡ from_le (take (at + 8 - at) (drop at y)) → u ≡ to_le (length (take (at + 8 - at) (drop at t))) x
    → put_mid at (at + 8 - at) t u ≡ laid_at at (part at 8 y) t
unfolding laid_at part
word_laid at y t u x b l m e f =
    let k : at + 8 - at ≡ 8 = omega arith in
    let n : length (take 8 (drop at t)) ≡ 8 = rw (length-take, length-drop) (omega arith) in
    let p : length (take 8 (drop at y)) ≡ 8 = rw (length-take, length-drop) (omega arith) in
    let w : to_le 8 (from_le (take 8 (drop at y))) ≡ take 8 (drop at y)
    = ap (λ (v : ℕ). to_le v (from_le (take 8 (drop at y)))) (sym p) ∙ to_le_from_le (take 8 (drop at y)) (bytes_take 8 (drop at y) (bytes_drop at y b)) in
    rw (f, e, k, n, w, p, drop-drop)

-- ---- one piece after the other

-- Nothing is laid.
pub laid_none : (d : List ℕ) → Laid [] d d 0
unfolding laid_over
laid_none d = record { bytes = refl; size = refl }

-- A copy of x is laid.
pub laid_copied : {x d e : List ℕ} → e ≡ laid_over x d → Laid x d e (length x)
laid_copied h = record { bytes = h; size = refl }

-- A buffer keeps its length.
pub laid_length : {x d e : List ℕ} {r : ℕ} → Laid x d e r → length x ≤ length d → length e ≡ length d
laid_length {x} {d} l h = rw l.bytes (length_laid x d h)

-- One byte more goes after what was laid.
pub laid_more : {x d e : List ℕ} {r : ℕ} (b : ℕ) → Laid x d e r → length x < length d → Laid (x ++ (b ∷ [])) d (set e r b) (r + 1)
laid_more {x} {d} b l h =
    record {
      bytes = rw (l.bytes, l.size) (laid_store x d (length x) b refl h);
      size = rw (l.size, length-append);
    }

-- What was laid is no longer than the buffer.
pub laid_within : {x d e : List ℕ} {r : ℕ} → Laid x d e r → length x ≤ length d → r ≤ length d
laid_within f h = omega (arith, f.size)

-- y laid in a part `&mut out[a..]` after x, up to the buffer's end: x and y are laid together.
pub laid_part : {x y d e u : List ℕ} {a r : ℕ} (k : ℕ) → Laid x d e a → length e ≤ a + k → Laid y (take k (drop a e)) u r → Laid (x ++ y) d (put_mid a k e u) (r + a)
unfolding laid_over
laid_part {x} {y} {d} {e} {u} {a} {r} k f h g =
    let front : take a e ≡ x = rw (f.size, f.bytes) (take_laid x d) in
    let back : drop a e ≡ drop (length x) d = rw (f.size, f.bytes) (drop_laid x d) in
    let all : length (drop a e) ≤ k = rw length-drop (omega arith) in
    record {
      bytes = rw (front, g.bytes, take_all k (drop a e) all, drop_of_length-le (drop a e) all, append-nil, back, drop-drop, length-append, append_assoc);
      size = rw (f.size, g.size, length-append) (omega arith);
    }

-- The same, with the part's length as the checker gives it of a slice.
pub laid_tail : {x y d e u : List ℕ} {a r : ℕ} → Laid x d e a → Laid y (take (length e - a) (drop a e)) u r → Laid (x ++ y) d (put_mid a (length e - a) e u) (r + a)
laid_tail {e = e} {a = a} f g = laid_part (length e - a) f (omega arith) g

-- Where a buffer has room for x and y, the part after x begins within it and has room for y.
pub tail_inside : {x d e : List ℕ} {a : ℕ} (y : List ℕ) → Laid x d e a → length (x ++ y) ≤ length d → a ≤ length e
tail_inside {x} {d} y f h =
    let both : length x + length y ≤ length d = rw length-append at h in
    omega (arith, f.size, laid_length f (omega arith))

pub tail_room : {x d e : List ℕ} {a : ℕ} (y : List ℕ) → Laid x d e a → length (x ++ y) ≤ length d → length y ≤ length (take (length e - a) (drop a e))
tail_room {x} {d} y f h =
    let both : length x + length y ≤ length d = rw length-append at h in
    rw (length-take, length-drop) (omega (arith, f.size, laid_length f (omega arith)))

-- Room for y and z is room for y.
pub front_room : {n : ℕ} (y z : List ℕ) → length (y ++ z) ≤ n → length y ≤ n
front_room y z h = omega (arith, length-append y z)

-- A byte is stored, and x is laid in the part after it.
pub laid_first : (b : ℕ) {x d e : List ℕ} {r : ℕ} → 0 < length d → Laid x (take (length (set d 0 b) - 1) (drop 1 (set d 0 b))) e r
    → Laid (b ∷ x) d (put_mid 1 (length (set d 0 b) - 1) (set d 0 b) e) (r + 1)
laid_first b {d = d} room l = laid_tail (laid_more b (laid_none d) room) l

pub length_tail : (b : ℕ) (d : List ℕ) → 0 < length d → length (take (length (set d 0 b) - 1) (drop 1 (set d 0 b))) + 1 ≡ length d
length_tail b d l = rw (length-take, length-drop, length-set) (omega arith)

-- The same where there is room for b, t and z.
module _ (b : ℕ) (t z d : List ℕ) (room : length (b ∷ t ++ z) ≤ length d) where
  pub mark_inside : 1 ≤ length (set d 0 b)
  mark_inside = rw length-set (omega arith)

  pub mark_room : length t ≤ length (take (length (set d 0 b) - 1) (drop 1 (set d 0 b)))
  mark_room = omega (arith, length_tail b d (omega arith), length-append t z)

  pub marked : {e : List ℕ} {r : ℕ} → Laid t (take (length (set d 0 b) - 1) (drop 1 (set d 0 b))) e r → Laid (b ∷ t) d (put_mid 1 (length (set d 0 b) - 1) (set d 0 b) e) (r + 1)
  marked l = laid_first b (omega arith) l

-- A bulk string is a count and a line.
pub bulk_parts : (w : List ℕ) → bulk w ≡ (36 ∷ natural_text (length w) ++ crlf) ++ (w ++ crlf)
unfolding bulk text
bulk_parts w = rw append_assoc

pub bulk_room : {n : ℕ} (w : List ℕ) → length (bulk w) ≤ n → length ((36 ∷ natural_text (length w) ++ crlf) ++ (w ++ crlf)) ≤ n
bulk_room w h = rw (bulk_parts w) at h

-- ---- a number's text

-- A number of several digits is the number before its last one, and that digit.
pub text_last : (n : ℕ) → 10 ≤ n → natural_text n ≡ natural_text (n / 10) ++ ((48 + n % 10) ∷ [])
text_last n big =
    let again : n / 10 * 10 + n % 10 ≡ n = omega arith in
    ap natural_text (sym again) ∙ text_snoc (n / 10) (n % 10) (omega arith) (omega arith)

pub length_last : (n : ℕ) → 10 ≤ n → length (natural_text n) ≡ length (natural_text (n / 10)) + 1
length_last n big = rw (text_last n big, length-append)

-- The text of one digit is laid.
pub laid_digit : (n : ℕ) (d : List ℕ) → n < 10 → length (natural_text n) ≤ length d → Laid (natural_text n) d (set d 0 (48 + n)) 1
laid_digit n d small room = rw (text_digit n small) (laid_more (48 + n) (laid_none d) (omega (arith, ap length (text_digit n small))))

-- The last digit is laid after those before it.
pub laid_last : (n : ℕ) {d e : List ℕ} {r : ℕ} → 10 ≤ n → length (natural_text n) ≤ length d → Laid (natural_text (n / 10)) d e r
    → Laid (natural_text n) d (set e r (48 + n % 10)) (r + 1)
laid_last n big room l = rw (text_last n big) (laid_more (48 + n % 10) l (omega (arith, length_last n big)))

-- There is room for the last digit.
pub laid_room : (n : ℕ) {d e : List ℕ} {r : ℕ} → 10 ≤ n → length (natural_text n) ≤ length d → Laid (natural_text (n / 10)) d e r → r < length d
laid_room n big room l = omega (arith, length_last n big, l.size)

-- Two digits are laid at once.
module _ (n : ℕ) (d : List ℕ) (big : 10 ≤ n) (small : n < 100) (room : length (natural_text n) ≤ length d) where
  pub two_room : 2 ≤ length d
  two_room = omega (arith, length_last n big, ap length (text_digit (n / 10) (omega arith)))

  pub laid_two : Laid (natural_text n) d (set (set d 0 (48 + n / 10)) 1 (48 + n % 10)) 2
  laid_two = laid_last n big room (laid_digit (n / 10) d (omega arith) (omega (arith, length_last n big)))
