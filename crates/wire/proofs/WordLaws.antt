-- The words of a command: parts of it, 1 to 64 of them; the reader takes the arrays that are written so and no others.
use Rattle.std.specs.Prelude.{Some}
use mathlib.Core.Path.{◌≡◌, refl, sym, ap, ap₂, subst, ◌∙◌}
use mathlib.Core.Bool.{Bool, true, false, false≢true, cond, ◌&&◌}
use mathlib.Core.List.{List, [], ◌∷◌, ◌++◌, map, flatten, append_assoc}
use Rattle.std.proofs.lemmas.Option.{none-some}
use Prim.Native.Nat.{ℕ, zero, suc, ◌+◌, ◌≤◌}
use native.Mathlib.Omega.{arith}
use borrow.Author.Tests.{leb-true, eqb-true, le-leb, ne_eqb, eq-eqb}
use mathlib.Core.Logic.{◌≢◌}
use lib.Dec.{leb, eqb}
use lib.Seq.{length-take-le, drop-drop, take-append_seam, drop-append_seam, drop-append-add}
use lib.ListN.{length, get_or, take, drop, length-append, length-map, take-append-drop}
use Rattle.wire.specs.Lists.{all, only_if, or_else, is_empty}
use Rattle.wire.specs.Bytes.{Bytes, part, same, text}
use Rattle.wire.specs.Integers.{is_digit, natural_text, read_natural}
use Rattle.wire.specs.Words.{words_most, Word, Read, crlf, before_cr, from_cr, read_count, read_word, read_words, words_of}
use Rattle.wire.specs.Replies.{bulk, header, array, resp_of}
use Rattle.wire.proofs.Lists.{and_left, and_right}
use Rattle.wire.proofs.ByteLaws.{bytes_take, bytes_drop, same_true}
use Rattle.wire.proofs.Options.{option_map_some, cond_some, only_if_some, or_else_some}
use Rattle.wire.proofs.IntegerDigits.{digit_least, text_digits}
use Rattle.wire.proofs.IntegerLaws.{read_natural_text, text_read_natural, read_natural_most}

-- ---- counts

-- a digit is no CR
digit_other : (c : ℕ) → is_digit c ≡ true → c ≢ 13
digit_other c h = omega (arith, digit_least c h)

-- what stands before the first CR, and from it on, is the whole
pub split_CR : (s : List ℕ) → before_cr s ++ from_cr s ≡ s
unfolding before_cr from_cr
split_CR [] = refl
split_CR (b ∷ s) = go (eqb b 13) (split_CR s)
  where
    go : (t : Bool) → before_cr s ++ from_cr s ≡ s → cond t [] (b ∷ before_cr s) ++ cond t (b ∷ s) (from_cr s) ≡ b ∷ s
    go true h = refl
    go false h = rw h

-- digits hold no CR
digits_before : (s t : List ℕ) → all is_digit s ≡ true → before_cr (s ++ 13 ∷ t) ≡ s
unfolding before_cr all
digits_before [] t h = refl
digits_before (c ∷ s) t h = rw (ne_eqb c 13 (digit_other c (and_left (is_digit c) (all is_digit s) h)), digits_before s t (and_right (is_digit c) (all is_digit s) h))

digits_from : (s t : List ℕ) → all is_digit s ≡ true → from_cr (s ++ 13 ∷ t) ≡ 13 ∷ t
unfolding from_cr all
digits_from [] t h = refl
digits_from (c ∷ s) t h = rw (ne_eqb c 13 (digit_other c (and_left (is_digit c) (all is_digit s) h)), digits_from s t (and_right (is_digit c) (all is_digit s) h))

-- a count as it is written, and what follows it
abbrev pub counted : ℕ → ℕ → List ℕ → List ℕ
counted mark n rest = mark ∷ (natural_text n ++ (crlf ++ rest))

-- a count that is read is one that is written so, and what is left is what follows it
pub count_is : (mark most : ℕ) (s : List ℕ) (r : Read ℕ) → read_count mark most s ≡ Some r → (r.found ≤ most) × (s ≡ counted mark r.found r.rest)
unfolding read_count
count_is mark most [] r h = absurd (none-some r h)
count_is mark most (b ∷ s) r h =
    let (test, m) = cond_some (eqb b mark && same (take 2 (from_cr s)) crlf) h in
    let (n, p, q) = option_map_some _ (read_natural most (before_cr s)) m in
    subst (λ (r : Read ℕ). (r.found ≤ most) × (b ∷ s ≡ counted mark r.found r.rest)) q
    (made (and_left (eqb b mark) (same (take 2 (from_cr s)) crlf) test) (and_right (eqb b mark) (same (take 2 (from_cr s)) crlf) test) n p)
  where
    made : eqb b mark ≡ true → same (take 2 (from_cr s)) crlf ≡ true → (n : ℕ) → read_natural most (before_cr s) ≡ Some n
        → (n ≤ most) × (b ∷ s ≡ counted mark n (drop 2 (from_cr s)))
    made first ends n e =
        let number : before_cr s ≡ natural_text n = sym (text_read_natural most (before_cr s) n e) in
        let cut : s ≡ before_cr s ++ (take 2 (from_cr s) ++ drop 2 (from_cr s)) = rw (take-append-drop, split_CR) in
        (read_natural_most most (before_cr s) n e, ap₂ ◌∷◌ (eqb-true b mark first) (rw (number, same_true (take 2 (from_cr s)) crlf ends) at cut))

-- a count that is written is read
count_written : (mark most n : ℕ) (rest : List ℕ) → n ≤ most → read_count mark most (counted mark n rest) ≡ Some (record { found = n; rest = rest })
unfolding read_count same
count_written mark most n rest l =
    rw (eq-eqb mark mark refl, digits_before (natural_text n) (10 ∷ rest) (text_digits n), digits_from (natural_text n) (10 ∷ rest) (text_digits n), read_natural_text most n l)

-- ---- one word

-- a word as it is written is its count and what follows
bulk_is : (w rest : List ℕ) → bulk w ++ rest ≡ counted 36 (length w) (w ++ (crlf ++ rest))
unfolding bulk text
bulk_is w rest = simp append_assoc

-- a word that is read is one that is written so
pub word_is : (s : List ℕ) (r : Read Word) → read_word s ≡ Some r → s ≡ bulk r.found ++ r.rest
unfolding read_word part
word_is s r h =
    let (n, p, q) = or_else_some (read_count 36 (length s) s) h in
    let (ends, e) = only_if_some (same (take 2 (drop n.found n.rest)) crlf) q in
    subst (λ (r : Read Word). s ≡ bulk r.found ++ r.rest) e
    ((count_is 36 (length s) s n p).1 ∙ cut n.found n.rest (same_true (take 2 (drop n.found n.rest)) crlf ends))
  where
    inside : (k : ℕ) (t : List ℕ) → take 2 (drop k t) ≡ crlf → k ≤ length t
    inside zero t h = omega arith
    inside (suc k) [] h = omega (arith, ap length h)
    inside (suc k) (b ∷ t) h = omega (arith, inside k t h)

    cut : (k : ℕ) (t : List ℕ) → take 2 (drop k t) ≡ crlf → counted 36 k t ≡ bulk (take k t) ++ drop (k + 2) t
    cut k t e =
        let size : length (take k t) ≡ k = length-take-le k t (inside k t e) in
        let whole : take k t ++ (take 2 (drop k t) ++ drop 2 (drop k t)) ≡ t = rw (take-append-drop, take-append-drop) in
        rw (bulk_is, size, ← drop-drop 2 k t) (ap (counted 36 k) (sym (rw e at whole)))

-- a word that is written is read
word_written : (w rest : List ℕ) → read_word (bulk w ++ rest) ≡ Some (record { found = w; rest = rest })
unfolding read_word or_else only_if part same
word_written w rest =
    let room : length w ≤ length (counted 36 (length w) (w ++ (crlf ++ rest))) = simp length-append (omega arith) in
    rw (bulk_is w rest, count_written 36 (length (counted 36 (length w) (w ++ (crlf ++ rest)))) (length w) (w ++ (crlf ++ rest)) room)
    (rw (drop-append_seam, take-append_seam, drop-append-add))

-- ---- the command

-- the array as it is written is its count and what follows
resp_is : (ws : List Word) → resp_of ws ≡ counted 42 (length ws) (flatten (map bulk ws))
unfolding resp_of array header text
resp_is ws = rw length-map (ap (λ (t : List ℕ). 42 ∷ t) (append_assoc (natural_text (length ws)) crlf (flatten (map bulk ws))))

-- n words that are read are those that are written so, with nothing after them
words_are : (n : ℕ) (s : List ℕ) (ws : List Word) → read_words n s ≡ Some ws → (length ws ≡ n) × (s ≡ flatten (map bulk ws))
unfolding read_words flatten is_empty
words_are zero s ws h =
    let (empty, e) = only_if_some (is_empty s) h in
    subst (λ (ws : List Word). (length ws ≡ 0) × (s ≡ flatten (map bulk ws))) e (refl, none_left s empty)
  where
    none_left : (s : List ℕ) → is_empty s ≡ true → s ≡ []
    none_left [] h = refl
    none_left (b ∷ s) h = absurd (false≢true h)
words_are (suc n) s ws h =
    let (w, p, q) = or_else_some (read_word s) h in
    let (us, m, e) = option_map_some _ (read_words n w.rest) q in
    let more : (length us ≡ n) × (w.rest ≡ flatten (map bulk us)) = words_are n w.rest us m in
    subst (λ (ws : List Word). (length ws ≡ suc n) × (s ≡ flatten (map bulk ws))) e
    (ap suc more.0, word_is s w p ∙ ap (λ (t : List ℕ). bulk w.found ++ t) more.1)

-- words that are written are read
words_written : (ws : List Word) → read_words (length ws) (flatten (map bulk ws)) ≡ Some ws
unfolding read_words flatten only_if is_empty or_else
words_written [] = refl
words_written (w ∷ ws) = rw (word_written w (flatten (map bulk ws)), words_written ws)

-- A command of 1 to 64 words as they are written has those words.
pub words_resp_of : (ws : List Word) → 1 ≤ length ws → length ws ≤ words_most → words_of (resp_of ws) ≡ Some ws
unfolding words_of or_else
words_resp_of ws least most = rw (resp_is ws, count_written 42 words_most (length ws) (flatten (map bulk ws)) most, le-leb 1 (length ws) least) (words_written ws)

-- what is known of a command that is read
words_read : (s : List ℕ) (ws : List Word) → words_of s ≡ Some ws → (1 ≤ length ws) × (length ws ≤ words_most) × (s ≡ resp_of ws)
unfolding words_of
words_read s ws h =
    let (n, p, q) = or_else_some (read_count 42 words_most s) h in
    let (least, m) = cond_some (leb 1 n.found) q in
    let (most, e) = count_is 42 words_most s n p in
    let (size, all) = words_are n.found n.rest ws m in
    known n.found n.rest (leb-true 1 n.found least) most e size all
  where
    known : (n : ℕ) (t : List ℕ) → 1 ≤ n → n ≤ words_most → s ≡ counted 42 n t → length ws ≡ n → t ≡ flatten (map bulk ws)
        → (1 ≤ length ws) × (length ws ≤ words_most) × (s ≡ resp_of ws)
    known n t least most e size all = (omega arith, omega arith, rw (resp_is, size, ← all) e)

-- A command that has words is as they are written.
pub resp_of_words : (s : List ℕ) (ws : List Word) → words_of s ≡ Some ws → s ≡ resp_of ws
resp_of_words s ws h = (words_read s ws h).2

-- A command has 1 to 64 words.
pub words_count : (s : List ℕ) (ws : List Word) → words_of s ≡ Some ws → (1 ≤ length ws) × (length ws ≤ words_most)
words_count s ws h = ((words_read s ws h).0, (words_read s ws h).1)

-- ---- bytes

-- parts of bytes are bytes
bytes_before : (s t : List ℕ) → Bytes (s ++ t) → Bytes s
bytes_before s t h = rw take-append_seam at (bytes_take (length s) (s ++ t) h)

bytes_after : (s t : List ℕ) → Bytes (s ++ t) → Bytes t
bytes_after s t h = rw drop-append_seam at (bytes_drop (length s) (s ++ t) h)

-- the word of a bulk string of bytes is bytes
word_bytes : (w : List ℕ) → Bytes (bulk w) → Bytes w
unfolding bulk
word_bytes w h = bytes_after (text "$" ++ natural_text (length w) ++ crlf) w (bytes_before (text "$" ++ natural_text (length w) ++ crlf ++ w) crlf h)

-- The words of a command of bytes are bytes.
pub words_bytes : (s : List ℕ) (ws : List Word) → Bytes s → words_of s ≡ Some ws → (i : ℕ) → Bytes (get_or ws i [])
unfolding resp_of array flatten
words_bytes s ws b h = each ws (bytes_after (header (length (map bulk ws))) (flatten (map bulk ws)) (rw (resp_of_words s ws h) at b))
  where
    each : (ws : List Word) → Bytes (flatten (map bulk ws)) → (i : ℕ) → Bytes (get_or ws i [])
    each [] b i = refl
    each (w ∷ ws) b zero = word_bytes w (bytes_before (bulk w) (flatten (map bulk ws)) b)
    each (w ∷ ws) b (suc i) = each ws (bytes_after (bulk w) (flatten (map bulk ws)) b) i
