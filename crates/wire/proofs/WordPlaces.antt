-- Places in a command: what its readers find at a place, and where they go on.
use Rattle.std.specs.Prelude.{Option, None, Some, option_map}
use mathlib.Core.Path.{◌≡◌, refl, sym, ap, ap₂, ◌∙◌}
use mathlib.Core.Bool.{Bool, true, false, false≢true, cond, ◌&&◌}
use mathlib.Core.List.{List, [], ◌∷◌, ◌++◌, map, append_assoc, append-nil, map-append}
use Prim.Native.Nat.{ℕ, zero, suc, ◌+◌, ◌-◌, ◌≤◌, ◌<◌}
use native.Mathlib.Numerals.{add-one}
use native.Mathlib.Nat.{not-suc-le-zero, sub-zero}
use native.Mathlib.Omega.{arith}
use borrow.Author.Count.{below_more}
use borrow.Author.Tests.{le-leb, ltb-true, ltb-false, ne_eqb, eq-eqb}
use lib.Dec.{leb, ltb, eqb}
use lib.ListN.{length, get_or, take, drop, set, length-append, length-take, length-drop, length-map, drop_of_length-le, get_or-map, get_or-eq_default}
use lib.Seq.{take_all, get_or-drop, drop-cons, drop-drop, drop-length, take_at, take-append_seam, drop-append_seam, get_or-set_same, get_or-set_other, get_or-take, take-suc-set, length-take-le, append_snoc}
use Rattle.std.proofs.lemmas.Option.{same_Some}
use Rattle.wire.proofs.Lists.{impossible}
use Rattle.wire.specs.declared.words.Counted.{Counted}
use Rattle.wire.specs.declared.words.Placed.{Placed}
use Rattle.wire.specs.Lists.{only_if, or_else, is_empty}
use Rattle.wire.specs.Bytes.{part, same, text}
use Rattle.wire.specs.Integers.{natural_text, read_natural}
use Rattle.wire.specs.Words.{Word, Read, crlf, before_cr, from_cr, read_count, read_word, read_words, words_of, words_most, word_at}
use Rattle.wire.specs.Replies.{bulk, header}
use Rattle.wire.specs.Promises.{counted_for, placed_for, word_in, words_in, place_end, places_from, places_of, Inside, Places, next_of}
use Rattle.wire.proofs.WordLaws.{split_CR, count_is, word_is}

-- what a reader of a count and a reader of a word answer
abbrev counted : ℕ → ℕ → Option Counted
counted count next = Some (record { count = count; next = next })

abbrev placed : ℕ → ℕ → ℕ → Option Placed
placed start size next = Some (record { start = start; size = size; next = next })

counted_same : (n k m l : ℕ) → counted n k ≡ counted m l → (n ≡ m) × (k ≡ l)
counted_same n k m l h = let e = same_Some {A = Counted} _ _ h in (ap (λ (x : Counted). x.count) e, ap (λ (x : Counted). x.next) e)

placed_same : (a n k b m l : ℕ) → placed a n k ≡ placed b m l → (a ≡ b) × (n ≡ m) × (k ≡ l)
placed_same a n k b m l h =
    let e = same_Some {A = Placed} _ _ h in (ap (λ (x : Placed). x.start) e, ap (λ (x : Placed). x.size) e, ap (λ (x : Placed). x.next) e)

-- ---- lines

-- the place of the first CR from a place on
abbrev line_end : List ℕ → ℕ → ℕ
line_end s from = from + length (before_cr (drop from s))

module _ (s : List ℕ) (i : ℕ) where
  -- past a byte that is no CR it is the same place
  pub line_on : i < length s → (get_or s i 0 ≡ 13 → ⊥) → line_end s i ≡ line_end s (i + 1)
  unfolding before_cr
  line_on l h = rw (drop-cons s i 0 l, ne_eqb (get_or s i 0) 13 h, add-one i) (omega arith)

  -- at a CR it is this place, and so it is past the end
  pub line_here : i < length s → get_or s i 0 ≡ 13 → i ≡ line_end s i
  unfolding before_cr
  line_here l h = rw (drop-cons s i 0 l, eq-eqb (get_or s i 0) 13 h) (omega arith)

  pub line_past : length s ≤ i → i ≡ line_end s i
  unfolding before_cr
  line_past l = rw (drop_of_length-le s {i = i} l) (omega arith)

-- a line ends in the command
pub line_inside : (s : List ℕ) (from : ℕ) → from ≤ length s → line_end s from ≤ length s
line_inside s from l = omega (arith, size)
  where
    size : length (before_cr (drop from s)) + length (from_cr (drop from s)) ≡ length s - from
    size = sym (length-append (before_cr (drop from s)) (from_cr (drop from s))) ∙ ap length (split_CR (drop from s)) ∙ length-drop from s

-- the line's bytes, and what stands from its end on
line_bytes : (s : List ℕ) (from : ℕ) → take (line_end s from - from) (drop from s) ≡ before_cr (drop from s)
line_bytes s from =
    let e : line_end s from - from ≡ length (before_cr (drop from s)) = omega arith in
    rw e (rw split_CR at (take-append_seam (before_cr (drop from s)) (from_cr (drop from s))))

line_rest : (s : List ℕ) (from : ℕ) → drop (line_end s from) s ≡ from_cr (drop from s)
line_rest s from =
    rw (← drop-drop (length (before_cr (drop from s))) from s)
    (rw split_CR at (drop-append_seam (before_cr (drop from s)) (from_cr (drop from s))))

-- ---- CR LF at a place

module _ (s : List ℕ) (at : ℕ) where
  -- where CR LF stands, there is room for it
  pub ends_room : same (part at 2 s) crlf ≡ true → at + 2 ≤ length s
  unfolding part same
  ends_room h = omega (arith, go (drop at s) h, length-drop at s)
    where
      go : (t : List ℕ) → same (take 2 t) crlf ≡ true → 2 ≤ length t
      go [] h = absurd (false≢true h)
      go (a ∷ []) h = absurd (one (eqb a 13) h)
        where
          one : (t : Bool) → t && false ≡ true → ⊥
          one true h = false≢true h
          one false h = false≢true h
      go (a ∷ (b ∷ t)) h = omega arith

  -- fewer than two bytes are left
  pub ends_short : length s - at < 2 → same (part at 2 s) crlf ≡ false
  ends_short l = go (same (part at 2 s) crlf) refl
    where
      go : (t : Bool) → same (part at 2 s) crlf ≡ t → t ≡ false
      go true h = absurd (omega (arith, ends_room h))
      go false h = refl

  -- two bytes are left: both are looked at, or the first is no CR, or the last decides
  ends_is : 2 ≤ length s - at → same (part at 2 s) crlf ≡ eqb (get_or s at 0) 13 && (eqb (get_or s (at + 1) 0) 10 && true)
  unfolding part same
  ends_is l =
      let a : at < length s = omega arith in
      let b : suc at < length s = omega arith in
      rw (drop-cons s at 0 a, drop-cons s (suc at) 0 b, add-one at)

  pub ends_other : 2 ≤ length s - at → (get_or s at 0 ≡ 13 → ⊥) → same (part at 2 s) crlf ≡ false
  ends_other l h = ends_is l ∙ rw (ne_eqb (get_or s at 0) 13 h)

  pub ends_last : 2 ≤ length s - at → get_or s at 0 ≡ 13 → eqb (get_or s (at + 1) 0) 10 ≡ same (part at 2 s) crlf
  ends_last l h = sym (ends_is l ∙ rw (eq-eqb (get_or s at 0) 13 h) (last (eqb (get_or s (at + 1) 0) 10)))
    where
      last : (t : Bool) → t && true ≡ t
      last true = refl
      last false = refl

-- ---- what is left

-- what stands at the end of the command begins at the command's length less its own
suffix : (s p t : List ℕ) (at : ℕ) → at ≤ length s → drop at s ≡ p ++ t → drop (length s - length t) s ≡ t
suffix s p t at l e =
    let size : length s - at ≡ length p + length t = sym (length-drop at s) ∙ ap length e ∙ length-append p t in
    let k : length s - length t ≡ at + length p = omega arith in
    rw (k, ← drop-drop (length p) at s, e) (drop-append_seam p t)

-- and is no longer than the command
suffix_inside : (s p t : List ℕ) (at : ℕ) → drop at s ≡ p ++ t → length t ≤ length s
suffix_inside s p t at e = omega (arith, length-drop at s, ap length e, length-append p t)

-- ---- a count at a place

module _ (s : List ℕ) (at mark most : ℕ) where
  -- nothing is left
  pub counted_past : length s ≤ at → None ≡ counted_for (length s) (read_count mark most (drop at s))
  unfolding read_count counted_for
  counted_past l = rw (drop_of_length-le s {i = at} l)

  module _ (l : at < length s) where
    -- the count by its places
    count_at : read_count mark most (drop at s)
        ≡ cond (eqb (get_or s at 0) mark && same (part (line_end s (at + 1)) 2 s) crlf)
        (option_map (λ n. record { found = n; rest = drop (line_end s (at + 1) + 2) s })
        (read_natural most (take (line_end s (at + 1) - (at + 1)) (drop (at + 1) s))))
        None
    unfolding read_count part
    count_at =
        rw (line_bytes s (at + 1), ← drop-drop 2 (line_end s (at + 1)) s, line_rest s (at + 1), drop-cons s at 0 l, add-one at)

    -- another byte than the mark stands there
    pub counted_mark : (get_or s at 0 ≡ mark → ⊥) → None ≡ counted_for (length s) (read_count mark most (drop at s))
    unfolding counted_for
    counted_mark h = rw (count_at, ne_eqb (get_or s at 0) mark h)

    module _ (first : get_or s at 0 ≡ mark) (end : ℕ) (e : end ≡ line_end s (at + 1)) where
      -- its line does not end
      pub counted_line : same (part end 2 s) crlf ≡ false → None ≡ counted_for (length s) (read_count mark most (drop at s))
      unfolding counted_for
      counted_line h = rw (count_at, eq-eqb (get_or s at 0) mark first, ← e, h)

      -- the count is what its digits are read as
      counted_is : same (part end 2 s) crlf ≡ true → read_count mark most (drop at s)
          ≡ option_map (λ n. record { found = n; rest = drop (end + 2) s }) (read_natural most (take (end - (at + 1)) (drop (at + 1) s)))
      counted_is h = count_at ∙ rw (eq-eqb (get_or s at 0) mark first, ← e, h)

      -- its digits are no count, or they are
      pub counted_refused : same (part end 2 s) crlf ≡ true
          → None ≡ read_natural most (take (end - (at + 1)) (drop (at + 1) s))
          → None ≡ counted_for (length s) (read_count mark most (drop at s))
      unfolding counted_for
      counted_refused h r = rw (counted_is h) (go (read_natural most (take (end - (at + 1)) (drop (at + 1) s))) r)
        where
          go : (o : Option ℕ) → None ≡ o
              → None ≡ counted_for (length s) (option_map (λ n. record { found = n; rest = drop (end + 2) s }) o)
          go None r = refl
          go (Some n) r = impossible cc

      pub counted_value : (n : ℕ) → same (part end 2 s) crlf ≡ true
          → Some n ≡ read_natural most (take (end - (at + 1)) (drop (at + 1) s))
          → counted n (end + 2) ≡ counted_for (length s) (read_count mark most (drop at s))
      unfolding counted_for
      counted_value n h r = rw (counted_is h) (go (read_natural most (take (end - (at + 1)) (drop (at + 1) s))) r)
        where
          go : (o : Option ℕ) → Some n ≡ o
              → counted n (end + 2) ≡ counted_for (length s) (option_map (λ n. record { found = n; rest = drop (end + 2) s }) o)
          go None r = impossible cc
          go (Some m) r =
              let place : end + 2 ≡ length s - length (drop (end + 2) s) = omega (arith, length-drop (end + 2) s, ends_room s end h) in
              let same_count : n ≡ m = cc in
              ap₂ counted same_count place

module _ (s : List ℕ) (at mark most : ℕ) where
  -- what a count that was answered says: what was read, and that what is left begins at the place
  pub count_some : (n k : ℕ) → at ≤ length s → counted n k ≡ counted_for (length s) (read_count mark most (drop at s))
      → (read_count mark most (drop at s) ≡ Some (record { found = n; rest = drop k s })) × (k ≤ length s) × (n ≤ most)
  unfolding counted_for
  count_some n k l h = go (read_count mark most (drop at s)) refl h
    where
      go : (o : Option (Read ℕ)) → read_count mark most (drop at s) ≡ o → counted n k ≡ counted_for (length s) o
          → (read_count mark most (drop at s) ≡ Some (record { found = n; rest = drop k s })) × (k ≤ length s) × (n ≤ most)
      go None e h = impossible cc
      go (Some c) e h =
          let same = counted_same _ _ _ _ h in
          let f : c.found ≡ n = sym same.0 in
          let p : length s - length c.rest ≡ k = sym same.1 in
          let known = count_is mark most (drop at s) c e in
          let rest : drop k s ≡ c.rest = rw p at (suffix s (mark ∷ (natural_text c.found ++ crlf)) c.rest at l (rw append_assoc known.1)) in
          (e ∙ ap Some (λ i. record { found = f i; rest = sym rest i }), omega arith, rw f at known.0)

  -- and where none was answered
  pub count_none : None ≡ counted_for (length s) (read_count mark most (drop at s)) → read_count mark most (drop at s) ≡ None
  unfolding counted_for
  count_none h = go (read_count mark most (drop at s)) h
    where
      go : (o : Option (Read ℕ)) → None ≡ counted_for (length s) o → o ≡ None
      go None h = refl
      go (Some c) h = impossible cc

-- ---- a word at a place

module _ (s : List ℕ) (at : ℕ) where
  -- its count is damaged
  pub placed_damaged : None ≡ counted_for (length s) (read_count 36 (length s - at) (drop at s))
      → None ≡ placed_for (length s) (read_word (drop at s))
  unfolding read_word or_else placed_for
  placed_damaged h = rw (length-drop at s, count_none s at 36 (length s - at) h)

  module _ (l : at ≤ length s) (size start : ℕ) (count : counted size start ≡ counted_for (length s) (read_count 36 (length s - at) (drop at s))) where
    -- the word by its places
    word_at_lem : read_word (drop at s)
        ≡ only_if (same (part (start + size) 2 s) crlf) (record { found = part start size s; rest = drop (start + size + 2) s })
    unfolding read_word or_else part
    word_at_lem = rw (length-drop at s, (count_some s at 36 (length s - at) size start l count).0, ← drop-drop 2 (start + size) s, ← drop-drop size start s, ← drop-drop 2 size (drop start s))

    -- it starts in the command
    pub start_inside : start ≤ length s
    start_inside = (count_some s at 36 (length s - at) size start l count).1

    -- CR LF does not stand behind it, or it is longer than what is left
    pub placed_end : same (part (start + size) 2 s) crlf ≡ false → None ≡ placed_for (length s) (read_word (drop at s))
    unfolding placed_for only_if
    placed_end h = rw (word_at_lem, h)

    pub placed_short : length s - start < size → None ≡ placed_for (length s) (read_word (drop at s))
    placed_short h = placed_end (ends_short s (start + size) (omega arith))

    -- CR LF does
    pub placed_word : same (part (start + size) 2 s) crlf ≡ true
        → placed start size (start + size + 2) ≡ placed_for (length s) (read_word (drop at s))
    unfolding placed_for only_if part
    placed_word h =
        let room : start + size + 2 ≤ length s = ends_room s (start + size) h in
        let fits : length (take size (drop start s)) ≡ size = simp (length-take, length-drop) (omega arith) in
        let rest : length (drop (start + size + 2) s) ≡ length s - (start + size + 2) = length-drop (start + size + 2) s in
        let first : start ≡ length s - (size + 2 + (length s - (start + size + 2))) = omega arith in
        let next : start + size + 2 ≡ length s - (length s - (start + size + 2)) = omega arith in
        rw (word_at_lem, h, fits, rest) (ap₂ (λ (a b : ℕ). placed a size b) first next)

  -- what a word that was answered says: the word of the place, that it lies in the command, and that what is left begins at the next place
  pub word_some : (start size next : ℕ) → at ≤ length s → placed start size next ≡ placed_for (length s) (read_word (drop at s))
      → (read_word (drop at s) ≡ Some (record { found = part start size s; rest = drop next s })) × (start + size ≤ length s) × (next ≤ length s)
  unfolding placed_for part bulk
  word_some start size next l h = go (read_word (drop at s)) refl h
    where
      go : (o : Option (Read Word)) → read_word (drop at s) ≡ o → placed start size next ≡ placed_for (length s) o
          → (read_word (drop at s) ≡ Some (record { found = take size (drop start s); rest = drop next s })) × (start + size ≤ length s) × (next ≤ length s)
      go None e h = impossible cc
      go (Some w) e h =
          let same = placed_same _ _ _ _ _ _ h in
          let p : length s - (length w.found + 2 + length w.rest) ≡ start = sym same.0 in
          let q : length w.found ≡ size = sym same.1 in
          let r : length s - length w.rest ≡ next = sym same.2 in
          let is : drop at s ≡ bulk w.found ++ w.rest = word_is (drop at s) w e in
          let rest : drop next s ≡ w.rest = rw r at (suffix s (bulk w.found) w.rest at l is) in
          let head = text "$" ++ natural_text (length w.found) ++ crlf in
          let tail = w.found ++ (crlf ++ w.rest) in
          let cut : drop at s ≡ head ++ tail = rw (append_assoc (head ++ w.found) crlf w.rest, append_assoc head w.found (crlf ++ w.rest)) at is in
          let size_is : length tail ≡ length w.found + 2 + length w.rest = simp length-append (omega arith) in
          let begin : length s - length tail ≡ start = rw size_is p in
          let found : take size (drop start s) ≡ w.found = rw (rw begin at (suffix s head tail at l cut)) (take_at w.found (crlf ++ w.rest) size q) in
          (e ∙ ap Some (λ i. record { found = sym found i; rest = sym rest i }), omega (arith, suffix_inside s head tail at cut), omega arith)

  -- where it and the next stand, by the word
  word_stands : (start size next : ℕ) → at ≤ length s → placed start size next ≡ placed_for (length s) (read_word (drop at s))
      → (ws : List Word) → places_from at (part start size s ∷ ws) ≡ (start ∷ size ∷ []) ∷ places_from next ws
  unfolding places_from placed_for bulk
  word_stands start size next l h ws =
      let w = part start size s in
      let head = text "$" ++ natural_text (length w) ++ crlf in
      let (e, inside, within) = word_some start size next l h in
      let said : placed start size next ≡ placed (length s - (length w + 2 + length (drop next s))) (length w) (length s - length (drop next s)) = rw e at h in
      let same = placed_same _ _ _ _ _ _ said in
      let p : start ≡ length s - (length w + 2 + length (drop next s)) = same.0 in
      let q : length w ≡ size = sym same.1 in
      let all : length s - at ≡ length (bulk w) + length (drop next s) = sym (length-drop at s) ∙ ap length (word_is (drop at s) _ e) ∙ length-append (bulk w) (drop next s) in
      let one : length (bulk w) ≡ length head + length w + 2 = length-append (head ++ w) crlf ∙ ap (λ (n : ℕ). n + 2) (length-append head w) in
      let rest : length (drop next s) ≡ length s - next = length-drop next s in
      let here : at + length head ≡ start = omega arith in
      let on : at + length (bulk w) ≡ next = omega arith in
      rw (here, on, q)

  -- and where none was answered
  pub word_none : None ≡ placed_for (length s) (read_word (drop at s)) → read_word (drop at s) ≡ None
  unfolding placed_for
  word_none h = go (read_word (drop at s)) h
    where
      go : (o : Option (Read Word)) → None ≡ placed_for (length s) o → o ≡ None
      go None h = refl
      go (Some w) h = impossible cc

-- ---- the words of a command

-- there are as many words as places
pub length_words : (s : List ℕ) (places : List (List ℕ)) → length (words_in s places) ≡ length places
unfolding words_in
length_words s places = length-map places (word_in s)

-- a word more, stored behind those found so far
words_more : (s : List ℕ) (i a b : ℕ) (places : List (List ℕ)) → i < length places
    → words_in s (take (suc i) (set places i (a ∷ b ∷ []))) ≡ words_in s (take i places) ++ (part a b s ∷ [])
unfolding words_in word_in
words_more s i a b places l = rw (take-suc-set places i (a ∷ b ∷ []) l) (map-append (word_in s) (take i places) ((a ∷ b ∷ []) ∷ []))

-- what is known of a command between two words: what was found and what is left are its words, and so are their places; those found lie in it
pub record Progress (s : List ℕ) (places : List (List ℕ)) (count first at i : ℕ) : Type 0 where
  pub left : option_map (λ ws. words_in s (take i places) ++ ws) (read_words (count - i) (drop at s)) ≡ read_words count (drop first s)
  pub stand : option_map (λ ws. take i places ++ places_from at ws) (read_words (count - i) (drop at s)) ≡ option_map (places_from first) (read_words count (drop first s))
  pub inside : (j : ℕ) → j < i → place_end (get_or places j []) ≤ length s
  pub within : at ≤ length s
  pub passed : i ≤ count
  pub most : count ≤ words_most

-- before the first word
pub progress_begins : {s : List ℕ} {places : List (List ℕ)} {count first : ℕ}
    → counted count first ≡ counted_for (length s) (read_count 42 words_most (drop 0 s)) → Progress s places count first first 0
unfolding words_in
progress_begins {s} {places} {count} {first} head =
    let known = count_some s 0 42 words_most count first (omega arith) head in
    record {
      left = rw sub-zero (same_words (read_words count (drop first s)));
      stand = rw sub-zero refl;
      inside = λ j h. absurd (not-suc-le-zero h);
      within = known.1;
      passed = omega arith;
      most = known.2;
    }
  where
    same_words : (o : Option (List Word)) → option_map (λ ws. [] ++ ws) o ≡ o
    same_words None = refl
    same_words (Some ws) = refl

-- what is found before a word, and f of the words after it, is g of them with the word
map_snoc : {A : Type 0} (f g : List Word → List A) (xs : List A) (x : A) (w : Word) → ((ws : List Word) → g (w ∷ ws) ≡ x ∷ f ws) → (o : Option (List Word))
    → option_map (λ ws. xs ++ (x ∷ []) ++ f ws) o ≡ option_map (λ ws. xs ++ g ws) (option_map (λ ws. w ∷ ws) o)
map_snoc f g xs x w h None = refl
map_snoc f g xs x w h (Some ws) = ap Some (append_snoc xs x (f ws) ∙ rw (h ws))

module _ {s : List ℕ} {places : List (List ℕ)} {count first at i : ℕ} (now : Progress s places count first at i) where
  -- a word is left
  left_is : i < count → read_words (count - i) (drop at s)
      ≡ or_else (read_word (drop at s)) None (λ w. option_map (λ ws. w.found ∷ ws) (read_words (count - (i + 1)) w.rest))
  unfolding read_words
  left_is l = let e : count - i ≡ suc (count - (i + 1)) = omega arith in rw e

  -- a word was found
  pub progress_goes_on : {start size next : ℕ} → i < count → i < length places
      → placed start size next ≡ placed_for (length s) (read_word (drop at s))
      → Progress s (set places i (start ∷ size ∷ [])) count first next (i + 1)
  unfolding or_else
  progress_goes_on {start} {size} {next} l p h =
      let word = word_some s at start size next now.within h in
      let rest = read_words (count - suc i) (drop next s) in
      let found = take i places in
      let more : read_words (count - i) (drop at s) ≡ option_map (λ ws. part start size s ∷ ws) rest = left_is l ∙ rw (word.0, add-one i) in
      record {
        left =
            rw (add-one i, words_more s i start size places p)
            (map_snoc (λ ws. ws) (λ ws. ws) (words_in s found) (part start size s) (part start size s) (λ ws. refl) rest ∙ rw more at now.left);
        stand =
            rw (add-one i, take-suc-set places i (start ∷ size ∷ []) p)
            (map_snoc (places_from next) (places_from at) found (start ∷ size ∷ []) (part start size s) (word_stands s at start size next now.within h) rest
            ∙ rw more at now.stand);
        inside = below_more (λ j. place_end (get_or (set places i (start ∷ size ∷ [])) j []) ≤ length s) i
            (λ j m. rw (get_or-set_other places i j (start ∷ size ∷ []) [] (omega arith)) (now.inside j m))
            (rw (get_or-set_same places i (start ∷ size ∷ []) [] p) word.1);
        within = word.2;
        passed = omega arith;
        most = now.most;
      }

  -- a word is damaged
  pub progress_damaged : i < count → None ≡ placed_for (length s) (read_word (drop at s)) → read_words count (drop first s) ≡ None
  unfolding or_else
  progress_damaged l h = sym (rw (left_is l, word_none s at h) at now.left)

  -- something stands after the last word
  pub progress_after : count ≤ i → (at ≡ length s → ⊥) → read_words count (drop first s) ≡ None
  unfolding read_words only_if is_empty
  progress_after l h =
      let e : count - i ≡ 0 = omega arith in
      let m : at < length s = omega (arith, now.within) in
      sym (rw (e, drop-cons s at 0 m) at now.left)

  -- nothing does
  pub progress_ends : count ≤ i → at ≡ length s → read_words count (drop first s) ≡ Some (words_in s (take count places))
  unfolding read_words only_if is_empty
  progress_ends l h =
      let e : count - i ≡ 0 = omega arith in
      let n : i ≡ count = omega (arith, now.passed) in
      sym (rw (e, h, drop-length s, n, append-nil) at now.left)

  -- and then the places found are those of the words
  progress_stands : count ≤ i → at ≡ length s → take count places ≡ places_from first (words_in s (take count places))
  unfolding read_words only_if is_empty places_from
  progress_stands l h =
      let e : count - i ≡ 0 = omega arith in
      let n : i ≡ count = omega (arith, now.passed) in
      let found : Some (take count places) ≡ Some (places_from first (words_in s (take count places))) =
      rw (progress_ends l h, e, h, drop-length s, n, append-nil) at now.stand in
      cc

-- ---- the answer

-- no places are inside
none_inside : (s : List ℕ) (places : List (List ℕ)) → Inside s (take 0 places)
none_inside s places = record { most = omega arith; inside = λ i l. absurd (not-suc-le-zero l) }

-- a command whose count is damaged
pub places_headless : {s : List ℕ} {places : List (List ℕ)} → None ≡ counted_for (length s) (read_count 42 words_most (drop 0 s)) → Places s places 0
unfolding words_of or_else
places_headless {s} {places} h =
    let none_read = count_none s 0 42 words_most h in
    record { stands = rw none_read; words = rw none_read; room = omega arith; within = none_inside s places }

-- the words behind the count
words_at : (s : List ℕ) (count first : ℕ) → counted count first ≡ counted_for (length s) (read_count 42 words_most (drop 0 s))
    → words_of s ≡ cond (leb 1 count) (read_words count (drop first s)) None
unfolding words_of or_else
words_at s count first head = rw (count_some s 0 42 words_most count first (omega arith) head).0

-- they begin behind the header
first_is : (s : List ℕ) (count first : ℕ) → counted count first ≡ counted_for (length s) (read_count 42 words_most (drop 0 s)) → first ≡ length (header count)
unfolding header text
first_is s count first head =
    let (e, inside, most) = count_some s 0 42 words_most count first (omega arith) head in
    let all = simp (length-append, length-drop) at (ap length (count_is 42 words_most s _ e).1) in
    simp length-append (omega arith)

module _ {s : List ℕ} {places : List (List ℕ)} {count first : ℕ} (head : counted count first ≡ counted_for (length s) (read_count 42 words_most (drop 0 s))) where
  -- a command whose words are damaged
  pub places_none : read_words count (drop first s) ≡ None → Places s places 0
  unfolding or_else
  places_none h = record { stands = rw none_read; words = none_read; room = omega arith; within = none_inside s places }
    where
      either : (t : Bool) → cond {A = Option (List Word)} t None None ≡ None
      either true = refl
      either false = refl

      none_read : words_of s ≡ None
      none_read = words_at s count first head ∙ rw h (either (leb 1 count))

  -- a command that was read whole
  pub places_all : {at i : ℕ} → Progress s places count first at i → words_most ≤ length places → count ≤ i → at ≡ length s → Places s places count
  unfolding places_of or_else
  places_all now room l e =
      let fits : count ≤ length places = omega (arith, now.most) in
      let size : length (take count places) ≡ count = length-take-le count places fits in
      let ws = words_in s (take count places) in
      let read : words_of s ≡ cond (leb 1 count) (Some ws) None = words_at s count first head ∙ rw (progress_ends now l e) in
      let first-place : first ≡ length (header (length ws)) = first_is s count first head ∙ rw (length_words s (take count places), size) in
      record {
        stands = rw read (standing count ws (rw first-place at (progress_stands now l e)));
        words = read ∙ least count ws;
        room = fits;
        within = record {
          most = omega (arith, size, now.most);
          inside = λ j m. let below : j < count = omega (arith, size) in rw (get_or-take count places j [] below) (now.inside j (omega (arith, now.passed)));
        };
      }
    where
      standing : (n : ℕ) (ws : List Word) → take n places ≡ places_of ws → take n places ≡ or_else (cond (leb 1 n) (Some ws) None) [] places_of
      standing zero ws h = refl
      standing (suc n) ws h = rw (le-leb 1 (suc n) (omega arith)) h

      least : (n : ℕ) (ws : List Word) → cond (leb 1 n) (Some ws) None ≡ cond (eqb n 0) None (Some ws)
      least zero ws = refl
      least (suc n) ws = rw (le-leb 1 (suc n) (omega arith), ne_eqb (suc n) 0 (omega arith))

-- ---- words by their places

-- a word is the part of its place; past the places there are no bytes
pub word_of_place : (s : List ℕ) (places : List (List ℕ)) (i : ℕ) → word_at i (words_in s places) ≡ word_in s (get_or places i [])
unfolding words_in word_at word_in part
word_of_place s places i = get_or-map (word_in s) places i []

pub word_part : (s : List ℕ) (places : List (List ℕ)) (i : ℕ)
    → take (place_end (get_or places i []) - get_or (get_or places i []) 0 0) (drop (get_or (get_or places i []) 0 0) s) ≡ word_at i (words_in s places)
unfolding word_in part
word_part s places i =
    let place = get_or places i [] in
    let n : get_or place 0 0 + get_or place 1 0 - get_or place 0 0 ≡ get_or place 1 0 = omega arith in
    rw (word_of_place s places i, n)

pub word_past : (s : List ℕ) (places : List (List ℕ)) (i : ℕ) → length places ≤ i → [] ≡ word_at i (words_in s places)
unfolding word_in part
word_past s places i l = rw (word_of_place s places i, get_or-eq_default places [] l)

map_drop : {A B : Type 0} (f : A → B) (n : ℕ) (l : List A) → map f (drop n l) ≡ drop n (map f l)
map_drop f zero l = refl
map_drop f (suc n) [] = refl
map_drop f (suc n) (x ∷ l) = map_drop f n l

module _ (s : List ℕ) (places : List (List ℕ)) (n : ℕ) where
  -- the places from place n on are those of the words from word n on
  part_drop : take (length places - n) (drop n places) ≡ drop n places
  part_drop = take_all (length places - n) (drop n places) (rw length-drop (omega arith))

  pub part_words : words_in s (take (length places - n) (drop n places)) ≡ drop n (words_in s places)
  unfolding words_in
  part_words = rw part_drop (map_drop (word_in s) n places)

  pub part_inside : Inside s places → Inside s (take (length places - n) (drop n places))
  part_inside w =
      rw part_drop
      (record {
        most = rw length-drop (omega (arith, w.most));
        inside = λ i l. rw (get_or-drop n places i []) (w.inside (n + i) (omega (arith, length-drop n places)));
      })

-- there is no word n, or it is there
pub next_end : (count n : ℕ) {r : Option ℕ} → r ≡ next_of count n → r ≡ None → count ≤ n
unfolding next_of
next_end count n {r} e q = go (ltb n count) refl e
  where
    go : (t : Bool) → ltb n count ≡ t → r ≡ cond t (Some n) None → count ≤ n
    go true p d = impossible cc
    go false p d = ltb-false n count p

pub next_at : (count n k : ℕ) {r : Option ℕ} → r ≡ next_of count n → r ≡ Some k → (k ≡ n) × (n < count)
unfolding next_of
next_at count n k {r} e q = go (ltb n count) refl e
  where
    go : (t : Bool) → ltb n count ≡ t → r ≡ cond t (Some n) None → (k ≡ n) × (n < count)
    go true p d = (cc, ltb-true n count p)
    go false p d = impossible cc

-- a command with something after its last word
pub places_past : {s : List ℕ} {places : List (List ℕ)} {count first at i : ℕ} → Progress s places count first at i
    → counted count first ≡ counted_for (length s) (read_count 42 words_most (drop 0 s)) → count ≤ i → (at ≡ length s → ⊥) → Places s places 0
places_past now head l e = places_none head (progress_after now l e)
