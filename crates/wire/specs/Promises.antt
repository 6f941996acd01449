-- What the functions of wire answer, in the terms of the other definitions.
use Rattle.std.specs.Prelude.{Option, None, Some}
use Rattle.std.specs.Prelude.{◌≡◌, true, false, cond, List, [], ◌∷◌, ◌++◌, map, ℕ, zero, suc, ◌+◌, ◌-◌, ◌*◌, ◌/◌, ◌≤◌, ◌<◌, ltb, eqb, ℤ, pos, negsuc, neg_ℤ, length, take, drop, get_or}
use Rattle.wire.specs.declared.integers.Signed.{Signed}
use Rattle.wire.specs.declared.words.Counted.{Counted}
use Rattle.wire.specs.declared.words.Placed.{Placed}
use Rattle.wire.specs.Lists.{or_else}
use Rattle.wire.specs.Bytes.{part, same, text, upper}
use Rattle.wire.specs.Integers.{natural_text}
use Rattle.wire.specs.Words.{Word, Read, words_most, words_of, crlf}
use Rattle.wire.specs.Replies.{bulk, header, laid_over}

-- ---- integers

-- sign and magnitude; 0 has no sign
unfoldable pub signed_for : ℤ → Signed
signed_for (pos n) = record { negative = false; magnitude = n }
signed_for (negsuc n) = record { negative = true; magnitude = suc n }

-- the integer that a sign and a magnitude say
unfoldable pub integer_of : Signed → ℤ
integer_of s = cond s.negative (neg_ℤ (pos s.magnitude)) (pos s.magnitude)

-- ---- words

-- A reader at a place of a command of `size` bytes answers with places: what it left unread begins at `size` less its length.
unfoldable pub counted_for : ℕ → Option (Read ℕ) → Option Counted
counted_for size None = None
counted_for size (Some c) = Some (record { count = c.found; next = size - length c.rest })

-- CR LF stands between a word and what is left
unfoldable pub placed_for : ℕ → Option (Read Word) → Option Placed
placed_for size None = None
placed_for size (Some w) =
    Some (record { start = size - (length w.found + 2 + length w.rest); size = length w.found; next = size - length w.rest })

-- the word of a place: its start and its size
unfoldable pub word_in : List ℕ → List ℕ → Word
word_in s place = part (get_or place 0 0) (get_or place 1 0) s

-- the words of a command, by their places
unfoldable pub words_in : List ℕ → List (List ℕ) → List Word
words_in s places = map (word_in s) places

-- where a place ends
abbrev pub place_end : List ℕ → ℕ
place_end place = get_or place 0 0 + get_or place 1 0

-- places are no more than a command may have words, and each lies in the command
pub record Inside (s : List ℕ) (places : List (List ℕ)) : Type 0 where
  pub most : length places ≤ words_most
  pub inside : (i : ℕ) → i < length places → place_end (get_or places i []) ≤ length s

-- the places of words that stand one after the other from a place on, each behind its `$len\r\n`
unfoldable pub places_from : ℕ → List Word → List (List ℕ)
places_from at [] = []
places_from at (w ∷ ws) =
    ((at + length (text "$" ++ natural_text (length w) ++ crlf)) ∷ length w ∷ []) ∷ places_from (at + length (bulk w)) ws

-- the places of the words of a command, which stand behind its `*n\r\n`
unfoldable pub places_of : List Word → List (List ℕ)
places_of ws = places_from (length (header (length ws))) ws

-- A count and places say what words a command has and where each stands, a count of 0 that it is damaged. Places from the count on, and all
-- where it is 0, are left free. `stands` and `room` say all of it; the other two are what callers lean on.
pub record Places (s : List ℕ) (places : List (List ℕ)) (count : ℕ) : Type 0 where
  pub stands : take count places ≡ or_else (words_of s) [] places_of
  pub words : words_of s ≡ cond (eqb count 0) None (Some (words_in s (take count places)))
  pub room : count ≤ length places
  pub within : Inside s (take count places)

-- the next word of count, or the end
unfoldable pub next_of : ℕ → ℕ → Option ℕ
next_of count i = cond (ltb i count) (Some i) None

-- ---- names

-- A row of a table of names: the name's length, and the name in capitals.
abbrev pub row_size : ℕ
row_size = 16

unfoldable pub name_in : List ℕ → ℕ → List ℕ
name_in table i = part (row_size * i + 1) (get_or table (row_size * i) 0) table

-- the lowest of n rows, from row i on, whose name a word spells
unfoldable pub row_from : ℕ → ℕ → List ℕ → Word → Option ℕ
row_from zero i table w = None
row_from (suc n) i table w =
    let later : Option ℕ = row_from n (suc i) table w in
    cond (same (map upper w) (name_in table i)) (Some i) later

unfoldable pub row_named : List ℕ → Word → Option ℕ
row_named table w = row_from (length table / row_size) 0 table w

-- a table is whole rows, and no name is longer than its place
pub record Table (table : List ℕ) : Type 0 where
  pub whole : length table ≡ row_size * (length table / row_size)
  pub short : (i : ℕ) → get_or table (row_size * i) 0 < row_size

-- ---- replies

-- x laid over a buffer at a place
unfoldable pub laid_at : ℕ → List ℕ → List ℕ → List ℕ
laid_at at x buffer = take at buffer ++ (x ++ drop (at + length x) buffer)

-- a writer laid x at the start of a buffer, left the bytes beyond as they were, and answered how many bytes that was
pub record Laid (x before after : List ℕ) (r : ℕ) : Type 0 where
  pub bytes : after ≡ laid_over x before
  pub size : r ≡ length x
