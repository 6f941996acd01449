-- The RESP2 array: "one RESP2 array of 1 to 64 bulk strings, filling the L bytes exactly: `*n\r\n`, then `$len\r\n`, the bytes, `\r\n` for
-- each word. Counts are digits with no leading zero but 0 itself. No null strings."
use Rattle.std.specs.Prelude.{Option, None, option_map}
use Rattle.std.specs.Prelude.{cond, ◌&&◌, List, [], ◌∷◌, ℕ, zero, suc, ◌+◌, leb, eqb, length, take, drop, get_or}
use Rattle.wire.specs.Lists.{is_empty, only_if, or_else}
use Rattle.wire.specs.Bytes.{part, same}
use Rattle.wire.specs.Integers.{read_natural}

abbrev pub Word : Type 0
Word = List ℕ

-- what a reader found, and the bytes after it
pub record Read (A : Type 0) : Type 0 where
  pub found : A
  pub rest : List ℕ

-- "1 to 64 bulk strings"
abbrev pub words_most : ℕ
words_most = 64

-- word n of some, empty where there are fewer
unfoldable pub word_at : ℕ → List Word → Word
word_at n ws = get_or ws n []

abbrev pub crlf : List ℕ
crlf = 13 ∷ 10 ∷ []

-- the bytes before the first CR, and those from it on
unfoldable pub before_cr : List ℕ → List ℕ
before_cr [] = []
before_cr (b ∷ s) =
    let more : List ℕ = before_cr s in
    cond (eqb b 13) [] (b ∷ more)

unfoldable pub from_cr : List ℕ → List ℕ
from_cr [] = []
from_cr (b ∷ s) =
    let more : List ℕ = from_cr s in
    cond (eqb b 13) (b ∷ s) more

-- a mark, a count of at most `most`, CR LF
unfoldable pub read_count : ℕ → ℕ → List ℕ → Option (Read ℕ)
read_count mark most [] = None
read_count mark most (b ∷ s) =
    cond (eqb b mark && same (take 2 (from_cr s)) crlf)
    (option_map (λ n. record { found = n; rest = drop 2 (from_cr s) }) (read_natural most (before_cr s)))
    None

-- one word: `$len\r\n`, the bytes, `\r\n`
unfoldable pub read_word : List ℕ → Option (Read Word)
read_word s =
    or_else (read_count 36 (length s) s) None λ n.
    only_if (same (part n.found 2 n.rest) crlf)
    (record { found = take n.found n.rest; rest = drop (n.found + 2) n.rest })

-- n words and nothing after them
unfoldable pub read_words : ℕ → List ℕ → Option (List Word)
read_words zero s = only_if (is_empty s) []
read_words (suc n) s =
    or_else (read_word s) None λ w.
    option_map (λ ws. w.found ∷ ws) (read_words n w.rest)

-- the words of a command, or none where the command is damaged
unfoldable pub words_of : List ℕ → Option (List Word)
words_of s =
    or_else (read_count 42 words_most s) None λ n.
    cond (leb 1 n.found) (read_words n.found n.rest) None
