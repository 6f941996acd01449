-- The forms of a reply: "Numbers are replied as RESP integers (`:1`), fields and values as bulk strings, nil as `$-1`, an empty list as
-- `*0`." Each ends in CR LF.
use mathlib.Core.List.{List, ◌++◌, map, flatten}
use Rattle.std.specs.Prelude.{ℕ, length, drop, ℤ, pos}
use Prim.Native.String.{String}
use Rattle.wire.specs.Bytes.{text}
use Rattle.wire.specs.Integers.{natural_text, integer_text}
use Rattle.wire.specs.Words.{Word, crlf}

-- a line of text
unfoldable pub line : String → List ℕ
line t = text t ++ crlf

unfoldable pub nil : List ℕ
nil = line "$-1"

unfoldable pub integer : ℤ → List ℕ
integer z = text ":" ++ integer_text z ++ crlf

abbrev pub number : ℕ → List ℕ
number n = integer (pos n)

unfoldable pub bulk : List ℕ → List ℕ
bulk w = text "$" ++ natural_text (length w) ++ crlf ++ w ++ crlf

unfoldable pub header : ℕ → List ℕ
header n = text "*" ++ natural_text n ++ crlf

unfoldable pub array : List (List ℕ) → List ℕ
array elements = header (length elements) ++ flatten elements

-- the command that words spell: an array of bulk strings too
unfoldable pub resp_of : List Word → List ℕ
resp_of ws = array (map bulk ws)

-- "Reply bytes go at the buffer's start; those beyond keep their contents."
unfoldable pub laid_over : List ℕ → List ℕ → List ℕ
laid_over reply buffer = reply ++ drop (length reply) buffer
