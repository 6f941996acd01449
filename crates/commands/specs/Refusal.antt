-- "Answers that say no": each refusal's line.
use Rattle.std.specs.Prelude.{cond, List, [], ◌∷◌, ℕ, eqb}
use Prim.Native.String.{String}
use Rattle.wire.specs.Replies.{line}

-- a row of the table: the number of a refusal and its reply
pub record RefusalRow : Type 0 where
  pub number : ℕ
  pub reply : String

infix 70 ◌says◌
abbrev pub ◌says◌ : ℕ → String → RefusalRow
n says t = record { number = n; reply = t }

unfoldable pub table : List RefusalRow
table =
    10 says "-ERR protocol"
    ∷ 11 says "-ERR clock out of range"
    ∷ 12 says "-ERR unknown command"
    ∷ 13 says "-ERR wrong number of arguments"
    ∷ 14 says "-ERR too long"
    ∷ 15 says "-ERR syntax error"
    ∷ 16 says "-ERR value is not an integer or out of range"
    ∷ 17 says "-ERR invalid version"
    ∷ 18 says "-ERR invalid expire time"
    ∷ 20 says "-ERR update version is stale"
    ∷ 21 says "-ERR hash value is not an integer"
    ∷ 22 says "-ERR increment or decrement would overflow"
    ∷ 23 says "-ERR version overflow"
    ∷ 24 says "-ERR store is full"
    ∷ []

-- "10 to 18 use the record and leave the whole store. 20 to 24 set the clock and remove named dead entries only.": the first and the last of each
abbrev pub early_least : ℕ
early_least = 10

abbrev pub early_most : ℕ
early_most = 18

abbrev pub late_least : ℕ
late_least = 20

abbrev pub late_most : ℕ
late_most = 24

-- 3: "reply buffer under 56,000 bytes"
abbrev pub buffer_least : ℕ
buffer_least = 56000

unfoldable pub line_in : List RefusalRow → ℕ → List ℕ
line_in [] n = []
line_in (r ∷ rs) n =
    let later : List ℕ = line_in rs n in
    cond (eqb r.number n) (line r.reply) later

-- the whole reply of a refused command
unfoldable pub error_line : ℕ → List ℕ
error_line n = line_in table n
