-- A stream's division, and demand 3's definition: it "knows no calls and no cuts. It takes one stream and a store."
use Rattle.std.specs.Prelude.{List, [], ◌∷◌, ◌++◌, ℕ, zero, suc, ◌+◌, ◌-◌}
use Rattle.commands.specs.Execute.{Done, exec_bytes}
use Rattle.feeder.specs.Record.{Record, Head, head_of, record_of, command_at}
use Rattle.feeder.specs.Record.Head.{skip, whole, wait}

-- "The rule above divides the stream into skipped bytes, records and a rest that waits."
pub record Division : Type 0 where
  pub records : List Record
  pub skipped : ℕ
  pub rest : List ℕ

abbrev pub ended : List ℕ → Division
ended s = record { records = []; skipped = 0; rest = s }

abbrev pub skipping : Division → Division
skipping d = record { records = d.records; skipped = suc d.skipped; rest = d.rest }

abbrev pub recording : Record → Division → Division
recording r d = record { records = r ∷ d.records; skipped = d.skipped; rest = d.rest }

-- what the head of s makes of s; the last argument divides what follows the first byte of s, after so many bytes more of a record: those of
-- its head after the first, and its command
unfoldable pub divided_at : Head → List ℕ → (ℕ → Division) → Division
divided_at skip s later = skipping (later 0)
divided_at (whole n) s later = recording (record_of n s) (later (command_at - 1 + n))
divided_at wait s later = ended s

-- the division of bytes of which the first k belong to the record before them
unfoldable pub divide_after : ℕ → List ℕ → Division
divide_after k [] = ended []
divide_after zero (b ∷ s) = divided_at (head_of (b ∷ s)) (b ∷ s) (λ k. divide_after k s)
divide_after (suc k) (b ∷ s) = divide_after k s

-- "Reading a stream from its start"
unfoldable pub divide : List ℕ → Division
divide s = divide_after 0 s

-- "The records are done in stream order by this paper's rules, each with its own clock, the first on the given store and each later one on
-- the store that the one before left, and their replies are joined."
unfoldable pub do_all : List Record → List ℕ → Done
do_all [] b = record { reply = []; store = b }
do_all (r ∷ rs) b =
    let first : Done = exec_bytes r.clock r.command b in
    let later : Done = do_all rs first.store in
    record { reply = first.reply ++ later.reply; store = later.store }

-- "The definition gives the joined replies, the number of bytes skipped, the rest and the last store."
pub record Meaning : Type 0 where
  pub replies : List ℕ
  pub skipped : ℕ
  pub rest : List ℕ
  pub store : List ℕ

unfoldable pub meaning : List ℕ → List ℕ → Meaning
meaning s b =
    let d : Division = divide s in
    let done : Done = do_all d.records b in
    record { replies = done.reply; skipped = d.skipped; rest = d.rest; store = done.store }
