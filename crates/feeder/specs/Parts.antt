-- The parts of a stream, one after another: what the theorems about skipped bytes speak of. Demand 1: "a stray byte in the stream is skipped
-- and counted".
use Rattle.std.specs.Prelude.{Bool, true, false, List, [], ◌∷◌, ℕ, zero, suc, ◌+◌, ◌-◌, length, get_or}
use Rattle.feeder.specs.Record.{Record, Head, head_of, record_of, record_bytes, command_at}
use Rattle.feeder.specs.Record.Head.{skip, whole, wait}

-- one byte that is skipped, or one record
pub data Part : Type 0 where
  stray : ℕ → Part
  sent : Record → Part

-- the bytes of a part
unfoldable pub part_bytes : Part → List ℕ
part_bytes (stray b) = b ∷ []
part_bytes (sent r) = record_bytes r

unfoldable pub is_stray : Part → Bool
is_stray (stray b) = true
is_stray (sent r) = false

-- the record of a part, if it is one
unfoldable pub records_of : Part → List Record
records_of (stray b) = []
records_of (sent r) = r ∷ []

-- the parts of s by its head; the last argument gives those of what follows the first byte of s, after so many bytes more of a record
unfoldable pub parts_at : Head → List ℕ → (ℕ → List Part) → List Part
parts_at skip s later = stray (get_or s 0 0) ∷ later 0
parts_at (whole n) s later = sent (record_of n s) ∷ later (command_at - 1 + n)
parts_at wait s later = []

-- the parts of bytes of which the first k belong to the record before them
unfoldable pub parts_after : ℕ → List ℕ → List Part
parts_after k [] = []
parts_after zero (b ∷ s) = parts_at (head_of (b ∷ s)) (b ∷ s) (λ k. parts_after k s)
parts_after (suc k) (b ∷ s) = parts_after k s

-- the parts of a stream, up to the rest that waits
unfoldable pub parts : List ℕ → List Part
parts s = parts_after 0 s

-- the bytes of records: 12 and the command's length for each
unfoldable pub record_sizes : List Record → ℕ
record_sizes [] = 0
record_sizes (r ∷ rs) = command_at + length r.command + record_sizes rs
