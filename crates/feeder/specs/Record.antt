-- The record (01, "The record"): "Mark 45 57 (hexadecimal), then the clock in ms (8 bytes, low first), then L (2 bytes, low first), then L
-- bytes of command. L is 1 to 1,024."
use Rattle.std.specs.Prelude.{cond, not, ◌||◌, List, [], ◌∷◌, ◌++◌, ℕ, ◌+◌, ltb, eqb, length, get_or}
use Rattle.wire.specs.Bytes.{from_le, to_le, part}

abbrev pub first_mark : ℕ
first_mark = 0x45

abbrev pub second_mark : ℕ
second_mark = 0x57

abbrev pub clock_at : ℕ
clock_at = 2

abbrev pub length_at : ℕ
length_at = 10

abbrev pub command_at : ℕ
command_at = 12

abbrev pub command_most : ℕ
command_most = 1024

-- the longest record
abbrev pub record_most : ℕ
record_most = command_at + command_most

pub record Record : Type 0 where
  pub clock : ℕ
  pub command : List ℕ

-- what stands at the start of bytes: one to skip, a record with a command of so many bytes, or too few to tell
pub data Head : Type 0 where
  skip : Head
  whole : ℕ → Head
  wait : Head

unfoldable pub command_length : List ℕ → ℕ
command_length s = from_le (part length_at 2 s)

-- "if the next byte isn't 45, or the next two aren't the mark, or the mark stands and L is out of range, one byte is skipped .. Otherwise
-- 12+L bytes are one record. If the bytes end before this can be told, the rest waits."
unfoldable pub head_of : List ℕ → Head
head_of s =
    cond (not (eqb (get_or s 0 0) first_mark)) skip
    (cond (ltb (length s) 2) wait
    (cond (not (eqb (get_or s 1 0) second_mark)) skip
    (cond (ltb (length s) command_at) wait
    (cond (ltb (command_length s) 1 || ltb command_most (command_length s)) skip
    (cond (ltb (length s) (command_at + command_length s)) wait (whole (command_length s)))))))

-- the record at the start of bytes, with a command of n bytes
unfoldable pub record_of : ℕ → List ℕ → Record
record_of n s = record { clock = from_le (part clock_at 8 s); command = part command_at n s }

-- a record as it is sent
unfoldable pub record_bytes : Record → List ℕ
record_bytes r = (first_mark ∷ second_mark ∷ []) ++ to_le 8 r.clock ++ to_le 2 (length r.command) ++ r.command
