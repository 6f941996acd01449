-- The paper's worked streams: "Whole example", and the mark that follows a stray 45.
use Rattle.std.specs.Prelude.{None}
use Rattle.std.specs.Prelude.{List, [], ◌∷◌, ◌++◌, ℕ}
use Prim.Native.String.{String}
use Rattle.wire.specs.Bytes.{text}
use Rattle.store.specs.Store.{encode}
use Rattle.feeder.specs.Record.{record_bytes}
use Rattle.feeder.specs.Stream.{Meaning, meaning}

-- "clock 1000, `EXHGET m t1`: 45 57 E8 03 00 00 00 00 00 00 1F 00, then the 31 bytes"
unfoldable pub whole_example : List ℕ
whole_example =
    (0x45 ∷ 0x57 ∷ 0xe8 ∷ 0x03 ∷ 0x00 ∷ 0x00 ∷ 0x00 ∷ 0x00 ∷ 0x00 ∷ 0x00 ∷ 0x1f ∷ 0x00 ∷ [])
    ++ text "*3\r\n$6\r\nEXHGET\r\n$1\r\nm\r\n$2\r\nt1\r\n"

unfoldable pub empty_at : ℕ → List ℕ
empty_at clock = encode (record { clock = clock; slots = None ∷ [] })

-- a stream on an empty store of one slot, and what it comes to
pub record StreamCase : Type 0 where
  pub name : String
  pub stream : List ℕ
  pub outcome : Meaning

abbrev pub stream_case : String → List ℕ → Meaning → StreamCase
stream_case n s m = record { name = n; stream = s; outcome = m }

abbrev pub told : List ℕ → ℕ → List ℕ → ℕ → Meaning
told replies skipped rest clock = record { replies = replies; skipped = skipped; rest = rest; store = empty_at clock }

unfoldable pub given : StreamCase → Meaning
given r = meaning r.stream (empty_at 0)

unfoldable pub expected : StreamCase → Meaning
expected r = r.outcome

unfoldable pub worked_streams : List StreamCase
worked_streams =
    stream_case "Whole example: from an empty store the reply is nil" whole_example (told (text "$-1\r\n") 0 [] 1000)
    ∷ stream_case "45 45 57: one byte is skipped, and the mark is not lost" (0x45 ∷ whole_example) (told (text "$-1\r\n") 1 [] 1000)
    ∷ stream_case "L out of range: only the 45 is skipped, and what follows is read again"
    ((0x45 ∷ 0x57 ∷ 0 ∷ 0 ∷ 0 ∷ 0 ∷ 0 ∷ 0 ∷ 0 ∷ 0 ∷ 0 ∷ 0 ∷ []) ++ whole_example)
    (told (text "$-1\r\n") 12 [] 1000)
    ∷ stream_case "A record that is cut short waits" (whole_example ++ (0x45 ∷ 0x57 ∷ 7 ∷ [])) (told (text "$-1\r\n") 0 (0x45 ∷ 0x57 ∷ 7 ∷ []) 1000)
    ∷ stream_case "A refused command is a record too: its error line is its reply"
    (record_bytes (record { clock = 1000; command = text "*1\r\n$3\r\nGET\r\n" }) ++ whole_example)
    (told (text "-ERR unknown command\r\n$-1\r\n") 0 [] 1000)
    ∷ stream_case "A command that is not RESP: 10" (record_bytes (record { clock = 1000; command = text "EXHGET m t1" })) (told (text "-ERR protocol\r\n") 0 [] 0)
    ∷ []
