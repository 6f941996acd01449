-- Absorbing (01, "The record"): what a call takes of its piece and hands out. It knows no store and no reply buffer.
use Rattle.std.specs.Prelude.{Option, None, Some, option_map}
use Rattle.std.specs.Prelude.{List, [], ◌∷◌, ◌++◌, ℕ, suc, ◌+◌, ◌-◌, length, take, drop}
use Rattle.wire.specs.Lists.{or_else}
use Rattle.feeder.specs.Record.{Record, Head, head_of, record_of, command_at}
use Rattle.feeder.specs.Record.Head.{skip, whole, wait}
use Rattle.feeder.specs.Stream.{divide}

-- "or after using 65,536 bytes"
abbrev pub used_most : ℕ
used_most = 65536

-- where the first record completed stands, and how long its command is
pub record Place : Type 0 where
  pub at : ℕ
  pub size : ℕ

abbrev pub later : Place → Place
later p = record { at = suc p.at; size = p.size }

unfoldable pub placed_at : Head → Option Place → Option Place
placed_at skip more = option_map later more
placed_at (whole n) more = Some (record { at = 0; size = n })
placed_at wait more = None

unfoldable pub first_record : List ℕ → Option Place
first_record [] = None
first_record (b ∷ s) = placed_at (head_of (b ∷ s)) (first_record s)

-- just past a record
abbrev pub end_of : Place → ℕ
end_of p = p.at + (command_at + p.size)

-- the bytes of its piece that a call looks at
unfoldable pub offered : List ℕ → List ℕ
offered piece = take used_most piece

-- bytes of the piece used, "bytes skipped in this call", the record completed, if there is one, and the rest that waits
pub record Absorbing : Type 0 where
  pub used : ℕ
  pub skipped : ℕ
  pub completed : Option Record
  pub rest : List ℕ

-- no record is completed: the bytes looked at divide into skipped ones and a rest
unfoldable pub keeping : List ℕ → ℕ → Absorbing
keeping s used = record { used = used; skipped = (divide s).skipped; completed = None; rest = (divide s).rest }

-- "up to and with the last byte of the first record completed": all before the record is skipped, and nothing waits after it
unfoldable pub completing : List ℕ → ℕ → Place → Absorbing
completing s waited p =
    record {
      used = end_of p - waited;
      skipped = p.at;
      completed = Some (record_of p.size (drop p.at s));
      rest = [];
    }

-- a call looks at the bytes that wait and those of its piece: "It stops after the first record completed, when the piece ends, or after using
-- 65,536 bytes."
unfoldable pub absorb : List ℕ → List ℕ → Absorbing
absorb w piece =
    let s : List ℕ = w ++ offered piece in
    or_else (first_record s) (keeping s (length (offered piece))) (λ p. completing s (length w) p)
