-- A list of absorbing calls: each gets the bytes that the last one left waiting, and a piece of its own. Stores, replies and buffers are not
-- spoken of here.
use Rattle.std.specs.Prelude.{option_to_list, ◌≡◌, ◌⊎◌, ℕ, suc, ◌+◌, ◌≤◌, ◌<◌, length, take}
use mathlib.Core.List.{List, [], ◌∷◌, ◌++◌}
use Rattle.feeder.specs.Stream.{Division, ended, divide}
use Rattle.feeder.specs.Absorb.{offered, Absorbing, absorb}

-- what a list of absorbing calls comes to: the bytes used, joined in order; the records handed out in order, the total skipped and the bytes
-- left waiting
pub record Taken : Type 0 where
  pub used : List ℕ
  pub divided : Division

-- nothing was used yet: "A fresh state has no byte waiting."
unfoldable pub untaken : Taken
untaken = record { used = []; divided = ended [] }

unfoldable pub counted : Taken → List ℕ → Absorbing → Taken
counted t piece a =
    record {
      used = t.used ++ take a.used piece;
      divided =
          record {
            records = t.divided.records ++ option_to_list a.completed;
            skipped = t.divided.skipped + a.skipped;
            rest = a.rest;
          };
    }

-- the next call's absorbing
unfoldable pub next : Taken → List ℕ → Absorbing
next t piece = absorb t.divided.rest piece

unfoldable pub absorb_all : Taken → List (List ℕ) → Taken
absorb_all t [] = t
absorb_all t (p ∷ ps) = absorb_all (counted t p (next t p)) ps

-- "A call uses the first bytes of its piece: .. up to and with the last byte of the first record completed, but no further than the piece's
-- end or 65,536 bytes." Said by the division of the stream: `stream` is what was used before the call.
pub record Uses (stream piece : List ℕ) (used : ℕ) : Type 0 where
  pub within : used ≤ length (offered piece)
  pub none_before : (v : ℕ) → v < used → (divide (stream ++ take v piece)).records ≡ (divide stream).records
  pub stops : (used ≡ length (offered piece)) ⊎ (length (divide (stream ++ take used piece)).records ≡ suc (length (divide stream).records))
