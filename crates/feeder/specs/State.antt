-- The feeder's state (01, "The record").
use Rattle.std.specs.Prelude.{Bool, List, [], ◌∷◌, ℕ, leb, eqb, length, take, drop}
use Rattle.std.proofs.Math.Pow.{are_bytes}
use Rattle.wire.specs.Lists.{every}
use Rattle.wire.specs.Bytes.{all_zero, padded, same}
use Rattle.feeder.specs.declared.Feeder.{Feeder}
use Rattle.feeder.specs.Stream.{divide}

-- "the waiting bytes (at most 1,035)"
abbrev pub waiting_most : ℕ
waiting_most = 1035

-- "the waiting bytes (at most 1,035) and how many, unused places zero"
unfoldable pub state_of : List ℕ → Feeder
state_of s = record { waiting = padded waiting_most s; count = length s }

-- "A fresh state has no byte waiting."
unfoldable pub fresh : Feeder
fresh = state_of []

unfoldable pub waiting_in : Feeder → List ℕ
waiting_in f = take f.count f.waiting

-- "A state that feeding leaves is one whose waiting bytes, read alone by the rule above, all wait, with zero after them."
unfoldable pub is_left : Feeder → Bool
is_left f =
    every
    (are_bytes f.waiting
    ∷ eqb (length f.waiting) waiting_most
    ∷ leb f.count waiting_most
    ∷ same (divide (waiting_in f)).rest (waiting_in f)
    ∷ all_zero (drop f.count f.waiting)
    ∷ []
    )
