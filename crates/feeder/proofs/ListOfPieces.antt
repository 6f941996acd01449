-- The stream's half of demand 3, for any list of absorbing calls from no byte waiting: what they hand out is the division of the bytes used,
-- joined, and each uses the paper's number of bytes. It knows no store, no reply and no buffer.
use mathlib.Core.Path.{◌≡◌, refl}
use mathlib.Core.Logic.{◌⊎◌, inl, inr}
use mathlib.Core.List.{List, [], ◌∷◌, ◌++◌, append-nil}
use Prim.Native.Nat.{ℕ, suc, ◌≤◌}
use native.Mathlib.Numerals.{add-one}
use lib.ListN.{length, take, length-append}
use Rattle.feeder.specs.Stream.{divide, divide_after}
use Rattle.feeder.specs.Absorb.{offered}
use Rattle.feeder.specs.Pieces.{Taken, untaken, counted, next, absorb_all, Uses}
use Rattle.feeder.proofs.StreamDivide.{divide_more, rest_waits}
use Rattle.feeder.proofs.OneAbsorbing.{Took, took}

-- what calls have come to is the division of the bytes used
abbrev pub Divides : Taken → Type 0
Divides t = t.divided ≡ divide t.used

module _ (t : Taken) (d : Divides t) (piece : List ℕ) where
  abbrev rest : List ℕ
  rest = (divide t.used).rest

  next_took : Took rest piece (next t piece)
  unfolding next
  next_took = rw d (took rest piece (rest_waits t.used))

  abbrev y : List ℕ
  y = take (next t piece).used piece

  -- one call more
  pub next_divides : Divides (counted t piece (next t piece))
  unfolding counted
  next_divides = rw (divide_more t.used y, ← next_took.divides, ← d)

  pub next_uses : Uses t.used piece (next t piece).used
  next_uses =
      record {
        within = next_took.within;
        none_before = λ v l. rw (divide_more t.used (take v piece), next_took.none_before v l) (append-nil (divide t.used).records);
        stops = ends next_took.stops;
      }
    where
      ends : ((next t piece).used ≡ length (offered piece)) ⊎ (length (divide (rest ++ y)).records ≡ 1)
          → ((next t piece).used ≡ length (offered piece)) ⊎ (length (divide (t.used ++ y)).records ≡ suc (length (divide t.used).records))
      ends (inl e) = inl e
      ends (inr e) = inr (rw (divide_more t.used y) (rw (length-append, e, add-one)))

  pub next_some : 1 ≤ length piece → 1 ≤ (next t piece).used
  next_some = next_took.some_used

-- ---- lists of calls

pub untaken_divides : Divides untaken
unfolding untaken divide divide_after
untaken_divides = refl

pub all_divides : (t : Taken) → Divides t → (ps : List (List ℕ)) → Divides (absorb_all t ps)
unfolding absorb_all
all_divides t d [] = d
all_divides t d (p ∷ ps) = all_divides (counted t p (next t p)) (next_divides t d p) ps

module _ (ps : List (List ℕ)) where
  -- The records handed out in order, the total skipped and the bytes left waiting are those of the division of the bytes used, joined.
  pub pieces_divide : (absorb_all untaken ps).divided ≡ divide (absorb_all untaken ps).used
  pieces_divide = all_divides untaken untaken_divides ps

  -- The next call uses as many bytes as the paper says, at least one if its piece isn't empty.
  pub pieces_use : (piece : List ℕ) → Uses (absorb_all untaken ps).used piece (next (absorb_all untaken ps) piece).used
  pieces_use = next_uses (absorb_all untaken ps) pieces_divide

  pub pieces_use_some : (piece : List ℕ) → 1 ≤ length piece → 1 ≤ (next (absorb_all untaken ps) piece).used
  pieces_use_some = next_some (absorb_all untaken ps) pieces_divide
