-- A record as it is sent is read as that record, and a byte that begins none is skipped.
use mathlib.Core.Path.{◌≡◌, refl, ◌∙◌}
use mathlib.Core.Logic.{◌≢◌, ◌⊎◌, inl, inr}
use mathlib.Core.Bool.{Bool, true, false, cond, not, ◌||◌, or-true}
use mathlib.Core.List.{List, [], ◌∷◌, ◌++◌}
use Prim.Native.Nat.{ℕ, suc, ◌+◌, ◌^◌, ◌≤◌, ◌<◌}
use native.Mathlib.Nat.{zero-add}
use native.Mathlib.Omega.{arith}
use lib.Dec.{ltb, eqb}
use lib.ListN.{length, get_or}
use lib.Seq.{take-length}
use borrow.Author.Tests.{ne_eqb, lt-ltb, le-ltb}
use Rattle.wire.specs.Bytes.{to_le, part}
use Rattle.wire.proofs.ByteLaws.{from_le_to_le}
use Rattle.feeder.specs.Record.{Record, head_of, record_of, record_bytes, command_length, first_mark, second_mark, command_at, command_most}
use Rattle.feeder.specs.Record.Head.{skip, whole}
use Rattle.feeder.specs.Stream.{skipping, recording, divided_at, divide_after, divide}
use Rattle.feeder.proofs.StreamDivide.{divide_more}
use Rattle.feeder.proofs.FirstRecord.{first_divides}
use Rattle.feeder.proofs.FirstRecord.First.{here}

-- ---- a record

module _ (r : Record) (early : r.clock < 256 ^ 8) (some : 1 ≤ length r.command) (few : length r.command ≤ command_most) where
  abbrev n : ℕ
  n = length r.command

  sent_length : length (record_bytes r) ≡ command_at + n
  unfolding record_bytes to_le
  sent_length = omega arith

  sent_size : command_length (record_bytes r) ≡ n
  unfolding record_bytes command_length part to_le
  sent_size = from_le_to_le 2 n (omega arith)

  -- the head of its bytes is that of a record
  sent_head : head_of (record_bytes r) ≡ whole n
  unfolding head_of
  sent_head =
      rw (
        sent_size,
        sent_length,
        le-ltb (command_at + n) 2 (omega arith),
        le-ltb (command_at + n) command_at (omega arith),
        le-ltb n 1 some,
        le-ltb command_most n few,
        le-ltb (command_at + n) (command_at + n) (omega arith),
      )
      (unfold record_bytes in refl)

  sent_record : record_of n (record_bytes r) ≡ r
  unfolding record_of record_bytes part to_le
  sent_record = λ i. record { clock = from_le_to_le 8 r.clock early i; command = take-length r.command i }

  sent_alone : divide (record_bytes r) ≡ record { records = record_of n (record_bytes r) ∷ []; skipped = 0; rest = [] }
  unfolding record_bytes
  sent_alone = first_divides (here sent_head) (omega (arith, sent_length))

  -- it is read, and reading goes on after it
  pub record_read : (s : List ℕ) → divide (record_bytes r ++ s) ≡ recording r (divide s)
  record_read s = divide_more (record_bytes r) s ∙ rw (sent_alone, sent_record) (rw zero-add)

-- ---- a stray byte

-- "if the next byte isn't 45, or the next two aren't the mark, or the mark stands and L is out of range"
abbrev pub Strays : ℕ → List ℕ → Type 0
Strays x s =
    (x ≢ first_mark)
    ⊎ (((1 ≤ length s) × (get_or s 0 0 ≢ second_mark))
    ⊎ ((command_at ≤ suc (length s)) × ((command_length (x ∷ s) < 1) ⊎ (command_most < command_length (x ∷ s)))))

stray_head : (x : ℕ) (s : List ℕ) → Strays x s → head_of (x ∷ s) ≡ skip
unfolding head_of
stray_head x s (inl h) = rw (ne_eqb x first_mark h)
stray_head x s (inr (inl q)) =
    rw (le-ltb (suc (length s)) 2 (omega (arith, q.0)), ne_eqb (get_or s 0 0) second_mark q.1) (go (not (eqb x first_mark)))
  where
    go : (a : Bool) → cond a skip skip ≡ skip
    go true = refl
    go false = refl
stray_head x s (inr (inr q)) =
    rw (le-ltb (suc (length s)) 2 (omega (arith, q.0)), le-ltb (suc (length s)) command_at q.0, outside q.1)
    (go (not (eqb x first_mark)) (not (eqb (get_or s 0 0) second_mark)))
  where
    outside : (command_length (x ∷ s) < 1) ⊎ (command_most < command_length (x ∷ s))
        → (ltb (command_length (x ∷ s)) 1 || ltb command_most (command_length (x ∷ s))) ≡ true
    outside (inl l) = rw (lt-ltb (command_length (x ∷ s)) 1 l)
    outside (inr l) = rw (lt-ltb command_most (command_length (x ∷ s)) l) (or-true (ltb (command_length (x ∷ s)) 1))

    go : (a c : Bool) → cond a skip (cond c skip skip) ≡ skip
    go true c = refl
    go false true = refl
    go false false = refl

pub stray_skipped : (x : ℕ) (s : List ℕ) → Strays x s → divide (x ∷ s) ≡ skipping (divide s)
unfolding divide divide_after divided_at
stray_skipped x s h = rw (stray_head x s h)
