use mathlib.Core.Path.{ap, ap₂, ◌∙◌}
use Prim.Native.Nat.{ℕ, ◌%◌, ◌^◌}
use native.Mathlib.Omega.{arith}
use lib.Bits.{bit_xor}
use Rattle.wire.specs.Bytes.{from_le}
use Rattle.store.specs.Promises.{halves_at}
use Rattle.store.proofs.SlotParts.{part_of}
use Rattle.store.proofs.duplicates.halves.Goals as goal

pub returns : goal.returns
unfolding halves_at
returns c =
    record {
      value = ap₂ (λ (x y : ℕ). bit_xor x y % 2 ^ 32)
          (c.read_le.ensures ∙ ap from_le (part_of c.args.at 4 c.args.s.now))
          (c.read_le-2.ensures ∙ ap from_le (part_of c.args.far 4 c.args.s.now));
      upper_bound = omega arith;
    }
