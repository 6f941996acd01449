-- A minus goes before the magnitude, which is written into the tail; with no minus the magnitude is all.
use mathlib.Core.Path.{◌≡◌, ap}
use mathlib.Core.Bool.{true, false}
use mathlib.Core.List.{◌∷◌}
use mathlib.Core.Logic.{◌⊎◌, ⊎_elim}
use Prim.Native.Nat.{◌<◌, ◌≤◌}
use native.Mathlib.Omega.{arith}
use lib.ListN.{length, length-set}
use Rattle.wire.specs.declared.integers.Signed.{Signed}
use Rattle.wire.specs.Integers.{natural_text, integer_text}
use Rattle.wire.specs.Promises.{integer_of}
use Rattle.wire.proofs.Lists.{both_ways}
use Rattle.wire.proofs.ReplyLaying.{laid_first, length_tail}
use Rattle.wire.proofs.IntegerSigns.{text_minus, text_plain}
use Rattle.wire.proofs.integers.write_integer.Goals as goal

-- what is written
is_minus : (z : Signed) → z.negative ≡ true → 0 < z.magnitude → length (integer_text (integer_of z)) ≡ length (45 ∷ natural_text z.magnitude)
is_minus z h l = ap length (text_minus z h l)

is_plain : (z : Signed) → (z.negative ≡ true × (z.magnitude ≤ 0)) ⊎ (z.negative ≡ false) → integer_text (integer_of z) ≡ natural_text z.magnitude
is_plain z h = text_plain z (⊎_elim (λ w n. omega (arith, w.1)) (λ w n. both_ways n w) h)

pub bounds-out-0 : goal.bounds-out-0
bounds-out-0 c = omega (arith, is_minus c.args.z c.if-z.true c.if-z-gt0.true)

pub slice_bounds-write_natural-count : goal.slice_bounds-write_natural-count
slice_bounds-write_natural-count c = simp length-set (omega (arith, is_minus c.args.z c.if-z.true c.if-z-gt0.true))

pub slice_bounds-write_natural-start : goal.slice_bounds-write_natural-start
slice_bounds-write_natural-start c = simp length-set (omega (arith, is_minus c.args.z c.if-z.true c.if-z-gt0.true))

pub write_natural-requires : goal.write_natural-requires
write_natural-requires c =
    let minus = is_minus c.args.z c.if-z.true c.if-z-gt0.true in
    omega (arith, minus, length_tail 45 c.args.out.now (omega (arith, minus)))

pub overflow_add-result : goal.overflow_add-result
overflow_add-result c = omega (arith, c.write_natural.ensures.size, is_minus c.args.z c.if-z.true c.if-z-gt0.true)

pub returns-then-z-gt0 : goal.returns-then-z-gt0
returns-then-z-gt0 c =
    let minus = text_minus c.args.z c.if-z.true c.if-z-gt0.true in
    rw minus (laid_first 45 (omega (arith, is_minus c.args.z c.if-z.true c.if-z-gt0.true)) c.write_natural.ensures)

pub write_natural-requires-2 : goal.write_natural-requires-2
write_natural-requires-2 c = rw (is_plain c.args.z c.else-z.either) at c.requires

pub returns : goal.returns
returns c = rw (is_plain c.args.z c.else-z.either) c.write_natural-2.ensures
