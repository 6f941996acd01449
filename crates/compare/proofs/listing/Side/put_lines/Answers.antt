use mathlib.Core.Path.{◌≡◌}
use Prim.Native.Nat.{◌+◌}
use native.Mathlib.Omega.{arith}
use Rattle.wire.proofs.ReplyLaying.{laid_none}
use Rattle.wire.proofs.Elements.{going_begins, going_on_lem, going_within, going_ends, going_room}
use Rattle.compare.proofs.LineTexts.{rest_begins, rest_next, rest_ends}
use Rattle.compare.proofs.listing.Side.put_lines.Goals as goal

pub loop-i-init : goal.loop-i-init
loop-i-init c =
    (going_begins (laid_none _) (rest_begins _ _ _ _) c.requires, c.slots-i-end.ensures)

pub put_slot-at-requires-clause-i_in_bounds : goal.put_slot-at-requires-clause-i_in_bounds
put_slot-at-requires-clause-i_in_bounds c = going_room c.loop-i.invariant.0 (rest_next _ _ _ _ _ (omega (arith, c.loop-i.invariant.1, c.loop-i-test.true)))

pub overflow_add-at : goal.overflow_add-at
overflow_add-at c =
    omega (arith, going_within c.loop-i.invariant.0 (rest_next _ _ _ _ _ (omega (arith, c.loop-i.invariant.1, c.loop-i-test.true))) c.put_slot-at.ensures)

pub loop-i-preserved : goal.loop-i-preserved
loop-i-preserved c =
    let h : c.loop-i.at + c.put_slot-at.result ≡ c.put_slot-at.result + c.loop-i.at = omega arith in (
      rw h (going_on_lem c.loop-i.invariant.0 (rest_next _ _ _ _ _ (omega (arith, c.loop-i.invariant.1, c.loop-i-test.true))) c.put_slot-at.ensures),
      c.slots-i-end.ensures,
    )

pub returns : goal.returns
returns c = going_ends c.loop-i.invariant.0 (rest_ends _ _ _ _ _ (omega (arith, c.loop-i.invariant.1, c.loop-i-test.false)))
