use native.Mathlib.Omega.{arith}
use lib.ListN.{set, length-set}
use borrow.Rule.Slice.PartMut.{put_mid, same_len_mid}
use Rattle.store.proofs.Writing.{stamp_written}
use Rattle.store.proofs.change.write_stamp.Goals as goal

pub slice_bounds-write_le-end : goal.slice_bounds-write_le-end
slice_bounds-write_le-end c = omega (arith, length-set c.args.t.now 0 c.state_of.result)

pub slice_bounds-write_le-end-2 : goal.slice_bounds-write_le-end-2
slice_bounds-write_le-end-2 c = omega (arith, length-set c.args.t.now 0 c.state_of.result, same_len_mid 4 4 (set c.args.t.now 0 c.state_of.result) c.write_le.new.s c.write_le.auto.s)

pub shape_of-t : goal.shape_of-t
shape_of-t c = omega (arith, length-set c.args.t.now 0 c.state_of.result, same_len_mid 4 4 (set c.args.t.now 0 c.state_of.result) c.write_le.new.s c.write_le.auto.s, same_len_mid 8 8 (put_mid 4 4 (set c.args.t.now 0 c.state_of.result) c.write_le.new.s) c.write_le-2.new.s c.write_le-2.auto.s)

pub returns : goal.returns
returns c = stamp_written c.args.t.now c.args.version c.args.expiry c.state_of.result c.instant_of.result c.write_le.new.s c.write_le-2.new.s c.requires c.state_of.ensures c.instant_of.ensures c.write_le.ensures c.write_le-2.ensures
