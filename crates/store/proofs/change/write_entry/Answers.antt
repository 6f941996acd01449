use native.Mathlib.Omega.{arith}
use Prim.Native.Nat.{◌%◌}
use lib.ListN.{length}
use borrow.Rule.Slice.PartMut.{put_mid, same_len_mid}
use Rattle.store.specs.Store.{entry}
use Rattle.store.proofs.Writing.{stamp_size, entry_written}
use Rattle.store.proofs.change.write_entry.Goals as goal

pub slice_bounds-write_padded-end : goal.slice_bounds-write_padded-end
slice_bounds-write_padded-end c = omega (arith, stamp_size c.args.t.now (length c.args.key.now % 256) (length c.args.field.now % 256) (length c.args.value.now % 256) c.write_stamp.new.t c.requires.size c.write_stamp.auto.t)

pub slice_bounds-write_padded-end-2 : goal.slice_bounds-write_padded-end-2
slice_bounds-write_padded-end-2 c = omega (arith, stamp_size c.args.t.now (length c.args.key.now % 256) (length c.args.field.now % 256) (length c.args.value.now % 256) c.write_stamp.new.t c.requires.size c.write_stamp.auto.t, same_len_mid 16 16 c.write_stamp.new.t c.write_padded.new.to c.write_padded.auto.to)

pub slice_bounds-write_padded-end-3 : goal.slice_bounds-write_padded-end-3
slice_bounds-write_padded-end-3 c = omega (arith, stamp_size c.args.t.now (length c.args.key.now % 256) (length c.args.field.now % 256) (length c.args.value.now % 256) c.write_stamp.new.t c.requires.size c.write_stamp.auto.t, same_len_mid 16 16 c.write_stamp.new.t c.write_padded.new.to c.write_padded.auto.to, same_len_mid 32 32 (put_mid 16 16 c.write_stamp.new.t c.write_padded.new.to) c.write_padded-2.new.to c.write_padded-2.auto.to)

pub shape_of-t : goal.shape_of-t
shape_of-t c = omega (arith, stamp_size c.args.t.now (length c.args.key.now % 256) (length c.args.field.now % 256) (length c.args.value.now % 256) c.write_stamp.new.t c.requires.size c.write_stamp.auto.t, same_len_mid 16 16 c.write_stamp.new.t c.write_padded.new.to c.write_padded.auto.to, same_len_mid 32 32 (put_mid 16 16 c.write_stamp.new.t c.write_padded.new.to) c.write_padded-2.new.to c.write_padded-2.auto.to, same_len_mid 64 64 (put_mid 32 32 (put_mid 16 16 c.write_stamp.new.t c.write_padded.new.to) c.write_padded-2.new.to) c.write_padded-3.new.to c.write_padded-3.auto.to)

pub returns : goal.returns
returns c = entry_written (entry c.args.key.now c.args.field.now c.args.value.now c.args.version c.args.expiry) c.args.t.now c.write_stamp.new.t c.requires c.write_stamp.ensures c.write_padded.new.to c.write_padded-2.new.to c.write_padded-3.new.to c.write_padded.ensures c.write_padded-2.ensures c.write_padded-3.ensures
