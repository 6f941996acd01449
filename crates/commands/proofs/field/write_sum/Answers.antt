use Rattle.wire.specs.Promises.{integer_of}
use Rattle.commands.proofs.Handing.{handed}
use Rattle.commands.proofs.FieldDeeds.{laid_inside, laid_taken, laid_size, text_room, text_storable}
use Rattle.commands.proofs.Settling.{wrote_replied, wrote_refused}
use Rattle.commands.proofs.field.write_sum.Goals as goal

pub write_integer-size-requires : goal.write_integer-size-requires
write_integer-size-requires c = text_room (integer_of c.args.z) c.requires.2

pub slice_bounds-text-end : goal.slice_bounds-text-end
slice_bounds-text-end c = laid_inside c.write_integer-size.ensures (text_room (integer_of c.args.z) c.requires.2)

pub slice_bounds-write-end : goal.slice_bounds-write-end
slice_bounds-write-end c = laid_size c.write_integer-size.ensures

pub write-requires : goal.write-requires
write-requires c = (c.requires.0, text_storable (integer_of c.args.z) c.requires.2 (laid_taken c.write_integer-size.ensures) c.requires.1)

pub returns-in_err-write : goal.returns-in_err-write
returns-in_err-write c =
    rw (handed c.from_residual.result c.from_residual.ensures.1)
    (wrote_refused c.args.sight.time _ c.args.z c.args.bytes.now (rw (c.in_err-write.was, laid_taken c.write_integer-size.ensures) at c.write.ensures))

pub returns : goal.returns
returns c =
    wrote_replied c.args.sight.time _ c.args.z c.args.bytes.now c.requires.2 (rw (c.in_ok-write.was, laid_taken c.write_integer-size.ensures) at c.write.ensures)
