use Rattle.commands.proofs.Handing.{handed}
use Rattle.commands.proofs.FieldDeeds.{sought_held, assign_stale, assign_refused, assign_done}
use Rattle.commands.proofs.field.assign.Goals as goal

pub is_stale_at-requires : goal.is_stale_at-requires
is_stale_at-requires c = sought_held c.requires.0

pub returns-then-is_stale_at : goal.returns-then-is_stale_at
returns-then-is_stale_at c =
    assign_stale c.args.sight.time c.args.key.now c.args.field.now c.args.value.now c.args.stamping c.args.bytes.now c.args.sight.found c.is_stale_at.ensures c.requires.0.well c.if-is_stale_at.true

pub returns-in_err-write : goal.returns-in_err-write
returns-in_err-write c =
    rw (handed c.from_residual.result c.from_residual.ensures.1)
    (assign_refused c.args.sight.time c.args.key.now c.args.field.now c.args.value.now c.args.stamping c.args.bytes.now c.args.sight.found c.is_stale_at.ensures c.if-is_stale_at.false (rw c.in_err-write.was at c.write.ensures))

pub returns : goal.returns
returns c =
    assign_done c.args.sight.time c.args.key.now c.args.field.now c.args.value.now c.args.stamping c.args.bytes.now c.args.sight.found c.is_stale_at.ensures c.if-is_stale_at.false (rw c.in_ok-write.was at c.write.ensures) c.fields_added.ensures
