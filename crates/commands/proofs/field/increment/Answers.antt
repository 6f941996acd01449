use Rattle.commands.proofs.Handing.{handed_none}
use Rattle.commands.proofs.FieldDeeds.{sought_held, increment_stale, increment_unread, increment_overflow, increment_within, increment_done}
use Rattle.commands.proofs.field.increment.Goals as goal

pub is_stale_at-requires : goal.is_stale_at-requires
is_stale_at-requires c = sought_held c.requires.0

pub returns-then-is_stale_at : goal.returns-then-is_stale_at
returns-then-is_stale_at c =
    increment_stale c.args.sight.time c.args.sum c.args.stamping c.args.key.now c.args.field.now c.args.bytes.now c.requires.0.well c.args.sight.found c.is_stale_at.ensures c.if-is_stale_at.true

pub stored-requires : goal.stored-requires
stored-requires c = sought_held c.requires.0

pub returns-in_err-start : goal.returns-in_err-start
returns-in_err-start c =
    let no = c.in_err-start.ensures in
    rw (handed_none c.from_residual.result c.from_residual.ensures.1 _ no.value)
    (increment_unread c.args.sight.time c.args.sum c.args.stamping c.args.key.now c.args.field.now c.args.bytes.now c.requires.0.well c.args.sight.found c.is_stale_at.ensures c.if-is_stale_at.false c.stored.ensures no.ok_part)

pub returns-in_err-z : goal.returns-in_err-z
returns-in_err-z c =
    let no = c.in_err-z.ensures in
    rw (handed_none c.from_residual-in_err-z.result c.from_residual-in_err-z.ensures.1 _ no.value)
    (increment_overflow c.args.sight.time c.args.sum c.args.stamping c.args.key.now c.args.field.now c.args.bytes.now c.requires.0.well c.args.sight.found c.is_stale_at.ensures c.if-is_stale_at.false c.stored.ensures c.in_ok-start.ensures.ok_part c.bounded_sum.ensures no.ok_part)

pub write_sum-requires : goal.write_sum-requires
write_sum-requires c =
    (c.requires.0, c.requires.1, increment_within c.args.sight.time c.args.sum c.args.stamping c.args.key.now c.args.field.now c.args.bytes.now c.requires.0.well c.args.sight.found c.is_stale_at.ensures c.if-is_stale_at.false c.stored.ensures c.in_ok-start.ensures.ok_part c.bounded_sum.ensures c.in_ok-z.ensures.ok_part)

pub returns : goal.returns
returns c =
    increment_done c.args.sight.time c.args.sum c.args.stamping c.args.key.now c.args.field.now c.args.bytes.now c.requires.0.well c.args.sight.found c.is_stale_at.ensures c.if-is_stale_at.false c.stored.ensures c.in_ok-start.ensures.ok_part c.bounded_sum.ensures c.in_ok-z.ensures.ok_part c.write_sum.ensures
