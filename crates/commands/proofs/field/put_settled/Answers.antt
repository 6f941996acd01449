use mathlib.Core.Path.{ap, ◌∙◌}
use Rattle.std.specs.Prelude.{Ok}
use Rattle.commands.specs.Promises.{answers_about}
use Rattle.commands.proofs.FieldDeeds.{may_refuse}
use Rattle.commands.proofs.OneField.{room_replied, laid_replied, laid_refused, laid_asked}
use Rattle.commands.proofs.field.put_settled.Goals as goal

pub put_integer-requires : goal.put_integer-requires
put_integer-requires c = room_replied c.requires.0 c.requires.2 (c.in-Ok-Replied.is ∙ ap Ok (rw c.in-Ok-Replied.is at c.in-Ok-Replied.field-0-is))

pub put_error-requires : goal.put_error-requires
put_error-requires c = may_refuse _ c.requires.2

pub put_answer-requires : goal.put_answer-requires
put_answer-requires c = let s = c.requires.1 _ (c.in-Ok-Asked.is ∙ ap Ok (rw c.in-Ok-Asked.is at c.in-Ok-Asked.field-0-is)) in (s.well, s.looked, c.requires.2)

pub returns-in-Ok-Replied : goal.returns-in-Ok-Replied
returns-in-Ok-Replied c =
    laid_replied (answers_about c.args.sight.time c.args.bytes.now c.args.key.now c.args.field.now) (c.in-Ok-Replied.is ∙ ap Ok (rw c.in-Ok-Replied.is at c.in-Ok-Replied.field-0-is)) c.put_integer.ensures

pub returns-in-Err : goal.returns-in-Err
returns-in-Err c =
    laid_refused (answers_about c.args.sight.time c.args.bytes.now c.args.key.now c.args.field.now) c.in-Err.is c.put_error.ensures

pub returns-in-Ok-Asked : goal.returns-in-Ok-Asked
returns-in-Ok-Asked c =
    laid_asked (answers_about c.args.sight.time c.args.bytes.now c.args.key.now c.args.field.now) (c.in-Ok-Asked.is ∙ ap Ok (rw c.in-Ok-Asked.is at c.in-Ok-Asked.field-0-is)) c.put_answer.ensures
