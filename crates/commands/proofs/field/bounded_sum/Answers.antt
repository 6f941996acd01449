use mathlib.Core.Path.{◌∙◌}
use Rattle.wire.specs.Promises.{integer_of}
use Rattle.commands.proofs.FieldDeeds.{sum_outside, sum_below, sum_above, sum_inside}
use Rattle.commands.proofs.field.bounded_sum.Goals as goal

pub returns-in_err-z : goal.returns-in_err-z
returns-in_err-z c = c.from_residual.ensures ∙ sum_outside (integer_of c.args.start) c.args.sum c.add.ensures c.in_err-z.was

pub returns-then-not-at_most : goal.returns-then-not-at_most
returns-then-not-at_most c = sum_below (integer_of c.args.start) c.args.sum c.add.ensures c.in_ok-z.was c.at_most.ensures c.if-not-at_most.true-raw

pub returns-then-not-at_most-2 : goal.returns-then-not-at_most-2
returns-then-not-at_most-2 c =
    sum_above (integer_of c.args.start) c.args.sum c.add.ensures c.in_ok-z.was c.at_most.ensures c.if-not-at_most.false-raw c.at_most-2.ensures c.if-not-at_most-2.true-raw

pub returns : goal.returns
returns c =
    sum_inside (integer_of c.args.start) c.args.sum c.add.ensures c.in_ok-z.was c.at_most.ensures c.if-not-at_most.false-raw c.at_most-2.ensures c.if-not-at_most-2.false-raw
