use mathlib.Core.Path.{sym, ◌∙◌}
use Rattle.compare.specs.Promises.{refusal_number, refused_as}
use Rattle.compare.proofs.CallChecks.{damaged_first, damaged_second, out_of_range_lem, in_range}
use Rattle.compare.proofs.check.check_call.Goals.{then-not-well_formed-via-then-not-well_formed}
use Rattle.compare.proofs.check.check_call.Goals.{then-not-well_formed-via-else-not-well_formed+then-not-well_formed-2}
use Rattle.compare.proofs.check.check_call.Goals as goal

pub returns-then-not-well_formed : goal.returns-then-not-well_formed
unfolding refused_as refusal_number
returns-then-not-well_formed c =
    elim c.then-not-well_formed.branch [
      | then-not-well_formed-via-then-not-well_formed w ↦ damaged_first _ _ _ (sym c.well_formed-2.ensures ∙ w.if-not-well_formed.true)
      | then-not-well_formed-via-else-not-well_formed+then-not-well_formed-2 w ↦ damaged_second _ _ _
          (sym c.well_formed-2.ensures ∙ w.if-not-well_formed.false) (sym w.well_formed-else-not-well_formed.ensures ∙ w.if-not-well_formed-2.true)
    ]

pub returns-then-out_of_range : goal.returns-then-out_of_range
unfolding refused_as refusal_number
returns-then-out_of_range c =
    out_of_range_lem _ _ _ (sym c.well_formed-2.ensures ∙ c.if-not-well_formed.false)
    (sym c.well_formed-else-not-well_formed.ensures ∙ c.if-not-well_formed-2.false) (sym c.out_of_range.ensures ∙ c.if-out_of_range.true)

pub returns : goal.returns
unfolding refused_as
returns c =
    in_range _ _ _ (sym c.well_formed-2.ensures ∙ c.if-not-well_formed.false)
    (sym c.well_formed-else-not-well_formed.ensures ∙ c.if-not-well_formed-2.false) (sym c.out_of_range.ensures ∙ c.if-out_of_range.false)
