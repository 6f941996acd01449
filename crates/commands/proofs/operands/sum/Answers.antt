use mathlib.Core.Path.{sym, ◌∙◌}
use Rattle.commands.specs.ParsePromises.{sum_of}
use Rattle.commands.proofs.Handing.{handed_none}
use Rattle.commands.proofs.ParseFamilies.{sum_0, sum_1, sum_2, sum_3}
use Rattle.commands.proofs.operands.sum.Goals as goal

pub returns-in_err-amount : goal.returns-in_err-amount
unfolding sum_of
returns-in_err-amount c =
    let no = c.in_err-amount.ensures in
    handed_none c.from_residual.result c.from_residual.ensures.1 _ no.value ∙ sum_0 _ _ _ (sym (rw c.word.ensures at c.read_integer.ensures) ∙ no.ok_part)

pub returns-in_err-least : goal.returns-in_err-least
unfolding sum_of
returns-in_err-least c =
    let no = c.in_err-least.ensures in
    handed_none c.from_residual-in_err-least.result c.from_residual-in_err-least.ensures.1 _ no.value
    ∙ sum_1 _ _ _ c.in_ok-amount.amount (sym (rw c.word.ensures at c.read_integer.ensures) ∙ c.in_ok-amount.ensures.ok_part) (sym c.bound-low.ensures ∙ no.ok_part)

pub returns-in_err-greatest : goal.returns-in_err-greatest
unfolding sum_of
returns-in_err-greatest c =
    let no = c.in_err-greatest.ensures in
    handed_none c.from_residual-in_err-greatest.result c.from_residual-in_err-greatest.ensures.1 _ no.value
    ∙ sum_2 _ _ _ c.in_ok-amount.amount c.in_ok-least.least (sym (rw c.word.ensures at c.read_integer.ensures) ∙ c.in_ok-amount.ensures.ok_part) (sym c.bound-low.ensures ∙ c.in_ok-least.ensures.ok_part) (sym c.bound-high.ensures ∙ no.ok_part)

pub returns : goal.returns
unfolding sum_of
returns c =
    sum_3 _ _ _ c.in_ok-amount.amount c.in_ok-least.least c.in_ok-greatest.greatest (sym (rw c.word.ensures at c.read_integer.ensures) ∙ c.in_ok-amount.ensures.ok_part) (sym c.bound-low.ensures ∙ c.in_ok-least.ensures.ok_part) (sym c.bound-high.ensures ∙ c.in_ok-greatest.ensures.ok_part)
