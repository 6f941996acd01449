use mathlib.Core.Path.{sym, ◌∙◌}
use Rattle.feeder.proofs.Absorbing.{absorbed_record, absorbed_none}
use Rattle.feeder.proofs.Feeder.absorb.Goals as goal

pub returns-in-Record : goal.returns-in-Record
returns-in-Record c =
    absorbed_record _ _ c.requires.count_value c.offer-offered.ensures _ _ (sym c.in-Record.is ∙ c.first_stop.ensures)
    c.args.store.now c.args.reply.now c.complete-done.ensures c.forget.ensures

pub returns-in-Rest : goal.returns-in-Rest
returns-in-Rest c =
    absorbed_none _ _ c.requires.count_value c.offer-offered.ensures _ (sym c.in-Rest.is ∙ c.first_stop.ensures)
    c.args.store.now c.args.reply.now c.keep.ensures
