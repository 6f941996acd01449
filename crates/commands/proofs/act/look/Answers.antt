use mathlib.Core.Path.{sym, ◌∙◌}
use Rattle.commands.proofs.Acts.{sweeps_nothing, found_slot, sweeps_live, sweeps_dead, looked_gone}
use Rattle.commands.proofs.act.look.Goals as goal

pub returns-in_err-i : goal.returns-in_err-i
returns-in_err-i c =
    let named = c.named.ensures in (sweeps_nothing c.args.bytes.now c.requires c.args.key.now c.args.field.now c.args.time (sym c.in_err-i.was ∙ named), c.from_residual.ensures ∙ sym c.in_err-i.was ∙ named)

pub is_live-requires : goal.is_live-requires
is_live-requires c =
    found_slot c.args.bytes.now c.requires c.args.key.now c.args.field.now c.in_ok-i.i (sym c.in_ok-i.was ∙ c.named.ensures)

pub returns-then-is_live : goal.returns-then-is_live
returns-then-is_live c =
    let named = c.named.ensures in (sweeps_live c.args.bytes.now c.requires c.args.key.now c.args.field.now c.in_ok-i.i (sym c.in_ok-i.was ∙ named) c.args.time (sym c.is_live.ensures ∙ c.if-is_live.true), sym c.in_ok-i.was ∙ named)

pub remove-requires : goal.remove-requires
remove-requires c =
    found_slot c.args.bytes.now c.requires c.args.key.now c.args.field.now c.in_ok-i.i (sym c.in_ok-i.was ∙ c.named.ensures)

pub returns : goal.returns
returns c =
    let named = c.named.ensures in let remove = c.remove.ensures in (sweeps_dead c.args.bytes.now c.requires c.args.key.now c.args.field.now c.in_ok-i.i (sym c.in_ok-i.was ∙ named) c.args.time (sym c.is_live.ensures ∙ c.if-is_live.false) remove, looked_gone c.args.bytes.now c.requires c.args.key.now c.args.field.now c.in_ok-i.i (sym c.in_ok-i.was ∙ named) remove)
