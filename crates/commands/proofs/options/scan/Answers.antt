use mathlib.Core.Path.{sym, ◌∙◌}
use native.Mathlib.Omega.{arith}
use Rattle.commands.proofs.Handing.{handed}
use Rattle.commands.proofs.OptionScanning.{scanning_begins, scanning_fails, scanning_again, scanning_on, scanning_ends}
use Rattle.commands.proofs.options.scan.Goals as goal

pub loop-i-init : goal.loop-i-init
loop-i-init c = scanning_begins _ _ _

pub option_at-requires : goal.option_at-requires
option_at-requires c = omega arith

pub returns-in_err-found : goal.returns-in_err-found
returns-in_err-found c =
    rw (handed c.from_residual.result c.from_residual.ensures.1) (scanning_fails c.loop-i.invariant (rw c.in_err-found.was at c.option_at.ensures))

pub returns-then-is_given : goal.returns-then-is_given
returns-then-is_given c = scanning_again c.loop-i.invariant c.in_ok-found.ensures (sym c.if-is_given.true ∙ c.is_given.ensures _)

pub overflow_add-i : goal.overflow_add-i
overflow_add-i c = omega (arith, c.in_ok-found.ensures.inside)

pub loop-i-preserved : goal.loop-i-preserved
loop-i-preserved c = scanning_on c.loop-i.invariant c.in_ok-found.ensures (sym c.if-is_given.false ∙ c.is_given.ensures _) _ c.give.ensures

pub returns : goal.returns
returns c = scanning_ends c.loop-i.invariant (sym c.len.ensures.value) c.loop-i-test.false
