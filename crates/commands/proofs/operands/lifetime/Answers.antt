use Rattle.std.specs.Prelude.{Some}
use mathlib.Core.Path.{ap, ◌∙◌}
use Rattle.store.specs.Layout.{time_limit}
use Rattle.commands.proofs.Handing.{handed_none}
use Rattle.commands.proofs.OperandWords.{natural_value, natural_refused, lifetime_none, lifetime_keep, lifetime_refused, lifetime_until}
use Rattle.commands.proofs.operands.lifetime.Goals as goal

pub returns-in_default : goal.returns-in_default
returns-in_default c = lifetime_none _ c.args.time c.in_default.is

pub returns-in_default-option : goal.returns-in_default-option
returns-in_default-option c = lifetime_keep _ c.args.time (c.in-Some.is ∙ ap Some c.in_default-option.is)

pub returns-in_err-n : goal.returns-in_err-n
returns-in_err-n c =
    let no = c.in_err-n.ensures in
    handed_none c.from_residual.result c.from_residual.ensures.1 _ no.value
    ∙ lifetime_refused _ c.args.time (c.in-Some.is ∙ ap Some c.in-Expires.is) (natural_refused time_limit c.word.ensures c.read_natural-read.ensures no.ok_part)

pub instant-requires : goal.instant-requires
instant-requires c = ((natural_value time_limit c.word.ensures c.read_natural-read.ensures c.in_ok-n.n c.in_ok-n.ensures.ok_part).1, c.requires)

pub returns : goal.returns
returns c = lifetime_until _ c.args.time (c.in-Some.is ∙ ap Some c.in-Expires.is) c.in_ok-n.n (natural_value time_limit c.word.ensures c.read_natural-read.ensures c.in_ok-n.n c.in_ok-n.ensures.ok_part).0 c.instant.ensures
