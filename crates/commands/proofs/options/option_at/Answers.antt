use mathlib.Core.Path.{refl, sym, ◌∙◌}
use Rattle.commands.proofs.Handing.{handed_none}
use Rattle.commands.proofs.OptionScanning.{takes_any, option_unknown, option_barred, option_bare, option_short, option_found}
use Rattle.commands.proofs.options.option_at.Goals as goal

pub returns-in_err-kind : goal.returns-in_err-kind
returns-in_err-kind c =
    let no = c.in_err-kind.ensures in
    rw (handed_none c.from_residual.result c.from_residual.ensures.1 _ no.value)
    (refl, option_unknown _ _ c.args.i refl c.requires c.word.ensures _ c.option_named.ensures no.ok_part)

pub returns-then-not-contains : goal.returns-then-not-contains
returns-then-not-contains c = (refl, option_barred _ _ c.args.i refl c.requires c.word.ensures _ c.option_named.ensures c.in_ok-kind.kind c.in_ok-kind.ensures.ok_part c.group.ensures (c.contains.ensures.value ∙ takes_any _ _) c.if-not-contains.true-raw)

pub returns-then-not-takes_operand : goal.returns-then-not-takes_operand
returns-then-not-takes_operand c = option_bare _ _ c.args.i refl c.requires c.word.ensures _ c.option_named.ensures c.in_ok-kind.kind c.in_ok-kind.ensures.ok_part c.group.ensures (c.contains.ensures.value ∙ takes_any _ _) c.if-not-contains.false-raw c.takes_operand.ensures c.if-not-takes_operand.true-raw

pub returns-in_default : goal.returns-in_default
returns-in_default c = (refl, option_short _ _ c.args.i (sym c.len.ensures.value) (rw c.len.ensures.value c.requires) c.word.ensures _ c.option_named.ensures c.in_ok-kind.kind c.in_ok-kind.ensures.ok_part c.group.ensures (c.contains.ensures.value ∙ takes_any _ _) c.if-not-contains.false-raw c.takes_operand.ensures c.if-not-takes_operand.false-raw c.next_word.ensures c.in_default.is)

pub returns : goal.returns
returns c = option_found _ _ c.args.i (sym c.len.ensures.value) (rw c.len.ensures.value c.requires) c.word.ensures _ c.option_named.ensures c.in_ok-kind.kind c.in_ok-kind.ensures.ok_part c.group.ensures (c.contains.ensures.value ∙ takes_any _ _) c.if-not-contains.false-raw c.takes_operand.ensures c.if-not-takes_operand.false-raw c.next_word.ensures c.in-Some.last c.in-Some.is
