use mathlib.Core.Path.{sym, ◌∙◌}
use Rattle.commands.proofs.Acts.{after_look, places_nothing, may_place, places}
use Rattle.commands.proofs.act.place.Goals as goal

pub returns-in_default : goal.returns-in_default
returns-in_default c = places_nothing c.args.bytes.now c.args.time _ c.requires.1 (after_look c.args.time c.args.bytes.now c.args.key.now c.args.field.now c.requires.0 (sym c.in_default.is ∙ c.slot_for.ensures))

pub put-requires : goal.put-requires
put-requires c = may_place c.args.bytes.now c.args.time _ c.requires.1 c.in-Some.i (after_look c.args.time c.args.bytes.now c.args.key.now c.args.field.now c.requires.0 (sym c.in-Some.is ∙ c.slot_for.ensures)) c.requires.2

pub returns-in-Some : goal.returns-in-Some
returns-in-Some c = places c.args.bytes.now c.args.time _ c.requires.1 c.in-Some.i (after_look c.args.time c.args.bytes.now c.args.key.now c.args.field.now c.requires.0 (sym c.in-Some.is ∙ c.slot_for.ensures)) c.put.ensures
