use mathlib.Core.Path.{refl, ◌∙◌}
use Rattle.store.proofs.Encode.{length_decode}
use Rattle.programs.proofs.show_slots.Goals as goal

pub loop-i-init : goal.loop-i-init
loop-i-init g c = (c.slots-i-end.ensures ∙ length_decode c.args.store.now, refl)
