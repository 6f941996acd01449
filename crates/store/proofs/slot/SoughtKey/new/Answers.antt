use Rattle.wire.proofs.ByteLaws.{bytes_intro}
use Rattle.store.proofs.slot.SoughtKey.new.Goals as goal

pub invariant_of-result : goal.invariant_of-result
invariant_of-result c = (bytes_intro c.args.key.now (λ i. (c.type_inv.key i).fits), c.word_padded.ensures, c.word_padded-2.ensures)
