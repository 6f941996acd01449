use Rattle.store.proofs.SlotParts.{fingerprint_words}
use Rattle.store.proofs.slot.fingerprint_of.Goals as goal

pub returns : goal.returns
returns c = fingerprint_words c.args.f.now c.word_padded.result c.word_padded-2.result c.word_padded.ensures c.word_padded-2.ensures
