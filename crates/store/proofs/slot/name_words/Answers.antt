use Rattle.store.specs.Promises.{name_words}
use Rattle.store.proofs.slot.name_words.Goals as goal

pub returns : goal.returns
unfolding name_words
returns c =
    rw (
      c.word_padded.ensures,
      c.word_padded-2.ensures,
      c.word_padded-3.ensures,
      c.word_padded-4.ensures,
      c.word_padded-5.ensures,
      c.word_padded-6.ensures,
    )
