use Rattle.wire.specs.Bytes.{part}
use Rattle.store.specs.Promises.{spread_of, name_hash}
use Rattle.store.proofs.duplicates.name_hash.Goals as goal

pub returns : goal.returns
unfolding name_hash spread_of part
returns c = rw (c.key_sum.ensures.value, c.field_sum.ensures.value)
