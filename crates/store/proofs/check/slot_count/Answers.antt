use Rattle.store.proofs.StoreChecks.{count_short, count_many, count_uneven, count_right}
use Rattle.store.proofs.check.slot_count.Goals as goal

pub returns-then-size-lt-HEADER_SIZE : goal.returns-then-size-lt-HEADER_SIZE
returns-then-size-lt-HEADER_SIZE c = count_short c.args.size c.if-size-lt-HEADER_SIZE.true

pub returns-then-count-gt-SLOTS_MOST : goal.returns-then-count-gt-SLOTS_MOST
returns-then-count-gt-SLOTS_MOST c = count_many c.args.size c.if-count-gt-SLOTS_MOST.true

pub returns-then-count-size : goal.returns-then-count-size
returns-then-count-size c = count_uneven c.args.size c.if-count-size.true

pub returns : goal.returns
returns c = count_right c.args.size c.if-count-gt-SLOTS_MOST.false c.if-count-size.false
