use Rattle.compare.specs.Promises.{compared_of}
use Rattle.compare.proofs.listing.compare.Goals as goal

pub returns-in-Ok : goal.returns-in-Ok
unfolding compared_of
returns-in-Ok c = rw c.in-Ok.is at c.list.ensures

pub returns-in-Err : goal.returns-in-Err
unfolding compared_of
returns-in-Err c = rw c.number.ensures (rw c.in-Err.is at c.list.ensures)
