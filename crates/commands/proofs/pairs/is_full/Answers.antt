use mathlib.Core.Path.{refl, sym}
use native.Mathlib.Omega.{arith}
use borrow.Author.Tests.{le-ltb}
use Rattle.store.specs.Store.{decode}
use Rattle.commands.specs.Execute.{room}
use Rattle.commands.proofs.pairs.is_full.Goals as goal

pub returns-then-n-eq0 : goal.returns-then-n-eq0
returns-then-n-eq0 c = sym (le-ltb (room c.args.time (decode c.args.bytes.now).slots) c.args.n (omega (arith, c.if-n-eq0.true)))

pub returns : goal.returns
unfolding room
returns c = rw c.room.ensures refl
