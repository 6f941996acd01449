use Prim.Native.Nat.{◌≤◌, ◌<◌}
use native.Mathlib.Omega.{arith}
use borrow.Author.Tests.{lt-ltb, le-ltb}
use Rattle.store.specs.Promises.{run_start}
use Rattle.store.proofs.slot.run_start.Goals as goal

pub returns-then-w-lt-KEY_WORDS : goal.returns-then-w-lt-KEY_WORDS
unfolding run_start
returns-then-w-lt-KEY_WORDS c = let early : c.args.w < 2 = omega (arith, c.if-w-lt-KEY_WORDS.true) in rw (lt-ltb c.args.w 2 early)

pub returns : goal.returns
unfolding run_start
returns c = let late : 2 ≤ c.args.w = omega (arith, c.if-w-lt-KEY_WORDS.false) in rw (le-ltb c.args.w 2 late)
