use native.Mathlib.Omega.{arith}
use Rattle.store.proofs.Finding.{Walk, walk_counted, walk_bytes, count_begins, count_adds, count_goes_on, count_ends}
use Rattle.store.proofs.find.count.Goals as goal
use Rattle.store.proofs.find.count.Goals.{then-test, else-test}

pub loop-i-init : goal.loop-i-init
loop-i-init g c =
    let w : Walk c.args.store.now c.slots-i-end.result = record { well = c.requires.store_value; slots = c.slots-i-end.ensures } in
    (w, omega arith, λ p h. count_begins p c.args.store.now c.requires.store_value c.slots-i-end.ensures)

pub of-requires : goal.of-requires
of-requires g c = walk_counted c.loop-i.invariant.0 c.loop-i-test.true

pub test-requires : goal.test-requires
test-requires g c = c.requires.test_takes _ (walk_bytes c.loop-i.invariant.0 c.loop-i-test.true c.of.ensures)

pub loop-i-preserved : goal.loop-i-preserved
loop-i-preserved g c =
    let slot = walk_bytes c.loop-i.invariant.0 c.loop-i-test.true c.of.ensures in
    elim c.if-test.branch [
      | then-test w ↦ (
        c.loop-i.invariant.0,
        omega arith,
        λ p h. rw w.n-is (count_adds (c.loop-i.invariant.2 p h) c.loop-i-test.true c.of.ensures (h _ c.test.result slot c.test.ensures) w.if-test.true),
      )
      | else-test w ↦ (
        c.loop-i.invariant.0,
        omega arith,
        λ p h. rw w.n-is (count_goes_on (c.loop-i.invariant.2 p h) c.loop-i-test.true c.of.ensures (h _ c.test.result slot c.test.ensures) w.if-test.false),
      )
    ]

pub returns : goal.returns
returns g c = λ p h. count_ends (c.loop-i.invariant.2 p h) c.loop-i-test.false
