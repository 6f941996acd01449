use Rattle.store.proofs.Finding.{Walk, walk_counted, walk_bytes, seek_from, seek_finds, seek_goes_on, seek_ends}
use Rattle.store.proofs.find.lowest.Goals as goal

pub loop-i-init : goal.loop-i-init
loop-i-init g c =
    let w : Walk c.args.store.now c.slots-i-end.result = record { well = c.requires.store_value; slots = c.slots-i-end.ensures } in
    (w, λ p h. seek_from p w)

pub of-requires : goal.of-requires
of-requires g c = walk_counted c.loop-i.invariant.0 c.loop-i-test.true

pub test-requires : goal.test-requires
test-requires g c = c.requires.test_takes _ (walk_bytes c.loop-i.invariant.0 c.loop-i-test.true c.of.ensures)

pub returns-then-test : goal.returns-then-test
returns-then-test g c = λ p h.
    seek_finds (c.loop-i.invariant.1 p h) c.loop-i-test.true c.of.ensures
    (h _ c.test.result (walk_bytes c.loop-i.invariant.0 c.loop-i-test.true c.of.ensures) c.test.ensures) c.if-test.true

pub loop-i-preserved : goal.loop-i-preserved
loop-i-preserved g c = (
  c.loop-i.invariant.0,
  λ p h. seek_goes_on (c.loop-i.invariant.1 p h) c.loop-i-test.true c.of.ensures
      (h _ c.test.result (walk_bytes c.loop-i.invariant.0 c.loop-i-test.true c.of.ensures) c.test.ensures) c.if-test.false,
)

pub returns : goal.returns
returns g c = λ p h. seek_ends (c.loop-i.invariant.1 p h) c.loop-i-test.false
