use native.Mathlib.Omega.{arith}
use Rattle.store.specs.Store.{holds}
use Rattle.store.proofs.Finding.{seek_begins, seek_skips, walk_counted, seek_finds, seek_goes_on, seek_ends}
use Rattle.store.proofs.find.named.Goals as goal

pub loop-i-init : goal.loop-i-init
loop-i-init c =
    let k = c.args.key.now in let f = c.args.field.now in seek_skips k f (seek_begins (holds k f) c.args.store.now c.requires c.slots-count.ensures) c.fingerprint_of-fingerprint.ensures c.next_candidate-i.ensures

pub of-requires : goal.of-requires
of-requires c = walk_counted c.loop-i.invariant.walk c.loop-i-test.true

pub holds_with-requires : goal.holds_with-requires
holds_with-requires c = c.fingerprint_of-fingerprint.ensures

pub returns-then-holds_with : goal.returns-then-holds_with
returns-then-holds_with c = seek_finds c.loop-i.invariant c.loop-i-test.true c.of.ensures c.holds_with.ensures c.if-holds_with.true

pub loop-i-preserved : goal.loop-i-preserved
loop-i-preserved c =
    seek_skips c.args.key.now c.args.field.now
    (seek_goes_on c.loop-i.invariant c.loop-i-test.true c.of.ensures c.holds_with.ensures c.if-holds_with.false)
    c.fingerprint_of-fingerprint.ensures c.next_candidate-i-in-loop-i.ensures

pub returns : goal.returns
returns c = seek_ends c.loop-i.invariant c.loop-i-test.false

pub loop-i-smaller : goal.loop-i-smaller
loop-i-smaller c = omega (arith, c.next_candidate-i-in-loop-i.ensures.later)
