use mathlib.Core.Path.{◌≡◌, ◌∙◌}
use Prim.Native.Nat.{◌+◌, ◌-◌}
use native.Mathlib.Omega.{arith}
use Rattle.store.proofs.Encode.{decode_valid}
use Rattle.store.proofs.Finding.{walk_inside, skips_none, skips_on}
use Rattle.store.proofs.find.next_candidate.Goals as goal

pub overflow_sub-last : goal.overflow_sub-last
overflow_sub-last c = omega (arith, c.slots-last.ensures, (decode_valid c.args.store.now c.requires).least)

pub loop-i-init : goal.loop-i-init
loop-i-init c =
    let e : c.slots-last.result - 1 + 1 ≡ c.slots-last.result = omega (arith, c.slots-last.ensures, (decode_valid c.args.store.now c.requires).least) in
    (record { well = c.requires; slots = e ∙ c.slots-last.ensures }, skips_none _ _ _)

pub bytes-requires : goal.bytes-requires
bytes-requires c = walk_inside c.loop-i.invariant.0 (omega (arith, c.loop-i-test.true))

pub bytes-requires-in-loop-i : goal.bytes-requires-in-loop-i
bytes-requires-in-loop-i c = walk_inside c.loop-i.invariant.0 (omega (arith, c.loop-i-test.true))

pub returns-then-fingerprint_at-fingerprint-2 : goal.returns-then-fingerprint_at-fingerprint-2
returns-then-fingerprint_at-fingerprint-2 c =
    let more = c.loop-i-test.true in skips_on c.loop-i.invariant.0 (omega (arith, more)) c.bytes.ensures c.loop-i.invariant.1 c.fingerprint_at.ensures c.if-fingerprint_at-fingerprint.false

pub loop-i-preserved : goal.loop-i-preserved
loop-i-preserved c =
    let more = c.loop-i-test.true in let one = skips_on c.loop-i.invariant.0 (omega (arith, more)) c.bytes.ensures c.loop-i.invariant.1 c.fingerprint_at.ensures c.if-fingerprint_at-fingerprint.false in
    let e : c.loop-i.i + 1 + 1 ≡ c.loop-i.i + 2 = omega arith in
    (c.loop-i.invariant.0, rw e at (skips_on c.loop-i.invariant.0 (omega (arith, more)) c.bytes-in-loop-i.ensures one c.fingerprint_at-in-loop-i.ensures c.if-fingerprint_at-fingerprint-2.false))

pub returns-then-fingerprint_at-fingerprint : goal.returns-then-fingerprint_at-fingerprint
returns-then-fingerprint_at-fingerprint c = c.loop-i.invariant.1

pub returns : goal.returns
returns c = c.loop-i.invariant.1
