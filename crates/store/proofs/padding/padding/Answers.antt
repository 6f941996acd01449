use mathlib.Core.Path.{◌≡◌, sym}
use Prim.Native.Nat.{◌+◌, ◌*◌, max}
use native.Mathlib.Omega.{arith}
use Rattle.wire.proofs.ByteLaws.{bytes_intro}
use Rattle.store.proofs.SlotChecks.{beyond_whole, beyond_end, beyond_word, beyond_more}
use Rattle.store.proofs.padding.padding.Goals as goal
use Rattle.store.proofs.padding.padding.Goals.{then-used-w, else-used-w}

pub returns-then-used-size : goal.returns-then-used-size
returns-then-used-size c = rw c.if-used-size.true (sym (beyond_whole c.args.at c.args.size c.args.t.now))

pub returns-then-size-used : goal.returns-then-size-used
returns-then-size-used c =
    beyond_end c.args.at c.args.size c.args.used c.args.t.now (bytes_intro c.args.t.now c.fits-t) (omega arith) (omega arith) c.word.result c.word.ensures

pub loop-w-init : goal.loop-w-init
loop-w-init c =
    let e : max (c.args.used + 8) (8 * 1) ≡ c.args.used + 8 = omega arith in
    rw e (beyond_word c.args.at c.args.used c.args.t.now c.word-bits.result c.word-bits.ensures)

pub loop-w-preserved : goal.loop-w-preserved
loop-w-preserved c =
    elim c.if-used-w.branch [
      | then-used-w w ↦
          let e : max (c.args.used + 8) (8 * (c.loop-w.w + 1)) ≡ 8 * c.loop-w.w + 8 = omega arith in
          rw (e, w.bits-is) (beyond_more c.args.at c.args.used (8 * c.loop-w.w) 8 (max (c.args.used + 8) (8 * c.loop-w.w)) c.args.t.now (omega arith) (omega arith) (omega arith) _ _ c.loop-w.invariant w.word-bits-then-used-w.ensures)
      | else-used-w w ↦
          let e : max (c.args.used + 8) (8 * (c.loop-w.w + 1)) ≡ max (c.args.used + 8) (8 * c.loop-w.w) = omega arith in
          rw (e, w.bits-is) c.loop-w.invariant
    ]

pub returns : goal.returns
returns c =
    let e : max (c.args.used + 8) (8 * c.loop-w.w) ≡ c.args.size = omega arith in
    rw e at c.loop-w.invariant
