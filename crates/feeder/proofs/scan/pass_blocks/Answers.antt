use Rattle.std.proofs.Common.{rules}
use Rattle.feeder.proofs.ScanStops.{pass_block}
use Rattle.feeder.proofs.scan.pass_blocks.Goals as goal

pub loop-i-preserved : goal.loop-i-preserved
loop-i-preserved c =
    pass_block _ _ _ c.loop-i.invariant c.loop-i-test.true
    (c.is_unmarked.ensures (search rules))
