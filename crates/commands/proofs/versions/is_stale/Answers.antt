use Rattle.commands.proofs.VersionPlans.{match_stale, match_zero, above_stale}
use native.Mathlib.Omega.{arith}
use Rattle.commands.proofs.versions.is_stale.Goals as goal

pub returns-then-held-ne0 : goal.returns-then-held-ne0
returns-then-held-ne0 c =
    match_stale c.args.held c.in-Match.is (omega arith) c.if-held-ne0.true

pub returns-else-held-ne0 : goal.returns-else-held-ne0
returns-else-held-ne0 c =
    match_zero c.args.held c.in-Match.is (omega arith) c.if-held-ne0.false

pub returns-in-Above : goal.returns-in-Above
returns-in-Above c = above_stale c.args.held c.in-Above.is
