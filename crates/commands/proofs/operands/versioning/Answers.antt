use mathlib.Core.Path.{◌∙◌}
use Rattle.store.specs.Layout.{version_most}
use Rattle.commands.specs.TablePromises.{version_meant}
use Rattle.commands.proofs.Handing.{handed_none}
use Rattle.commands.proofs.OperandWords.{natural_value, natural_refused, versioning_none, versioning_refused, versioning_read}
use Rattle.commands.proofs.operands.versioning.Goals as goal

pub returns-in_default : goal.returns-in_default
returns-in_default c = versioning_none _ c.in_default.is

pub returns-in_err-n : goal.returns-in_err-n
returns-in_err-n c =
    let no = c.in_err-n.ensures in
    handed_none c.from_residual.result c.from_residual.ensures.1 _ no.value
    ∙ versioning_refused _ c.in-Some.is (natural_refused version_most c.word.ensures c.read_natural-read.ensures no.ok_part)

pub returns-in-Match : goal.returns-in-Match
unfolding version_meant
returns-in-Match c = rw c.in-Match.is at (versioning_read _ c.in-Some.is c.in_ok-n.n (natural_value version_most c.word.ensures c.read_natural-read.ensures c.in_ok-n.n c.in_ok-n.ensures.ok_part).0)

pub returns-in-Exactly : goal.returns-in-Exactly
unfolding version_meant
returns-in-Exactly c = rw c.in-Exactly.is at (versioning_read _ c.in-Some.is c.in_ok-n.n (natural_value version_most c.word.ensures c.read_natural-read.ensures c.in_ok-n.n c.in_ok-n.ensures.ok_part).0)

pub returns-in-Above : goal.returns-in-Above
unfolding version_meant
returns-in-Above c = rw c.in-Above.is at (versioning_read _ c.in-Some.is c.in_ok-n.n (natural_value version_most c.word.ensures c.read_natural-read.ensures c.in_ok-n.n c.in_ok-n.ensures.ok_part).0)
