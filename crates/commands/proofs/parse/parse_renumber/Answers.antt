use Rattle.store.specs.Layout.{version_most}
use Rattle.commands.proofs.Handing.{handed_none}
use Rattle.commands.proofs.OperandWords.{natural_value, natural_refused}
use Rattle.commands.proofs.ParseFamilies.{renumber_unread, renumber_done}
use Rattle.commands.proofs.parse.parse_renumber.Goals as goal

pub returns-in_err-n : goal.returns-in_err-n
returns-in_err-n c =
    let no = c.in_err-n.ensures in
    λ time. rw (handed_none c.from_residual.result c.from_residual.ensures.1 _ no.value) (renumber_unread time _ (natural_refused version_most c.word.ensures c.read_natural.ensures no.ok_part))

pub returns : goal.returns
returns c = λ time. renumber_done time _ c.in_ok-n.n (natural_value version_most c.word.ensures c.read_natural.ensures c.in_ok-n.n c.in_ok-n.ensures.ok_part).0
