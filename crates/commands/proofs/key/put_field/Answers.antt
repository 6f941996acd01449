use Rattle.commands.specs.Promises.{answer_about}
use Rattle.commands.proofs.key.put_field.Goals as goal

pub returns : goal.returns
unfolding answer_about
returns c = c.put_answer.ensures
