use borrow.Author.Rules.{rules}
use Rattle.store.specs.Store.{decode}
use Rattle.commands.proofs.Answers.{version_missing, key_missing}
use Rattle.commands.proofs.answer.no_version.Goals as goal

pub returns-then-key_exists : goal.returns-then-key_exists
returns-then-key_exists c = version_missing c.args.time c.args.key.now (decode c.args.bytes.now).slots c.key_exists.ensures c.if-key_exists.true

pub returns : goal.returns
returns c = key_missing c.args.time c.args.key.now (decode c.args.bytes.now).slots c.key_exists.ensures (search rules)
