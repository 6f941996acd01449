use Rattle.std.proofs.Common.{rules}
use Rattle.wire.proofs.ByteLaws.{bytes_intro}
use Rattle.feeder.proofs.StateLeft.{left_many, left_dirty, left_clean}
use Rattle.feeder.proofs.Feeder.is_left.Goals as goal

pub returns-then-self-gt-WAITING_MOST : goal.returns-then-self-gt-WAITING_MOST
returns-then-self-gt-WAITING_MOST c = left_many c.args.self.now.waiting c.args.self.now.count c.if-self-gt-WAITING_MOST.true

pub returns-then-not-all_zero : goal.returns-then-not-all_zero
returns-then-not-all_zero c =
    left_dirty c.args.self.now.waiting c.args.self.now.count (bytes_intro c.args.self.now.waiting (λ i. search rules))
    (search rules) c.if-self-gt-WAITING_MOST.false c.if-not-all_zero.ensures

pub returns : goal.returns
returns c =
    left_clean c.args.self.now.waiting c.args.self.now.count (bytes_intro c.args.self.now.waiting (λ i. search rules))
    (search rules) c.if-self-gt-WAITING_MOST.false c.if-not-all_zero.ensures c.all_wait.ensures
