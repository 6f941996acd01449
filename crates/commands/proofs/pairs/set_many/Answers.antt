use Prim.Native.Nat.{◌≤◌}
use native.Mathlib.Omega.{arith}
use lib.ListN.{length}
use Rattle.wire.specs.Bytes.{text}
use Rattle.wire.specs.Words.{words_most}
use Rattle.wire.specs.Replies.{line}
use Rattle.commands.proofs.FieldDeeds.{may_refuse}
use Rattle.commands.proofs.PairsDone.{many_over, many_full, many_placing, many_done}
use Rattle.commands.proofs.FieldLoops.{each_field}
use Rattle.commands.proofs.pairs.set_many.Goals as goal

pub put_error-requires : goal.put_error-requires
put_error-requires c = may_refuse _ (omega (arith, c.requires.0.room))

pub put_error-requires-then-is_full : goal.put_error-requires-then-is_full
put_error-requires-then-is_full c = may_refuse _ (omega (arith, c.requires.0.room))

pub place_pairs-requires : goal.place_pairs-requires
place_pairs-requires c = let ws = c.args.pairs.now in let few : length ws ≤ words_most = omega (arith, c.requires.0.few) in (many_placing _ _ ws _ (rw each_field at c.sweep-hints.ensures) few c.survey_pairs-survey.ensures c.in-Ok.is c.requires.1)

pub returns-in-Err : goal.returns-in-Err
returns-in-Err c = let ws = c.args.pairs.now in let few : length ws ≤ words_most = omega (arith, c.requires.0.few) in many_over _ _ ws _ (rw each_field at c.sweep-hints.ensures) few c.survey_pairs-survey.ensures c.in-Err.is c.put_error.ensures

pub returns-then-is_full : goal.returns-then-is_full
returns-then-is_full c = let ws = c.args.pairs.now in let few : length ws ≤ words_most = omega (arith, c.requires.0.few) in many_full _ _ ws _ (rw each_field at c.sweep-hints.ensures) few c.survey_pairs-survey.ensures c.in-Ok.is c.is_full.ensures c.if-is_full.true c.put_error-then-is_full.ensures

pub returns-else-is_full : goal.returns-else-is_full
unfolding line text
returns-else-is_full c = let ws = c.args.pairs.now in let few : length ws ≤ words_most = omega (arith, c.requires.0.few) in many_done _ _ ws _ (rw each_field at c.sweep-hints.ensures) few c.survey_pairs-survey.ensures c.in-Ok.is c.is_full.ensures c.if-is_full.false c.place_pairs.ensures c.put_line.ensures
