use mathlib.Core.List.{flatten}
use Rattle.commands.specs.Promises.{answer_about, answers_of}
use Rattle.wire.proofs.Elements.{Going}
use Rattle.commands.proofs.FieldLoops.{answers_from}
use Rattle.commands.proofs.key.put_answers.Given as goal

-- What is left does the same.
abbrev pub invariant-loop-i : goal.invariant-loop-i
invariant-loop-i l =
    Going (flatten (answers_of l.asking.time l.bytes l.key l.asking.question l.fields)) (answers_from (answer_about l.asking.time l.bytes l.key l.asking.question) l.fields l.i) l.initial.out l.out l.at
