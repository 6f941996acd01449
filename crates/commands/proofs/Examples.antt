-- The definitions give every row of the paper's worked cases.
use mathlib.Core.Path.{◌≡◌, refl}
use mathlib.Core.List.{map}
use Rattle.commands.specs.Examples.{given, expected, marked_examples, worked_cases, command_cases, change_request_cases}
use Rattle.commands.proofs.Computing.{computing}

-- P1 to P14: each refusal's number and each reply, and what the clock and the two slots then are
pub marked_examples_lem : map given marked_examples ≡ map expected marked_examples
unfolding computing
marked_examples_lem = refl

-- the EXHGETALL example, and the mistakes about commands under "What trainees' programs got away with"
pub worked_cases_lem : map given worked_cases ≡ map expected worked_cases
unfolding computing
worked_cases_lem = refl

-- every command and option of paper 01, every refusal from 11 on
pub command_cases_lem : map given command_cases ≡ map expected command_cases
unfolding computing
command_cases_lem = refl

-- the rows of paper 02
pub change_request_cases_lem : map given change_request_cases ≡ map expected change_request_cases
unfolding computing
change_request_cases_lem = refl
