use Rattle.commands.specs.ParsePromises.{refusal_number}
use Rattle.commands.proofs.Computing.{computing}
use Rattle.commands.proofs.refusal.line.Goals as goal

-- The line of each is computed.
pub returns-in-Protocol : goal.returns-in-Protocol
unfolding computing refusal_number
returns-in-Protocol c = rw c.in-Protocol.is

pub returns-in-ClockOutOfRange : goal.returns-in-ClockOutOfRange
unfolding computing refusal_number
returns-in-ClockOutOfRange c = rw c.in-ClockOutOfRange.is

pub returns-in-UnknownCommand : goal.returns-in-UnknownCommand
unfolding computing refusal_number
returns-in-UnknownCommand c = rw c.in-UnknownCommand.is

pub returns-in-WrongArgumentCount : goal.returns-in-WrongArgumentCount
unfolding computing refusal_number
returns-in-WrongArgumentCount c = rw c.in-WrongArgumentCount.is

pub returns-in-TooLong : goal.returns-in-TooLong
unfolding computing refusal_number
returns-in-TooLong c = rw c.in-TooLong.is

pub returns-in-Syntax : goal.returns-in-Syntax
unfolding computing refusal_number
returns-in-Syntax c = rw c.in-Syntax.is

pub returns-in-NotInteger : goal.returns-in-NotInteger
unfolding computing refusal_number
returns-in-NotInteger c = rw c.in-NotInteger.is

pub returns-in-InvalidVersion : goal.returns-in-InvalidVersion
unfolding computing refusal_number
returns-in-InvalidVersion c = rw c.in-InvalidVersion.is

pub returns-in-InvalidExpireTime : goal.returns-in-InvalidExpireTime
unfolding computing refusal_number
returns-in-InvalidExpireTime c = rw c.in-InvalidExpireTime.is

pub returns-in-StaleVersion : goal.returns-in-StaleVersion
unfolding computing refusal_number
returns-in-StaleVersion c = rw c.in-StaleVersion.is

pub returns-in-HashNotInteger : goal.returns-in-HashNotInteger
unfolding computing refusal_number
returns-in-HashNotInteger c = rw c.in-HashNotInteger.is

pub returns-in-SumOverflow : goal.returns-in-SumOverflow
unfolding computing refusal_number
returns-in-SumOverflow c = rw c.in-SumOverflow.is

pub returns-in-VersionOverflow : goal.returns-in-VersionOverflow
unfolding computing refusal_number
returns-in-VersionOverflow c = rw c.in-VersionOverflow.is

pub returns-in-StoreFull : goal.returns-in-StoreFull
unfolding computing refusal_number
returns-in-StoreFull c = rw c.in-StoreFull.is
