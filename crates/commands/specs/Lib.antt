-- The commands: the table of refusals, what a command says, parsing by stages, what each command does, the record's whole effect, and what the
-- claims speak of.
pub mod Refusal
pub mod Command
pub mod Options
pub mod Parse
pub mod Effect
pub mod Execute
pub mod Claims
pub mod TablePromises
pub mod ParsePromises
pub mod Promises
pub mod Examples
