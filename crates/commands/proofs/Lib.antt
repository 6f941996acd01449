-- The laws of the commands, for the crates above.
-- ---- computing with the definitions, and the paper's worked cases
pub mod Computing
pub mod Examples
-- ---- one record on a store: how it goes, what a refusal leaves, and what the demands say of it
pub mod Went
pub mod Refused
pub mod Exactly
pub mod Sweep
pub mod Clock
pub mod Full
pub mod Room
pub mod Others
pub mod Writes
pub mod Keeps
pub mod Replies
pub mod Fit
pub mod SomeReply
-- ---- an EXHMSET writes all of its pairs or none
pub mod Names
pub mod Ready
pub mod AllOrNone
-- ---- what VER, ABS and GT do: a version that only moves forward, a version that is checked
pub mod VersionOption
pub mod GivenVersion
pub mod Forward
pub mod VersionCheck
-- ---- tables: the code's rows are the definitions' own
pub mod TableRows
-- ---- reading a command: its checks, the options one after the other, the families
pub mod Handing
pub mod ParseChecks
pub mod Sound
pub mod OptionScanning
pub mod OptionsOneEach
pub mod OperandWords
pub mod CountTallies
pub mod Parsing
pub mod ParseFamilies
pub mod ParseFromBytes
-- ---- doing a command on one field
pub mod Acts
pub mod VersionPlans
pub mod Settling
pub mod FieldDeeds
pub mod OneField
pub mod Answers
-- ---- doing a command on the fields of a key
pub mod ListedSlots
pub mod FieldSweeps
pub mod FieldLoops
pub mod KeyDone
pub mod PairOverflow
pub mod PairLoops
pub mod PairsDone
-- ---- from what is done to the record's bytes
pub mod ExecuteDone
