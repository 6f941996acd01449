-- The laws of numbers and words, for the crates above.

-- ---- computing with the definitions
pub mod Computing
-- ---- lists, tests and answers that may be missing
pub mod Lists
pub mod Options
pub mod Checks
pub mod ByteLoops
-- ---- bytes, digits and integers: numbers low byte first, decimal text read and written, sign and magnitude
pub mod ByteLaws
pub mod IntegerDigits
pub mod IntegerLaws
pub mod IntegerReading
pub mod IntegerSigns
-- ---- the words of a command: the array read and written, and the places of its words
pub mod WordLaws
pub mod WordPlaces
-- ---- replies: their bytes, and laying them in a buffer
pub mod ReplyLaws
pub mod ReplyLaying
pub mod Elements
-- ---- tables of names
pub mod NameRows
