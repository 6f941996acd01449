-- The feeder: the record, a stream's division, its whole meaning and its parts, the state, absorbing, lists of absorbing calls, one feeding call, lists
-- of feeding calls; then what the functions promise, and worked streams.
pub mod Record
pub mod Stream
pub mod Parts
pub mod State
pub mod Absorb
pub mod Pieces
pub mod Feed
pub mod Calls
pub mod Promises
pub mod Examples
