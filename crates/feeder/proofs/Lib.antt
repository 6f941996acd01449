-- The laws of the feeder; Demands is the page to open first.

-- The three demands.
pub mod Demands
-- The definitions compute: the worked streams.
pub mod Computing
pub mod Examples
-- The record and a stream's division: what more bytes and fewer bytes do to them.
pub mod RecordHead
pub mod StreamDivide
pub mod StreamParts
pub mod FirstRecord
pub mod RecordRead
-- States, one absorbing call, and lists of them: the stream's half of demand 3.
pub mod StateLeft
pub mod OneAbsorbing
pub mod ListOfPieces
-- Refusals, and lists of feeding calls: the records' half of demand 3, and both together.
pub mod Refusals
pub mod ListOfCalls
-- The code: what its tests tell, where its scan stops, what it joins and leaves waiting, one call.
pub mod RecordTests
pub mod ScanStops
pub mod Absorbing
pub mod OneFeed
