-- The laws of the store, for the crates above.

-- ---- computing with the definitions
pub mod Computing
-- ---- what a store holds: slots by their number, an entry put in its place, entries taken out, the rule against duplicates
pub mod Slots
pub mod Put
pub mod Without
pub mod Distinct
-- ---- bytes and what they mean: one slot's bytes, all slots', and that encode and decode are each other's inverse
pub mod Pieces
pub mod SlotBytes
pub mod WellSlot
pub mod Encode
pub mod Places
-- ---- the tests of a store's bytes, as the code makes them
pub mod SlotParts
pub mod SlotChecks
pub mod StoreChecks
pub mod BloomFilter
-- ---- two runs compared
pub mod Runs
-- ---- reading and searching
pub mod ReadAt
pub mod Finding
pub mod Comparing
-- ---- changing
pub mod Writing
pub mod Changes
-- ---- what M-103 says of the search, and its rows
pub mod Demands
pub mod Examples
