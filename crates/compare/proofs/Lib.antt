-- The laws of two stores side by side.
pub mod Computing
pub mod Examples
pub mod LiveEntries
pub mod MarkLaws
pub mod CallChecks
pub mod LineTexts
pub mod ListingSize
pub mod ListedLines
pub mod SwappedLines
pub mod ListingTells
pub mod NewerPlaces
pub mod Exactly
pub mod Demands
