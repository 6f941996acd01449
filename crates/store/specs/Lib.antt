-- The store in lent bytes: its layout, what it means and which bytes are one, and time.
pub mod Layout
pub mod Store
pub mod Valid
pub mod Time
pub mod Search
pub mod Promises
pub mod Examples
