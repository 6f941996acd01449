-- Two stores side by side (02, M-102): the listing of their differences, and the newer value of one field.
pub mod Listing
pub mod Newer
pub mod Calls
pub mod Claims
pub mod Examples
pub mod Promises
