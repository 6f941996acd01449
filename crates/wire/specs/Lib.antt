-- What bytes spell: numbers, plain integers, the words of a command, the forms of a reply.
pub mod Lists
pub mod Checks
pub mod Bytes
pub mod Integers
pub mod Words
pub mod Replies
pub mod Promises
