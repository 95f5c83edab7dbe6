pub mod Reads
pub mod Names
pub mod Ids
pub mod Orders
pub mod There
pub mod Seen
pub mod Limited
