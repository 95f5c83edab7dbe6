pub mod Closing
pub mod Closed
pub mod First
pub mod Located
pub mod Noted
pub mod Texts
