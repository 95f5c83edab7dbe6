-- What the parsed entries represent, and what parsing a section does
pub mod OnlyPaths
pub mod Said
pub mod Entries
pub mod Section
pub mod Items
