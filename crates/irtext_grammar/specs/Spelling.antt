-- The text that is printed of a tree, a graph, a section, a location.
pub mod Spell
pub mod Spellable
pub mod AttrText
pub mod Writable
pub mod PrintedNames
pub mod Section
pub mod Locations
pub mod SectionEntries
