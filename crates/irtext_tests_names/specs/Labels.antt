-- Worked roots whose blocks have labels.
pub mod Demo
pub mod Graphs
pub mod Trees
