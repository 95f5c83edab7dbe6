-- What is printed is parsed back: roots, and what is written of attributes and of locations that are kept.
pub mod AttrBack
pub mod KeptBack
pub mod RootBack
pub mod RootResolves
pub mod WholeRoot
