-- Names that are kept once, each under its number.
pub use Rattle.irtext_interner.specs.Interned.{number_of, number_or_next, found_or_last, with_text as with_name, KeepsTexts as KeepsNames, AreDistinct}
