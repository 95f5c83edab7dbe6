-- The definitions that the law "a printed root parses back" rests on, in reading order: texts and what they parse as, trees, names,
-- graphs, what is printed of them, what a context holds, and the promises to a caller. Then what functions promise one another:
-- streams, faults and causes, what a parser returns, what a printer appends.
pub mod Alike
pub mod Calls
pub mod Fills
pub mod Misfits
pub mod Older
pub mod PrintsAsBefore
pub mod PrintedRoot
pub mod Promises
pub mod Unprinted
pub use Rattle.irtext_base.specs.Answers
pub use Rattle.irtext_base.specs.Causes
pub use Rattle.irtext_base.specs.Faults
pub use Rattle.irtext_base.specs.Format
pub use Rattle.irtext_base.specs.Own
pub use Rattle.irtext_base.specs.Places
pub use Rattle.irtext_base.specs.Reading
pub use Rattle.irtext_base.specs.Stream
pub use Rattle.irtext_base.specs.Text
pub use Rattle.irtext_grammar.specs.Contexts
pub use Rattle.irtext_grammar.specs.Grammar
pub use Rattle.irtext_grammar.specs.Graphs
pub use Rattle.irtext_grammar.specs.Names
pub use Rattle.irtext_grammar.specs.Spelling
pub use Rattle.irtext_grammar.specs.Readers
pub use Rattle.irtext_print.specs.Errors
pub use Rattle.irtext_print.specs.Printers
pub use Rattle.irtext_print_ir.specs.Errors as ErrorTexts
pub use Rattle.irtext_print_ir.specs.Printers as Printables
