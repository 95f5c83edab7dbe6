-- The promises to a caller about a root, an operation in it, and its section.
pub use Rattle.irtext_grammar.specs.Promises.Supported
pub use Rattle.irtext_grammar.specs.Promises.Section
pub use Rattle.irtext_grammar.specs.Promises.Root
pub use Rattle.irtext_grammar.specs.Promises.KeptRoot
pub use Rattle.irtext_grammar.specs.ContextParts
pub use Rattle.irtext_grammar.specs.Promises.PrintedBack
pub use Rattle.irtext_grammar.specs.Promises.LocationsBack
pub use Rattle.irtext_grammar.specs.Promises.ErrorCauses
pub use Rattle.irtext_names.specs.Promises
pub use Rattle.irtext_names.specs.Held
pub use Rattle.irtext_names.specs.OnlyNew
pub use Rattle.irtext_names.specs.Alone
pub use Rattle.irtext_parse_root.specs.Whole
pub use Rattle.irtext_parse_root.specs.AnyState
pub use Rattle.irtext_parse_root.specs.Parses
pub use Rattle.pliron_text.specs.PrintedRoot
pub use Rattle.pliron_text.specs.Calls
