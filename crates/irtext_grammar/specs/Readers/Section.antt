-- For callers: what a text is to the parser of the location in a section's entry.
use Rattle.std.specs.Prelude.{Option, Some, None, codes}
use Rattle.irtext_base.specs.Text.{Text, begins}
use Rattle.irtext_base.specs.Reading.{the}
use Rattle.irtext_base.specs.Answers.{Outcome}
use Rattle.irtext_base.specs.Locations.{AttrView}
use Rattle.irtext_base.specs.Paths.{Written}
use Rattle.irtext_grammar.specs.Readers.Locations.{location_at}
use Rattle.irtext_grammar.specs.Readers.Positions.{space_at, spaced_at}
use Rattle.irtext_tokens.specs.Tokens.{word}
use Rattle.irtext_tokens.specs.Infix.{nothing, either, ◌▷◌, ◌▶◌, ◌⇒◌}

module _ {A : Type 0} (attr : Text → Outcome (AttrView A)) where
  -- the location of an entry if `@` comes next; otherwise none
  abbrev pub entry_location_at : Text → Outcome (Option (Written A))
  entry_location_at = either (begins (the 64))
      (word (codes "@[") ▷ space_at ▷ location_at attr ▶ λ l. spaced_at (codes "]") ▷ word (codes ",") ▷ space_at ⇒ λ _. Some l)
      (nothing None)
