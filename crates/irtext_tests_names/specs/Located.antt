-- Worked locations, which are their texts, and a root with one of them.
use Rattle.std.specs.Prelude.{true, not, ◌==◌, codes, None}
use Rattle.irtext_base.specs.Own.{found, Verdict}
use Rattle.irtext_base.specs.Text.{after, front, Text}
use Rattle.irtext_grammar.specs.Grammar.Forest.{no_regions, region, no_blocks, block, no_operations, operation}
use Rattle.irtext_grammar.specs.Graphs.Graph.{Graph}
use Rattle.irtext_grammar.specs.Graphs.Same.{Locations}
use Rattle.irtext_tests_names.specs.Graphs.{first_block, module_m, noted, on_line_one}

-- a location is parsed up to `]`
abbrev pub up_to_bracket : Text → Verdict Text
up_to_bracket text = found (front (λ c. not (c == 93)) text) (after (λ c. not (c == 93)) text)

-- a location is its text, and each is a position
abbrev pub text_locations : Locations Text
text_locations = record { text = λ location. location; is_position = λ location. true }

-- builtin.module @m of two operations with one debug note, of which the first has a location
abbrev pub note_on_line_one : Graph Text Text
note_on_line_one = record {
  own = module_m None;
  regions = region tt (block first_block (operation (record noted { location = on_line_one (codes "27") }) no_regions (operation noted no_regions no_operations)) no_blocks) no_regions;
}
