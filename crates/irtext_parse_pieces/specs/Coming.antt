-- Between functions: what the next step of a format parses.
use Rattle.std.specs.Prelude.{◌≡◌, ℕ, true, Option, Some, None, ⊤}
use Rattle.irtext_grammar.specs.Heads.{Step, one, all}
use Rattle.irtext_grammar.specs.Resume.{is_flat}
use Rattle.irtext_parse_pieces.specs.declared.coming.Coming.{Coming}
use Rattle.irtext_parse_pieces.specs.declared.coming.Coming.TheVariants as comes

-- the next step is of this kind
abbrev pub IsStep : Coming → Option Step → Type 0
IsStep comes.Piece (Some step) = is_flat step ≡ true
IsStep comes.Region (Some step) = (i : ℕ) × (step ≡ one i)
IsStep comes.Regions (Some step) = step ≡ all
IsStep comes.End None = ⊤
IsStep _ _ = ⊥
