-- The places of a region's items decrease along the text that is parsed as its blocks, so each item has a place of its own, and a function
-- from places to paths gives each item's path.
use Rattle.std.proofs.Common.{◌≡◌, ℕ, suc, length, Option}
use Rattle.irtext_base.specs.Text.{Text}
use Rattle.irtext_base.specs.Format.{Format, Id}
use Rattle.irtext_base.specs.Own.{Texts, Language, language}
use Rattle.irtext_grammar.specs.Grammar.Forest.{Blocks}
use Rattle.irtext_grammar.specs.Grammar.Tree.{Op, Head, Brace}
use Rattle.irtext_grammar.specs.Grammar.Reads as reads
use Rattle.irtext_grammar.specs.Spelling.Spellable.{Each}
use Rattle.irtext_grammar.specs.Names.Script.{Path}
use Rattle.irtext_grammar.specs.Naming.{paths_in_blocks}
use Rattle.irtext_grammar.proofs.Naming.Places.{path_at, paths_apart, region_spans, blocks_span}
use Rattle.irtext_grammar.proofs.Naming.Shorter.{Shortens}

module _ {T A : Type 0} (types : Texts T) (owns : Texts A) (formats : Id → Option Format) (short_types : Shortens types) (short_owns : Shortens owns) where
  abbrev L : Language ℕ T A
  L = language types owns formats

  -- the places of the items of blocks that a text parses as in braces fall along the text, so there is a function that says the path of
  -- each
  pub paths_exist : (p : Path) (brace : Brace ℕ) (bs : Blocks (Op ℕ T A) (Head ℕ T A) (Brace ℕ)) (text rest : Text) → reads.region_read L brace (reads.block_readings L bs) text rest
      → (path : ℕ → Path) × Each (λ item. path item.0 ≡ item.1) (paths_in_blocks p 0 bs)
  paths_exist p brace bs text rest h =
      let items = paths_in_blocks p 0 bs in (
        path_at items,
        paths_apart (suc (length text)) (suc (length rest)) items
            ((region_spans types owns formats short_types short_owns p brace bs (blocks_span types owns formats short_types short_owns p 0 bs)).falls text rest h),
      )
