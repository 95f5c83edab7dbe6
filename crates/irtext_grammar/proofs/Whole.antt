-- What is known of a tree that a text parses as: its braces are shown, its bodies have their formats, and each region has a place among
-- the parts of its operation.
use Rattle.std.proofs.Common.{ℕ, Option}
use Rattle.std.specs.Prelude.{⊤}
use Rattle.irtext_base.specs.Text.{Text, after_space}
use Rattle.irtext_base.specs.Reading.{the}
use Rattle.irtext_base.specs.Format.{Format, Id}
use Rattle.irtext_base.specs.Own.{Texts, Language, language}
use Rattle.irtext_grammar.specs.Grammar.Forest.{Regions, no_regions, region, Blocks, no_blocks, block, Operations, no_operations, operation}
use Rattle.irtext_grammar.specs.Grammar.Tree.{Op, Head, Brace, shown, elided, Tree, parts_of}
use Rattle.irtext_grammar.specs.Grammar.Reads as reads
use Rattle.irtext_grammar.specs.Spelling.Spellable.{Enough}
use Rattle.irtext_grammar.proofs.Grammar.ListReadings.{AllUsed, repeated_used, parts_used, block_used}
use Rattle.irtext_grammar.specs.Naming.{HasFormat}

module _ {T A : Type 0} (formats : Id → Option Format) where
  -- the operation's body is one that its format parses, with a place for each of its regions
  abbrev pub HasParts : Op ℕ T A → Regions (Op ℕ T A) (Head ℕ T A) (Brace ℕ) → Type 0
  HasParts o rs = HasFormat formats o × Enough (parts_of o.body) rs

  abbrev mutual
    -- each region is shown, and what is nested in it is whole
    pub WholeRegions : Regions (Op ℕ T A) (Head ℕ T A) (Brace ℕ) → Type 0
    WholeRegions no_regions = ⊤
    WholeRegions (region elided bs rs) = ⊥
    WholeRegions (region (shown place) bs rs) = WholeBlocks bs × WholeRegions rs

    -- what is nested in each block is whole
    pub WholeBlocks : Blocks (Op ℕ T A) (Head ℕ T A) (Brace ℕ) → Type 0
    WholeBlocks no_blocks = ⊤
    WholeBlocks (block h os bs) = WholeOperations os × WholeBlocks bs

    -- each operation has its parts, and what is nested in it is whole
    pub WholeOperations : Operations (Op ℕ T A) (Head ℕ T A) (Brace ℕ) → Type 0
    WholeOperations no_operations = ⊤
    WholeOperations (operation o rs os) = HasParts o rs × WholeRegions rs × WholeOperations os

  -- the root has its parts, and what is nested in it is whole
  abbrev pub IsWhole : Tree ℕ T A → Type 0
  IsWhole t = HasParts t.own t.regions × WholeRegions t.regions

module _ {T A : Type 0} (types : Texts T) (owns : Texts A) (formats : Id → Option Format) where
  abbrev L : Language ℕ T A
  L = language types owns formats

  operation_read : (o : Op ℕ T A) (rs : Regions (Op ℕ T A) (Head ℕ T A) (Brace ℕ)) (t u : Text) → reads.operation_read L o (reads.region_readings L rs) t u
      → HasParts formats o rs × AllUsed (reads.region_readings L rs)
  operation_read o rs t u (at, (known, (m, a, (w, b, (x, c, d))))) = let h = parts_used L (parts_of o.body) rs w x c in ((known, h.0), h.1)

  mutual
    regions_read : (rs : Regions (Op ℕ T A) (Head ℕ T A) (Brace ℕ)) → AllUsed (reads.region_readings L rs) → WholeRegions formats rs
    regions_read no_regions a = tt
    regions_read (region (shown place) bs rs) ((t, u, (at, (m, a, (w, b, c)))), d) = (blocks_read bs (repeated_used (the 94) (reads.block_readings L bs) (after_space m) w b), regions_read rs d)
    regions_read (region elided no_blocks rs) ((t, u, a), d) = absurd a
    regions_read (region elided (block h os bs) rs) ((t, u, a), d) = absurd a

    pub blocks_read : (bs : Blocks (Op ℕ T A) (Head ℕ T A) (Brace ℕ)) → AllUsed (reads.block_readings L bs) → WholeBlocks formats bs
    blocks_read no_blocks a = tt
    blocks_read (block h os bs) ((t, u, a), d) = (operations_read os (block_used L h (reads.operation_readings L os) t u a), blocks_read bs d)

    operations_read : (os : Operations (Op ℕ T A) (Head ℕ T A) (Brace ℕ)) → AllUsed (reads.operation_readings L os) → WholeOperations formats os
    operations_read no_operations a = tt
    operations_read (operation o rs os) ((t, u, a), d) = let f = operation_read o rs t u a in (f.0, regions_read rs f.1, operations_read os d)

  -- a tree that a text parses as is whole
  pub whole_read : (t : Tree ℕ T A) (text rest : Text) → reads.reads L t text rest → IsWhole formats t
  whole_read t text rest h = let f = operation_read t.own t.regions text rest h in (f.0, regions_read t.regions f.1)
