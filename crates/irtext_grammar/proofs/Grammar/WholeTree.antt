-- A tree that a text parses as has a place for each region, and no region left out.
use Rattle.irtext_base.specs.Text.{Text, after_space}
use Rattle.irtext_base.specs.Reading.{the}
use Rattle.irtext_base.specs.Own.{Language}
use Rattle.irtext_grammar.specs.Grammar.Forest.{Regions, no_regions, region, Blocks, no_blocks, block, Operations, no_operations, operation}
use Rattle.irtext_grammar.specs.Spelling.Spellable.{Enough}
use Rattle.irtext_grammar.specs.Grammar.Tree.{Op, Head, Brace, shown, elided, Tree, parts_of}
use Rattle.irtext_grammar.specs.Grammar.Reads as reads
use Rattle.irtext_grammar.proofs.Grammar.ListReadings.{AllUsed, repeated_used, parts_used, block_used}
use Rattle.irtext_grammar.proofs.Names.InScripts.{WholeRegions, WholeBlocks, WholeOperations}

module _ {P T A : Type 0} (L : Language P T A) (never_out : (t u : Text) → L.left_out t u → ⊥) where
  operation_whole : (op : Op P T A) (rs : Regions (Op P T A) (Head P T A) (Brace P)) (t u : Text) → reads.operation_read L op (reads.region_readings L rs) t u → Enough (parts_of op.body) rs × AllUsed (reads.region_readings L rs)
  operation_whole op rs t u (at, (is, (m, a, (w, b, (x, c, d))))) = parts_used L (parts_of op.body) rs w x c

  mutual
    whole_regions : (rs : Regions (Op P T A) (Head P T A) (Brace P)) → AllUsed (reads.region_readings L rs) → WholeRegions rs
    whole_regions no_regions a = tt
    whole_regions (region (shown place) bs rs) ((t, u, (at, (m, a, (w, b, c)))), d) = (whole_blocks bs (repeated_used (the 94) (reads.block_readings L bs) (after_space m) w b), whole_regions rs d)
    whole_regions (region elided no_blocks rs) ((t, u, a), d) = absurd (never_out t u a)
    whole_regions (region elided (block h os bs) rs) ((t, u, a), d) = absurd a

    whole_blocks : (bs : Blocks (Op P T A) (Head P T A) (Brace P)) → AllUsed (reads.block_readings L bs) → WholeBlocks bs
    whole_blocks no_blocks a = tt
    whole_blocks (block h os bs) ((t, u, a), d) = (whole_operations os (block_used L h (reads.operation_readings L os) t u a), whole_blocks bs d)

    whole_operations : (os : Operations (Op P T A) (Head P T A) (Brace P)) → AllUsed (reads.operation_readings L os) → WholeOperations os
    whole_operations no_operations a = tt
    whole_operations (operation o rs os) ((t, u, a), d) = let h = operation_whole o rs t u a in ((h.0, whole_regions rs h.1), whole_operations os d)

  -- a tree that a text parses as has a place for each region, and no region left out
  pub whole : (t : Tree P T A) (text rest : Text) → reads.reads L t text rest → WholeOperations (operation t.own t.regions no_operations)
  whole t text rest a = let h = operation_whole t.own t.regions text rest a in ((h.0, whole_regions t.regions h.1), tt)
