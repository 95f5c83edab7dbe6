-- The actions of a tree that a text parses as: its operations have their formats, and the outcome of its items as they are parsed is that
-- of the script of its names.
use Rattle.std.proofs.Common.{◌≡◌, ℕ, Bool, ◌≤◌, Option, length, refl, ap, arith}
use Rattle.std.specs.Prelude.{⊤}
use Rattle.irtext_base.specs.Text.{Text, after_space}
use Rattle.irtext_base.specs.Reading.{the}
use Rattle.irtext_base.specs.Format.{Format, Id}
use Rattle.irtext_base.specs.Answers.{Outcome, Read, Missing, Bad}
use Rattle.irtext_base.specs.Own.{Texts, Language, language, texts_of, verdict, found}
use Rattle.irtext_grammar.specs.Grammar.Forest.{Regions, no_regions, region, Blocks, no_blocks, block, Operations, no_operations, operation, AllRegions, AllBlocks, AllOperations}
use Rattle.irtext_grammar.specs.Grammar.Tree.{Op, Head, Brace, shown, elided, Tree, parts_of}
use Rattle.irtext_grammar.specs.Grammar.Reads as reads
use Rattle.irtext_grammar.specs.Names.Script.{Path, done}
use Rattle.irtext_grammar.specs.Names.Acts.{tree_script}
use Rattle.irtext_grammar.specs.Names.History.{events, run}
use Rattle.irtext_grammar.specs.Names.History as history
use Rattle.irtext_grammar.proofs.Grammar.ListReadings.{AllUsed, repeated_used, parts_used, block_used}
use Rattle.irtext_grammar.specs.Reached.{do_tree}
use Rattle.irtext_grammar.specs.Naming.{naming, HasFormat, HaveFormats, Names}
use Rattle.irtext_grammar.proofs.Naming.Shorter.{Shortens}
use Rattle.irtext_grammar.proofs.Naming.Runs.{runs_script}

module _ {T A : Type 0} (types : Texts T) (owns : Texts A) (formats : Id → Option Format) where
  abbrev L : Language ℕ T A
  L = language types owns formats

  abbrev Formed : Op ℕ T A → Type 0
  Formed o = HasFormat formats o

  operation_formed : (o : Op ℕ T A) (rs : Regions (Op ℕ T A) (Head ℕ T A) (Brace ℕ)) (t u : Text) → reads.operation_read L o (reads.region_readings L rs) t u → Formed o × AllUsed (reads.region_readings L rs)
  operation_formed o rs t u (at, (known, (m, a, (w, b, (x, c, d))))) = (known, (parts_used L (parts_of o.body) rs w x c).1)

  mutual
    regions_formed : (rs : Regions (Op ℕ T A) (Head ℕ T A) (Brace ℕ)) → AllUsed (reads.region_readings L rs) → AllRegions Formed (λ h. ⊤) (λ b. ⊤) rs
    regions_formed no_regions a = tt
    regions_formed (region (shown place) bs rs) ((t, u, (at, (m, a, (w, b, c)))), d) = (tt, blocks_formed bs (repeated_used (the 94) (reads.block_readings L bs) (after_space m) w b), regions_formed rs d)
    regions_formed (region elided no_blocks rs) ((t, u, a), d) = absurd a
    regions_formed (region elided (block h os bs) rs) ((t, u, a), d) = absurd a

    pub blocks_formed : (bs : Blocks (Op ℕ T A) (Head ℕ T A) (Brace ℕ)) → AllUsed (reads.block_readings L bs) → AllBlocks Formed (λ h. ⊤) (λ b. ⊤) bs
    blocks_formed no_blocks a = tt
    blocks_formed (block h os bs) ((t, u, a), d) = (tt, operations_formed os (block_used L h (reads.operation_readings L os) t u a), blocks_formed bs d)

    operations_formed : (os : Operations (Op ℕ T A) (Head ℕ T A) (Brace ℕ)) → AllUsed (reads.operation_readings L os) → AllOperations Formed (λ h. ⊤) (λ b. ⊤) os
    operations_formed no_operations a = tt
    operations_formed (operation o rs os) ((t, u, a), d) = let f = operation_formed o rs t u a in (f.0, regions_formed rs f.1, operations_formed os d)

  -- the operations of a tree that a text parses as have bodies of their formats
  pub formats_read : (t : Tree ℕ T A) (text rest : Text) → reads.reads L t text rest → HaveFormats formats t
  formats_read t text rest h = let f = operation_formed t.own t.regions text rest h in (f.0, regions_formed t.regions f.1)

  module _ (path : ℕ → Path) (isolated : Id → Bool) (t : Tree ℕ T A) (text rest : Text) (names : Names path t) (h : reads.reads L t text rest) where
    -- the outcome of the items of a tree that a text parses as is that of the script of its names
    pub read_runs : (o : history.Outcome) → do_tree isolated (naming formats path) t o ≡ run o (events (tree_script isolated t done))
    read_runs o = runs_script formats path isolated t names (formats_read t text rest h) o

-- ---- values whose parsers take a front of the text
module _ {X : Type 0} (reading : Text → Outcome X) (written : X → Text) (leaves : (text : Text) (x : X) (taken rest : Text) → reading text ≡ Read x taken rest → length rest ≤ length text) where
  found_shorter : (text rest : Text) (x : X) (o : Outcome X) → reading text ≡ o → verdict o ≡ found x rest → length rest ≤ length text
  found_shorter text rest x (Read y taken left) e f = let g : left ≡ rest = cc f in omega (arith, ap length g, leaves text y taken left e)
  found_shorter text rest x (Missing cause) e f = absurd (cc f)
  found_shorter text rest x (Bad cause upto) e f = absurd (cc f)

  -- a parser that leaves no more than the text is one whose values leave no more
  pub shortens : Shortens (texts_of reading written)
  shortens = record { by = λ text rest x e. found_shorter text rest x (reading text) refl e }
