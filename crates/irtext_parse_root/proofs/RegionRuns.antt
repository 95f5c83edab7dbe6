-- The outcome of the items of a region as they are parsed is that of the state machine that runs the script of its blocks, event by event.
use Rattle.std.proofs.Common.{◌≡◌, ℕ, Bool, Option}
use Rattle.irtext_base.specs.Text.{Text, after_space}
use Rattle.irtext_base.specs.Reading.{the}
use Rattle.irtext_base.specs.Format.{Format, Id}
use Rattle.irtext_base.specs.Own.{Texts, Language, language}
use Rattle.irtext_grammar.specs.Grammar.Forest.{Blocks}
use Rattle.irtext_grammar.specs.Grammar.Tree.{Op, Head, Brace, shown}
use Rattle.irtext_grammar.specs.Grammar.Reads as reads
use Rattle.irtext_grammar.specs.Spelling.Spellable.{Each}
use Rattle.irtext_grammar.specs.Names.Script as script
use Rattle.irtext_grammar.specs.Names.Script.{Path, done}
use Rattle.irtext_grammar.specs.Names.Acts.{blocks_script}
use Rattle.irtext_grammar.specs.Names.History.{events, Outcome, run}
use Rattle.irtext_grammar.proofs.Grammar.ListReadings.{repeated_used}
use Rattle.irtext_grammar.specs.Reached.{do_region, do_blocks}
use Rattle.irtext_grammar.specs.Naming.{naming, paths_in_blocks}
use Rattle.irtext_grammar.proofs.Naming.Runs.{region_does, blocks_do}
use Rattle.irtext_grammar.proofs.Naming.Scripts.{blocks_formed}

module _ {T A : Type 0} (types : Texts T) (owns : Texts A) (formats : Id → Option Format) where
  abbrev L : Language ℕ T A
  L = language types owns formats

  -- The actions of the blocks of a region that a text parses as, between its braces, have the outcome of the machine that runs its script,
  -- given whether its operation is isolated, and with its blocks at this path.
  pub region_runs : (path : ℕ → Path) (isolated : Id → Bool) (iso : Bool) (p : Path) (place : ℕ) (bs : Blocks (Op ℕ T A) (Head ℕ T A) (Brace ℕ)) (text rest : Text) → reads.region_read L (shown place) (reads.block_readings L bs) text rest
      → Each (λ item. path item.0 ≡ item.1) (paths_in_blocks p 0 bs) → (o : Outcome)
      → run o (events (script.within iso place (blocks_script isolated p 0 bs) done)) ≡ do_region isolated (naming {T = T} {A = A} formats path) iso (shown place) (do_blocks isolated (naming formats path) bs) o
  region_runs path isolated iso p place bs text rest (at, (m, a, (w, b, c))) names o =
      let formed = blocks_formed types owns formats bs (repeated_used (the 94) (reads.block_readings L bs) (after_space m) w b) in
      (region_does T A formats path isolated iso (shown place) (blocks_script isolated p 0 bs) (do_blocks isolated (naming formats path) bs) (blocks_do T A formats path isolated p 0 bs names formed)).so done o
