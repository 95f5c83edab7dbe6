-- A root that represents a parsed tree is closed, and its blocks, results and arguments have names.
use Rattle.std.proofs.Common.{◌≡◌, Bool, List, [], Some}
use Rattle.irtext_base.specs.Text.{Text}
use Rattle.irtext_base.specs.Format.{Accepted, Format, Id}
use Rattle.irtext_base.specs.Own.{Language}
use Rattle.irtext_grammar.specs.Grammar.Tree.{Tree}
use Rattle.irtext_grammar.specs.Graphs.Graph.{Graph, Printing}
use Rattle.irtext_grammar.specs.Grammar.Section.{Entry}
use Rattle.irtext_grammar.specs.Grammar.Reads.{reads}
use Rattle.irtext_grammar.specs.Names.Script.{done, does_all}
use Rattle.irtext_grammar.specs.Names.Acts.{failures_of, section_acts, rule_of}
use Rattle.irtext_grammar.specs.Graphs.Build.{build}
use Rattle.irtext_grammar.specs.Graphs.Closed.{Closed}
use Rattle.irtext_grammar.specs.Graphs.ReservedKeys.{GraphKeepsKeys}
use Rattle.irtext_grammar.specs.Graphs.Regained.{Named}
use Rattle.irtext_grammar.specs.Graphs.Same.{resolved_root}
use Rattle.irtext_grammar.specs.Graphs.Represents.{Distinct, Represents}
use Rattle.irtext_grammar.proofs.Grammar.PartsOfFormats.{NoneLeftOut, each_accepted, formed_read}
use Rattle.irtext_grammar.proofs.Graphs.Links.{all_there}
use Rattle.irtext_grammar.proofs.Grammar.WholeTree.{whole}
use Rattle.irtext_grammar.proofs.Names.ResolvedRoot.{resolves}
use Rattle.irtext_grammar.proofs.Graphs.RepresentsClosed.{represents_closed}
use Rattle.irtext_grammar.proofs.Graphs.BuiltNamed.{built_named, built_kept, no_results, no_operands, no_successors, isolated_if}

module _ {P T A X : Type 0} (L : Language P T A) (none : NoneLeftOut L) (C : Printing T A) (isolated : Id → Bool) (first : P → X) where
  -- a root that represents a parsed tree, accepted and resolved, is closed
  pub built_closed : (t : Tree P T A) (es : List (Entry P A X)) (g : Graph T A) (source rest : Text) → ((id : Id) (format : Format) → L.format_of id ≡ Some format → Accepted format)
      → reads L t source rest → failures_of isolated t es ≡ [] → Represents (resolved_root C isolated g) (build isolated first es t) → Distinct C isolated g → Closed C isolated g × GraphKeepsKeys g × Named C g
  built_closed t es g source rest accepted r e s d =
      let f = formed_read L none t source rest (each_accepted L accepted t) r in
      let q = resolves isolated t es (whole L none t source rest r) e in
      let h = all_there isolated first es t f (does_all (section_acts (rule_of t) es) done) e in (
        represents_closed C isolated g (build isolated first es t) s h d (no_results C isolated first es g t s f q) (no_operands C isolated first es g t s f q) (no_successors C isolated first es g t s f q) (isolated_if C isolated first es g t s f q),
        built_kept C isolated first es g t s f q,
        built_named C isolated first es g t s f q,
      )
