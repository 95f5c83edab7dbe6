-- Between functions: what the section after a root adds: its own failures, and a context in which only data of objects changed.
use Rattle.std.specs.Prelude.{◌≡◌, ℕ, List, length}
use Rattle.irtext_base.specs.Text.{Text}
use Rattle.irtext_base.specs.Format.{same_text}
use Rattle.irtext_graph.specs.declared.arena.Ptr.{Ptr}
use Rattle.irtext_graph.specs.declared.object.Operation.{Operation}
use Rattle.irtext_graph.specs.declared.object.BasicBlock.{BasicBlock}
use Rattle.irtext_graph.specs.declared.object.Region.{Region}
use Rattle.irtext_graph.specs.declared.object.Object.{Object}
use Rattle.irtext_graph.specs.declared.object.Site.{Site}
use Rattle.irtext_graph.specs.Graph.{GraphView, parent, IsLive}
use Rattle.irtext_graph.specs.Parts.{regions, blocks, operations_in}
use Rattle.irtext_graph.specs.Used.{used_at}
use Rattle.irtext_grammar.specs.Grammar.Section.{Entry}
use Rattle.irtext_grammar.specs.Names.Acts.{Rule, section_acts}
use Rattle.irtext_grammar.specs.Names.Scopes.{failures}
use Rattle.irtext_grammar.specs.Names.Script.{Failure, does_all, done}
use Rattle.irtext_names.specs.Promises.{outside_with}

-- the failures of a section after these marks, by these rules
abbrev pub refused : {P A X : Type 0} → List ℕ → (ℕ → Rule A) → List (Entry P A X) → List (Failure Text P)
refused marks rules es = failures same_text (outside_with marks) (does_all (section_acts rules es) done)

-- Only data of objects changed: there are as many places for operations, the nesting is the same, and so are the uses.
pub record SameShape {O B T : Type 0} (g k : GraphView O B T) : Type 0 where
  pub places : length k.operations.cells ≡ length g.operations.cells
  pub same_regions : (p : Ptr Operation) → regions k p ≡ regions g p
  pub same_blocks : (r : Ptr Region) → blocks k r ≡ blocks g r
  pub same_operations : (b : Ptr BasicBlock) → operations_in k b ≡ operations_in g b
  pub same_parents : (q : Object) → parent k q ≡ parent g q
  pub same_uses : (s : Site) → used_at k s ≡ used_at g s
  pub was_live : (q : Object) → IsLive k q → IsLive g q
