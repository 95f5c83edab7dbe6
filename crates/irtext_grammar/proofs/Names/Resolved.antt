-- The written tree of a closed root resolves.
use Rattle.std.proofs.Common.{◌≡◌, ◌+◌, Bool, None, [], map, ap, ◌∙◌}
use Rattle.std.specs.Prelude.{⊤}
use Rattle.irtext_base.specs.Format.{same_text, Id}
use Rattle.irtext_grammar.specs.Graphs.Graph.{Graph, Printing, written, marks_in_regions, own_marks, op_outlined}
use Rattle.irtext_grammar.specs.Names.Script.{done, failure_as}
use Rattle.irtext_grammar.specs.Names.Scopes.{no_scope, failures}
use Rattle.irtext_grammar.specs.Names.Acts.{tree_script}
use Rattle.irtext_grammar.specs.Graphs.Closed.{same_thing, printed, graph_script, Closed, Fit, Small}
use Rattle.irtext_grammar.specs.Names.Plain.{plain, Kept}
use Rattle.irtext_grammar.specs.Graphs.Same.{SmallGraph}
use Rattle.irtext_grammar.proofs.Names.Natural.{failures_natural}
use Rattle.irtext_grammar.proofs.Names.Plainly.{no_failure}
use Rattle.irtext_grammar.proofs.Names.Injective.{names_agree}
use Rattle.irtext_grammar.proofs.Graphs.WrittenScript.{written_like}
use Rattle.irtext_grammar.proofs.Graphs.Match.{small_script}
use Rattle.irtext_grammar.specs.Graphs.ReservedKeys.{GraphKeepsKeys}
use Rattle.irtext_grammar.proofs.Graphs.KeptWritten.{Good, root_good}

module _ {T A : Type 0} (C : Printing T A) (isolated : Id → Bool) (g : Graph T A) (fit : Fit C isolated g) (small : SmallGraph C isolated g) (closed : Closed C isolated g) where
  -- the names of a closed root's written tree resolve
  pub names_resolve : failures same_text no_scope (plain (tree_script isolated (written C None g) done)) ≡ []
  names_resolve =
      ap (failures same_text no_scope) (written_like C isolated g fit)
      ∙ (failures_natural (printed C) (λ (q : ⊤). q) same_thing same_text Small (names_agree C) no_scope (graph_script C isolated g) (record { values = tt; labels = tt }) (small_script C isolated g small)
      ∙ ap (map (failure_as (printed C) (λ (q : ⊤). q))) closed)

  resolves_if : Kept same_text no_scope (tree_script isolated (written C None g) done) → failures same_text no_scope (tree_script isolated (written C None g) done) ≡ []
  resolves_if k = no_failure same_text no_scope (tree_script isolated (written C None g) done) names_resolve k

  -- with marks numbered on, counts that agree, and the reserved key kept
  pub tree_resolves : GraphKeepsKeys g → failures same_text no_scope (tree_script isolated (written C None g) done) ≡ []
  tree_resolves keys =
      let m = marks_in_regions C None g.regions + own_marks C g.own.location (op_outlined C g.own) in
      let last : Good m m done = record { kept = λ s b. tt; below = tt } in
      resolves_if ((root_good C isolated g done fit keys last).kept no_scope tt)
