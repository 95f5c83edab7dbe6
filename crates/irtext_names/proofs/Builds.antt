-- What is under the pointer of a tree that was parsed is what the tree builds, with no section: names, graph and structure agree with the
-- state of the machine of names and with the result of the parse, and nothing is open.
use Rattle.std.proofs.Common.{◌≡◌, ℕ, Bool, List, [], ◌∷◌, Some, sym, subst, inl, inr}
use Rattle.irtext_base.specs.Format.{Id}
use Rattle.irtext_base.specs.Paths.{Written}
use Rattle.irtext_base.specs.declared.location.Location.{Location}
use Rattle.irtext_context.specs.Context.{ContextView}
use Rattle.irtext_graph.specs.declared.arena.Ptr.{Ptr}
use Rattle.irtext_graph.specs.declared.object.Operation.{Operation}
use Rattle.irtext_graph.specs.declared.object.BasicBlock.{BasicBlock}
use Rattle.irtext_graph.specs.declared.object.Object.{Object}
use Rattle.irtext_graph.specs.declared.object.Value.{Value}
use Rattle.irtext_graph.specs.Chained.{Among}
use Rattle.irtext_graph.specs.Nested.{Nested}
use Rattle.irtext_graph.specs.Graph.{children, parent}
use Rattle.irtext_grammar.specs.Contexts.Held.{location_over}
use Rattle.irtext_grammar.specs.Contexts.Nested.{pointers}
use Rattle.irtext_grammar.specs.Grammar.Section.{Entry}
use Rattle.irtext_grammar.specs.Grammar.Tree.{Tree}
use Rattle.irtext_grammar.specs.Graphs.Build.{build}
use Rattle.irtext_grammar.specs.Graphs.Links.{Linked, links}
use Rattle.irtext_grammar.specs.Names.Acts.{tree_script}
use Rattle.irtext_grammar.specs.Names.History as history
use Rattle.irtext_grammar.specs.Names.History.{State, going, run, events}
use Rattle.irtext_grammar.specs.Names.Placeholders.{In}
use Rattle.irtext_grammar.specs.Names.Scopes.{no_scope, bound}
use Rattle.irtext_grammar.specs.Names.Script.{Path, Place, User, operand, successor, done}
use Rattle.irtext_grammar.specs.Names.TextScopes.{failures, facts}
use Rattle.irtext_grammar.proofs.Grammar.PartsOfFormats.{Formed}
use Rattle.irtext_grammar.proofs.Graphs.Links.{bound_linked, all_there}
use Rattle.irtext_grammar.proofs.Names.Building.{bound_same}
use Rattle.irtext_scopes.specs.declared.tracker.NameTracker.{NameTracker}
use Rattle.irtext_grammar.specs.Naming.{Names}
use Rattle.irtext_grammar.specs.Building.{finished}
use Rattle.irtext_grammar.specs.Tracks.{Made, HoldsMade}
use Rattle.irtext_names.specs.Linked.{Known, NamesAgree}
use Rattle.irtext_names.specs.OfItems.{AreOf}
use Rattle.irtext_names.proofs.Linked.Passes.{ran_through}
use Rattle.irtext_names.specs.Held.{placed_under, held_root}
use Rattle.irtext_names.specs.Placed.{RootIs}
use Rattle.irtext_names.proofs.Depths.{root_is}
use Rattle.irtext_names.proofs.Equal.{Keeps, root_same}
use Rattle.irtext_names.proofs.ItemsGiven.{root_has}
use Rattle.irtext_names.proofs.LinksSame.{links_same}
use Rattle.irtext_names.proofs.Located.{IsPlaced, located, bound_uses, operand_uses, successor_uses}
use Rattle.irtext_names.proofs.Occurs.{item_occurs}
use Rattle.irtext_names.proofs.Paths.{once_under}

-- what is in a list is among its items
pub in_among : {X : Type 0} (x : X) (xs : List X) → In x xs → Among x xs
in_among x [] i = absurd i
in_among x (y ∷ ys) (inl e) = inl e
in_among x (y ∷ ys) (inr i) = inr (in_among x ys i)

module _ {T A : Type 0} (L : ℕ → Location A → Type 0) (start c : ContextView T A) (items : Made) (whole : List Object) (p : Ptr Operation) (x : Tree ℕ T A) (held : HoldsMade L start c items whole [] (Some p) (finished x))
    (nest : Nested (children c.graph) (parent c.graph)) (path : ℕ → Path) (names : Names path x) (first : ℕ → Written A) (isolated : Id → Bool) (formed : Formed x)
    (names_at : NameTracker Value (Ptr BasicBlock)) (known : Known) (are : AreOf path items known) (st : State) (agreed : NamesAgree names_at c.graph known [] st)
    (ran : run (going history.start) (events (tree_script isolated x done)) ≡ going st) where
  -- the tree resolves
  pub resolves : failures no_scope (tree_script isolated x done) ≡ []
  resolves = (ran_through (tree_script isolated x done) st ran).0

  -- the forest of pointers is the tree's
  pub is_tree : RootIs L c items (pointers c.graph p) x
  is_tree = root_is L c items whole path held.tracks.once p x names held.so_far.tree

  occurs : (n : ℕ) (o : Object) → Among (n, o) items → (q : Path) × Among (o, q) (placed_under (pointers c.graph p))
  occurs = item_occurs L c items start whole p x is_tree nest held.tracks

  placed : (o : Object) (q : Path) → Among (o, q) (placed_under (pointers c.graph p)) → IsPlaced L c items path o q
  placed = located L c items path (pointers c.graph p) x names is_tree

  -- each link of what is built is bound
  linked_bound : (u : User) (q : Place) → In (u, q) (links (build isolated first [] x)) → Among (u, q) st.bound
  linked_bound u q i =
      let script = tree_script isolated x done in
      let b = (bound_linked isolated first [] x formed u q).1 i in
      let f = in_among (u, q) (facts script).bound ((bound_same script).into (u, q) b) in
      subst (λ (z : State). Among (u, q) z.bound) (sym (ran_through script st ran).1) f

  pub keeps : (es : List (Entry ℕ A (Written A))) → Keeps c first es isolated (placed_under (pointers c.graph p)) (links (build isolated first es x))
  keeps es = record {
    operands_keep = λ o r i q at l. operand_uses L c items path (placed_under (pointers c.graph p)) placed (once_under (pointers c.graph p)) held.tracks.once occurs known are names_at c.graph st agreed o r i q at
        (bound_uses L c items path (placed_under (pointers c.graph p)) placed (once_under (pointers c.graph p)) held.tracks.once occurs known are names_at c.graph st agreed (operand r i) q (linked_bound (operand r i) q (subst (λ ls. In (operand r i, q) ls) (links_same isolated first es x) l)));
    successors_keep = λ o r i q at l. successor_uses L c items path (placed_under (pointers c.graph p)) placed (once_under (pointers c.graph p)) held.tracks.once occurs known are names_at c.graph st agreed o r i q at
        (bound_uses L c items path (placed_under (pointers c.graph p)) placed (once_under (pointers c.graph p)) held.tracks.once occurs known are names_at c.graph st agreed (successor r i) q (linked_bound (successor r i) q (subst (λ ls. In (successor r i, q) ls) (links_same isolated first es x) l)));
  }

  -- each operand and successor of what is built holds something
  pub linked : Linked (build isolated first [] x)
  linked = all_there isolated first [] x formed done resolves

  -- and what is under the pointer is what the tree builds
  pub builds : ((n : ℕ) (l : Location A) → L n l → location_over c.paths l ≡ first n) → held_root c p ≡ Some (build isolated first [] x)
  builds tells = root_same c first [] isolated (pointers c.graph p) x (root_has L c items first tells (pointers c.graph p) x is_tree) linked (keeps [])
