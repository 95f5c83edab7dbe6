-- An edit of one block's data leaves the nesting, the uses, and the age of each object unchanged.
use Rattle.std.proofs.Common.{◌≡◌, ◌∙◌, refl, sym, ap, ℕ, Option, Some, slice_get, map}
use Rattle.std.specs.Option.{option_map}
use Rattle.irtext_graph.specs.Back.{owner, operands_of, successors_of, IsClosedBelow}
use Rattle.irtext_graph.specs.Content.{Node, Content.{AnOperation, ABlock, ARegion}, BlockContent}
use Rattle.irtext_graph.specs.Data.{with_block, EditsBlock}
use Rattle.irtext_graph.specs.Graph.{GraphView, parent_of, children_of, content_of, parent, children, content}
use Rattle.irtext_graph.specs.Objects.{is_older}
use Rattle.irtext_graph.specs.Store.{get, object_of}
use Rattle.irtext_graph.specs.declared.arena.Entry.{Entry}
use Rattle.irtext_graph.specs.declared.arena.Ptr.{Ptr}
use Rattle.irtext_graph.specs.declared.object.BasicBlock.{BasicBlock}
use Rattle.irtext_graph.specs.declared.object.Object.{Object}
use Rattle.irtext_graph.specs.declared.object.Object.TheVariants.{TheOperation, TheBlock, TheRegion}
use Rattle.irtext_graph.specs.declared.object.Operation.{Operation}
use Rattle.irtext_graph.specs.declared.object.Region.{Region}
use Rattle.irtext_graph.proofs.Stores.{edited_same}

module _ {O B T : Type 0} (m : ℕ) (g h : GraphView O B T) (p : Ptr BasicBlock) (change : B → B) (e : EditsBlock g h p change) where
  abbrev BlockEntry : Type 0
  BlockEntry = Entry (Node Region Operation (BlockContent B T))

  -- what an edit of its data doesn't show in is seen of each block as before
  seen_as_before : {V : Type 0} (see : Option BlockEntry → V) → ((x : BlockEntry) → see (Some (object_of (with_block change) x)) ≡ see (Some x)) → (q : Ptr BasicBlock) → see (get h.blocks q) ≡ see (get g.blocks q)
  seen_as_before see same q = edited_same g.blocks h.blocks p (with_block change) see same e.blocks q

  parents_stay : (o : Object) → parent h o ≡ parent g o
  parents_stay (TheOperation q) = ap (λ s. option_map TheBlock (parent_of (get s q))) e.operations
  parents_stay (TheBlock b) = ap (option_map TheRegion) (seen_as_before parent_of (λ x. refl) b)
  parents_stay (TheRegion r) = ap (λ s. option_map TheOperation (parent_of (get s r))) e.regions

  children_stay : (o : Object) → children h o ≡ children g o
  children_stay (TheOperation q) = ap (λ s. map TheRegion (children_of (get s q))) e.operations
  children_stay (TheBlock b) = ap (map TheOperation) (seen_as_before children_of (λ x. refl) b)
  children_stay (TheRegion r) = ap (λ s. map TheBlock (children_of (get s r))) e.regions

  ages_stay : (o : Object) → is_older m (content h o) ≡ is_older m (content g o)
  ages_stay (TheOperation q) = ap (λ s. is_older {O = O} {B = B} {T = T} m (option_map (λ d. AnOperation d.0 d.1) (content_of (get s q)))) e.operations
  ages_stay (TheBlock b) = seen_as_before (λ s. is_older {O = O} {B = B} {T = T} m (option_map (λ d. ABlock d.0 d.1) (content_of s))) (λ x. refl) b
  ages_stay (TheRegion r) = ap (λ s. is_older {O = O} {B = B} {T = T} m (option_map (λ d. ARegion d.0 d.1) (content_of (get s r)))) e.regions

  -- if no object older than a mark is connected with a newer one, by nesting or use, the same holds after the edit
  pub edited_block_closed : IsClosedBelow m g → IsClosedBelow m h
  edited_block_closed c = record {
    parents = λ o k f n. ages_stay o ∙ c.parents o k (sym (parents_stay o) ∙ f) (sym (ages_stay k) ∙ n);
    children = λ o k i f n. ages_stay o ∙ c.children o k i (ap (λ l. slice_get l i) (sym (children_stay o)) ∙ f) (sym (ages_stay k) ∙ n);
    operands = λ q i v f n. ages_stay (TheOperation q) ∙ c.operands q i v (ap (λ s. slice_get (operands_of (get s q)) i) (sym e.operations) ∙ f) (sym (ages_stay (owner v)) ∙ n);
    successors = λ q i b f n. ages_stay (TheOperation q) ∙ c.successors q i b (ap (λ s. slice_get (successors_of (get s q)) i) (sym e.operations) ∙ f) (sym (ages_stay (TheBlock b)) ∙ n);
  }
