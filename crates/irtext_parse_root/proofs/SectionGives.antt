-- What a section leaves of the items of a root: each has its own, with what the entry of its mark gives it, and nothing else changed.
use Rattle.std.proofs.Common.{◌≡◌, ◌∙◌, inl, inr, ℕ, List, [], Option, Some, None, refl, sym, ap, subst}
use Rattle.std.specs.Prelude.{unwrap_or, length, is_some}
use Rattle.std.specs.Option.{option_map}
use Rattle.irtext_base.specs.Text.{Text}
use Rattle.irtext_base.specs.Answers.{Outcome}
use Rattle.irtext_base.specs.Faults.{id_of}
use Rattle.irtext_base.specs.Locations.{AttrView}
use Rattle.irtext_base.specs.Paths.{Written}
use Rattle.irtext_base.specs.declared.location.Location.{Location}
use Rattle.irtext_context.specs.Context.{ContextView}
use Rattle.irtext_context.specs.declared.base.operation.OperationData.{OperationData}
use Rattle.irtext_graph.specs.Content.{Node, OperationContent}
use Rattle.irtext_graph.specs.Data.{EditsOperation, with_data}
use Rattle.irtext_graph.specs.Graph.{GraphView}
use Rattle.irtext_graph.specs.Parts.{operands, operands_of, successors, successors_of}
use Rattle.irtext_graph.specs.Store.{get, object_of}
use Rattle.irtext_graph.specs.declared.arena.Entry.{Entry}
use Rattle.irtext_graph.specs.declared.arena.Ptr.{Ptr}
use Rattle.irtext_graph.specs.declared.object.BasicBlock.{BasicBlock}
use Rattle.irtext_graph.specs.declared.object.Operation.{Operation}
use Rattle.irtext_graph.specs.declared.object.Region.{Region}
use Rattle.irtext_graph.specs.declared.object.Value.{Value}
use Rattle.irtext_graph.proofs.Pointers.{ptr_or}
use Rattle.irtext_parse_state.specs.States.{marks_of}
use Rattle.irtext_parse_state.specs.declared.parsable.state.StateStream.{StateStream}
use Rattle.irtext_grammar.specs.Contexts.Held.{location_over}
use Rattle.irtext_grammar.specs.Graphs.Build.{content, located, labelled, but_label, with_content}
use Rattle.irtext_grammar.specs.Names.Acts.{Rule}
use Rattle.irtext_grammar.specs.Promises.Section.{indices_of}
use Rattle.irtext_grammar.specs.Tracks.{Made}
use Rattle.irtext_names.specs.WithSection.{SameShape}
use Rattle.irtext_names.proofs.Shapes.{shape_self, shape_then, operation_shape, block_shape}
use Rattle.irtext_grammar.specs.Agrees.{refused}
use Rattle.irtext_parse_section.specs.Section.{ReadsSection}
use Rattle.irtext_parse_section.proofs.Frames.{applied}
use Rattle.irtext_parse_section.proofs.Items.{operation_given, block_given}
use Rattle.irtext_parse_root.proofs.Rooted.{GivesEach}

-- an operation's place in a graph, as it is seen
abbrev Seen : Type 0 → Type 0 → Type 0
Seen O T = Option (Entry (Node BasicBlock Region (OperationContent O T)))

abbrev operands_in : {O T : Type 0} → Seen O T → List Value
operands_in x = operands_of (option_map (λ e. e.content.content) x)

abbrev successors_in : {O T : Type 0} → Seen O T → List (Ptr BasicBlock)
successors_in x = successors_of (option_map (λ e. e.content.content) x)

-- what an operation uses is unchanged where the data of one changed
module _ {O B T : Type 0} where
  edited_same : {X : Type 0} (seen : Seen O T → X) → ((change : O → O) (x : Seen O T) → seen (option_map (object_of (with_data change)) x) ≡ seen x)
      → (g k : GraphView O B T) (p : Ptr Operation) (change : O → O) → EditsOperation g k p change → (q : Ptr Operation) → seen (get k.operations q) ≡ seen (get g.operations q)
  edited_same seen same g k p change e q = elim (ptr_or q p) [
    | inl f ↦ ap (λ q. seen (get k.operations q)) f ∙ (ap seen e.operations.updates.changed ∙ (same change (get g.operations p) ∙ ap (λ q. seen (get g.operations q)) (sym f)))
    | inr n ↦ ap seen (e.operations.updates.others q n)
  ]

module _ {T A U : Type 0} (attr : Text → Outcome (AttrView A)) (old new : StateStream T A U) (r : ReadsSection attr old new) where
  abbrev c : ContextView T A
  c = old.state.ctx.now

  abbrev d : ContextView T A
  d = new.state.ctx.now

  -- data of items changed, and nothing else
  pub shape : SameShape c.graph d.graph
  shape =
      subst (λ g. SameShape g d.graph) (ap (λ (x : ContextView T A). x.graph) r.adds.rest)
      (applied (λ (a b : ContextView T A). SameShape a.graph b.graph) (λ a. shape_self a.graph) (λ a b e k l. shape_then a.graph b.graph e.graph k l)
      (λ p change a b e. operation_shape a.graph b.graph p (option_map change) e.graph) (λ p change a b e. block_shape a.graph b.graph p change e.graph)
      (marks_of old.state) r.middle.paths r.entries r.entries r.middle d r.applied)

  -- what an operation uses is unchanged
  uses_same : {X : Type 0} (seen : Seen (Option (OperationData A)) (Option T) → X) → ((change : Option (OperationData A) → Option (OperationData A)) (x : Seen (Option (OperationData A)) (Option T)) → seen (option_map (object_of (with_data change)) x) ≡ seen x)
      → (p : Ptr Operation) → seen (get d.graph.operations p) ≡ seen (get c.graph.operations p)
  uses_same seen same p =
      applied (λ (a b : ContextView T A). seen (get b.graph.operations p) ≡ seen (get a.graph.operations p)) (λ a. refl) (λ a b e k l. l ∙ k)
      (λ q change a b e. edited_same seen same a.graph b.graph q (option_map change) e.graph p) (λ q change a b e. ap (λ s. seen (get s p)) e.graph.operations)
      (marks_of old.state) r.middle.paths r.entries r.entries r.middle d r.applied ∙ ap (λ (x : ContextView T A). seen (get x.graph.operations p)) r.adds.rest

  operands_same : (p : Ptr Operation) → operands d.graph p ≡ operands c.graph p
  operands_same = uses_same operands_in (λ change. elim [ None ↦ refl | Some e ↦ refl ])

  successors_same : (p : Ptr Operation) → successors d.graph p ≡ successors c.graph p
  successors_same = uses_same successors_in (λ change. elim [ None ↦ refl | Some e ↦ refl ])

  module _ (rules : ℕ → Rule A) (none : refused (indices_of (marks_of old.state)) rules r.entries ≡ []) (L : ℕ → Location A → Type 0) (items : Made) (first : ℕ → Written A) (tells : (n : ℕ) (l : Location A) → L n l → location_over d.paths l ≡ first n) where
    -- each operation and each block of a root has its own, with what the entry of its mark gives it
    pub each : GivesEach L c items (marks_of old.state) d first r.entries
    each = record {
      operations = λ p o rs at carries.
          let g = operation_given attr old new r rules none p o.mark carries at.view at.is in
          record {
            view = g.after;
            is = g.is;
            uses = record { operands_are = ap length (operands_same p) ∙ at.uses.operands_are; successors_are = ap length (successors_same p) ∙ at.uses.successors_are };
            id = ap id_of g.id ∙ at.has.id;
            types = g.types ∙ at.has.types;
            entries = g.entries ∙ ap (λ es. with_content es (content r.entries o.mark)) at.has.entries;
            location = g.location ∙ ap (λ l. located l (content r.entries o.mark)) (tells o.place at.view.loc at.has.location);
          };
      blocks = λ b h ps at carries.
          let g = block_given attr old new r rules none b h.mark carries at.view at.is in
          record {
            view = g.after;
            is = g.is;
            has_label = g.has_label (ap (λ z. is_some z) at.has.label);
            label = g.label ∙ ap (λ l. labelled (unwrap_or l []) (content r.entries h.mark)) at.has.label;
            types = g.types ∙ at.has.types;
            entries = g.entries ∙ ap (λ es. with_content es (but_label (content r.entries h.mark))) at.has.entries;
            location = g.location ∙ ap (λ l. located l (content r.entries h.mark)) (tells h.label.place at.view.loc at.has.location);
          };
    }
