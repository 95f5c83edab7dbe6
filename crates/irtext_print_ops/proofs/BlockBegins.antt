-- The next operation of a block is begun: what is open then, and what its turns leave of the block.
use Rattle.std.proofs.Common.{◌≡◌, ◌∙◌, ◌∷◌, ◌++◌, ◌+◌, ℕ, Bool, true, false, List, [], IsSome, Some, ap, sym, inl, inr, append-nil, append_assoc, slice_get}
use Rattle.std.specs.Prelude.{⊤}
use Rattle.std.specs.Str.{encode_utf8_all}
use Rattle.irtext_base.specs.Own.{Language}
use Rattle.irtext_base.specs.declared.text.AttrText as attr_text
use Rattle.irtext_base.specs.declared.text.IrText as ir_text
use Rattle.irtext_context.specs.Context.{ContextView, operation}
use Rattle.irtext_context.specs.declared.base.item.Item.{Item}
use Rattle.irtext_context.proofs.Drops.{one_left}
use Rattle.irtext_graph.specs.Graph.{IsLive, children, parent}
use Rattle.irtext_graph.specs.Nested.{Nested}
use Rattle.irtext_graph.specs.Parts.{operations_in}
use Rattle.irtext_graph.specs.declared.arena.Ptr.{Ptr}
use Rattle.irtext_graph.specs.declared.object.Object.TheVariants.{TheBlock}
use Rattle.irtext_graph.specs.declared.object.Operation.{Operation}
use Rattle.irtext_grammar.specs.Contexts.Formats.{isolated}
use Rattle.irtext_grammar.specs.Graphs.Graph.{Printing}
use Rattle.irtext_print.specs.declared.printable.refusal.Refusal.{Refusal}
use Rattle.irtext_print_ops.specs.Faults.{OpenFault}
use Rattle.irtext_print_ops.specs.Heads as heads
use Rattle.irtext_print_ops.specs.Opened.{between_operations, unless_first}
use Rattle.irtext_print_ops.specs.Steps.{left_frames}
use Rattle.irtext_print_ops.specs.Walk.{Descends, FrameFits, open_of, Steps}
use Rattle.irtext_print_ops.specs.declared.frame.BlockFrame.{BlockFrame}
use Rattle.irtext_print_ops.specs.declared.frame.Frame.{Frame}
use Rattle.irtext_print_ops.specs.declared.frame.Frame.TheVariants as frame
use Rattle.irtext_print_ops.specs.declared.frame.OperationFrame.{OperationFrame}
use Rattle.irtext_print_ops.specs.declared.frame.RegionFrame.{RegionFrame}
use Rattle.irtext_print_ops.proofs.Chained.{all_fit, chained, fault_left}
use Rattle.irtext_print_ops.proofs.Descents.{entered}
use Rattle.irtext_print_ops.proofs.Tests.{is_there}
use Rattle.irtext_print_ops.proofs.Turned.{block_begins}

module _ {T A : Type 0} (types : ir_text.Ghosts T A) (owns : ir_text.Ghosts A A) (attributes : attr_text.Ghosts A A) (same : A → A → Bool) (ctx : ContextView T A) (width : ℕ) (f : BlockFrame) (items : List Item) (begun : OperationFrame) (old new : List ℕ) where
  abbrev C : Printing T A
  C = heads.printing_of types owns attributes same ctx

  abbrev L : Language ⊤ T A
  L = heads.language_of types owns attributes same ctx

  -- the block, up to the operation after the next
  abbrev after : Frame
  after = frame.Block (record f { operation = f.operation + 1; first = false })

  -- what comes before the operation's parts was printed
  abbrev pub Begins : Type 0
  Begins = Steps C L ctx width (frame.Block f) items items [] (after ∷ frame.Operation begun ∷ []) old new

  -- the same, from what the calls say
  pub operation_begun : (p : Ptr Operation) (indent : ℕ) (mid : List ℕ) → slice_get (operations_in ctx.graph f.block) f.operation ≡ Some p → IsSome (operation ctx p) → Nested (children ctx.graph) (parent ctx.graph) → IsLive ctx.graph (TheBlock f.block) → indent ≡ f.indent + width →
      heads.AreDirectivesAt types owns attributes same ctx p begun.directives → heads.FitsAt types owns attributes same ctx p → mid ≡ old ++ encode_utf8_all (unless_first f.first (between_operations indent)) →
      new ≡ mid ++ encode_utf8_all (heads.operation_front_at types owns attributes same ctx p) → begun ≡ heads.begun_at types owns attributes same ctx p begun.directives true indent f.limit → Begins
  operation_begun p indent mid got live nested alive n found fits between front is =
      let there = is_there (operation ctx p) live in
      block_begins C L ctx width f items [] p there.0 begun.directives indent old mid new (after ∷ frame.Operation begun ∷ []) (one_left (operations_in ctx.graph f.block) f.operation p (sym got)) there.1 nested alive n found fits between front (ap (λ b. after ∷ frame.Operation b ∷ []) is)

  module _ (s : Begins) where
    -- the operation fits its frame
    pub begun_fits : FrameFits C L ctx (frame.Operation begun)
    begun_fits = let fit = all_fit C L ctx width (frame.Block f) items items (after ∷ frame.Operation begun ∷ []) old new s in fit.1.0

    -- a reason why its rest fails is one why the block's does
    pub begun_fault : (e : Refusal) → OpenFault C (isolated ctx.dialects) width e (open_of C L ctx (frame.Operation begun)) → OpenFault C (isolated ctx.dialects) width e (open_of C L ctx (frame.Block f))
    begun_fault e x = fault_left C L ctx width (frame.Block f) items items (after ∷ frame.Operation begun ∷ []) old new s e (inr (inl x))

    module _ (left : OperationFrame) (items' : List Item) (frames : List Frame) (now : List ℕ) where
      -- its turns lead to the block's next operation, if they leave nothing of it
      pub turned_whole : Steps C L ctx width (frame.Operation begun) items items' [] [] new now → Descends C L ctx width (frame.Block f) after items items' frames frames old now
      turned_whole t = entered C L ctx width (frame.Block f) after items items' frames frames [] old now (sym (append-nil frames)) (chained C L ctx width (frame.Block f) (frame.Operation begun) items items items' (after ∷ []) [] old new now s t)

      -- or to a region of it
      pub turned_inside : (g : RegionFrame) (frames1 frames2 : List Frame) → Steps C L ctx width (frame.Operation begun) items items' [] (left_frames left (Some g)) new now → frames1 ≡ frames ++ after ∷ [] → frames2 ≡ frames1 ++ frame.Operation left ∷ [] →
          Descends C L ctx width (frame.Block f) (frame.Region g) items items' frames frames2 old now
      turned_inside g frames1 frames2 t one two = entered C L ctx width (frame.Block f) (frame.Region g) items items' frames frames2 (after ∷ frame.Operation left ∷ []) old now
          (two ∙ (ap (λ z. z ++ frame.Operation left ∷ []) one ∙ append_assoc frames (after ∷ []) (frame.Operation left ∷ [])))
          (chained C L ctx width (frame.Block f) (frame.Operation begun) items items items' (after ∷ []) (left_frames left (Some g)) old new now s t)
