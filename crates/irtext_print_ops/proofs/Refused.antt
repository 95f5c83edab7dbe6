-- Why a turn fails: the reason that a call returns is a reason of what was open.
use Rattle.std.proofs.Common.{◌≡◌, ◌≤◌, ◌+◌, ◌^◌, inl, inr, ℕ, zero, suc, List, length, drop, Some, None, IsSome, Bool, false, refl, ap, sym, subst, ◌∙◌, true≢false}
use Rattle.std.specs.Prelude.{⊤, slice_get, option_map, Result, Err, IfErr, IsErrAnd}
use Rattle.std.proofs.lemmas.Result.{err_from_is_err_and}
use Rattle.irtext_base.specs.Own.{Language}
use Rattle.irtext_base.specs.declared.text.AttrText as attr_text
use Rattle.irtext_base.specs.declared.text.IrText as ir_text
use Rattle.irtext_print.specs.Printers.Shown.{Shown}
use Rattle.irtext_print_ops.specs.Heads as heads
use Rattle.irtext_context.specs.Context.{ContextView, OperationView, operation, block_of}
use Rattle.irtext_graph.specs.declared.arena.Ptr.{Ptr}
use Rattle.irtext_graph.specs.declared.object.BasicBlock.{BasicBlock}
use Rattle.irtext_graph.specs.declared.object.Operation.{Operation}
use Rattle.irtext_graph.specs.declared.object.Region.{Region}
use Rattle.irtext_graph.specs.Graph.{children, parent}
use Rattle.irtext_graph.specs.Nested.{Nested}
use Rattle.irtext_graph.specs.Parts.{regions, blocks, operations_in}
use Rattle.irtext_grammar.specs.Contexts.Formats.{isolated}
use Rattle.irtext_grammar.specs.Contexts.Nested.{operations_by, blocks_by, regions_by, seen_regions, seen_blocks, seen_operations, seen_operation, seen_block}
use Rattle.irtext_grammar.specs.Grammar.Forest as forest
use Rattle.irtext_grammar.specs.Grammar.Forest.{regions_list}
use Rattle.irtext_grammar.specs.Graphs.Closed.{FitsFormat, FitsOp}
use Rattle.irtext_grammar.specs.Graphs.Graph.{Printing, is_elided}
use Rattle.irtext_print.specs.Printers.PrintedOperation.{levels}
use Rattle.irtext_print.specs.Printers.Printing.{lowered}
use Rattle.irtext_print.specs.Refusals.{IsOther}
use Rattle.irtext_print.specs.declared.printable.refusal.Refusal.{Refusal}
use Rattle.irtext_print.specs.declared.printable.refusal.Refusal.TheVariants.{Memory, Depth, Misfit}
use Rattle.irtext_print.specs.declared.printable.state.RegionPrintDepthLimit.{RegionPrintDepthLimit}
use Rattle.irtext_print.specs.declared.printable.state.RegionPrintDepthLimit.TheVariants.{Unlimited, Max}
use Rattle.irtext_print_ops.specs.Opened.{a_block}
use Rattle.irtext_print_ops.proofs.Depths.{inside_is}
use Rattle.irtext_context.proofs.Drops.{one_left}
use Rattle.irtext_print_ops.specs.Faults.{OperationFault, RegionsFault, BlocksFault, OpenFault}
use Rattle.irtext_print_ops.specs.Steps.{NextTooDeep}
use Rattle.irtext_print_ops.specs.Walk.{seen_at, inside_of, regions_left, blocks_left, operations_left, open_of}
use Rattle.irtext_print_ops.specs.declared.frame.Frame.TheVariants as frame
use Rattle.irtext_print_ops.specs.declared.frame.OperationFrame.{OperationFrame}
use Rattle.irtext_print_ops.specs.declared.frame.RegionFrame.{RegionFrame}
use Rattle.irtext_print_ops.specs.declared.frame.BlockFrame.{BlockFrame}
use Rattle.irtext_print_ops.proofs.Tests.{is_there}
use Rattle.irtext_print_ops.proofs.Turned.{seen_some, block_there, regions_seen}

-- what holds of an error that is returned by `?`
pub propagated : {R E : Type 0} (P : E → Type 0) (r : Result R E) (e : E) → IsErrAnd r (λ y. y ≡ e) → P e → IfErr r P
propagated P r e h p = let q = err_from_is_err_and r h in subst (λ z. IfErr z P) (sym (q.1 ∙ ap Err q.2)) p

module _ {T A : Type 0} (types : ir_text.Ghosts T A) (owns : ir_text.Ghosts A A) (attributes : attr_text.Ghosts A A) (same : A → A → Bool) (ctx : ContextView T A) where
  -- what an error says, from the reason that it has
  pub under_refuses : {U : Type 0} (p : Ptr Operation) (s : Shown U) (e : Refusal) → (IsOther e → heads.FaultUnder types owns attributes same ctx p s e) → heads.RefusesUnder types owns attributes same ctx p s e
  under_refuses p s (Memory e) h = tt
  under_refuses p s Depth h = elim (h (λ k. k)) [ inl x ↦ absurd x | inr x ↦ x ]
  under_refuses p s Misfit h = h (λ k. k)

module _ {T A : Type 0} (C : Printing T A) (L : Language ⊤ T A) (ctx : ContextView T A) (width : ℕ) where
  -- a region that is not elided
  shown : (limit : RegionPrintDepthLimit) → IsSome (lowered limit) → is_elided C (levels limit) ≡ false
  shown Unlimited h = refl
  shown (Max zero) h = absurd (true≢false (sym h))
  shown (Max (suc n)) h = refl

  -- the next region of an operation is too deep
  next_too_deep : (f : OperationFrame) → NextTooDeep ctx width f → OpenFault C (isolated ctx.dialects) width Depth (open_of C L ctx (frame.Operation f))
  next_too_deep f h =
      let r = is_there (slice_get (regions ctx.graph f.op) f.region) h.0 in
      let here = λ (z : List (Ptr Region)). seen_regions L.owns.written ctx (regions_by ctx.graph (inside_of C L ctx) z) in
      subst (λ z. RegionsFault C (isolated ctx.dialects) width Depth f.indent (levels f.limit) (here z)) (sym (one_left (regions ctx.graph f.op) f.region r.0 (sym r.1))) (inl (shown f.limit h.1.0, inl h.1.1))

  -- the error of a turn that writes a region
  pub region_turn_refused : (f : OperationFrame) (e : Refusal) → (IsOther e → (e ≡ Depth) × NextTooDeep ctx width f) → IsOther e → OpenFault C (isolated ctx.dialects) width e (open_of C L ctx (frame.Operation f))
  region_turn_refused f e h other = let is = h other in subst (λ z. OpenFault C (isolated ctx.dialects) width z (open_of C L ctx (frame.Operation f))) (sym is.0) (next_too_deep f is.1)

  -- the next block of a region is too deep
  block_too_deep : (f : RegionFrame) (b : Ptr BasicBlock) → Nested (children ctx.graph) (parent ctx.graph) → slice_get (blocks ctx.graph f.region) f.block ≡ Some b → 2 ^ 16 ≤ (f.indent + width) + width →
      OpenFault C (isolated ctx.dialects) width Depth (open_of C L ctx (frame.Region f))
  block_too_deep f b nested got deep =
      let l = levels f.limit in
      let here = λ (z : List (Ptr BasicBlock)). seen_blocks L.owns.written ctx (blocks_by ctx.graph (inside_of C L ctx) z) in
      let sos = seen_operations L.owns.written ctx (operations_left C L ctx b 0) in
      let sbs = seen_blocks L.owns.written ctx (blocks_left C L ctx f.region (f.block + 1)) in
      let at = block_there C L ctx width nested f.region b f.block got in
      let shows : here (drop f.block (blocks ctx.graph f.region)) ≡ forest.block (seen_block L.owns.written ctx b (block_of at.0)) sos sbs =
      ap here (one_left (blocks ctx.graph f.region) f.block b (sym got))
      ∙ ap (λ x. elim x [ Some view ↦ forest.block (seen_block L.owns.written ctx b view) sos sbs | None ↦ sbs ]) (ap (option_map block_of) at.1) in
      subst (λ z. BlocksFault C (isolated ctx.dialects) width Depth (f.indent + width) l z) (sym shows) (inl (inl deep))

  -- the error of a turn that writes a block's head
  pub block_refused : (f : RegionFrame) (b : Ptr BasicBlock) (e : Refusal) → Nested (children ctx.graph) (parent ctx.graph) → slice_get (blocks ctx.graph f.region) f.block ≡ Some b →
      e ≡ Depth → 2 ^ 16 ≤ (f.indent + width) + width → IsOther e → OpenFault C (isolated ctx.dialects) width e (open_of C L ctx (frame.Region f))
  block_refused f b e nested got is deep other = subst (λ z. OpenFault C (isolated ctx.dialects) width z (open_of C L ctx (frame.Region f))) (sym is) (block_too_deep f b nested got deep)

  -- an operation that fits its format does with the regions that are seen of it
  pub fits_seen : (p : Ptr Operation) → FitsFormat C (isolated ctx.dialects) (C.format_of (seen_at C L ctx p).id) (seen_at C L ctx p) (length (regions ctx.graph p)) →
      FitsOp C (isolated ctx.dialects) (seen_at C L ctx p) (seen_regions L.owns.written ctx (regions_left C L ctx p 0))
  fits_seen p fits = subst (FitsFormat C (isolated ctx.dialects) (C.format_of (seen_at C L ctx p).id) (seen_at C L ctx p)) (regions_seen C L ctx width (inside_of C L ctx) (regions ctx.graph p)) fits

  -- the operation doesn't fit its format
  pub misfits : (p : Ptr Operation) (e : Refusal) → (IsOther e → (e ≡ Misfit) × (FitsFormat C (isolated ctx.dialects) (C.format_of (seen_at C L ctx p).id) (seen_at C L ctx p) (length (regions ctx.graph p)) → ⊥)) → IsOther e →
      OperationFault C (isolated ctx.dialects) width e (seen_at C L ctx p) (seen_regions L.owns.written ctx (regions_left C L ctx p 0))
  misfits p e h other =
      let is = h other in
      let o = seen_at C L ctx p in
      let rs = seen_regions L.owns.written ctx (regions_left C L ctx p 0) in
      let no : FitsFormat C (isolated ctx.dialects) (C.format_of o.id) o (length (regions_list rs)) → ⊥ = λ fits. is.1 (subst (FitsFormat C (isolated ctx.dialects) (C.format_of o.id) o) (sym (regions_seen C L ctx width (inside_of C L ctx) (regions ctx.graph p))) fits) in
      subst (λ z. OperationFault C (isolated ctx.dialects) width z o rs) (sym is.0) no

  -- the next operation of a block doesn't fit its format
  pub operation_refused : (f : BlockFrame) (p : Ptr Operation) (op : OperationView T A) (e : Refusal) → Nested (children ctx.graph) (parent ctx.graph) → slice_get (operations_in ctx.graph f.block) f.operation ≡ Some p → operation ctx p ≡ Some op →
      (IsOther e → (e ≡ Misfit) × (FitsFormat C (isolated ctx.dialects) (C.format_of (seen_at C L ctx p).id) (seen_at C L ctx p) (length (regions ctx.graph p)) → ⊥)) → IsOther e →
      OpenFault C (isolated ctx.dialects) width e (open_of C L ctx (frame.Block f))
  operation_refused f p op e nested got is h other =
      let o = seen_at C L ctx p in
      let here = λ (z : List (Ptr Operation)). seen_operations L.owns.written ctx (operations_by ctx.graph (inside_of C L ctx) z) in
      let inner = inside_of C L ctx p in
      let sos = seen_operations L.owns.written ctx (operations_left C L ctx f.block (f.operation + 1)) in
      let rs = seen_regions L.owns.written ctx (regions_left C L ctx p 0) in
      let same : o ≡ seen_operation L.owns.written ctx p op = seen_some C L ctx width (operation ctx p) op p is in
      let shows : here (drop f.operation (operations_in ctx.graph f.block)) ≡ forest.operation o rs sos =
      ap here (one_left (operations_in ctx.graph f.block) f.operation p (sym got))
      ∙ (ap (λ x. elim x [ Some op ↦ forest.operation (seen_operation L.owns.written ctx p op) (seen_regions L.owns.written ctx inner) sos | None ↦ sos ]) is
      ∙ (ap (λ x. forest.operation x (seen_regions L.owns.written ctx inner) sos) (sym same)
      ∙ ap (λ x. forest.operation o (seen_regions L.owns.written ctx x) sos) (inside_is ctx.graph nested p))) in
      subst (λ z. OpenFault C (isolated ctx.dialects) width e (a_block f.indent (levels f.limit) f.first z)) (sym shows) (inr (inl (inl (misfits p e h other))))
