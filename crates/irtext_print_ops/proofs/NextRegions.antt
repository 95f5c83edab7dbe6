-- What a turn of an operation prints of its next region, and what is open after that.
use Rattle.std.proofs.Common.{◌≡◌, ◌++◌, ◌∷◌, ◌∙◌, [], ℕ, List, Option, Some, None, append-nil, ap, sym, cond, codes, false, ◌+◌, slice_get, is_some}
use Rattle.std.specs.Str.{encode_utf8_all}
use Rattle.irtext_context.specs.Context.{ContextView}
use Rattle.irtext_graph.specs.declared.arena.Ptr.{Ptr}
use Rattle.irtext_graph.specs.declared.object.Region.{Region}
use Rattle.irtext_graph.specs.Parts.{regions}
use Rattle.irtext_print.specs.Refusals.{IsOther}
use Rattle.irtext_print.specs.declared.printable.refusal.Refusal.{Refusal}
use Rattle.irtext_print.specs.declared.printable.refusal.Refusal.TheVariants.{Depth}
use Rattle.irtext_print_ops.specs.Steps.{IsTooDeep, NextTooDeep, begun_frames, region_frames, region_front, region_turn_frames, region_turn_text}
use Rattle.irtext_print_ops.specs.declared.frame.Frame.TheVariants as frame
use Rattle.irtext_print_ops.specs.declared.frame.OperationFrame.{OperationFrame}
use Rattle.irtext_print_ops.specs.declared.frame.RegionFrame.{RegionFrame}

module _ {T A : Type 0} (ctx : ContextView T A) (width : ℕ) (f : OperationFrame) where
  abbrev text_at : Option (Ptr Region) → List ℕ
  text_at next = encode_utf8_all (elim next [ None ↦ [] | Some _ ↦ cond f.repeats [] (codes " ") ++ region_front width f.indent f.limit ])

  -- past the last region nothing is printed
  pub past_text : slice_get (regions ctx.graph f.op) f.region ≡ None → (old : List ℕ) → old ≡ old ++ encode_utf8_all (region_turn_text ctx width f)
  past_text past old = sym (append-nil old) ∙ ap (λ z. old ++ text_at z) (sym past)

  -- and the operation goes on after its regions
  pub past_left : slice_get (regions ctx.graph f.op) f.region ≡ None → frame.Operation (record f { repeats = false }) ∷ [] ≡ region_turn_frames ctx f
  past_left past = ap (λ z. elim z [ None ↦ frame.Operation (record f { repeats = false }) ∷ [] | Some r ↦ frame.Operation (record f { region = f.region + 1 }) ∷ region_frames r f.indent f.limit ]) (sym past)

  module _ (r : Ptr Region) (next : slice_get (regions ctx.graph f.op) f.region ≡ Some r) where
    -- the beginning of the next region
    pub begun_text : (old new : List ℕ) → new ≡ old ++ encode_utf8_all (cond f.repeats [] (codes " ") ++ region_front width f.indent f.limit) → new ≡ old ++ encode_utf8_all (region_turn_text ctx width f)
    begun_text old new e = e ∙ ap (λ z. old ++ text_at z) (sym next)

    -- the operation and that region are open after it
    pub begun_left : (begun : Option RegionFrame) → begun_frames begun ≡ region_frames r f.indent f.limit → frame.Operation (record f { region = f.region + 1 }) ∷ begun_frames begun ≡ region_turn_frames ctx f
    begun_left begun e =
        ap (λ z. frame.Operation (record f { region = f.region + 1 }) ∷ z) e
        ∙ ap (λ z. elim z [ None ↦ frame.Operation (record f { repeats = false }) ∷ [] | Some r ↦ frame.Operation (record f { region = f.region + 1 }) ∷ region_frames r f.indent f.limit ]) (sym next)

    -- a region that is too deep is the next one
    pub too_deep : (e : Refusal) → (IsOther e → (e ≡ Depth) × IsTooDeep width f.indent f.limit) → IsOther e → (e ≡ Depth) × NextTooDeep ctx width f
    too_deep e refused other = let is = refused other in (is.0, (ap is_some next, is.1))
