-- What printing something promises, and what it gives of what was printed before: an operation, a region or a block as a whole.
use Rattle.std.proofs.Common.{◌≡◌, ◌∙◌, ◌++◌, ◌∷◌, [], ℕ, List, Result, Ok, OnOk, IfErr, IsSome, Bool, true, refl, sym, ap, subst, length, append-nil, inl, inr}
use Rattle.std.specs.Prelude.{⊤, ◌+◌, ◌≤◌, ◌^◌}
use Rattle.std.specs.Str.{encode_utf8_all}
use Rattle.irtext_base.specs.Own.{Language}
use Rattle.irtext_base.specs.declared.text.AttrText as attr_text
use Rattle.irtext_base.specs.declared.text.IrText as ir_text
use Rattle.irtext_context.specs.Context.{ContextView, operation, block}
use Rattle.irtext_context.specs.declared.base.item.Item.{Item}
use Rattle.irtext_graph.specs.Graph.{IsLive}
use Rattle.irtext_graph.specs.declared.arena.Ptr.{Ptr}
use Rattle.irtext_graph.specs.declared.object.BasicBlock.{BasicBlock}
use Rattle.irtext_graph.specs.declared.object.Object.TheVariants.{TheRegion}
use Rattle.irtext_graph.specs.declared.object.Operation.{Operation}
use Rattle.irtext_graph.specs.declared.object.Region.{Region}
use Rattle.irtext_grammar.specs.Contexts.Formats.{isolated}
use Rattle.irtext_grammar.specs.Graphs.Graph.{Printing}
use Rattle.irtext_print.proofs.Printers.Appended.{then, then-err}
use Rattle.irtext_print.proofs.Printers.Locations.{more}
use Rattle.irtext_print.specs.Printers.Shown.{Shown}
use Rattle.irtext_print.specs.Refusals.{IsOther}
use Rattle.irtext_print.specs.declared.printable.refusal.Refusal.{Refusal}
use Rattle.irtext_print.specs.declared.printable.refusal.Refusal.TheVariants.{Depth, Misfit}
use Rattle.irtext_print.specs.declared.printable.state.RegionPrintDepthLimit.{RegionPrintDepthLimit}
use Rattle.irtext_print_ops.specs.Heads as heads
use Rattle.irtext_print_ops.specs.Opened.{open_rest}
use Rattle.irtext_print_ops.specs.Steps.{IsTooDeep, region_front, region_frames}
use Rattle.irtext_print_ops.specs.Walk.{AllFit, FrameFits, open_of, items_left, Steps}
use Rattle.irtext_print_ops.specs.declared.frame.Frame.{Frame}
use Rattle.irtext_print_ops.specs.declared.frame.Frame.TheVariants as frame
use Rattle.irtext_print_ops.specs.declared.frame.OperationFrame.{OperationFrame}
use Rattle.irtext_print_ops.proofs.Alone as lone
use Rattle.irtext_print_ops.proofs.Chained.{all_fit}
use Rattle.irtext_print_ops.proofs.Faults.{only_fault}
use Rattle.irtext_print_ops.proofs.Refused.{fits_seen, under_refuses}
use Rattle.irtext_print_ops.proofs.Walked.{FramesFault, frames_text, first_fit, first_text, stepped_fault, stepped_misfits, stepped_text, stepped_items}

-- this text was appended and these items were gathered, and nothing of it is at fault; or this is why not
abbrev pub Prints : {X : Type 0} → List ℕ → List Item → Type 0 → (Refusal → Type 0) → List Item → List Item → List ℕ → List ℕ → Result X Refusal → Type 0
Prints text mine Bad Why items items' old new r = record {
  text : OnOk r (new ≡ old ++ text);
  items : OnOk r (items' ≡ items ++ mine);
  fits : OnOk r (Bad → ⊥);
  refused : IfErr r Why;
}

-- one promise from another
pub prints_as : {X : Type 0} (text text' : List ℕ) (mine mine' : List Item) (Bad Bad' : Type 0) (Why Why' : Refusal → Type 0) (items items1 items' : List Item) (old mid new : List ℕ) (r : Result X Refusal) → Prints text mine Bad Why items1 items' mid new r →
    (new ≡ mid ++ text → new ≡ old ++ text') → (items' ≡ items1 ++ mine → items' ≡ items ++ mine') → (Bad' → Bad) → ((e : Refusal) → Why e → Why' e) → Prints text' mine' Bad' Why' items items' old new r
prints_as text text' mine mine' Bad Bad' Why Why' items items1 items' old mid new r p f g h k = record {
  text = then r f p.text;
  items = then r g p.items;
  fits = then r (λ none bad. none (h bad)) p.fits;
  refused = then-err r k p.refused;
}

module _ {T A : Type 0} (C : Printing T A) (L : Language ⊤ T A) (ctx : ContextView T A) (width : ℕ) where
  -- frames are printed
  abbrev pub PrintsFrames : {X : Type 0} → List Frame → List Item → List Item → List ℕ → List ℕ → Result X Refusal → Type 0
  PrintsFrames frames items items' old new r = Prints (frames_text C L ctx width frames items) (items_left C L ctx frames) (FramesFault C L ctx width Misfit frames) (λ e. IsOther e → FramesFault C L ctx width e frames) items items' old new r

  module _ (here : Frame) (items items1 : List Item) (pushed : List Frame) (old mid : List ℕ) (s : Steps C L ctx width here items items1 [] pushed old mid) where
    -- steps from a frame, and what they leave, print the frame
    pub steps_printed : {X : Type 0} (r : Result X Refusal) (items' : List Item) (new : List ℕ) (frames : List Frame) → frames ≡ pushed → PrintsFrames frames items1 items' mid new r → PrintsFrames (here ∷ []) items items' old new r
    steps_printed r items' new frames e p = prints_as _ _ _ _ _ _ _ _ items items1 items' old mid new r (subst (λ z. PrintsFrames z items1 items' mid new r) e p)
        (λ w. w ∙ stepped_text C L ctx width here items items1 (here ∷ []) [] pushed old mid refl s _ refl)
        (λ i. i ∙ stepped_items C L ctx width here items items1 (here ∷ []) [] pushed old mid refl s _ refl)
        (stepped_misfits C L ctx width here items items1 (here ∷ []) [] pushed old mid refl s)
        (λ why h other. stepped_fault C L ctx width here items items1 (here ∷ []) [] pushed old mid refl s why (h other))

    -- what they leave fits
    pub steps_fit : (frames : List Frame) → frames ≡ pushed → AllFit C L ctx frames
    steps_fit frames e = subst (AllFit C L ctx) (sym e) (all_fit C L ctx width here items items1 pushed old mid s)

    -- so do steps that leave nothing
    pub steps_ended : {Y : Type 0} (y : Y) → pushed ≡ [] → PrintsFrames (here ∷ []) items items1 old mid (Ok y)
    steps_ended y e = steps_printed (Ok y) items1 mid [] (sym e) (record { text = sym (append-nil mid); items = sym (append-nil items1); fits = λ x. x; refused = tt })

-- what holds at the width, the indentation and the limit that were read of a state holds at the state
pub at_state : {U : Type 0} (s : Shown U) (w i : ℕ) (l : RegionPrintDepthLimit) → w ≡ s.width → i ≡ s.indent → l ≡ s.limit → (P : Shown U → Type 0) → P (record s { width = w; indent = i; limit = l }) → P s
at_state s w i l a b c P h = subst (λ k. P (record s { limit = k })) c (subst (λ j. P (record s { indent = j; limit = l })) b (subst (λ v. P (record s { width = v; indent = i; limit = l })) a h))

-- the frame of a block of which no operation was printed
abbrev pub block_frame : Ptr BasicBlock → ℕ → RegionPrintDepthLimit → Frame
block_frame p i l = frame.Block (record { block = p; operation = 0; first = true; indent = i; limit = l })

module _ {T A : Type 0} (types : ir_text.Ghosts T A) (owns : ir_text.Ghosts A A) (attributes : attr_text.Ghosts A A) (same : A → A → Bool) (ctx : ContextView T A) where
  abbrev C : Printing T A
  C = heads.printing_of types owns attributes same ctx

  abbrev L : Language ⊤ T A
  L = heads.language_of types owns attributes same ctx

  module _ (w i : ℕ) (l : RegionPrintDepthLimit) where
    -- what is open of an operation, a region or a block after its beginning fits
    pub operation_fits : (p : Ptr Operation) (marked : Bool) (begun : OperationFrame) → IsSome (operation ctx p) → begun ≡ heads.begun_at types owns attributes same ctx p begun.directives marked i l →
        heads.AreDirectivesAt types owns attributes same ctx p begun.directives → heads.FitsAt types owns attributes same ctx p → FrameFits C L ctx (frame.Operation begun)
    operation_fits p marked begun live is found fits = subst (λ b. FrameFits C L ctx (frame.Operation b)) (sym is) (let all = first_fit C L ctx w p begun.directives marked i l 0 (isolated ctx.dialects) (live, found) fits in all.0)

    pub region_fits : (p : Ptr Region) (frames : List Frame) → frames ≡ region_frames p i l → IsLive ctx.graph (TheRegion p) → AllFit C L ctx frames
    region_fits p frames is live = subst (AllFit C L ctx) (sym is) (lone.region_fits C L ctx w i p l live)

    pub block_fits : (p : Ptr BasicBlock) (frames : List Frame) → frames ≡ block_frame p i l ∷ [] → IsSome (block ctx p) → AllFit C L ctx frames
    block_fits p frames is live = subst (AllFit C L ctx) (sym is) (lone.block_fits C L ctx w i p l live)

  module _ {X U : Type 0} (s : Shown U) (r : Result X Refusal) (items items' : List Item) (old new : List ℕ) where
    -- an operation, a region and a block are printed at a state
    abbrev pub PrintsOperation : Ptr Operation → Bool → Shown U → Type 0
    PrintsOperation p marked s = Prints (encode_utf8_all (heads.text_under types owns attributes same ctx p s marked (length items))) (heads.items_under types owns attributes same ctx p s marked) (heads.MisfitsUnder types owns attributes same ctx p s) (heads.RefusesUnder types owns attributes same ctx p s) items items' old new r

    abbrev pub PrintsRegion : Ptr Region → Shown U → Type 0
    PrintsRegion p s = Prints (encode_utf8_all (heads.region_text_under types owns attributes same ctx p s (length items))) (heads.region_items_under types owns attributes same ctx p s) (heads.RegionFaultUnder types owns attributes same ctx p s Misfit) (heads.RefusesRegionUnder types owns attributes same ctx p s) items items' old new r

    abbrev pub PrintsBlock : Ptr BasicBlock → Shown U → Type 0
    PrintsBlock p s = Prints (encode_utf8_all (heads.block_text_under types owns attributes same ctx p s (length items))) (heads.block_items_under types owns attributes same ctx p s) (heads.BlockFaultUnder types owns attributes same ctx p s Misfit) (heads.RefusesBlockUnder types owns attributes same ctx p s) items items' old new r

    module _ (w i : ℕ) (l : RegionPrintDepthLimit) (width_is : w ≡ s.width) (indent_is : i ≡ s.indent) (limit_is : l ≡ s.limit) where
      -- what comes before its parts was printed of an operation, and then these
      pub operation_printed : (p : Ptr Operation) (marked : Bool) (begun : OperationFrame) (mid : List ℕ) → mid ≡ old ++ encode_utf8_all (heads.operation_front_at types owns attributes same ctx p) →
          begun ≡ heads.begun_at types owns attributes same ctx p begun.directives marked i l → heads.FitsAt types owns attributes same ctx p →
          PrintsFrames C L ctx w (frame.Operation begun ∷ []) items items' mid new r → PrintsOperation p marked s
      operation_printed p marked begun mid front is fits printed =
          let first = frame.Operation (heads.begun_at types owns attributes same ctx p begun.directives marked i l) in
          at_state s w i l width_is indent_is limit_is (PrintsOperation p marked) (prints_as _ _ _ _ _ _ _ _ items items items' old mid new r (subst (λ b. PrintsFrames C L ctx w (frame.Operation b ∷ []) items items' mid new r) is printed)
          (λ e. e ∙ first_text C L ctx w p begun.directives marked i l (length items) items old mid refl front)
          (λ e. e)
          (λ x. elim x [ inl other ↦ absurd (other (fits_seen C L ctx w p fits)) | inr y ↦ inl y ])
          (λ e h. under_refuses types owns attributes same ctx p (record s { width = w; indent = i; limit = l }) e (λ other. inr (only_fault C (isolated ctx.dialects) w e (open_of C L ctx first) (h other)))))

      -- what comes before its blocks was printed of a region, and then these
      pub region_printed : (p : Ptr Region) (frames : List Frame) (mid : List ℕ) → mid ≡ old ++ encode_utf8_all (region_front w i l) → frames ≡ region_frames p i l →
          PrintsFrames C L ctx w frames items items' mid new r → PrintsRegion p s
      region_printed p frames mid front is printed = at_state s w i l width_is indent_is limit_is (PrintsRegion p) (prints_as _ _ _ _ _ _ _ _ items items items' old mid new r (subst (λ z. PrintsFrames C L ctx w z items items' mid new r) is printed)
          (λ e. more old mid new (region_front w i l) (open_rest C L w (lone.opened C L ctx w i p l) (length items)) front e ∙ ap (λ z. old ++ encode_utf8_all z) (lone.region_left C L ctx w i p l (length items)))
          (λ e. e ∙ ap (λ z. items ++ z) (lone.region_items C L ctx w i p l))
          (lone.region_misfits C L ctx w i p l)
          (λ e h other. lone.region_fault C L ctx w i p l e (h other)))

      -- its head and its mark were printed of a block, and then its operations
      pub block_printed : (p : Ptr BasicBlock) (frames : List Frame) (inner : ℕ) (items1 : List Item) (f1 f2 mid : List ℕ) → inner ≡ i + w → f1 ≡ old ++ encode_utf8_all (heads.block_head_at types owns attributes same ctx p) →
          f2 ≡ f1 ++ encode_utf8_all (heads.block_mark_at types owns attributes same ctx p (length items)) → mid ≡ f2 ++ encode_utf8_all (lone.colon inner) → items1 ≡ items ++ heads.block_items_at types owns attributes same ctx p →
          frames ≡ lone.first_block C L ctx w i p l ∷ [] → PrintsFrames C L ctx w frames items1 items' mid new r → PrintsBlock p s
      block_printed p frames inner items1 f1 f2 mid n w1 w2 w3 k is printed = at_state s w i l width_is indent_is limit_is (PrintsBlock p) (prints_as _ _ _ _ _ _ _ _ items items1 items' old mid new r (subst (λ z. PrintsFrames C L ctx w z items1 items' mid new r) is printed)
          (λ e. e ∙ lone.block_written C L ctx w i p l items items1 inner old f1 f2 mid n w1 w2 w3 k)
          (lone.block_gathered C L ctx w i p l items items1 items' k)
          (λ x. inl x)
          (λ e h other. lone.block_fault C L ctx w i p l e (h other)))

  module _ {U : Type 0} (s : Shown U) (w i : ℕ) (l : RegionPrintDepthLimit) (width_is : w ≡ s.width) (indent_is : i ≡ s.indent) (limit_is : l ≡ s.limit) where
    -- a region, or a block, that is too deep is not printed
    pub region_unprinted : (p : Ptr Region) (e : Refusal) → (IsOther e → (e ≡ Depth) × IsTooDeep w i l) → heads.RefusesRegionUnder types owns attributes same ctx p s e
    region_unprinted p e deep = at_state s w i l width_is indent_is limit_is (λ z. heads.RefusesRegionUnder types owns attributes same ctx p z e) (lone.region_refused C L ctx w i p l e deep)

    pub block_unprinted : (p : Ptr BasicBlock) (e : Refusal) → (e ≡ Depth) × (2 ^ 16 ≤ i + w) → heads.RefusesBlockUnder types owns attributes same ctx p s e
    block_unprinted p e deep = at_state s w i l width_is indent_is limit_is (λ z. heads.RefusesBlockUnder types owns attributes same ctx p z e) (λ other. lone.block_refused_deep C L ctx w i p l e deep.0 deep.1)
