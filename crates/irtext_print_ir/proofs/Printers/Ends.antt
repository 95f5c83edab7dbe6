-- What follows the concrete text of an operation without a parent block: its mark, and the section.
use Rattle.std.proofs.Common.{◌≡◌, ◌∙◌, ◌+◌, ◌++◌, ◌∷◌, [], ℕ, List, Bool, true, false, cond, Option, Some, None, option_map, IsSome, map, length, refl, sym, ap, ap₂, arith, codes, append_assoc, append-nil, length-append, true≢false, Result, Ok, Err, OnOk}
use Rattle.std.proofs.lemmas.List.{length-map}
use Rattle.std.specs.Prelude.{⊤, ◌==◌, decimal, not}
use Rattle.std.specs.Str.{encode_utf8_all}
use Rattle.irtext_base.specs.Own.{Language}
use Rattle.irtext_base.specs.Text.{Text}
use Rattle.irtext_base.specs.declared.text.AttrText as attr_text
use Rattle.irtext_base.specs.declared.text.IrText as ir_text
use Rattle.irtext_context.specs.Context.{ContextView, operation}
use Rattle.irtext_context.specs.declared.base.item.Item.{Item}
use Rattle.irtext_context.specs.declared.base.item.Item.TheVariants as item
use Rattle.irtext_graph.specs.declared.arena.Ptr.{Ptr}
use Rattle.irtext_graph.specs.declared.object.Operation.{Operation}
use Rattle.irtext_grammar.specs.Contexts.Nested.{seen_operation, seen_own, seen_regions}
use Rattle.irtext_grammar.specs.Graphs.Graph.{GraphOp, Entry, Printing, is_marked, mark_at, op_outlined, entries_of_regions, marks_in_regions}
use Rattle.irtext_grammar.specs.Spelling.Spell.{mark_if}
use Rattle.irtext_grammar.proofs.Sections.Content.{regions_length}
use Rattle.irtext_print.proofs.Printers.FitsTests.{counted}
use Rattle.irtext_print.proofs.Printers.Locations.{more}
use Rattle.irtext_print.proofs.Printers.RootParts.{there}
use Rattle.irtext_print.specs.Printers.PrintedOperation.{levels}
use Rattle.irtext_print.specs.Printers.Printing.{gathered_of, with_gathered}
use Rattle.irtext_print.specs.Printers.Shown.{Shown}
use Rattle.irtext_print_ir.specs.Printers.Printed.{Printed, block_round, gathers, root_text, root_left, root_items, end_text}
use Rattle.irtext_print_ir.proofs.Printers.Roots.{regions_given}
use Rattle.irtext_print.proofs.Lone.{zero_written}
use Rattle.irtext_print.specs.Given.{operation_entry, given_at}
use Rattle.irtext_print.specs.Items.{section_of, section_at, alone_of, alone_at}
use Rattle.irtext_print_ops.specs.Heads as heads
use Rattle.irtext_print_ops.specs.Walk.{or_nothing, regions_left, items_in_regions}

-- what is known anyway is known of a success
pub at_success : {X E P : Type 0} (r : Result X E) → P → OnOk r P
at_success (Ok x) p = p
at_success (Err e) p = tt

-- nothing was gathered if the test holds
pub none_gathered : (gs : List Item) (b : Bool) → b ≡ not (length gs == 0) → b ≡ false → gs ≡ []
none_gathered [] b e h = refl
none_gathered (x ∷ gs) b e h = absurd (true≢false (sym (ap not (counted (length gs))) ∙ sym e ∙ h))

-- two facts about a success
pub both_end : {X E P Q Z : Type 0} (r : Result X E) → (P → Q → Z) → OnOk r P → OnOk r Q → OnOk r Z
both_end (Ok x) f p q = f p q
both_end (Err e) f p q = tt

module _ {T A : Type 0} (types : ir_text.Ghosts T A) (owns : ir_text.Ghosts A A) (attributes : attr_text.Ghosts A A) (same : A → A → Bool) (ctx : ContextView T A) (p : Ptr Operation) where
  -- where nothing was gathered, it is the mark and the section of the operation alone
  pub alone_ends : IsSome (operation ctx p) → alone_at types owns attributes same ctx (item.Operation p) ≡ end_text types owns attributes same ctx p []
  alone_ends live =
      let C = heads.printing_of types owns attributes same ctx in
      let L = heads.language_of types owns attributes same ctx in
      let v = there (operation ctx p) live in
      let o : GraphOp T A = seen_operation owns.written ctx p v.0 in
      let sees : seen_own owns.written ctx p ≡ Some o = ap (option_map (seen_operation owns.written ctx p)) v.1 in
      let given = given_at types owns attributes same ctx in
      let ends : GraphOp T A → Text = λ o. mark_if L (mark_at C 0 o.location (op_outlined C o)) ++ section_of C L (map given (cond (is_marked C o.location (op_outlined C o)) (item.Operation p ∷ []) [])) in
      ap (λ s. alone_of C L (option_map (operation_entry C) s)) sees
      ∙ (by C L (is_marked C o.location (op_outlined C o)) (operation_entry C o) given (ap (option_map (operation_entry C)) sees)
      ∙ ap (λ s. ends (or_nothing s)) (sym sees))
    where
      by : (C : Printing T A) (L : Language ⊤ T A) (b : Bool) (e : Entry C) (given : Item → Option (Entry C)) → given (item.Operation p) ≡ Some e → cond b (codes " !0" ++ section_of C L (Some e ∷ [])) []
          ≡ mark_if L (cond b (Some (record { place = tt; index = 0 })) None) ++ section_of C L (map given (cond b (item.Operation p ∷ []) []))
      by C L true e given h = ap (λ n. (codes " !" ++ n) ++ section_of C L (Some e ∷ [])) (sym zero_written) ∙ ap (λ z. (codes " !" ++ decimal 0) ++ section_of C L (z ∷ [])) (sym h)
      by C L false e given h = refl

  module _ {U : Type 0} (s : Shown U) where
    -- the items in the operation's regions
    abbrev within : List Item
    within = items_in_regions (heads.printing_of types owns attributes same ctx) (heads.language_of types owns attributes same ctx) ctx (levels s.limit) (regions_left (heads.printing_of types owns attributes same ctx) (heads.language_of types owns attributes same ctx) ctx p 0)

    -- as many marks are written in the regions as items are gathered
    items_counted : length within ≡ marks_in_regions (heads.printing_of types owns attributes same ctx) (levels s.limit) (heads.regions_under types owns attributes same ctx p)
    items_counted =
        let C = heads.printing_of types owns attributes same ctx in
        let L = heads.language_of types owns attributes same ctx in
        let rs = regions_left C L ctx p 0 in
        let es = entries_of_regions C (levels s.limit) (seen_regions owns.written ctx rs) in
        sym (length-map within (given_at types owns attributes same ctx)) ∙ (ap length (regions_given C L ctx (levels s.limit) rs) ∙ (length-map es (λ e. Some e) ∙ regions_length C (levels s.limit) (seen_regions owns.written ctx rs)))

    -- the text with the mark, after the one without
    pub text_ends : heads.text_under types owns attributes same ctx p s true (length s.gathered)
        ≡ heads.text_under types owns attributes same ctx p s false (length s.gathered) ++ heads.own_mark_at types owns attributes same ctx p true (length (s.gathered ++ heads.items_under types owns attributes same ctx p s false))
    text_ends =
        let m = length s.gathered + marks_in_regions (heads.printing_of types owns attributes same ctx) (levels s.limit) (heads.regions_under types owns attributes same ctx p) in
        let plain = heads.text_under types owns attributes same ctx p s false (length s.gathered) in
        let mark = heads.own_mark_at types owns attributes same ctx p true in
        let count : m ≡ length (s.gathered ++ heads.items_under types owns attributes same ctx p s false) =
        (let a = length-append s.gathered (within ++ []) in let b = length-append within [] in let c = items_counted in omega (arith, a, b, c)) in
        ap₂ ◌++◌ (sym (append-nil _)) (ap mark count)

    -- all items, after those without the operation
    pub items_end : s.gathered ++ heads.items_under types owns attributes same ctx p s true ≡ (s.gathered ++ heads.items_under types owns attributes same ctx p s false) ++ heads.own_items_at types owns attributes same ctx p true
    items_end = regroup s.gathered within (heads.own_items_at types owns attributes same ctx p true)
      where
        regroup : (a b c : List Item) → a ++ (b ++ c) ≡ (a ++ (b ++ [])) ++ c
        regroup a b c = simp (append_assoc, append-nil)

    -- a root was printed: its concrete text, and what follows it
    pub root_ends : (old mid new : List ℕ) (between t : Shown U) → block_round ctx p ≡ None → mid ≡ old ++ encode_utf8_all (heads.text_under types owns attributes same ctx p s false (length s.gathered)) →
        between ≡ gathers s (heads.items_under types owns attributes same ctx p s false) → (heads.MisfitsUnder types owns attributes same ctx p s → ⊥) →
        new ≡ mid ++ encode_utf8_all (end_text types owns attributes same ctx p (gathered_of between)) → t ≡ with_gathered between [] →
        Printed (root_text types owns attributes same ctx p s) (root_left types owns attributes same ctx p s) (heads.MisfitsUnder types owns attributes same ctx p s) old t new
    root_ends old mid new between t alone w k f v e =
        let plain = heads.text_under types owns attributes same ctx p s false (length s.gathered) in
        let marked = heads.text_under types owns attributes same ctx p s true (length s.gathered) in
        let items = s.gathered ++ heads.items_under types owns attributes same ctx p s false in
        let mark = heads.own_mark_at types owns attributes same ctx p true (length items) in
        let sec = section_at types owns attributes same ctx in
        let own = heads.own_items_at types owns attributes same ctx p true in
        let whole : plain ++ end_text types owns attributes same ctx p items ≡ root_text types owns attributes same ctx p s =
        sym (append_assoc plain mark (sec (items ++ own)))
        ∙ (ap₂ (λ a b. a ++ sec b) (sym text_ends) (sym items_end)
        ∙ ap (λ o. marked ++ elim o [ Some b ↦ [] | None ↦ sec (root_items types owns attributes same ctx p s) ]) (sym alone)) in
        record {
          text = more old mid new plain (end_text types owns attributes same ctx p items) w (v ∙ ap (λ z. mid ++ encode_utf8_all (end_text types owns attributes same ctx p (gathered_of z))) k) ∙ ap (λ z. old ++ encode_utf8_all z) whole;
          state = e ∙ (ap (λ z. with_gathered z []) k ∙ ap (λ o. with_gathered s (elim o [ Some b ↦ root_items types owns attributes same ctx p s | None ↦ [] ])) (sym alone));
          fits = f;
        }
