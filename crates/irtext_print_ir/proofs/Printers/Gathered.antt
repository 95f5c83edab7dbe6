-- What was printed and gathered of an operation, as the clauses of its printing have it.
use Rattle.std.proofs.Common.{◌≡◌, ◌∙◌, ◌++◌, ℕ, Bool, List, [], true, refl, sym, ap, subst, length, Option, Some, None, option_map, IsSome, Result, Ok, Err, OnOk, append-nil}
use Rattle.std.specs.Str.{encode_utf8_all}
use Rattle.irtext_base.specs.Text.{Text}
use Rattle.irtext_base.specs.declared.text.AttrText as attr_text
use Rattle.irtext_base.specs.declared.text.IrText as ir_text
use Rattle.irtext_context.specs.Context.{ContextView, OperationView, operation}
use Rattle.irtext_context.specs.declared.base.item.Item.{Item}
use Rattle.irtext_graph.specs.Graph.{children, parent}
use Rattle.irtext_graph.specs.Nested.{Nested}
use Rattle.irtext_graph.specs.declared.arena.Ptr.{Ptr}
use Rattle.irtext_graph.specs.declared.object.BasicBlock.{BasicBlock}
use Rattle.irtext_graph.specs.declared.object.Object.TheVariants.{TheBlock}
use Rattle.irtext_graph.specs.declared.object.Operation.{Operation}
use Rattle.irtext_graph.proofs.Nests.{some_eq}
use Rattle.irtext_grammar.specs.Contexts.Nested.{pointers, seen_operation, seen_regions, seen_root}
use Rattle.irtext_grammar.specs.Graphs.Graph.{Graph}
use Rattle.irtext_grammar.specs.Spelling.Section.{text}
use Rattle.irtext_print.proofs.Printers.Locations.{more}
use Rattle.irtext_print.proofs.Printers.RootParts.{there}
use Rattle.irtext_print.specs.Printers.PrintedOperation.{levels}
use Rattle.irtext_print.specs.Printers.Printing.{gathered_of, with_gathered}
use Rattle.irtext_print.specs.Printers.Shown.{Shown}
use Rattle.irtext_print_ir.proofs.Printers.Roots.{text_is}
use Rattle.irtext_print_ops.proofs.Depths.{inside_is}
use Rattle.irtext_print_ir.specs.Printers.Printed.{Printed, block_round, gathers, root_text, root_left}
use Rattle.irtext_print.specs.Items.{section_at}
use Rattle.irtext_print_ops.specs.Heads as heads

-- blocks are the same where they are the same objects
pub same_block : (x y : Option (Ptr BasicBlock)) → option_map TheBlock x ≡ option_map TheBlock y → x ≡ y
same_block None None e = refl
same_block None (Some b) e = absurd (cc)
same_block (Some a) None e = absurd (cc)
same_block (Some a) (Some b) e = cc

-- a state that gathered something else is otherwise unchanged
pub rests : {U : Type 0} (s t : Shown U) (xs : List Item) → t ≡ with_gathered s xs → t ≡ with_gathered s (gathered_of t)
rests s t xs e = e ∙ ap (with_gathered s) (sym (ap gathered_of e))

-- the same if the items were taken out first
pub rests_put : {U : Type 0} (s between t : Shown U) (after : List Item) → between ≡ with_gathered s [] → t ≡ with_gathered between after → t ≡ with_gathered s (gathered_of t)
rests_put s between t after left put = rests s t after (put ∙ ap (λ z. with_gathered z after) left)

-- three facts about a success
pub together : {X E P Q R Z : Type 0} (r : Result X E) → (P → Q → R → Z) → OnOk r P → OnOk r Q → OnOk r R → OnOk r Z
together (Ok x) f p q k = f p q k
together (Err e) f p q k = tt

-- Nested text was printed while the gathered items were taken out of the state, and they were put back with those that it added. What it
-- appends and adds, and whether it fits, may depend on the state without the gathered items.
pub put_back : {U X E : Type 0} (r : Result X E) (whole : Shown U → ℕ → Text) (added : Shown U → List Item) (Misfits : Shown U → Type 0) (s between t : Shown U) (before after : List Item) (old new : List ℕ)
    → before ≡ gathered_of s → between ≡ with_gathered s [] → t ≡ with_gathered between after
    → OnOk r (new ≡ old ++ encode_utf8_all (whole between (length before))) → OnOk r (after ≡ before ++ added between) → OnOk r (Misfits between → ⊥)
    → OnOk r (Printed (whole (with_gathered s []) (length s.gathered)) (gathers s (added (with_gathered s []))) (Misfits (with_gathered s [])) old t new)
put_back r whole added Misfits s between t before after old new taken left put =
    together r (λ w i f. record {
      text = w ∙ ap (λ z. old ++ encode_utf8_all (whole z (length before))) left ∙ ap (λ gs. old ++ encode_utf8_all (whole (with_gathered s []) (length gs))) taken;
      state = put ∙ ap (λ z. with_gathered z after) left ∙ ap (with_gathered s) (i ∙ ap (λ gs. gs ++ added between) taken ∙ ap (λ z. s.gathered ++ added z) left);
      fits = λ m. f (subst Misfits (sym left) m);
    })

module _ {T A U : Type 0} (types : ir_text.Ghosts T A) (owns : ir_text.Ghosts A A) (attributes : attr_text.Ghosts A A) (same : A → A → Bool) (ctx : ContextView T A) (p : Ptr Operation) (s : Shown U) where
  -- the text with the mark, after this many marks
  abbrev marked_text : ℕ → Text
  marked_text n = heads.text_under types owns attributes same ctx p s true n

  -- the items, with the operation's own
  abbrev items : List Item
  items = heads.items_under types owns attributes same ctx p s true

  abbrev Misfits : Type 0
  Misfits = heads.MisfitsUnder types owns attributes same ctx p s

  -- what follows the mark, after these items
  abbrev after_mark : List Item → Option (Ptr BasicBlock) → Text
  after_mark gs o = elim o [ Some b ↦ [] | None ↦ section_at types owns attributes same ctx (gs ++ items) ]

  -- what is gathered then
  abbrev kept : Option (Ptr BasicBlock) → List Item
  kept o = elim o [ Some b ↦ s.gathered ++ items | None ↦ [] ]

  module _ (old : List ℕ) (t : Shown U) (new : List ℕ) where
    -- an operation with a parent block
    pub in_block : (b : Ptr BasicBlock) → block_round ctx p ≡ Some b → new ≡ old ++ encode_utf8_all (marked_text (length s.gathered)) → t ≡ gathers s items → (Misfits → ⊥)
        → Printed (root_text types owns attributes same ctx p s) (root_left types owns attributes same ctx p s) Misfits old t new
    in_block b is w k f = record {
      text = w ∙ ap (λ z. old ++ encode_utf8_all z) (sym (append-nil (marked_text (length s.gathered)))) ∙ ap (λ o. old ++ encode_utf8_all (marked_text (length s.gathered) ++ after_mark s.gathered o)) (sym is);
      state = k ∙ ap (λ o. with_gathered s (kept o)) (sym is);
      fits = f;
    }

    -- an operation without a parent block
    pub outermost : (mid : List ℕ) (between : Shown U) → block_round ctx p ≡ None → mid ≡ old ++ encode_utf8_all (marked_text (length s.gathered)) → between ≡ gathers s items → (Misfits → ⊥)
        → new ≡ mid ++ encode_utf8_all (section_at types owns attributes same ctx (gathered_of between)) → t ≡ with_gathered between []
        → Printed (root_text types owns attributes same ctx p s) (root_left types owns attributes same ctx p s) Misfits old t new
    outermost mid between is w k f v e = record {
      text = more old mid new (marked_text (length s.gathered)) (after_mark s.gathered None) w (v ∙ ap (λ z. mid ++ encode_utf8_all (section_at types owns attributes same ctx (gathered_of z))) k)
          ∙ ap (λ o. old ++ encode_utf8_all (marked_text (length s.gathered) ++ after_mark s.gathered o)) (sym is);
      state = e ∙ ap (λ z. with_gathered z []) k ∙ ap (λ o. with_gathered s (kept o)) (sym is);
      fits = f;
    }

  -- the text of a root by the definitions of printing
  pub text_defined : IsSome (operation ctx p) → Nested (children ctx.graph) (parent ctx.graph) → (g : Graph T A) → seen_root owns.written ctx p ≡ Some g → block_round ctx p ≡ None → s.gathered ≡ []
      → root_text types owns attributes same ctx p s ≡ text (heads.language_of types owns attributes same ctx) (heads.printing_of types owns attributes same ctx) g s.indent s.width (levels s.limit)
  text_defined live nested g sees alone none =
      let v = there (operation ctx p) live in
      let C = heads.printing_of types owns attributes same ctx in
      let L = heads.language_of types owns attributes same ctx in
      let root : OperationView T A → Graph T A = λ op. record { own = seen_operation owns.written ctx p op; regions = seen_regions owns.written ctx (pointers ctx.graph p).regions } in
      let g_is : root v.0 ≡ g = some_eq (sym (ap (option_map root) v.1) ∙ sees) in
      ap (λ o. marked_text (length s.gathered) ++ after_mark s.gathered o) alone
      ∙ ap (λ gs. marked_text (length gs) ++ after_mark gs None) none
      ∙ text_is C L ctx p v.0 v.1 (sym (inside_is ctx.graph nested p)) (levels s.limit) s.width s.indent
      ∙ ap (λ g. text L C g s.indent s.width (levels s.limit)) g_is

  -- the same of what was appended
  pub defined : (old : List ℕ) (t : Shown U) (new : List ℕ) → IsSome (operation ctx p) → Nested (children ctx.graph) (parent ctx.graph) → Printed (root_text types owns attributes same ctx p s) (root_left types owns attributes same ctx p s) Misfits old t new
      → (g : Graph T A) → seen_root owns.written ctx p ≡ Some g → block_round ctx p ≡ None → s.gathered ≡ []
      → new ≡ old ++ encode_utf8_all (text (heads.language_of types owns attributes same ctx) (heads.printing_of types owns attributes same ctx) g s.indent s.width (levels s.limit))
  defined old t new live nested is g sees alone none = is.text ∙ ap (λ z. old ++ encode_utf8_all z) (text_defined live nested g sees alone none)
