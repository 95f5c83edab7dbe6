-- A root that was parsed can be printed: it has no parent block, and is closed if its operations fit their formats.
use Rattle.std.proofs.Common.{◌≡◌, Bool, ℕ, List, Option, Some, None, option_map, IsSome, refl, sym, ap, subst}
use Rattle.irtext_base.specs.Answers.{Outcome}
use Rattle.irtext_base.specs.Own.{Texts, texts_of}
use Rattle.irtext_base.specs.Text.{Text}
use Rattle.irtext_context.specs.Context.{ContextView, OperationView, operation}
use Rattle.irtext_graph.specs.declared.arena.Ptr.{Ptr}
use Rattle.irtext_graph.specs.declared.object.Operation.{Operation}
use Rattle.irtext_grammar.specs.Contexts.Formats.{isolated}
use Rattle.irtext_grammar.specs.Contexts.Nested.{pointers, printing_over, seen_operation, seen_regions, seen_root}
use Rattle.irtext_grammar.specs.Graphs.Closed.{Fit}
use Rattle.irtext_grammar.specs.Graphs.Graph.{Graph}
use Rattle.irtext_grammar.specs.Graphs.Regained.{Named}
use Rattle.irtext_grammar.specs.Graphs.Represents.{Distinct}
use Rattle.irtext_grammar.specs.ContextParts.{KeepsAll}
use Rattle.irtext_print_ir.specs.Printers.Printed.{block_round}
use Rattle.irtext_names.specs.OnlyNew.{OnlyNew}
use Rattle.irtext_tokens.specs.AttrTexts.{attr_at}
use Rattle.irtext_grammar.specs.Back.{ClosedRoot}
use Rattle.pliron_text.proofs.ReadClosed.{read_closed}
use Rattle.pliron_text.specs.Calls.{ReadsText}
use Rattle.pliron_text.proofs.Nowhere.{root_nowhere}

module _ {T A : Type 0} (types : Texts T) (reading : Text → Outcome A) (text_of : A → Text) (outlined once : A → Bool) (eq : A → A → Bool) where
  -- a root that can be printed, and is closed where it fits
  pub record IsThere (ctx : ContextView T A) (p : Ptr Operation) : Type 0 where
    pub live : IsSome (operation ctx p)
    pub graph : Graph T A
    pub sees : seen_root text_of ctx p ≡ Some graph
    pub nowhere : block_round ctx p ≡ None
    pub closed : Distinct (printing_over ctx outlined once eq) (isolated ctx.dialects) graph → Fit (printing_over ctx outlined once eq) (isolated ctx.dialects) graph
        → ClosedRoot (printing_over ctx outlined once eq) (isolated ctx.dialects) graph × Named (printing_over ctx outlined once eq) graph

  module _ (bytes : List ℕ) (ctx : ContextView T A) (p : Ptr Operation) (after : ContextView T A) (read : ReadsText types (texts_of reading text_of) (attr_at reading) bytes ctx p after) (before_kept : KeepsAll ctx) (after_kept : KeepsAll after) where
    only : OnlyNew p ctx after
    only = subst (λ (z : ContextView T A). OnlyNew p z after) read.begins.context (subst (λ (z : ContextView T A). OnlyNew p read.old.state.ctx.now z) read.ends read.builds.only)

    -- the dialects are the same still
    pub same_dialects : after.dialects ≡ ctx.dialects
    same_dialects = only.dialects

    kept_there : KeepsAll read.new.state.ctx.now
    kept_there = subst (λ (z : ContextView T A). KeepsAll z) (sym read.ends) after_kept

    there : block_round read.new.state.ctx.now p ≡ None → IsThere read.new.state.ctx.now p
    there nowhere =
        let c = read.new.state.ctx.now in
        let w = read.builds.is_whole.0 in
        let g : Graph T A = record { own = seen_operation text_of c p w.view; regions = seen_regions text_of c (pointers c.graph p).regions } in
        let sees : seen_root text_of c p ≡ Some g = ap (option_map (λ (op : OperationView T A). record { own = seen_operation text_of c p op; regions = seen_regions text_of c (pointers c.graph p).regions })) w.is in
        record {
          live = subst (λ (z : Option (OperationView T A)). IsSome z) (sym w.is) refl;
          graph = g;
          sees = sees;
          nowhere = nowhere;
          closed = λ d f. read_closed types reading text_of outlined once eq p read.old read.new g read.builds kept_there.counters sees f d;
        }

    -- it is there
    pub is_there : IsThere after p
    is_there =
        let nowhere = root_nowhere ctx after p before_kept.counters.nested after_kept.counters.nested only in
        subst (λ (z : ContextView T A). IsThere z p) read.ends (there (subst (λ (z : ContextView T A). block_round z p ≡ None) (sym read.ends) nowhere))
