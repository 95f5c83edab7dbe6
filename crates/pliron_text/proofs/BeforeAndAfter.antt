-- A root is printed, a text is parsed beside it, and it is printed again: what the calls leave of it, and that both texts are the same.
use Rattle.std.proofs.Common.{◌≡◌, ◌∙◌, ℕ, Bool, List, IsSome, None, Result, Ok, Err, string_bytes, sym, ap, subst}
use Rattle.std.specs.Prelude.{IfOk, IfErr, OnErr}
use Rattle.std.specs.Str.{encode_utf8_all}
use Rattle.std.specs.declared.alloc.Global.{Global}
use Rattle.std.specs.declared.string.String.{String}
use Rattle.irtext_base.specs.Answers.{Outcome}
use Rattle.irtext_base.specs.Locations.{AttrView}
use Rattle.irtext_base.specs.Own.{Texts}
use Rattle.irtext_base.specs.Text.{Text}
use Rattle.irtext_base.specs.declared.parsable.fault.ParseFault.{ParseFault}
use Rattle.irtext_base.specs.declared.text.AttrText as attr_text
use Rattle.irtext_base.specs.declared.text.IrText as ir_text
use Rattle.irtext_context.specs.Context.{ContextView, operation}
use Rattle.irtext_context.specs.Made.{SameObjects}
use Rattle.irtext_graph.specs.declared.arena.Ptr.{Ptr}
use Rattle.irtext_graph.specs.declared.object.Operation.{Operation}
use Rattle.irtext_names.specs.OnlyNew.{OnlyNew}
use Rattle.irtext_print.specs.Printers.Shown.{Shown}
use Rattle.irtext_print.specs.declared.printable.refusal.Refusal.{Refusal}
use Rattle.irtext_print_ir.specs.Printers.Printed.{block_round}
use Rattle.irtext_print_ops.specs.Heads as heads
use Rattle.pliron_text.specs.Calls.{IsPrinted, ReadsText}
use Rattle.pliron_text.specs.Older.{IsOlder, KeepsRoot}
use Rattle.pliron_text.proofs.KeptRoots.{kept_by_accepted, kept_by_refused}
use Rattle.pliron_text.proofs.OlderText.{block_same, graph, graph_text_same, refused_stays, sees_new, sees_old}

-- where a text was parsed as a root, or was not
pub kept_by_answer : {T A : Type 0} (types : Texts T) (owns : Texts A) (attr : Text → Outcome (AttrView A)) (bytes : List ℕ) (p : Ptr Operation) (old new : ContextView T A) → IsSome (operation old p)
    → (r : Result (Ptr Operation) (ParseFault A)) → IfOk r (λ q. ReadsText types owns attr bytes old q new) → OnErr r (SameObjects old new) → KeepsRoot p old new
kept_by_answer types owns attr bytes p old new live (Ok q) reads objects =
    kept_by_accepted p old new live q (subst (λ z. OnlyNew q z new) reads.begins.context (subst (OnlyNew q reads.old.state.ctx.now) reads.ends reads.builds.only))
kept_by_answer types owns attr bytes p old new live (Err f) reads objects = kept_by_refused p old new live objects

module _ {T A : Type 0} (types : ir_text.Ghosts T A) (owns : ir_text.Ghosts A A) (attributes : attr_text.Ghosts A A) (same : A → A → Bool) (p : Ptr Operation) (old new : ContextView T A) (is_older : IsOlder p old new) (layout : Shown (Unit {0})) where
  -- the bytes are those of its text, in one context and in the other
  bytes_same : (a b : List ℕ) → IsPrinted types owns attributes same old p layout a → IsPrinted types owns attributes same new p layout b → block_round old p ≡ None → b ≡ a
  bytes_same a b x y alone =
      y.is_text (graph types owns attributes same p old new is_older layout) (sees_new types owns attributes same p old new is_older layout) (block_same types owns attributes same p old new is_older layout ∙ alone)
      ∙ ap encode_utf8_all (graph_text_same types owns attributes same p old new is_older layout)
      ∙ sym (x.is_text (graph types owns attributes same p old new is_older layout) (sees_old types owns attributes same p old new is_older layout) alone)

  pub texts_same : (a b : Result (String Global) Refusal) → IfOk a (λ s. IsPrinted types owns attributes same old p layout (string_bytes s)) → IfOk b (λ s. IsPrinted types owns attributes same new p layout (string_bytes s))
      → block_round old p ≡ None → IfOk a (λ before. IfOk b (λ after. string_bytes after ≡ string_bytes before))
  texts_same (Err e) b x y alone = tt
  texts_same (Ok s) (Err e) x y alone = tt
  texts_same (Ok s) (Ok t) x y alone = bytes_same (string_bytes s) (string_bytes t) x y alone

  pub reason_same : (b : Result (String Global) Refusal) → IfErr b (heads.RefusesUnder types owns attributes same new p layout) → IfErr b (heads.RefusesUnder types owns attributes same old p layout)
  reason_same (Ok s) h = tt
  reason_same (Err e) h = refused_stays types owns attributes same p old new is_older layout e h
