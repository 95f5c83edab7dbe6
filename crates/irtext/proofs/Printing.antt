-- What a state of printing that is new prints of a root.
use Rattle.std.proofs.Common.{◌≡◌, Bool, Result, Ok, Err, refl, subst, string_bytes}
use Rattle.std.specs.Prelude.{OnOk, IfErr, ⊤}
use Rattle.std.specs.Str.{encode_utf8_all}
use Rattle.std.specs.declared.string.String.{String}
use Rattle.std.specs.declared.alloc.Global.{Global}
use Rattle.irtext_base.specs.declared.text.AttrText as attr_text
use Rattle.irtext_base.specs.declared.text.IrText as ir_text
use Rattle.irtext_context.specs.Context.{ContextView}
use Rattle.irtext_graph.specs.declared.arena.Ptr.{Ptr}
use Rattle.irtext_graph.specs.declared.object.Operation.{Operation}
use Rattle.irtext_grammar.specs.Spelling.Section.{text}
use Rattle.irtext_print.specs.Printers.PrintedOperation.{levels}
use Rattle.irtext_print.specs.Printers.Shown.{Shown}
use Rattle.irtext_print.specs.declared.printable.refusal.Refusal.{Refusal}
use Rattle.irtext_print.specs.declared.printable.state.RegionPrintDepthLimit.TheVariants.{Unlimited}
use Rattle.irtext_print_ir.specs.Printers.Printed.{PrintsRoot, DefinesRoot, PrintsConcrete, debug_text}
use Rattle.irtext_print_ops.specs.Heads as heads
use Rattle.irtext.specs.Roots.{IsSeen, AppendsIn, RefusesIn, layout_of}
use Rattle.irtext.specs.declared.root.Form.{Form}
use Rattle.irtext.specs.declared.root.Form.TheVariants.{Whole, Elided}

module _ {T A : Type 0} (types : ir_text.Ghosts T A) (owns : ir_text.Ghosts A A) (attributes : attr_text.Ghosts A A) (same : A → A → Bool) (ctx : ContextView T A) (op : Ptr Operation) (s : Shown ⊤) where
  -- the whole text was appended
  pub whole_appended : s ≡ layout_of Whole → IsSeen owns.written ctx op → (t : Shown ⊤) (old new : String Global) (r : Result ⊤ Refusal)
      → OnOk r (PrintsRoot types owns attributes same ctx op s old t new) → OnOk r (DefinesRoot types owns attributes same ctx op s old t new)
      → OnOk r (AppendsIn types owns attributes same ctx op Whole (string_bytes old) (string_bytes new))
  whole_appended is seen t old new (Err e) prints defines = tt
  whole_appended is seen t old new (Ok x) prints defines =
      record {
        bytes = encode_utf8_all (text (heads.language_of types owns attributes same ctx) (heads.printing_of types owns attributes same ctx) seen.graph 0 2 (levels Unlimited));
        appends = (subst (λ z. DefinesRoot types owns attributes same ctx op z old t new) is defines) seen.graph seen.sees seen.nowhere refl;
        prints = record {
          is_text = record { graph = seen.graph; sees = seen.sees; is_text = refl };
          fits = subst (λ z. heads.MisfitsUnder types owns attributes same ctx op z → ⊥) is prints.fits;
        };
      }

  -- the text with elided regions was
  pub elided_appended : s ≡ layout_of Elided → (t : Shown ⊤) (old new : String Global) (r : Result ⊤ Refusal)
      → OnOk r (PrintsConcrete types owns attributes same ctx op s old t new)
      → OnOk r (AppendsIn types owns attributes same ctx op Elided (string_bytes old) (string_bytes new))
  elided_appended is t old new (Err e) prints = tt
  elided_appended is t old new (Ok x) prints =
      let there = subst (λ z. PrintsConcrete types owns attributes same ctx op z old t new) is prints in
      record {
        bytes = encode_utf8_all (debug_text types owns attributes same ctx op);
        appends = there.text;
        prints = record { is_text = refl; fits = there.fits };
      }

  -- why nothing was
  pub refused_in : (form : Form) → s ≡ layout_of form → (r : Result ⊤ Refusal) → IfErr r (heads.RefusesUnder types owns attributes same ctx op s) → IfErr r (RefusesIn types owns attributes same ctx op form)
  refused_in form is r refused = subst (λ z. IfErr r (heads.RefusesUnder types owns attributes same ctx op z)) is refused
