-- The keys of a dictionary's entries, as a loop gathers them; and the key that an operation was perhaps meant to have.
use Rattle.std.proofs.Common.{◌≡◌, ◌∙◌, ◌++◌, Bool, true, false, cond, not, List, [], ◌∷◌, Option, Some, None, Result, Ok, Err, append_assoc, refl, sym, ap}
use Rattle.std.specs.Prelude.{IfOk, IfSome}
use Rattle.std.specs.Option.{option_map, option_and_then}
use Rattle.std.specs.declared.alloc.AllocError.{AllocError}
use Rattle.irtext_base.specs.Faults.{id_of}
use Rattle.irtext_base.specs.Format.{Directive, Format}
use Rattle.irtext_base.specs.Text.{Text}
use Rattle.irtext_base.specs.declared.base.attributes.AttrObj.{AttrObj}
use Rattle.irtext_base.specs.declared.base.identifier.OpId.{OpId}
use Rattle.irtext_context.specs.Context.{ContextView, OperationView, operation}
use Rattle.irtext_graph.specs.declared.arena.Ptr.{Ptr}
use Rattle.irtext_graph.specs.declared.object.Operation.{Operation}
use Rattle.irtext_grammar.specs.Contexts.Formats.{format_of}
use Rattle.irtext_print.proofs.Printers.OperationTexts.{seen}
use Rattle.irtext_print.specs.Printers.PieceText.{is_key_written}
use Rattle.irtext_print_ops.specs.declared.fits.FitFault.{FitFault}
use Rattle.irtext_formatter.specs.Keys.{mistaken_key, texts_of, unwritten_keys}
use Rattle.irtext_formatter.specs.Misfits.{mistaken_in}
use Rattle.irtext_formatter.specs.declared.keys.MistakenKey.{MistakenKey}

module _ {X : Type 0} (ds : List Directive) (key : Text) (x : X) (found all : List Text) (left es : List (Text × X)) (is : left ≡ (key, x) ∷ es) (so_far : found ++ unwritten_keys ds left ≡ all) where
  by_test : (b : Bool) → is_key_written key ds ≡ b → found ++ cond (not b) (key ∷ unwritten_keys ds es) (unwritten_keys ds es) ≡ all
  by_test b e = ap (λ b. found ++ cond (not b) (key ∷ unwritten_keys ds es) (unwritten_keys ds es)) (sym e) ∙ (ap (λ l. found ++ unwritten_keys ds l) (sym is) ∙ so_far)

  -- the first key is gathered
  pub with_key : is_key_written key ds ≡ false → (found ++ key ∷ []) ++ unwritten_keys ds es ≡ all
  with_key e = append_assoc found (key ∷ []) (unwritten_keys ds es) ∙ by_test false e

  -- the first key is left out
  pub without_key : is_key_written key ds ≡ true → found ++ unwritten_keys ds es ≡ all
  without_key e = by_test true e

-- the key that was found is the one of the operation, whose id and attributes these are
module _ {T A : Type 0} (ctx : ContextView T A) (p : Ptr Operation) (id : OpId) (es : List (Text × AttrObj A)) (reason : FitFault) (named : option_map (λ op. op.id) (operation ctx p) ≡ Some id) (held : option_map (λ op. op.attributes) (operation ctx p) ≡ Some es) where
  pub keyed : (f : Option Format) → format_of ctx.dialects (id_of id) ≡ f → (r : Result (Option MistakenKey) AllocError) → IfOk r (λ found. option_map texts_of found ≡ option_and_then (λ format. mistaken_key format es reason) f)
      → IfOk r (λ found. IfSome (operation ctx p) (λ seen. option_map texts_of found ≡ mistaken_in ctx.dialects seen reason))
  keyed f is (Err error) h = tt
  keyed f is (Ok found) h = by_seen (operation ctx p) refl
    where
      by_seen : (o : Option (OperationView T A)) → operation ctx p ≡ o → IfSome o (λ seen. option_map texts_of found ≡ mistaken_in ctx.dialects seen reason)
      by_seen None e = tt
      by_seen (Some s) e =
          h
          ∙ (ap (λ f. option_and_then (λ format. mistaken_key format es reason) f) (sym is)
          ∙ (ap (λ i. option_and_then (λ format. mistaken_key format es reason) (format_of ctx.dialects (id_of i))) (sym (seen (λ op. op.id) (operation ctx p) s id e named))
          ∙ ap (λ xs. option_and_then (λ format. mistaken_key format xs reason) (format_of ctx.dialects (id_of s.id))) (sym (seen (λ op. op.attributes) (operation ctx p) s es e held))))
