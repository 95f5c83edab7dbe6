-- What was appended of a root is its text.
use Rattle.std.proofs.Common.{◌≡◌, ◌∙◌, ◌++◌, ℕ, Bool, List, [], ◌∷◌, Result, Ok, Err, refl, sym, ap, subst}
use Rattle.std.specs.Prelude.{OnOk, string_bytes}
use Rattle.std.specs.Str.{encode_utf8_all}
use Rattle.std.specs.declared.string.String.{String}
use Rattle.std.specs.declared.alloc.Global.{Global}
use Rattle.irtext_base.specs.declared.text.AttrText as attr_text
use Rattle.irtext_base.specs.declared.text.IrText as ir_text
use Rattle.irtext_context.specs.Context.{ContextView}
use Rattle.irtext_graph.specs.declared.arena.Ptr.{Ptr}
use Rattle.irtext_graph.specs.declared.object.Operation.{Operation}
use Rattle.irtext_print.specs.Printers.Shown.{Shown}
use Rattle.irtext_print.specs.declared.printable.refusal.Refusal.{Refusal}
use Rattle.irtext_print_ir.specs.Printers.Printed as printed
use Rattle.pliron_text.specs.Calls.{IsPrinted}
use Rattle.pliron_text.specs.Unprinted.{plain}

-- what follows the same text in the same text is the same
same_end : (xs ys zs : List ℕ) → xs ++ ys ≡ xs ++ zs → ys ≡ zs
same_end [] ys zs e = e
same_end (x ∷ xs) ys zs e = same_end xs ys zs (tail e)
  where
    rest : List ℕ → List ℕ
    rest [] = []
    rest (u ∷ us) = us

    tail : x ∷ (xs ++ ys) ≡ x ∷ (xs ++ zs) → xs ++ ys ≡ xs ++ zs
    tail e = ap rest e

module _ {T A : Type 0} (types : ir_text.Ghosts T A) (owns : ir_text.Ghosts A A) (attributes : attr_text.Ghosts A A) (same : A → A → Bool) (ctx : ContextView T A) (op : Ptr Operation) where
  appended_plain : (after : Shown (Unit {0})) (old new : String Global) (r : Result (Unit {0}) Refusal) → OnOk r (printed.PrintsRoot types owns attributes same ctx op plain old after new)
      → OnOk r (printed.DefinesRoot types owns attributes same ctx op plain old after new) → OnOk r ((text : List ℕ) × IsPrinted types owns attributes same ctx op plain text × (string_bytes new ≡ string_bytes old ++ text))
  appended_plain after old new (Ok done) p d =
      let bytes = encode_utf8_all (printed.root_text types owns attributes same ctx op plain) in
      (bytes, record { is_text = λ g sees nowhere. same_end (string_bytes old) bytes _ (sym p.text ∙ d g sees nowhere refl); fits = p.fits }, p.text)
  appended_plain after old new (Err refusal) p d = tt

  pub appended : (before after : Shown (Unit {0})) (old new : String Global) → before ≡ plain → (r : Result (Unit {0}) Refusal) → OnOk r (printed.PrintsRoot types owns attributes same ctx op before old after new)
      → OnOk r (printed.DefinesRoot types owns attributes same ctx op before old after new) → OnOk r ((text : List ℕ) × IsPrinted types owns attributes same ctx op plain text × (string_bytes new ≡ string_bytes old ++ text))
  appended before after old new is r p d = appended_plain after old new r
      (subst (λ s. OnOk r (printed.PrintsRoot types owns attributes same ctx op s old after new)) is p)
      (subst (λ s. OnOk r (printed.DefinesRoot types owns attributes same ctx op s old after new)) is d)
