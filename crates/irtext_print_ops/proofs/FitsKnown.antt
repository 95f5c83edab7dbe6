-- What the format that was found under an operation's id says of the operation.
use Rattle.std.proofs.Common.{◌≡◌, ◌∙◌, List, Option, Some, Result, IfSome, IfErr, sym, ap, subst, length, option_map}
use Rattle.irtext_base.specs.Faults.{id_of}
use Rattle.irtext_base.specs.Format as format
use Rattle.irtext_base.specs.Format.{Accepted, Directive, Format}
use Rattle.irtext_base.specs.Text.{Text}
use Rattle.irtext_base.specs.declared.base.attributes.AttrObj.{AttrObj}
use Rattle.irtext_base.specs.declared.base.identifier.OpId.{OpId}
use Rattle.irtext_context.specs.Context.{ContextView, operation}
use Rattle.irtext_graph.specs.Parts.{regions}
use Rattle.irtext_graph.specs.declared.arena.Ptr.{Ptr}
use Rattle.irtext_graph.specs.declared.object.Operation.{Operation}
use Rattle.irtext_grammar.specs.Contexts.Formats.{isolated}
use Rattle.irtext_grammar.specs.Contexts.Held.{entries_of}
use Rattle.irtext_grammar.specs.Contexts.Nested.{seen_operation, seen_own}
use Rattle.irtext_grammar.specs.Graphs.Graph.{Printing}
use Rattle.irtext_print.proofs.Printers.OperationTexts.{seen}
use Rattle.irtext_print_ops.specs.Fits.{Names, counts_of, first_failed, refused_by, tests}
use Rattle.irtext_print_ops.specs.declared.fits.Counts.{Counts}
use Rattle.irtext_print_ops.specs.declared.fits.FitFault.{FitFault}
use Rattle.irtext_print_ops.proofs.FitTexts.{Answers, answered, had}
use Rattle.irtext_print_ops.proofs.LiveViews.{for_seen}

module _ {T A : Type 0} (C : Printing T A) (written : A → Text) (ctx : ContextView T A) (p : Ptr Operation) (id : OpId) (named : option_map (λ op. op.id) (operation ctx p) ≡ Some id) where
  -- the operation has the format that was found
  pub has_format : (f : Option Format) → C.format_of (id_of id) ≡ f → IfSome (seen_own written ctx p) (λ o. C.format_of o.id ≡ f)
  has_format f e = for_seen (operation ctx p) (seen_operation written ctx p) (λ o. C.format_of o.id ≡ f) (λ view here. ap (λ i. C.format_of (id_of i)) (seen (λ op. op.id) (operation ctx p) view id here named) ∙ e)

  -- what is known of an operation whose format has directives, once it was checked
  pub record Checked {X : Type 0} (ds : List Directive) (r : Result X FitFault) : Type 0 where
    pub format : IfSome (seen_own written ctx p) (λ o. C.format_of o.id ≡ Some (format.custom ds))
    pub answers : Answers C (isolated ctx.dialects) (length (regions ctx.graph p)) (seen_own written ctx p) r

  -- the same, from what the calls say
  pub checked : {X : Type 0} (f : Format) (ds : List Directive) (counts : Counts) (es : List (Text × AttrObj A)) (r : Result X FitFault) → C.format_of (id_of id) ≡ Some f → f ≡ format.custom ds → Accepted f →
      IfSome (seen_own written ctx p) (λ o. counts ≡ counts_of o (length (regions ctx.graph p))) → option_map (λ op. op.attributes) (operation ctx p) ≡ Some es →
      refused_by r ≡ first_failed 1 (tests C.own_outlined ds counts (entries_of es)) → IfErr r (Names C.own_outlined ds counts (entries_of es)) → Checked ds r
  checked f ds counts es r found is accepted counted held first names =
      let n = length (regions ctx.graph p) in
      let own = seen_own written ctx p in
      let all = has_format (Some (format.custom ds)) (found ∙ ap Some is) in
      let same : IfSome own (λ o. entries_of es ≡ o.attributes) = for_seen (operation ctx p) (seen_operation written ctx p) (λ o. entries_of es ≡ o.attributes) (λ view here. ap entries_of (sym (seen (λ op. op.attributes) (operation ctx p) view es here held))) in
      record {
        format = all;
        answers = answered C (isolated ctx.dialects) n ds counts (entries_of es) (subst Accepted is accepted) own (had C (isolated ctx.dialects) n ds counts (entries_of es) own all counted same) r first names;
      }
