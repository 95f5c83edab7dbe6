-- What is said of the first operation of a root that does not fit its format.
use Rattle.std.proofs.Common.{◌≡◌, Option, Some, None, Result, Ok, Err, Bool, IsSome, refl, subst}
use Rattle.std.specs.Prelude.{IfOk, IfSome}
use Rattle.std.specs.declared.alloc.AllocError.{AllocError}
use Rattle.irtext_base.specs.Text.{Text}
use Rattle.irtext_base.specs.declared.text.AttrText as attr_text
use Rattle.irtext_context.specs.Context.{ContextView, operation}
use Rattle.irtext_graph.specs.declared.arena.Ptr.{Ptr}
use Rattle.irtext_graph.specs.declared.object.Operation.{Operation}
use Rattle.irtext_print_ops.specs.declared.fits.FitFault.{FitFault}
use Rattle.pliron_text.specs.Misfits.{IsFirstMisfit}
use Rattle.irtext_formatter.specs.Misfits.{Describes, IsMisfitOf}
use Rattle.irtext_formatter.specs.declared.misfit.Misfit.{Misfit}

some_of : {X : Type 0} (o : Option X) → IsSome o → (x : X) × (o ≡ Some x)
some_of None h = absurd (cc h)
some_of (Some x) h = (x, refl)

module _ {T A : Type 0} (written : A → Text) (attributes : attr_text.Ghosts A A) (same : A → A → Bool) (ctx : ContextView T A) (root op : Ptr Operation) (reason : FitFault) where
  -- it is the misfit of the root
  pub is_misfit : IsFirstMisfit written attributes same ctx root op reason → (r : Result Misfit AllocError) → IfOk r (λ m. IfSome (operation ctx op) (λ seen. Describes ctx.dialects seen reason m)) → IfOk r (IsMisfitOf written attributes same ctx root)
  is_misfit first (Err error) d = tt
  is_misfit first (Ok m) d =
      let seen = some_of (operation ctx op) first.live in
      record { op = op; seen = seen.0; is = seen.1; reason = reason; describes = subst (λ o. IfSome o (λ v. Describes ctx.dialects v reason m)) seen.1 d; first = first }
