-- For callers: which operations of a root fit their formats, and the first that does not.
use Rattle.std.specs.Prelude.{◌⊎◌, Bool, Some, IsSome}
use Rattle.irtext_base.specs.Text.{Text}
use Rattle.irtext_base.specs.declared.text.AttrText as attr_text
use Rattle.irtext_context.specs.Context.{ContextView, operation}
use Rattle.irtext_graph.specs.Chained.{Among}
use Rattle.irtext_graph.specs.Graph.{IsInside}
use Rattle.irtext_graph.specs.Throughout.{all_from}
use Rattle.irtext_graph.specs.declared.arena.Ptr.{Ptr}
use Rattle.irtext_graph.specs.declared.object.Object.{Object}
use Rattle.irtext_graph.specs.declared.object.Object.TheVariants.{TheOperation}
use Rattle.irtext_graph.specs.declared.object.Operation.{Operation}
use Rattle.irtext_print_ops.specs.Fits.{FitsIn, IsFirstReasonIn}
use Rattle.irtext_print_ops.specs.declared.fits.FitFault.{FitFault}

module _ {T A : Type 0} (written : A → Text) (attributes : attr_text.Ghosts A A) (same : A → A → Bool) (ctx : ContextView T A) where
  -- if the object is an operation of the context, that fits its format
  abbrev pub FitsThere : Object → Type 0
  FitsThere (TheOperation p) = IsSome (operation ctx p) → FitsIn written attributes same ctx p
  FitsThere _ = Unit {0}

  -- a root fits its format, and so does each operation that is nested in it
  abbrev pub AllFit : Ptr Operation → Type 0
  AllFit root = (q : Object) → IsInside ctx.graph (TheOperation root) q → FitsThere q

  -- The operation is the root or nested in it, and does not fit its format, with this as the first reason. Each operation before it in
  -- the order of the text fits.
  pub record IsFirstMisfit (root op : Ptr Operation) (reason : FitFault) : Type 0 where
    pub live : IsSome (operation ctx op)
    pub inside : IsInside ctx.graph (TheOperation root) (TheOperation op)
    pub unfit : IsFirstReasonIn written attributes same ctx op reason
    pub first : (q : Object) → IsInside ctx.graph (TheOperation root) q → Among q (all_from ctx.graph (TheOperation root) (Some (TheOperation op))) ⊎ FitsThere q
