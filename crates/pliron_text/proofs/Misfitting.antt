-- The walk over what is nested in a root, in the order of the text, to the first operation that does not fit its format.
use Rattle.std.proofs.Common.{◌≡◌, ◌∙◌, ◌⊎◌, inl, inr, ◌∷◌, ℕ, Option, Some, None, Bool, IsSome, ◌<◌, List, length, arith, refl, sym, ap, subst}
use Rattle.std.specs.Option.{option_map}
use Rattle.std.specs.Prelude.{option_and_then}
use Rattle.irtext_base.specs.Text.{Text}
use Rattle.irtext_base.specs.declared.text.AttrText as attr_text
use Rattle.irtext_base.specs.declared.text.IrText as ir_text
use Rattle.irtext_context.specs.Context.{ContextView, OperationView, operation, operation_of}
use Rattle.irtext_context.specs.declared.base.block.BlockData.{BlockData}
use Rattle.irtext_context.specs.declared.base.operation.OperationData.{OperationData}
use Rattle.irtext_context.proofs.Contexts.{OperationEntry}
use Rattle.irtext_graph.proofs.Nests.{some_eq}
use Rattle.irtext_graph.specs.Chained.{Among}
use Rattle.irtext_graph.specs.Content.{Content, Content.{AnOperation}, OperationContent}
use Rattle.irtext_graph.specs.Graph.{content_of, IsInside, IsLive}
use Rattle.irtext_graph.specs.Store.{get}
use Rattle.irtext_graph.specs.Throughout.{all_from}
use Rattle.irtext_graph.specs.declared.arena.Ptr.{Ptr}
use Rattle.irtext_graph.specs.declared.object.Object.{Object}
use Rattle.irtext_graph.specs.declared.object.Object.TheVariants.{TheOperation}
use Rattle.irtext_graph.specs.declared.object.Operation.{Operation}
use Rattle.irtext_print_ops.specs.Fits.{IsFirstReasonIn}
use Rattle.irtext_print_ops.specs.declared.fits.FitFault.{FitFault}
use Rattle.pliron_text.specs.Misfits.{FitsThere, IsFirstMisfit}
use Rattle.pliron_text.specs.Unprinted.{IsMisfitIn}
use Rattle.pliron_text.specs.declared.ir.printing.Misfit.{Misfit}

-- a live operation is a live object
pub live_there : {T A : Type 0} (c : ContextView T A) (p : Ptr Operation) → IsSome (operation c p) → IsLive c.graph (TheOperation p)
live_there {T} {A} c p h = go (get c.graph.operations p) h
  where
    an_operation : ℕ × OperationContent (Option (OperationData A)) (Option T) → Content (Option (OperationData A)) (BlockData A) (Option T)
    an_operation d = AnOperation d.0 d.1

    go : (o : Option (OperationEntry T A)) → IsSome (option_and_then operation_of o) → IsSome (option_map an_operation (content_of o))
    go None h = absurd (cc h)
    go (Some x) h = refl

some_of : {X : Type 0} (o : Option X) → IsSome o → (x : X) × (o ≡ Some x)
some_of None h = absurd (cc h)
some_of (Some x) h = (x, refl)

mapped : {X Y : Type 0} (f : X → Y) (o : Option X) (x : X) (y : Y) → o ≡ Some x → option_map f o ≡ Some y → y ≡ f x
mapped f o x y is e = sym (some_eq (sym (ap (option_map f) is) ∙ e))

-- one less is left
pub fewer : (all left : List Object) (first : Object) → all ≡ first ∷ left → length left < length all
fewer all left first is = let k = ap length is in omega (arith, k)

module _ {T A : Type 0} (written : A → Text) (attributes : attr_text.Ghosts A A) (same : A → A → Bool) (ctx : ContextView T A) (root : Ptr Operation) where
  -- each object inside the root comes from this one on, or fits
  abbrev pub ComesOrFits : Option Object → Object → Type 0
  ComesOrFits at q = Among q (all_from ctx.graph (TheOperation root) at) ⊎ FitsThere written attributes same ctx q

  -- one more fits
  pub fits_on : (at next : Option Object) (object : Object) → at ≡ Some object → all_from ctx.graph (TheOperation root) (Some object) ≡ object ∷ all_from ctx.graph (TheOperation root) next → FitsThere written attributes same ctx object
      → (q : Object) → ComesOrFits at q → ComesOrFits next q
  fits_on at next object is on fits q (inr f) = inr f
  fits_on at next object is on fits q (inl a) = go (subst (λ xs. Among q xs) on (subst (λ o. Among q (all_from ctx.graph (TheOperation root) o)) is a))
    where
      go : Among q (object ∷ all_from ctx.graph (TheOperation root) next) → ComesOrFits next q
      go (inl e) = inr (subst (FitsThere written attributes same ctx) (sym e) fits)
      go (inr a) = inl a

  -- nothing comes any more, so all fit
  pub all_fit : (at : Option Object) → at ≡ None → (q : Object) → ComesOrFits at q → FitsThere written attributes same ctx q
  all_fit at is q (inr f) = f
  all_fit at is q (inl a) = absurd (subst (λ o. Among q (all_from ctx.graph (TheOperation root) o)) is a)

  -- this one does not fit
  pub is_first : (at : Option Object) (object : Object) (op : Ptr Operation) (reason : FitFault) → at ≡ Some object → object ≡ TheOperation op → ((q : Object) → IsInside ctx.graph (TheOperation root) q → ComesOrFits at q)
      → IsInside ctx.graph (TheOperation root) object → IsSome (operation ctx op) → IsFirstReasonIn written attributes same ctx op reason → IsFirstMisfit written attributes same ctx root op reason
  is_first at object op reason at_is is so_far inside live unfit = record {
    live = live;
    inside = subst (IsInside ctx.graph (TheOperation root)) is inside;
    unfit = unfit;
    first = λ q w. subst (λ o. ComesOrFits o q) (at_is ∙ ap Some is) (so_far q w);
  }

-- the first operation that does not fit, with what the context has of it
pub misfit_in : {T A : Type 0} (types : ir_text.Ghosts T A) (owns : ir_text.Ghosts A A) (attributes : attr_text.Ghosts A A) (same : A → A → Bool) (ctx : ContextView T A) (root : Ptr Operation) (misfit : Misfit A)
    → IsFirstMisfit owns.written attributes same ctx root misfit.op misfit.fault → option_map (λ (o : OperationView T A). o.id) (operation ctx misfit.op) ≡ Some misfit.id.now → option_map (λ (o : OperationView T A). o.loc) (operation ctx misfit.op) ≡ Some misfit.loc.now
    → IsMisfitIn types owns attributes same ctx root misfit
misfit_in {T} {A} types owns attributes same ctx root misfit first id loc =
    let seen = some_of (operation ctx misfit.op) first.live in
    record {
      first = first;
      seen = seen.0;
      is = seen.1;
      id = mapped (λ (o : OperationView T A). o.id) (operation ctx misfit.op) seen.0 misfit.id.now seen.1 id;
      location = mapped (λ (o : OperationView T A). o.loc) (operation ctx misfit.op) seen.0 misfit.loc.now seen.1 loc;
    }
