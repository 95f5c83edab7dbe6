-- The walk over the objects of a root, and what an operation that is known otherwise says of the root.
use Rattle.std.proofs.Common.{◌≡◌, ◌∙◌, ◌<◌, ◌⊎◌, ℕ, zero, suc, inl, inr, refl, sym, ap, subst, arith, List, ◌∷◌, length, Option, Some, None, IsSome, option_map, Result, Ok, Err}
use Rattle.std.specs.Prelude.{◌↔◌, IfErr, IsOk}
use Rattle.std.specs.Result.{IsErrAnd}
use Rattle.irtext_base.specs.Text.{Text}
use Rattle.irtext_base.specs.declared.base.identifier.OpId.{OpId}
use Rattle.irtext_context.specs.Context.{ContextView, OperationView, operation}
use Rattle.irtext_context.specs.Dialects.{Known, Table}
use Rattle.irtext_context.specs.DialectTable.{registered}
use Rattle.irtext_context.proofs.Parts.{seen_is_live}
use Rattle.irtext_graph.specs.Chained.{Among}
use Rattle.irtext_graph.specs.Graph.{IsInside, IsLive, parent}
use Rattle.irtext_graph.specs.Nested.{climb}
use Rattle.irtext_graph.specs.Throughout.{all_from}
use Rattle.irtext_graph.specs.declared.arena.Ptr.{Ptr}
use Rattle.irtext_graph.specs.declared.object.Object.{Object}
use Rattle.irtext_graph.specs.declared.object.Object.TheVariants.{TheOperation}
use Rattle.irtext_graph.specs.declared.object.Operation.{Operation}
use Rattle.irtext_graph.proofs.Nests.{climb-none, some_eq}
use Rattle.irtext_alike.specs.Alike.{KnowsRoot}
use Rattle.irtext_alike.specs.First.{IsUnlike, IsAlikeAt, IsUnlikeAt, IsFirstUnlike}
use Rattle.irtext_alike.specs.declared.unlike.Unlike.{Unlike}
use Rattle.irtext_alike.specs.declared.unlike.Unlike.TheVariants.{Unregistered, RegisteredThere, OtherFormat, OtherIsolation}
use Rattle.irtext_alike.specs.declared.unlike.UnlikeOperation.{UnlikeOperation}

-- one less is left
pub fewer : (all left : List Object) (first : Object) → all ≡ first ∷ left → length left < length all
fewer all left first is = let k = ap length is in omega (arith, k)

-- an error that is returned, where what `Ok` says does not hold
pub refused : {X E P : Type 0} (e : E) (r : Result X E) → IsErrAnd r (λ y. y ≡ e) → (P → ⊥) → IsOk r ↔ P
refused e (Ok x) h none = absurd h
refused e (Err f) h none = ((λ t. absurd (cc)), (λ p. absurd (none p)))

-- what holds of an error holds of it where it is returned
pub passed : {X E : Type 0} (Q : E → Type 0) (e : E) (r : Result X E) → IsErrAnd r (λ y. y ≡ e) → Q e → IfErr r Q
passed Q e (Ok x) h q = absurd h
passed Q e (Err f) h q = subst Q (sym h) q

-- what is known otherwise is not known alike
pub unlike_differs : (here there : Option Known) (why : Unlike) → IsUnlike here there why → there ≡ here → ⊥
unlike_differs (Some h) None Unregistered u e = cc
unlike_differs None (Some t) RegisteredThere u e = cc
unlike_differs (Some h) (Some t) OtherFormat u e = u (sym (ap (λ k. k.format) (some_eq e)))
unlike_differs (Some h) (Some t) OtherIsolation u e = u.1 (sym (ap (λ k. k.isolated) (some_eq e)))
unlike_differs _ _ _ u e = absurd u

module _ {T A : Type 0} (ctx : ContextView T A) (dialects : List (Text × Table)) where
  -- an operation with this id that is known otherwise
  pub unlike_at : (q : Ptr Operation) (id : OpId) (why : Unlike) → option_map (λ (v : OperationView T A). v.id) (operation ctx q) ≡ Some id → IsUnlike (registered ctx.dialects id) (registered dialects id) why
      → IsUnlikeAt ctx dialects (TheOperation q) (record { op = q; why = why })
  unlike_at q id why e u = go (operation ctx q) refl e
    where
      go : (o : Option (OperationView T A)) → operation ctx q ≡ o → option_map (λ v. v.id) o ≡ Some id → IsUnlikeAt ctx dialects (TheOperation q) (record { op = q; why = why })
      go None is h = absurd (cc)
      go (Some view) is h = record { is = refl; view = view; here = is; why = subst (λ i. IsUnlike (registered ctx.dialects i) (registered dialects i) why) (sym (some_eq h)) u }

  -- an object that is known otherwise is not known alike
  not_alike : (o : Object) (unlike : UnlikeOperation) → IsUnlikeAt ctx dialects o unlike → IsAlikeAt ctx dialects o → ⊥
  not_alike o unlike u a = unlike_differs (registered ctx.dialects u.view.id) (registered dialects u.view.id) unlike.why u.why (subst (IsAlikeAt ctx dialects) u.is a u.view u.here)

  module _ (p : Ptr Operation) where
    -- each object of the root comes from this one on, or is known alike
    abbrev pub ComesOrAlike : Option Object → Object → Type 0
    ComesOrAlike at q = Among q (all_from ctx.graph (TheOperation p) at) ⊎ IsAlikeAt ctx dialects q

    -- one more is known alike
    pub alike_on : (at next : Option Object) (object : Object) → at ≡ Some object → all_from ctx.graph (TheOperation p) (Some object) ≡ object ∷ all_from ctx.graph (TheOperation p) next → IsAlikeAt ctx dialects object
        → (q : Object) → ComesOrAlike at q → ComesOrAlike next q
    alike_on at next object is on alike q (inr f) = inr f
    alike_on at next object is on alike q (inl a) = go (subst (λ xs. Among q xs) on (subst (λ o. Among q (all_from ctx.graph (TheOperation p) o)) is a))
      where
        go : Among q (object ∷ all_from ctx.graph (TheOperation p) next) → ComesOrAlike next q
        go (inl e) = inr (subst (IsAlikeAt ctx dialects) (sym e) alike)
        go (inr a) = inl a

    -- nothing comes any more, so all are known alike
    pub all_alike : (at : Option Object) → at ≡ None → ((q : Object) → IsInside ctx.graph (TheOperation p) q → ComesOrAlike at q) → KnowsRoot ctx dialects p
    all_alike at is so_far = record { alike = λ q view w here. go q (so_far (TheOperation q) w) view here }
      where
        go : (q : Ptr Operation) → ComesOrAlike at (TheOperation q) → IsAlikeAt ctx dialects (TheOperation q)
        go q (inr f) = f
        go q (inl a) = absurd (subst (λ o. Among (TheOperation q) (all_from ctx.graph (TheOperation p) o)) is a)

    -- the object that comes now is the first that is known otherwise
    pub first_unlike : (at : Option Object) (object : Object) (unlike : UnlikeOperation) → at ≡ Some object → IsInside ctx.graph (TheOperation p) object
        → ((q : Object) → IsInside ctx.graph (TheOperation p) q → ComesOrAlike at q) → IsUnlikeAt ctx dialects object unlike → IsFirstUnlike ctx dialects p unlike
    first_unlike at object unlike is inside so_far u =
        let now : at ≡ Some (TheOperation unlike.op) = is ∙ ap Some u.is in
        record {
          inside = subst (IsInside ctx.graph (TheOperation p)) u.is inside;
          unlike_at = record { is = refl; view = u.view; here = u.here; why = u.why };
          before = λ q w. subst (λ o. ComesOrAlike o q) now (so_far q w);
        }

    -- then the root is not known
    pub not_known : (unlike : UnlikeOperation) → IsFirstUnlike ctx dialects p unlike → KnowsRoot ctx dialects p → ⊥
    not_known unlike f k = not_alike (TheOperation unlike.op) unlike f.unlike_at (λ view here. k.alike unlike.op view f.inside here)

    -- ---- a pointer to no live object
    live_above : ((c k : Object) → parent ctx.graph c ≡ Some k → IsLive ctx.graph k) → (n : ℕ) (x : Object) → climb (parent ctx.graph) n (Some x) ≡ Some (TheOperation p) → (x ≡ TheOperation p) ⊎ IsLive ctx.graph (TheOperation p)
    live_above holders zero x e = inl (some_eq e)
    live_above holders (suc n) x e = above (parent ctx.graph x) refl e (live_above holders n)
      where
        above : (o : Option Object) → parent ctx.graph x ≡ o → climb (parent ctx.graph) n o ≡ Some (TheOperation p)
            → ((k : Object) → climb (parent ctx.graph) n (Some k) ≡ Some (TheOperation p) → (k ≡ TheOperation p) ⊎ IsLive ctx.graph (TheOperation p)) → (x ≡ TheOperation p) ⊎ IsLive ctx.graph (TheOperation p)
        above None up f on = let none = climb-none (parent ctx.graph) n in absurd (cc)
        above (Some k) up f on = elim (on k f) [
          | inl same ↦ inr (subst (IsLive ctx.graph) same (holders x k up))
          | inr l ↦ inr l
        ]

    -- it has no operations
    pub none_inside : ((c k : Object) → parent ctx.graph c ≡ Some k → IsLive ctx.graph k) → (IsLive ctx.graph (TheOperation p) → ⊥) → KnowsRoot ctx dialects p
    none_inside holders gone = record {
      alike = λ q view w here. elim (live_above holders w.0 (TheOperation q) w.1) [
        | inl e ↦ absurd (gone (subst (IsLive ctx.graph) e (seen_is_live ctx q (subst IsSome (sym here) refl))))
        | inr l ↦ absurd (gone l)
      ];
    }
