-- The walk over an object and all that is nested in it, in order: what was tested of those before the present one, and holds of all in the end.
use Rattle.std.proofs.Common.{◌≡◌, ◌<◌, ◌⊎◌, inl, inr, sym, ap, subst, arith, List, ◌∷◌, length, Option, Some, None}
use Rattle.irtext_graph.specs.declared.object.Object.{Object}
use Rattle.irtext_graph.specs.Chained.{Among}
use Rattle.irtext_graph.specs.Graph.{GraphView}
use Rattle.irtext_graph.specs.Throughout.{all_from}

-- one less is left
pub fewer : (all left : List Object) (first : Object) → all ≡ first ∷ left → length left < length all
fewer all left first is = let k = ap length is in omega (arith, k)

module _ {O B T : Type 0} (g : GraphView O B T) (top : Object) (Holds : Object → Type 0) where
  -- an object comes from this one on, or it holds of it
  abbrev pub ComesOr : Option Object → Object → Type 0
  ComesOr at q = Among q (all_from g top at) ⊎ Holds q

  -- it holds of one more
  pub one_more : (at next : Option Object) (object : Object) → at ≡ Some object → all_from g top (Some object) ≡ object ∷ all_from g top next → Holds object → (q : Object) → ComesOr at q → ComesOr next q
  one_more at next object is on holds q (inr f) = inr f
  one_more at next object is on holds q (inl a) = go (subst (λ xs. Among q xs) on (subst (λ o. Among q (all_from g top o)) is a))
    where
      go : Among q (object ∷ all_from g top next) → ComesOr next q
      go (inl e) = inr (subst Holds (sym e) holds)
      go (inr a) = inl a

  -- nothing comes any more, so it holds of all
  pub all_hold : (at : Option Object) → at ≡ None → (q : Object) → ComesOr at q → Holds q
  all_hold at is q (inr f) = f
  all_hold at is q (inl a) = absurd (subst (λ o. Among q (all_from g top o)) is a)
