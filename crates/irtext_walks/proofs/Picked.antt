-- The objects of one kind that come on a walk.
use Rattle.std.proofs.Common.{◌≡◌, ◌∙◌, ◌<◌, ◌++◌, ◌∷◌, sym, ap, arith, true, false, Option, Some, None, IfSome, List, [], length}
use Rattle.std.specs.Prelude.{is_some}
use Rattle.std.specs.Option.{option_map}
use Rattle.std.proofs.lemmas.List.{append_assoc}
use Rattle.irtext_graph.specs.declared.object.Object.{Object}
use Rattle.irtext_graph.specs.Graph.{GraphView, IsLive, IsInside}
use Rattle.irtext_graph.proofs.Inside.{within_self}
use Rattle.irtext_graph.specs.Graph.{parent}
use Rattle.irtext_walks.specs.Kinds.{Picks, put_first}
use Rattle.irtext_walks.specs.Walks.{IsLiveInside, IsAtLive}

module _ {O B T : Type 0} (g : GraphView O B T) (o : Object) where
  -- what is live and inside
  pub at_live : (r : Option Object) → IfSome r (λ q. IsInside g o q) → IfSome r (λ q. IsLive g q) → IsAtLive g o r
  at_live None inside there = tt
  at_live (Some q) inside there = record { alive = there; within = inside }

  pub root_live : IsLive g o → IsLiveInside g o o
  root_live alive = record { alive = alive; within = within_self (parent g) o }

-- a list with one more item is longer
pub one_longer : {X : Type 0} (xs ys : List X) (x : X) → xs ≡ x ∷ ys → length ys < length xs
one_longer xs ys x e = let n = ap length e in omega (arith, n)

module _ {P : Type 0} {object : P → Object} {among : List Object → List P} (p : Picks object among) where
  -- an object of another kind adds nothing
  pub passed : (o : Object) (os : List Object) (r : Option P) → among (o ∷ []) ≡ put_first r [] → is_some r ≡ false → among (o ∷ os) ≡ among os
  passed o os None e n = p.each o os ∙ ap (λ ys. ys ++ among os) e
  passed o os (Some x) e n = absurd (cc)

  -- an object of this kind is the first
  pub own_first : (x : P) (os : List Object) → among (object x ∷ os) ≡ x ∷ among os
  own_first x os = p.each (object x) os ∙ ap (λ ys. ys ++ among os) (p.own x)

  -- those of two lists, one after the other
  pub both : (os qs : List Object) → among (os ++ qs) ≡ among os ++ among qs
  both [] qs = ap (λ ys. ys ++ among qs) (sym p.none)
  both (o ∷ os) qs =
      p.each o (os ++ qs) ∙ ap (λ ys. among (o ∷ []) ++ ys) (both os qs) ∙ sym (append_assoc (among (o ∷ [])) (among os) (among qs))
      ∙ ap (λ ys. ys ++ among qs) (sym (p.each o os))

-- an object that was picked
pub picked_here : {P : Type 0} (object : P → Object) (o : Object) (r : Option P) → IfSome r (λ x. o ≡ object x) → is_some r ≡ true
    → Some o ≡ option_map object r
picked_here object o None same e = absurd (cc)
picked_here object o (Some x) same e = ap Some same
