-- The types of values that are listed: those that there are, and all of them if each value is in the context.
use Rattle.std.proofs.Common.{◌≡◌, ◌<◌, ◌∙◌, ℕ, zero, suc, refl, sym, ap, subst, arith, Option, Some, None, IsSome, List, [], ◌∷◌, map, slice_get, length}
use Rattle.std.specs.Prelude.{filter_map, option_and_then}
use Rattle.std.specs.List.{cons_option}
use Rattle.std.specs.Option.{option_map}
use Rattle.std.proofs.lemmas.List.{length-map}
use Rattle.irtext_context.specs.Context.{ContextView}
use Rattle.irtext_graph.specs.Content.{Typed}
use Rattle.irtext_graph.specs.Parts.{operands, results, value_at}
use Rattle.irtext_graph.specs.declared.arena.Ptr.{Ptr}
use Rattle.irtext_graph.specs.declared.object.Operation.{Operation}
use Rattle.irtext_graph.specs.declared.object.Value.{Value}
use Rattle.irtext_graph.specs.declared.object.Value.TheVariants.{Result}
use Rattle.irtext_graph_queries.specs.Lists.{each}
use Rattle.irtext_graph_queries.proofs.Gathered.{seen_each}
use Rattle.irtext_checked.specs.Types.{value_type, result_values, AreContainedValues, ListsTypes}

-- what there is among the images of a list
filtered : {X Y : Type 0} (see : X → Option Y) (xs : List X) → filter_map (λ o. o) (map see xs) ≡ filter_map see xs
filtered see [] = refl
filtered see (x ∷ xs) = ap (λ ys. cons_option (see x) ys) (filtered see xs)

-- if the first is there, it is the first of those that there are
first_there : {X : Type 0} (o : Option X) (xs : List X) (ys : List (Option X)) → IsSome o → map (λ x. Some x) xs ≡ ys → map (λ x. Some x) (cons_option o xs) ≡ o ∷ ys
first_there None xs ys some e = absurd (cc)
first_there (Some x) xs ys some e = ap (λ zs. Some x ∷ zs) e

-- the image at an index of a list is that of what is at the index
image_at : {X Y : Type 0} (f : X → Option Y) (xs : List X) (i : ℕ) → i < length (map f xs) → slice_get (map f xs) i ≡ Some (option_and_then f (slice_get xs i))
image_at f [] i less = absurd (omega (arith, less))
image_at f (x ∷ xs) zero less = refl
image_at f (x ∷ xs) (suc i) less = image_at f xs i (omega (arith, less))

module _ {T : Type 0} where
  -- the type of a value that is defined
  one_type : (of_type : Option T) (o : Option (Typed (Option T))) → Some of_type ≡ option_map (λ t. t.of_type) o → of_type ≡ option_and_then (λ t. t.of_type) o
  one_type of_type None e = absurd (cc)
  one_type of_type (Some t) e = cc

  -- the types of values that are defined
  many_types : {R V : Type 0} (now : R → Option T) (see : V → Option (Typed (Option T))) (rs : List R) (vs : List V) → map (λ r. Some (now r)) rs ≡ map (λ v. option_map (λ t. t.of_type) (see v)) vs → map now rs ≡ map (λ v. option_and_then (λ t. t.of_type) (see v)) vs
  many_types now see [] [] e = refl
  many_types now see [] (v ∷ vs) e = absurd (cc)
  many_types now see (r ∷ rs) [] e = absurd (cc)
  many_types now see (r ∷ rs) (v ∷ vs) e =
      let head : Some (now r) ≡ option_map (λ t. t.of_type) (see v) = cc in
      let tail : map (λ r. Some (now r)) rs ≡ map (λ v. option_map (λ t. t.of_type) (see v)) vs = cc in
      let first : now r ≡ option_and_then (λ t. t.of_type) (see v) = one_type (now r) (see v) head in
      let rest : map now rs ≡ map (λ v. option_and_then (λ t. t.of_type) (see v)) vs = many_types now see rs vs tail in
      ap (λ z. z ∷ map now rs) first ∙ ap (λ zs. option_and_then (λ t. t.of_type) (see v) ∷ zs) rest

module _ {T A : Type 0} (c : ContextView T A) where
  -- if each value is in the context, each type is listed
  all_listed : (vs : List Value) → AreContainedValues c vs → map (λ t. Some t) (filter_map (value_type c) vs) ≡ map (value_type c) vs
  all_listed [] h = refl
  all_listed (v ∷ vs) h = first_there (value_type c v) (filter_map (value_type c) vs) (map (value_type c) vs) (h zero v refl) (all_listed vs (λ i w e. h (suc i) w e))

  -- the types that there are among those of values
  lists_types : {R : Type 0} (now : R → Option T) (rs : List R) (vs : List Value) (types : List T) → map now rs ≡ map (value_type c) vs → types ≡ filter_map now rs → ListsTypes c vs types
  lists_types now rs vs types all e =
      let typed : types ≡ filter_map (value_type c) vs = e ∙ (sym (filtered now rs) ∙ (ap (λ ys. filter_map (λ o. o) ys) all ∙ filtered (value_type c) vs)) in
      record { typed = typed; all = λ h. ap (λ ys. map (λ t. Some t) ys) typed ∙ all_listed vs h }

  -- the types of the results that there are
  pub results_listed : {R : Type 0} (now : R → Option T) (rs : List R) (p : Ptr Operation) (types : List T) → map now rs ≡ map (λ r. r.of_type) (results c.graph p) → types ≡ filter_map now rs → ListsTypes c (result_values c p) types
  results_listed now rs p types all e = lists_types now rs (result_values c p) types (all ∙ sym typed) e
    where
      typed : map (value_type c) (result_values c p) ≡ map (λ r. r.of_type) (results c.graph p)
      typed = subst (λ n. map (value_type c) (each (Result p) n) ≡ map (λ r. r.of_type) (results c.graph p)) (length-map (results c.graph p) (λ r. r.of_type))
          (seen_each (value_type c) (Result p) (map (λ r. r.of_type) (results c.graph p)) (image_at (λ r. r.of_type) (results c.graph p)))

  -- the types of the operands that there are
  pub operands_listed : {R : Type 0} (now : R → Option T) (rs : List R) (p : Ptr Operation) (types : List T) → map (λ r. Some (now r)) rs ≡ map (λ v. option_map (λ t. t.of_type) (value_at c.graph v)) (operands c.graph p) → types ≡ filter_map now rs → ListsTypes c (operands c.graph p) types
  operands_listed now rs p types all e = lists_types now rs (operands c.graph p) types (many_types now (value_at c.graph) rs (operands c.graph p) all) e
