-- What is at an index of a list, and at the same index of its images.
use Rattle.std.proofs.Common.{◌≡◌, ◌<◌, ◌+◌, ◌∙◌, ◌∷◌, ◌⊎◌, ◌↔◌, ℕ, zero, suc, refl, sym, ap, subst, inl, inr, arith, nat_lt, Option, Some, None, IsSome, List, [], length, map, slice_get}
use Rattle.std.specs.Prelude.{IsTrue}
use Rattle.std.specs.Option.{option_map}
use Rattle.std.proofs.lemmas.Bool.{lt-ltb}
use Rattle.std.proofs.lemmas.List.{length-map}
use Rattle.std.proofs.lemmas.Option.{slice_get-map}
use Rattle.std.proofs.Math.Nat.{eq-or-lt_of_le}
use borrow.Author.Tests.{ltb-true}
use Rattle.irtext_graph.specs.declared.object.Object.{Object}
use Rattle.irtext_graph.specs.declared.object.Site.{Site}
use Rattle.irtext_graph.specs.declared.objects.Definition.{Definition}
use Rattle.irtext_graph.specs.Uses.{first_of}

-- what holds of the items before an index, and of the one at the index, holds of those before the next index
pub one_more_holds : {X : Type 0} (Holds : X → Type 0) (xs : List X) (i : ℕ) (x : X) → slice_get xs i ≡ Some x → Holds x → ((j : ℕ) (y : X) → j < i → slice_get xs j ≡ Some y → Holds y) → (j : ℕ) (y : X) → j < i + 1 → slice_get xs j ≡ Some y → Holds y
one_more_holds {X} Holds xs i x at here before j y less e = go (eq-or-lt_of_le (omega (arith, less)))
  where
    go : (j ≡ i) ⊎ (j < i) → Holds y
    go (inl same) = let met : Some x ≡ Some y = sym at ∙ sym (ap (slice_get xs) same) ∙ e in let one : x ≡ y = cc in subst Holds one here
    go (inr earlier) = before j y earlier e

module _ {X : Type 0} (the : X → Object) where
  -- an index of a list of pointers is one of the list of their objects
  pub child_within : (xs : List X) (i : ℕ) → i < length xs → i < length (map the xs)
  child_within xs i less = rw (length-map xs the) less

  -- the pointer to the object there is the one at the index
  pub child_here : ((x y : X) → the x ≡ the y → x ≡ y) → (xs : List X) (i : ℕ) (o : Object) (x : X) → slice_get (map the xs) i ≡ Some o → o ≡ the x → slice_get xs i ≡ Some x
  child_here one xs i o x at is = go (slice_get xs i) (sym (slice_get-map the xs i) ∙ at ∙ ap Some is)
    where
      go : (s : Option X) → option_map the s ≡ Some (the x) → s ≡ Some x
      go None e = absurd (cc)
      go (Some y) e = let same : the y ≡ the x = cc in ap Some (one y x same)

-- an index is below the length of a list if, and only if, something is there
module _ {X : Type 0} where
  some_within : (xs : List X) (i : ℕ) → i < length xs → IsSome (slice_get xs i)
  some_within [] i less = absurd (omega (arith, less))
  some_within (x ∷ xs) zero less = refl
  some_within (x ∷ xs) (suc i) less = some_within xs i (omega (arith, less))

  within_some : (xs : List X) (i : ℕ) → IsSome (slice_get xs i) → i < length xs
  within_some [] i there = absurd (cc)
  within_some (x ∷ xs) zero there = omega arith
  within_some (x ∷ xs) (suc i) there = let low = within_some xs i there in omega (arith, low)

  pub is_within : (xs : List X) (s : Option X) (i n : ℕ) → s ≡ slice_get xs i → n ≡ length xs → IsTrue (nat_lt i n) ↔ IsSome s
  is_within xs s i n at count = (
    λ less. subst (λ o. IsSome o) (sym at) (some_within xs i (let low = ltb-true i n less in omega (arith, low, count))),
    λ there. lt-ltb i n (let low = within_some xs i (subst (λ o. IsSome o) at there) in omega (arith, low, count)),
  )

-- the same of definitions, by their first uses
module _ {T : Type 0} where
  first_there : (o : Option (Definition T)) → IsSome o → IsSome (first_of o)
  first_there None there = absurd (cc)
  first_there (Some d) there = refl

  there_first : (o : Option (Definition T)) → IsSome (first_of o) → IsSome o
  there_first None there = absurd (cc)
  there_first (Some d) there = refl

  pub first_within : (ds : List (Definition T)) (s : Option (Option Site)) (i n : ℕ) → s ≡ first_of (slice_get ds i) → n ≡ length ds → IsSome s ↔ i < n
  first_within ds s i n at count = (
    λ there. let low = within_some ds i (there_first (slice_get ds i) (subst (λ o. IsSome o) at there)) in omega (arith, low, count),
    λ less. subst (λ o. IsSome o) (sym at) (first_there (slice_get ds i) (some_within ds i (omega (arith, less, count)))),
  )
