-- The operations of a walk are gathered object by object.
use Rattle.std.proofs.Common.{◌≡◌, ◌++◌, ◌∷◌, ◌∙◌, ◌⊎◌, refl, sym, ap, subst, inl, inr, List, []}
use Rattle.std.proofs.lemmas.List.{append-nil, append_assoc}
use Rattle.irtext_graph.specs.Chained.{Among}
use Rattle.irtext_graph.specs.declared.arena.Ptr.{Ptr}
use Rattle.irtext_graph.specs.declared.object.Object.{Object}
use Rattle.irtext_graph.specs.declared.object.Object.TheVariants.{TheOperation, TheBlock, TheRegion}
use Rattle.irtext_graph.specs.declared.object.Operation.{Operation}
use Rattle.irtext_graph_queries.specs.Nested.{operations_among}

-- the operations of the first object, and then those of the others
among_first : (o : Object) (os : List Object) → operations_among (o ∷ []) ++ operations_among os ≡ operations_among (o ∷ os)
among_first (TheOperation p) os = refl
among_first (TheBlock b) os = refl
among_first (TheRegion r) os = refl

-- one more object was looked at
pub gathered_more : (xs ys : List (Ptr Operation)) (o : Object) (os left : List Object) → ys ≡ xs ++ operations_among (o ∷ []) → left ≡ o ∷ os
    → ys ++ operations_among os ≡ xs ++ operations_among left
gathered_more xs ys o os left e l =
    ap (λ zs. zs ++ operations_among os) e ∙ append_assoc xs (operations_among (o ∷ [])) (operations_among os)
    ∙ ap (λ zs. xs ++ zs) (among_first o os ∙ ap operations_among (sym l))

-- what is in two lists is in one of them
in_either : {X : Type 0} (x : X) (xs ys : List X) → Among x (xs ++ ys) → Among x xs ⊎ Among x ys
in_either x [] ys m = inr m
in_either x (z ∷ xs) ys (inl e) = inl (inl e)
in_either x (z ∷ xs) ys (inr m) = elim (in_either x xs ys m) [ inl n ↦ inl (inr n) | inr n ↦ inr n ]

-- an operation among objects is one of them
is_of : (p : Ptr Operation) (o : Object) → Among p (operations_among (o ∷ [])) → o ≡ TheOperation p
is_of p (TheOperation q) (inl e) = ap TheOperation (sym e)
is_of p (TheOperation q) (inr m) = absurd m
is_of p (TheBlock b) m = absurd m
is_of p (TheRegion r) m = absurd m

-- each operation that was gathered has a property of all objects that were looked at
pub held_more : (Holds : Object → Type 0) (xs ys : List (Ptr Operation)) (o : Object) → ys ≡ xs ++ operations_among (o ∷ [])
    → ((p : Ptr Operation) → Among p xs → Holds (TheOperation p)) → Holds o → (p : Ptr Operation) → Among p ys → Holds (TheOperation p)
held_more Holds xs ys o e held here p m =
    elim (in_either p xs (operations_among (o ∷ [])) (subst (Among p) e m)) [ inl old ↦ held p old | inr new ↦ subst Holds (is_of p o new) here ]

-- an operation among objects is among the operations
pub among_operations : (p : Ptr Operation) (os : List Object) → Among (TheOperation p) os → Among p (operations_among os)
among_operations p [] m = absurd m
among_operations p (TheOperation q ∷ os) (inl e) = inl (cc e)
among_operations p (TheOperation q ∷ os) (inr m) = inr (among_operations p os m)
among_operations p (TheBlock b ∷ os) (inl e) = absurd (cc)
among_operations p (TheBlock b ∷ os) (inr m) = among_operations p os m
among_operations p (TheRegion r ∷ os) (inl e) = absurd (cc)
among_operations p (TheRegion r ∷ os) (inr m) = among_operations p os m

-- all objects were looked at
pub gathered_all : (xs : List (Ptr Operation)) (left all : List Object) → xs ++ operations_among left ≡ operations_among all → left ≡ [] → xs ≡ operations_among all
gathered_all xs left all e none = sym (append-nil xs) ∙ ap (λ os. xs ++ operations_among os) (sym none) ∙ e
