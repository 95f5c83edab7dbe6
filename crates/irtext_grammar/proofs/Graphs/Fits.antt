-- What is written of an operation that fits its format has the format's directives.
use Rattle.std.specs.Prelude.{◌≡◌, List, [], ◌∷◌, map, filter_map, slice_get, Option, Some, None, option_map, option_and_then, refl, ⊤, is_some, true}
use Rattle.std.proofs.Common.{sym, ap₂, true≢false}
use Rattle.std.specs.List.{cons_option}
use Rattle.irtext_base.specs.Format as format
use Rattle.irtext_base.specs.Format.{sym_name_key}
use Rattle.irtext_grammar.specs.Grammar.Tree as tree
use Rattle.irtext_grammar.specs.Grammar.Tree.{Attribute, given_names, ident, own, Part, directive}
use Rattle.irtext_grammar.specs.Graphs.Graph.{Printing, GraphOp, part_of, lookup}

module _ {T A : Type 0} (C : Printing T A) where
  abbrev Shaped : format.Directive → Option (Part ⊤ T A) → Type 0
  Shaped d None = ⊤
  Shaped d (Some p) = directive p ≡ Some d

  mapped : {X : Type 0} (d : format.Directive) (f : X → Part ⊤ T A) → ((x : X) → directive (f x) ≡ Some d) → (o : Option X) → Shaped d (option_map f o)
  mapped d f h None = tt
  mapped d f h (Some x) = h x

  shaped : (ds : List format.Directive) (o : GraphOp T A) (d : format.Directive) → Shaped d (part_of C ds o d)
  shaped ds o (format.operand i) = mapped (format.operand i) _ (λ x. refl) (slice_get o.operands i)
  shaped ds o (format.successor i) = mapped (format.successor i) _ (λ x. refl) (slice_get o.successors i)
  shaped ds o (format.attribute k) = mapped (format.attribute k) _ (λ x. refl) (lookup k o.attributes)
  shaped ds o (format.result_type i) = mapped (format.result_type i) _ (λ x. refl) (slice_get o.results i)
  shaped ds o format.header = headed (lookup sym_name_key o.attributes)
    where
      headed : (a : Option (Attribute A)) → Shaped format.header (option_and_then (λ a. elim a [ ident n ↦ Some (tree.piece (tree.header (record { place = tt; text = n }))) | _ ↦ None ]) a)
      headed None = tt
      headed (Some (given_names ns)) = tt
      headed (Some (ident n)) = refl
      headed (Some (own x)) = tt
  shaped ds o _ = refl

  -- each of the directives finds its part in the operation
  abbrev pub Fits : List format.Directive → GraphOp T A → List format.Directive → Type 0
  Fits ds o [] = ⊤
  Fits ds o (d ∷ rest) = (is_some (part_of C ds o d) ≡ true) × Fits ds o rest

  -- what is written of an operation that fits has the directives of the format
  pub fits : (ds : List format.Directive) (o : GraphOp T A) (rest : List format.Directive) → Fits ds o rest → map directive (filter_map (part_of C ds o) rest) ≡ map Some rest
  fits ds o [] h = refl
  fits ds o (d ∷ rest) h = go (part_of C ds o d) (shaped ds o d) h.0 (filter_map (part_of C ds o) rest) (fits ds o rest h.1)
    where
      go : (p : Option (Part ⊤ T A)) → Shaped d p → is_some p ≡ true → (xs : List (Part ⊤ T A)) → map directive xs ≡ map Some rest → map directive (cons_option p xs) ≡ Some d ∷ map Some rest
      go None s k xs e = absurd (true≢false (sym k))
      go (Some p) s k xs e = ap₂ ◌∷◌ s e
