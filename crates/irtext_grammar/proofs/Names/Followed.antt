-- The failures of one script and then another: those of the first, and those of the second after the facts of the first.
use Rattle.std.proofs.Common.{◌≡◌, Bool, List, [], ◌++◌, Option, Some, None, refl, sym, ap, ◌∙◌, append_assoc, append-nil}
use Rattle.irtext_grammar.specs.Names.Script.{Script, done, does, within, follow}
use Rattle.irtext_grammar.specs.Names.Scopes.{Fact, Facts, ◌⊕◌, Scopes, and_then, ◌⊳◌, fact_of, not_isolated, inside, left_open, outward, facts, act_failures, failures}

module _ {N : Type 0} where
  and_twice : (o : Option (List (Fact N))) (fs gs : List (Fact N)) → and_then (and_then o fs) gs ≡ and_then o (fs ++ gs)
  and_twice None fs gs = refl
  and_twice (Some hs) fs gs = ap Some (append_assoc hs fs gs)

  and_nothing : (o : Option (List (Fact N))) → and_then o [] ≡ o
  and_nothing None = refl
  and_nothing (Some fs) = ap Some (append-nil fs)

  then_twice : (s : Scopes N) (f g : Facts N) → s ⊳ f ⊳ g ≡ s ⊳ (f ⊕ g)
  then_twice s f g = λ i. record { values = and_twice s.values f.values g.values i; labels = and_twice s.labels f.labels g.labels i; marks = append_assoc s.marks f.marks g.marks i; entries = append_assoc s.entries f.entries g.entries i }

  then_nothing : (s : Scopes N) → s ≡ record { values = and_then s.values []; labels = and_then s.labels []; marks = s.marks ++ []; entries = s.entries ++ [] }
  then_nothing s = λ i. record { values = sym (and_nothing s.values) i; labels = sym (and_nothing s.labels) i; marks = sym (append-nil s.marks) i; entries = sym (append-nil s.entries) i }

module _ {N P : Type 0} (eq : N → N → Bool) where
  -- the failures of one script and then another: those of the first, and those of the second after the first's facts
  pub failures_follow : (s : Scopes N) (x y : Script N P) → failures eq s (follow x y) ≡ failures eq s x ++ failures eq (s ⊳ facts eq x) y
  failures_follow s done y = ap (λ z. failures eq z y) (then_nothing s)
  failures_follow s (does a k) y =
      ap (λ z. act_failures eq s a ++ z) (failures_follow (s ⊳ fact_of a) k y ∙ ap (λ z. failures eq (s ⊳ fact_of a) k ++ failures eq z y) (then_twice s (fact_of a) (facts eq k)))
      ∙ sym (append_assoc (act_failures eq s a) (failures eq (s ⊳ fact_of a) k) _)
  failures_follow s (within iso p body k) y =
      let x = outward eq iso (facts eq body) in
      let region = not_isolated iso s.values ++ (failures eq (inside iso s) body ++ left_open eq p iso (facts eq body)) in
      ap (λ z. region ++ z) (failures_follow (s ⊳ x) k y ∙ ap (λ z. failures eq (s ⊳ x) k ++ failures eq z y) (then_twice s x (facts eq k)))
      ∙ sym (append_assoc region (failures eq (s ⊳ x) k) _)
