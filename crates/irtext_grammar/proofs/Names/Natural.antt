-- Resolution does not look into names: with other names that differ where these do, the same is bound, and the same is wrong.
use Rattle.std.proofs.Common.{◌≡◌, Bool, true, false, cond, not, ◌&&◌, List, [], ◌∷◌, ◌++◌, map, Option, Some, None, is_some, refl, sym, ap, ap₂, ◌∙◌}
use Rattle.std.specs.Prelude.{⊤}
use Rattle.irtext_grammar.specs.Names.Script.{Word, Failure, Act, use_value, use_label, define_value, define_label, mark, entry, claim, Script, done, does, within, word_as, failure_as, act_as, script_as, UnresolvedReference, MultipleDefinitions}
use Rattle.irtext_grammar.specs.Names.Scopes.{Fact, uses, defines, link, fail, Facts, ◌⊕◌, fact_of, Scopes, and_then, ◌⊳◌, is_among, outside, not_isolated, inside, lookup, bound_in, unresolved, outward, facts, defined_before, act_failures, left_open, failures}

-- the images of two lists joined
pub map_both : {A B : Type 0} (F : A → B) (xs ys : List A) → map F (xs ++ ys) ≡ map F xs ++ map F ys
map_both F [] ys = refl
map_both F (x ∷ xs) ys = ap (λ z. F x ∷ z) (map_both F xs ys)

map_cond : {A B : Type 0} (F : A → B) (b : Bool) (x : List A) → map F (cond b [] x) ≡ cond b [] (map F x)
map_cond F true x = refl
map_cond F false x = refl

map_cond_then : {A B : Type 0} (F : A → B) (b : Bool) (x : List A) → map F (cond b x []) ≡ cond b (map F x) []
map_cond_then F true x = refl
map_cond_then F false x = refl

-- each name satisfies
abbrev pub AllFacts : {N : Type 0} → (N → Type 0) → List (Fact N) → Type 0
AllFacts Q [] = ⊤
AllFacts Q (uses n u ∷ fs) = Q n × AllFacts Q fs
AllFacts Q (defines n p ∷ fs) = Q n × AllFacts Q fs

-- each name in the act has the property
abbrev pub AllAct : {N P : Type 0} → (N → Type 0) → Act N P → Type 0
AllAct Q (use_value w u) = Q w.name
AllAct Q (use_label w u) = Q w.name
AllAct Q (define_value w p) = Q w.name
AllAct Q (define_label w p) = Q w.name
AllAct Q _ = ⊤

-- each name in the script has the property
abbrev pub AllScript : {N P : Type 0} → (N → Type 0) → Script N P → Type 0
AllScript Q done = ⊤
AllScript Q (does a k) = AllAct Q a × AllScript Q k
AllScript Q (within iso p body k) = AllScript Q body × AllScript Q k

all_both : {N : Type 0} (Q : N → Type 0) (fs gs : List (Fact N)) → AllFacts Q fs → AllFacts Q gs → AllFacts Q (fs ++ gs)
all_both Q [] gs h k = k
all_both Q (uses n u ∷ fs) gs h k = (h.0, all_both Q fs gs h.1 k)
all_both Q (defines n p ∷ fs) gs h k = (h.0, all_both Q fs gs h.1 k)

-- the fact, with its name mapped
abbrev pub fact_as : {N M : Type 0} → (N → M) → Fact N → Fact M
fact_as f (uses n u) = uses (f n) u
fact_as f (defines n p) = defines (f n) p

-- the facts, with their names mapped
abbrev pub facts_as : {N M : Type 0} → (N → M) → Facts N → Facts M
facts_as f x = record { values = map (fact_as f) x.values; labels = map (fact_as f) x.labels; marks = x.marks; entries = x.entries; bound = x.bound }

-- the scope, if there is one, with its names mapped
abbrev pub scope_as : {N M : Type 0} → (N → M) → Option (List (Fact N)) → Option (List (Fact M))
scope_as f None = None
scope_as f (Some fs) = Some (map (fact_as f) fs)

-- the scopes, with their names mapped
abbrev pub scopes_as : {N M : Type 0} → (N → M) → Scopes N → Scopes M
scopes_as f s = record { values = scope_as f s.values; labels = scope_as f s.labels; marks = s.marks; entries = s.entries }

both_as : {N M : Type 0} (f : N → M) (x y : Facts N) → facts_as f (x ⊕ y) ≡ facts_as f x ⊕ facts_as f y
both_as f x y = λ i. record { values = map_both (fact_as f) x.values y.values i; labels = map_both (fact_as f) x.labels y.labels i; marks = x.marks ++ y.marks; entries = x.entries ++ y.entries; bound = x.bound ++ y.bound }

then_as : {N M : Type 0} (f : N → M) (o : Option (List (Fact N))) (fs : List (Fact N)) → scope_as f (and_then o fs) ≡ and_then (scope_as f o) (map (fact_as f) fs)
then_as f None fs = refl
then_as f (Some gs) fs = ap Some (map_both (fact_as f) gs fs)

scopes_then_as : {N M : Type 0} (f : N → M) (s : Scopes N) (x : Facts N) → scopes_as f (s ⊳ x) ≡ scopes_as f s ⊳ facts_as f x
scopes_then_as f s x = λ i. record { values = then_as f s.values x.values i; labels = then_as f s.labels x.labels i; marks = s.marks ++ x.marks; entries = s.entries ++ x.entries }

fact_of_as : {N P M Q : Type 0} (f : N → M) (h : P → Q) (a : Act N P) → fact_of (act_as f h a) ≡ facts_as f (fact_of a)
fact_of_as f h (use_value w u) = refl
fact_of_as f h _ = refl

inside_as : {N M : Type 0} (f : N → M) (iso : Bool) (s : Scopes N) → scopes_as f (inside iso s) ≡ inside iso (scopes_as f s)
inside_as f true s = refl
inside_as f false s = refl

module _ {N P M Q : Type 0} (f : N → M) (h : P → Q) (eqn : N → N → Bool) (eqm : M → M → Bool) (Small : N → Type 0) (agree : (a b : N) → Small a → Small b → eqm (f a) (f b) ≡ eqn a b) where
  abbrev F : Failure N P → Failure M Q
  F = failure_as f h

  -- a mapped name has among mapped facts what the name has among the facts
  pub lookup_as : (n : N) (fs : List (Fact N)) → Small n → AllFacts Small fs → lookup eqm (f n) (map (fact_as f) fs) ≡ lookup eqn n fs
  lookup_as n [] s all = refl
  lookup_as n (uses m u ∷ fs) s all = lookup_as n fs s all.1
  lookup_as n (defines m p ∷ fs) s all = ap₂ (λ b o. cond b (Some p) o) (agree m n all.0 s) (lookup_as n fs s all.1)

  bound_in_as : (all fs : List (Fact N)) → AllFacts Small all → AllFacts Small fs → bound_in eqm (map (fact_as f) all) (map (fact_as f) fs) ≡ bound_in eqn all fs
  bound_in_as all [] a s = refl
  bound_in_as all (uses n u ∷ fs) a s = ap₂ (λ o z. link u o ++ z) (lookup_as n all s.0 a) (bound_in_as all fs a s.1)
  bound_in_as all (defines n p ∷ fs) a s = bound_in_as all fs a s.1

  unresolved_as : (p : P) (all fs : List (Fact N)) → AllFacts Small all → AllFacts Small fs → unresolved eqm (h p) (map (fact_as f) all) (map (fact_as f) fs) ≡ map F (unresolved eqn p all fs)
  unresolved_as p all [] a s = refl
  unresolved_as p all (uses n u ∷ fs) a s =
      ap₂ (λ o z. cond (is_some o) [] (fail (UnresolvedReference (f n)) (h p)) ++ z) (lookup_as n all s.0 a) (unresolved_as p all fs a s.1)
      ∙ (ap (λ z. z ++ map F (unresolved eqn p all fs)) (sym (map_cond F (is_some (lookup eqn n all)) (fail (UnresolvedReference n) p)))
      ∙ sym (map_both F (cond (is_some (lookup eqn n all)) [] (fail (UnresolvedReference n) p)) (unresolved eqn p all fs)))
  unresolved_as p all (defines n q ∷ fs) a s = unresolved_as p all fs a s.1

  outward_as : (iso : Bool) (x : Facts N) → AllFacts Small x.values → AllFacts Small x.labels → outward eqm iso (facts_as f x) ≡ facts_as f (outward eqn iso x)
  outward_as true x v l = λ i. record { values = []; labels = []; marks = x.marks; entries = x.entries; bound = x.bound ++ (bound_in_as x.values x.values v v i ++ bound_in_as x.labels x.labels l l i) }
  outward_as false x v l = λ i. record { values = map (fact_as f) x.values; labels = []; marks = x.marks; entries = x.entries; bound = x.bound ++ bound_in_as x.labels x.labels l l i }

  -- each name in the facts has the property
  pub record Of (x : Facts N) : Type 0 where
    pub values : AllFacts Small x.values
    pub labels : AllFacts Small x.labels

  of_both : (x y : Facts N) → Of x → Of y → Of (x ⊕ y)
  of_both x y p q = record { values = all_both Small x.values y.values p.values q.values; labels = all_both Small x.labels y.labels p.labels q.labels }

  of_act : (a : Act N P) → AllAct Small a → Of (fact_of a)
  of_act (use_value w u) s = record { values = (s, tt); labels = tt }
  of_act (use_label w u) s = record { values = tt; labels = (s, tt) }
  of_act (define_value w p) s = record { values = (s, tt); labels = tt }
  of_act (define_label w p) s = record { values = tt; labels = (s, tt) }
  of_act (mark i p) s = record { values = tt; labels = tt }
  of_act (entry i p) s = record { values = tt; labels = tt }
  of_act (claim b x) s = record { values = tt; labels = tt }

  of_outward : (iso : Bool) (x : Facts N) → Of x → Of (outward eqn iso x)
  of_outward true x o = record { values = tt; labels = tt }
  of_outward false x o = record { values = o.values; labels = tt }

  -- the names in a script's facts have the property where those in the script do
  pub of_script : (s : Script N P) → AllScript Small s → Of (facts eqn s)
  of_script done all = record { values = tt; labels = tt }
  of_script (does a k) all = of_both (fact_of a) (facts eqn k) (of_act a all.0) (of_script k all.1)
  of_script (within iso p body k) all = of_both (outward eqn iso (facts eqn body)) (facts eqn k) (of_outward iso (facts eqn body) (of_script body all.0)) (of_script k all.1)

  -- the facts of a mapped script are the mapped facts
  pub facts_natural : (s : Script N P) → AllScript Small s → facts eqm (script_as f h s) ≡ facts_as f (facts eqn s)
  facts_natural done all = refl
  facts_natural (does a k) all = ap₂ ◌⊕◌ (fact_of_as f h a) (facts_natural k all.1) ∙ sym (both_as f (fact_of a) (facts eqn k))
  facts_natural (within iso p body k) all =
      let o = of_script body all.0 in
      ap₂ ◌⊕◌ (ap (outward eqm iso) (facts_natural body all.0) ∙ outward_as iso (facts eqn body) o.values o.labels) (facts_natural k all.1)
      ∙ sym (both_as f (outward eqn iso (facts eqn body)) (facts eqn k))

  abbrev OfScope : Option (List (Fact N)) → Type 0
  OfScope None = ⊤
  OfScope (Some fs) = AllFacts Small fs

  -- each name in the scopes has the property
  pub record OfScopes (s : Scopes N) : Type 0 where
    pub values : OfScope s.values
    pub labels : OfScope s.labels

  of_then : (o : Option (List (Fact N))) (fs : List (Fact N)) → OfScope o → AllFacts Small fs → OfScope (and_then o fs)
  of_then None fs p q = tt
  of_then (Some gs) fs p q = all_both Small gs fs p q

  of_next : (s : Scopes N) (x : Facts N) → OfScopes s → Of x → OfScopes (s ⊳ x)
  of_next s x p q = record { values = of_then s.values x.values p.values q.values; labels = of_then s.labels x.labels p.labels q.labels }

  of_inside : (iso : Bool) (s : Scopes N) → OfScopes s → OfScopes (inside iso s)
  of_inside true s p = record { values = tt; labels = tt }
  of_inside false s p = record { values = p.values; labels = tt }

  outside_as : (o : Option (List (Fact N))) (w : Word N P) → outside (scope_as f o) (word_as f h w) ≡ map F (outside o w)
  outside_as None w = refl
  outside_as (Some fs) w = refl

  defined_as : (o : Option (List (Fact N))) (w : Word N P) → OfScope o → Small w.name → defined_before eqm (scope_as f o) (word_as f h w) ≡ map F (defined_before eqn o w)
  defined_as None w s q = refl
  defined_as (Some fs) w s q = ap (λ o. cond (is_some o) (fail (MultipleDefinitions (f w.name)) (h w.at)) []) (lookup_as w.name fs q s) ∙ sym (map_cond_then F (is_some (lookup eqn w.name fs)) (fail (MultipleDefinitions w.name) w.at))

  fault_as : (s : Scopes N) (a : Act N P) → OfScopes s → AllAct Small a → act_failures eqm (scopes_as f s) (act_as f h a) ≡ map F (act_failures eqn s a)
  fault_as s (use_value w u) o q = outside_as s.values w
  fault_as s (use_label w u) o q = outside_as s.labels w
  fault_as s (define_value w p) o q = defined_as s.values w o.values q
  fault_as s (define_label w p) o q = defined_as s.labels w o.labels q
  fault_as s (mark i p) o q = sym (map_cond_then F (is_among i s.marks) _)
  fault_as s (entry i p) o q = sym (map_cond F (is_among i s.marks && not (is_among i s.entries)) _)
  fault_as s (claim b x) o q = sym (map_cond F b _)

  not_isolated_as : (iso : Bool) (o : Option (List (Fact N))) → not_isolated iso (scope_as f o) ≡ map F (not_isolated iso o)
  not_isolated_as true o = refl
  not_isolated_as false None = refl
  not_isolated_as false (Some fs) = refl

  left_as : (p : P) (iso : Bool) (x : Facts N) → Of x → left_open eqm (h p) iso (facts_as f x) ≡ map F (left_open eqn p iso x)
  left_as p true x o = ap₂ ◌++◌ (unresolved_as p x.values x.values o.values o.values) (unresolved_as p x.labels x.labels o.labels o.labels) ∙ sym (map_both F (unresolved eqn p x.values x.values) (unresolved eqn p x.labels x.labels))
  left_as p false x o = unresolved_as p x.labels x.labels o.labels o.labels

  -- what is wrong with other names is what was wrong, under those names
  pub failures_natural : (s : Scopes N) (x : Script N P) → OfScopes s → AllScript Small x → failures eqm (scopes_as f s) (script_as f h x) ≡ map F (failures eqn s x)
  failures_natural s done o all = refl
  failures_natural s (does a k) o all =
      ap₂ ◌++◌ (fault_as s a o all.0)
      (ap (λ z. failures eqm z (script_as f h k)) (ap (λ z. scopes_as f s ⊳ z) (fact_of_as f h a) ∙ sym (scopes_then_as f s (fact_of a)))
      ∙ failures_natural (s ⊳ fact_of a) k (of_next s (fact_of a) o (of_act a all.0)) all.1)
      ∙ sym (map_both F (act_failures eqn s a) (failures eqn (s ⊳ fact_of a) k))
  failures_natural s (within iso p body k) o all =
      let x = facts eqn body in
      let ob = of_script body all.0 in
      let inner = failures eqn (inside iso s) body in
      let last = left_open eqn p iso x in
      let region = not_isolated iso s.values ++ (inner ++ last) in
      ap₂ ◌++◌
      (ap₂ ◌++◌ (not_isolated_as iso s.values)
      (ap₂ ◌++◌ (ap (λ z. failures eqm z (script_as f h body)) (sym (inside_as f iso s)) ∙ failures_natural (inside iso s) body (of_inside iso s o) all.0)
      (ap (left_open eqm (h p) iso) (facts_natural body all.0) ∙ left_as p iso x ob)
      ∙ sym (map_both F inner last))
      ∙ sym (map_both F (not_isolated iso s.values) (inner ++ last)))
      (ap (λ z. failures eqm z (script_as f h k)) (ap (λ z. scopes_as f s ⊳ z) (ap (outward eqm iso) (facts_natural body all.0) ∙ outward_as iso x ob.values ob.labels) ∙ sym (scopes_then_as f s (outward eqn iso x)))
      ∙ failures_natural (s ⊳ outward eqn iso x) k (of_next s (outward eqn iso x) o (of_outward iso x ob)) all.1)
      ∙ sym (map_both F region (failures eqn (s ⊳ outward eqn iso x) k))
