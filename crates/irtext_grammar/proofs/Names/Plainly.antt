-- A script has no failure if its names resolve and the acts that look at no name do not fail.
use Rattle.std.proofs.Common.{◌≡◌, Bool, true, false, List, [], ◌∷◌, ◌++◌, Option, Some, None, refl, sym, ap, ap₂, ◌∙◌, subst, append-nil}
use Rattle.irtext_grammar.specs.Names.Script.{use_value, use_label, define_value, define_label, mark, entry, claim, Script, done, does, within}
use Rattle.irtext_grammar.specs.Names.Scopes.{Fact, Facts, ◌⊕◌, Scopes, and_then, ◌⊳◌, fact_of, not_isolated, inside, outward, facts, act_failures, left_open, failures}
use Rattle.irtext_grammar.specs.Names.Plain.{plain, Kept}

-- the facts without marks and entries
abbrev pub unmarked : {N : Type 0} → Facts N → Facts N
unmarked x = record x { marks = []; entries = [] }

-- the scopes without marks and entries
abbrev pub unmarked_scopes : {N : Type 0} → Scopes N → Scopes N
unmarked_scopes s = record s { marks = []; entries = [] }

-- lists are empty that are empty joined
pub both_empty : {A : Type 0} (xs ys : List A) → xs ++ ys ≡ [] → (xs ≡ []) × (ys ≡ [])
both_empty [] ys e = (refl, e)
both_empty (x ∷ xs) ys e = absurd (no x (xs ++ ys) e)
  where
    no : {A : Type 0} (x : A) (zs : List A) → x ∷ zs ≡ [] → ⊥
    no x zs k = cc

-- empty lists joined are empty
pub append_empty : {A : Type 0} (xs ys : List A) → xs ≡ [] → ys ≡ [] → xs ++ ys ≡ []
append_empty xs ys e f = ap₂ ◌++◌ e f

and_nothing : {N : Type 0} (o : Option (List (Fact N))) → and_then o [] ≡ o
and_nothing None = refl
and_nothing (Some fs) = ap Some (append-nil fs)

outward_unmarked : {N : Type 0} (eq : N → N → Bool) (iso : Bool) (x : Facts N) → outward eq iso (unmarked x) ≡ unmarked (outward eq iso x)
outward_unmarked eq true x = refl
outward_unmarked eq false x = refl

-- a mark, an entry or a claim says nothing to the scopes
unmarked_nothing : {N : Type 0} (s : Scopes N) → unmarked_scopes s ≡ unmarked_scopes (record s { values = and_then s.values []; labels = and_then s.labels [] })
unmarked_nothing s = λ i. record { values = sym (and_nothing s.values) i; labels = sym (and_nothing s.labels) i; marks = []; entries = [] }

inside_unmarked : {N : Type 0} (iso : Bool) (s : Scopes N) → inside iso (unmarked_scopes s) ≡ unmarked_scopes (inside iso s)
inside_unmarked true s = refl
inside_unmarked false s = refl

module _ {N P : Type 0} (eq : N → N → Bool) where
  -- the facts of a script without its marks and entries are its facts without them
  pub facts_plain : (x : Script N P) → facts eq (plain x) ≡ unmarked (facts eq x)
  facts_plain done = refl
  facts_plain (does (use_value w u) k) = ap (λ z. fact_of (use_value w u) ⊕ z) (facts_plain k)
  facts_plain (does (use_label w u) k) = ap (λ z. fact_of (use_label w u) ⊕ z) (facts_plain k)
  facts_plain (does (define_value w p) k) = ap (λ z. fact_of (define_value w p) ⊕ z) (facts_plain k)
  facts_plain (does (define_label w p) k) = ap (λ z. fact_of (define_label w p) ⊕ z) (facts_plain k)
  facts_plain (does (mark i p) k) = facts_plain k
  facts_plain (does (entry i p) k) = facts_plain k
  facts_plain (does (claim b x) k) = facts_plain k
  facts_plain (within iso p body k) = ap₂ ◌⊕◌ (ap (outward eq iso) (facts_plain body) ∙ outward_unmarked eq iso (facts eq body)) (facts_plain k)

  left_unmarked : (p : P) (iso : Bool) (x : Facts N) → left_open eq p iso (unmarked x) ≡ left_open eq p iso x
  left_unmarked p true x = refl
  left_unmarked p false x = refl

  -- a script has no failure if it has none without marks, entries and claims, and those hold
  pub no_failure : (s : Scopes N) (x : Script N P) → failures eq (unmarked_scopes s) (plain x) ≡ [] → Kept eq s x → failures eq s x ≡ []
  no_failure s done e h = refl
  no_failure s (does (mark i p) k) e h =
      append_empty (act_failures eq s (mark i p)) (failures eq (s ⊳ fact_of (mark i p)) k) (h.0 refl) (no_failure (s ⊳ fact_of (mark i p)) k (subst (λ z. failures eq z (plain k) ≡ []) (unmarked_nothing s) e) h.1)
  no_failure s (does (entry i p) k) e h =
      append_empty (act_failures eq s (entry i p)) (failures eq (s ⊳ fact_of (entry i p)) k) (h.0 refl) (no_failure (s ⊳ fact_of (entry i p)) k (subst (λ z. failures eq z (plain k) ≡ []) (unmarked_nothing s) e) h.1)
  no_failure s (does (claim b x) k) e h =
      append_empty (act_failures eq s (claim b x)) (failures eq (s ⊳ fact_of (claim b x)) k) (h.0 refl) (no_failure (s ⊳ fact_of (claim b x)) k (subst (λ z. failures eq z (plain k) ≡ []) (unmarked_nothing s) e) h.1)
  no_failure s (within iso p body k) e h =
      let u = unmarked_scopes s in
      let inner = failures eq (inside iso u) (plain body) in
      let last = left_open eq p iso (facts eq (plain body)) in
      let a = both_empty (not_isolated iso s.values ++ (inner ++ last)) (failures eq (u ⊳ outward eq iso (facts eq (plain body))) (plain k)) e in
      let b = both_empty (not_isolated {P = P} iso s.values) (inner ++ last) a.0 in
      let c = both_empty inner last b.1 in
      append_empty (not_isolated iso s.values ++ (failures eq (inside iso s) body ++ left_open eq p iso (facts eq body))) (failures eq (s ⊳ outward eq iso (facts eq body)) k)
      (append_empty (not_isolated iso s.values) (failures eq (inside iso s) body ++ left_open eq p iso (facts eq body)) b.0
      (append_empty (failures eq (inside iso s) body) (left_open eq p iso (facts eq body))
      (no_failure (inside iso s) body (subst (λ z. failures eq z (plain body) ≡ []) (inside_unmarked iso s) c.0) h.0)
      (sym (left_unmarked p iso (facts eq body)) ∙ (ap (left_open eq p iso) (sym (facts_plain body)) ∙ c.1))))
      (no_failure (s ⊳ outward eq iso (facts eq body)) k
      (subst (λ z. failures eq (u ⊳ z) (plain k) ≡ []) (ap (outward eq iso) (facts_plain body) ∙ outward_unmarked eq iso (facts eq body)) a.1) h.1)
  no_failure s (does a k) e h =
      let b = both_empty (act_failures eq s a) (failures eq (unmarked_scopes (s ⊳ fact_of a)) (plain k)) e in
      append_empty (act_failures eq s a) (failures eq (s ⊳ fact_of a) k) b.0 (no_failure (s ⊳ fact_of a) k b.1 h.1)
