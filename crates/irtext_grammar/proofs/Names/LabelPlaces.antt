-- The places of the failures of labels: that of a label defined twice is the place of the second definition, that of labels that a region
-- leaves open is the region's brace.
use Rattle.std.proofs.Common.{◌≡◌, ℕ, Bool, true, false, cond, List, [], ◌∷◌, ◌++◌, Some, is_some, refl, sym, ap, ◌∙◌, subst, ◌⊎◌, inl, inr}
use Rattle.irtext_base.specs.Text.{Text}
use Rattle.irtext_base.specs.Format.{same_text}
use Rattle.irtext_grammar.specs.Grammar.Tree.{Name}
use Rattle.irtext_grammar.specs.Names.Script.{Place, User, define_label, within, UnresolvedReference, MultipleDefinitions}
use Rattle.irtext_grammar.specs.Names.Scopes.{uses, defines, fail, fact_of, ◌⊳◌, inside, not_isolated}
use Rattle.irtext_grammar.specs.Names.TextScopes.{Fact, Facts, Failure, Scopes, Script, lookup, outward, facts, unresolved, defined_before, left_open, failures}
use Rattle.irtext_grammar.specs.Names.Acts.{word_of}
use Rattle.irtext_grammar.specs.Names.Placeholders.{In}
use Rattle.irtext_grammar.specs.Names.LabelPlaces.{IsDefined, Fails, Passes}
use Rattle.irtext_grammar.proofs.Lists.SameText.{same_text_eq, other_text}
use Rattle.irtext_grammar.proofs.Lists.Sets.{in_left, in_right, in_split}

-- ---- what a scope knows
-- a name that is defined is found
pub defined_found : (name : Text) (scope : List Fact) → IsDefined name scope → is_some (lookup name scope) ≡ true
defined_found name [] (p, h) = absurd h
defined_found name (uses m u ∷ scope) (p, inl e) = absurd (cc e)
defined_found name (uses m u ∷ scope) (p, inr h) = defined_found name scope (p, h)
defined_found name (defines m q ∷ scope) (p, inl e) = let same : m ≡ name = cc in ap (λ b. is_some (cond b (Some q) (lookup name scope))) (same_text_eq m name same)
defined_found name (defines m q ∷ scope) (p, inr h) = go (same_text m name) (defined_found name scope (p, h))
  where
    go : (b : Bool) → is_some (lookup name scope) ≡ true → is_some (cond b (Some q) (lookup name scope)) ≡ true
    go true e = refl
    go false e = e

-- a name that is not defined is not found
pub undefined_not_found : (name : Text) (scope : List Fact) → (IsDefined name scope → ⊥) → is_some (lookup name scope) ≡ false
undefined_not_found name [] n = refl
undefined_not_found name (uses m u ∷ scope) n = undefined_not_found name scope (λ d. n (d.0, inr d.1))
undefined_not_found name (defines m q ∷ scope) n =
    ap (λ b. is_some (cond b (Some q) (lookup name scope))) (other_text m name (λ e. n (q, inl (ap (λ z. defines z q) (sym e)))))
    ∙ undefined_not_found name scope (λ d. n (d.0, inr d.1))

-- ---- what one act fails by
-- a block's label that is already defined in its scope fails at its place
pub defined_again : (s : Scopes) (n : Name ℕ) (place : ℕ) → n.place ≡ place → (p : Place) (scope : List Fact) → s.labels ≡ Some scope → IsDefined n.text scope
    → Fails s (define_label (word_of n) p) (record { cause = MultipleDefinitions n.text; at = Some place })
defined_again s n place at p scope e d k = ap (λ z. z ++ failures (s ⊳ fact_of (define_label (word_of n) p)) k)
    (ap (λ o. defined_before o (word_of n)) e
    ∙ (ap (λ b. cond b (fail (MultipleDefinitions n.text) n.place) []) (defined_found n.text scope d) ∙ ap (fail (MultipleDefinitions n.text)) at))

-- a block's label that its scope has not yet fails by nothing
pub defined_first : (s : Scopes) (n : Name ℕ) (p : Place) (scope : List Fact) → s.labels ≡ Some scope → (IsDefined n.text scope → ⊥) → Passes s (define_label (word_of n) p)
defined_first s n p scope e d k = ap (λ z. z ++ failures (s ⊳ fact_of (define_label (word_of n) p)) k)
    (ap (λ o. defined_before o (word_of n)) e ∙ ap (λ b. cond b (fail (MultipleDefinitions n.text) n.place) []) (undefined_not_found n.text scope d))

-- ---- what a region leaves open
module _ (brace : ℕ) (all : List Fact) (name : Text) (absent : is_some (lookup name all) ≡ false) where
  -- a use of a name that the whole scope does not define is left open at the brace
  use_left : (scope : List Fact) (u : User) → In (uses name u) scope → In (record { cause = UnresolvedReference name; at = Some brace }) (unresolved brace all scope)
  use_left [] u h = absurd h
  use_left (defines m p ∷ scope) u (inl e) = absurd (cc e)
  use_left (defines m p ∷ scope) u (inr h) = use_left scope u h
  use_left (uses m v ∷ scope) u (inl e) =
      let same : name ≡ m = cc in
      subst (λ m. In (record { cause = UnresolvedReference name; at = Some brace }) (cond (is_some (lookup m all)) [] (fail (UnresolvedReference m) brace) ++ unresolved brace all scope)) same
      (subst (λ b. In (record { cause = UnresolvedReference name; at = Some brace }) (cond b [] (fail (UnresolvedReference name) brace) ++ unresolved brace all scope)) (sym absent) (inl refl))
  use_left (uses m v ∷ scope) u (inr h) =
      in_right (record { cause = UnresolvedReference name; at = Some brace }) (cond (is_some (lookup m all)) [] (fail (UnresolvedReference m) brace)) (unresolved brace all scope) (use_left scope u h)

-- a label that is used in a region and not defined there is reported at the region's brace
pub left_at_brace : (s : Scopes) (iso : Bool) (brace : ℕ) (body following : Script) (name : Text) (u : User) → In (uses name u) (facts body).labels → (IsDefined name (facts body).labels → ⊥)
    → In (record { cause = UnresolvedReference name; at = Some brace }) (failures s (within iso brace body following))
left_at_brace s iso brace body following name u h d =
    in_left x (not_isolated iso s.values ++ (failures (inside iso s) body ++ left_open brace iso (facts body))) (failures (s ⊳ outward iso (facts body)) following)
    (in_right x (not_isolated iso s.values) (failures (inside iso s) body ++ left_open brace iso (facts body))
    (in_right x (failures (inside iso s) body) (left_open brace iso (facts body)) (either iso)))
  where
    x : Failure
    x = record { cause = UnresolvedReference name; at = Some brace }

    labels : List Fact
    labels = (facts body).labels

    left : In x (unresolved brace labels labels)
    left = use_left brace labels name (undefined_not_found name labels d) labels u h

    either : (iso : Bool) → In x (left_open brace iso (facts body))
    either true = in_right x (unresolved brace (facts body).values (facts body).values) (unresolved brace labels labels) left
    either false = left

-- whatever is left of these uses is reported at the brace
left_there : (brace : ℕ) (all scope : List Fact) (x : Failure) → In x (unresolved brace all scope) → x.at ≡ Some brace
left_there brace all [] x h = absurd h
left_there brace all (defines m p ∷ scope) x h = left_there brace all scope x h
left_there brace all (uses m u ∷ scope) x h = go (is_some (lookup m all)) h (left_there brace all scope x)
  where
    go : (b : Bool) → In x (cond b [] (fail (UnresolvedReference m) brace) ++ unresolved brace all scope) → (In x (unresolved brace all scope) → x.at ≡ Some brace) → x.at ≡ Some brace
    go true i later = later i
    go false (inl e) later = ap (λ z. z.at) e
    go false (inr i) later = later i

-- whatever a region leaves open is reported at its brace
pub all_at_brace : (brace : ℕ) (iso : Bool) (f : Facts) (x : Failure) → In x (left_open brace iso f) → x.at ≡ Some brace
all_at_brace brace false f x h = left_there brace f.labels f.labels x h
all_at_brace brace true f x h = go (in_split x (unresolved brace f.values f.values) (unresolved brace f.labels f.labels) h)
  where
    go : In x (unresolved brace f.values f.values) ⊎ In x (unresolved brace f.labels f.labels) → x.at ≡ Some brace
    go (inl i) = left_there brace f.values f.values x i
    go (inr i) = left_there brace f.labels f.labels x i
