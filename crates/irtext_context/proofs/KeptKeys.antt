-- What every dictionary keeps: no key occurs twice, and under the reserved one are given names.
use Rattle.std.proofs.Common.{◌≡◌, Bool, true, false, not, ◌&&◌, ◌||◌, ℕ, zero, suc, List, [], ◌∷◌, Option, Some, None, refl, sym, ap, ap₂, ◌∙◌, subst}
use Rattle.std.specs.Cmp.Lexicographic.{nat_list_eq_equiv}
use Rattle.std.specs.List.{list_all, AllByRecursion}
use Rattle.std.specs.Map.{keys_of}
use Rattle.std.specs.Str.{bytes_eq}
use Rattle.irtext_base.proofs.Characters.{and_right}
use Rattle.irtext_context.specs.Dictionary.{spliced, IsAbsent, whole, IsSound, is_reserved_for, are_given_names}
use Rattle.irtext_base.specs.Format.{distinct, has, given_names_key}
use Rattle.irtext_base.specs.Text.{Text}
use Rattle.irtext_base.specs.declared.base.attributes.AttrObj.{AttrObj}
use Rattle.irtext_context.specs.declared.base.attributes.Given.{Given}

none_has : (k : Text) (ks : List Text) → AllByRecursion (λ y. bytes_eq k y ≡ false) ks → has bytes_eq k ks ≡ false
none_has k [] h = refl
none_has k (x ∷ xs) h = ap (λ b. b || has bytes_eq k xs) h.0 ∙ none_has k xs h.1

never : (b : Bool) → not (b && false) ≡ true
never true = refl
never false = refl

module _ {V : Type 0} where
  none_absent : (k : Text) (es : List (Text × V)) → IsAbsent (bytes_eq k) es → has bytes_eq k (keys_of es) ≡ false
  none_absent k [] h = refl
  none_absent k (x ∷ xs) h = ap (λ b. b || has bytes_eq k (keys_of xs)) h.0 ∙ none_absent k xs h.1

  has_spliced : (k : Text) (i : ℕ) (e : Text × V) (es : List (Text × V)) → bytes_eq k e.0 ≡ false → has bytes_eq k (keys_of (spliced i e es)) ≡ has bytes_eq k (keys_of es)
  has_spliced k zero e es h = ap (λ b. b || has bytes_eq k (keys_of es)) h
  has_spliced k (suc i) e [] h = ap (λ b. b || false) h
  has_spliced k (suc i) e (x ∷ xs) h = ap (λ b. bytes_eq k x.0 || b) (has_spliced k i e xs h)

  -- a key that is not there may be put between keys that differ
  distinct_spliced : (i : ℕ) (e : Text × V) (es : List (Text × V)) → IsAbsent (bytes_eq e.0) es → distinct bytes_eq (keys_of es) ≡ true → distinct bytes_eq (keys_of (spliced i e es)) ≡ true
  distinct_spliced zero e es a d = ap₂ (λ h b. not h && b) (none_absent e.0 es a) d
  distinct_spliced (suc i) e [] a d = refl
  distinct_spliced (suc i) e (x ∷ xs) a d =
      let later = and_right (not (has bytes_eq x.0 (keys_of xs))) (distinct bytes_eq (keys_of xs)) d in
      ap₂ (λ h b. not h && b) (has_spliced x.0 i e xs (nat_list_eq_equiv.symm x.0 e.0 ∙ a.0)) (distinct_spliced i e xs a.1 later ∙ sym later) ∙ d

  all_spliced : (p : Text × V → Bool) (i : ℕ) (e : Text × V) (es : List (Text × V)) → p e ≡ true → list_all p es ≡ true → list_all p (spliced i e es) ≡ true
  all_spliced p zero e es h a = ap₂ ◌&&◌ h a
  all_spliced p (suc i) e [] h a = ap₂ ◌&&◌ h refl
  all_spliced p (suc i) e (x ∷ xs) h a = go (p x) a (all_spliced p i e xs h)
    where
      go : (b : Bool) → (b && list_all p xs) ≡ true → (list_all p xs ≡ true → list_all p (spliced i e xs) ≡ true) → (b && list_all p (spliced i e xs)) ≡ true
      go true a f = f a
      go false a f = a

module _ {A : Type 0} where
  none_reserved : (es : List (Text × AttrObj A)) → IsAbsent (bytes_eq given_names_key) es → list_all (λ e. not (is_reserved_for e.0 e.1)) es ≡ true
  none_reserved [] h = refl
  none_reserved (x ∷ xs) h = ap (λ b. not (b && not (are_given_names x.1)) && list_all (λ e. not (is_reserved_for e.0 e.1)) xs) h.0 ∙ none_reserved xs h.1

  -- the keys of a dictionary differ
  pub keys_differ : (g : Option (Given A)) (es : List (Text × AttrObj A)) → IsSound g es → distinct bytes_eq (keys_of es) ≡ true → distinct bytes_eq (keys_of (whole g es)) ≡ true
  keys_differ None es s d = d
  keys_differ (Some g) es s d = distinct_spliced g.at (g.key, g.attr) es (subst (λ k. IsAbsent (bytes_eq k) es) (sym s.0) s.2) d

  -- under the reserved key a dictionary has given names
  pub keys_reserved : (g : Option (Given A)) (es : List (Text × AttrObj A)) → IsSound g es → list_all (λ e. not (is_reserved_for e.0 e.1)) (whole g es) ≡ true
  keys_reserved None es s = none_reserved es s
  keys_reserved (Some g) es s =
      all_spliced (λ e. not (is_reserved_for e.0 e.1)) g.at (g.key, g.attr) es
      (ap (λ b. not (bytes_eq given_names_key g.key && not b)) s.3 ∙ never (bytes_eq given_names_key g.key)) (none_reserved es s.2)
