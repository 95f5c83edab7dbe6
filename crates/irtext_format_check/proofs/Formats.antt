-- What is computed over the code's directives is what the conditions say over the theory's.
use Rattle.std.proofs.Common.{◌≡◌, ℕ, suc, ◌+◌, Bool, true, false, cond, not, ◌&&◌, ◌||◌, ◌==◌, nat_lt, List, [], ◌∷◌, map, length, filter_map, Option, Some, None, is_some, refl, sym, ap, arith}
use Rattle.std.proofs.lemmas.List.Recursion.{is_count_by}
use Rattle.std.specs.List.{list_all, list_any, count_by, cons_option}
use Rattle.std.specs.Str.{bytes_eq}
use Rattle.irtext_base.specs.Text.{Text}
use Rattle.irtext_base.specs.Format.{Directive, has, distinct, same_text, count, none_follows, keys, is_regions, is_any_region, continuings, followers, disjoint, c8}
use Rattle.irtext_format_check.specs.Directives.{place_of, places_of, key_of, is_value, is_below, again, is_region, is_named, all_keep}
use Rattle.irtext_format_check.specs.declared.format.parts.Part.{Part}
use Rattle.irtext_format_check.specs.declared.format.rules.Rule.TheVariants as rule

pub same_text_bytes : (s t : Text) → same_text s t ≡ bytes_eq s t
same_text_bytes [] [] = refl
same_text_bytes [] (d ∷ t) = refl
same_text_bytes (c ∷ s) [] = refl
same_text_bytes (c ∷ s) (d ∷ t) = ap (λ b. (c == d) && b) (same_text_bytes s t)

-- ---- chains over the code's directives
module _ {X Y Z : Type 0} where
  pub any_has : (same : Y → Y → Bool) (f : X → Option Y) (g : Z → X) (y : Y) (zs : List Z) → list_any (λ z. is_value same y (f (g z))) zs ≡ has same y (filter_map f (map g zs))
  any_has same f g y [] = refl
  any_has same f g y (z ∷ zs) = go (f (g z)) (any_has same f g y zs)
    where
      go : (o : Option Y) → list_any (λ z. is_value same y (f (g z))) zs ≡ has same y (filter_map f (map g zs))
          → (is_value same y o || list_any (λ z. is_value same y (f (g z))) zs) ≡ has same y (cons_option o (filter_map f (map g zs)))
      go None e = e
      go (Some x) e = ap (λ b. same y x || b) e

  pub named_count : (f : X → Option Y) (g : Z → X) (zs : List Z) → count_by (λ z. is_some (f (g z))) zs ≡ length (filter_map f (map g zs))
  named_count f g zs = sym (is_count_by (λ zs. length (filter_map f (map g zs))) (λ z. is_some (f (g z))) refl (λ z zs. go (f (g z)) (filter_map f (map g zs))) zs)
    where
      go : (o : Option Y) (ys : List Y) → length (cons_option o ys) ≡ cond (is_some o) (1 + length ys) (length ys)
      go None ys = refl
      go (Some x) ys = omega arith

module _ {X Z : Type 0} where
  pub below_all : (n : ℕ) (f : X → Option ℕ) (g : Z → X) (zs : List Z) → list_all (λ z. is_below n (f (g z))) zs ≡ list_all (λ k. nat_lt k n) (filter_map f (map g zs))
  below_all n f g [] = refl
  below_all n f g (z ∷ zs) = go (f (g z)) (below_all n f g zs)
    where
      go : (o : Option ℕ) → list_all (λ z. is_below n (f (g z))) zs ≡ list_all (λ k. nat_lt k n) (filter_map f (map g zs))
          → (is_below n o && list_all (λ z. is_below n (f (g z))) zs) ≡ list_all (λ k. nat_lt k n) (cons_option o (filter_map f (map g zs)))
      go None e = e
      go (Some k) e = ap (λ b. nat_lt k n && b) e

  pub all_mapped : (test : X → Bool) (g : Z → X) (zs : List Z) → list_all (λ z. test (g z)) zs ≡ list_all test (map g zs)
  all_mapped test g [] = refl
  all_mapped test g (z ∷ zs) = ap (λ b. test (g z) && b) (all_mapped test g zs)

pub passing_count : {Z : Type 0} (test : Directive → Bool) (g : Z → Directive) (zs : List Z) → count_by (λ z. test (g z)) zs ≡ count test (map g zs)
passing_count test g zs = sym (is_count_by (λ zs. count test (map g zs)) (λ z. test (g z)) refl (λ z zs. go (test (g z)) (count test (map g zs))) zs)
  where
    go : (b : Bool) (n : ℕ) → cond b (suc n) n ≡ cond b (1 + n) n
    go true n = omega arith
    go false n = refl

-- ---- rules
pub places_differ : (p : Part) (ds : List Directive) → all_keep (rule.PlacesDiffer p) ds ≡ distinct ◌==◌ (places_of p ds)
places_differ p [] = refl
places_differ p (d ∷ ds) = go (place_of p d) (places_differ p ds)
  where
    go : (o : Option ℕ) → all_keep (rule.PlacesDiffer p) ds ≡ distinct ◌==◌ (places_of p ds)
        → (not (again ◌==◌ o (places_of p ds)) && all_keep (rule.PlacesDiffer p) ds) ≡ distinct ◌==◌ (cons_option o (places_of p ds))
    go None e = e
    go (Some k) e = ap (λ b. not (has ◌==◌ k (places_of p ds)) && b) e

pub keys_differ : (ds : List Directive) → all_keep rule.KeysDiffer ds ≡ distinct same_text (keys ds)
keys_differ [] = refl
keys_differ (d ∷ ds) = go (key_of d) (keys_differ ds)
  where
    go : (o : Option Text) → all_keep rule.KeysDiffer ds ≡ distinct same_text (keys ds)
        → (not (again same_text o (keys ds)) && all_keep rule.KeysDiffer ds) ≡ distinct same_text (cons_option o (keys ds))
    go None e = e
    go (Some k) e = ap (λ b. not (has same_text k (keys ds)) && b) e

pub regions_last : (ds : List Directive) → all_keep rule.RegionsBefore ds ≡ none_follows is_regions is_region ds
regions_last [] = refl
regions_last (d ∷ ds) = ap (λ b. (not (is_regions d) || list_all (λ e. not (is_region e)) ds) && b) (regions_last ds)

pub names_first : (ds : List Directive) → all_keep rule.NamesBefore ds ≡ none_follows is_any_region is_named ds
names_first [] = refl
names_first (d ∷ ds) = ap (λ b. (not (is_any_region d) || list_all (λ e. not (is_named e)) ds) && b) (names_first ds)

pub lists_end : (ds : List Directive) → all_keep rule.ListsEnd ds ≡ c8 ds
lists_end [] = refl
lists_end (d ∷ ds) = ap (λ b. disjoint (continuings d) (followers ds) && b) (lists_end ds)
