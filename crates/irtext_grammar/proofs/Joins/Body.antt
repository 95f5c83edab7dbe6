-- The order of directives in an accepted format is allowed.
use Rattle.std.proofs.Common.{◌≡◌, ◌∙◌, ℕ, suc, Bool, true, false, not, ◌&&◌, ◌||◌, List, [], ◌∷◌, refl, sym, subst, arith, true≢false}
use Rattle.std.proofs.lemmas.Bool.Decides.{nat_tests}
use Rattle.std.specs.Prelude.{nat_lt}
use Rattle.std.specs.List.{list_all}
use Rattle.irtext_base.specs.Text.{Text}
use Rattle.irtext_base.specs.Format as format
use Rattle.irtext_base.specs.Format.{Directive, Accepted, same_text, has, keys, given_names_key, is_any_region, is_regions, is_dictionary, is_header, sym_name_key, none_follows, count, distinct, ascend, region_places}
use Rattle.irtext_grammar.proofs.Graphs.FitsFormat.{meets, and_left, and_right}
use Rattle.irtext_grammar.proofs.Joins.PartSteps.{Orderly}
use Rattle.irtext_grammar.proofs.Lists.SameText.{same_text_refl, other_text}

-- one of two tests that fail together
neither : (a b : Bool) → not (a || b) ≡ true → (a ≡ false) × (not b ≡ true)
neither true b e = absurd (true≢false (sym e))
neither false b e = (refl, e)

same_back : (s t : Text) → same_text s t ≡ false → same_text t s ≡ false
same_back s t e = other_text t s (λ is. true≢false (sym (subst (λ z. same_text z t ≡ true) is (same_text_refl t)) ∙ e))

less : (n : ℕ) → nat_lt (suc n) 2 ≡ true → nat_lt n 1 ≡ true
less n e = grind (arith, nat_tests)

fewer : (n : ℕ) → nat_lt (suc n) 2 ≡ true → nat_lt n 2 ≡ true
fewer n e = grind (arith, nat_tests)

not_less : (n : ℕ) → nat_lt (suc n) 1 ≡ true → ⊥
not_less n e = grind (arith, nat_tests)

-- the test for one region's directive
abbrev is_region : Directive → Bool
is_region d = elim d [ format.region i ↦ true | _ ↦ false ]

-- where the regions that are left are not written, and no single region is, none is
none_counted : (ds : List Directive) → nat_lt (count is_regions ds) 1 ≡ true → list_all (λ d. not (is_region d)) ds ≡ true → list_all (λ d. not (is_any_region d)) ds ≡ true
none_counted [] c e = refl
none_counted (format.region i ∷ ds) c e = absurd (true≢false (sym e))
none_counted (format.regions ∷ ds) c e = absurd (not_less (count is_regions ds) c)
none_counted (_ ∷ ds) c e = none_counted ds c e

orderly : (ds : List Directive) → not (has same_text given_names_key (keys ds)) ≡ true → nat_lt (count is_regions ds) 2 ≡ true → none_follows is_regions is_region ds ≡ true → Orderly ds
orderly [] k c n = tt
orderly (format.attribute key ∷ ds) k c n =
    let f = neither (same_text given_names_key key) (has same_text given_names_key (keys ds)) k in
    (same_back given_names_key key f.0, orderly ds f.1 c n)
orderly (format.regions ∷ ds) k c n =
    let all = and_left (list_all (λ e. not (is_region e)) ds) (none_follows is_regions is_region ds) n in
    let others = and_right (list_all (λ e. not (is_region e)) ds) (none_follows is_regions is_region ds) n in
    (none_counted ds (less (count is_regions ds) c) all, orderly ds k (fewer (count is_regions ds) c) others)
orderly (_ ∷ ds) k c n = (tt, orderly ds k c n)

-- what an accepted format's directives keep to
pub accepted_orderly : (ds : List Directive) → Accepted (format.custom ds) → Orderly ds
accepted_orderly ds e =
    let m = meets ds e in
    let unreserved = not (has same_text given_names_key (keys ds)) in
    let dictionaries = nat_lt (count is_dictionary ds) 2 in
    let headers = nat_lt (count is_header ds) 2 in
    let keys_apart = not (nat_lt 0 (count is_header ds)) || not (has same_text sym_name_key (keys ds)) in
    let a = distinct same_text (keys ds) in
    let p = and_left (a && unreserved && dictionaries && headers) keys_apart m.sixth in
    let q = and_left (a && unreserved && dictionaries) headers p in
    let r = and_left (a && unreserved) dictionaries q in
    let b = ascend 0 (region_places ds) in
    let once = nat_lt (count is_regions ds) 2 in
    let t = and_left (b && once) (none_follows is_regions is_region ds) m.fifth in
    orderly ds (and_right a unreserved r) (and_right b once t) (and_right (b && once) (none_follows is_regions is_region ds) m.fifth)
