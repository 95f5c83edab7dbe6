-- A location's one source, from how many were seen of it so far.
use Rattle.std.proofs.Common.{◌≡◌, ◌<◌, ◌≤◌, ◌∙◌, ap, sym, subst, arith, refl, Bool, true, false, cond, List, [], ◌∷◌, ◌++◌, length, length-append}
use Rattle.std.specs.List.{list_any}
use Rattle.irtext_base.specs.declared.location.Source.{Source}
use Rattle.irtext_base.specs.declared.location.sources.Seen.TheVariants.{Nothing, One, Several}
use Rattle.irtext_base.specs.declared.location.sources.Seen.{Seen}
use Rattle.irtext_base.specs.Locations.{LocationView, src_pos, fused, named, call_site, unknown, LocationViews, no_location, location, same_source, noted, all_noted, row_noted, only}
use Rattle.irtext_base.specs.Seen.{seen_of, more_seen, all_seen, row_seen, one_seen}

-- one more source
step : (found : List Source) (s : Source) → more_seen (seen_of found) s ≡ seen_of (noted found s)
step [] s = refl
step (f ∷ []) s = by_test (same_source s f)
  where
    by_test : (b : Bool) → cond b (One f) Several ≡ seen_of (cond (list_any (λ _. b) (f ∷ [])) (f ∷ []) (f ∷ s ∷ []))
    by_test true = refl
    by_test false = refl
step (f ∷ g ∷ more) s = by_test (list_any (same_source s) (f ∷ g ∷ more))
  where
    by_test : (b : Bool) → Several ≡ seen_of (cond b (f ∷ g ∷ more) ((f ∷ g ∷ more) ++ s ∷ []))
    by_test true = refl
    by_test false = refl

mutual
  -- the sources of one location more
  pub seen_is_noted : {A : Type 0} (found : List Source) (l : LocationView A) → all_seen (seen_of found) l ≡ seen_of (all_noted found l)
  seen_is_noted found (src_pos src pos) = step found src
  seen_is_noted found (fused metadata locations) = row_is_noted found locations
  seen_is_noted found (named name child) = seen_is_noted found child
  seen_is_noted found (call_site callee caller) =
      ap (λ s. all_seen s caller) (seen_is_noted found callee) ∙ seen_is_noted (all_noted found callee) caller
  seen_is_noted found unknown = refl

  -- the same of a row
  pub row_is_noted : {A : Type 0} (found : List Source) (ls : LocationViews A) → row_seen (seen_of found) ls ≡ seen_of (row_noted found ls)
  row_is_noted found no_location = refl
  row_is_noted found (location l ls) =
      ap (λ s. row_seen s ls) (seen_is_noted found l) ∙ row_is_noted (all_noted found l) ls

only_is_one : (found : List Source) → one_seen (seen_of found) ≡ only found
only_is_one [] = refl
only_is_one (s ∷ []) = refl
only_is_one (s ∷ t ∷ more) = refl

-- what is seen of the whole location gives its one source
pub one_is_only : {A : Type 0} (l : LocationView A) → one_seen (all_seen Nothing l) ≡ only (all_noted [] l)
one_is_only l = ap one_seen (seen_is_noted [] l) ∙ only_is_one (all_noted [] l)

abbrev seen_as : List Source → Seen → Type 0
seen_as found Nothing = found ≡ []
seen_as found (One s) = 0 < length found
seen_as found Several = 0 < length found

seen_as_found : (found : List Source) → seen_as found (seen_of found)
seen_as_found [] = refl
seen_as_found (s ∷ []) = omega arith
seen_as_found (s ∷ t ∷ more) = omega arith

-- what is seen of the whole location says whether it mentions a source
pub none_seen : {A : Type 0} (l : LocationView A) → seen_as (all_noted [] l) (all_seen Nothing l)
none_seen l = subst (λ s. seen_as (all_noted [] l) s) (sym (seen_is_noted [] l)) (seen_as_found (all_noted [] l))

-- noting one more source loses none
grows : (found : List Source) (s : Source) → length found ≤ length (noted found s)
grows found s = by_test (list_any (same_source s) found)
  where
    by_test : (b : Bool) → length found ≤ length (cond b found (found ++ s ∷ []))
    by_test true = omega arith
    by_test false = omega (arith, length-append found (s ∷ []))

mutual
  -- nor does noting those of a location
  pub all_grow : {A : Type 0} (found : List Source) (l : LocationView A) → length found ≤ length (all_noted found l)
  all_grow found (src_pos src pos) = grows found src
  all_grow found (fused metadata locations) = row_grow found locations
  all_grow found (named name child) = all_grow found child
  all_grow found (call_site callee caller) = omega (arith, all_grow found callee, all_grow (all_noted found callee) caller)
  all_grow found unknown = omega arith

  -- nor of a row
  pub row_grow : {A : Type 0} (found : List Source) (ls : LocationViews A) → length found ≤ length (row_noted found ls)
  row_grow found no_location = omega arith
  row_grow found (location l ls) = omega (arith, all_grow found l, row_grow (all_noted found l) ls)
