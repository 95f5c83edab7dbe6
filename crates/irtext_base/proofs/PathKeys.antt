-- A path that a context begins to keep is under its key, and what was printed of a location before is printed of it after.
use Rattle.std.proofs.Common.{◌≡◌, ap, ap₂, refl, sym, ℕ, zero, suc, ◌<◌, Bool, true, nat_lt, Option, Some, None, List, [], ◌∷◌, length, arith}
use Rattle.std.proofs.lemmas.Bool.Decides.{nat_tests}
use Rattle.std.proofs.lemmas.Option.{slice_get_within, none-some}
use Rattle.std.specs.Prelude.{slice_get, ◌&&◌}
use Rattle.irtext_interner.proofs.Numbers.{named as interned_named, stays}
use Rattle.irtext_base.specs.Locations.{LocationView, LocationViews, src_pos, fused, named, call_site, unknown, no_location, location, row_sourced}
use Rattle.irtext_base.specs.Paths.{KeepsPaths, path_index, with_path, path_of, is_known, are_known, row_known, written_with}
use Rattle.irtext_base.specs.declared.location.PathKey.{PathKey}
use Rattle.irtext_base.specs.declared.location.Source.{Source}
use Rattle.irtext_base.specs.declared.location.Source.TheVariants.{File, InMemory}
use Rattle.irtext_base.proofs.Characters.{and_left, and_right}

-- the key that a path is given names it
pub path_found : (old new : List (List ℕ)) (path : List ℕ) (key : PathKey) → key.index ≡ path_index old path → new ≡ with_path old path → path_of new (File key) ≡ Some path
path_found old new path key e f = rw (e, f) (interned_named old path)

pub path_known : (old new : List (List ℕ)) (path : List ℕ) (key : PathKey) → key.index ≡ path_index old path → new ≡ with_path old path → is_known (length new) (File key) ≡ true
path_known old new path key e f = less key.index (length new) (slice_get_within new key.index path (path_found old new path key e f))
  where
    less : (i n : ℕ) → i < n → nat_lt i n ≡ true
    less i n h = grind (arith, nat_tests)

-- all paths stay under their keys when one more is kept
pub paths_stay : (paths : List (List ℕ)) (path : List ℕ) → KeepsPaths paths (with_path paths path)
paths_stay = stays

-- an index without an element is past the end of the list
pub within : (xs : List (List ℕ)) (i : ℕ) → slice_get xs i ≡ None → nat_lt i (length xs) ≡ true → ⊥
within [] i e h = none_less i h
  where
    none_less : (i : ℕ) → nat_lt i 0 ≡ true → ⊥
    none_less i h = grind (arith, nat_tests)
within (x ∷ xs) zero e h = none-some x (sym e)
within (x ∷ xs) (suc i) e h = within xs i e (less i (length xs) h)
  where
    less : (i n : ℕ) → nat_lt (suc i) (suc n) ≡ true → nat_lt i n ≡ true
    less i n h = grind (arith, nat_tests)

-- a key that is known names the same path later
same_path : (p q : List (List ℕ)) (i : ℕ) → KeepsPaths p q → nat_lt i (length p) ≡ true → slice_get q i ≡ slice_get p i
same_path p q i k h = by (slice_get p i) refl
  where
    by : (o : Option (List ℕ)) → slice_get p i ≡ o → slice_get q i ≡ o
    by None e = absurd (within p i e h)
    by (Some x) e = k i x e

-- a key that is known stays known
still_known : (p q : List (List ℕ)) (i : ℕ) → KeepsPaths p q → nat_lt i (length p) ≡ true → nat_lt i (length q) ≡ true
still_known p q i k h = by (slice_get p i) refl
  where
    less : (i n : ℕ) → i < n → nat_lt i n ≡ true
    less i n h = grind (arith, nat_tests)

    by : (o : Option (List ℕ)) → slice_get p i ≡ o → nat_lt i (length q) ≡ true
    by None e = absurd (within p i e h)
    by (Some x) e = less i (length q) (slice_get_within q i x (k i x e))

-- both tests pass
pub both_true : (a b : Bool) → a ≡ true → b ≡ true → (a && b) ≡ true
both_true a b h k = ap₂ ◌&&◌ h k

module _ (p q : List (List ℕ)) (k : KeepsPaths p q) where
  -- a known source stays known, and has the same path
  pub source_known : (s : Source) → is_known (length p) s ≡ true → is_known (length q) s ≡ true
  source_known (File key) h = still_known p q key.index k h
  source_known InMemory h = refl

  pub source_same : (s : Source) → is_known (length p) s ≡ true → path_of q s ≡ path_of p s
  source_same (File key) h = same_path p q key.index k h
  source_same InMemory h = refl

  mutual
    -- a known location stays known
    pub stays_known : {A : Type 0} (l : LocationView A) → are_known (length p) l ≡ true → are_known (length q) l ≡ true
    stays_known (src_pos src pos) h = source_known src h
    stays_known (fused metadata locations) h = row_stays_known locations h
    stays_known (named name child) h = stays_known child h
    stays_known (call_site callee caller) h = both_true (are_known (length q) callee) (are_known (length q) caller)
        (stays_known callee (and_left (are_known (length p) callee) (are_known (length p) caller) h))
        (stays_known caller (and_right (are_known (length p) callee) (are_known (length p) caller) h))
    stays_known unknown h = refl

    pub row_stays_known : {A : Type 0} (ls : LocationViews A) → row_known (length p) ls ≡ true → row_known (length q) ls ≡ true
    row_stays_known no_location h = refl
    row_stays_known (location l ls) h = both_true (are_known (length q) l) (row_known (length q) ls)
        (stays_known l (and_left (are_known (length p) l) (row_known (length p) ls) h))
        (row_stays_known ls (and_right (are_known (length p) l) (row_known (length p) ls) h))

  mutual
    -- what is written of a known location stays
    pub written_same : {A : Type 0} (l : LocationView A) → are_known (length p) l ≡ true → written_with q l ≡ written_with p l
    written_same (src_pos src pos) h = ap (λ s. src_pos s pos) (source_same src h)
    written_same (fused metadata locations) h = ap (fused metadata) (row_written_same locations h)
    written_same (named name child) h = ap (named name) (written_same child h)
    written_same (call_site callee caller) h = ap₂ call_site
        (written_same callee (and_left (are_known (length p) callee) (are_known (length p) caller) h))
        (written_same caller (and_right (are_known (length p) callee) (are_known (length p) caller) h))
    written_same unknown h = refl

    pub row_written_same : {A : Type 0} (ls : LocationViews A) → row_known (length p) ls ≡ true → row_sourced (path_of q) ls ≡ row_sourced (path_of p) ls
    row_written_same no_location h = refl
    row_written_same (location l ls) h = ap₂ location
        (written_same l (and_left (are_known (length p) l) (row_known (length p) ls) h))
        (row_written_same ls (and_right (are_known (length p) l) (row_known (length p) ls) h))
