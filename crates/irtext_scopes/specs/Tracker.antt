-- What entering and leaving a region does to the scopes of values and of labels; and which scopes have only known names.
use Rattle.std.specs.Prelude.{◌≡◌, ◌↔◌, ℕ, Bool, true, false, cond, nat_lt, List, [], ◌∷◌, Option, None, Result, Err, OnOk, OnErr}
use Rattle.std.specs.Option.{option_or}
use Rattle.irtext_scopes.specs.Scopes.{Scope, innermost, outer, first_pending, is_open}
use Rattle.irtext_scopes.specs.declared.tracker.EnterFault.{EnterFault}
use Rattle.irtext_scopes.specs.declared.tracker.EnterFault.TheVariants.{TopLevelOpRegionNotIsolatedFromAbove}

-- the scopes of values after a region is entered: it has one of its own if its operation is isolated from above
abbrev pub entered : {V : Type 0} → Bool → List (Scope V) → List (Scope V)
entered true ss = [] ∷ ss
entered false ss = ss

-- a call has entered a region, or its error says why not: an error other than out of memory comes if the region shares the scopes of
-- values around it, and none is open. On an error no scope changes.
pub record EntersRegion {V L A : Type 0} (isolated : Bool) (result : Result A EnterFault) (outer_values inner_values : List (Scope V)) (outer_labels inner_labels : List (Scope L)) : Type 0 where
  pub values : OnOk result (inner_values ≡ entered isolated outer_values)
  pub labels : OnOk result (inner_labels ≡ [] ∷ outer_labels)
  pub shared : (result ≡ Err TopLevelOpRegionNotIsolatedFromAbove) ↔ ((isolated ≡ false) × (is_open outer_values ≡ false))
  pub err_values : OnErr result (inner_values ≡ outer_values)
  pub err_labels : OnErr result (inner_labels ≡ outer_labels)

-- the scopes of values after a region is left
abbrev pub left : {V : Type 0} → Bool → List (Scope V) → List (Scope V)
left true ss = outer ss
left false ss = ss

-- the first name of a value in a region that has no definition, if the region has a scope of values of its own
abbrev pub first_value : {V : Type 0} → Bool → List (Scope V) → Option ℕ
first_value true ss = first_pending (innermost ss)
first_value false ss = None

-- the first name in a region that has no definition when the region is left: values come before labels
abbrev pub unresolved : {V L : Type 0} → Bool → List (Scope V) → List (Scope L) → Option ℕ
unresolved isolated values labels = option_or (first_value isolated values) (first_pending (innermost labels))

-- each name of the scope has a number below this
abbrev pub names_below : {V : Type 0} → ℕ → Scope V → Bool
names_below k [] = true
names_below k (e ∷ es) = cond (nat_lt e.0 k) (names_below k es) false

-- each name of each scope has a number below this
abbrev pub are_known : {V : Type 0} → ℕ → List (Scope V) → Bool
are_known k [] = true
are_known k (s ∷ ss) = cond (names_below k s) (are_known k ss) false
