-- The open scopes, the innermost first. Each is a finite map from names to what they refer to, in the order in which the names were first
-- mentioned.
use Rattle.std.specs.Prelude.{◌+◌, ◌<◌, ◌≤◌, ◌⊎◌, ℕ, Bool, true, false, cond, List, [], ◌∷◌, ◌++◌, length, Option, Some, None, Result, Ok, Err, nat_eq}
use Rattle.std.specs.Option.{option_or}
use Rattle.irtext_scopes.specs.declared.scopes.Entry.{Entry}
use Rattle.irtext_scopes.specs.declared.scopes.Entry.TheVariants.{Defined, Pending}
use Rattle.irtext_scopes.specs.declared.scopes.DefineFault.{DefineFault}
use Rattle.irtext_scopes.specs.declared.scopes.DefineFault.TheVariants as fault

-- a scope: its names in the order in which they were first mentioned, each with what it refers to
abbrev pub Scope : Type 0 → Type 0
Scope V = List (ℕ × Entry V)

-- the innermost scope; if none is open, one without names
abbrev pub innermost : {V : Type 0} → List (Scope V) → Scope V
innermost [] = []
innermost (s ∷ ss) = s

-- the scopes around the innermost one
abbrev pub outer : {V : Type 0} → List (Scope V) → List (Scope V)
outer [] = []
outer (s ∷ ss) = ss

-- a scope is open
abbrev pub is_open : {V : Type 0} → List (Scope V) → Bool
is_open [] = false
is_open (s ∷ ss) = true

-- the scopes with a function applied to the innermost one
abbrev pub in_innermost : {V : Type 0} → (Scope V → Scope V) → List (Scope V) → List (Scope V)
in_innermost f [] = []
in_innermost f (s ∷ ss) = f s ∷ ss

-- what a name refers to in a scope, if the scope has it
abbrev pub find : {V : Type 0} → ℕ → Scope V → Option (Entry V)
find n [] = None
find n (e ∷ es) = cond (nat_eq e.0 n) (Some e.1) (find n es)

-- the scope with one more name at the end
abbrev pub mentioned : {V : Type 0} → ℕ → Entry V → Scope V → Scope V
mentioned n e s = s ++ (n, e) ∷ []

-- the scope with a definition in place of what the name referred to
abbrev pub resolved : {V : Type 0} → ℕ → V → Scope V → Scope V
resolved n v [] = []
resolved n v (e ∷ es) = (e.0, cond (nat_eq e.0 n) (Defined v) e.1) ∷ resolved n v es

-- the scope with a name defined in it, given what the name referred to
abbrev pub defined_from : {V : Type 0} → ℕ → V → Scope V → Option (Entry V) → Scope V
defined_from n v s None = mentioned n (Defined v) s
defined_from n v s (Some e) = resolved n v s

-- the scope with a name defined in it
abbrev pub defined : {V : Type 0} → ℕ → V → Scope V → Scope V
defined n v s = defined_from n v s (find n s)

-- the value of an entry, whether it is a definition or a placeholder
abbrev pub value_of : {V : Type 0} → Entry V → V
value_of (Defined v) = v
value_of (Pending h) = h

-- the name has a definition
abbrev pub is_defined : {V : Type 0} → Option (Entry V) → Bool
is_defined None = false
is_defined (Some (Defined v)) = true
is_defined (Some (Pending h)) = false

-- the placeholder of a name that has no definition yet
abbrev pub placeholder_of : {V : Type 0} → Option (Entry V) → Option V
placeholder_of None = None
placeholder_of (Some (Defined v)) = None
placeholder_of (Some (Pending h)) = Some h

-- the name, if it has no definition yet
abbrev pub if_pending : {V : Type 0} → ℕ → Entry V → Option ℕ
if_pending n (Defined v) = None
if_pending n (Pending h) = Some n

-- the first name of a scope that has no definition, in the order in which the names were first mentioned
abbrev pub first_pending : {V : Type 0} → Scope V → Option ℕ
first_pending [] = None
first_pending (e ∷ es) = option_or (if_pending e.0 e.1) (first_pending es)

-- a name was not defined, since there is no room for it
abbrev pub LacksRoom : {A : Type 0} → Result A DefineFault → Type 0
LacksRoom (Ok x) = ⊥
LacksRoom (Err (fault.NoRoom e)) = Unit {0}
LacksRoom (Err fault.MultipleDefinitions) = ⊥

-- how many names the scopes have together; a name that two scopes have counts twice
abbrev pub names_held : {V : Type 0} → List (Scope V) → ℕ
names_held [] = 0
names_held (s ∷ ss) = length s + names_held ss

-- there is no room in 32 bits for a name with this number, or for one more in these scopes
abbrev pub IsFull : {V : Type 0} → ℕ → List (Scope V) → Type 0
IsFull name scopes = (4294967295 < name) ⊎ (4294967295 ≤ names_held scopes)
