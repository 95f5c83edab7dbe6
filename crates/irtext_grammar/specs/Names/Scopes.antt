-- For callers: which definition each name of a script refers to, and which names are wrong, in two passes. The first collects what each
-- scope uses and defines, the second looks names up in whole scopes. `eq` tests whether two names are equal.
use Rattle.std.specs.Prelude.{ℕ, Bool, true, false, cond, not, ◌&&◌, List, [], ◌∷◌, ◌++◌, Option, Some, None, is_some, nat_eq}
use Rattle.irtext_grammar.specs.Names.Script.{Place, User, Word, Failure, Act, use_value, use_label, define_value, define_label, mark, entry, claim, Script, done, does, within, NoActiveScope, UnresolvedReference, MultipleDefinitions, DuplicateIndex, UnknownIndex, NotIsolated, Cause}

-- a name is used, or defined, in some scope
pub data Fact (N : Type 0) : Type 0 where
  uses : N → User → Fact N
  defines : N → Place → Fact N

-- a use, with its definition if there is one
abbrev pub link : User → Option Place → List (User × Place)
link u None = []
link u (Some p) = (u, p) ∷ []

-- one failure, at this place
abbrev pub fail : {N P : Type 0} → Cause N → P → List (Failure N P)
fail cause place = record { cause = cause; at = Some place } ∷ []

-- the number is in the list
abbrev pub is_among : ℕ → List ℕ → Bool
is_among n [] = false
is_among n (m ∷ ms) = cond (nat_eq m n) true (is_among n ms)

-- what a script contributes to the scopes around it, in its order, and the uses that are bound in the scopes inside it
pub record Facts (N : Type 0) : Type 0 where
  pub values : List (Fact N)
  pub labels : List (Fact N)
  pub marks : List ℕ
  pub entries : List ℕ
  pub bound : List (User × Place)

-- no facts
abbrev pub nothing : {N : Type 0} → Facts N
nothing = record { values = []; labels = []; marks = []; entries = []; bound = [] }

-- the facts of the one, and then those of the other
infixr 5 ◌⊕◌
abbrev pub ◌⊕◌ : {N : Type 0} → Facts N → Facts N → Facts N
f ⊕ g = record { values = f.values ++ g.values; labels = f.labels ++ g.labels; marks = f.marks ++ g.marks; entries = f.entries ++ g.entries; bound = f.bound ++ g.bound }

-- the facts of one act
abbrev pub fact_of : {N P : Type 0} → Act N P → Facts N
fact_of (use_value w u) = record nothing { values = uses w.name u ∷ [] }
fact_of (use_label w u) = record nothing { labels = uses w.name u ∷ [] }
fact_of (define_value w p) = record nothing { values = defines w.name p ∷ [] }
fact_of (define_label w p) = record nothing { labels = defines w.name p ∷ [] }
fact_of (mark i p) = record nothing { marks = i ∷ [] }
fact_of (entry i p) = record nothing { entries = i ∷ [] }
fact_of (claim b x) = nothing

-- the scopes around a point of the script, each with its facts up to that point; marks and entries are those of the whole root up to it
pub record Scopes (N : Type 0) : Type 0 where
  pub values : Option (List (Fact N))
  pub labels : Option (List (Fact N))
  pub marks : List ℕ
  pub entries : List ℕ

-- the facts are added to a scope, if there is one
abbrev pub and_then : {N : Type 0} → Option (List (Fact N)) → List (Fact N) → Option (List (Fact N))
and_then None fs = None
and_then (Some gs) fs = Some (gs ++ fs)

-- the scopes with these facts added
infixl 5 ◌⊳◌
abbrev pub ◌⊳◌ : {N : Type 0} → Scopes N → Facts N → Scopes N
s ⊳ f = record { values = and_then s.values f.values; labels = and_then s.labels f.labels; marks = s.marks ++ f.marks; entries = s.entries ++ f.entries }

-- the failure of a name if no scope of its kind is open
abbrev pub outside : {N P : Type 0} → Option (List (Fact N)) → Word N P → List (Failure N P)
outside None w = fail (NoActiveScope w.name) w.at
outside (Some fs) w = []

-- the failure of a region if it has no scope of values, neither its own nor one around it
abbrev pub not_isolated : {N P : Type 0} → Bool → Option (List (Fact N)) → List (Failure N P)
not_isolated true o = []
not_isolated false None = record { cause = NotIsolated; at = None } ∷ []
not_isolated false (Some fs) = []

-- the scopes at the beginning of a region
abbrev pub inside : {N : Type 0} → Bool → Scopes N → Scopes N
inside true s = record { values = Some []; labels = Some []; marks = s.marks; entries = s.entries }
inside false s = record { values = s.values; labels = Some []; marks = s.marks; entries = s.entries }

-- no scope is open
abbrev pub no_scope : {N : Type 0} → Scopes N
no_scope = record { values = None; labels = None; marks = []; entries = [] }

module _ {N : Type 0} (eq : N → N → Bool) where
  -- the first definition of a name among the facts of a scope
  abbrev pub lookup : N → List (Fact N) → Option Place
  lookup n [] = None
  lookup n (uses m u ∷ fs) = lookup n fs
  lookup n (defines m p ∷ fs) = cond (eq m n) (Some p) (lookup n fs)

  -- each use among the facts whose name the whole scope defines, with that definition
  abbrev pub bound_in : List (Fact N) → List (Fact N) → List (User × Place)
  bound_in all [] = []
  bound_in all (uses n u ∷ fs) = link u (lookup n all) ++ bound_in all fs
  bound_in all (defines n p ∷ fs) = bound_in all fs

  -- the failures of the uses among the facts whose name the whole scope does not define
  abbrev pub unresolved : {P : Type 0} → P → List (Fact N) → List (Fact N) → List (Failure N P)
  unresolved a all [] = []
  unresolved a all (uses n u ∷ fs) = cond (is_some (lookup n all)) [] (fail (UnresolvedReference n) a) ++ unresolved a all fs
  unresolved a all (defines n p ∷ fs) = unresolved a all fs

  -- what a region contributes to the scopes around it: no labels, and no values if its operation is isolated; uses in the scopes that end
  -- with it are bound
  abbrev pub outward : Bool → Facts N → Facts N
  outward true f = record { values = []; labels = []; marks = f.marks; entries = f.entries; bound = f.bound ++ (bound_in f.values f.values ++ bound_in f.labels f.labels) }
  outward false f = record { values = f.values; labels = []; marks = f.marks; entries = f.entries; bound = f.bound ++ bound_in f.labels f.labels }

  -- what a script contributes to the scopes around it: the first pass
  abbrev pub facts : {P : Type 0} → Script N P → Facts N
  facts done = nothing
  facts (does a k) = fact_of a ⊕ facts k
  facts (within iso p body k) = outward iso (facts body) ⊕ facts k

  -- a definition fails if no scope is open, or if its name is defined already
  abbrev pub defined_before : {P : Type 0} → Option (List (Fact N)) → Word N P → List (Failure N P)
  defined_before None w = fail (NoActiveScope w.name) w.at
  defined_before (Some fs) w = cond (is_some (lookup w.name fs)) (fail (MultipleDefinitions w.name) w.at) []

  -- the failures of one act
  abbrev pub act_failures : {P : Type 0} → Scopes N → Act N P → List (Failure N P)
  act_failures s (use_value w u) = outside s.values w
  act_failures s (use_label w u) = outside s.labels w
  act_failures s (define_value w p) = defined_before s.values w
  act_failures s (define_label w p) = defined_before s.labels w
  act_failures s (mark i p) = cond (is_among i s.marks) (record { cause = DuplicateIndex i; at = Some p } ∷ []) []
  act_failures s (entry i p) = cond (is_among i s.marks && not (is_among i s.entries)) [] (record { cause = UnknownIndex i; at = Some p } ∷ [])
  act_failures s (claim b x) = cond b [] (x ∷ [])

  -- the failures of the names that are unresolved in the scopes that end with a region: values first, then labels
  abbrev pub left_open : {P : Type 0} → P → Bool → Facts N → List (Failure N P)
  left_open a true f = unresolved a f.values f.values ++ unresolved a f.labels f.labels
  left_open a false f = unresolved a f.labels f.labels

  -- the failures of a script, in its order: the second pass
  abbrev pub failures : {P : Type 0} → Scopes N → Script N P → List (Failure N P)
  failures s done = []
  failures s (does a k) = act_failures s a ++ failures (s ⊳ fact_of a) k
  failures s (within iso p body k) =
      (not_isolated iso s.values ++ (failures (inside iso s) body ++ left_open p iso (facts body))) ++ failures (s ⊳ outward iso (facts body)) k

  -- the definition that a use refers to; v and l are the facts of the whole scopes around it
  abbrev pub bound_by : {P : Type 0} → List (Fact N) → List (Fact N) → Act N P → List (User × Place)
  bound_by v l (use_value w u) = link u (lookup w.name v)
  bound_by v l (use_label w u) = link u (lookup w.name l)
  bound_by v l _ = []

  -- the definition that each use of a script refers to
  abbrev pub bound : {P : Type 0} → List (Fact N) → List (Fact N) → Script N P → List (User × Place)
  bound v l done = []
  bound v l (does a k) = bound_by v l a ++ bound v l k
  bound v l (within iso p body k) = bound (cond iso (facts body).values v) (facts body).labels body ++ bound v l k
