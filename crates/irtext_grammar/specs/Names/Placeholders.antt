-- For callers: names in one pass over the events. A scope maps names to what they refer to. The use of a name that has no definition yet
-- gets a placeholder, and the definition replaces the placeholder wherever it occurs.
use Rattle.std.specs.Prelude.{ℕ, suc, Bool, true, false, cond, List, [], ◌∷◌, ◌++◌, map, Option, Some, None, not, ◌&&◌, nat_eq, Result, Ok, Err, ◌≡◌, ◌⊎◌, ◌↔◌}
use Rattle.irtext_base.specs.Text.{Text}
use Rattle.irtext_base.specs.Format.{same_text}
use Rattle.irtext_grammar.specs.Names.Script.{Place, User, use_value, use_label, define_value, define_label, mark, entry, claim, NoActiveScope, UnresolvedReference, MultipleDefinitions, DuplicateIndex, UnknownIndex, NotIsolated, Cause}
use Rattle.irtext_grammar.specs.Names.Scopes.{is_among}
use Rattle.irtext_grammar.specs.Names.TextScopes.{Word, Act, Failure}
use Rattle.irtext_grammar.specs.Names.History.{Event, act, enter, leave}

-- what a name or an operand refers to: a definition, or a placeholder
pub data Held : Type 0 where
  bound : Place → Held
  hole : ℕ → Held

-- the state of values, or of labels: the open scopes, the innermost first, each with its names in the order of first mention; what each
-- operand refers to; and the number of the next placeholder
pub record Names : Type 0 where
  pub scopes : List (List (Text × Held))
  pub slots : List (User × Held)
  pub fresh : ℕ

-- what the name refers to in a scope
abbrev pub find : Text → List (Text × Held) → Option Held
find n [] = None
find n (e ∷ es) = cond (same_text e.0 n) (Some e.1) (find n es)

-- the placeholder h becomes the definition p; all else is unchanged
abbrev pub fill : ℕ → Place → Held → Held
fill h p (bound q) = bound q
fill h p (hole k) = cond (nat_eq k h) (bound p) (hole k)

-- the same in the second component of a pair
abbrev pub fill_second : {A : Type 0} → ℕ → Place → A × Held → A × Held
fill_second h p e = (e.0, fill h p e.1)

-- a failure, with or without a place of its own
abbrev pub refused : {A : Type 0} → Cause Text → Option ℕ → Result A Failure
refused cause place = Err (record { cause = cause; at = place })

-- a failure at this place
abbrev pub refuse : {A : Type 0} → Cause Text → ℕ → Result A Failure
refuse cause place = refused cause (Some place)

-- a use gets what the name refers to in the innermost scope, or a new placeholder
abbrev pub used : Names → Word → User → List (Text × Held) → List (List (Text × Held)) → Option Held → Result Names Failure
used s w u e es (Some h) = Ok (record s { slots = s.slots ++ (u, h) ∷ [] })
used s w u e es None = Ok (record { scopes = (e ++ (w.name, hole s.fresh) ∷ []) ∷ es; slots = s.slots ++ (u, hole s.fresh) ∷ []; fresh = suc s.fresh })

-- a name is used, with these scopes open
abbrev pub use_in : Names → Word → User → List (List (Text × Held)) → Result Names Failure
use_in s w u [] = refuse (NoActiveScope w.name) w.at
use_in s w u (e ∷ es) = used s w u e es (find w.name e)

-- a name is used
abbrev pub use_name : Names → Word → User → Result Names Failure
use_name s w u = use_in s w u s.scopes

-- a definition replaces the name's placeholder, or is the first entry of the name; it fails if the name is defined already
abbrev pub defined : Names → Word → Place → List (Text × Held) → List (List (Text × Held)) → Option Held → Result Names Failure
defined s w p e es (Some (bound q)) = refuse (MultipleDefinitions w.name) w.at
defined s w p e es (Some (hole h)) = Ok (record s { scopes = map (fill_second h p) e ∷ es; slots = map (fill_second h p) s.slots })
defined s w p e es None = Ok (record s { scopes = (e ++ (w.name, bound p) ∷ []) ∷ es })

-- a name is defined, with these scopes open
abbrev pub define_in : Names → Word → Place → List (List (Text × Held)) → Result Names Failure
define_in s w p [] = refuse (NoActiveScope w.name) w.at
define_in s w p (e ∷ es) = defined s w p e es (find w.name e)

-- a name is defined
abbrev pub define_name : Names → Word → Place → Result Names Failure
define_name s w p = define_in s w p s.scopes

-- a scope is opened, without names
abbrev pub enter_scope : Names → Names
enter_scope s = record s { scopes = [] ∷ s.scopes }

-- the first name that still has a placeholder
abbrev pub pending : List (Text × Held) → Option Text
pending [] = None
pending ((n, bound p) ∷ es) = pending es
pending ((n, hole h) ∷ es) = Some n

-- a scope is closed, unless a name in it still has a placeholder
abbrev pub left_at : Names → ℕ → List (List (Text × Held)) → Option Text → Result Names Failure
left_at s a es (Some n) = refuse (UnresolvedReference n) a
left_at s a es None = Ok (record s { scopes = es })

-- the innermost of these scopes is closed
abbrev pub leave_in : Names → ℕ → List (List (Text × Held)) → Result Names Failure
leave_in s a [] = Ok s
leave_in s a (e ∷ es) = left_at s a es (pending e)

-- the innermost scope is closed
abbrev pub leave_scope : Names → ℕ → Result Names Failure
leave_scope s a = leave_in s a s.scopes

-- values and labels, and the indices of the marks and of the entries so far
pub record Tracker : Type 0 where
  pub values : Names
  pub labels : Names
  pub marks : List ℕ
  pub entries : List ℕ

-- the tracker with these values, unless they failed
abbrev pub with_values : Tracker → Result Names Failure → Result Tracker Failure
with_values t (Ok s) = Ok (record t { values = s })
with_values t (Err f) = Err f

-- the tracker with these labels, unless they failed
abbrev pub with_labels : Tracker → Result Names Failure → Result Tracker Failure
with_labels t (Ok s) = Ok (record t { labels = s })
with_labels t (Err f) = Err f

-- the effect of one act
abbrev pub do_act : Tracker → Act → Result Tracker Failure
do_act t (use_value w u) = with_values t (use_name t.values w u)
do_act t (use_label w u) = with_labels t (use_name t.labels w u)
do_act t (define_value w p) = with_values t (define_name t.values w p)
do_act t (define_label w p) = with_labels t (define_name t.labels w p)
do_act t (mark i p) = cond (is_among i t.marks) (refused (DuplicateIndex i) (Some p)) (Ok (record t { marks = t.marks ++ i ∷ [] }))
do_act t (entry i p) = cond (is_among i t.marks && not (is_among i t.entries)) (Ok (record t { entries = t.entries ++ i ∷ [] })) (refused (UnknownIndex i) (Some p))
do_act t (claim b x) = cond b (Ok t) (Err x)

-- some scope is open
abbrev pub has_scope : List (List (Text × Held)) → Bool
has_scope [] = false
has_scope (e ∷ es) = true

-- a region begins: it opens a scope of labels, and one of values if its operation is isolated; otherwise a scope of values must be open
abbrev pub enter_region : Tracker → Bool → Result Tracker Failure
enter_region t true = Ok (record t { values = enter_scope t.values; labels = enter_scope t.labels })
enter_region t false = cond (has_scope t.values.scopes) (Ok (record t { labels = enter_scope t.labels })) (refused NotIsolated None)

-- then the scope of labels is closed
abbrev pub then_labels : ℕ → Result Tracker Failure → Result Tracker Failure
then_labels a (Ok t) = with_labels t (leave_scope t.labels a)
then_labels a (Err f) = Err f

-- a region ends: its scope of values is closed first, if its operation is isolated, then its scope of labels
abbrev pub leave_region : Tracker → Bool → ℕ → Result Tracker Failure
leave_region t true a = then_labels a (with_values t (leave_scope t.values a))
leave_region t false a = then_labels a (Ok t)

-- the effect of one event
abbrev pub do_event : Tracker → Event → Result Tracker Failure
do_event t (act x) = do_act t x
do_event t (enter iso) = enter_region t iso
do_event t (leave iso a) = leave_region t iso a

-- the effect of one event, unless one failed before
abbrev pub do_next : Result Tracker Failure → Event → Result Tracker Failure
do_next (Ok t) e = do_event t e
do_next (Err f) e = Err f

-- the effect of the events, one after another, up to the first failure
abbrev pub read : Result Tracker Failure → List Event → Result Tracker Failure
read r [] = r
read r (e ∷ es) = read (do_next r e) es

-- no scope is open, and no name was used
abbrev pub no_names : Names
no_names = record { scopes = []; slots = []; fresh = 0 }

-- nothing has been parsed yet
abbrev pub fresh_tracker : Tracker
fresh_tracker = record { values = no_names; labels = no_names; marks = []; entries = [] }

-- the element is in the list
abbrev pub In : {A : Type 0} → A → List A → Type 0
In x [] = ⊥
In x (y ∷ ys) = (x ≡ y) ⊎ In x ys

-- the operands refer to the definitions that the two passes find and to no placeholder, and no scope is open
pub record Resolved (bindings : List (User × Place)) (t : Tracker) : Type 0 where
  pub no_scope_open : (t.values.scopes ≡ []) × (t.labels.scopes ≡ [])
  pub each : (u : User) (h : Held) → In (u, h) (t.values.slots ++ t.labels.slots) ↔ ((p : Place) × (h ≡ bound p) × In (u, p) bindings)

-- a run ends with the first of these failures; if there is none, it succeeds, and all names are resolved
abbrev pub AgreesWith : List Failure → List (User × Place) → Result Tracker Failure → Type 0
AgreesWith [] b (Ok t) = Resolved b t
AgreesWith [] b (Err f) = ⊥
AgreesWith (g ∷ gs) b (Ok t) = ⊥
AgreesWith (g ∷ gs) b (Err f) = f ≡ g
