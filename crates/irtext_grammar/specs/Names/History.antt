-- For callers: a machine that processes the events of a script one by one. Each open scope is the list of its facts so far.
use Rattle.std.specs.Prelude.{ℕ, Bool, true, false, List, [], ◌∷◌, ◌++◌, Option, Some, None}
use Rattle.irtext_grammar.specs.Names.Script.{Place, User, done, does, within}
use Rattle.irtext_grammar.specs.Names.Scopes.{not_isolated, fact_of}
use Rattle.irtext_grammar.specs.Names.TextScopes.{Fact, Facts, Act, Failure, Scopes, Script, act_failures, left_open, bound_in}

-- an act, or that a region begins or ends
pub data Event : Type 0 where
  act : Act → Event
  enter : Bool → Event
  leave : Bool → ℕ → Event

-- the events of a script, in order
abbrev pub events : Script → List Event
events done = []
events (does a k) = act a ∷ events k
events (within iso p body k) = (enter iso ∷ (events body ++ leave iso p ∷ [])) ++ events k

-- the facts of each open scope, the innermost first; the marks and the entries so far; and the uses that are bound for good
pub record State : Type 0 where
  pub values : List (List Fact)
  pub labels : List (List Fact)
  pub marks : List ℕ
  pub entries : List ℕ
  pub bound : List (User × Place)

-- the innermost scope
abbrev pub top : List (List Fact) → Option (List Fact)
top [] = None
top (f ∷ fs) = Some f

-- the scopes around the innermost one
abbrev pub outer_scopes : List (List Fact) → List (List Fact)
outer_scopes [] = []
outer_scopes (f ∷ fs) = fs

-- the facts of the innermost scope
abbrev pub top_facts : List (List Fact) → List Fact
top_facts [] = []
top_facts (f ∷ fs) = f

-- the scopes, with these facts added to the innermost one
abbrev pub onto : List (List Fact) → List Fact → List (List Fact)
onto [] gs = []
onto (f ∷ fs) gs = (f ++ gs) ∷ fs

-- the innermost scopes, in the form that the two passes use
abbrev pub scopes_of : State → Scopes
scopes_of st = record { values = top st.values; labels = top st.labels; marks = st.marks; entries = st.entries }

-- the state with these facts added
abbrev pub after : State → Facts → State
after st f = record { values = onto st.values f.values; labels = onto st.labels f.labels; marks = st.marks ++ f.marks; entries = st.entries ++ f.entries; bound = st.bound ++ f.bound }

-- the state at the beginning of a region
abbrev pub entered : Bool → State → State
entered true st = record st { values = [] ∷ st.values; labels = [] ∷ st.labels }
entered false st = record st { labels = [] ∷ st.labels }

-- the facts of the scopes that end with a region
abbrev pub ending : State → Facts
ending st = record { values = top_facts st.values; labels = top_facts st.labels; marks = []; entries = []; bound = [] }

-- the state after a region: the uses in the scopes that end with it are bound for good
abbrev pub left : Bool → State → State
left true st = record st { values = outer_scopes st.values; labels = outer_scopes st.labels; bound = st.bound ++ (bound_in (top_facts st.values) (top_facts st.values) ++ bound_in (top_facts st.labels) (top_facts st.labels)) }
left false st = record st { labels = outer_scopes st.labels; bound = st.bound ++ bound_in (top_facts st.labels) (top_facts st.labels) }

-- the machine is running, or has failed
pub data Outcome : Type 0 where
  going : State → Outcome
  failed : Failure → Outcome

-- the first failure if there is one; otherwise the machine is running in this state
abbrev pub outcome : List Failure → State → Outcome
outcome [] st = going st
outcome (f ∷ fs) st = failed f

-- the outcome of one event
abbrev pub step : State → Event → Outcome
step st (act a) = outcome (act_failures (scopes_of st) a) (after st (fact_of a))
step st (enter iso) = outcome (not_isolated iso (top st.values)) (entered iso st)
step st (leave iso a) = outcome (left_open a iso (ending st)) (left iso st)

-- the outcome of one event, unless the machine has failed before
abbrev pub next : Outcome → Event → Outcome
next (going st) e = step st e
next (failed f) e = failed f

-- the outcome of the events
abbrev pub run : Outcome → List Event → Outcome
run o [] = o
run o (e ∷ es) = run (next o e) es

-- the first state: no scope is open, and there is no mark, no entry and no bound use
abbrev pub start : State
start = record { values = []; labels = []; marks = []; entries = []; bound = [] }

-- the last state: no scope is open, and the marks, the entries and the bound uses are those of these facts
abbrev pub ended : Facts → State
ended f = record start { marks = f.marks; entries = f.entries; bound = f.bound }
