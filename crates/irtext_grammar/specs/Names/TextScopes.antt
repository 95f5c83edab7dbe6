-- For callers: the two passes, with texts as names and numbers as places.
use Rattle.std.specs.Prelude.{ℕ, Bool, List, Option}
use Rattle.irtext_base.specs.Text.{Text}
use Rattle.irtext_base.specs.Format.{same_text}
use Rattle.irtext_grammar.specs.Names.Script as script
use Rattle.irtext_grammar.specs.Names.Script.{Place, User}
use Rattle.irtext_grammar.specs.Names.Scopes as scopes

-- a name, with its place in the text
abbrev pub Word : Type 0
Word = script.Word Text ℕ

-- an act, with texts as names
abbrev pub Act : Type 0
Act = script.Act Text ℕ

-- a script, with texts as names
abbrev pub Script : Type 0
Script = script.Script Text ℕ

-- a failure, with texts as names
abbrev pub Failure : Type 0
Failure = script.Failure Text ℕ

-- a fact, with texts as names
abbrev pub Fact : Type 0
Fact = scopes.Fact Text

-- what a script contributes to the scopes around it, and the uses that are bound inside it
abbrev pub Facts : Type 0
Facts = scopes.Facts Text

-- the scopes around a point of the script
abbrev pub Scopes : Type 0
Scopes = scopes.Scopes Text

-- the first definition of a name among the facts
abbrev pub lookup : Text → List Fact → Option Place
lookup = scopes.lookup same_text

-- each use among the facts that has a definition, with it
abbrev pub bound_in : List Fact → List Fact → List (User × Place)
bound_in = scopes.bound_in same_text

-- each use among the facts that has no definition
abbrev pub unresolved : ℕ → List Fact → List Fact → List Failure
unresolved = scopes.unresolved same_text

-- what a region contributes to the scopes around it
abbrev pub outward : Bool → Facts → Facts
outward = scopes.outward same_text

-- what a script contributes to the scopes around it
abbrev pub facts : Script → Facts
facts = scopes.facts same_text

-- a definition fails if its name is defined already, or if no scope is open
abbrev pub defined_before : Option (List Fact) → Word → List Failure
defined_before = scopes.defined_before same_text

-- the failures of one act
abbrev pub act_failures : Scopes → Act → List Failure
act_failures = scopes.act_failures same_text

-- the failures of the names that are unresolved in the scopes that end with a region
abbrev pub left_open : ℕ → Bool → Facts → List Failure
left_open = scopes.left_open same_text

-- the failures of a script, in its order
abbrev pub failures : Scopes → Script → List Failure
failures = scopes.failures same_text
