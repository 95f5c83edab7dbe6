-- For callers: the words for failures of labels: that a scope defines a label, and that one act fails or passes.
use Rattle.std.specs.Prelude.{◌≡◌, List, ◌∷◌}
use Rattle.irtext_base.specs.Text.{Text}
use Rattle.irtext_grammar.specs.Names.Script.{Place, does}
use Rattle.irtext_grammar.specs.Names.Scopes.{defines, fact_of, ◌⊳◌}
use Rattle.irtext_grammar.specs.Names.TextScopes.{Act, Fact, Failure, Scopes, Script, failures}
use Rattle.irtext_grammar.specs.Names.Placeholders.{In}

-- the facts of a scope contain a definition of the name
abbrev pub IsDefined : Text → List Fact → Type 0
IsDefined name scope = (place : Place) × In (defines name place) scope

-- the act fails with exactly this failure, which comes before the failures of all that follows the act
abbrev pub Fails : Scopes → Act → Failure → Type 0
Fails scopes act failure = (following : Script) → failures scopes (does act following) ≡ failure ∷ failures (scopes ⊳ fact_of act) following

-- the act does not fail: the failures are those of what follows it
abbrev pub Passes : Scopes → Act → Type 0
Passes scopes act = (following : Script) → failures scopes (does act following) ≡ failures (scopes ⊳ fact_of act) following
