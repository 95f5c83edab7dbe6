-- For callers: keys that are looked up by the check whether an operation fits its format.
use Rattle.std.specs.Prelude.{Bool, cond, not, List, [], ◌∷◌, Option, Some, None, is_some}
use Rattle.std.specs.List.{find}
use Rattle.irtext_base.specs.Text.{Text}
use Rattle.irtext_base.specs.Format as format
use Rattle.irtext_base.specs.Format.{Directive, keys}
use Rattle.irtext_grammar.specs.Grammar.Tree.{Attribute}
use Rattle.irtext_grammar.specs.Graphs.Graph.{lookup}

-- the key of the first entry that passes a test
abbrev pub first_key : {X : Type 0} → (Text × X → Bool) → List (Text × X) → Option Text
first_key test [] = None
first_key test (e ∷ es) = cond (test e) (Some e.0) (first_key test es)

module _ {A : Type 0} where
  -- the key that a directive names, if no attribute has it
  abbrev pub lacking_key : List (Text × Attribute A) → Directive → Option Text
  lacking_key es (format.attribute k) = cond (is_some (lookup k es)) None (Some k)
  lacking_key es _ = None

  -- the first key that directives name and no attribute has
  abbrev pub missing_key : List (Text × Attribute A) → List Directive → Option Text
  missing_key es ds = find (λ k. not (is_some (lookup k es))) (keys ds)
