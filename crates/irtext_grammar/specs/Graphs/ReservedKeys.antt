-- For callers: the rule for the dictionaries of a graph: under the key of given names there are only given names, and a block's
-- dictionary has no label.
use Rattle.std.specs.Prelude.{◌≡◌, true, List, ⊤}
use Rattle.std.specs.List.{list_all}
use Rattle.irtext_base.specs.Text.{Text}
use Rattle.irtext_grammar.specs.Grammar.Forest.{AllRegions}
use Rattle.irtext_grammar.specs.Grammar.Tree.{Attribute}
use Rattle.irtext_grammar.specs.Graphs.Graph.{Graph, GraphOp, GraphBlock}
use Rattle.irtext_grammar.specs.Names.Acts.{Rule, may_hold, block_may_hold}

-- each entry of the dictionary is allowed by the rule
abbrev pub KeepsRule : {A : Type 0} → Rule A → List (Text × Attribute A) → Type 0
KeepsRule rule es = list_all (λ e. rule e.0 e.1) es ≡ true

-- under the key of given names, the dictionary has only given names
abbrev pub KeepsKeys : {A : Type 0} → List (Text × Attribute A) → Type 0
KeepsKeys es = KeepsRule may_hold es

-- the operation's dictionary follows this rule
abbrev pub OpKeepsKeys : {T A : Type 0} → GraphOp T A → Type 0
OpKeepsKeys o = KeepsKeys o.attributes

-- the block's dictionary follows this rule, and has no label
abbrev pub BlockKeepsKeys : {T A : Type 0} → GraphBlock T A → Type 0
BlockKeepsKeys h = KeepsRule block_may_hold h.attributes

-- each dictionary of the graph follows this rule
abbrev pub GraphKeepsKeys : {T A : Type 0} → Graph T A → Type 0
GraphKeepsKeys g = OpKeepsKeys g.own × AllRegions OpKeepsKeys BlockKeepsKeys (λ r. ⊤) g.regions
