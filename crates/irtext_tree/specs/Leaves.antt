-- A family whose values hold no others, as a grammar.
use Rattle.std.specs.Prelude.{true}
use Rattle.irtext_tree.specs.Growths.{Growth}
use Rattle.irtext_tree.specs.declared.places.Leaf.{Leaf}
use Rattle.irtext_tree.specs.declared.waits.Waits.TheVariants as waits

-- one place, and nothing after a head
abbrev pub leaf_growth : {H : Type 0} → Growth Leaf H
leaf_growth = record { start = record {}; same = λ s t. true; place = λ h. record {}; waits = λ h. waits.Nothing }
