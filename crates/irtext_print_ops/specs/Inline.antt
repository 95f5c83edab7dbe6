-- For callers: the attributes that are printed in place at their block, and their dictionary.
use Rattle.std.specs.Prelude.{Bool, not, cond, List, []}
use Rattle.std.specs.List.{list_any}
use Rattle.irtext_base.specs.Text.{Text}
use Rattle.irtext_grammar.specs.Grammar.Tree.{Attribute}
use Rattle.irtext_grammar.specs.Graphs.Graph.{outlined}
use Rattle.irtext_print.specs.Printers.PieceText.{outlining, dictionary_text}

module _ {A : Type 0} (is_outlined : A → Bool) where
  -- some attribute is printed in place
  abbrev pub has_inline : List (Text × Attribute A) → Bool
  has_inline es = list_any (λ e. not (outlined (outlining is_outlined) e.1)) es

  -- the dictionary of the attributes that are printed in place, after a space, if there is one
  abbrev pub inline_text : (A → Text) → List (Text × Attribute A) → Text
  inline_text written es = cond (has_inline es) (dictionary_text written is_outlined [] es) []
