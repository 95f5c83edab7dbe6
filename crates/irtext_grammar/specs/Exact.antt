-- What it means that a parser returns what the grammar parses, and the grammar of one item's own parts, without what is nested in it. An
-- item is here an operation or a block.
use Rattle.std.specs.Prelude.{◌≡◌, false, List, [], ◌++◌, map, Some, codes, ⊤}
use Rattle.irtext_base.specs.Text.{Text, begins, begins_word}
use Rattle.irtext_base.specs.Reading.{Reading, ◌▹◌, white, literal, separated}
use Rattle.irtext_base.specs.Format.{Format, Id}
use Rattle.irtext_base.specs.Own.{Language, verdict, missing}
use Rattle.irtext_base.specs.Answers.{Read}
use Rattle.irtext_tokens.specs.Infix.{Reader}
use Rattle.irtext_grammar.specs.Grammar.Reads as reads
use Rattle.irtext_grammar.specs.Grammar.Tree as tree
use Rattle.irtext_grammar.specs.Grammar.Tree.{Name, Piece, Head, directive_of_piece}
use Rattle.irtext_grammar.specs.Heads.{Step, flat, types}

-- A parser returns what the grammar parses, and nothing else; what it takes and what it leaves make up the text.
pub record Exact {X : Type 0} (reader : Reader X) (reading : X → Reading) : Type 0 where
  pub read : (text : Text) (x : X) (taken rest : Text) → reader text ≡ Read x taken rest → reading x text rest × (taken ++ rest ≡ text)
  pub found : (text : Text) (x : X) (rest : Text) → reading x text rest → (taken : Text) × (reader text ≡ Read x taken rest)

-- A parser finds nothing if no word begins.
pub record NeedsWord {X : Type 0} (reader : Reader X) : Type 0 where
  pub misses : (text : Text) → begins begins_word text ≡ false → verdict (reader text) ≡ missing

-- the piece is one that the step parses
abbrev pub IsOfStep : {P T A : Type 0} → Step → Piece P T A → Type 0
IsOfStep (flat d) p = directive_of_piece p ≡ Some d
IsOfStep types (tree.types ts) = ⊤
IsOfStep _ _ = ⊥

-- the piece uses no value and no label
abbrev pub UsesNone : {P T A : Type 0} → Piece P T A → Type 0
UsesNone (tree.operand i n) = ⊥
UsesNone (tree.operands ns) = ns ≡ []
UsesNone (tree.successor i n) = ⊥
UsesNone (tree.successors ns) = ns ≡ []
UsesNone _ = ⊤

module _ {P T A : Type 0} (L : Language P T A) where
  -- a piece, by a step that parses it
  abbrev pub step_piece : Step → Piece P T A → Reading
  step_piece step p text rest = IsOfStep step p × reads.piece L p text rest

  -- a block's header, up to its `:`
  abbrev pub block_head : Head P T A → Reading
  block_head h = reads.label L h.label ▹ literal (codes "(") ▹ separated 44 reads.no_word (map (reads.argument L) h.arguments) ▹ literal (codes ")")
      ▹ reads.dictionary_if L h.attributes ▹ reads.mark_if L h.mark ▹ literal (codes ":")

  -- the names of an operation's results, and its id, after white space
  abbrev pub operation_lead : List (Name P) × Id → Reading
  operation_lead lead = white (reads.results_if L lead.0 ▹ reads.id lead.1)

  -- the same, if the operation is registered
  abbrev pub registered_lead : List (Name P) × Id → Reading
  registered_lead lead text rest = ((f : Format) × (L.format_of lead.1 ≡ Some f)) × operation_lead lead text rest
