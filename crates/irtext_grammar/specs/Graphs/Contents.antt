-- For callers: the section after a tree has the entry of each operation and each block of a graph.
use Rattle.std.specs.Prelude.{◌≡◌, List, Option, option_map, ⊤}
use Rattle.irtext_base.specs.Text.{Text}
use Rattle.irtext_grammar.specs.Grammar.Forest.{MatchRoots}
use Rattle.irtext_grammar.specs.Grammar.Tree.{Attribute, Op, Head, Tree}
use Rattle.irtext_grammar.specs.Graphs.Graph.{Graph, GraphOp, GraphBlock, Printing, op_outlined, block_outlined}
use Rattle.irtext_grammar.specs.Grammar.Section.{Entry}
use Rattle.irtext_grammar.specs.Graphs.Build.{content}
use Rattle.irtext_grammar.specs.Spelling.SectionEntries.{own_content}

-- the contents of an entry, with its location mapped
abbrev pub as_text : {A X Y : Type 0} → (X → Y) → Option X × List (Text × Attribute A) → Option Y × List (Text × Attribute A)
as_text text c = (option_map text c.0, c.1)

module _ {P T A X : Type 0} (C : Printing T A) (text : X → Text) (es : List (Entry P A X)) where
  -- the entry of the operation's mark has its location and its outlined attributes; if there are none of these, there is no entry
  abbrev pub OpContent : GraphOp T A → Op P T A → Type 0
  OpContent o x = option_map (as_text text) (content es x.mark) ≡ own_content C o.location (op_outlined C o)

  -- the same of a block, with its label
  abbrev pub BlockContent : GraphBlock T A → Head P T A → Type 0
  BlockContent h x = option_map (as_text text) (content es x.mark) ≡ own_content C h.location (block_outlined C h)

  -- the same of all operations and blocks of a graph and a tree of the same shape
  abbrev pub Contents : Graph T A → Tree P T A → Type 0
  Contents g t = MatchRoots OpContent BlockContent (λ r s. ⊤) g t
