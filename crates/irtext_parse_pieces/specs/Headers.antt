-- Between functions: what the parsed headers of blocks represent.
use Rattle.std.specs.Prelude.{ℕ, List, Option, Result, Vec, codes}
use Rattle.std.specs.Global.{Global}
use Rattle.irtext_base.specs.Text.{Text}
use Rattle.irtext_base.specs.Stream.{StreamView}
use Rattle.irtext_base.specs.Answers.{Outcome}
use Rattle.irtext_base.specs.Locations.{AttrView}
use Rattle.irtext_base.specs.declared.base.attributes.AttrObj.{AttrObj}
use Rattle.irtext_base.specs.declared.parsable.fault.ParseFault.{ParseFault}
use Rattle.irtext_tokens.specs.Infix.{Reader, ◌▷◌, ◌▶◌, ◌⇒◌}
use Rattle.irtext_tokens.specs.Tokens.{space_at, word}
use Rattle.irtext_grammar.specs.Grammar.Tree.{Name, Mark, Attribute, Head}
use Rattle.irtext_grammar.specs.Heads.{mark_if_at, head_at}
use Rattle.irtext_grammar.specs.declared.parsed.Key.{Key}
use Rattle.irtext_parse_pieces.specs.declared.headers.BlockHead.{BlockHead}
use Rattle.irtext_grammar.specs.declared.parsed.ReadMark.{ReadMark}
use Rattle.irtext_parse_pieces.specs.Arguments.{IsArgument}
use Rattle.irtext_grammar.specs.Parsed.{AreEntries, IsMarkIf, Represents, Each, Optional}
use Rattle.irtext_parse_pieces.specs.Entries.{dictionary_if}
use Rattle.irtext_parse_pieces.specs.Named.{whole, MustMean}

-- all parts of the header represent those of the text
pub record IsHead {T A : Type 0} (names : List Text) (text : Text) (read : BlockHead T A) (head : Head ℕ T A) : Type 0 where
  pub label : Represents names text read.label head.label
  pub arguments : Each (IsArgument names text) read.arguments head.arguments
  pub attributes : Optional (AreEntries text) read.attributes head.attributes
  pub mark : IsMarkIf text read.mark head.mark

-- the entries and the mark of a header represent those of the text
abbrev pub IsHeadEnd : {A : Type 0} → Text → Option (Vec (Key × AttrObj A) Global) × Option ReadMark → Option (List (Name ℕ × Attribute A)) × Option (Mark ℕ) → Type 0
IsHeadEnd text read end = Optional (AreEntries text) read.0 end.0 × IsMarkIf text read.1 end.1

-- the end of a header: its mark if it has one, and `:`
abbrev pub mark_end_at : Reader (Option (Mark ℕ))
mark_end_at = space_at ▷ mark_if_at ▶ λ mark. space_at ▷ word (codes ":") ⇒ λ _. mark

-- what follows the arguments of a header: `)`, its dictionary if it has one, its mark if it has one, and `:`
abbrev pub head_end_at : {A : Type 0} → (Text → Outcome (AttrView A)) → Reader (Option (List (Name ℕ × Attribute A)) × Option (Mark ℕ))
head_end_at attr = word (codes ")") ▷ space_at ▷ dictionary_if attr ▶ λ attributes. mark_end_at ⇒ λ mark. (attributes, mark)

module _ {S A : Type 0} (view : S → StreamView) (at : S → StreamView → S) where
  -- the result is the end of the header that comes next, or its fault
  abbrev pub MustHeadEnd : (Text → Outcome (AttrView A)) → S → Result (Option (Vec (Key × AttrObj A) Global) × Option ReadMark) (ParseFault A) → S → Type 0
  MustHeadEnd attr old result new = MustMean view at (IsHeadEnd (whole (view old))) (head_end_at attr) old result new

module _ {S T A : Type 0} (view : S → StreamView) (at : S → StreamView → S) where
  -- the result is the header that comes next, or its fault
  abbrev pub MustHead : List Text → (Text → Outcome T) → (Text → Outcome (AttrView A)) → S → Result (BlockHead T A) (ParseFault A) → S → Type 0
  MustHead names types_at attr old result new = MustMean view at (IsHead names (whole (view old))) (head_at types_at attr) old result new
