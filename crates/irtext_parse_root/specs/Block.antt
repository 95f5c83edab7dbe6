-- For callers: how a block is rejected where no region is open. Between functions: properties of a parsed header.
use Rattle.std.specs.Prelude.{◌≡◌, ℕ, cond, List, [], ◌∷◌, Option, Some, None, is_some}
use Rattle.std.specs.Map.{lookup}
use Rattle.irtext_base.specs.Text.{Text}
use Rattle.irtext_base.specs.Answers.{Outcome, Read, Refuses}
use Rattle.irtext_base.specs.Stream.{StreamView, after_taken, after_failure}
use Rattle.irtext_base.specs.Locations.{AttrView}
use Rattle.irtext_base.specs.declared.base.attributes.AttrObj.{AttrObj}
use Rattle.irtext_base.specs.declared.parsable.fault.ParseFault.{ParseFault}
use Rattle.irtext_parse_state.specs.States.{same_index}
use Rattle.irtext_grammar.specs.Contexts.Held.{whole, attribute_of}
use Rattle.irtext_grammar.specs.Grammar.Tree.{Head}
use Rattle.irtext_grammar.specs.Names.Acts.{block_may_hold}
use Rattle.irtext_grammar.specs.Readers.Streams.{itself, replaced}
use Rattle.irtext_grammar.specs.Heads.{head_at}
use Rattle.irtext_grammar.specs.declared.parsed.Key.{Key}
use Rattle.irtext_parse_pieces.specs.declared.headers.BlockHead.{BlockHead}
use Rattle.irtext_grammar.specs.declared.parsed.ReadMark.{ReadMark}
use Rattle.irtext_parse_pieces.specs.Headers.{IsHead}
use Rattle.irtext_names.specs.Alone.{FailsOutside}

module _ {T A : Type 0} (types_at : Text → Outcome T) (attr : Text → Outcome (AttrView A)) (marks : List ℕ) where
  -- A block outside of every region was rejected. Either its header does not parse, and the fault is that of the text, uncommitted if `^`
  -- does not come next. Or it parses; then the fault is the first failure of its keys, names and mark, and the stream is left failed
  -- after the header.
  pub data MissesBlock (old new : StreamView) (fault : ParseFault A) : Type 0 where
    no_header : Refuses itself replaced (head_at types_at attr old.rest) old fault new → MissesBlock old new fault
    by_header : (head : Head ℕ T A) (taken rest : Text) → head_at types_at attr old.rest ≡ Read head taken rest
        → new ≡ after_failure (after_taken old taken rest) → FailsOutside marks (whole old) head fault → MissesBlock old new fault

-- ---- between functions
-- the key of the first entry whose attribute is not allowed under its key in a block's dictionary
abbrev pub first_reserved : {A : Type 0} → List (Key × AttrObj A) → Option Key
first_reserved [] = None
first_reserved (e ∷ es) = cond (block_may_hold e.0.name (attribute_of e.1)) (first_reserved es) (Some e.0)

-- the mark, if its index is already recorded
abbrev pub noted_twice : {X : Type 0} → Option ReadMark → List (ℕ × X) → Option ReadMark
noted_twice None marks = None
noted_twice (Some m) marks = cond (is_some (lookup (same_index m.index) marks)) (Some m) None

-- the parsed header represents a header of the text
pub record IsRead {T A : Type 0} (names : List Text) (text : Text) (read : BlockHead T A) : Type 0 where
  pub head : Head ℕ T A
  pub is : IsHead names text read head
