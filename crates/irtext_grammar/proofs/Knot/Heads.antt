-- What is required of the parsers of one item's own parts, so that nested text is parsed as the grammar parses it.
use Rattle.std.proofs.Common.{◌≡◌, ℕ, Bool, true, Option, List}
use Rattle.irtext_base.specs.Text.{Text}
use Rattle.irtext_base.specs.Format.{Id}
use Rattle.irtext_base.specs.Answers.{Read}
use Rattle.irtext_base.specs.Locations.{AttrView}
use Rattle.irtext_base.specs.Own.{Texts, Language, language}
use Rattle.irtext_context.specs.Dialects.{Table}
use Rattle.irtext_tokens.specs.Infix.{Reader}
use Rattle.irtext_grammar.specs.Contexts.Formats.{format_of}
use Rattle.irtext_grammar.specs.Grammar.Reads as reads
use Rattle.irtext_grammar.specs.Grammar.Tree.{Name, Mark, Piece, Head}
use Rattle.irtext_grammar.specs.Exact.{step_piece, block_head, registered_lead}
use Rattle.irtext_grammar.specs.Heads.{Step, piece_at, head_at, led_at, mark_if_at, setting}

module _ {T A : Type 0} (texts : Texts T) (owns : Texts A) (dialects : List (Text × Table)) where
  -- the language of a context's dialects
  abbrev pub l : Language ℕ T A
  l = language texts owns (format_of dialects)

  module _ (types_at : Reader T) (attr : Reader (AttrView A)) (any_key : Bool) where
    -- what the parsers accept the grammar parses
    pub record ReadHeads : Type 0 where
      pub lead : (text : Text) (lead : List (Name ℕ) × Id) (taken rest : Text) → led_at dialects text ≡ Read lead taken rest → registered_lead l lead text rest
      pub head : (text : Text) (head : Head ℕ T A) (taken rest : Text) → head_at types_at attr text ≡ Read head taken rest → block_head l head text rest
      pub piece : (step : Step) (text : Text) (p : Piece ℕ T A) (taken rest : Text) → piece_at types_at attr (setting true any_key) step text ≡ Read p taken rest → step_piece l step p text rest
      pub mark : (text : Text) (mark : Option (Mark ℕ)) (taken rest : Text) → mark_if_at text ≡ Read mark taken rest → reads.mark_if l mark text rest

    -- what the grammar parses the parsers accept
    pub record FoundHeads : Type 0 where
      pub lead : (text : Text) (lead : List (Name ℕ) × Id) (rest : Text) → registered_lead l lead text rest → (taken : Text) × (led_at dialects text ≡ Read lead taken rest)
      pub head : (text : Text) (head : Head ℕ T A) (rest : Text) → block_head l head text rest → (taken : Text) × (head_at types_at attr text ≡ Read head taken rest)
      pub piece : (step : Step) (text : Text) (p : Piece ℕ T A) (rest : Text) → step_piece l step p text rest → (taken : Text) × (piece_at types_at attr (setting true any_key) step text ≡ Read p taken rest)
      pub mark : (text : Text) (mark : Option (Mark ℕ)) (rest : Text) → reads.mark_if l mark text rest → (taken : Text) × (mark_if_at text ≡ Read mark taken rest)
