-- For callers: which causes an error of a text can have, and at which places. A place is given here by the text that is left there.
use Rattle.std.specs.Prelude.{◌≡◌, ℕ, Bool, true, false, is_some, List, [], ◌∷◌, ◌++◌, codes, length}
use Rattle.irtext_base.specs.Text.{Text}
use Rattle.irtext_base.specs.Format.{Id}
use Rattle.irtext_base.specs.Stream.{StreamView, first_of}
use Rattle.irtext_base.specs.Faults.{Fault, fault_of, Memory, Failed, Unexpected, NumberRange, BadEscape, BadUnicodeEscape, UnregisteredDialect, UnregisteredOp, ResultCount, NoActiveScope, Unresolved, MultipleDefinitions, NotIsolated, DuplicateIndex, UnknownIndex, UnknownPrintOnce, ReservedKey}
use Rattle.irtext_base.specs.Answers.{Read, Missing, Bad}
use Rattle.irtext_base.specs.Own.{is_text_fault, IsFront}
use Rattle.irtext_base.specs.declared.parsable.fault.ParseFault.{ParseFault}
use Rattle.irtext_context.specs.Dialects.{Table}
use Rattle.irtext_context.specs.DialectTable.{dialect_of, registered}
use Rattle.irtext_grammar.specs.Contexts.Formats.{op_id}
use Rattle.irtext_grammar.specs.Contexts.Held.{whole, IsPosition}
use Rattle.irtext_grammar.specs.Grammar.Tree.{Name}
use Rattle.irtext_tokens.specs.Infix.{Reader}
use Rattle.irtext_tokens.specs.Tokens.{id_at}
use Rattle.irtext_grammar.specs.Heads.{lead_at}

-- A cause that parsers of tokens return where this text is left, and what it names is there: a character, or the end, which is not what
-- is expected; a number that is out of range; or an escape that is bad.
abbrev pub IsTokenFault : Fault → Text → Type 0
IsTokenFault (Unexpected found demand) left = found ≡ first_of left
IsTokenFault (NumberRange number) left = IsFront number left
IsTokenFault (BadEscape c) left = IsFront (92 ∷ c ∷ []) left
IsTokenFault (BadUnicodeEscape digits) left = IsFront (codes "\\u{" ++ (digits ++ codes "}")) left
IsTokenFault _ left = ⊥

-- a cause that is about a name, a mark, an entry of the section or a key
abbrev pub is_name_fault : Fault → Bool
is_name_fault (ResultCount types names) = true
is_name_fault (NoActiveScope name) = true
is_name_fault (Unresolved name) = true
is_name_fault (MultipleDefinitions name) = true
is_name_fault NotIsolated = true
is_name_fault (DuplicateIndex index) = true
is_name_fault (UnknownIndex index) = true
is_name_fault (UnknownPrintOnce index) = true
is_name_fault (ReservedKey key) = true
is_name_fault _ = false

-- the second text is what is left of the first at some place
abbrev pub IsLeft : Text → Text → Type 0
IsLeft text left = (front : Text) × (front ++ left ≡ text)

-- a parser that starts with this text returns this cause at this place: nothing that it parses begins, or what begins is bad there
pub data ReturnsCause {X : Type 0} (parser : Reader X) (start : Text) (cause : Fault) (left : Text) : Type 0 where
  missing : parser start ≡ Missing cause → left ≡ start → ReturnsCause parser start cause left
  bad : (upto : Text) → parser start ≡ Bad cause upto → upto ++ left ≡ start → ReturnsCause parser start cause left

-- a caller's parser that starts at some place of the text returns this cause at this place; the cause is one that such a parser may return
pub record ReturnsCauseIn {X : Type 0} (parser : Reader X) (text : Text) (cause : Fault) (left : Text) : Type 0 where
  pub start : Text
  pub later : IsLeft text start
  pub returns : ReturnsCause parser start cause left
  pub allowed : is_text_fault cause ≡ true

-- an id begins here, whose dialect is not registered
pub record NoDialect (dialects : List (Text × Table)) (cause : Fault) (left : Text) : Type 0 where
  pub id : Id
  pub taken : Text
  pub rest : Text
  pub begins : id_at left ≡ Read id taken rest
  pub unknown : is_some (dialect_of dialects id.dialect) ≡ false
  pub is : cause ≡ UnregisteredDialect id.dialect

-- an operation begins here, whose dialect is registered, but no operation with its id; names of results may precede the id
pub record NoOperation (dialects : List (Text × Table)) (cause : Fault) (left : Text) : Type 0 where
  pub names : List (Name ℕ)
  pub lead : Text
  pub mid : Text
  pub leads : lead_at left ≡ Read names lead mid
  pub id : Id
  pub taken : Text
  pub rest : Text
  pub begins : id_at mid ≡ Read id taken rest
  pub known : is_some (dialect_of dialects id.dialect) ≡ true
  pub unknown : is_some (registered dialects (op_id id)) ≡ false
  pub is : cause ≡ UnregisteredOp id

module _ {T A : Type 0} (dialects : List (Text × Table)) (types_at : Reader T) (owns_at : Reader A) where
  -- A cause that an error of the text can have at a place of the text: one of a token, or about a name; that an id is not registered, at
  -- such an id; or the cause that the parser of the caller's types, or of the caller's attributes, returns there.
  pub data CauseAt (text : Text) (cause : Fault) (left : Text) : Type 0 where
    of_token : IsTokenFault cause left → IsLeft text left → CauseAt text cause left
    of_name : is_name_fault cause ≡ true → IsLeft text left → CauseAt text cause left
    no_dialect : NoDialect dialects cause left → IsLeft text left → CauseAt text cause left
    no_operation : NoOperation dialects cause left → IsLeft text left → CauseAt text cause left
    of_type : ReturnsCauseIn types_at text cause left → CauseAt text cause left
    of_attribute : ReturnsCauseIn owns_at text cause left → CauseAt text cause left

  -- the same, where a place is the number of characters from it to the end of the text
  abbrev pub CauseAtPlace : Text → Fault → ℕ → Type 0
  CauseAtPlace text cause place = (left : Text) × (place ≡ length left) × CauseAt text cause left

  -- Why parsing fails on a stream: the stream had failed; out of memory; a cause that an error of the text to come can have at the fault's
  -- position; or one about a name, a mark, an entry of the section or a key.
  pub data HasReason (old : StreamView) (fault : ParseFault A) : Type 0 where
    had_failed : old.failed ≡ true → fault_of fault.cause ≡ Failed → HasReason old fault
    out_of_memory : fault_of fault.cause ≡ Memory → HasReason old fault
    in_text : (left : Text) → CauseAt old.rest (fault_of fault.cause) left → IsPosition (whole old) (length left) fault.pos → HasReason old fault
    by_name : is_name_fault (fault_of fault.cause) ≡ true → HasReason old fault
