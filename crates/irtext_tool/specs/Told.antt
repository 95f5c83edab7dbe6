-- For callers: what is said of an input that was not formatted.
use Rattle.std.specs.Prelude.{◌≡◌, ◌⊎◌, ℕ, false, List, [], ◌++◌, codes, Option, Some, None, IfSome, Result, Ok, Err, string_bytes, String, ⊤}
use Rattle.std.specs.Borrow.{Bor}
use Rattle.std.specs.Fmt.{digits}
use Rattle.std.specs.Str.{IsUtf8}
use Rattle.std.specs.Io.KnownBytes.{Appends}
use Rattle.std.specs.IoError.{error_kind}
use Rattle.std.specs.declared.io.Error as io_error
use Rattle.std.specs.declared.io.ErrorKind.TheVariants.{BrokenPipe}
use Rattle.irtext_base.specs.Causes.{cause_text, id_text}
use Rattle.irtext_base.specs.declared.parsable.fault.ParseFault.{ParseFault}
use Rattle.irtext_base.specs.declared.result.Cause.{Cause}
use Rattle.irtext_diagnostics.specs.Causes.{cause_word, innermost}
use Rattle.irtext_diagnostics.specs.Utf8.{IsRejected}
use Rattle.irtext_diagnostics.specs.declared.messages.Diagnostic.{Diagnostic}
use Rattle.irtext_diagnostics.specs.declared.messages.Severity.TheVariants.{Error}
use Rattle.irtext_excerpt.specs.declared.Excerpt.{Excerpt}
use Rattle.irtext_stream.specs.declared.position.SourcePosition.{SourcePosition}
use Rattle.irtext_formatter.specs.declared.fault.Failure.{Failure}
use Rattle.irtext_formatter.specs.declared.fault.Failure.TheVariants as failure
use Rattle.irtext_formatter.specs.declared.fault.Fault.{Fault}
use Rattle.irtext_formatter.specs.declared.fault.Fault.TheVariants as fault
use Rattle.irtext_formatter.specs.declared.input.InputFault.{InputFault}
use Rattle.irtext_formatter.specs.declared.input.InputFault.TheVariants as input
use Rattle.irtext_formatter.specs.declared.misfit.Misfit.{Misfit}
use Rattle.irtext_tool.specs.Reports.{said_bytes}
use Rattle.irtext_tool.specs.declared.about.Form.{Form}

-- ---- messages

-- a text that was made, or else another one
abbrev pub made_or : {Z E : Type 0} → Result (String Z) E → List ℕ → List ℕ
made_or (Ok made) otherwise = string_bytes made
made_or (Err error) otherwise = otherwise

-- a message is this text, or the short one, where there was no memory for it
abbrev pub IsOr : List ℕ → List ℕ → List ℕ → Type 0
IsOr text short message = (message ≡ text) ⊎ (message ≡ short)

-- a message is this sentence and a detail after a colon, or the sentence alone; the detail is this one, if one is given
abbrev pub HasDetail : List ℕ → Option (List ℕ) → List ℕ → Type 0
HasDetail sentence detail message = (text : List ℕ) × IfSome detail (λ d. text ≡ d) × IsOr (sentence ++ (codes ": " ++ text)) sentence message

-- ---- errors

-- bytes of which this holds were appended
pub record Writes (before after : Option (List ℕ)) (Holds : List ℕ → Type 0) : Type 0 where
  pub bytes : List ℕ
  pub appends : Appends before after bytes
  pub holds : Holds bytes

-- more bytes were appended
abbrev pub WritesMore : Option (List ℕ) → Option (List ℕ) → Type 0
WritesMore before after = Writes before after (λ bytes. ⊤)

-- an excerpt is of this text, at this position, if there is one
abbrev pub IsPlaced : List ℕ → Option SourcePosition → Option Excerpt → Type 0
IsPlaced text None None = ⊤
IsPlaced text (Some position) (Some place) = (place.text.now ≡ text) × (place.position ≡ position)
IsPlaced text at place = ⊥

module _ (form : Form) (path : List ℕ) where
  -- an error with a message of which this holds, at this place, and with this word for its cause, this name and these notes
  pub record IsError (cause : List ℕ) (Says : List ℕ → Type 0) (place : Option Excerpt) (name : Option (Bor (List ℕ))) (notes : List Diagnostic) (bytes : List ℕ) : Type 0 where
    pub message : List ℕ
    pub says : Says message
    pub is : bytes ≡ said_bytes form Error path place message cause name notes

  -- an error about the file as a whole
  abbrev pub IsAbout : List ℕ → (List ℕ → Type 0) → List ℕ → Type 0
  IsAbout cause Says bytes = IsError cause Says None None [] bytes

  -- an error at this position of this text, if there is one, with any name and any notes
  pub record IsAt (cause : List ℕ) (Says : List ℕ → Type 0) (text : List ℕ) (at : Option SourcePosition) (bytes : List ℕ) : Type 0 where
    pub place : Option Excerpt
    pub placed : IsPlaced text at place
    pub name : Option (Bor (List ℕ))
    pub notes : List Diagnostic
    pub error : IsError cause Says place name notes bytes

  -- that memory ran out
  abbrev pub IsMemory : List ℕ → Type 0
  IsMemory bytes = IsAbout (codes "memory") (λ message. message ≡ codes "out of memory") bytes

  -- that these bytes are not UTF-8: the place after the longest beginning that is, and the byte there
  pub record TellsBytes (all bytes : List ℕ) : Type 0 where
    pub valid : List ℕ
    pub position : SourcePosition
    pub byte : ℕ
    pub rejected : IsRejected all valid position byte
    pub error : IsAt (codes "not-utf8") (IsOr (codes "the text is not UTF-8: byte 0x" ++ digits 16 false byte) (codes "the text is not UTF-8")) valid (Some position) bytes

  -- the same, unless these bytes are UTF-8
  abbrev pub TellsNotUtf8 : List ℕ → List ℕ → Type 0
  TellsNotUtf8 all bytes = (IsUtf8 all → ⊥) → TellsBytes all bytes

  -- why an input was not read as a text
  abbrev pub TellsInput : InputFault → List ℕ → Type 0
  TellsInput input.Memory bytes = IsMemory bytes
  TellsInput (input.Unreadable error) bytes = IsAbout (codes "unreadable") (HasDetail (codes "cannot be read") None) bytes
  TellsInput (input.NotUtf8 all) bytes = TellsNotUtf8 all.items bytes

  -- that an operation does not fit its format, where its location says that it is
  abbrev pub TellsMisfit : List ℕ → Misfit → List ℕ → Type 0
  TellsMisfit text misfit bytes =
      IsAt (codes "misfit")
      (IsOr (codes "Operation " ++ (id_text misfit.id ++ (codes " does not fit its format: " ++ string_bytes misfit.reason))) (codes "an operation does not fit its format"))
      text misfit.position bytes

  -- that a root is rejected: the innermost cause, at the place of the fault
  abbrev pub TellsRejection : {A : Type 0} → List ℕ → ParseFault A → List ℕ → Type 0
  TellsRejection text f bytes =
      IsAt (cause_word (innermost f.cause)) (IsOr (cause_text (innermost f.cause)) (cause_word (innermost f.cause))) text (Some f.pos) bytes

  -- that a root is rejected, and then anything else
  pub record TellsRejected {A : Type 0} (text : List ℕ) (f : ParseFault A) (bytes : List ℕ) : Type 0 where
    pub first : List ℕ
    pub more : List ℕ
    pub is : bytes ≡ first ++ more
    pub tells : TellsRejection text f first

  -- why the roots of this text were not printed
  abbrev pub TellsText : {A : Type 0} → List ℕ → Fault A → List ℕ → Type 0
  TellsText text fault.Memory bytes = IsMemory bytes
  TellsText text (fault.Rejected f) bytes = TellsRejected text f bytes
  TellsText text (fault.Misfit misfit) bytes = TellsMisfit text misfit bytes
  TellsText text fault.TooDeep bytes =
      IsAbout (codes "too-deep") (λ message. message ≡ codes "regions are nested too deep: an indentation does not fit 16 bits") bytes

-- why standard output was not written, if it is not a pipe whose reader is gone
abbrev pub TellsOutput : Form → io_error.Error → List ℕ → Type 0
TellsOutput form error bytes = (error_kind error ≡ BrokenPipe → ⊥) → IsAbout form (codes "<stdout>") (codes "unwritable") (HasDetail (codes "cannot be written") None) bytes

module _ (form : Form) (path : List ℕ) where
  -- why an input of this text was not formatted
  abbrev pub Tells : {A : Type 0} → List ℕ → Failure A → List ℕ → Type 0
  Tells text (failure.Input fault) bytes = TellsInput form path fault bytes
  Tells text (failure.Dialects error) bytes =
      IsAbout form path (codes "dialects") (HasDetail (codes "the dialects of this program cannot be registered") (Some (cause_text error.err))) bytes
  Tells text (failure.Text fault) bytes = TellsText form path text fault bytes
  Tells text (failure.Unwritable error) bytes = TellsOutput form error bytes

-- nothing is said of a pipe whose reader is gone: the errors are the same
abbrev pub IsQuiet : {A : Type 0} → Failure A → Type 0 → Type 0
IsQuiet (failure.Unwritable error) Same = error_kind error ≡ BrokenPipe → Same
IsQuiet f Same = ⊤

-- nothing is said of a success, nor where nothing is said of the failure
abbrev pub IsSilent : {A : Type 0} → Result ⊤ (Failure A) → Type 0 → Type 0
IsSilent (Ok done) Same = Same
IsSilent (Err f) Same = IsQuiet f Same
