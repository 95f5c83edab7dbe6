-- For callers: what the program does, by its words, its input and its outputs.
use Rattle.std.specs.Prelude.{◌≡◌, ℕ, Option, Some, None, List, [], ◌∷◌, cond, codes, Result, Ok, Err, Bool, IsTrue, ⊤}
use Rattle.std.specs.Io.KnownBytes.{Appends, IsAtEnd}
use Rattle.std.specs.Str.{bytes_eq}
use Rattle.irtext_base.specs.declared.text.AttrText as attr_text
use Rattle.irtext_base.specs.declared.text.IrText as ir_text
use Rattle.irtext_demo.specs.Attributes.{attr_at, is_debug}
use Rattle.irtext_demo.specs.Attributes as demo
use Rattle.irtext_demo.specs.Types.{type_at, type_text}
use Rattle.irtext_demo.specs.declared.types.DemoType.{DemoType}
use Rattle.irtext_demo.specs.declared.attributes.DemoAttr.{DemoAttr}
use Rattle.irtext_demo.specs.contracts.attributes.DemoAttrPartialEq.TheImpl as test
use Rattle.irtext.specs.Faults.{status_of, text_of, IsInputFault}
use Rattle.irtext.specs.Formatting.{Formats, Unformatted}
use Rattle.irtext.specs.Lines.{IsInput, line_of, Says}
use Rattle.irtext.specs.declared.root.Form.{Form}
use Rattle.irtext.specs.declared.root.Form.TheVariants.{Whole, Elided}
use Rattle.irtext.specs.declared.fault.Fault.{Fault}
use Rattle.irtext.specs.declared.fault.Fault.TheVariants.{Usage, Rejected, Unprinted, Unwritable}

-- ---- the demo types and attributes

-- the texts of the types
abbrev pub types : ir_text.Ghosts DemoType DemoAttr
types = record { reading = type_at; written = type_text }

-- the texts of the attributes
abbrev pub owns : ir_text.Ghosts DemoAttr DemoAttr
owns = record { reading = attr_at; written = demo.attr_text }

-- which attributes the section prints, and which of these once
abbrev pub attributes : attr_text.Ghosts DemoAttr DemoAttr
attributes = record { outlined = is_debug; print_once = is_debug }

-- whether two attributes are equal
abbrev pub same : DemoAttr → DemoAttr → Bool
same = test.ghosts.eq

-- ---- the words
-- the form that a word asks for
abbrev pub form_named : List ℕ → Option Form
form_named word = cond (bytes_eq word (codes "fmt")) (Some Whole) (cond (bytes_eq word (codes "dbg")) (Some Elided) None)

-- the form that the words ask for: one word, `fmt` or `dbg`
abbrev pub form_of : List (List ℕ) → Option Form
form_of (word ∷ []) = form_named word
form_of _ = None

-- ---- the input, and what it is formatted as

module _ (before after : Option (List ℕ)) where
  -- all bytes of the input were read, and they are formatted as a text
  pub record Makes (form : Form) (printed : List ℕ) : Type 0 where
    pub bytes : List ℕ
    pub read : IsInput before bytes
    pub ended : IsAtEnd after
    pub formats : Formats types owns attributes same form bytes printed

  -- all bytes of the input were read, and they are not formatted for this reason
  pub record MakesNothing (form : Form) (fault : Fault) : Type 0 where
    pub bytes : List ℕ
    pub read : IsInput before bytes
    pub ended : IsAtEnd after
    pub because : Unformatted types owns attributes same form bytes fault

  -- why an input gives no text in this form
  abbrev pub Unmade : Form → Fault → Type 0
  Unmade form (Rejected said) = MakesNothing form (Rejected said)
  Unmade form (Unprinted said) = MakesNothing form (Unprinted said)
  Unmade form fault = IsInputFault before fault

  -- why nothing was written in this form: there is no text, or the output did not take it
  abbrev pub Unwritten : Form → Fault → Type 0
  Unwritten form Unwritable = (printed : List ℕ) × Makes form printed
  Unwritten form fault = Unmade form fault

module _ {R W : Type 0} (remaining : R → Option (List ℕ)) (contents : W → Option (List ℕ)) (words : List (List ℕ)) (input input' : R) (output output' : W) where
  -- the words ask for a form; the input gives a text in it, and that was written to the output as a line
  pub record Writes : Type 0 where
    pub form : Form
    pub asked : form_of words ≡ Some form
    pub printed : List ℕ
    pub makes : Makes (remaining input) (remaining input') form printed
    pub written : Appends (contents output) (contents output') (line_of printed)

  -- the words ask for no form; nothing was read, and nothing was written
  pub record AsksNothing : Type 0 where
    pub asked : form_of words ≡ None
    pub unread : input' ≡ input
    pub unwritten : output' ≡ output

  -- the words ask for a form, but for this reason nothing was written, unless the output failed
  pub record WritesNothing (fault : Fault) : Type 0 where
    pub form : Form
    pub asked : form_of words ≡ Some form
    pub because : Unwritten (remaining input) (remaining input') form fault
    pub unwritten : (fault ≡ Unwritable → ⊥) → output' ≡ output

  -- what the program did, if this is its answer
  abbrev pub Answers : Result ⊤ Fault → Type 0
  Answers (Ok done) = Writes
  Answers (Err Usage) = AsksNothing
  Answers (Err fault) = WritesNothing fault

  -- The program ran and ended with this status. Its answer is as stated. If the errors took it, the text of a fault was written to them, as a
  -- line; where there is no text the errors are unchanged.
  pub record Runs {E : Type 0} (said : E → Option (List ℕ)) (errors errors' : E) (took : Bool) (ended : ℕ) : Type 0 where
    pub answer : Result ⊤ Fault
    pub answers : Answers answer
    pub status : ended ≡ status_of answer
    pub told : IsTrue took → Says said errors errors' (text_of answer)
    pub silent : text_of answer ≡ None → errors' ≡ errors
