-- For callers: the text of a fault, and the program's exit status.
use Rattle.std.specs.Prelude.{ℕ, List, Option, Some, None, IfSome, Result, Ok, Err, codes, string_bytes, ⊤}
use Rattle.std.specs.Str.{IsUtf8}
use Rattle.irtext.specs.declared.fault.Fault.{Fault}
use Rattle.irtext.specs.declared.fault.Fault.TheVariants.{Usage, Unreadable, NotUtf8, Memory, Rejected, Unprinted, Unwritable}

-- the text that goes to the error output
abbrev pub fault_text : Fault → Option (List ℕ)
fault_text Usage = Some (codes "usage: irtext fmt|dbg")
fault_text Unreadable = Some (codes "cannot read standard input")
fault_text NotUtf8 = Some (codes "input is not UTF-8")
fault_text Memory = Some (codes "Out of memory")
fault_text (Rejected text) = Some (string_bytes text)
fault_text (Unprinted text) = Some (string_bytes text)
fault_text Unwritable = None

-- the exit status of a fault
abbrev pub fault_status : Fault → ℕ
fault_status Usage = 2
fault_status _ = 1

-- the exit status of an answer
abbrev pub status_of : Result ⊤ Fault → ℕ
status_of (Ok done) = 0
status_of (Err fault) = fault_status fault

-- the text of an answer for the error output: that of its fault
abbrev pub text_of : Result ⊤ Fault → Option (List ℕ)
text_of (Ok done) = None
text_of (Err fault) = fault_text fault

-- why an input with these bytes left, where they are known, gives no text
abbrev pub IsInputFault : Option (List ℕ) → Fault → Type 0
IsInputFault remaining Unreadable = ⊤
IsInputFault remaining NotUtf8 = IfSome remaining (λ bytes. IsUtf8 bytes → ⊥)
IsInputFault remaining Memory = ⊤
IsInputFault remaining _ = ⊥
