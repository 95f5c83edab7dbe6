-- For callers: what the program does with standard input where it is to be formatted.
use Rattle.std.specs.Prelude.{◌≡◌, ◌&&◌, ℕ, Bool, true, false, List, [], ◌∷◌, Option, Result, OnOk, IfErr, codes, ⊤}
use Rattle.std.specs.Io.KnownBytes.{Appends}
use Rattle.std.specs.Str.{bytes_eq}
use Rattle.irtext_base.specs.Text.{Text}
use Rattle.irtext_base.specs.declared.text.AttrText as attr_text
use Rattle.irtext_base.specs.declared.text.IrText as ir_text
use Rattle.irtext_context.specs.Dialects.{Table}
use Rattle.irtext_formatter.specs.Formatted.{Gives, FailsInput, IsRead, Unwritten}
use Rattle.irtext_formatter.specs.declared.fault.Failure.{Failure}
use Rattle.irtext_formatter.specs.declared.layout.Layout.{Layout}
use Rattle.irtext_tool.specs.Statuses.{answer_status}
use Rattle.irtext_tool.specs.Told.{Tells, Writes, IsSilent}
use Rattle.irtext_tool.specs.declared.about.Form.{Form}

-- whether the words ask for standard input to be formatted: `fmt`, alone or with `-`
abbrev pub asks_for_standard : List (List ℕ) → Bool
asks_for_standard (word ∷ []) = bytes_eq word (codes "fmt")
asks_for_standard (word ∷ file ∷ []) = bytes_eq word (codes "fmt") && bytes_eq file (codes "-")
asks_for_standard _ = false

-- the layout with locations
abbrev pub whole : Layout
whole = record { locations = true }

module _ {T A : Type 0} (types : ir_text.Ghosts T A) (owns : ir_text.Ghosts A A) (attributes : attr_text.Ghosts A A) (same : A → A → Bool) (dialects : List (Text × Table)) where
  -- What was done with an input that had and has these bytes left, and an output that held and holds these, which may be Unchanged: the
  -- status is that of an answer. If it is 0, the bytes of the input are those of roots with these dialects, and what is printed of them was
  -- appended to the output. If not, the answer says why, and nothing was written unless writing failed.
  --
  -- The errors held and hold these bytes, and may be Silent. If they took what was written to them, it tells in this form why the answer is
  -- no success. On a success nothing is written to them.
  pub record Standard (before after contents contents' : Option (List ℕ)) (Unchanged : Type 0) (form : Form) (said said' : Option (List ℕ)) (Silent : Type 0) (took : Bool) (status : ℕ) : Type 0 where
    pub answer : Result ⊤ (Failure A)
    pub bytes : List ℕ
    pub is_status : status ≡ answer_status answer
    pub read : IsRead before [] bytes answer
    pub gives : OnOk answer ((out : List ℕ) × Gives types owns attributes same whole dialects bytes out × Appends contents contents' out)
    pub fails : IfErr answer (FailsInput types owns attributes same whole dialects before after bytes)
    pub unwritten : Unwritten answer Unchanged
    pub told : took ≡ true → IfErr answer (λ failure. Writes said said' (Tells form (codes "<stdin>") bytes failure))
    pub silent : IsSilent answer Silent
