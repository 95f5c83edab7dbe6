-- For callers: what is written of an input, or why nothing is.
use Rattle.std.specs.Prelude.{◌≡◌, ℕ, Bool, List, [], Option, IfSome, Result, Ok, Err}
use Rattle.std.specs.Str.{IsUtf8}
use Rattle.irtext_base.specs.Text.{Text}
use Rattle.irtext_base.specs.declared.text.AttrText as attr_text
use Rattle.irtext_base.specs.declared.text.IrText as ir_text
use Rattle.irtext_context.specs.Context.{ContextView}
use Rattle.irtext_context.specs.Dialects.{Table}
use Rattle.irtext_graph.specs.Graph.{empty}
use Rattle.irtext_formatter.specs.Input.{IsInputFault}
use Rattle.irtext_formatter.specs.Rows.{Formats, FailsWith}
use Rattle.irtext_formatter.specs.declared.fault.Failure.{Failure}
use Rattle.irtext_formatter.specs.declared.fault.Failure.TheVariants as failure
use Rattle.irtext_formatter.specs.declared.layout.Layout.{Layout}

-- a context without objects, with these dialects
abbrev pub new_context : {T A : Type 0} → List (Text × Table) → ContextView T A
new_context dialects = record { graph = empty; paths = []; dialects = dialects }

module _ {T A : Type 0} (types : ir_text.Ghosts T A) (owns : ir_text.Ghosts A A) (attributes : attr_text.Ghosts A A) (same : A → A → Bool) (layout : Layout) (dialects : List (Text × Table)) (bytes : List ℕ) where
  -- The bytes are UTF-8, and their text is a row of roots with these dialects, up to white space. This is what is printed of them.
  pub record Gives (out : List ℕ) : Type 0 where
    pub utf8 : IsUtf8 bytes
    pub after : ContextView T A
    pub formats : Formats types owns attributes same layout bytes (new_context dialects) out after

  -- Why nothing is printed of the bytes: the dialects are not registered, or the text's roots are not printed.
  abbrev pub FailsText : Failure A → Type 0
  FailsText (failure.Dialects error) = Unit {0}
  FailsText (failure.Text fault) = FailsWith types owns attributes same layout bytes (new_context dialects) fault
  FailsText _ = ⊥

module _ {T A : Type 0} (types : ir_text.Ghosts T A) (owns : ir_text.Ghosts A A) (attributes : attr_text.Ghosts A A) (same : A → A → Bool) (layout : Layout) (dialects : List (Text × Table)) where
  -- Why an input that had these bytes left, and has these now, has no text that can be printed: it is no text, or these bytes of it give
  -- a failure.
  abbrev pub FailsRead : Option (List ℕ) → Option (List ℕ) → List ℕ → Failure A → Type 0
  FailsRead before after bytes (failure.Input fault) = IsInputFault before after fault
  FailsRead before after bytes f = FailsText types owns attributes same layout dialects bytes f

  -- the same, or writing what is printed of these bytes failed
  abbrev pub FailsInput : Option (List ℕ) → Option (List ℕ) → List ℕ → Failure A → Type 0
  FailsInput before after bytes (failure.Unwritable error) = (out : List ℕ) × Gives types owns attributes same layout dialects bytes out
  FailsInput before after bytes f = FailsRead before after bytes f

-- the text is what the reader had left, if that is a text; otherwise it is as before
abbrev pub IsRead : {A : Type 0} → Option (List ℕ) → List ℕ → List ℕ → Result (Unit {0}) (Failure A) → Type 0
IsRead before old new (Err (failure.Input fault)) = new ≡ old
IsRead before old new _ = IfSome before (λ xs. new ≡ xs)

-- the output is as it was, unless everything succeeded, or writing failed
abbrev pub Unwritten : {A : Type 0} → Result (Unit {0}) (Failure A) → Type 0 → Type 0
Unwritten (Ok done) Same = Unit {0}
Unwritten (Err (failure.Unwritable error)) Same = Unit {0}
Unwritten (Err f) Same = Same
