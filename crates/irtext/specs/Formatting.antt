-- For callers: what a text over the demo dialects is formatted as, or why it is not.
use Rattle.std.specs.Prelude.{◌≡◌, ℕ, List, [], Bool, string_bytes, ⊤}
use Rattle.std.specs.Str.{IsUtf8}
use Rattle.irtext_base.specs.Text.{Text}
use Rattle.irtext_base.specs.declared.result.Error.{Error}
use Rattle.irtext_base.specs.declared.text.AttrText as attr_text
use Rattle.irtext_base.specs.declared.text.IrText as ir_text
use Rattle.irtext_context.specs.Context.{ContextView}
use Rattle.irtext_graph.specs.Graph.{empty}
use Rattle.irtext_graph.specs.declared.arena.Ptr.{Ptr}
use Rattle.irtext_graph.specs.declared.object.Operation.{Operation}
use Rattle.irtext_parse_state.specs.FromText.{IsMemory}
use Rattle.irtext_print.specs.Errors.Located.{located_error}
use Rattle.irtext_print.specs.declared.printable.refusal.Refusal.{Refusal}
use Rattle.irtext_demo.specs.DemoDialects.{demo_operations, with_all}
use Rattle.irtext.specs.Roots.{ReadsRoot, IsRejection, PrintsIn, RefusesIn, not_printed}
use Rattle.irtext.specs.declared.root.Form.{Form}
use Rattle.irtext.specs.declared.fault.Fault.{Fault}
use Rattle.irtext.specs.declared.fault.Fault.TheVariants.{Memory, Rejected, Unprinted}

-- a context without objects, paths and dialects
abbrev pub no_parts : {T A : Type 0} → ContextView T A
no_parts = record { graph = empty; paths = []; dialects = [] }

-- the same with the demo dialects
abbrev pub demo_context : {T A : Type 0} → ContextView T A
demo_context = record { graph = empty; paths = []; dialects = with_all [] demo_operations }

module _ {A : Type 0} (written : A → Text) (paths : List (List ℕ)) where
  -- the fault for the error of a text: its text, if there was memory for it
  abbrev pub IsRejected : Error A → Fault → Type 0
  IsRejected error Memory = ⊤
  IsRejected error (Rejected said) = (IsMemory error → ⊥) × (string_bytes said ≡ located_error written paths error)
  IsRejected error _ = ⊥

  -- the fault for a root that was not printed: the text of an error that says so, if there was memory for it
  abbrev pub IsUnprinted : Fault → Type 0
  IsUnprinted Memory = ⊤
  IsUnprinted (Unprinted said) = string_bytes said ≡ located_error written paths not_printed
  IsUnprinted _ = ⊥

module _ {T A : Type 0} (types : ir_text.Ghosts T A) (owns : ir_text.Ghosts A A) (attributes : attr_text.Ghosts A A) (same : A → A → Bool) where
  -- Bytes are formatted as a text: they are UTF-8, they begin with the text of a root over the demo dialects, and what is printed of it
  -- in this form is the text.
  pub record Formats (form : Form) (bytes printed : List ℕ) : Type 0 where
    pub utf8 : IsUtf8 bytes
    pub root : Ptr Operation
    pub after : ContextView T A
    pub reads : ReadsRoot types owns bytes demo_context root after
    pub prints : PrintsIn types owns attributes same after root form printed

  -- bytes that are UTF-8 do not begin with the text of a root, and this is the text of the error that says why
  pub record Rejects (bytes said : List ℕ) : Type 0 where
    pub utf8 : IsUtf8 bytes
    pub error : Error A
    pub rejected : IsRejection types owns bytes demo_context error
    pub says : said ≡ located_error owns.written [] error

  -- a root was parsed, but not printed, and this is the text of the error that says so
  pub record Unprints (form : Form) (bytes said : List ℕ) : Type 0 where
    pub utf8 : IsUtf8 bytes
    pub root : Ptr Operation
    pub after : ContextView T A
    pub reads : ReadsRoot types owns bytes demo_context root after
    pub refusal : Refusal
    pub because : RefusesIn types owns attributes same after root form refusal
    pub says : said ≡ located_error owns.written [] not_printed

  -- why bytes are not formatted; memory may run out at any time
  abbrev pub Unformatted : Form → List ℕ → Fault → Type 0
  Unformatted form bytes Memory = ⊤
  Unformatted form bytes (Rejected said) = Rejects bytes (string_bytes said)
  Unformatted form bytes (Unprinted said) = Unprints form bytes (string_bytes said)
  Unformatted form bytes _ = ⊥
