-- For callers: a text in memory that is parsed as a root, or rejected; and the text of a root.
use Rattle.std.specs.Prelude.{◌≡◌, ◌⊎◌, ℕ, Bool, true, List, ◌++◌, Some, None, IsSome, ⊤}
use Rattle.std.specs.Str.{encode_utf8_all}
use Rattle.irtext_base.specs.Text.{Text}
use Rattle.irtext_base.specs.declared.location.Location.{Unknown}
use Rattle.irtext_base.specs.declared.parsable.fault.ParseFault.{ParseFault}
use Rattle.irtext_base.specs.declared.result.Cause.{Fmt}
use Rattle.irtext_base.specs.declared.result.Error.{Error}
use Rattle.irtext_base.specs.declared.result.ErrorKind.TheVariants.{InvalidArgument}
use Rattle.irtext_base.specs.declared.text.AttrText as attr_text
use Rattle.irtext_base.specs.declared.text.IrText as ir_text
use Rattle.irtext_context.specs.Context.{ContextView, operation}
use Rattle.irtext_graph.specs.declared.arena.Ptr.{Ptr}
use Rattle.irtext_graph.specs.declared.object.Operation.{Operation}
use Rattle.irtext_grammar.specs.Contexts.Nested.{seen_root}
use Rattle.irtext_grammar.specs.Graphs.Graph.{Graph}
use Rattle.irtext_grammar.specs.Promises.Root.{UnlessMemory}
use Rattle.irtext_grammar.specs.Spelling.Section.{text}
use Rattle.irtext_names.specs.Promises.{BuildsRoot, RefusesRoot}
use Rattle.irtext_parse_root.specs.AnyState.{MissesAny}
use Rattle.irtext_parse_root.specs.Parses.{texts, attr}
use Rattle.irtext_parse_state.specs.FromText.{at_beginning, Begins, IsErrorOf, IsMemory}
use Rattle.irtext_parse_state.specs.declared.parsable.state.StateStream.{StateStream}
use Rattle.irtext_print.specs.Printers.Appended.{fresh}
use Rattle.irtext_print.specs.Printers.PrintedOperation.{levels}
use Rattle.irtext_print.specs.Printers.Shown.{Shown}
use Rattle.irtext_print.specs.declared.printable.refusal.Refusal.{Refusal}
use Rattle.irtext_print.specs.declared.printable.state.RegionPrintDepthLimit.TheVariants.{Unlimited, Max}
use Rattle.irtext_print_ir.specs.Printers.Printed.{block_round, debug_text}
use Rattle.irtext_print_ops.specs.Heads as heads
use Rattle.irtext.specs.declared.root.Form.{Form}
use Rattle.irtext.specs.declared.root.Form.TheVariants.{Whole, Elided}

-- the layout of a form: two spaces per level from indentation 0, and all regions or none
abbrev pub layout_of : Form → Shown ⊤
layout_of Whole = fresh 2 0 Unlimited
layout_of Elided = fresh 2 0 (Max 0)

module _ {T A : Type 0} (types : ir_text.Ghosts T A) (owns : ir_text.Ghosts A A) where
  module _ (bytes : List ℕ) (ctx : ContextView T A) where
    -- A root was parsed from the beginning of this text, over this context: it is an operation of the context that is left. What follows
    -- the root was not looked at.
    pub record ReadsRoot (op : Ptr Operation) (after : ContextView T A) : Type 0 where
      pub old : StateStream T A ⊤
      pub new : StateStream T A ⊤
      pub begins : Begins (at_beginning bytes) ctx old
      pub builds : BuildsRoot (texts types) (texts owns) (attr owns) op old new
      pub ends : after ≡ new.state.ctx.now

    -- The text is rejected, over this context, with the first fault in the order in which it is parsed. Whatever root it begins with does
    -- not resolve, and the fault is the first failure of that. So no root is parsed from it.
    pub record RejectsText (fault : ParseFault A) : Type 0 where
      pub old : StateStream T A ⊤
      pub begins : Begins (at_beginning bytes) ctx old
      pub missed : MissesAny types.reading (attr owns) true old fault
      pub refuses : RefusesRoot (texts types) (texts owns) types.reading (attr owns) old.state.ctx.now.dialects old.stream fault
      pub never : (op : Ptr Operation) (after : ContextView T A) → ReadsRoot op after → ⊥

    -- an error is that of a text that is rejected, or of one for which the parser had no memory
    pub record IsRejection (error : Error A) : Type 0 where
      pub fault : ParseFault A
      pub because : UnlessMemory RejectsText fault
      pub is_error : IsErrorOf fault error

    -- why no root was parsed, as an error: there was no memory to begin with the text, or it is rejected
    abbrev pub IsNotRead : Error A → Type 0
    IsNotRead error = IsMemory error ⊎ IsRejection error

-- The operation is live, in no block, and this is what printing sees of it.
pub record IsSeen {T A : Type 0} (written : A → Text) (ctx : ContextView T A) (op : Ptr Operation) : Type 0 where
  pub live : IsSome (operation ctx op)
  pub nowhere : block_round ctx op ≡ None
  pub graph : Graph T A
  pub sees : seen_root written ctx op ≡ Some graph

-- the error of a root that is not printed
abbrev pub not_printed : {A : Type 0} → Error A
not_printed = record { kind = InvalidArgument; err = Fmt; loc = Unknown }

module _ {T A : Type 0} (types : ir_text.Ghosts T A) (owns : ir_text.Ghosts A A) (attributes : attr_text.Ghosts A A) (same : A → A → Bool) (ctx : ContextView T A) (op : Ptr Operation) where
  -- the bytes are the text that the definitions of printing give for the root's graph, with its mark and the section
  pub record IsWholeText (bytes : List ℕ) : Type 0 where
    pub graph : Graph T A
    pub sees : seen_root owns.written ctx op ≡ Some graph
    pub is_text : bytes ≡ encode_utf8_all (text (heads.language_of types owns attributes same ctx) (heads.printing_of types owns attributes same ctx) graph 0 2 (levels Unlimited))

  -- the bytes are the root's text in this form
  abbrev pub IsTextIn : Form → List ℕ → Type 0
  IsTextIn Whole bytes = IsWholeText bytes
  IsTextIn Elided bytes = bytes ≡ encode_utf8_all (debug_text types owns attributes same ctx op)

  -- the root was printed in this form as these bytes: they are its text, and each operation that it shows fits its format
  pub record PrintsIn (form : Form) (bytes : List ℕ) : Type 0 where
    pub is_text : IsTextIn form bytes
    pub fits : heads.MisfitsUnder types owns attributes same ctx op (layout_of form) → ⊥

  -- the root was printed in this form, and these bytes were appended for it
  pub record AppendsIn (form : Form) (old new : List ℕ) : Type 0 where
    pub bytes : List ℕ
    pub appends : new ≡ old ++ bytes
    pub prints : PrintsIn form bytes

  -- why the root was not printed in this form
  abbrev pub RefusesIn : Form → Refusal → Type 0
  RefusesIn form = heads.RefusesUnder types owns attributes same ctx op (layout_of form)
