-- For callers: the promises about a root that is printed and parsed again.
use Rattle.std.specs.Prelude.{◌≡◌, ℕ, Bool, List, Some, None}
use Rattle.std.specs.Str.{encode_utf8_all}
use Rattle.irtext_base.specs.Answers.{Outcome}
use Rattle.irtext_base.specs.Faults.{fault_of}
use Rattle.irtext_base.specs.Faults as fault
use Rattle.irtext_base.specs.Locations.{AttrView}
use Rattle.irtext_base.specs.Own.{Texts, texts_of}
use Rattle.irtext_base.specs.Text.{Text}
use Rattle.irtext_base.specs.declared.parsable.fault.ParseFault.{ParseFault}
use Rattle.irtext_base.specs.declared.text.AttrText as attr_text
use Rattle.irtext_base.specs.declared.text.IrText as ir_text
use Rattle.irtext_alike.specs.First.{IsFirstUnlike}
use Rattle.irtext_context.specs.Context.{ContextView}
use Rattle.irtext_graph.specs.declared.arena.Ptr.{Ptr}
use Rattle.irtext_graph.specs.declared.object.Operation.{Operation}
use Rattle.irtext_grammar.specs.Contexts.Formats.{isolated}
use Rattle.irtext_grammar.specs.Contexts.Nested.{printing_over, seen_root}
use Rattle.irtext_grammar.specs.Grammar.Marked.{AllShown}
use Rattle.irtext_grammar.specs.Graphs.Graph.{Graph, Printing, written}
use Rattle.irtext_grammar.specs.Spelling.Section.{text}
use Rattle.irtext_grammar.specs.Promises.Root.{UnlessMemory}
use Rattle.irtext_print.specs.Printers.PrintedOperation.{levels}
use Rattle.irtext_print.specs.Printers.Shown.{Shown}
use Rattle.irtext_print_ir.specs.Printers.Printed.{block_round}
use Rattle.irtext_print_ops.specs.Heads as heads
use Rattle.irtext_names.specs.Held.{held_root}
use Rattle.irtext_names.specs.OnlyNew.{OnlyNew}
use Rattle.irtext_names.specs.Promises.{BuildsRoot, RefusesRoot}
use Rattle.irtext_tokens.specs.AttrTexts.{attr_at}
use Rattle.irtext_grammar.specs.Back.{HeldBack, HeldWhole}
use Rattle.irtext_parse_state.specs.FromText.{at_beginning, Begins}
use Rattle.irtext_parse_state.specs.declared.parsable.state.StateStream.{StateStream}
use Rattle.pliron_text.specs.declared.calls.NotAgain.{NotAgain}
use Rattle.pliron_text.specs.declared.calls.NotAgain.TheVariants.{Refused, Unlike, Lost}
use Rattle.pliron_text.specs.declared.calls.NotBack.{NotBack}
use Rattle.pliron_text.specs.declared.calls.NotBack.TheVariants.{Unprinted, Unread}

module _ {T A : Type 0} (types : ir_text.Ghosts T A) (owns : ir_text.Ghosts A A) (attributes : attr_text.Ghosts A A) (same : A → A → Bool) (ctx : ContextView T A) (p : Ptr Operation) where
  -- The bytes are the text of a root in this layout, as the definitions of printing give it for the root's graph; and every printed
  -- operation fits its format.
  pub record IsPrinted (layout : Shown (Unit {0})) (bytes : List ℕ) : Type 0 where
    pub is_text : (g : Graph T A) → seen_root owns.written ctx p ≡ Some g → block_round ctx p ≡ None
        → bytes ≡ encode_utf8_all (text (heads.language_of types owns attributes same ctx) (heads.printing_of types owns attributes same ctx) g layout.indent layout.width (levels layout.limit))
    pub fits : heads.MisfitsUnder types owns attributes same ctx p layout → ⊥

  -- why a root's text is not parsed back: the root is not printed in this layout, or parsing ran out of memory
  abbrev pub IsExcused : Shown (Unit {0}) → NotBack A → Type 0
  IsExcused layout (Unprinted refusal) = heads.RefusesUnder types owns attributes same ctx p layout refusal
  IsExcused layout (Unread refused) = fault_of refused.cause ≡ fault.Memory

module _ {T A : Type 0} (types : Texts T) (owns : Texts A) (attr : Text → Outcome (AttrView A)) (bytes : List ℕ) (ctx : ContextView T A) where
  -- a root was parsed from the beginning of the text over this context, and left the context as `after`
  pub record ReadsText (op : Ptr Operation) (after : ContextView T A) : Type 0 where
    pub old : StateStream T A (Unit {0})
    pub new : StateStream T A (Unit {0})
    pub begins : Begins (at_beginning bytes) ctx old
    pub ends : new.state.ctx.now ≡ after
    pub builds : BuildsRoot types owns attr op old new

  -- no root was parsed from the beginning of the text over this context, since the text is not that of a root
  pub record RefusesText (types_at : Text → Outcome T) (refused : ParseFault A) : Type 0 where
    pub old : StateStream T A (Unit {0})
    pub begins : Begins (at_beginning bytes) ctx old
    pub refuses : RefusesRoot types owns types_at attr old.state.ctx.now.dialects old.stream refused

module _ {T A : Type 0} (types : ir_text.Ghosts T A) (owns : ir_text.Ghosts A A) (attributes : attr_text.Ghosts A A) (same : A → A → Bool) (ctx : ContextView T A) (p : Ptr Operation) (layout : Shown (Unit {0})) where
  -- what printing needs to know of the context and of the caller's attributes
  abbrev pub printing : Printing T A
  printing = printing_over ctx attributes.outlined attributes.print_once same

  -- the layout leaves no region of the root out
  abbrev pub ShowsAll : Graph T A → Type 0
  ShowsAll g = AllShown (written printing (levels layout.limit) g)

  module _ (other : ContextView T A) (q : Ptr Operation) (left : ContextView T A) where
    -- The root was printed in this layout, and a root was parsed from the beginning of that text over another context.
    pub record ReadsPrinted : Type 0 where
      pub bytes : List ℕ
      pub printed : IsPrinted types owns attributes same ctx p layout bytes
      pub reads : ReadsText (texts_of types.reading types.written) (texts_of owns.reading owns.written) (attr_at owns.reading) bytes other q left

    -- What was parsed from the printed text is equal to the root up to fillings, uses inside included, and only white space was left of
    -- that text.
    abbrev pub ComesBack : Graph T A → Type 0
    ComesBack g = (r : ReadsPrinted) × HeldBack (texts_of types.reading types.written) (texts_of owns.reading owns.written) (attr_at owns.reading) printing (isolated ctx.dialects) g r.reads.new.stream.rest (held_root left q)

    -- the same if nothing was filled in but positions
    abbrev pub ComesBackWhole : Graph T A → Type 0
    ComesBackWhole g = (r : ReadsPrinted) × HeldWhole (texts_of types.reading types.written) (texts_of owns.reading owns.written) (attr_at owns.reading) printing (isolated ctx.dialects) g r.reads.new.stream.rest (held_root left q)

module _ {T A : Type 0} (types : ir_text.Ghosts T A) (owns : ir_text.Ghosts A A) (attributes : attr_text.Ghosts A A) (same : A → A → Bool) (bytes : List ℕ) (ctx : ContextView T A) where
  -- A text was parsed as a root, and the printed text of that root as another one, both from their beginnings. If the layout leaves no
  -- region out, the second is equal to the first, with nothing filled in but positions. Nothing else in the second context is new.
  pub record IsAgain (layout : Shown (Unit {0})) (p : Ptr Operation) (after : ContextView T A) (other : ContextView T A) (q : Ptr Operation) (left : ContextView T A) : Type 0 where
    pub reads : ReadsText (texts_of types.reading types.written) (texts_of owns.reading owns.written) (attr_at owns.reading) bytes ctx p after
    pub graph : Graph T A
    pub sees : seen_root owns.written after p ≡ Some graph
    pub again : ReadsPrinted types owns attributes same after p layout other q left
    pub whole : ShowsAll types owns attributes same after p layout graph → ComesBackWhole types owns attributes same after p layout other q left graph
    pub only : OnlyNew q other left

  -- Why a text's root is not parsed again: the text was rejected, the other context knows an operation of its root otherwise, the root was
  -- not printed in this layout, or memory ran out. If the layout leaves a region out, the printed text may also be rejected.
  abbrev pub IsExcusedAgain : ContextView T A → ContextView T A → Shown (Unit {0}) → NotAgain A → Type 0
  IsExcusedAgain after other layout (Unlike unlike) = (p : Ptr Operation) × ReadsText (texts_of types.reading types.written) (texts_of owns.reading owns.written) (attr_at owns.reading) bytes ctx p after × IsFirstUnlike after other.dialects p unlike
  IsExcusedAgain after other layout (Refused f) = UnlessMemory (RefusesText (texts_of types.reading types.written) (texts_of owns.reading owns.written) (attr_at owns.reading) bytes ctx types.reading) f
  IsExcusedAgain after other layout (Lost lost) =
      (p : Ptr Operation) × ReadsText (texts_of types.reading types.written) (texts_of owns.reading owns.written) (attr_at owns.reading) bytes ctx p after
      × ((g : Graph T A) → seen_root owns.written after p ≡ Some g → ShowsAll types owns attributes same after p layout g → IsExcused types owns attributes same after p layout lost)
