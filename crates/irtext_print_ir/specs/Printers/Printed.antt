-- For callers: what one printing of an operation, a block or a region has done, with everything nested in it, whatever was gathered
-- before. Its arguments are the context, the pointer, the state and the bytes before, and the state and the bytes after. An item is an
-- operation or a block that carries a mark.
use Rattle.std.specs.Prelude.{◌≡◌, ℕ, Bool, true, false, List, [], ◌++◌, length, Option, Some, None, IfSome, string_bytes}
use Rattle.std.specs.Str.{encode_utf8_all}
use Rattle.std.specs.declared.string.String.{String}
use Rattle.std.specs.declared.alloc.Global.{Global}
use Rattle.irtext_base.specs.Text.{Text}
use Rattle.irtext_base.specs.declared.text.AttrText as attr_text
use Rattle.irtext_base.specs.declared.text.IrText as ir_text
use Rattle.irtext_context.specs.Context.{ContextView}
use Rattle.irtext_context.specs.declared.base.item.Item.{Item}
use Rattle.irtext_graph.specs.Graph.{parent_of}
use Rattle.irtext_graph.specs.Store.{get}
use Rattle.irtext_graph.specs.declared.arena.Ptr.{Ptr}
use Rattle.irtext_graph.specs.declared.object.BasicBlock.{BasicBlock}
use Rattle.irtext_graph.specs.declared.object.Operation.{Operation}
use Rattle.irtext_graph.specs.declared.object.Region.{Region}
use Rattle.irtext_grammar.specs.Contexts.Nested.{seen_root}
use Rattle.irtext_grammar.specs.Graphs.Graph.{Graph}
use Rattle.irtext_grammar.specs.Spelling.Section.{text}
use Rattle.irtext_print.specs.Printers.Appended.{Writes, fresh}
use Rattle.irtext_print.specs.Printers.PrintedOperation.{levels}
use Rattle.irtext_print.specs.Printers.Printing.{with_gathered}
use Rattle.irtext_print.specs.Printers.Shown.{Shown}
use Rattle.irtext_print.specs.declared.printable.refusal.Refusal.TheVariants.{Misfit}
use Rattle.irtext_print.specs.declared.printable.state.RegionPrintDepthLimit.TheVariants.{Max}
use Rattle.irtext_print.specs.Items.{section_at}
use Rattle.irtext_print_ops.specs.Heads as heads

-- the block that contains an operation, if it is in one
abbrev pub block_round : {T A : Type 0} → ContextView T A → Ptr Operation → Option (Ptr BasicBlock)
block_round ctx p = parent_of (get ctx.graph.operations p)

-- the printing state with these items gathered in addition
abbrev pub gathers : {U : Type 0} → Shown U → List Item → Shown U
gathers s items = with_gathered s (s.gathered ++ items)

-- a new printing state that elides all regions
abbrev pub debugging : Shown (Unit {0})
debugging = fresh 2 0 (Max 0)

-- nested text was printed: this text was appended, this state is left, and every printed operation fits its format
pub record Printed {U : Type 0} (whole : Text) (left : Shown U) (misfits : Type 0) (old : List ℕ) (t : Shown U) (new : List ℕ) : Type 0 where
  pub text : new ≡ old ++ encode_utf8_all whole
  pub state : t ≡ left
  pub fits : misfits → ⊥

module _ {T A : Type 0} (types : ir_text.Ghosts T A) (owns : ir_text.Ghosts A A) (attributes : attr_text.Ghosts A A) (same : A → A → Bool) (ctx : ContextView T A) where
  -- ---- an operation

  -- its concrete text: without its own mark, and without a section
  abbrev pub concrete_text : {U : Type 0} → Ptr Operation → Shown U → Text
  concrete_text p s = heads.text_under types owns attributes same ctx p s false (length s.gathered)

  -- the state after that
  abbrev pub concrete_left : {U : Type 0} → Ptr Operation → Shown U → Shown U
  concrete_left p s = gathers s (heads.items_under types owns attributes same ctx p s false)

  -- all items that are gathered after an operation is printed with its mark
  abbrev pub root_items : {U : Type 0} → Ptr Operation → Shown U → List Item
  root_items p s = s.gathered ++ heads.items_under types owns attributes same ctx p s true

  -- its text with its mark; and if it is in no block, the section of all gathered items
  abbrev pub root_text : {U : Type 0} → Ptr Operation → Shown U → Text
  root_text p s = heads.text_under types owns attributes same ctx p s true (length s.gathered)
      ++ elim (block_round ctx p) [ Some b ↦ [] | None ↦ section_at types owns attributes same ctx (root_items p s) ]

  -- the state after that: nothing is gathered if the section was printed
  abbrev pub root_left : {U : Type 0} → Ptr Operation → Shown U → Shown U
  root_left p s = with_gathered s (elim (block_round ctx p) [ Some b ↦ root_items p s | None ↦ [] ])

  -- what follows the concrete text of an operation in no block, if these items were gathered: its mark, and the section
  abbrev pub end_text : Ptr Operation → List Item → Text
  end_text p gs = heads.own_mark_at types owns attributes same ctx p true (length gs) ++ section_at types owns attributes same ctx (gs ++ heads.own_items_at types owns attributes same ctx p true)

  -- if nothing was gathered before, the text of a root in no block is the text that the definitions of printing give for its graph
  abbrev pub IsDefined : Ptr Operation → Type 0
  IsDefined p = (s : Shown (Unit {0})) (g : Graph T A) → seen_root owns.written ctx p ≡ Some g → block_round ctx p ≡ None → s.gathered ≡ []
      → root_text p s ≡ text (heads.language_of types owns attributes same ctx) (heads.printing_of types owns attributes same ctx) g s.indent s.width (levels s.limit)

  -- the concrete text with all regions elided
  abbrev pub debug_text : Ptr Operation → Text
  debug_text p = concrete_text p debugging

  -- ---- what is appended, and the state that is left

  -- of a root
  abbrev pub root_gives : {U : Type 0} → Ptr Operation → Shown U → Option (List ℕ × Shown U)
  root_gives p s = Some (encode_utf8_all (root_text p s), root_left p s)

  -- of a concrete text
  abbrev pub concrete_gives : {U : Type 0} → Ptr Operation → Shown U → Option (List ℕ × Shown U)
  concrete_gives p s = Some (encode_utf8_all (concrete_text p s), concrete_left p s)

  -- the bytes of a concrete text with all regions elided
  abbrev pub elided_gives : Ptr Operation → Option (List ℕ)
  elided_gives p = Some (encode_utf8_all (debug_text p))

  -- of a block
  abbrev pub block_gives : {U : Type 0} → Ptr BasicBlock → Shown U → Option (List ℕ × Shown U)
  block_gives b s = Some (encode_utf8_all (heads.block_text_under types owns attributes same ctx b s (length s.gathered)), gathers s (heads.block_items_under types owns attributes same ctx b s))

  -- of a region
  abbrev pub region_gives : {U : Type 0} → Ptr Region → Shown U → Option (List ℕ × Shown U)
  region_gives r s = Some (encode_utf8_all (heads.region_text_under types owns attributes same ctx r s (length s.gathered)), gathers s (heads.region_items_under types owns attributes same ctx r s))

  -- ---- one printing

  module _ {U : Type 0} (p : Ptr Operation) (s : Shown U) (old : String Global) (t : Shown U) (new : String Global) where
    -- a concrete text was printed, and the mark after it if it is to be printed
    abbrev pub PrintsNested : Bool → Type 0
    PrintsNested marked = Printed (heads.text_under types owns attributes same ctx p s marked (length s.gathered)) (gathers s (heads.items_under types owns attributes same ctx p s marked))
        (heads.MisfitsUnder types owns attributes same ctx p s) (string_bytes old) t (string_bytes new)

    -- a concrete text was printed, without its mark
    abbrev pub PrintsConcrete : Type 0
    PrintsConcrete = PrintsNested false

    -- a root was printed, with its mark, numbered after what was gathered before
    abbrev pub PrintsRoot : Type 0
    PrintsRoot = Printed (root_text p s) (root_left p s) (heads.MisfitsUnder types owns attributes same ctx p s) (string_bytes old) t (string_bytes new)

    -- the text and the state that a root gives were appended and left
    abbrev pub WritesRoot : Type 0
    WritesRoot = Writes (root_gives p s) t (string_bytes old) (string_bytes new)

    -- if nothing was gathered before, the text of a root in no block is the text that the definitions of printing give for its graph
    abbrev pub DefinesRoot : Type 0
    DefinesRoot = (g : Graph T A) → seen_root owns.written ctx p ≡ Some g → block_round ctx p ≡ None → s.gathered ≡ []
        → string_bytes new ≡ string_bytes old ++ encode_utf8_all (text (heads.language_of types owns attributes same ctx) (heads.printing_of types owns attributes same ctx) g s.indent s.width (levels s.limit))

  module _ {U : Type 0} (b : Ptr BasicBlock) (s : Shown U) (old : String Global) (t : Shown U) (new : String Global) where
    -- a block was printed
    abbrev pub PrintsBlock : Type 0
    PrintsBlock = Printed (heads.block_text_under types owns attributes same ctx b s (length s.gathered)) (gathers s (heads.block_items_under types owns attributes same ctx b s))
        (heads.BlockFaultUnder types owns attributes same ctx b s Misfit) (string_bytes old) t (string_bytes new)

  module _ {U : Type 0} (r : Ptr Region) (s : Shown U) (old : String Global) (t : Shown U) (new : String Global) where
    -- a region was printed
    abbrev pub PrintsRegion : Type 0
    PrintsRegion = Printed (heads.region_text_under types owns attributes same ctx r s (length s.gathered)) (gathers s (heads.region_items_under types owns attributes same ctx r s))
        (heads.RegionFaultUnder types owns attributes same ctx r s Misfit) (string_bytes old) t (string_bytes new)

  module _ (p : Ptr Operation) (old new : String Global) where
    -- a concrete text was printed with its regions elided
    abbrev pub PrintsElided : Type 0
    PrintsElided = PrintsConcrete p debugging old (concrete_left p debugging) new

    -- the concrete text with elided regions was appended
    abbrev pub WritesElided : Type 0
    WritesElided = IfSome (elided_gives p) (λ text. string_bytes new ≡ string_bytes old ++ text)
