-- For callers: what is printed of an operation itself and of a block's head, by the formats of a context and the texts of the caller's
-- types and attributes; and the text of everything nested in an operation, or why printing fails. An item is an operation or a block
-- that carries a mark.
use Rattle.std.specs.Prelude.{◌+◌, ◌⊎◌, ℕ, Bool, cond, List, [], ◌++◌, length, map, Option, Some, None, codes, ⊤}
use Rattle.std.specs.Borrow.{Bor}
use Rattle.irtext_base.specs.Format.{Directive}
use Rattle.irtext_base.specs.Own.{Language}
use Rattle.irtext_base.specs.Text.{Text}
use Rattle.irtext_base.specs.declared.format.Directive as code
use Rattle.irtext_base.specs.declared.text.AttrText as attr_text
use Rattle.irtext_base.specs.declared.text.IrText as ir_text
use Rattle.irtext_context.specs.Context.{ContextView}
use Rattle.irtext_graph.specs.declared.arena.Ptr.{Ptr}
use Rattle.irtext_graph.specs.declared.object.BasicBlock.{BasicBlock}
use Rattle.irtext_graph.specs.declared.object.Operation.{Operation}
use Rattle.irtext_graph.specs.declared.object.Region.{Region}
use Rattle.irtext_graph.specs.Parts.{regions}
use Rattle.irtext_grammar.specs.Contexts.Formats.{isolated}
use Rattle.irtext_grammar.specs.Contexts.Nested.{printing_over, seen_head, seen_regions, seen_blocks, seen_operations}
use Rattle.irtext_grammar.specs.Grammar.Forest.{Regions, no_regions, region, Blocks, Operations}
use Rattle.irtext_grammar.specs.Grammar.Tree.{shown}
use Rattle.irtext_grammar.specs.Graphs.Closed.{FitsFormat}
use Rattle.irtext_grammar.specs.Graphs.Graph.{GraphOp, GraphBlock, Printing, is_marked, op_outlined, block_outlined, own_marks, mark_at, is_elided, inside, tree_op, tree_head, tree_regions, tree_blocks, tree_operations, marks_in_regions}
use Rattle.irtext_grammar.specs.Spelling.Spell.{concrete, mark_if, region_texts, region_text, block_texts, block_text, operation_texts}
use Rattle.irtext_print.specs.Printers.PrintedOperation.{language_in, levels}
use Rattle.irtext_print.specs.Printers.Shown.{Shown}
use Rattle.irtext_print.specs.Refusals.{IsOther}
use Rattle.irtext_print.specs.declared.printable.refusal.Refusal.{Refusal}
use Rattle.irtext_print.specs.declared.printable.refusal.Refusal.TheVariants.{Memory, Depth, Misfit}
use Rattle.irtext_print.specs.declared.printable.state.RegionPrintDepthLimit.{RegionPrintDepthLimit}
use Rattle.irtext_print_ops.specs.Opened.{operation_front, block_head, mark_text, open_rest}
use Rattle.irtext_print_ops.specs.Faults.{IndentFault, OperationFault, RegionsFault, OperationsFault, OpenFault, AnyFault}
use Rattle.irtext_print_ops.specs.Walk.{is_canonical, directives_in, AreDirectives, part_text, pieces_text, part_at, parts_left, seen_at, regions_left, blocks_left, operations_left, marked_own, open_of, FrameFits, AllFit, marked_operation, marked_block, items_in_regions, items_in_blocks, items_in_operations, items_left, Leads, Reaches, Steps, StopsBefore}
use Rattle.irtext_print_ops.specs.declared.frame.Frame.{Frame}
use Rattle.irtext_context.specs.declared.base.item.Item.{Item}
use Rattle.irtext_print_ops.specs.declared.frame.OperationFrame.{OperationFrame}
use Rattle.irtext_print_ops.specs.declared.step.Stop.{Stop}
use Rattle.std.specs.declared.string.String.{String}
use Rattle.std.specs.declared.alloc.Global.{Global}
use Rattle.std.specs.String.{string_bytes}

-- what printing sees of a block that is not live
abbrev pub no_block : {T A : Type 0} → GraphBlock T A
no_block = record { place = (0, 0); arguments = []; attributes = []; location = None }

-- a block as printing sees it, if it is live
abbrev pub or_no_block : {T A : Type 0} → Option (GraphBlock T A) → GraphBlock T A
or_no_block None = no_block
or_no_block (Some h) = h

module _ {T A : Type 0} (types : ir_text.Ghosts T A) (owns : ir_text.Ghosts A A) (attributes : attr_text.Ghosts A A) (same : A → A → Bool) (ctx : ContextView T A) where
  -- what the texts of the caller's types and attributes mean, and the formats of the context
  abbrev pub language_of : Language ⊤ T A
  language_of = language_in types owns ctx

  -- what printing needs to know of the context and of the caller's attributes
  abbrev pub printing_of : Printing T A
  printing_of = printing_over ctx attributes.outlined attributes.print_once same

  -- an operation as printing sees it
  abbrev pub operation_at : Ptr Operation → GraphOp T A
  operation_at p = seen_at printing_of language_of ctx p

  -- a block as printing sees it
  abbrev pub block_at : Ptr BasicBlock → GraphBlock T A
  block_at b = or_no_block (seen_head language_of.owns.written ctx b)

  -- an operation fits its format
  abbrev pub FitsAt : Ptr Operation → Type 0
  FitsAt p = FitsFormat printing_of (isolated ctx.dialects) (printing_of.format_of (operation_at p).id) (operation_at p) (length (regions ctx.graph p))

  -- an operation is printed in the canonical form
  abbrev pub is_canonical_at : Ptr Operation → Bool
  is_canonical_at p = is_canonical (printing_of.format_of (operation_at p).id)

  -- the directives of an operation's format; none if it has no custom format
  abbrev pub directives_at : Ptr Operation → List Directive
  directives_at p = directives_in (printing_of.format_of (operation_at p).id)

  -- these are the directives that were found for an operation's format, if it has directives
  abbrev pub AreDirectivesAt : Ptr Operation → Option (Bor (List code.Directive)) → Type 0
  AreDirectivesAt p found = AreDirectives printing_of (operation_at p) found

  -- an operation's results and id, and what comes before its parts
  abbrev pub operation_front_at : Ptr Operation → Text
  operation_front_at p = operation_front language_of (tree_op printing_of 0 (operation_at p))

  -- what a directive of an operation's format prints, if it prints no region
  abbrev pub piece_at : Ptr Operation → Directive → Text
  piece_at p d = part_text language_of (part_at printing_of (operation_at p) d)

  -- a block's label, its arguments and its dictionary
  abbrev pub block_head_at : Ptr BasicBlock → Text
  block_head_at b = block_head language_of (tree_head printing_of 0 (block_at b))

  -- an operation has a mark
  abbrev pub is_operation_marked : Ptr Operation → Bool
  is_operation_marked p = is_marked printing_of (operation_at p).location (op_outlined printing_of (operation_at p))

  -- a block has a mark
  abbrev pub is_block_marked : Ptr BasicBlock → Bool
  is_block_marked b = is_marked printing_of (block_at b).location (block_outlined printing_of (block_at b))

  -- what the directives of an operation's format print from this one on, before the first that prints a region
  abbrev pub pieces_at : Ptr Operation → ℕ → Text
  pieces_at p k = pieces_text language_of (parts_left printing_of (operation_at p) k)

  -- where these pieces end
  abbrev pub StopsAt : Ptr Operation → ℕ → Stop → Type 0
  StopsAt p k stop = StopsBefore printing_of (operation_at p) k stop

  -- the frame of an operation of which nothing is printed but what comes before its parts
  abbrev pub begun_at : Ptr Operation → Option (Bor (List code.Directive)) → Bool → ℕ → RegionPrintDepthLimit → OperationFrame
  begun_at p found marked indent limit = record { op = p; directives = found; directive = 0; region = 0; repeats = is_canonical_at p; marked = marked; indent = indent; limit = limit }

  -- an operation's mark, if it has one and it is to be printed, with n marks before it
  abbrev pub own_mark_at : Ptr Operation → Bool → ℕ → Text
  own_mark_at p marked n = mark_text printing_of language_of 0 n (marked_own printing_of language_of ctx marked p)

  -- the operation, if its mark is printed
  abbrev pub own_items_at : Ptr Operation → Bool → List Item
  own_items_at p marked = cond marked (marked_operation printing_of language_of ctx p (operation_at p)) []

  -- a block's mark, if it has one, with n marks before it
  abbrev pub block_mark_at : Ptr BasicBlock → ℕ → Text
  block_mark_at b n = mark_if language_of (mark_at printing_of n (block_at b).location (block_outlined printing_of (block_at b)))

  -- the block, if it has a mark
  abbrev pub block_items_at : Ptr BasicBlock → List Item
  block_items_at b = marked_block printing_of language_of ctx b (block_at b)

  -- the object of a frame is live in the context, and the frame fits it
  abbrev pub FrameFitsAt : Frame → Type 0
  FrameFitsAt f = FrameFits printing_of language_of ctx f

  -- a step from a frame
  abbrev pub StepsAt : ℕ → Frame → List Item → List Item → List Frame → List Frame → String Global → String Global → Type 0
  StepsAt width f items items' frames frames' old new = Steps printing_of language_of ctx width f items items' frames frames' (string_bytes old) (string_bytes new)

  -- where steps from a frame lead: to one inside of it, or to its end
  abbrev pub LeadsAt : ℕ → Frame → Option Frame → List Item → List Item → List Frame → List Frame → String Global → String Global → Type 0
  LeadsAt width f inner items items' frames frames' old new = Leads printing_of language_of ctx width f inner items items' frames frames' (string_bytes old) (string_bytes new)

  -- which frame is reached from another, if one is; otherwise steps lead to the end of the other
  abbrev pub ReachesAt : ℕ → Frame → Option Frame → List Item → List Item → List Frame → List Frame → String Global → String Global → Type 0
  ReachesAt width f inner items items' frames frames' old new = Reaches printing_of language_of ctx width f inner items items' frames frames' (string_bytes old) (string_bytes new)

  -- the reason of an error in a frame: out of memory is possible at any time; any other only if the rest of the frame gives it
  abbrev pub RefusesFrame : ℕ → Frame → Refusal → Type 0
  RefusesFrame width f e = IsOther e → OpenFault printing_of (isolated ctx.dialects) width e (open_of printing_of language_of ctx f)

  -- the regions of an operation, with everything nested in them, as printing sees them
  abbrev pub regions_under : Ptr Operation → Regions (GraphOp T A) (GraphBlock T A) ⊤
  regions_under p = seen_regions language_of.owns.written ctx (regions_left printing_of language_of ctx p 0)

  -- an operation, or what is shown of its regions, gives this reason to fail
  abbrev pub FaultUnder : {U : Type 0} → Ptr Operation → Shown U → Refusal → Type 0
  FaultUnder p s e = OperationFault printing_of (isolated ctx.dialects) s.width e (operation_at p) (regions_under p) ⊎ RegionsFault printing_of (isolated ctx.dialects) s.width e s.indent (levels s.limit) (regions_under p)

  -- some indentation inside a region or a block that is shown under an operation does not fit 16 bits
  abbrev pub IsTooDeepUnder : {U : Type 0} → Ptr Operation → Shown U → Type 0
  IsTooDeepUnder p s = RegionsFault printing_of (isolated ctx.dialects) s.width Depth s.indent (levels s.limit) (regions_under p)

  -- the operation, or one that is shown inside it, does not fit its format
  abbrev pub MisfitsUnder : {U : Type 0} → Ptr Operation → Shown U → Type 0
  MisfitsUnder p s = FaultUnder p s Misfit

  -- the reason of an error: out of memory is possible at any time; any other only if the operation gives it
  abbrev pub RefusesUnder : {U : Type 0} → Ptr Operation → Shown U → Refusal → Type 0
  RefusesUnder p s (Memory e) = ⊤
  RefusesUnder p s Depth = IsTooDeepUnder p s
  RefusesUnder p s Misfit = MisfitsUnder p s

  -- the text of an operation with everything nested in it, and its mark if it is to be printed, with n marks before it
  abbrev pub text_under : {U : Type 0} → Ptr Operation → Shown U → Bool → ℕ → Text
  text_under p s marked n =
      let rs = seen_regions language_of.owns.written ctx (regions_left printing_of language_of ctx p 0) in
      let m = n + marks_in_regions printing_of (levels s.limit) rs in
      concrete language_of (tree_op printing_of m (operation_at p)) (region_texts language_of s.width s.indent (tree_regions printing_of (levels s.limit) n rs)) ++ own_mark_at p marked m

  -- the items inside an operation, in the order of their marks, and the operation itself if its mark is to be printed
  abbrev pub items_under : {U : Type 0} → Ptr Operation → Shown U → Bool → List Item
  items_under p s marked = items_in_regions printing_of language_of ctx (levels s.limit) (regions_left printing_of language_of ctx p 0) ++ own_items_at p marked

  -- ---- what is open

  -- the objects of the open frames are live in the context, and the frames fit them
  abbrev pub FramesFitAt : List Frame → Type 0
  FramesFitAt frames = AllFit printing_of language_of ctx frames

  -- the text that is left of the frames, with n marks before it
  abbrev pub frames_text_at : ℕ → List Frame → ℕ → Text
  frames_text_at width frames n = open_rest printing_of language_of width (map (open_of printing_of language_of ctx) frames) n

  -- the items whose marks the frames have still to print
  abbrev pub frames_items_at : List Frame → List Item
  frames_items_at frames = items_left printing_of language_of ctx frames

  -- the rest of the frames gives this reason to fail
  abbrev pub FramesFault : ℕ → Refusal → List Frame → Type 0
  FramesFault width e frames = AnyFault printing_of (isolated ctx.dialects) width e (map (open_of printing_of language_of ctx) frames)

  -- ---- a region

  -- the blocks of a region, with everything nested in them, as printing sees them
  abbrev pub blocks_in : Ptr Region → Blocks (GraphOp T A) (GraphBlock T A) ⊤
  blocks_in r = seen_blocks language_of.owns.written ctx (blocks_left printing_of language_of ctx r 0)

  -- the text of a region with everything nested in it, with n marks before it
  abbrev pub region_text_under : {U : Type 0} → Ptr Region → Shown U → ℕ → Text
  region_text_under r s n = cond (is_elided printing_of (levels s.limit)) (codes "{..}")
      (region_text language_of s.width s.indent (shown tt) (block_texts language_of s.width (s.indent + s.width) (tree_blocks printing_of (inside printing_of (levels s.limit)) n (blocks_in r))))

  -- the items of a region, in the order of their marks
  abbrev pub region_items_under : {U : Type 0} → Ptr Region → Shown U → List Item
  region_items_under r s = cond (is_elided printing_of (levels s.limit)) [] (items_in_blocks printing_of language_of ctx (inside printing_of (levels s.limit)) (blocks_left printing_of language_of ctx r 0))

  -- what is shown of a region gives this reason to fail
  abbrev pub RegionFaultUnder : {U : Type 0} → Ptr Region → Shown U → Refusal → Type 0
  RegionFaultUnder r s e = RegionsFault printing_of (isolated ctx.dialects) s.width e s.indent (levels s.limit) (region tt (blocks_in r) no_regions)

  -- the reason of an error when a region is printed: out of memory is possible at any time; any other only if the region gives it
  abbrev pub RefusesRegionUnder : {U : Type 0} → Ptr Region → Shown U → Refusal → Type 0
  RefusesRegionUnder r s e = IsOther e → RegionFaultUnder r s e

  -- ---- a block

  -- the operations of a block, with everything nested in them, as printing sees them
  abbrev pub operations_of : Ptr BasicBlock → Operations (GraphOp T A) (GraphBlock T A) ⊤
  operations_of b = seen_operations language_of.owns.written ctx (operations_left printing_of language_of ctx b 0)

  -- the text of a block with everything nested in it, with n marks before it
  abbrev pub block_text_under : {U : Type 0} → Ptr BasicBlock → Shown U → ℕ → Text
  block_text_under b s n = let m = n + own_marks printing_of (block_at b).location (block_outlined printing_of (block_at b)) in
      block_text language_of s.width s.indent (tree_head printing_of n (block_at b)) (operation_texts language_of s.width (s.indent + s.width) (tree_operations printing_of (levels s.limit) m (operations_of b)))

  -- the items of a block, with the block itself, in the order of their marks
  abbrev pub block_items_under : {U : Type 0} → Ptr BasicBlock → Shown U → List Item
  block_items_under b s = block_items_at b ++ items_in_operations printing_of language_of ctx (levels s.limit) (operations_left printing_of language_of ctx b 0)

  -- the indentation inside a block, or what is shown of its operations, gives this reason to fail
  abbrev pub BlockFaultUnder : {U : Type 0} → Ptr BasicBlock → Shown U → Refusal → Type 0
  BlockFaultUnder b s e = IndentFault e (s.indent + s.width) ⊎ OperationsFault printing_of (isolated ctx.dialects) s.width e (s.indent + s.width) (levels s.limit) (operations_of b)

  -- the reason of an error when a block is printed: out of memory is possible at any time; any other only if the block gives it
  abbrev pub RefusesBlockUnder : {U : Type 0} → Ptr BasicBlock → Shown U → Refusal → Type 0
  RefusesBlockUnder b s e = IsOther e → BlockFaultUnder b s e
