-- What single steps of the walk print, and which frames they leave.
use Rattle.std.specs.Prelude.{◌+◌, ◌≤◌, ◌^◌, ◌==◌, ℕ, IsSome, true, false, cond, List, [], ◌∷◌, ◌++◌, length, slice_get, Option, Some, None, codes}
use Rattle.irtext_base.specs.Format as format
use Rattle.irtext_base.specs.Format.{Format, Directive}
use Rattle.irtext_base.specs.Text.{Text}
use Rattle.irtext_context.specs.Context.{ContextView}
use Rattle.irtext_graph.specs.declared.arena.Ptr.{Ptr}
use Rattle.irtext_graph.specs.declared.object.Region.{Region}
use Rattle.irtext_graph.specs.Parts.{regions, blocks}
use Rattle.irtext_print.specs.Printers.Printing.{lowered}
use Rattle.irtext_print.specs.declared.printable.state.RegionPrintDepthLimit.{RegionPrintDepthLimit}
use Rattle.irtext_print_ops.specs.Opened.{opening, closing}
use Rattle.irtext_print_ops.specs.declared.frame.BlockTurn.{BlockTurn}
use Rattle.irtext_print_ops.specs.declared.frame.BlockTurn.TheVariants as block_turn
use Rattle.irtext_print_ops.specs.declared.frame.Frame.{Frame}
use Rattle.irtext_print_ops.specs.declared.frame.Frame.TheVariants as frame
use Rattle.irtext_print_ops.specs.declared.frame.OperationFrame.{OperationFrame}
use Rattle.irtext_print_ops.specs.declared.frame.RegionFrame.{RegionFrame}
use Rattle.irtext_print_ops.specs.declared.frame.Turn.{Turn}
use Rattle.irtext_print_ops.specs.declared.frame.Turn.TheVariants as turn

-- the directives of a format that has some
abbrev pub custom_directives : Option Format → Option (List Directive)
custom_directives (Some (format.custom ds)) = Some ds
custom_directives _ = None

-- what comes before a region's blocks, or `{..}` if the region is elided
abbrev pub region_front : ℕ → ℕ → RegionPrintDepthLimit → Text
region_front width indent limit = elim (lowered limit) [ None ↦ codes "{..}" | Some _ ↦ opening width indent ]

-- the frame of a region that was begun, if it is not elided
abbrev pub begun_frames : Option RegionFrame → List Frame
begun_frames None = []
begun_frames (Some g) = frame.Region g ∷ []

-- the innermost open frame, if there is one
abbrev pub listed : Option Frame → List Frame
listed None = []
listed (Some f) = f ∷ []

-- the frame that is innermost after a step of a block, if there is one
abbrev pub block_left : BlockTurn → Option Frame
block_left (block_turn.Stays f) = Some (frame.Block f)
block_left (block_turn.Enters g) = Some (frame.Region g)
block_left block_turn.Ends = None

-- the frames that a step of an operation leaves
abbrev pub turn_frames : OperationFrame → Turn → List Frame
turn_frames f turn.Stays = frame.Operation f ∷ []
turn_frames f (turn.Enters g) = frame.Operation f ∷ frame.Region g ∷ []
turn_frames f turn.Ends = []

-- the frames that are left of an operation, with a region that was begun; none if there is no such region
abbrev pub left_frames : OperationFrame → Option RegionFrame → List Frame
left_frames f None = []
left_frames f (Some g) = frame.Operation f ∷ frame.Region g ∷ []

-- the frame of a region after its beginning, if it is not elided
abbrev pub region_frames : Ptr Region → ℕ → RegionPrintDepthLimit → List Frame
region_frames r indent limit = elim (lowered limit) [ None ↦ [] | Some inner ↦ frame.Region (record { region = r; block = 0; first = true; indent = indent; limit = inner }) ∷ [] ]

-- a region is not elided, and the indentation inside does not fit 16 bits
abbrev pub IsTooDeep : ℕ → ℕ → RegionPrintDepthLimit → Type 0
IsTooDeep width indent limit = IsSome (lowered limit) × (2 ^ 16 ≤ indent + width)

module _ {T A : Type 0} (ctx : ContextView T A) where
  -- what one step prints of an operation's next region, if there is one
  abbrev pub region_turn_text : ℕ → OperationFrame → Text
  region_turn_text width f = elim (slice_get (regions ctx.graph f.op) f.region) [ None ↦ [] | Some _ ↦ cond f.repeats [] (codes " ") ++ region_front width f.indent f.limit ]

  -- what is open after that
  abbrev pub region_turn_frames : OperationFrame → List Frame
  region_turn_frames f = elim (slice_get (regions ctx.graph f.op) f.region) [
    | None ↦ frame.Operation (record f { repeats = false }) ∷ []
    | Some r ↦ frame.Operation (record f { region = f.region + 1 }) ∷ region_frames r f.indent f.limit
  ]

  -- a region that was begun is open if it has blocks
  abbrev pub ended_turn : Option RegionFrame → Turn
  ended_turn None = turn.Stays
  ended_turn (Some g) = cond (length (blocks ctx.graph g.region) == 0) turn.Stays (turn.Enters g)

  -- what ends it if it has none
  abbrev pub ended_text : Option RegionFrame → Text
  ended_text None = []
  ended_text (Some g) = cond (length (blocks ctx.graph g.region) == 0) (closing g.indent) []

  -- an operation has a next region, and it is too deep
  abbrev pub NextTooDeep : ℕ → OperationFrame → Type 0
  NextTooDeep width f = IsSome (slice_get (regions ctx.graph f.op) f.region) × IsTooDeep width f.indent f.limit
