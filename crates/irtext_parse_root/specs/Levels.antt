-- Between functions: the open frames while nested text is parsed, the innermost first, in the forms of the code and of the proofs.
use Rattle.std.specs.Prelude.{◌≡◌, ℕ, suc, Bool, true, false, List, [], ◌∷◌, ◌++◌, map, drop, Option, Some, None, ⊤}
use Rattle.irtext_base.specs.Text.{Text}
use Rattle.irtext_base.specs.Faults.{id_of}
use Rattle.irtext_context.specs.Dialects.{Table}
use Rattle.irtext_graph.specs.declared.arena.Ptr.{Ptr}
use Rattle.irtext_graph.specs.declared.object.BasicBlock.{BasicBlock}
use Rattle.irtext_graph.specs.declared.object.Object.TheVariants.{TheOperation, TheBlock, TheRegion}
use Rattle.irtext_graph.specs.Graph.{GraphView, IsNew}
use Rattle.irtext_grammar.specs.Reached.{steps_in}
use Rattle.irtext_grammar.specs.Resume.{OpenOperation, Open, an_operation, a_region, a_block, work, by_character}
use Rattle.irtext_grammar.specs.Unchanged.{OwnSoFar, OpenAt, operation_under, region_under}
use Rattle.irtext_parse_nested.specs.declared.frame.BegunOperation.{BegunOperation}
use Rattle.irtext_parse_nested.specs.declared.frame.BegunRegion.{BegunRegion}
use Rattle.irtext_parse_nested.specs.declared.frame.BegunBlock.{BegunBlock}
use Rattle.irtext_parse_nested.specs.OpenOperation.{pledge_of}
use Rattle.irtext_names.specs.Items.{Pledge}
use Rattle.irtext_parse_root.specs.declared.frames.Frame.{Frame}
use Rattle.irtext_parse_root.specs.declared.frames.Frame.TheVariants.{Operation, Region, Block}

-- One open frame: an operation, with what was parsed of it and its own parts so far; a region, with whether its operation is isolated,
-- the place of its `{` and its last block so far; a block.
pub data Level (T A : Type 0) : Type 0 where
  at_operation : BegunOperation → OpenOperation T A → OwnSoFar T A → Level T A
  at_region : BegunRegion → Bool → ℕ → Option (Ptr BasicBlock) → Level T A
  at_block : BegunBlock → Level T A

-- the list in reverse order
abbrev pub outward : {X : Type 0} → List X → List X
outward [] = []
outward (x ∷ xs) = outward xs ++ x ∷ []

module _ {T A : Type 0} where
  -- the frame as the code has it
  abbrev pub frame_of : Level T A → Frame
  frame_of (at_operation b o own) = Operation b
  frame_of (at_region r iso place last) = Region r
  frame_of (at_block b) = Block b

  -- the frame as the proofs have it
  abbrev pub open_of : Level T A → Open T A
  open_of (at_operation b o own) = an_operation o
  open_of (at_region r iso place last) = a_region iso place
  open_of (at_block b) = a_block b.first

  -- the innermost frame, as the code has it
  abbrev pub first_frame : List (Level T A) → Option Frame
  first_frame [] = None
  first_frame (l ∷ ls) = Some (frame_of l)

  -- the other frames wait in this list, if a frame is open
  abbrev pub WaitIn : List Frame → List (Level T A) → Type 0
  WaitIn frames [] = ⊤
  WaitIn frames (l ∷ ls) = frames ≡ outward (map frame_of ls)

  -- the innermost frame, as the proofs have it
  abbrev pub next_of : List (Level T A) → Option (Open T A)
  next_of [] = None
  next_of (l ∷ ls) = Some (open_of l)

  -- the other frames, as the proofs have them, the outermost first
  abbrev pub waiting : List (Level T A) → List (Open T A)
  waiting [] = []
  waiting (l ∷ ls) = outward (map open_of ls)

  -- the pledges of the open operations, the outermost first
  abbrev pub pledges_of : List (Level T A) → List Pledge
  pledges_of [] = []
  pledges_of (at_operation b o own ∷ ls) = pledges_of ls ++ pledge_of b o.place ∷ []
  pledges_of (at_region r iso place last ∷ ls) = pledges_of ls
  pledges_of (at_block b ∷ ls) = pledges_of ls

  -- the frames as a context has them; an open block is the last one of its region
  abbrev pub ats_of : List (Level T A) → List (OpenAt T A)
  ats_of [] = []
  ats_of (at_operation b o own ∷ ls) = operation_under b.op own ∷ ats_of ls
  ats_of (at_region r iso place last ∷ ls) = region_under r.region last ∷ ats_of ls
  ats_of (at_block b ∷ ls) = ats_of ls

  -- how many scopes of values are open for the frames
  abbrev pub isolated_in : List (Level T A) → ℕ
  isolated_in [] = 0
  isolated_in (at_operation b o own ∷ ls) = isolated_in ls
  isolated_in (at_region r true place last ∷ ls) = suc (isolated_in ls)
  isolated_in (at_region r false place last ∷ ls) = isolated_in ls
  isolated_in (at_block b ∷ ls) = isolated_in ls

  -- how many scopes of labels are open for the frames
  abbrev pub regions_in : List (Level T A) → ℕ
  regions_in [] = 0
  regions_in (at_operation b o own ∷ ls) = regions_in ls
  regions_in (at_region r iso place last ∷ ls) = suc (regions_in ls)
  regions_in (at_block b ∷ ls) = regions_in ls

-- ---- over the code alone
-- a frame with the steps that it has left
abbrev pub task_of : {T A : Type 0} → List (Text × Table) → Frame → Open T A
task_of dialects (Operation b) = an_operation (record { place = 0; names = []; id = id_of b.id; steps = drop b.step (steps_in dialects (id_of b.id)); parts = [] })
task_of dialects (Region r) = a_region r.isolated 0
task_of dialects (Block b) = a_block b.first

-- the next frame, if there is one, with the steps that it has left
abbrev pub next_task : {T A : Type 0} → List (Text × Table) → Option Frame → Option (Open T A)
next_task dialects None = None
next_task dialects (Some f) = Some (task_of dialects f)

-- how much work is left
abbrev pub left_to_do : (T A : Type 0) → List (Text × Table) → Option Frame → List Frame → Text → ℕ
left_to_do T A dialects next frames text = work {T = T} {A = A} (by_character dialects) (next_task dialects next) (map (task_of dialects) frames) text

module _ {O B T : Type 0} (m : ℕ) (g : GraphView O B T) where
  -- the object of a frame was created since m
  abbrev pub IsNewFrame : Frame → Type 0
  IsNewFrame (Operation b) = IsNew m g (TheOperation b.op)
  IsNewFrame (Region r) = IsNew m g (TheRegion r.region)
  IsNewFrame (Block b) = IsNew m g (TheBlock b.block)

  -- the same of each frame
  abbrev pub AreNewFrames : List Frame → Type 0
  AreNewFrames [] = ⊤
  AreNewFrames (f ∷ fs) = IsNewFrame f × AreNewFrames fs

  -- the same of the next frame, if there is one, and of the others
  abbrev pub AreAllNew : Option Frame → List Frame → Type 0
  AreAllNew None fs = ⊤
  AreAllNew (Some f) fs = IsNewFrame f × AreNewFrames fs
