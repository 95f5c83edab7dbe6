-- Between functions: that the open frames of the code agree with those of the definitions and proofs, and that each frame is nested in
-- the next one.
use Rattle.std.specs.Prelude.{◌≡◌, ◌+◌, ◌<◌, ℕ, Bool, List, [], ◌∷◌, length, Option, Some, ⊤}
use Rattle.irtext_base.specs.Text.{Text}
use Rattle.irtext_context.specs.Context.{ContextView}
use Rattle.irtext_graph.specs.declared.arena.Ptr.{Ptr}
use Rattle.irtext_graph.specs.declared.object.Operation.{Operation}
use Rattle.irtext_graph.specs.declared.object.Region.{Region}
use Rattle.irtext_graph.specs.declared.object.BasicBlock.{BasicBlock}
use Rattle.irtext_context.specs.Dialects.{Table}
use Rattle.irtext_grammar.specs.Contexts.Formats.{format_of, isolated}
use Rattle.irtext_parse_nested.specs.Beginning.{HasBegun}
use Rattle.irtext_parse_nested.specs.OpenOperation.{IsBegun, IsRegion, IsBlock}
use Rattle.irtext_names.specs.Items.{Names}
use Rattle.irtext_parse_root.specs.declared.frames.Frame.{Frame}
use Rattle.irtext_parse_root.specs.Levels.{Level, at_operation, at_region, at_block, first_frame, WaitIn, isolated_in, regions_in}

-- What is parsed: an operation outside of every region, which was created under this pointer; or the region under this pointer.
pub data Base : Type 0 where
  outermost : Ptr Operation → Base
  within : Ptr Region → Base

module _ {T A : Type 0} (names : List Text) (text : Text) (ctx : ContextView T A) where
  -- one open frame of the code agrees with its form in the proofs
  abbrev pub IsLevel : Level T A → Type 0
  IsLevel (at_operation b o own) = IsBegun names text ctx b o × HasBegun (format_of ctx.dialects) o own
  IsLevel (at_region r iso place last) = IsRegion names text ctx r iso place
  IsLevel (at_block b) = IsBlock names text ctx b b.first

  -- the same of each frame
  abbrev pub AreLevels : List (Level T A) → Type 0
  AreLevels [] = ⊤
  AreLevels (l ∷ ls) = IsLevel l × AreLevels ls

module _ {T A : Type 0} (base : Base) where
  -- an operation is in the open block, or is what is parsed
  abbrev pub IsInBlock : Ptr Operation → List (Level T A) → Type 0
  IsInBlock p [] = base ≡ outermost p
  IsInBlock p (at_block k ∷ ls) = ⊤
  IsInBlock p (_ ∷ ls) = ⊥

  -- a region is in the open operation, which is isolated or not as stated, or is what is parsed
  abbrev pub IsInOperation : List (Text × Table) → Ptr Region → Bool → List (Level T A) → Type 0
  IsInOperation dialects r iso [] = base ≡ within r
  IsInOperation dialects r iso (at_operation b o own ∷ ls) = iso ≡ isolated dialects o.id
  IsInOperation dialects r iso (_ ∷ ls) = ⊥

  -- a block is the last one of the open region
  abbrev pub IsInRegion : Ptr BasicBlock → List (Level T A) → Type 0
  IsInRegion k (at_region r iso place last ∷ ls) = last ≡ Some k
  IsInRegion k _ = ⊥

  -- each open frame is nested in the next one, and in each region a scope of values is open, given the number of those that are open
  -- outside
  abbrev pub Nest : List (Text × Table) → ℕ → List (Level T A) → Type 0
  Nest dialects v [] = ⊤
  Nest dialects v (at_operation b o own ∷ ls) = IsInBlock b.op ls × Nest dialects v ls
  Nest dialects v (at_region r iso place last ∷ ls) = IsInOperation dialects r.region iso ls × (0 < isolated_in (at_region r iso place last ∷ ls) + v) × Nest dialects v ls
  Nest dialects v (at_block b ∷ ls) = IsInRegion b.block ls × Nest dialects v ls

  -- The next frame and those that wait are the open frames, the innermost first. This many scopes of values and of labels are open
  -- outside.
  pub record IsHere (v l : ℕ) (ls : List (Level T A)) (names : Names) (text : Text) (ctx : ContextView T A) (next : Option Frame) (frames : List Frame) : Type 0 where
    pub next_is : next ≡ first_frame ls
    pub others : WaitIn frames ls
    pub levels : AreLevels names.names text ctx ls
    pub nest : Nest ctx.dialects v ls
    pub values : length names.values ≡ isolated_in ls + v
    pub labels : length names.labels ≡ regions_in ls + l

-- The frames are open frames for some base and some scopes outside.
pub record AreHere (T A : Type 0) (text : Text) (ctx : ContextView T A) (names : Names) (next : Option Frame) (frames : List Frame) : Type 0 where
  pub base : Base
  pub v : ℕ
  pub l : ℕ
  pub ls : List (Level T A)
  pub here : IsHere base v l ls names text ctx next frames
