-- Between functions: what is open while nested text is parsed, as a list of frames, and what the text is to the rest of it. Outer frames
-- come first in the list, and their ends come last in the text.
use Rattle.std.specs.Prelude.{◌≡◌, ℕ, suc, ◌+◌, ◌*◌, Bool, true, false, List, [], ◌∷◌, ◌++◌, length, Option, Some, None, codes}
use Rattle.irtext_base.specs.Text.{Text, after_space}
use Rattle.irtext_base.specs.Format.{Id}
use Rattle.irtext_base.specs.Faults.{Fault}
use Rattle.irtext_base.specs.Answers.{Outcome}
use Rattle.irtext_base.specs.Locations.{AttrView}
use Rattle.irtext_base.specs.declared.base.identifier.OpId.{OpId}
use Rattle.irtext_context.specs.Dialects.{Known, Table}
use Rattle.irtext_tokens.specs.Infix.{Reader, nothing, ◌▷◌, ◌▶◌}
use Rattle.irtext_tokens.specs.Tokens.{space_at, word}
use Rattle.irtext_grammar.specs.Contexts.Formats.{isolated}
use Rattle.irtext_grammar.specs.Grammar.Tree as tree
use Rattle.irtext_grammar.specs.Grammar.Tree.{Name, Part}
use Rattle.irtext_grammar.specs.declared.parsed.Setting.{Setting}
use Rattle.irtext_grammar.specs.Heads.{Step, flat, types, steps_of, region_steps, piece_at}
use Rattle.irtext_grammar.specs.Reached.{Reached, Advanced, Stopped, came, tells, Actions, Reads, steps_in, more_by, operations_by, blocks_by, steps_by, end_by, block_by, region_at, operation_at}

-- An operation whose head was parsed: its place, the names of its results, its id, the steps that are
-- left, and the parts found so far. While all its regions are parsed, the step of all of them stays the next one.
pub record OpenOperation (T A : Type 0) : Type 0 where
  pub place : ℕ
  pub names : List (Name ℕ)
  pub id : Id
  pub steps : List Step
  pub parts : List (Part ℕ T A)

-- the same operation with these steps left, and these parts found
abbrev pub with_steps : {T A : Type 0} → OpenOperation T A → List Step → List (Part ℕ T A) → OpenOperation T A
with_steps o ss ps = record { place = o.place; names = o.names; id = o.id; steps = ss; parts = ps }

-- an operation with a registered id, of which these parts before its first region were parsed
abbrev pub begun : {T A : Type 0} → List (Text × Table) → ℕ → List (Name ℕ) → Id → List (Part ℕ T A) → OpenOperation T A
begun dialects place names id found = record { place = place; names = names; id = id; steps = region_steps (steps_in dialects id); parts = found }

-- whether a step parses a piece, not a region
abbrev pub is_flat : Step → Bool
is_flat (flat d) = true
is_flat types = true
is_flat _ = false

-- What is open (a frame): an operation that is still to be parsed, inside a region or outside of every region; one whose head was parsed;
-- a region, of an isolated operation or not, with the place of its brace; a block, with whether none of its operations was parsed so far.
pub data Open (T A : Type 0) : Type 0 where
  to_come : Bool → Open T A
  an_operation : OpenOperation T A → Open T A
  a_region : Bool → ℕ → Open T A
  a_block : Bool → Open T A

-- The innermost waiting frame is next, and the others wait; or no frame waited, and none is next.
abbrev pub Pops : {T A : Type 0} → List (Open T A) → Option (Open T A) → List (Open T A) → Type 0
Pops frames None others = frames ≡ []
Pops frames (Some f) others = frames ≡ others ++ f ∷ []

-- the parts found, and those that steps before a region parse, with white space before each, without actions
abbrev pub front_at : {T A : Type 0} → (Text → Outcome T) → (Text → Outcome (AttrView A)) → Setting → List Step → List (Part ℕ T A) → Reader (List (Part ℕ T A))
front_at types_at attr at [] found = nothing found
front_at types_at attr at (step ∷ ss) found = (space_at ▷ piece_at types_at attr at step) ▶ λ p. front_at types_at attr at ss (found ++ tree.piece p ∷ [])

-- the parse came to this state, or is stuck at it
abbrev pub EndsIn : {X S : Type 0} → S → Reached X S → Type 0
EndsIn s (Advanced x t rest) = t ≡ s
EndsIn s (Stopped t cause place) = t ≡ s

module _ {T A S : Type 0} (dialects : List (Text × Table)) (types_at : Text → Outcome T) (attr : Text → Outcome (AttrView A)) (does : Actions T A S) where
  -- a block
  abbrev pub block_at : Reads S
  block_at = block_by dialects types_at attr does (operations_by (operation_at dialects types_at attr does true))

  -- the rest of an operation: its other steps, and its end
  abbrev pub operation_rest : OpenOperation T A → Reads S
  operation_rest o text s = came (steps_by dialects types_at attr does (region_at dialects types_at attr does (isolated dialects o.id)) o.place o.id o.steps o.parts text s)
      (λ parts u left. end_by dialects types_at attr does o.place o.names o.id parts left u)

  -- the rest of a region: its other blocks, and its brace
  abbrev pub region_rest : Bool → ℕ → Reads S
  region_rest iso place text s = came (blocks_by block_at (length text) (after_space text) s) (λ _ u left.
      tells (word (codes "}") left) left u (λ _ end. Advanced tt (does.leaves iso place u) end))

  -- the rest of a block: its operations, or those after the last one that was parsed
  abbrev pub block_rest : Bool → Reads S
  block_rest true text s = operations_by (operation_at dialects types_at attr does true) (after_space text) s
  block_rest false text s = more_by (operation_at dialects types_at attr does true) (length text) (after_space text) s

  -- the rest of a frame
  abbrev pub rest_of : Open T A → Reads S
  rest_of (to_come inside) text s = operation_at dialects types_at attr does inside text s
  rest_of (an_operation o) text s = operation_rest o text s
  rest_of (a_region iso place) text s = region_rest iso place text s
  rest_of (a_block first) text s = block_rest first text s

  -- the result of the whole parse, given that of its innermost frame
  abbrev pub resume : List (Open T A) → Reached Unit S → Reached Unit S
  resume [] o = o
  resume (f ∷ frames) o = came (resume frames o) (λ _ s text. rest_of f text s)

  -- the result of the whole parse, if this frame is next and the others wait; nothing is left if no frame is next
  abbrev pub whole : Option (Open T A) → List (Open T A) → S → Text → Reached Unit S
  whole None frames s text = Advanced tt s text
  whole (Some f) frames s text = resume frames (rest_of f text s)

  -- The loop came from the one point to the other: the whole parse has the same result from both.
  pub record Goes (next : Option (Open T A)) (frames : List (Open T A)) (s : S) (text : Text) (next' : Option (Open T A)) (frames' : List (Open T A)) (s' : S) (text' : Text) : Type 0 where
    pub so : whole next frames s text ≡ whole next' frames' s' text'

  -- From this point, the whole parse is stuck with this cause, at this place and with this state.
  pub record StoppedAt (next : Option (Open T A)) (frames : List (Open T A)) (s : S) (text : Text) (s' : S) (cause : Fault) (place : ℕ) : Type 0 where
    pub so : whole next frames s text ≡ Stopped s' cause place

-- how much is left to do of a frame without consuming text: of an operation its steps
abbrev pub weight : {T A : Type 0} → Open T A → ℕ
weight (to_come inside) = 1
weight (an_operation o) = suc (length o.steps)
weight (a_region iso place) = 1
weight (a_block true) = 3
weight (a_block false) = 1

-- how much is left to do of all frames that wait
abbrev pub weights : {T A : Type 0} → List (Open T A) → ℕ
weights [] = 0
weights (f ∷ frames) = weight f + weights frames

-- how much is left to do of all that is open: nothing if no frame is next
abbrev pub to_do : {T A : Type 0} → Option (Open T A) → List (Open T A) → ℕ
to_do None frames = 0
to_do (Some f) frames = weight f + weights frames

-- how much is left to do, counting k for each character of the text
abbrev pub work : {T A : Type 0} → ℕ → Option (Open T A) → List (Open T A) → Text → ℕ
work k next frames text = k * length text + to_do next frames

-- how many steps the formats of operations have
abbrev pub entry_steps : List (OpId × Known) → ℕ
entry_steps [] = 0
entry_steps (e ∷ es) = length (steps_of e.1.format) + entry_steps es

-- how many steps the formats of all dialects have
abbrev pub all_steps : List (Text × Table) → ℕ
all_steps [] = 0
all_steps (d ∷ ds) = entry_steps d.1.entries + all_steps ds

-- at most this much is done for each character that is parsed
abbrev pub by_character : List (Text × Table) → ℕ
by_character dialects = all_steps dialects + 4
