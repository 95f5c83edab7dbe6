-- Between functions: what a text is to the parsers of operations, blocks and regions, at any depth, with actions that are performed on a
-- state as they are parsed. A fault of the text comes with the state that was reached.
use Rattle.std.specs.Prelude.{ℕ, zero, suc, ◌-◌, Bool, true, cond, ◌==◌, ◌||◌, List, [], ◌∷◌, ◌++◌, length, Option, Some, None, codes}
use Rattle.irtext_base.specs.Text.{Text, begins, begins_word, after_space}
use Rattle.irtext_base.specs.Reading.{the}
use Rattle.irtext_base.specs.Format.{Id}
use Rattle.irtext_base.specs.Faults.{Fault, Memory}
use Rattle.irtext_base.specs.Answers.{Outcome, Read, Missing, Bad}
use Rattle.irtext_base.specs.Locations.{AttrView}
use Rattle.irtext_context.specs.Dialects.{Table}
use Rattle.irtext_tokens.specs.Infix.{◌▷◌}
use Rattle.irtext_tokens.specs.Tokens.{space_at, word}
use Rattle.irtext_grammar.specs.Contexts.Formats.{format_of, isolated}
use Rattle.irtext_grammar.specs.Grammar.Forest.{Regions, no_regions, region, Blocks, no_blocks, block, Operations, no_operations, operation}
use Rattle.irtext_grammar.specs.Grammar.Tree as tree
use Rattle.irtext_grammar.specs.Grammar.Tree.{Name, Mark, Piece, Part, Op, Head, Brace, shown, elided, Tree, parts_of}
use Rattle.irtext_grammar.specs.Readers.Parts.{without_first}
use Rattle.irtext_grammar.specs.declared.parsed.Setting.{Setting}
use Rattle.irtext_grammar.specs.Heads.{Step, one, all, steps_of, front_steps, region_steps, piece_at, head_at, led_at, mark_if_at, setting}

-- A parse came to a value and a rest, or is stuck at a fault of the text and its place; both with the state that was reached.
pub data Reached (X S : Type 0) : Type 0 where
  Advanced : X → S → Text → Reached X S
  Stopped : S → Fault → ℕ → Reached X S

-- goes on after a parse, unless it is stuck
abbrev pub came : {X Y S : Type 0} → Reached X S → (X → S → Text → Reached Y S) → Reached Y S
came (Advanced x s rest) next = next x s rest
came (Stopped s cause place) next = Stopped s cause place

-- goes on after something that is required at a text, with this state; stuck if it is missing or bad
abbrev pub tells : {X Y S : Type 0} → Outcome X → Text → S → (X → Text → Reached Y S) → Reached Y S
tells (Read x taken rest) text s next = next x rest
tells (Missing cause) text s next = Stopped s cause (length text)
tells (Bad cause upto) text s next = Stopped s cause (length text - length upto)

-- The actions on the state: of the parts of an operation before its first region, with its place and its id; of a piece after its first
-- region; of a region as it begins and as it ends, given whether its operation is isolated; of an operation at its end, with the names of
-- its results and all its parts; of its mark; of a block's header. And whether any attribute of an operation is accepted under a reserved key.
pub record Actions (T A S : Type 0) : Type 0 where
  pub uses : ℕ → Id → List (Part ℕ T A) → S → S
  pub late : ℕ → Id → Piece ℕ T A → S → S
  pub enters : Bool → S → S
  pub leaves : Bool → ℕ → S → S
  pub closes : ℕ → List (Name ℕ) → Id → List (Part ℕ T A) → S → S
  pub marks : Option (Mark ℕ) → S → S
  pub heads : Head ℕ T A → S → S
  pub any_key : Bool

-- the same actions, where any attribute is accepted under a reserved key
abbrev pub freely : {T A S : Type 0} → Actions T A S → Actions T A S
freely does = record does { any_key = true }

-- an operation begins here: a letter, `_` or `=`
abbrev pub begins_operation : Text → Bool
begins_operation text = begins (λ c. begins_word c || c == 61) text

-- a region begins here
abbrev pub begins_region : Text → Bool
begins_region text = begins (the 123) text

-- a block begins here
abbrev pub begins_block : Text → Bool
begins_block text = begins (the 94) text

-- the steps of a registered operation's format
abbrev pub steps_in : List (Text × Table) → Id → List Step
steps_in dialects id = elim (format_of dialects id) [ Some f ↦ steps_of f | None ↦ [] ]

-- a parser of nested text, on a state
abbrev pub Reads : Type 0 → Type 0
Reads S = Text → S → Reached Unit S

module _ {S : Type 0} where
  -- regions, as long as one begins, with white space after each, and at most this many
  abbrev pub regions_by : Reads S → ℕ → Reads S
  regions_by inner zero text s = Advanced tt s text
  regions_by inner (suc n) text s = cond (begins_region text) (came (inner text s) (λ _ t rest. regions_by inner n (after_space rest) t)) (Advanced tt s text)

  -- an operation after each `;`, with white space after each, and at most this many
  abbrev pub more_by : Reads S → ℕ → Reads S
  more_by item zero text s = Advanced tt s text
  more_by item (suc n) text s = cond (begins (the 59) text)
      (came (item (after_space (without_first text)) s) (λ _ t rest. more_by item n (after_space rest) t)) (Advanced tt s text)

  -- operations with `;` between, if one begins
  abbrev pub operations_by : Reads S → Reads S
  operations_by item text s = cond (begins_operation text) (came (item text s) (λ _ t rest. more_by item (length rest) (after_space rest) t)) (Advanced tt s text)

  -- blocks, as long as one begins, with white space after each, and at most this many
  abbrev pub blocks_by : Reads S → ℕ → Reads S
  blocks_by one_block zero text s = Advanced tt s text
  blocks_by one_block (suc n) text s = cond (begins_block text) (came (one_block text s) (λ _ t rest. blocks_by one_block n (after_space rest) t)) (Advanced tt s text)

module _ {T A S : Type 0} (dialects : List (Text × Table)) (types_at : Text → Outcome T) (attr : Text → Outcome (AttrView A)) (does : Actions T A S) where
  -- the parts found, and those that steps before a region parse, with white space before each
  abbrev pub front_by : Setting → List Step → List (Part ℕ T A) → Text → S → Reached (List (Part ℕ T A)) S
  front_by at [] found text s = Advanced found s text
  front_by at (step ∷ ss) found text s =
      tells ((space_at ▷ piece_at types_at attr at step) text) text s (λ p rest. front_by at ss (found ++ tree.piece p ∷ []) rest s)

  -- The parts found, and those that the other steps parse, for the operation with this place and this id. No format that is accepted has
  -- a name after a region, so it makes no difference whether the operation is inside a region.
  abbrev pub steps_by : Reads S → ℕ → Id → List Step → List (Part ℕ T A) → Text → S → Reached (List (Part ℕ T A)) S
  steps_by inner place id [] found text s = Advanced found s text
  steps_by inner place id (one i ∷ ss) found text s =
      came (inner (after_space text) s) (λ _ t rest. steps_by inner place id ss (found ++ tree.region i ∷ []) rest t)
  steps_by inner place id (all ∷ ss) found text s =
      came (regions_by inner (length text) (after_space text) s) (λ _ t rest. steps_by inner place id ss (found ++ tree.regions ∷ []) rest t)
  steps_by inner place id (step ∷ ss) found text s = tells ((space_at ▷ piece_at types_at attr (setting true does.any_key) step) text) text s
      (λ p rest. steps_by inner place id ss (found ++ tree.piece p ∷ []) rest (does.late place id p s))

  -- the end of an operation: its action, and its mark, if there is one
  abbrev pub end_by : ℕ → List (Name ℕ) → Id → List (Part ℕ T A) → Reads S
  end_by place names id parts text s = let t = does.closes place names id parts s in
      tells ((space_at ▷ mark_if_at) text) text t (λ m rest. Advanced tt (does.marks m t) rest)

  -- what follows an operation's id, by its steps
  abbrev pub body_by : Reads S → Bool → ℕ → List (Name ℕ) → Id → Reads S
  body_by inner inside place names id text s = came (front_by (setting inside does.any_key) (front_steps (steps_in dialects id)) [] text s) (λ found t rest.
      came (steps_by inner place id (region_steps (steps_in dialects id)) found rest (does.uses place id found t)) (λ parts u left. end_by place names id parts left u))

  -- an operation, given the parsers of the regions of isolated operations and of others
  abbrev pub operation_by : (Bool → Reads S) → Bool → Reads S
  operation_by inner inside text s = tells (led_at dialects text) text s (λ lead rest. body_by (inner (isolated dialects lead.1)) inside (length text) lead.0 lead.1 rest s)

  -- a block: its header, and its operations
  abbrev pub block_by : Reads S → Reads S
  block_by operations text s = tells (head_at types_at attr text) text s (λ h rest. operations (after_space rest) (does.heads h s))

  -- a region: its blocks in braces
  abbrev pub region_by : Reads S → Bool → Reads S
  region_by blocks iso text s = let t = does.enters iso s in
      tells ((word (codes "{") ▷ space_at) text) text t (λ _ rest. came (blocks rest t) (λ _ u left.
      tells (word (codes "}") left) left u (λ _ end. Advanced tt (does.leaves iso (length text) u) end)))

  -- a region with at most this many levels of regions
  abbrev pub region_within : ℕ → Bool → Reads S
  region_within zero iso text s = Stopped s Memory (length text)
  region_within (suc n) iso text s = region_by (λ rest t. blocks_by (block_by (operations_by (operation_by (region_within n) true))) (length rest) rest t) iso text s

  -- a region
  abbrev pub region_at : Bool → Reads S
  region_at iso text s = region_within (suc (length text)) iso text s

  -- an operation, inside a region or outside of every region
  abbrev pub operation_at : Bool → Reads S
  operation_at inside = operation_by region_at inside

-- ---- the actions of a tree

module _ {T A : Type 0} where
  -- the parts of a body before its first region
  abbrev pub front_parts : List (Part ℕ T A) → List (Part ℕ T A)
  front_parts [] = []
  front_parts (tree.piece p ∷ ps) = tree.piece p ∷ front_parts ps
  front_parts (_ ∷ ps) = []

  -- the parts of a body from its first region on
  abbrev pub region_parts : List (Part ℕ T A) → List (Part ℕ T A)
  region_parts [] = []
  region_parts (tree.piece p ∷ ps) = region_parts ps
  region_parts (p ∷ ps) = p ∷ ps

-- the functions, one after another
abbrev pub each_of : {S : Type 0} → List (S → S) → S → S
each_of [] s = s
each_of (r ∷ rs) s = each_of rs (r s)

module _ {T A S : Type 0} (isolated : Id → Bool) (does : Actions T A S) where
  -- the actions of the parts from the first region on, with those of their regions, in their order
  abbrev pub do_parts : ℕ → Id → List (Part ℕ T A) → List (S → S) → S → S
  do_parts place id [] rs s = s
  do_parts place id (tree.piece p ∷ ps) rs s = do_parts place id ps rs (does.late place id p s)
  do_parts place id (tree.region i ∷ ps) [] s = do_parts place id ps [] s
  do_parts place id (tree.region i ∷ ps) (r ∷ rs) s = do_parts place id ps rs (r s)
  do_parts place id (tree.regions ∷ ps) rs s = do_parts place id ps [] (each_of rs s)

  -- the actions of an operation, with those of its regions
  abbrev pub do_operation : Op ℕ T A → List (S → S) → S → S
  do_operation o rs s = does.marks o.mark (does.closes o.place o.names o.id (parts_of o.body)
      (do_parts o.place o.id (region_parts (parts_of o.body)) rs (does.uses o.place o.id (front_parts (parts_of o.body)) s)))

  -- the actions of a region in its braces, given whether its operation is isolated, with those of its blocks; an elided one has none
  abbrev pub do_region : Bool → Brace ℕ → (S → S) → S → S
  do_region iso (shown place) inside s = does.leaves iso place (inside (does.enters iso s))
  do_region iso elided inside s = s

  abbrev mutual
    -- the actions of each region, given whether its operation is isolated
    pub do_regions : Bool → Regions (Op ℕ T A) (Head ℕ T A) (Brace ℕ) → List (S → S)
    do_regions iso no_regions = []
    do_regions iso (region brace bs rs) = do_region iso brace (do_blocks bs) ∷ do_regions iso rs

    -- the actions of blocks
    pub do_blocks : Blocks (Op ℕ T A) (Head ℕ T A) (Brace ℕ) → S → S
    do_blocks no_blocks s = s
    do_blocks (block h os bs) s = do_blocks bs (do_operations os (does.heads h s))

    -- the actions of operations
    pub do_operations : Operations (Op ℕ T A) (Head ℕ T A) (Brace ℕ) → S → S
    do_operations no_operations s = s
    do_operations (operation o rs os) s = do_operations os (do_operation o (do_regions (isolated o.id) rs) s)

  -- the actions of a tree
  abbrev pub do_tree : Tree ℕ T A → S → S
  do_tree t s = do_operation t.own (do_regions (isolated t.own.id) t.regions) s
