-- Between functions: the open frames while nested text is parsed, as the code has them, and what they represent.
use Rattle.std.specs.Prelude.{◌≡◌, ℕ, Bool, List, [], ◌∷◌, ◌++◌, drop, length, slice_get, IsSome, IfSome, ⊤}
use Rattle.std.specs.List.{All}
use Rattle.irtext_base.specs.Text.{Text}
use Rattle.irtext_base.specs.Faults.{id_of}
use Rattle.irtext_format_check.specs.Conditions.{WritesNamesOrType}
use Rattle.irtext_context.specs.Context.{ContextView, operation, block}
use Rattle.irtext_graph.specs.declared.object.Object.TheVariants.{TheBlock, TheRegion}
use Rattle.irtext_graph.specs.Graph.{parent, IsLive}
use Rattle.irtext_graph.specs.Parts.{results}
use Rattle.irtext_grammar.specs.Contexts.Formats.{format_of, isolated}
use Rattle.irtext_grammar.specs.Grammar.Tree as tree
use Rattle.irtext_grammar.specs.Grammar.Tree.{Part}
use Rattle.irtext_grammar.specs.Names.Acts.{result_types}
use Rattle.irtext_grammar.specs.Heads.{Step, flat, types}
use Rattle.irtext_grammar.specs.Naming.{body_of}
use Rattle.irtext_grammar.specs.Reached.{steps_in}
use Rattle.irtext_grammar.specs.Resume.{OpenOperation}
use Rattle.irtext_grammar.specs.Parsed.{Leaves, Represents, Each}
use Rattle.irtext_parse_nested.specs.declared.frame.BegunOperation.{BegunOperation}
use Rattle.irtext_parse_nested.specs.declared.frame.BegunRegion.{BegunRegion}
use Rattle.irtext_parse_nested.specs.declared.frame.BegunBlock.{BegunBlock}
use Rattle.irtext_parse_pieces.specs.Coming.{IsStep}
use Rattle.irtext_names.specs.Items.{Pledge}

-- the part gives no result its type
abbrev pub HasNoType : {T A : Type 0} → Part ℕ T A → Type 0
HasNoType (tree.piece (tree.result_type i t)) = ⊥
HasNoType (tree.piece (tree.types ts)) = ⊥
HasNoType _ = ⊤

-- the step parses no name and no type
abbrev pub ReadsNeither : Step → Type 0
ReadsNeither (flat d) = WritesNamesOrType d → ⊥
ReadsNeither types = ⊥
ReadsNeither _ = ⊤

-- the same of each of these steps
abbrev pub ReadNeither : List Step → Type 0
ReadNeither [] = ⊤
ReadNeither (s ∷ ss) = ReadsNeither s × ReadNeither ss

-- the pledge of an open operation: its place, and the results that it was created with
abbrev pub pledge_of : BegunOperation → ℕ → Pledge
pledge_of b place = record { place = place; op = b.op; results = b.results }

module _ {T A : Type 0} (names : List Text) (text : Text) (ctx : ContextView T A) where
  -- The begun operation of the code represents this one. They have the same names, place, id and remaining steps, which parse no names
  -- and no types. Whether it is isolated, and what its next step parses where that is recorded, are as its dialect says. The number of
  -- results is that of the types that its parts give, whatever parts without types follow.
  pub record IsBegun (b : BegunOperation) (o : OpenOperation T A) : Type 0 where
    pub place : Leaves text b.at o.place
    pub names_are : Each (Represents names text) b.names o.names
    pub id : id_of b.id ≡ o.id
    pub known : IsSome (format_of ctx.dialects o.id)
    pub steps : o.steps ≡ drop b.step (steps_in ctx.dialects o.id)
    pub counted : b.steps ≡ length (steps_in ctx.dialects o.id)
    pub coming : IfSome b.coming (λ next. IsStep next (slice_get (steps_in ctx.dialects o.id) b.step))
    pub is_isolated : b.isolated ≡ isolated ctx.dialects o.id
    pub late : ReadNeither o.steps
    pub alive : IsSome (operation ctx b.op)
    pub counts : length (results ctx.graph b.op) ≡ b.results
    pub typed : (later : List (Part ℕ T A)) → All HasNoType later → length (result_types (body_of (format_of ctx.dialects o.id) (o.parts ++ later))) ≡ b.results

  -- The begun region represents this one: whether its operation is isolated, and the place of its `{`.
  pub record IsRegion (r : BegunRegion) (iso : Bool) (place : ℕ) : Type 0 where
    pub is_isolated : r.isolated ≡ iso
    pub placed : Leaves text r.at place
    pub alive : IsLive ctx.graph (TheRegion r.region)

  -- The begun block is live, and is in a region.
  pub record IsBlock (b : BegunBlock) (first : Bool) : Type 0 where
    pub is_first : b.first ≡ first
    pub alive : IsSome (block ctx b.block)
    pub inside : IsSome (parent ctx.graph (TheBlock b.block))
