-- What printing sees of pointers under which all is there, and what is held there: item by item, with the types of all values.
use Rattle.std.proofs.Common.{◌≡◌, ◌∙◌, ℕ, List, [], ◌∷◌, map, filter_map, Option, Some, None, option_map, refl, sym, ap, subst}
use Rattle.std.specs.Prelude.{⊤, true, is_some, option_and_then}
use Rattle.std.specs.List.{cons_option}
use Rattle.irtext_base.specs.Paths.{Written}
use Rattle.irtext_context.specs.Context.{ContextView, OperationView, BlockView, known, operation, operation_of, view_of, block, block_of}
use Rattle.irtext_context.specs.declared.base.operation.OperationData.{OperationData}
use Rattle.irtext_context.proofs.Contexts.{OperationEntry, BlockEntry}
use Rattle.irtext_graph.specs.declared.arena.Ptr.{Ptr}
use Rattle.irtext_graph.specs.declared.object.Operation.{Operation}
use Rattle.irtext_graph.specs.declared.object.BasicBlock.{BasicBlock}
use Rattle.irtext_graph.specs.declared.object.Region.{Region}
use Rattle.irtext_graph.specs.declared.object.Object.{Object}
use Rattle.irtext_graph.specs.Content.{Typed}
use Rattle.irtext_graph.specs.Parts.{results, arguments, results_of, arguments_of}
use Rattle.irtext_graph.specs.Store.{get}
use Rattle.irtext_graph.proofs.Nests.{some_eq}
use Rattle.irtext_grammar.specs.Contexts.Held.{known_types}
use Rattle.irtext_grammar.specs.Contexts.Nested.{typed_number, seen_operation, seen_block, seen_regions, seen_blocks, seen_operations}
use Rattle.irtext_grammar.specs.Grammar.Forest as forest
use Rattle.irtext_grammar.specs.Grammar.Forest.{Regions, no_regions, Blocks, no_blocks, Operations, no_operations, AllRegions, AllBlocks, AllOperations, MatchRegions, MatchBlocks, MatchOperations}
use Rattle.irtext_grammar.specs.Graphs.Build.{BuiltOp, BuiltBlock}
use Rattle.irtext_grammar.specs.Graphs.Graph.{GraphOp, GraphBlock}
use Rattle.irtext_grammar.specs.Names.Script.{Path}
use Rattle.irtext_base.specs.Text.{Text}
use Rattle.irtext_names.specs.Held.{PtrRegions, PtrBlocks, PtrOperations, held_op, held_head, held_regions, held_blocks, held_operations, OperationWhole, BlockWhole}

-- ---- types of values
pub unlike : {X : Type 0} (x : X) (xs : List X) → x ∷ xs ≡ [] → ⊥
unlike x xs e = cc

pub first_is : {X : Type 0} (x y : X) (xs ys : List X) → x ∷ xs ≡ y ∷ ys → x ≡ y
first_is x y xs ys e = cc

pub rest_is : {X : Type 0} (x y : X) (xs ys : List X) → x ∷ xs ≡ y ∷ ys → xs ≡ ys
rest_is x y xs ys e = cc

-- values whose types are known are seen with these
pub typed_seen : {T : Type 0} (vs : List (Typed (Option T))) (types : List T) → map (λ (v : Typed (Option T)). v.of_type) vs ≡ known types → map (λ (r : ℕ × T). r.1) (filter_map typed_number vs) ≡ types
typed_seen [] [] e = refl
typed_seen [] (t ∷ types) e = absurd (unlike (Some t) (known types) (sym e))
typed_seen (v ∷ vs) [] e = absurd (unlike v.of_type (map (λ v. v.of_type) vs) e)
typed_seen {T} (v ∷ vs) (t ∷ types) e =
    let here : v.of_type ≡ Some t = first_is v.of_type (Some t) (map (λ (v : Typed (Option T)). v.of_type) vs) (known types) e in
    ap (λ (o : Option T). map (λ (r : ℕ × T). r.1) (cons_option (option_map (λ (t : T). (v.number, t)) o) (filter_map typed_number vs))) here
    ∙ ap (λ z. t ∷ z) (typed_seen vs types (rest_is v.of_type (Some t) (map (λ (v : Typed (Option T)). v.of_type) vs) (known types) e))

pub known_again : {T : Type 0} (types : List T) → known_types (known types) ≡ types
known_again [] = refl
known_again (t ∷ types) = ap (λ ts. t ∷ ts) (known_again types)

module _ {T A : Type 0} (c : ContextView T A) where
  -- the types of an operation's results are those of its values
  pub results_seen : (p : Ptr Operation) (view : OperationView T A) → operation c p ≡ Some view → view.result_types ≡ map (λ (v : Typed (Option T)). v.of_type) (results c.graph p)
  results_seen p view e = go (get c.graph.operations p) e
    where
      by : (rs : List (Typed (Option T))) (inside : List (Ptr Region)) (d : Option (OperationData A)) → option_map (view_of rs inside) d ≡ Some view → view.result_types ≡ map (λ (v : Typed (Option T)). v.of_type) rs
      by rs inside None e = absurd (cc)
      by rs inside (Some held) e = let f = some_eq e in ap (λ (v : OperationView T A). v.result_types) (sym f)

      go : (x : Option (OperationEntry T A)) → option_and_then operation_of x ≡ Some view → view.result_types ≡ map (λ (v : Typed (Option T)). v.of_type) (results_of (option_map (λ e. e.content.content) x))
      go None e = absurd (cc)
      go (Some x) e = by x.content.content.results x.content.children x.content.content.data_of e

  -- and those of a block's arguments
  pub arguments_seen : (b : Ptr BasicBlock) (view : BlockView T A) → block c b ≡ Some view → view.arg_types ≡ map (λ (v : Typed (Option T)). v.of_type) (arguments c.graph b)
  arguments_seen b view e = go (get c.graph.blocks b) e
    where
      go : (x : Option (BlockEntry T A)) → option_map block_of x ≡ Some view → view.arg_types ≡ map (λ (v : Typed (Option T)). v.of_type) (arguments_of (option_map (λ e. e.content.content) x))
      go None e = absurd (cc)
      go (Some x) e = let f = some_eq e in ap (λ (v : BlockView T A). v.arg_types) (sym f)

  -- a block is there, and the types of its arguments are known
  pub record BlockThere (b : Ptr BasicBlock) : Type 0 where
    pub view : BlockView T A
    pub is : block c b ≡ Some view
    pub types : List T
    pub known_as : view.arg_types ≡ known types

  abbrev there_is : (b : Ptr BasicBlock) → BlockWhole c b → BlockThere b
  there_is b w = record { view = w.view; is = w.is; types = w.types; known_as = w.known_as }

  module _ (text_of : A → Text) (all : List (Object × Path)) where
    -- an operation is there, with types that are known, and printing sees it so
    pub record SeenOp (p : Ptr Operation) (o : GraphOp T A) : Type 0 where
      pub whole : OperationWhole c p
      pub sees : o ≡ seen_operation text_of c p whole.view

    -- so is a block
    pub record SeenBlock (b : Ptr BasicBlock) (d : GraphBlock T A) : Type 0 where
      pub whole : BlockThere b
      pub sees : d ≡ seen_block text_of c b whole.view

    -- an operation is present, and this is what the context has of it
    pub record HeldOp (p : Ptr Operation) (b : BuiltOp T A (Written A)) : Type 0 where
      pub view : OperationView T A
      pub is : operation c p ≡ Some view
      pub holds : b ≡ held_op c all p view

    -- so is a block, with its label
    pub record HeldBlock (p : Ptr BasicBlock) (b : BuiltBlock T A (Written A)) : Type 0 where
      pub view : BlockView T A
      pub is : block c p ≡ Some view
      pub labelled : is_some view.label ≡ true
      pub holds : b ≡ held_head c all view

    -- forests of pointers, and what printing sees of them
    abbrev pub SeenRegions : PtrRegions → Regions (GraphOp T A) (GraphBlock T A) ⊤ → Type 0
    SeenRegions = MatchRegions SeenOp SeenBlock (λ r s. ⊤)

    abbrev pub SeenBlocks : PtrBlocks → Blocks (GraphOp T A) (GraphBlock T A) ⊤ → Type 0
    SeenBlocks = MatchBlocks SeenOp SeenBlock (λ r s. ⊤)

    abbrev pub SeenOperations : PtrOperations → Operations (GraphOp T A) (GraphBlock T A) ⊤ → Type 0
    SeenOperations = MatchOperations SeenOp SeenBlock (λ r s. ⊤)

    -- and what is held of them
    abbrev pub HeldRegions : PtrRegions → Regions (BuiltOp T A (Written A)) (BuiltBlock T A (Written A)) ⊤ → Type 0
    HeldRegions = MatchRegions HeldOp HeldBlock (λ r s. ⊤)

    abbrev pub HeldBlocks : PtrBlocks → Blocks (BuiltOp T A (Written A)) (BuiltBlock T A (Written A)) ⊤ → Type 0
    HeldBlocks = MatchBlocks HeldOp HeldBlock (λ r s. ⊤)

    abbrev pub HeldOperations : PtrOperations → Operations (BuiltOp T A (Written A)) (BuiltBlock T A (Written A)) ⊤ → Type 0
    HeldOperations = MatchOperations HeldOp HeldBlock (λ r s. ⊤)

    -- what printing sees of a forest of pointers, and what is held there
    record Both (Seen Held : Type 0) : Type 0 where
      seen : Seen
      held : Held

    mutual
      -- both of regions of pointers under which all is there
      regions_both : (ps : PtrRegions) → AllRegions (OperationWhole c) (BlockWhole c) (λ r. ⊤) ps → Both (SeenRegions ps (seen_regions text_of c ps)) (HeldRegions ps (held_regions c all ps))
      regions_both no_regions w = record { seen = tt; held = tt }
      regions_both (forest.region r bs ps) w = record { seen = (tt, (blocks_both bs w.1).seen, (regions_both ps w.2).seen); held = (tt, (blocks_both bs w.1).held, (regions_both ps w.2).held) }

      blocks_both : (ps : PtrBlocks) → AllBlocks (OperationWhole c) (BlockWhole c) (λ r. ⊤) ps → Both (SeenBlocks ps (seen_blocks text_of c ps)) (HeldBlocks ps (held_blocks c all ps))
      blocks_both no_blocks w = record { seen = tt; held = tt }
      blocks_both (forest.block b os ps) w =
          subst (λ z. Both (SeenBlocks (forest.block b os ps) (elim z [ Some view ↦ forest.block (seen_block text_of c b view) (seen_operations text_of c os) (seen_blocks text_of c ps) | None ↦ seen_blocks text_of c ps ])) (HeldBlocks (forest.block b os ps) (elim z [ Some view ↦ forest.block (held_head c all view) (held_operations c all os) (held_blocks c all ps) | None ↦ held_blocks c all ps ]))) (sym w.0.is)
          (record { seen = (record { whole = there_is b w.0; sees = refl }, (operations_both os w.1).seen, (blocks_both ps w.2).seen); held = (record { view = w.0.view; is = w.0.is; labelled = w.0.labelled; holds = refl }, (operations_both os w.1).held, (blocks_both ps w.2).held) })

      operations_both : (ps : PtrOperations) → AllOperations (OperationWhole c) (BlockWhole c) (λ r. ⊤) ps → Both (SeenOperations ps (seen_operations text_of c ps)) (HeldOperations ps (held_operations c all ps))
      operations_both no_operations w = record { seen = tt; held = tt }
      operations_both (forest.operation p rs ps) w =
          subst (λ z. Both (SeenOperations (forest.operation p rs ps) (elim z [ Some view ↦ forest.operation (seen_operation text_of c p view) (seen_regions text_of c rs) (seen_operations text_of c ps) | None ↦ seen_operations text_of c ps ])) (HeldOperations (forest.operation p rs ps) (elim z [ Some view ↦ forest.operation (held_op c all p view) (held_regions c all rs) (held_operations c all ps) | None ↦ held_operations c all ps ]))) (sym w.0.is)
          (record { seen = (record { whole = w.0; sees = refl }, (regions_both rs w.1).seen, (operations_both ps w.2).seen); held = (record { view = w.0.view; is = w.0.is; holds = refl }, (regions_both rs w.1).held, (operations_both ps w.2).held) })

    mutual
      -- what printing sees of regions of pointers, where blocks may have no label
      pub regions_seen : (ps : PtrRegions) → AllRegions (OperationWhole c) BlockThere (λ r. ⊤) ps → SeenRegions ps (seen_regions text_of c ps)
      regions_seen no_regions w = tt
      regions_seen (forest.region r bs ps) w = (tt, blocks_seen bs w.1, regions_seen ps w.2)

      pub blocks_seen : (ps : PtrBlocks) → AllBlocks (OperationWhole c) BlockThere (λ r. ⊤) ps → SeenBlocks ps (seen_blocks text_of c ps)
      blocks_seen no_blocks w = tt
      blocks_seen (forest.block b os ps) w =
          subst (λ z. SeenBlocks (forest.block b os ps) (elim z [ Some view ↦ forest.block (seen_block text_of c b view) (seen_operations text_of c os) (seen_blocks text_of c ps) | None ↦ seen_blocks text_of c ps ])) (sym w.0.is)
          (record { whole = w.0; sees = refl }, operations_seen os w.1, blocks_seen ps w.2)

      operations_seen : (ps : PtrOperations) → AllOperations (OperationWhole c) BlockThere (λ r. ⊤) ps → SeenOperations ps (seen_operations text_of c ps)
      operations_seen no_operations w = tt
      operations_seen (forest.operation p rs ps) w =
          subst (λ z. SeenOperations (forest.operation p rs ps) (elim z [ Some view ↦ forest.operation (seen_operation text_of c p view) (seen_regions text_of c rs) (seen_operations text_of c ps) | None ↦ seen_operations text_of c ps ])) (sym w.0.is)
          (record { whole = w.0; sees = refl }, regions_seen rs w.1, operations_seen ps w.2)

    -- what printing sees of regions of pointers under which all is there
    pub regions_shown : (ps : PtrRegions) → AllRegions (OperationWhole c) (BlockWhole c) (λ r. ⊤) ps → SeenRegions ps (seen_regions text_of c ps)
    regions_shown ps w = (regions_both ps w).seen

    -- what is held there
    pub regions_kept : (ps : PtrRegions) → AllRegions (OperationWhole c) (BlockWhole c) (λ r. ⊤) ps → HeldRegions ps (held_regions c all ps)
    regions_kept ps w = (regions_both ps w).held
