-- What is parsed from the printed text of a closed root is what the context holds of the root, up to fillings.
use Rattle.std.proofs.Common.{◌≡◌, ◌∙◌, ◌+◌, ◌⊎◌, ℕ, suc, Bool, true, false, cond, List, [], ◌∷◌, map, filter_map, slice_get, Option, Some, None, IsSome, Result, Ok, Err, option_map, refl, sym, ap, ap₂, subst, inl, inr, true≢false, arith}
use Rattle.std.specs.Prelude.{⊤, IfOk, IfErr, is_some, unwrap_or}
use Rattle.std.specs.List.{list_all, cons_option}
use Rattle.irtext_base.specs.Answers.{Outcome}
use Rattle.irtext_base.specs.Format.{Id}
use Rattle.irtext_base.specs.Own.{Lawful, Sincere, Unreserved, texts_of}
use Rattle.irtext_base.specs.Paths.{Written}
use Rattle.irtext_base.specs.Text.{Text}
use Rattle.irtext_base.specs.declared.text.AttrText as attr_text
use Rattle.irtext_base.specs.declared.text.IrText as ir_text
use Rattle.irtext_base.proofs.Characters.{and_left, and_right}
use Rattle.irtext_context.specs.Context.{ContextView, OperationView, BlockView, known, operation, block}
use Rattle.irtext_graph.specs.declared.arena.Ptr.{Ptr}
use Rattle.irtext_graph.specs.declared.object.BasicBlock.{BasicBlock}
use Rattle.irtext_graph.specs.declared.object.Defined.TheVariants.{OfValue}
use Rattle.irtext_graph.specs.declared.object.Object.{Object}
use Rattle.irtext_graph.specs.declared.object.Operation.{Operation}
use Rattle.irtext_graph.specs.declared.object.Site.TheVariants.{AtOperand}
use Rattle.irtext_graph.specs.declared.object.Value.{Value}
use Rattle.irtext_graph.specs.Chained.{Among}
use Rattle.irtext_graph.specs.Content.{Typed}
use Rattle.irtext_graph.specs.Graph.{children, parent}
use Rattle.irtext_graph.specs.Nested.{Nested}
use Rattle.irtext_graph.specs.Parts.{results, arguments, operands, successors, value_at}
use Rattle.irtext_graph.proofs.Nests.{some_eq}
use Rattle.irtext_graph.proofs.Preorders.{among_left, among_right}
use Rattle.irtext_graph.proofs.Same.{ptr_same}
use Rattle.irtext_grammar.specs.ContextParts.{KeepsAll}
use Rattle.irtext_grammar.specs.Contexts.Formats.{isolated}
use Rattle.irtext_grammar.specs.Contexts.Held.{known_types}
use Rattle.irtext_grammar.specs.Contexts.Nested.{number_of, place_of, typed_number, pointers, seen_operation, seen_block, seen_operations, seen_blocks, seen_regions, seen_root}
use Rattle.irtext_grammar.specs.Grammar.Forest as forest
use Rattle.irtext_grammar.specs.Grammar.Forest.{Regions, no_regions, Blocks, no_blocks, Operations, no_operations, MatchRegions, MatchBlocks, MatchOperations, AllRegions, AllBlocks, AllOperations}
use Rattle.irtext_grammar.specs.Grammar.Tree.{Attribute}
use Rattle.irtext_grammar.specs.Graphs.Build.{Built, BuiltOp, BuiltBlock}
use Rattle.irtext_grammar.specs.Graphs.Closed.{Thing, a_value, a_block, same_thing, graph_blocks}
use Rattle.irtext_grammar.specs.Graphs.Graph.{Graph, Printing}
use Rattle.irtext_grammar.specs.Graphs.Same.{ResolvedOp, ResolvedBlock, SameOp, SameBlock, SameDictionary, SameLabel, UpToFillings, resolved_op, resolved_block, resolved_regions, resolved_blocks, resolved_operations, resolved_root}
use Rattle.irtext_grammar.specs.Names.Scopes.{Fact, uses, defines, facts, lookup}
use Rattle.irtext_grammar.specs.Names.Script.{Path, Place}
use Rattle.irtext_grammar.specs.Promises.PrintedBack.{locations}
use Rattle.irtext_grammar.specs.Spelling.Spellable.{Each}
use Rattle.irtext_closed.specs.Closed.{IsClosedRoot}
use Rattle.irtext_grammar.proofs.Counted.{thing_same}
use Rattle.irtext_names.specs.Held.{PtrRegions, PtrBlocks, PtrOperations, OperationWhole, placed_regions, placed_blocks, placed_operations, placed_under, path_of, value_place, block_place, held_op, held_head, held_regions, held_blocks, held_operations, held_root}
use Rattle.irtext_names.proofs.OnePlace.{path_is}
use Rattle.irtext_parse_root.proofs.Undoing.{is_memory}
use Rattle.irtext_print.specs.Printers.Shown.{Shown}
use Rattle.pliron_text.specs.Calls.{ComesBack, IsExcused, printing}
use Rattle.pliron_text.specs.Fills.{FillsEntries, FillsOp, FillsBlock, IsFilled, IsNotRejected}
use Rattle.pliron_text.specs.declared.calls.NotBack.{NotBack}
use Rattle.pliron_text.specs.declared.calls.NotBack.TheVariants.{Unprinted, Unread}
use Rattle.pliron_text.proofs.ClosedThere.{own_there, inner_there}
use Rattle.pliron_text.proofs.HeldRepresents.{label_found}
use Rattle.pliron_text.proofs.SameLocations.{IsKeptLocation, fills_location}
use Rattle.pliron_text.proofs.Shown.{BlockThere, typed_seen, known_again, results_seen, arguments_seen, blocks_seen}
use Rattle.pliron_text.proofs.TrueFacts.{TrueValue, TrueLabel, blocks_true}

-- ---- what is looked up
module _ {T A : Type 0} (c : ContextView T A) (keeps : KeepsAll c) (all : List (Object × Path)) where
  -- two values with one number are one
  same_value : (v w : Value) (n : ℕ) → number_of c v ≡ Some n → number_of c w ≡ Some n → v ≡ w
  same_value v w n e f = go (value_at c.graph v) refl (value_at c.graph w) refl e f
    where
      go : (a : Option (Typed (Option T))) → value_at c.graph v ≡ a → (b : Option (Typed (Option T))) → value_at c.graph w ≡ b
          → option_map (λ (t : Typed (Option T)). t.number) a ≡ Some n → option_map (λ (t : Typed (Option T)). t.number) b ≡ Some n → v ≡ w
      go None q b r e f = absurd (cc)
      go (Some t) q None r e f = absurd (cc)
      go (Some t) q (Some u) r e f = keeps.counters.differ v w t u q r (some_eq e ∙ sym (some_eq f))

  -- two blocks at one place are one
  same_block : (a b : Ptr BasicBlock) → place_of c a ≡ place_of c b → a ≡ b
  same_block a b e =
      let index : c.graph.first_place + a.index ≡ c.graph.first_place + b.index = ap (λ z. z.0) e in
      ptr_same a b (omega (arith, index)) (ap (λ z. z.1) e)

  -- where the facts are true, a number is looked up as the place of its value
  value_found : (w : List (Fact Thing)) → Each (TrueValue c all) w → (v : Value) (n : ℕ) (q : Place) → number_of c v ≡ Some n → lookup same_thing (a_value n) w ≡ Some q → value_place all v ≡ Some q
  value_found [] t v n q e f = absurd (cc)
  value_found (uses m u ∷ w) t v n q e f = value_found w t.1 v n q e f
  value_found (defines (a_block at) r ∷ w) t v n q e f = absurd t.0
  value_found (defines (a_value m) r ∷ w) t v n q e f = go (same_thing (a_value m) (a_value n)) refl f (value_found w t.1 v n q e)
    where
      go : (b : Bool) → same_thing (a_value m) (a_value n) ≡ b → cond b (Some r) (lookup same_thing (a_value n) w) ≡ Some q → (lookup same_thing (a_value n) w ≡ Some q → value_place all v ≡ Some q) → value_place all v ≡ Some q
      go true is f later =
          let both : a_value m ≡ a_value n = thing_same (a_value m) (a_value n) is in
          let same : m ≡ n = cc in
          let one : v ≡ t.0.0 = same_value v t.0.0 n e (t.0.1 ∙ ap Some same) in
          ap (value_place all) one ∙ (t.0.2 ∙ f)
      go false is f later = later f

  -- and so is a block
  block_found : (l : List (Fact Thing)) → Each (TrueLabel c all) l → (b : Ptr BasicBlock) (q : Place) → lookup same_thing (a_block (place_of c b)) l ≡ Some q → block_place all b ≡ Some q
  block_found [] t b q f = absurd (cc)
  block_found (uses m u ∷ l) t b q f = block_found l t.1 b q f
  block_found (defines (a_value n) r ∷ l) t b q f = absurd t.0
  block_found (defines (a_block at) r ∷ l) t b q f = go (same_thing (a_block at) (a_block (place_of c b))) refl f (block_found l t.1 b q)
    where
      go : (d : Bool) → same_thing (a_block at) (a_block (place_of c b)) ≡ d → cond d (Some r) (lookup same_thing (a_block (place_of c b)) l) ≡ Some q → (lookup same_thing (a_block (place_of c b)) l ≡ Some q → block_place all b ≡ Some q) → block_place all b ≡ Some q
      go true is f later =
          let both : a_block at ≡ a_block (place_of c b) = thing_same (a_block at) (a_block (place_of c b)) is in
          let same : at ≡ place_of c b = cc in
          ap (block_place all) (same_block b t.0.0 (sym (t.0.1 ∙ same))) ∙ (t.0.2 ∙ f)
      go false is f later = later f

  found_as : {X : Type 0} (o : Option X) → is_some o ≡ true → (x : X) × (o ≡ Some x)
  found_as None e = absurd (true≢false (sym e))
  found_as (Some x) e = (x, refl)

  -- the operands of an operation are looked up as their places
  operands_are : (w : List (Fact Thing)) → Each (TrueValue c all) w → (vs : List Value) → ((i : ℕ) (v : Value) → slice_get vs i ≡ Some v → IsSome (value_at c.graph v))
      → list_all is_some (map (λ n. lookup same_thing (a_value n) w) (filter_map (number_of c) vs)) ≡ true → map (λ n. lookup same_thing (a_value n) w) (filter_map (number_of c) vs) ≡ map (value_place all) vs
  operands_are w t [] there h = refl
  operands_are w t (v ∷ vs) there h = go (value_at c.graph v) refl (there 0 v refl) (operands_are w t vs (λ i. there (suc i))) h
    where
      go : (o : Option (Typed (Option T))) → value_at c.graph v ≡ o → IsSome o
          → (list_all is_some (map (λ n. lookup same_thing (a_value n) w) (filter_map (number_of c) vs)) ≡ true → map (λ n. lookup same_thing (a_value n) w) (filter_map (number_of c) vs) ≡ map (value_place all) vs)
          → list_all is_some (map (λ n. lookup same_thing (a_value n) w) (cons_option (option_map (λ (t : Typed (Option T)). t.number) o) (filter_map (number_of c) vs))) ≡ true
          → map (λ n. lookup same_thing (a_value n) w) (cons_option (option_map (λ (t : Typed (Option T)). t.number) o) (filter_map (number_of c) vs)) ≡ value_place all v ∷ map (value_place all) vs
      go None is live later h = absurd (cc)
      go (Some u) is live later h =
          let first = and_left (is_some (lookup same_thing (a_value u.number) w)) (list_all is_some (map (λ n. lookup same_thing (a_value n) w) (filter_map (number_of c) vs))) h in
          let others = and_right (is_some (lookup same_thing (a_value u.number) w)) (list_all is_some (map (λ n. lookup same_thing (a_value n) w) (filter_map (number_of c) vs))) h in
          let found = found_as (lookup same_thing (a_value u.number) w) first in
          let number : number_of c v ≡ Some u.number = ap (option_map (λ (t : Typed (Option T)). t.number)) is in
          ap₂ (λ x xs. x ∷ xs) (found.1 ∙ sym (value_found w t v u.number found.0 number found.1)) (later others)

  -- so are its successors
  successors_are : (l : List (Fact Thing)) → Each (TrueLabel c all) l → (bs : List (Ptr BasicBlock)) → list_all is_some (map (λ b. lookup same_thing (a_block b) l) (map (place_of c) bs)) ≡ true
      → map (λ b. lookup same_thing (a_block b) l) (map (place_of c) bs) ≡ map (block_place all) bs
  successors_are l t [] h = refl
  successors_are l t (b ∷ bs) h =
      let first = and_left (is_some (lookup same_thing (a_block (place_of c b)) l)) (list_all is_some (map (λ b. lookup same_thing (a_block b) l) (map (place_of c) bs))) h in
      let others = and_right (is_some (lookup same_thing (a_block (place_of c b)) l)) (list_all is_some (map (λ b. lookup same_thing (a_block b) l) (map (place_of c) bs))) h in
      let found = found_as (lookup same_thing (a_block (place_of c b)) l) first in
      ap₂ (λ x xs. x ∷ xs) (found.1 ∙ sym (block_found l t b found.0 found.1)) (successors_are l t bs others)

-- ---- what the context holds of what was parsed
abbrev OpLocated : {T A : Type 0} → BuiltOp T A (Written A) → Type 0
OpLocated b = IsKeptLocation b.location

abbrev BlockLocated : {T A : Type 0} → BuiltBlock T A (Written A) → Type 0
BlockLocated b = IsKeptLocation b.location

module _ {T A : Type 0} (reading : Text → Outcome A) (text_of : A → Text) (lawful : Lawful A (texts_of reading text_of)) (sincere : Sincere reading) (unreserved : Unreserved A (texts_of reading text_of)) where
  module _ (d : ContextView T A) (kept : KeepsAll d) (every : List (Object × Path)) where
    mutual
      regions_located : (ps : PtrRegions) → AllRegions OpLocated BlockLocated (λ r. ⊤) (held_regions d every ps)
      regions_located no_regions = tt
      regions_located (forest.region r bs ps) = (tt, blocks_located bs, regions_located ps)

      blocks_located : (ps : PtrBlocks) → AllBlocks OpLocated BlockLocated (λ r. ⊤) (held_blocks d every ps)
      blocks_located no_blocks = tt
      blocks_located (forest.block b os ps) = go (block d b) refl (operations_located os) (blocks_located ps)
        where
          go : (o : Option (BlockView T A)) → block d b ≡ o → AllOperations OpLocated BlockLocated (λ r. ⊤) (held_operations d every os) → AllBlocks OpLocated BlockLocated (λ r. ⊤) (held_blocks d every ps)
              → AllBlocks OpLocated BlockLocated (λ r. ⊤) (elim o [ Some view ↦ forest.block (held_head d every view) (held_operations d every os) (held_blocks d every ps) | None ↦ held_blocks d every ps ])
          go None is inner rest = rest
          go (Some view) is inner rest = let k = kept.blocks b view is in (record { fits = k.fits; holds = k.holds }, inner, rest)

      operations_located : (ps : PtrOperations) → AllOperations OpLocated BlockLocated (λ r. ⊤) (held_operations d every ps)
      operations_located no_operations = tt
      operations_located (forest.operation p rs ps) = go (operation d p) refl (regions_located rs) (operations_located ps)
        where
          go : (o : Option (OperationView T A)) → operation d p ≡ o → AllRegions OpLocated BlockLocated (λ r. ⊤) (held_regions d every rs) → AllOperations OpLocated BlockLocated (λ r. ⊤) (held_operations d every ps)
              → AllOperations OpLocated BlockLocated (λ r. ⊤) (elim o [ Some view ↦ forest.operation (held_op d every p view) (held_regions d every rs) (held_operations d every ps) | None ↦ held_operations d every ps ])
          go None is inner rest = rest
          go (Some view) is inner rest = let k = kept.operations p view is in (record { fits = k.fits; holds = k.holds }, inner, rest)

  -- the locations of a root that is held are kept
  root_located : (d : ContextView T A) → KeepsAll d → (q : Ptr Operation) (b : Built T A (Written A)) → held_root d q ≡ Some b → OpLocated b.own × AllRegions OpLocated BlockLocated (λ r. ⊤) b.regions
  root_located d kept q b e = go (operation d q) refl e
    where
      go : (o : Option (OperationView T A)) → operation d q ≡ o
          → option_map (λ view. record { own = held_op d (placed_under (pointers d.graph q)) q view; regions = held_regions d (placed_under (pointers d.graph q)) (pointers d.graph q).regions }) o ≡ Some b
          → OpLocated b.own × AllRegions OpLocated BlockLocated (λ r. ⊤) b.regions
      go None is e = absurd (cc)
      go (Some view) is e =
          let k = kept.operations q view is in
          subst (λ (z : Built T A (Written A)). OpLocated z.own × AllRegions OpLocated BlockLocated (λ r. ⊤) z.regions) (some_eq e) (record { fits = k.fits; holds = k.holds }, regions_located d kept (placed_under (pointers d.graph q)) (pointers d.graph q).regions)

  -- ---- the printed root
  module _ (c : ContextView T A) (keeps : KeepsAll c) (root : Ptr Operation) (C : Printing T A) (label_seen : (b : Ptr BasicBlock) (view : BlockView T A) → block c b ≡ Some view → C.label (place_of c b) ≡ view.label) (alone : Id → Bool) where
    abbrev all : List (Object × Path)
    all = placed_under (pointers c.graph root)

    abbrev Into : List (Object × Path) → Type 0
    Into xs = (o : Object) (q : Path) → Among (o, q) xs → path_of all o ≡ Some q

    abbrev Values : List (Fact Thing) → Type 0
    Values w = Each (TrueValue c all) w

    abbrev Labels : List (Fact Thing) → Type 0
    Labels l = Each (TrueLabel c all) l

    -- the types of values, where all are known
    types_again : (vs : List (Typed (Option T))) (view : List (Option T)) (types : List T) → view ≡ map (λ (v : Typed (Option T)). v.of_type) vs → view ≡ known types → map (λ (r : ℕ × T). r.1) (filter_map typed_number vs) ≡ known_types view
    types_again vs view types seen known_as = typed_seen vs types (sym seen ∙ known_as) ∙ (sym (known_again types) ∙ ap known_types (sym known_as))

    entries_filled : (names : List Text) (es fs : List (Text × Attribute A)) → SameDictionary names es fs → FillsEntries es fs
    entries_filled names es fs same key = elim (same key) [ inl e ↦ inl e | inr x ↦ inr (x.0, x.1) ]

    label_filled : (name : Text) (o : Option Text) (l : Text) → SameLabel name o l → (l ≡ unwrap_or o []) ⊎ (unwrap_or o [] ≡ [])
    label_filled name None l e = inr refl
    label_filled name (Some k) l e = inl e

    -- an operation
    op_filled : (q : Ptr Operation) (whole : OperationWhole c q) (w l : List (Fact Thing)) → Values w → Labels l → (b : BuiltOp T A (Written A)) → OpLocated b → SameOp (locations text_of) (resolved_op C alone w l (seen_operation text_of c q whole.view)) b → FillsOp (held_op c all q whole.view) b
    op_filled q whole w l values labels b located s =
        let k = keeps.operations q whole.view whole.is in
        let r : ResolvedOp T A = resolved_op C alone w l (seen_operation text_of c q whole.view) in
        let there : (i : ℕ) (v : Value) → slice_get (operands c.graph q) i ≡ Some v → IsSome (value_at c.graph v) = λ i v e. keeps.counters.used (AtOperand q i) (OfValue v) (ap (option_map OfValue) e) in
        record {
          id = sym s.shape.id;
          result_types = sym s.shape.result_types ∙ types_again (results c.graph q) whole.view.result_types whole.types (results_seen c q whole.view whole.is) whole.known_as;
          operands = sym s.shape.operands ∙ operands_are c keeps all w values (operands c.graph q) there (ap (list_all is_some) s.shape.operands ∙ s.operands_there);
          successors = sym s.shape.successors ∙ successors_are c keeps all l labels (successors c.graph q) (ap (list_all is_some) s.shape.successors ∙ s.successors_there);
          attributes = entries_filled r.result_names r.attributes b.attributes s.dictionary;
          location = fills_location reading text_of lawful sincere unreserved c.paths whole.view.loc b.location (record { fits = k.fits; holds = k.holds }) located s.location;
        }

    -- a block
    block_filled : (p : Ptr BasicBlock) (there : BlockThere c p) (b : BuiltBlock T A (Written A)) → BlockLocated b → SameBlock (locations text_of) (resolved_block C alone (seen_block text_of c p there.view)) b → FillsBlock (held_head c all there.view) b
    block_filled p there b located s =
        let k = keeps.blocks p there.view there.is in
        let r : ResolvedBlock T A = resolved_block C alone (seen_block text_of c p there.view) in
        let same_label : SameLabel r.name there.view.label b.label = subst (λ o. SameLabel r.name o b.label) (label_seen p there.view there.is) s.label in
        record {
          label = label_filled r.name there.view.label b.label same_label;
          argument_types = sym s.shape.argument_types ∙ types_again (arguments c.graph p) there.view.arg_types there.types (arguments_seen c p there.view there.is) there.known_as;
          attributes = entries_filled r.argument_names r.attributes b.attributes s.dictionary;
          location = fills_location reading text_of lawful sincere unreserved c.paths there.view.loc b.location (record { fits = k.fits; holds = k.holds }) located s.location;
        }

    abbrev SameO : ResolvedOp T A → BuiltOp T A (Written A) → Type 0
    SameO = SameOp (locations text_of)

    abbrev SameB : ResolvedBlock T A → BuiltBlock T A (Written A) → Type 0
    SameB = SameBlock (locations text_of)

    chosen : (iso : Bool) (a w : List (Fact Thing)) → Values a → Values w → Values (cond iso a w)
    chosen true a w h k = h
    chosen false a w h k = k

    -- one more block
    this_block : (w l : List (Fact Thing)) (r : Path) (j : ℕ) (x : Ptr BasicBlock) (qs : PtrOperations) (ps : PtrBlocks) (bs : Blocks (BuiltOp T A (Written A)) (BuiltBlock T A (Written A)) ⊤) → BlockThere c x → AllBlocks OpLocated BlockLocated (λ r. ⊤) bs
        → ((os : Operations (BuiltOp T A (Written A)) (BuiltBlock T A (Written A)) ⊤) → AllOperations OpLocated BlockLocated (λ r. ⊤) os → MatchOperations SameO SameB (λ r s. ⊤) (resolved_operations C alone w l (j ∷ r) 0 (seen_operations text_of c qs)) os → MatchOperations FillsOp FillsBlock (λ r s. ⊤) (held_operations c all qs) os)
        → ((cs : Blocks (BuiltOp T A (Written A)) (BuiltBlock T A (Written A)) ⊤) → AllBlocks OpLocated BlockLocated (λ r. ⊤) cs → MatchBlocks SameO SameB (λ r s. ⊤) (resolved_blocks C alone w l r (suc j) (seen_blocks text_of c ps)) cs → MatchBlocks FillsOp FillsBlock (λ r s. ⊤) (held_blocks c all ps) cs)
        → MatchBlocks SameO SameB (λ r s. ⊤) (resolved_blocks C alone w l r j (seen_blocks text_of c (forest.block x qs ps))) bs → MatchBlocks FillsOp FillsBlock (λ r s. ⊤) (held_blocks c all (forest.block x qs ps)) bs
    this_block w l r j x qs ps bs t k inner rest m =
        subst (λ o. MatchBlocks SameO SameB (λ r s. ⊤) (resolved_blocks C alone w l r j (elim o [ Some view ↦ forest.block (seen_block text_of c x view) (seen_operations text_of c qs) (seen_blocks text_of c ps) | None ↦ seen_blocks text_of c ps ])) bs
        → MatchBlocks FillsOp FillsBlock (λ r s. ⊤) (elim o [ Some view ↦ forest.block (held_head c all view) (held_operations c all qs) (held_blocks c all ps) | None ↦ held_blocks c all ps ]) bs) (sym t.is) (go bs k) m
      where
        go : (bs : Blocks (BuiltOp T A (Written A)) (BuiltBlock T A (Written A)) ⊤) → AllBlocks OpLocated BlockLocated (λ r. ⊤) bs
            → MatchBlocks SameO SameB (λ r s. ⊤) (forest.block (resolved_block C alone (seen_block text_of c x t.view)) (resolved_operations C alone w l (j ∷ r) 0 (seen_operations text_of c qs)) (resolved_blocks C alone w l r (suc j) (seen_blocks text_of c ps))) bs
            → MatchBlocks FillsOp FillsBlock (λ r s. ⊤) (forest.block (held_head c all t.view) (held_operations c all qs) (held_blocks c all ps)) bs
        go no_blocks k m = absurd m
        go (forest.block z os cs) k m = (block_filled x t z k.0 m.0, inner os k.1 m.1, rest cs k.2 m.2)

    -- one more operation
    this_operation : (w l : List (Fact Thing)) (r : Path) (j : ℕ) (x : Ptr Operation) (qs : PtrRegions) (ps : PtrOperations) (bs : Operations (BuiltOp T A (Written A)) (BuiltBlock T A (Written A)) ⊤) → OperationWhole c x → AllOperations OpLocated BlockLocated (λ r. ⊤) bs → Values w → Labels l
        → ((b : Bool) (rs : Regions (BuiltOp T A (Written A)) (BuiltBlock T A (Written A)) ⊤) → AllRegions OpLocated BlockLocated (λ r. ⊤) rs → MatchRegions SameO SameB (λ r s. ⊤) (resolved_regions C alone w (j ∷ r) 0 b (seen_regions text_of c qs)) rs → MatchRegions FillsOp FillsBlock (λ r s. ⊤) (held_regions c all qs) rs)
        → ((cs : Operations (BuiltOp T A (Written A)) (BuiltBlock T A (Written A)) ⊤) → AllOperations OpLocated BlockLocated (λ r. ⊤) cs → MatchOperations SameO SameB (λ r s. ⊤) (resolved_operations C alone w l r (suc j) (seen_operations text_of c ps)) cs → MatchOperations FillsOp FillsBlock (λ r s. ⊤) (held_operations c all ps) cs)
        → MatchOperations SameO SameB (λ r s. ⊤) (resolved_operations C alone w l r j (seen_operations text_of c (forest.operation x qs ps))) bs → MatchOperations FillsOp FillsBlock (λ r s. ⊤) (held_operations c all (forest.operation x qs ps)) bs
    this_operation w l r j x qs ps bs t k v u inner rest m =
        subst (λ o. MatchOperations SameO SameB (λ r s. ⊤) (resolved_operations C alone w l r j (elim o [ Some view ↦ forest.operation (seen_operation text_of c x view) (seen_regions text_of c qs) (seen_operations text_of c ps) | None ↦ seen_operations text_of c ps ])) bs
        → MatchOperations FillsOp FillsBlock (λ r s. ⊤) (elim o [ Some view ↦ forest.operation (held_op c all x view) (held_regions c all qs) (held_operations c all ps) | None ↦ held_operations c all ps ]) bs) (sym t.is) (go bs k) m
      where
        go : (bs : Operations (BuiltOp T A (Written A)) (BuiltBlock T A (Written A)) ⊤) → AllOperations OpLocated BlockLocated (λ r. ⊤) bs
            → MatchOperations SameO SameB (λ r s. ⊤) (resolved_operations C alone w l r j (forest.operation (seen_operation text_of c x t.view) (seen_regions text_of c qs) (seen_operations text_of c ps))) bs
            → MatchOperations FillsOp FillsBlock (λ r s. ⊤) (forest.operation (held_op c all x t.view) (held_regions c all qs) (held_operations c all ps)) bs
        go no_operations k m = absurd m
        go (forest.operation z rs cs) k m = (op_filled x t w l v u z k.0 m.0, inner (alone (seen_operation text_of c x t.view).id) rs k.1 m.1, rest cs k.2 m.2)

    mutual
      regions_filled : (w : List (Fact Thing)) (r : Path) (j : ℕ) (iso : Bool) (ps : PtrRegions) (bs : Regions (BuiltOp T A (Written A)) (BuiltBlock T A (Written A)) ⊤) → AllRegions (OperationWhole c) (BlockThere c) (λ r. ⊤) ps → AllRegions OpLocated BlockLocated (λ r. ⊤) bs → Into (placed_regions r j ps) → Values w
          → MatchRegions SameO SameB (λ r s. ⊤) (resolved_regions C alone w r j iso (seen_regions text_of c ps)) bs → MatchRegions FillsOp FillsBlock (λ r s. ⊤) (held_regions c all ps) bs
      regions_filled w r j iso no_regions no_regions t k i v m = tt
      regions_filled w r j iso no_regions (forest.region z cs bs) t k i v m = absurd m
      regions_filled w r j iso (forest.region x qs ps) no_regions t k i v m = absurd m
      regions_filled w r j iso (forest.region x qs ps) (forest.region z cs bs) t k i v m =
          let body = graph_blocks C alone (j ∷ r) 0 (seen_blocks text_of c qs) in
          let inner : Into (placed_blocks (j ∷ r) 0 qs) = λ o q a. i o q (inr (among_left (o, q) (placed_blocks (j ∷ r) 0 qs) (placed_regions r (suc j) ps) a)) in
          let so = blocks_true c all text_of C alone (j ∷ r) 0 qs (seen_blocks text_of c qs) (blocks_seen c text_of all qs t.1) inner in (
            tt,
            blocks_filled (cond iso (facts same_thing body).values w) (facts same_thing body).labels (j ∷ r) 0 qs cs t.1 k.1 inner (chosen iso (facts same_thing body).values w so.values v) so.labels m.1,
            regions_filled w r (suc j) iso ps bs t.2 k.2 (λ o q a. i o q (inr (among_right (o, q) (placed_blocks (j ∷ r) 0 qs) (placed_regions r (suc j) ps) a))) v m.2,
          )

      blocks_filled : (w l : List (Fact Thing)) (r : Path) (j : ℕ) (ps : PtrBlocks) (bs : Blocks (BuiltOp T A (Written A)) (BuiltBlock T A (Written A)) ⊤) → AllBlocks (OperationWhole c) (BlockThere c) (λ r. ⊤) ps → AllBlocks OpLocated BlockLocated (λ r. ⊤) bs → Into (placed_blocks r j ps) → Values w → Labels l
          → MatchBlocks SameO SameB (λ r s. ⊤) (resolved_blocks C alone w l r j (seen_blocks text_of c ps)) bs → MatchBlocks FillsOp FillsBlock (λ r s. ⊤) (held_blocks c all ps) bs
      blocks_filled w l r j no_blocks no_blocks t k i v u m = tt
      blocks_filled w l r j no_blocks (forest.block z os bs) t k i v u m = absurd m
      blocks_filled w l r j (forest.block x qs ps) bs t k i v u m =
          let inner = λ (os : Operations (BuiltOp T A (Written A)) (BuiltBlock T A (Written A)) ⊤) (g : AllOperations OpLocated BlockLocated (λ r. ⊤) os). operations_filled w l (j ∷ r) 0 qs os t.1 g (λ o q a. i o q (inr (among_left (o, q) (placed_operations (j ∷ r) 0 qs) (placed_blocks r (suc j) ps) a))) v u in
          let rest = λ (cs : Blocks (BuiltOp T A (Written A)) (BuiltBlock T A (Written A)) ⊤) (g : AllBlocks OpLocated BlockLocated (λ r. ⊤) cs). blocks_filled w l r (suc j) ps cs t.2 g (λ o q a. i o q (inr (among_right (o, q) (placed_operations (j ∷ r) 0 qs) (placed_blocks r (suc j) ps) a))) v u in
          this_block w l r j x qs ps bs t.0 k inner rest m

      operations_filled : (w l : List (Fact Thing)) (r : Path) (j : ℕ) (ps : PtrOperations) (bs : Operations (BuiltOp T A (Written A)) (BuiltBlock T A (Written A)) ⊤) → AllOperations (OperationWhole c) (BlockThere c) (λ r. ⊤) ps → AllOperations OpLocated BlockLocated (λ r. ⊤) bs → Into (placed_operations r j ps) → Values w → Labels l
          → MatchOperations SameO SameB (λ r s. ⊤) (resolved_operations C alone w l r j (seen_operations text_of c ps)) bs → MatchOperations FillsOp FillsBlock (λ r s. ⊤) (held_operations c all ps) bs
      operations_filled w l r j no_operations no_operations t k i v u m = tt
      operations_filled w l r j no_operations (forest.operation z rs bs) t k i v u m = absurd m
      operations_filled w l r j (forest.operation x qs ps) bs t k i v u m =
          let inner = λ (b : Bool) (rs : Regions (BuiltOp T A (Written A)) (BuiltBlock T A (Written A)) ⊤) (g : AllRegions OpLocated BlockLocated (λ r. ⊤) rs). regions_filled w (j ∷ r) 0 b qs rs t.1 g (λ o q a. i o q (inr (among_left (o, q) (placed_regions (j ∷ r) 0 qs) (placed_operations r (suc j) ps) a))) v in
          let rest = λ (cs : Operations (BuiltOp T A (Written A)) (BuiltBlock T A (Written A)) ⊤) (g : AllOperations OpLocated BlockLocated (λ r. ⊤) cs). operations_filled w l r (suc j) ps cs t.2 g (λ o q a. i o q (inr (among_right (o, q) (placed_regions (j ∷ r) 0 qs) (placed_operations r (suc j) ps) a))) v u in
          this_operation w l r j x qs ps bs t.0 k v u inner rest m

    module _ (shut : IsClosedRoot c root) where
      abbrev own : OperationWhole c root
      own = own_there c root keeps.counters.nested shut

      abbrev seen : Graph T A
      seen = record { own = seen_operation text_of c root own.view; regions = seen_regions text_of c (pointers c.graph root).regions }

      seen_is : (g : Graph T A) → seen_root text_of c root ≡ Some g → seen ≡ g
      seen_is g sees = some_eq (sym (ap (option_map (λ op. record { own = seen_operation text_of c root op; regions = seen_regions text_of c (pointers c.graph root).regions })) own.is) ∙ sees)

      -- what another context holds is the root up to fillings, if it is what printing sees of the root up to fillings
      pub root_filled : (g : Graph T A) → seen_root text_of c root ≡ Some g → (d : ContextView T A) → KeepsAll d → (q : Ptr Operation) (b : Built T A (Written A)) → held_root d q ≡ Some b → UpToFillings (locations text_of) (resolved_root C alone g) b → IsFilled c root d q
      root_filled g sees d kept q b holds same =
          let located = root_located d kept q b holds in
          let m = subst (λ (z : Graph T A). UpToFillings (locations text_of) (resolved_root C alone z) b) (sym (seen_is g sees)) same in
          record {
            old = record { own = held_op c all root own.view; regions = held_regions c all (pointers c.graph root).regions };
            holds = ap (option_map (λ view. record { own = held_op c all root view; regions = held_regions c all (pointers c.graph root).regions })) own.is;
            new = b;
            again = holds;
            same = (
              op_filled root own [] [] tt tt b.own located.0 m.0,
              regions_filled [] [] 0 (alone (seen_operation text_of c root own.view).id) (pointers c.graph root).regions b.regions (inner_there c root keeps.counters.nested shut) located.1 (λ o q a. path_is c.graph keeps.counters.nested root o q (inr a)) tt m.1,
            );
          }

-- a closed root is seen by printing
pub seen_closed : {T A : Type 0} (text_of : A → Text) (c : ContextView T A) (root : Ptr Operation) → Nested (children c.graph) (parent c.graph) → IsClosedRoot c root → (g : Graph T A) × (seen_root text_of c root ≡ Some g)
seen_closed text_of c root nested shut =
    let own = own_there c root nested shut in (
      record { own = seen_operation text_of c root own.view; regions = seen_regions text_of c (pointers c.graph root).regions },
      ap (option_map (λ op. record { own = seen_operation text_of c root op; regions = seen_regions text_of c (pointers c.graph root).regions })) own.is,
    )

-- ---- the call that prints a root and parses the text
module _ {T A : Type 0} (types : ir_text.Ghosts T A) (owns : ir_text.Ghosts A A) (attributes : attr_text.Ghosts A A) (same : A → A → Bool) (ctx : ContextView T A) (p : Ptr Operation) (layout : Shown (Unit {0})) (other left : ContextView T A) where
  -- the root that is returned is the printed one up to fillings
  pub filled : Lawful A (texts_of owns.reading owns.written) → Sincere owns.reading → Unreserved A (texts_of owns.reading owns.written) → KeepsAll ctx → KeepsAll left → IsClosedRoot ctx p
      → (result : Result (Ptr Operation) (NotBack A)) → ((g : Graph T A) → seen_root owns.written ctx p ≡ Some g → IfOk result (λ q. ComesBack types owns attributes same ctx p layout other q left g)) → IfOk result (λ q. IsFilled ctx p left q)
  filled lawful sincere unreserved keeps kept shut (Err lost) back = tt
  filled lawful sincere unreserved keeps kept shut (Ok q) back =
      let seen = seen_closed owns.written ctx p keeps.counters.nested shut in
      let held = (back seen.0 seen.1).1 in
      root_filled owns.reading owns.written lawful sincere unreserved ctx keeps p (printing types owns attributes same ctx p layout) (label_found ctx attributes.outlined attributes.print_once same) (isolated ctx.dialects) shut seen.0 seen.1 left kept q held.built held.is held.same

  -- its text is not rejected
  pub never_rejected : (result : Result (Ptr Operation) (NotBack A)) → IfErr result (IsExcused types owns attributes same ctx p layout) → IfErr result IsNotRejected
  never_rejected (Ok q) h = tt
  never_rejected (Err (Unprinted refusal)) h = tt
  never_rejected (Err (Unread fault)) h = is_memory fault.cause h
