-- Where a forest of pointers is that of a tree, and each use of the tree's links is what its place in the graph names, what is held there
-- is what the tree builds with the entries of its section.
use Rattle.std.proofs.Common.{◌≡◌, ◌∙◌, ◌+◌, ℕ, zero, suc, Bool, true, cond, List, [], ◌∷◌, ◌++◌, length, map, Option, Some, None, option_map, is_some, slice_get, refl, sym, ap, ap₂, subst, inl, inr, arith}
use Rattle.std.specs.Prelude.{⊤}
use Rattle.std.specs.List.{list_all}
use Rattle.irtext_base.specs.Format.{same_text, Id}
use Rattle.irtext_base.specs.Paths.{Written}
use Rattle.irtext_context.specs.Context.{ContextView, known, operation, block}
use Rattle.irtext_graph.specs.declared.arena.Ptr.{Ptr}
use Rattle.irtext_graph.specs.declared.object.Operation.{Operation}
use Rattle.irtext_graph.specs.declared.object.BasicBlock.{BasicBlock}
use Rattle.irtext_graph.specs.declared.object.Region.{Region}
use Rattle.irtext_graph.specs.declared.object.Object.{Object}
use Rattle.irtext_graph.specs.declared.object.Object.TheVariants.{TheOperation}
use Rattle.irtext_graph.specs.declared.object.Value.{Value}
use Rattle.irtext_graph.specs.declared.object.Defined.{Defined}
use Rattle.irtext_graph.specs.declared.object.Defined.TheVariants.{OfValue, OfBlock}
use Rattle.irtext_graph.specs.declared.object.Site.TheVariants.{AtOperand, AtSuccessor}
use Rattle.irtext_graph.specs.Chained.{Among}
use Rattle.irtext_graph.specs.Parts.{operands, successors}
use Rattle.irtext_graph.specs.Used.{used_at}
use Rattle.irtext_graph.proofs.Preorders.{among_left, among_right}
use Rattle.irtext_grammar.specs.Contexts.Held.{known_types}
use Rattle.irtext_grammar.specs.Grammar.Forest as forest
use Rattle.irtext_grammar.specs.Grammar.Forest.{Regions, no_regions, Blocks, no_blocks, Operations, no_operations, Root, AllRegions, AllBlocks, AllOperations}
use Rattle.irtext_grammar.specs.Grammar.Tree.{Op, Head, Brace, Tree, operand_names, successor_labels}
use Rattle.irtext_grammar.specs.Grammar.Section.{Entry}
use Rattle.irtext_grammar.specs.Graphs.Build.{built_op, built_head, built_regions, built_blocks, built_operations, build}
use Rattle.irtext_grammar.specs.Graphs.Links.{OpLinked, Linked, links_from, op_links, region_links, block_links, operation_links, links}
use Rattle.irtext_grammar.specs.Names.Acts.{blocks_script}
use Rattle.irtext_grammar.specs.Names.Placeholders.{In}
use Rattle.irtext_grammar.specs.Names.Scopes.{link, facts, lookup}
use Rattle.irtext_grammar.specs.Names.Script.{Path, Place, User, operand, successor}
use Rattle.irtext_grammar.specs.Names.TextScopes.{Fact}
use Rattle.irtext_grammar.proofs.Lists.Sets.{in_left, in_right}
use Rattle.irtext_grammar.specs.Unchanged.{own_of}
use Rattle.irtext_names.specs.Held.{PtrRegions, PtrBlocks, PtrOperations, placed_regions, placed_blocks, placed_operations, placed_under, value_place, block_place, defined_place, held_op, held_head, held_regions, held_blocks, held_operations}
use Rattle.irtext_names.specs.Given.{OperationHas, BlockHas, RegionsHave, BlocksHave, OperationsHave, RootHas}

-- ---- lists of places
-- lists of equal length that agree at each index are equal
lists_same : {X : Type 0} (xs ys : List (Option X)) → length xs ≡ length ys → list_all is_some ys ≡ true → ((i : ℕ) (q : X) → slice_get ys i ≡ Some (Some q) → slice_get xs i ≡ Some (Some q)) → xs ≡ ys
lists_same [] [] l a h = refl
lists_same [] (y ∷ ys) l a h = absurd (omega (arith, l))
lists_same (x ∷ xs) [] l a h = absurd (omega (arith, l))
lists_same (x ∷ xs) (None ∷ ys) l a h = absurd (cc)
lists_same {X} (x ∷ xs) (Some q ∷ ys) l a h = ap₂ (λ u v. u ∷ v) (first (h 0 q refl)) (lists_same xs ys (omega (arith, l)) a (λ i r e. h (suc i) r e))
  where
    first : Some x ≡ Some (Some q) → x ≡ Some q
    first e = cc

-- a place at an index is among the links from there
link_there : (user : ℕ → User) (k i : ℕ) (q : Place) (os : List (Option Place)) → slice_get os i ≡ Some (Some q) → In (user (k + i), q) (links_from user k os)
link_there user k zero q [] e = absurd (cc)
link_there user k (suc i) q [] e = absurd (cc)
link_there user k zero q (o ∷ os) e =
    let same : o ≡ Some q = cc in
    in_left (user (k + 0), q) (link (user k) o) (links_from user (suc k) os) (subst (λ z. In (user (k + 0), q) (link (user k) z)) (sym same) (inl (ap (λ j. (user j, q)) (omega arith))))
link_there user k (suc i) q (o ∷ os) e =
    in_right (user (k + suc i), q) (link (user k) o) (links_from user (suc k) os) (subst (λ j. In (user j, q) (links_from user (suc k) os)) (omega arith) (link_there user (suc k) i q os e))

pub link_first : (user : ℕ → User) (i : ℕ) (q : Place) (os : List (Option Place)) → slice_get os i ≡ Some (Some q) → In (user i, q) (links_from user 0 os)
link_first user i q os e = subst (λ j. In (user j, q) (links_from user 0 os)) (omega arith) (link_there user 0 i q os e)

pub get_map : {X Y : Type 0} (f : X → Y) (xs : List X) (i : ℕ) → slice_get (map f xs) i ≡ option_map f (slice_get xs i)
get_map f [] i = refl
get_map f (x ∷ xs) zero = refl
get_map f (x ∷ xs) (suc i) = get_map f xs i

map_length : {X Y : Type 0} (f : X → Y) (xs : List X) → length (map f xs) ≡ length xs
map_length f [] = refl
map_length f (x ∷ xs) = ap suc (map_length f xs)

-- types that are known, each of them, are these
known_back : {T : Type 0} (types : List T) → known_types (known types) ≡ types
known_back [] = refl
known_back (t ∷ types) = ap (λ ts. t ∷ ts) (known_back types)

module _ {T A : Type 0} (c : ContextView T A) (first : ℕ → Written A) (es : List (Entry ℕ A (Written A))) (isolated : Id → Bool) (all : List (Object × Path)) where
  -- what each link of an operation is to the graph
  pub record Keeps (ls : List (User × Place)) : Type 0 where
    pub operands_keep : (p : Ptr Operation) (r : Path) (i : ℕ) (q : Place) → Among (TheOperation p, r) all → In (operand r i, q) ls → (d : Defined) × (used_at c.graph (AtOperand p i) ≡ Some d) × (defined_place all d ≡ Some q)
    pub successors_keep : (p : Ptr Operation) (r : Path) (i : ℕ) (q : Place) → Among (TheOperation p, r) all → In (successor r i, q) ls → (d : Defined) × (used_at c.graph (AtSuccessor p i) ≡ Some d) × (defined_place all d ≡ Some q)

  keeps_left : (xs ys : List (User × Place)) → Keeps (xs ++ ys) → Keeps xs
  keeps_left xs ys k = record {
    operands_keep = λ p r i q a l. k.operands_keep p r i q a (in_left (operand r i, q) xs ys l);
    successors_keep = λ p r i q a l. k.successors_keep p r i q a (in_left (successor r i, q) xs ys l);
  }

  keeps_right : (xs ys : List (User × Place)) → Keeps (xs ++ ys) → Keeps ys
  keeps_right xs ys k = record {
    operands_keep = λ p r i q a l. k.operands_keep p r i q a (in_right (operand r i, q) xs ys l);
    successors_keep = λ p r i q a l. k.successors_keep p r i q a (in_right (successor r i, q) xs ys l);
  }

  -- ---- an operation's own
  operand_at : (p : Ptr Operation) (i : ℕ) (q : Place) → (d : Defined) × (used_at c.graph (AtOperand p i) ≡ Some d) × (defined_place all d ≡ Some q) → slice_get (map (value_place all) (operands c.graph p)) i ≡ Some (Some q)
  operand_at p i q (d, e, at) = get_map (value_place all) (operands c.graph p) i ∙ go (slice_get (operands c.graph p) i) e
    where
      go : (x : Option Value) → option_map OfValue x ≡ Some d → option_map (value_place all) x ≡ Some (Some q)
      go None f = absurd (cc)
      go (Some v) f = let same : OfValue v ≡ d = cc in ap Some (subst (λ z. defined_place all z ≡ Some q) (sym same) at)

  successor_at : (p : Ptr Operation) (i : ℕ) (q : Place) → (d : Defined) × (used_at c.graph (AtSuccessor p i) ≡ Some d) × (defined_place all d ≡ Some q) → slice_get (map (block_place all) (successors c.graph p)) i ≡ Some (Some q)
  successor_at p i q (d, e, at) = get_map (block_place all) (successors c.graph p) i ∙ go (slice_get (successors c.graph p) i) e
    where
      go : (x : Option (Ptr BasicBlock)) → option_map OfBlock x ≡ Some d → option_map (block_place all) x ≡ Some (Some q)
      go None f = absurd (cc)
      go (Some b) f = let same : OfBlock b ≡ d = cc in ap Some (subst (λ z. defined_place all z ≡ Some q) (sym same) at)

  own_same : (v l : List Fact) (r : Path) (p : Ptr Operation) (o : Op ℕ T A) (at : OperationHas c first es p o) → Among (TheOperation p, r) all → OpLinked (built_op isolated first es v l o) → Keeps (op_links r (built_op isolated first es v l o))
      → held_op c all p at.view ≡ built_op isolated first es v l o
  own_same v l r p o at there linked keeps =
      let these = map (λ n. lookup same_text n.text v) (operand_names o) in
      let those = map (λ n. lookup same_text n.text l) (successor_labels o) in
      let os = lists_same (map (value_place all) (operands c.graph p)) these (map_length (value_place all) (operands c.graph p) ∙ (at.uses.operands_are ∙ sym (map_length (λ n. lookup same_text n.text v) (operand_names o)))) linked.0
      (λ i q e. operand_at p i q (keeps.operands_keep p r i q there (in_left (operand r i, q) (links_from (operand r) 0 these) (links_from (successor r) 0 those) (link_first (operand r) i q these e)))) in
      let ss = lists_same (map (block_place all) (successors c.graph p)) those (map_length (block_place all) (successors c.graph p) ∙ (at.uses.successors_are ∙ sym (map_length (λ n. lookup same_text n.text l) (successor_labels o)))) linked.1
      (λ i q e. successor_at p i q (keeps.successors_keep p r i q there (in_right (successor r i, q) (links_from (operand r) 0 these) (links_from (successor r) 0 those) (link_first (successor r) i q those e)))) in
      λ i. record {
        id = at.id i;
        result_types = (ap known_types at.types ∙ known_back (own_of o).types) i;
        operands = os i;
        successors = ss i;
        attributes = at.entries i;
        location = at.location i;
      }

  head_same : (b : Ptr BasicBlock) (h : Head ℕ T A) (at : BlockHas c first es b h) → held_head c all at.view ≡ built_head isolated first es h
  head_same b h at = λ i. record { label = at.label i; argument_types = (ap known_types at.types ∙ known_back (map (λ a. a.1) h.arguments)) i; attributes = at.entries i; location = at.location i }

  -- ---- the forest
  mutual
    pub regions_same : (v : List Fact) (p : Path) (j : ℕ) (iso : Bool) (ps : PtrRegions) (rs : Regions (Op ℕ T A) (Head ℕ T A) (Brace ℕ)) → RegionsHave c first es ps rs → ((o : Object) (q : Path) → Among (o, q) (placed_regions p j ps) → Among (o, q) all)
        → AllRegions OpLinked (λ b. ⊤) (λ r. ⊤) (built_regions isolated first es v p j iso rs) → Keeps (region_links p j (built_regions isolated first es v p j iso rs)) → held_regions c all ps ≡ built_regions isolated first es v p j iso rs
    regions_same v p j iso no_regions no_regions h there linked keeps = refl
    regions_same v p j iso (forest.region r qs ps) (forest.region brace bs rs) (k, h) there linked keeps =
        let inside = facts same_text (blocks_script isolated (j ∷ p) 0 bs) in
        let now = built_blocks isolated first es (cond iso inside.values v) inside.labels (j ∷ p) 0 bs in
        let next = built_regions isolated first es v p (suc j) iso rs in
        ap₂ (λ x y. forest.region tt x y)
        (blocks_same (cond iso inside.values v) inside.labels (j ∷ p) 0 qs bs k (λ o q a. there o q (inr (among_left (o, q) (placed_blocks (j ∷ p) 0 qs) (placed_regions p (suc j) ps) a))) linked.1 (keeps_left (block_links (j ∷ p) 0 now) (region_links p (suc j) next) keeps))
        (regions_same v p (suc j) iso ps rs h (λ o q a. there o q (inr (among_right (o, q) (placed_blocks (j ∷ p) 0 qs) (placed_regions p (suc j) ps) a))) linked.2 (keeps_right (block_links (j ∷ p) 0 now) (region_links p (suc j) next) keeps))
    regions_same v p j iso _ _ h there linked keeps = absurd h

    blocks_same : (v l : List Fact) (p : Path) (j : ℕ) (ps : PtrBlocks) (bs : Blocks (Op ℕ T A) (Head ℕ T A) (Brace ℕ)) → BlocksHave c first es ps bs → ((o : Object) (q : Path) → Among (o, q) (placed_blocks p j ps) → Among (o, q) all)
        → AllBlocks OpLinked (λ b. ⊤) (λ r. ⊤) (built_blocks isolated first es v l p j bs) → Keeps (block_links p j (built_blocks isolated first es v l p j bs)) → held_blocks c all ps ≡ built_blocks isolated first es v l p j bs
    blocks_same v l p j no_blocks no_blocks h there linked keeps = refl
    blocks_same v l p j (forest.block b qs ps) (forest.block head os bs) (at, k, h) there linked keeps =
        let now = built_operations isolated first es v l (j ∷ p) 0 os in
        let next = built_blocks isolated first es v l p (suc j) bs in
        let inner = operations_same v l (j ∷ p) 0 qs os k (λ o q a. there o q (inr (among_left (o, q) (placed_operations (j ∷ p) 0 qs) (placed_blocks p (suc j) ps) a))) linked.1 (keeps_left (operation_links (j ∷ p) 0 now) (block_links p (suc j) next) keeps) in
        let others = blocks_same v l p (suc j) ps bs h (λ o q a. there o q (inr (among_right (o, q) (placed_operations (j ∷ p) 0 qs) (placed_blocks p (suc j) ps) a))) linked.2 (keeps_right (operation_links (j ∷ p) 0 now) (block_links p (suc j) next) keeps) in
        ap (λ z. elim z [ Some view ↦ forest.block (held_head c all view) (held_operations c all qs) (held_blocks c all ps) | None ↦ held_blocks c all ps ]) at.is
        ∙ (λ i. forest.block (head_same b head at i) (inner i) (others i))
    blocks_same v l p j _ _ h there linked keeps = absurd h

    operations_same : (v l : List Fact) (p : Path) (j : ℕ) (ps : PtrOperations) (os : Operations (Op ℕ T A) (Head ℕ T A) (Brace ℕ)) → OperationsHave c first es ps os → ((o : Object) (q : Path) → Among (o, q) (placed_operations p j ps) → Among (o, q) all)
        → AllOperations OpLinked (λ b. ⊤) (λ r. ⊤) (built_operations isolated first es v l p j os) → Keeps (operation_links p j (built_operations isolated first es v l p j os)) → held_operations c all ps ≡ built_operations isolated first es v l p j os
    operations_same v l p j no_operations no_operations h there linked keeps = refl
    operations_same v l p j (forest.operation q qs ps) (forest.operation o rs os) (at, k, h) there linked keeps =
        let own = built_op isolated first es v l o in
        let inside = built_regions isolated first es v (j ∷ p) 0 (isolated o.id) rs in
        let next = built_operations isolated first es v l p (suc j) os in
        let here = keeps_left (op_links (j ∷ p) own ++ region_links (j ∷ p) 0 inside) (operation_links p (suc j) next) keeps in
        let first_own = own_same v l (j ∷ p) q o at (there (TheOperation q) (j ∷ p) (inl refl)) linked.0 (keeps_left (op_links (j ∷ p) own) (region_links (j ∷ p) 0 inside) here) in
        let inner = regions_same v (j ∷ p) 0 (isolated o.id) qs rs k (λ x r a. there x r (inr (among_left (x, r) (placed_regions (j ∷ p) 0 qs) (placed_operations p (suc j) ps) a))) linked.1 (keeps_right (op_links (j ∷ p) own) (region_links (j ∷ p) 0 inside) here) in
        let others = operations_same v l p (suc j) ps os h (λ x r a. there x r (inr (among_right (x, r) (placed_regions (j ∷ p) 0 qs) (placed_operations p (suc j) ps) a))) linked.2
        (keeps_right (op_links (j ∷ p) own ++ region_links (j ∷ p) 0 inside) (operation_links p (suc j) next) keeps) in
        ap (λ z. elim z [ Some view ↦ forest.operation (held_op c all q view) (held_regions c all qs) (held_operations c all ps) | None ↦ held_operations c all ps ]) at.is
        ∙ (λ i. forest.operation (first_own i) (inner i) (others i))
    operations_same v l p j _ _ h there linked keeps = absurd h

module _ {T A : Type 0} (c : ContextView T A) (first : ℕ → Written A) (es : List (Entry ℕ A (Written A))) (isolated : Id → Bool) (ps : Root (Ptr Operation) (Ptr BasicBlock) (Ptr Region)) (t : Tree ℕ T A) (has : RootHas c first es ps t) where
  abbrev under : List (Object × Path)
  under = placed_under ps

  -- what is held under the root is what the tree builds with its entries
  pub root_same : Linked (build isolated first es t) → Keeps c first es isolated under (links (build isolated first es t))
      → option_map (λ view. record { own = held_op c under ps.own view; regions = held_regions c under ps.regions }) (operation c ps.own) ≡ Some (build isolated first es t)
  root_same linked keeps =
      let own = built_op isolated first es [] [] t.own in
      let inside = built_regions isolated first es [] [] 0 (isolated t.own.id) t.regions in
      let first_own = own_same c first es isolated under [] [] [] ps.own t.own has.0 (inl refl) linked.0 (keeps_left c first es isolated under (op_links [] own) (region_links [] 0 inside) keeps) in
      let inner = regions_same c first es isolated under [] [] 0 (isolated t.own.id) ps.regions t.regions has.1 (λ o q a. inr a) linked.1 (keeps_right c first es isolated under (op_links [] own) (region_links [] 0 inside) keeps) in
      ap (λ z. option_map (λ view. record { own = held_op c under ps.own view; regions = held_regions c under ps.regions }) z) has.0.is
      ∙ (λ i. Some (record { own = first_own i; regions = inner i }))
