-- If a forest of pointers is that of a tree, each item is at its path, and what a parse created corresponds to the places that pointers
-- show.
use Rattle.std.proofs.Common.{◌≡◌, ◌∙◌, ℕ, suc, List, [], ◌∷◌, ◌++◌, Option, Some, option_map, sym, ap, subst, inl, inr}
use Rattle.std.specs.Prelude.{⊤}
use Rattle.irtext_base.specs.declared.location.Location.{Location}
use Rattle.irtext_context.specs.Context.{ContextView}
use Rattle.irtext_graph.specs.declared.arena.Ptr.{Ptr}
use Rattle.irtext_graph.specs.declared.object.Operation.{Operation}
use Rattle.irtext_graph.specs.declared.object.BasicBlock.{BasicBlock}
use Rattle.irtext_graph.specs.declared.object.Region.{Region}
use Rattle.irtext_graph.specs.declared.object.Object.{Object}
use Rattle.irtext_graph.specs.declared.object.Object.TheVariants.{TheOperation, TheBlock, TheRegion}
use Rattle.irtext_graph.specs.declared.object.Value.{Value}
use Rattle.irtext_graph.specs.declared.object.Value.TheVariants.{Result, Argument}
use Rattle.irtext_graph.specs.declared.object.Defined.{Defined}
use Rattle.irtext_graph.specs.declared.object.Defined.TheVariants.{OfValue, OfBlock}
use Rattle.irtext_graph.specs.declared.object.Site.{Site}
use Rattle.irtext_graph.specs.declared.object.Site.TheVariants.{AtOperand, AtSuccessor}
use Rattle.irtext_graph.specs.Chained.{Among}
use Rattle.irtext_graph.specs.Graph.{GraphView}
use Rattle.irtext_graph.specs.Used.{used_at}
use Rattle.irtext_grammar.specs.Grammar.Forest as forest
use Rattle.irtext_grammar.specs.Grammar.Forest.{no_regions, no_blocks, no_operations, Root}
use Rattle.irtext_grammar.specs.Grammar.Tree.{Tree}
use Rattle.irtext_grammar.specs.Spelling.Spellable.{Each}
use Rattle.irtext_grammar.specs.Names.Script.{Path, Place, result, argument, block_at, User, operand, successor}
use Rattle.irtext_grammar.specs.Names.History.{State}
use Rattle.irtext_grammar.proofs.Lists.Each.{each_left, each_right}
use Rattle.irtext_scopes.specs.declared.tracker.NameTracker.{NameTracker}
use Rattle.irtext_grammar.specs.Naming.{paths_in_regions, paths_in_blocks, paths_in_operations, Names}
use Rattle.irtext_grammar.specs.Tracks.{Made}
use Rattle.irtext_names.specs.Linked.{Known, NamesAgree, Became, Holds}
use Rattle.irtext_names.specs.OfItems.{IsSiteOf, AreOf}
use Rattle.irtext_names.proofs.Linked.Moving.{among_split}
use Rattle.irtext_names.specs.Held.{PtrRegions, PtrBlocks, PtrOperations, placed_regions, placed_blocks, placed_operations, placed_under, path_of, value_place, block_place, defined_place}
use Rattle.irtext_names.specs.Placed.{TreeRegions, TreeBlocks, TreeOperations, RegionsAre, BlocksAre, OperationsAre, RootIs}
use Rattle.irtext_names.proofs.Paths.{Once, path_found}

-- the path of the operation that uses, and the number of the use in it
abbrev user_path : User → Path
user_path (operand p i) = p
user_path (successor p i) = p

abbrev user_number : User → ℕ
user_number (operand p i) = i
user_number (successor p i) = i

module _ {T A : Type 0} (L : ℕ → Location A → Type 0) (c : ContextView T A) (items : Made) (path : ℕ → Path) where
  -- an operation or a block is an item whose path this is
  abbrev pub IsPlaced : Object → Path → Type 0
  IsPlaced (TheOperation p) q = (n : ℕ) × Among (n, TheOperation p) items × (path n ≡ q)
  IsPlaced (TheBlock b) q = (n : ℕ) × Among (n, TheBlock b) items × (path n ≡ q)
  IsPlaced (TheRegion r) q = ⊤

  abbrev Said : List (ℕ × Path) → Type 0
  Said xs = Each (λ item. path item.0 ≡ item.1) xs

  -- each of a list is
  record ArePlaced (xs : List (Object × Path)) : Type 0 where
    each : (o : Object) (q : Path) → Among (o, q) xs → IsPlaced o q

  -- an object is placed, and what is inside and what follows is, if these are the paths of both
  placed_node : (o : Object) (q : Path) (xs ys : List (ℕ × Path)) (inner next : List (Object × Path)) → IsPlaced o q → Said (xs ++ ys) → (Said xs → ArePlaced inner) → (Said ys → ArePlaced next)
      → ArePlaced ((o, q) ∷ (inner ++ next))
  placed_node o q xs ys inner next h s x y =
      let Q = λ (item : ℕ × Path). path item.0 ≡ item.1 in
      record {
        each = λ k r i. elim i [
          | inl e ↦ subst (λ (z : Object × Path). IsPlaced z.0 z.1) (sym e) h
          | inr j ↦ elim (among_split (k, r) inner next j) [ inl a ↦ (x (each_left Q xs ys s)).each k r a | inr a ↦ (y (each_right Q xs ys s)).each k r a ]
        ];
      }

  mutual
    regions_placed : (p : Path) (j : ℕ) (ps : PtrRegions) (rs : TreeRegions T A) → Said (paths_in_regions p j rs) → RegionsAre L c items ps rs → ArePlaced (placed_regions p j ps)
    regions_placed p j no_regions rs s h = record { each = λ o q i. absurd i }
    regions_placed p j (forest.region r bs ps) no_regions s h = absurd h
    regions_placed p j (forest.region r bs ps) (forest.region brace hs rs) s (at, k, h) =
        placed_node (TheRegion r) (j ∷ p) (paths_in_blocks (j ∷ p) 0 hs) (paths_in_regions p (suc j) rs) (placed_blocks (j ∷ p) 0 bs) (placed_regions p (suc j) ps) tt s
        (λ t. blocks_placed (j ∷ p) 0 bs hs t k) (λ t. regions_placed p (suc j) ps rs t h)

    blocks_placed : (p : Path) (j : ℕ) (ps : PtrBlocks) (bs : TreeBlocks T A) → Said (paths_in_blocks p j bs) → BlocksAre L c items ps bs → ArePlaced (placed_blocks p j ps)
    blocks_placed p j no_blocks bs s h = record { each = λ o q i. absurd i }
    blocks_placed p j (forest.block b qs ps) no_blocks s h = absurd h
    blocks_placed p j (forest.block b qs ps) (forest.block head os bs) s (at, k, h) =
        placed_node (TheBlock b) (j ∷ p) (paths_in_operations (j ∷ p) 0 os) (paths_in_blocks p (suc j) bs) (placed_operations (j ∷ p) 0 qs) (placed_blocks p (suc j) ps) (head.label.place, at.item, s.0) s.1
        (λ t. operations_placed (j ∷ p) 0 qs os t k) (λ t. blocks_placed p (suc j) ps bs t h)

    operations_placed : (p : Path) (j : ℕ) (ps : PtrOperations) (os : TreeOperations T A) → Said (paths_in_operations p j os) → OperationsAre L c items ps os → ArePlaced (placed_operations p j ps)
    operations_placed p j no_operations os s h = record { each = λ o q i. absurd i }
    operations_placed p j (forest.operation q qs ps) no_operations s h = absurd h
    operations_placed p j (forest.operation q qs ps) (forest.operation o rs os) s (at, k, h) =
        placed_node (TheOperation q) (j ∷ p) (paths_in_regions (j ∷ p) 0 rs) (paths_in_operations p (suc j) os) (placed_regions (j ∷ p) 0 qs) (placed_operations p (suc j) ps) (o.place, at.item, s.0) s.1
        (λ t. regions_placed (j ∷ p) 0 qs rs t k) (λ t. operations_placed p (suc j) ps os t h)

  -- what is under a root is an item at its path
  pub located : (ps : Root (Ptr Operation) (Ptr BasicBlock) (Ptr Region)) (t : Tree ℕ T A) → Names path t → RootIs L c items ps t → (o : Object) (q : Path) → Among (o, q) (placed_under ps) → IsPlaced o q
  located ps t names is o q (inl e) = subst (λ (z : Object × Path). IsPlaced z.0 z.1) (sym e) (t.own.place, is.0.item, names.0)
  located ps t names is o q (inr i) = (regions_placed [] 0 ps.regions t.regions names.1 is.1).each o q i

  -- and so is what is in regions
  pub located_in : (ps : PtrRegions) (rs : TreeRegions T A) → Said (paths_in_regions [] 0 rs) → RegionsAre L c items ps rs → (o : Object) (q : Path) → Among (o, q) (placed_regions [] 0 ps) → IsPlaced o q
  located_in ps rs names is o q i = (regions_placed [] 0 ps rs names is).each o q i

  module _ (all : List (Object × Path)) (each_placed : (o : Object) (q : Path) → Among (o, q) all → IsPlaced o q) (single : Once all) (once : (n m : ℕ) (o : Object) → Among (n, o) items → Among (m, o) items → n ≡ m)
      (occurs : (n : ℕ) (o : Object) → Among (n, o) items → (q : Path) × Among (o, q) all) where
    -- an item is found at its path, if each place of it is that of an item
    found : (n : ℕ) (o : Object) → ((q : Path) → IsPlaced o q → (m : ℕ) × Among (m, o) items × (path m ≡ q)) → Among (n, o) items → path_of all o ≡ Some (path n)
    found n o is i =
        let x = occurs n o i in
        let f = path_found all o x.0 x.1 in
        let l = is f.0 (each_placed o f.0 f.2) in
        f.1 ∙ ap Some (sym l.2 ∙ ap path (once l.0 n o l.1 i))

    -- so is an operation
    pub operation_found : (n : ℕ) (p : Ptr Operation) → Among (n, TheOperation p) items → path_of all (TheOperation p) ≡ Some (path n)
    operation_found n p i = found n (TheOperation p) (λ q h. h) i

    -- and a block
    pub block_found : (n : ℕ) (b : Ptr BasicBlock) → Among (n, TheBlock b) items → path_of all (TheBlock b) ≡ Some (path n)
    block_found n b i = found n (TheBlock b) (λ q h. h) i

    -- an operation that is an item is at its path
    operation_there : (n : ℕ) (p : Ptr Operation) → Among (n, TheOperation p) items → Among (TheOperation p, path n) all
    operation_there n p i =
        let x = occurs n (TheOperation p) i in
        let f = path_found all (TheOperation p) x.0 x.1 in
        let l = each_placed (TheOperation p) f.0 f.2 in
        subst (λ q. Among (TheOperation p, q) all) (sym l.2 ∙ ap path (once l.0 n (TheOperation p) l.1 i)) f.2

    -- ---- what was made
    module _ (known : Known) (are : AreOf path items known) where
      pub value_found : (q : Place) (v : Value) → Among (q, v) known.values → value_place all v ≡ Some q
      value_found q (Result p i) a = let x = are.values_of q (Result p i) a in ap (option_map (λ q. result q i)) (operation_found x.0 p x.2) ∙ ap Some (sym x.1)
      value_found q (Argument b i) a = let x = are.values_of q (Argument b i) a in ap (option_map (λ q. argument q i)) (block_found x.0 b x.2) ∙ ap Some (sym x.1)

      pub label_found : (q : Place) (b : Ptr BasicBlock) → Among (q, b) known.blocks → block_place all b ≡ Some q
      label_found q b a = let x = are.blocks_of q b a in ap (option_map block_at) (block_found x.0 b x.2) ∙ ap Some (sym x.1)

      -- what a use of the script is bound to is what the operand or successor of its operation names
      module _ {O B X : Type 0} (names_at : NameTracker Value (Ptr BasicBlock)) (g : GraphView (Option O) B X) (st : State) (agreed : NamesAgree names_at g known [] st) where
        -- the operand or successor of this user refers to what is defined at the place
        pub record Uses (u : User) (q : Place) : Type 0 where
          pub site : Site
          pub of_item : IsSiteOf path items u site
          pub what : Defined
          pub named : used_at g site ≡ Some what
          pub place : defined_place all what ≡ Some q

        pub bound_uses : (u : User) (q : Place) → Among (u, q) st.bound → Uses u q
        bound_uses u q a = let x = agreed.bound u q a in go x.0 x.1 x.2
          where
            placed : (d : Defined) → Became known q d → defined_place all d ≡ Some q
            placed (OfValue v) b = value_found q v b
            placed (OfBlock d) b = label_found q d b

            go : (d : Defined) → Became known q d → Holds known.sites [] g u d → Uses u q
            go d b (inl (s, i, place)) = record { site = s; of_item = are.sites_of u s i; what = d; named = place.0; place = placed d b }
            go d b (inr i) = absurd i

        operand_eq : (p q : Path) (i j : ℕ) → operand p i ≡ operand q j → (p ≡ q) × (i ≡ j)
        operand_eq p q i j e = (ap user_path e, ap user_number e)

        successor_eq : (p q : Path) (i j : ℕ) → successor p i ≡ successor q j → (p ≡ q) × (i ≡ j)
        successor_eq p q i j e = (ap user_path e, ap user_number e)

        -- an operation at a path is one
        operation_one : (p q : Ptr Operation) (r : Path) (n : ℕ) → Among (TheOperation p, r) all → Among (n, TheOperation q) items → r ≡ path n → q ≡ p
        operation_one p q r n i j e =
            let k = single.one (TheOperation q) (TheOperation p) (path n) (operation_there n q j) (subst (λ z. Among (TheOperation p, z) all) e i) in
            cc

        -- the operand of an operation at a path names what its user is bound to
        pub operand_uses : (p : Ptr Operation) (r : Path) (i : ℕ) (q : Place) → Among (TheOperation p, r) all → Uses (operand r i) q → (d : Defined) × (used_at g (AtOperand p i) ≡ Some d) × (defined_place all d ≡ Some q)
        operand_uses p r i q at u = go u.site u.of_item u.named
          where
            go : (s : Site) → IsSiteOf path items (operand r i) s → used_at g s ≡ Some u.what → (d : Defined) × (used_at g (AtOperand p i) ≡ Some d) × (defined_place all d ≡ Some q)
            go (AtOperand x j) (n, e, a) named =
                let k = operand_eq r (path n) i j e in
                let same = operation_one p x r n at a k.0 in
                (u.what, subst (λ z. used_at g (AtOperand z i) ≡ Some u.what) same (subst (λ z. used_at g (AtOperand x z) ≡ Some u.what) (sym k.1) named), u.place)
            go (AtSuccessor x j) (n, e, a) named = absurd (cc)

        -- and so does its successor
        pub successor_uses : (p : Ptr Operation) (r : Path) (i : ℕ) (q : Place) → Among (TheOperation p, r) all → Uses (successor r i) q → (d : Defined) × (used_at g (AtSuccessor p i) ≡ Some d) × (defined_place all d ≡ Some q)
        successor_uses p r i q at u = go u.site u.of_item u.named
          where
            go : (s : Site) → IsSiteOf path items (successor r i) s → used_at g s ≡ Some u.what → (d : Defined) × (used_at g (AtSuccessor p i) ≡ Some d) × (defined_place all d ≡ Some q)
            go (AtOperand x j) (n, e, a) named = absurd (cc)
            go (AtSuccessor x j) (n, e, a) named =
                let k = successor_eq r (path n) i j e in
                let same = operation_one p x r n at a k.0 in
                (u.what, subst (λ z. used_at g (AtSuccessor z i) ≡ Some u.what) same (subst (λ z. used_at g (AtSuccessor x z) ≡ Some u.what) (sym k.1) named), u.place)
