-- The contents of a region that was parsed alone are what its blocks build: names, graph and structure agree with the state of the machine
-- of names and with the result of the parse, and nothing is open.
use Rattle.std.proofs.Common.{◌≡◌, ◌∙◌, ◌⊎◌, ℕ, Bool, true, List, [], ◌∷◌, Option, Some, None, append-nil, refl, sym, ap, subst}
use Rattle.std.specs.Prelude.{⊤}
use Rattle.irtext_base.specs.Format as format
use Rattle.irtext_base.specs.Format.{Id}
use Rattle.irtext_base.specs.Paths.{Written}
use Rattle.irtext_base.specs.declared.location.Location.{Location}
use Rattle.irtext_context.specs.Context.{ContextView}
use Rattle.irtext_graph.specs.declared.arena.Ptr.{Ptr}
use Rattle.irtext_graph.specs.declared.object.BasicBlock.{BasicBlock}
use Rattle.irtext_graph.specs.declared.object.Region.{Region}
use Rattle.irtext_graph.specs.declared.object.Object.{Object}
use Rattle.irtext_graph.specs.declared.object.Object.TheVariants.{TheRegion}
use Rattle.irtext_graph.specs.declared.object.Site.{Site}
use Rattle.irtext_graph.specs.declared.object.Site.TheVariants.{AtOperand, AtSuccessor}
use Rattle.irtext_graph.specs.declared.object.Value.{Value}
use Rattle.irtext_graph.specs.Chained.{Among}
use Rattle.irtext_graph.specs.Graph.{GraphView, children, parent}
use Rattle.irtext_graph.specs.Nested.{Nested}
use Rattle.irtext_graph.specs.Used.{used_at}
use Rattle.irtext_grammar.specs.Contexts.Held.{location_over}
use Rattle.irtext_grammar.specs.Grammar.Forest as forest
use Rattle.irtext_grammar.specs.Grammar.Forest.{Regions, no_regions, Blocks, AllRegions}
use Rattle.irtext_grammar.specs.Grammar.Tree as tree
use Rattle.irtext_grammar.specs.Grammar.Tree.{Op, Head, Brace, Tree, custom, shown}
use Rattle.irtext_grammar.specs.Graphs.Build.{build, built_regions}
use Rattle.irtext_grammar.specs.Graphs.Links.{OpLinked, Linked, op_links, region_links}
use Rattle.irtext_grammar.specs.Names.Acts.{tree_script, blocks_script}
use Rattle.irtext_grammar.specs.Names.History as history
use Rattle.irtext_grammar.specs.Names.History.{State, going, run, events}
use Rattle.irtext_grammar.specs.Names.Placeholders.{In}
use Rattle.irtext_grammar.specs.Names.Scopes.{no_scope}
use Rattle.irtext_grammar.specs.Names.Script as script
use Rattle.irtext_grammar.specs.Names.Script.{Path, Place, User, operand, successor, done}
use Rattle.irtext_grammar.specs.Names.TextScopes.{Script, failures, facts}
use Rattle.irtext_grammar.specs.Spelling.Spellable.{Each}
use Rattle.irtext_grammar.proofs.Grammar.PartsOfFormats.{FormedBlocks, Formed}
use Rattle.irtext_grammar.proofs.Graphs.Links.{bound_linked, all_there}
use Rattle.irtext_grammar.proofs.Lists.Sets.{in_right}
use Rattle.irtext_grammar.proofs.Names.Building.{bound_same}
use Rattle.irtext_scopes.specs.declared.tracker.NameTracker.{NameTracker}
use Rattle.irtext_grammar.specs.Naming.{paths_in_blocks}
use Rattle.irtext_grammar.specs.Unchanged.{RegionsHold}
use Rattle.irtext_grammar.specs.Tracks.{Made, noted, HasChild}
use Rattle.irtext_names.specs.Linked.{Known, NamesAgree}
use Rattle.irtext_names.specs.OfItems.{AreOf}
use Rattle.irtext_names.proofs.Linked.Passes.{ran_through}
use Rattle.irtext_names.specs.Alone.{pointers_in, held_region, IsWholeRegion}
use Rattle.irtext_names.specs.Held.{placed_regions}
use Rattle.irtext_names.specs.Placed.{RegionsAre}
use Rattle.irtext_names.proofs.Builds.{in_among}
use Rattle.irtext_names.proofs.Depths.{region_is}
use Rattle.irtext_names.proofs.Equal.{Keeps, regions_same}
use Rattle.irtext_names.proofs.ItemsGiven.{region_has}
use Rattle.irtext_names.proofs.Located.{IsPlaced, located_in, bound_uses, operand_uses, successor_uses}
use Rattle.irtext_names.proofs.Occurs.{region_whole_occurs}
use Rattle.irtext_names.proofs.Paths.{once_regions}
use Rattle.irtext_names.proofs.Wholes.{regions_whole}

-- ---- the blocks alone
module _ {T A : Type 0} (first : ℕ → Written A) (isolated : Id → Bool) (id : Id) (closed : isolated id ≡ true) (place : ℕ) (bs : Blocks (Op ℕ T A) (Head ℕ T A) (Brace ℕ)) (formed : FormedBlocks bs) (st : State)
    (ran : run (going history.start) (events (script.within true place (blocks_script isolated (0 ∷ []) 0 bs) done)) ≡ going st) where
  abbrev one_region : Regions (Op ℕ T A) (Head ℕ T A) (Brace ℕ)
  one_region = forest.region (shown place) bs no_regions

  -- a tree of which it is the one region
  abbrev round : Tree ℕ T A
  round = record { own = record { place = 0; names = []; id = id; body = custom (tree.region 0 ∷ []); mark = None }; regions = one_region }

  formed_round : Formed round
  formed_round = (record { format = format.custom (format.region 0 ∷ []); accepted = refl; is_of = refl; enough = tt }, (formed, tt))

  -- a tree with this region does what the region does alone
  abbrev of_round : Bool → Script
  of_round iso = script.within iso place (blocks_script isolated (0 ∷ []) 0 bs) (script.does (script.claim true (record { cause = script.ResultCount 0 0; at = Some 0 })) done)

  round_script : tree_script isolated round done ≡ of_round true
  round_script = ap of_round closed

  resolves_round : failures no_scope (tree_script isolated round done) ≡ []
  resolves_round = subst (λ (x : Script). failures no_scope x ≡ []) (sym round_script) (ran_through (script.within true place (blocks_script isolated (0 ∷ []) 0 bs) done) st ran).0

  -- each operand and successor of what is built holds something
  linked_round : Linked (build isolated first [] round)
  linked_round = all_there isolated first [] round formed_round done resolves_round

  pub region_linked : AllRegions OpLinked (λ b. ⊤) (λ q. ⊤) (built_regions isolated first [] [] [] 0 true one_region)
  region_linked = subst (λ iso. AllRegions OpLinked (λ b. ⊤) (λ q. ⊤) (built_regions isolated first [] [] [] 0 iso one_region)) closed linked_round.1

  -- each link of what is built is bound
  linked_bound : (u : User) (q : Place) → In (u, q) (region_links [] 0 (built_regions isolated first [] [] [] 0 (isolated id) one_region)) → Among (u, q) st.bound
  linked_bound u q i =
      let g = build isolated first [] round in
      let b = (bound_linked isolated first [] round formed_round u q).1 (in_right (u, q) (op_links [] g.own) (region_links [] 0 g.regions) i) in
      let f = in_among (u, q) (facts (tree_script isolated round done)).bound ((bound_same (tree_script isolated round done)).into (u, q) b) in
      let h = subst (λ (x : Script). Among (u, q) (facts x).bound) round_script f in
      subst (λ (z : State). Among (u, q) z.bound) (sym (ran_through (script.within true place (blocks_script isolated (0 ∷ []) 0 bs) done) st ran).1) h

-- ---- what the context holds
module _ {T A : Type 0} (L : ℕ → Location A → Type 0) (c : ContextView T A) (items : Made) (whole : List Object) (r : Ptr Region) (place : ℕ) (bs : Blocks (Op ℕ T A) (Head ℕ T A) (Brace ℕ))
    (hold : RegionsHold (noted items L) c whole (r ∷ []) (forest.region (shown place) bs no_regions)) (known_whole : (n : ℕ) (o : Object) → Among (n, o) items → Among o whole)
    (once : (n m : ℕ) (o : Object) → Among (n, o) items → Among (m, o) items → n ≡ m) (inside : (o : Object) → Among o whole → (o ≡ TheRegion r) ⊎ ((k : Object) × Among k whole × HasChild c k o))
    (nest : Nested (children c.graph) (parent c.graph)) (path : ℕ → Path) (names : Each (λ item. path item.0 ≡ item.1) (paths_in_blocks (0 ∷ []) 0 bs)) where
  -- the forest of pointers is that of the blocks
  pub is_region : RegionsAre L c items (pointers_in c r) (forest.region (shown place) bs no_regions)
  is_region = region_is L c items whole path once r (shown place) bs names hold

  abbrev all : List (Object × Path)
  all = placed_regions [] 0 (pointers_in c r)

  pub occurs : (n : ℕ) (o : Object) → Among (n, o) items → (q : Path) × Among (o, q) all
  occurs n o i = region_whole_occurs L c items whole r (forest.region (shown place) bs no_regions) is_region nest inside o (known_whole n o i)

  pub occurs_whole : (o : Object) → Among o whole → (q : Path) × Among (o, q) all
  occurs_whole o i = region_whole_occurs L c items whole r (forest.region (shown place) bs no_regions) is_region nest inside o i

  pub placed : (o : Object) (q : Path) → Among (o, q) all → IsPlaced L c items path o q
  placed = located_in L c items path (pointers_in c r) (forest.region (shown place) bs no_regions) (subst (λ xs. Each (λ (item : ℕ × Path). path item.0 ≡ item.1) xs) (sym (append-nil (paths_in_blocks (0 ∷ []) 0 bs))) names) is_region

  -- everything in the region is there
  pub is_whole : (first : ℕ → Written A) → ((n : ℕ) (l : Location A) → L n l → location_over c.paths l ≡ first n) → IsWholeRegion c r
  is_whole first tells =
      regions_whole c first [] (pointers_in c r) (forest.region (shown place) bs no_regions) (region_has L c items first tells (pointers_in c r) (forest.region (shown place) bs no_regions) is_region)

  module _ {O B X : Type 0} (first : ℕ → Written A) (isolated : Id → Bool) (id : Id) (closed : isolated id ≡ true) (formed : FormedBlocks bs) (names_at : NameTracker Value (Ptr BasicBlock)) (g : GraphView (Option O) B X) (known : Known) (are : AreOf path items known) (st : State)
      (agreed : NamesAgree names_at g known [] st) (same_uses : (s : Site) → used_at c.graph s ≡ used_at g s) (ran : run (going history.start) (events (script.within true place (blocks_script isolated (0 ∷ []) 0 bs) done)) ≡ going st) where
    keeps : Keeps c first [] isolated all (region_links [] 0 (built_regions isolated first [] [] [] 0 (isolated id) (forest.region (shown place) bs no_regions)))
    keeps = record {
      operands_keep = λ o r' i q at l.
          let u = operand_uses L c items path all placed (once_regions [] 0 (pointers_in c r)) once occurs known are names_at g st agreed o r' i q at
          (bound_uses L c items path all placed (once_regions [] 0 (pointers_in c r)) once occurs known are names_at g st agreed (operand r' i) q (linked_bound first isolated id closed place bs formed st ran (operand r' i) q l)) in
          (u.0, same_uses (AtOperand o i) ∙ u.1, u.2);
      successors_keep = λ o r' i q at l.
          let u = successor_uses L c items path all placed (once_regions [] 0 (pointers_in c r)) once occurs known are names_at g st agreed o r' i q at
          (bound_uses L c items path all placed (once_regions [] 0 (pointers_in c r)) once occurs known are names_at g st agreed (successor r' i) q (linked_bound first isolated id closed place bs formed st ran (successor r' i) q l)) in
          (u.0, same_uses (AtSuccessor o i) ∙ u.1, u.2);
    }

    -- the contents of the region are what the blocks build
    pub region_builds : ((n : ℕ) (l : Location A) → L n l → location_over c.paths l ≡ first n) → held_region c r ≡ built_regions isolated first [] [] [] 0 true (forest.region (shown place) bs no_regions)
    region_builds tells =
        let linked = linked_round first isolated id closed place bs formed st ran in
        regions_same c first [] isolated all [] [] 0 (isolated id) (pointers_in c r) (forest.region (shown place) bs no_regions) (region_has L c items first tells (pointers_in c r) (forest.region (shown place) bs no_regions) is_region) (λ o q a. a) linked.1 keeps
        ∙ ap (λ iso. built_regions isolated first [] [] [] 0 iso (forest.region (shown place) bs no_regions)) closed
