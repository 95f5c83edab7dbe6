-- What a whole tree builds: regions, blocks and operations are added after those that are already built, and the tree is complete.
use Rattle.std.proofs.Common.{◌≡◌, ◌∙◌, ℕ, Bool, List, [], ◌∷◌, Option, Some, None, refl, sym, ap}
use Rattle.std.specs.Prelude.{⊤}
use Rattle.irtext_base.specs.Format.{Format, Id}
use Rattle.irtext_grammar.specs.Grammar.Forest.{Regions, no_regions, region, Blocks, no_blocks, block, Operations, no_operations, operation}
use Rattle.irtext_grammar.specs.Grammar.Tree as tree
use Rattle.irtext_grammar.specs.Grammar.Tree.{Part, Op, Head, Brace, shown, elided, Tree, parts_of}
use Rattle.irtext_grammar.specs.Spelling.Spellable.{Enough}
use Rattle.irtext_grammar.specs.Naming.{body_of, unmarked}
use Rattle.irtext_grammar.specs.Reached.{Actions, region_parts, each_of, do_parts, do_operation, do_region, do_regions, do_blocks, do_operations, do_tree}
use Rattle.irtext_grammar.proofs.Naming.Runs.{body_by_format}
use Rattle.irtext_grammar.specs.Building.{append_regions, append_blocks, append_operations, Unfinished, operation_so_far, region_so_far, Building, with_mark, whole_blocks, operation_added, nothing_open, finished, building}
use Rattle.irtext_grammar.proofs.Whole.{HasParts, WholeRegions, WholeBlocks, WholeOperations, IsWhole}

-- ---- one after another
module _ {O B R : Type 0} where
  regions_nil : (rs : Regions O B R) → append_regions rs no_regions ≡ rs
  regions_nil no_regions = refl
  regions_nil (region r bs rs) = ap (region r bs) (regions_nil rs)

  regions_push : (done : Regions O B R) (r : R) (bs : Blocks O B R) (rs : Regions O B R) → append_regions (append_regions done (region r bs no_regions)) rs ≡ append_regions done (region r bs rs)
  regions_push no_regions r bs rs = refl
  regions_push (region q cs done) r bs rs = ap (region q cs) (regions_push done r bs rs)

  blocks_nil : (bs : Blocks O B R) → append_blocks bs no_blocks ≡ bs
  blocks_nil no_blocks = refl
  blocks_nil (block h os bs) = ap (block h os) (blocks_nil bs)

  blocks_push : (done : Blocks O B R) (h : B) (os : Operations O B R) (bs : Blocks O B R) → append_blocks (append_blocks done (block h os no_blocks)) bs ≡ append_blocks done (block h os bs)
  blocks_push no_blocks h os bs = refl
  blocks_push (block g ps done) h os bs = ap (block g ps) (blocks_push done h os bs)

  operations_nil : (os : Operations O B R) → append_operations os no_operations ≡ os
  operations_nil no_operations = refl
  operations_nil (operation o rs os) = ap (operation o rs) (operations_nil os)

  operations_push : (done : Operations O B R) (o : O) (rs : Regions O B R) (os : Operations O B R)
      → append_operations (append_operations done (operation o rs no_operations)) os ≡ append_operations done (operation o rs os)
  operations_push no_operations o rs os = refl
  operations_push (operation p qs done) o rs os = ap (operation p qs) (operations_push done o rs os)

module _ {T A : Type 0} where
  -- the blocks that are complete, after these blocks
  abbrev pub blocks_after : Blocks (Op ℕ T A) (Head ℕ T A) (Brace ℕ) → Option (Head ℕ T A × Operations (Op ℕ T A) (Head ℕ T A) (Brace ℕ)) → Blocks (Op ℕ T A) (Head ℕ T A) (Brace ℕ)
      → Blocks (Op ℕ T A) (Head ℕ T A) (Brace ℕ)
  blocks_after bs last no_blocks = bs
  blocks_after bs last (block h os more) = blocks_after (whole_blocks bs last) (Some (h, os)) more

  -- the block that is open, after these blocks
  abbrev pub last_after : Option (Head ℕ T A × Operations (Op ℕ T A) (Head ℕ T A) (Brace ℕ)) → Blocks (Op ℕ T A) (Head ℕ T A) (Brace ℕ) → Option (Head ℕ T A × Operations (Op ℕ T A) (Head ℕ T A) (Brace ℕ))
  last_after last no_blocks = last
  last_after last (block h os more) = last_after (Some (h, os)) more

  -- both together are the blocks that were there, and these
  pub whole_after : (bs : Blocks (Op ℕ T A) (Head ℕ T A) (Brace ℕ)) (last : Option (Head ℕ T A × Operations (Op ℕ T A) (Head ℕ T A) (Brace ℕ))) (more : Blocks (Op ℕ T A) (Head ℕ T A) (Brace ℕ))
      → whole_blocks (blocks_after bs last more) (last_after last more) ≡ append_blocks (whole_blocks bs last) more
  whole_after bs last no_blocks = sym (blocks_nil (whole_blocks bs last))
  whole_after bs last (block h os more) = whole_after (whole_blocks bs last) (Some (h, os)) more ∙ blocks_push (whole_blocks bs last) h os more

  -- an operation that is open in others
  abbrev pub in_operation : ℕ → Id → Regions (Op ℕ T A) (Head ℕ T A) (Brace ℕ) → List (Unfinished T A) → Option (Tree ℕ T A) → Building T A
  in_operation at id rs outer t = record { unfinished = operation_so_far at id rs ∷ outer; tree = t }

  -- a region that is open in others
  abbrev pub in_region : Blocks (Op ℕ T A) (Head ℕ T A) (Brace ℕ) → Option (Head ℕ T A × Operations (Op ℕ T A) (Head ℕ T A) (Brace ℕ)) → List (Unfinished T A) → Option (Tree ℕ T A) → Building T A
  in_region bs last outer t = record { unfinished = region_so_far bs last ∷ outer; tree = t }

  -- what a region of this brace and these blocks does to the operation that is open
  record BuildsRegion (f : Building T A → Building T A) (place : ℕ) (bs : Blocks (Op ℕ T A) (Head ℕ T A) (Brace ℕ)) : Type 0 where
    so : (at : ℕ) (id : Id) (rs : Regions (Op ℕ T A) (Head ℕ T A) (Brace ℕ)) (outer : List (Unfinished T A)) (t : Option (Tree ℕ T A))
        → f (in_operation at id rs outer t) ≡ in_operation at id (append_regions rs (region (shown place) bs no_regions)) outer t

  -- what each of these regions does
  abbrev EachBuilds : List (Building T A → Building T A) → Regions (Op ℕ T A) (Head ℕ T A) (Brace ℕ) → Type 0
  EachBuilds [] no_regions = ⊤
  EachBuilds (f ∷ fs) (region (shown place) bs rs) = BuildsRegion f place bs × EachBuilds fs rs
  EachBuilds _ _ = ⊥

  each_builds : (fs : List (Building T A → Building T A)) (rs : Regions (Op ℕ T A) (Head ℕ T A) (Brace ℕ)) → EachBuilds fs rs
      → (at : ℕ) (id : Id) (done : Regions (Op ℕ T A) (Head ℕ T A) (Brace ℕ)) (outer : List (Unfinished T A)) (t : Option (Tree ℕ T A))
      → each_of fs (in_operation at id done outer t) ≡ in_operation at id (append_regions done rs) outer t
  each_builds [] no_regions h at id done outer t = ap (λ z. in_operation at id z outer t) (sym (regions_nil done))
  each_builds [] (region brace bs rs) h at id done outer t = absurd h
  each_builds (f ∷ fs) no_regions h at id done outer t = absurd h
  each_builds (f ∷ fs) (region elided bs rs) h at id done outer t = absurd h
  each_builds (f ∷ fs) (region (shown place) bs rs) h at id done outer t =
      ap (each_of fs) (h.0.so at id done outer t)
      ∙ (each_builds fs rs h.1 at id (append_regions done (region (shown place) bs no_regions)) outer t
      ∙ ap (λ z. in_operation at id z outer t) (regions_push done (shown place) bs rs))

  enough_after : (ps : List (Part ℕ T A)) (rs : Regions (Op ℕ T A) (Head ℕ T A) (Brace ℕ)) → Enough ps rs → Enough (region_parts ps) rs
  enough_after [] rs h = h
  enough_after (tree.piece p ∷ ps) rs h = enough_after ps rs h
  enough_after (tree.region i ∷ ps) rs h = h
  enough_after (tree.regions ∷ ps) rs h = h

module _ {T A : Type 0} (formats : Id → Option Format) (isolated : Id → Bool) where
  abbrev does : Actions T A (Building T A)
  does = building {T = T} {A = A} formats

  parts_build : (place : ℕ) (id : Id) (ps : List (Part ℕ T A)) (fs : List (Building T A → Building T A)) (rs : Regions (Op ℕ T A) (Head ℕ T A) (Brace ℕ)) → Enough ps rs → EachBuilds fs rs
      → (at : ℕ) (as_id : Id) (done : Regions (Op ℕ T A) (Head ℕ T A) (Brace ℕ)) (outer : List (Unfinished T A)) (t : Option (Tree ℕ T A))
      → do_parts isolated does place id ps fs (in_operation at as_id done outer t) ≡ in_operation at as_id (append_regions done rs) outer t
  parts_build place id [] fs no_regions e h at as_id done outer t = ap (λ z. in_operation at as_id z outer t) (sym (regions_nil done))
  parts_build place id [] fs (region brace bs rs) e h at as_id done outer t = absurd e
  parts_build place id (tree.piece p ∷ ps) fs rs e h at as_id done outer t = parts_build place id ps fs rs e h at as_id done outer t
  parts_build place id (tree.region i ∷ ps) fs no_regions e h at as_id done outer t = absurd e
  parts_build place id (tree.region i ∷ ps) [] (region brace bs rs) e h at as_id done outer t = absurd h
  parts_build place id (tree.region i ∷ ps) (f ∷ fs) (region elided bs rs) e h at as_id done outer t = absurd h
  parts_build place id (tree.region i ∷ ps) (f ∷ fs) (region (shown where_it_is) bs rs) e h at as_id done outer t =
      ap (do_parts isolated does place id ps fs) (h.0.so at as_id done outer t)
      ∙ (parts_build place id ps fs rs e h.1 at as_id (append_regions done (region (shown where_it_is) bs no_regions)) outer t
      ∙ ap (λ z. in_operation at as_id z outer t) (regions_push done (shown where_it_is) bs rs))
  parts_build place id (tree.regions ∷ ps) fs rs e h at as_id done outer t =
      ap (do_parts isolated does place id ps []) (each_builds fs rs h at as_id done outer t)
      ∙ (parts_build place id ps [] no_regions e tt at as_id (append_regions done rs) outer t
      ∙ ap (λ z. in_operation at as_id z outer t) (regions_nil (append_regions done rs)))

  -- an operation, given what its regions do, is added to the open frames
  operation_builds : (o : Op ℕ T A) (fs : List (Building T A → Building T A)) (rs : Regions (Op ℕ T A) (Head ℕ T A) (Brace ℕ)) → HasParts formats o rs → EachBuilds fs rs
      → (b : Building T A) → do_operation isolated does o fs b ≡ operation_added o rs b.unfinished b.tree
  operation_builds o fs rs ((f, known, is), enough) h b =
      let ps = parts_of o.body in
      let body : body_of (formats o.id) ps ≡ o.body = ap (λ z. body_of z ps) known ∙ body_by_format f o.body is in
      ap (λ z. does.marks o.mark (does.closes o.place o.names o.id ps z)) (parts_build o.place o.id (region_parts ps) fs rs (enough_after ps rs enough) h o.place o.id no_regions b.unfinished b.tree)
      ∙ ap (λ z. operation_added (with_mark o.mark (unmarked o.place o.names o.id z)) rs b.unfinished b.tree) body

  region_builds : (iso : Bool) (place : ℕ) (bs : Blocks (Op ℕ T A) (Head ℕ T A) (Brace ℕ)) (inside : Building T A → Building T A)
      → ((outer : List (Unfinished T A)) (t : Option (Tree ℕ T A)) → inside (in_region no_blocks None outer t) ≡ in_region (blocks_after no_blocks None bs) (last_after None bs) outer t)
      → BuildsRegion (do_region isolated does iso (shown place) inside) place bs
  region_builds iso place bs inside h = record {
    so = λ at id rs outer t.
        ap (does.leaves iso place) (h (operation_so_far at id rs ∷ outer) t)
        ∙ ap (λ z. in_operation at id (append_regions rs (region (shown place) z no_regions)) outer t) (whole_after no_blocks None bs);
  }

  mutual
    regions_build : (iso : Bool) (rs : Regions (Op ℕ T A) (Head ℕ T A) (Brace ℕ)) → WholeRegions formats rs → EachBuilds (do_regions isolated does iso rs) rs
    regions_build iso no_regions w = tt
    regions_build iso (region elided bs rs) w = absurd w
    regions_build iso (region (shown place) bs rs) w =
        (region_builds iso place bs (do_blocks isolated does bs) (blocks_build bs w.0 no_blocks None), regions_build iso rs w.1)

    -- blocks are added after those of the open region
    pub blocks_build : (bs : Blocks (Op ℕ T A) (Head ℕ T A) (Brace ℕ)) → WholeBlocks formats bs
        → (done : Blocks (Op ℕ T A) (Head ℕ T A) (Brace ℕ)) (last : Option (Head ℕ T A × Operations (Op ℕ T A) (Head ℕ T A) (Brace ℕ))) (outer : List (Unfinished T A)) (t : Option (Tree ℕ T A))
        → do_blocks isolated does bs (in_region done last outer t) ≡ in_region (blocks_after done last bs) (last_after last bs) outer t
    blocks_build no_blocks w done last outer t = refl
    blocks_build (block h os bs) w done last outer t =
        ap (do_blocks isolated does bs) (operations_build os w.0 (whole_blocks done last) h no_operations outer t)
        ∙ blocks_build bs w.1 (whole_blocks done last) (Some (h, os)) outer t

    -- operations are added after those of the open block
    pub operations_build : (os : Operations (Op ℕ T A) (Head ℕ T A) (Brace ℕ)) → WholeOperations formats os
        → (bs : Blocks (Op ℕ T A) (Head ℕ T A) (Brace ℕ)) (h : Head ℕ T A) (done : Operations (Op ℕ T A) (Head ℕ T A) (Brace ℕ)) (outer : List (Unfinished T A)) (t : Option (Tree ℕ T A))
        → do_operations isolated does os (in_region bs (Some (h, done)) outer t) ≡ in_region bs (Some (h, append_operations done os)) outer t
    operations_build no_operations w bs h done outer t = ap (λ z. in_region bs (Some (h, z)) outer t) (sym (operations_nil done))
    operations_build (operation o rs os) w bs h done outer t =
        ap (do_operations isolated does os) (operation_builds o (do_regions isolated does (isolated o.id) rs) rs w.0 (regions_build (isolated o.id) rs w.1) (in_region bs (Some (h, done)) outer t))
        ∙ (operations_build os w.2 bs h (append_operations done (operation o rs no_operations)) outer t
        ∙ ap (λ z. in_region bs (Some (h, z)) outer t) (operations_push done o rs os))

  -- a tree is added to the open frames
  pub tree_builds : (x : Tree ℕ T A) → IsWhole formats x → (b : Building T A) → do_tree isolated does x b ≡ operation_added x.own x.regions b.unfinished b.tree
  tree_builds x w b = operation_builds x.own (do_regions isolated does (isolated x.own.id) x.regions) x.regions w.0 (regions_build (isolated x.own.id) x.regions w.1) b

  -- a tree, where nothing was parsed before, is what is finished
  pub tree_finished : (x : Tree ℕ T A) → IsWhole formats x → do_tree isolated does x nothing_open ≡ finished x
  tree_finished x w = tree_builds x w nothing_open
