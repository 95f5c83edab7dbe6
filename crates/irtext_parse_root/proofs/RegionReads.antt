-- A region that was parsed alone, on any state: its text parses as blocks in braces, they resolve, and its marks are recorded after the
-- earlier ones.
use Rattle.std.proofs.Common.{◌≡◌, ◌∙◌, ℕ, Bool, true, false, List, [], ◌∷◌, ◌++◌, map, length, Option, Some, None, IsSome, append-nil, refl, sym, ap, subst}
use Rattle.irtext_base.specs.Text.{Text, after_space}
use Rattle.irtext_base.specs.Reading.{the}
use Rattle.irtext_base.specs.Format.{Format, Id}
use Rattle.irtext_base.specs.Own.{Texts, Language, language, texts_of}
use Rattle.irtext_context.specs.Dialects.{Table}
use Rattle.irtext_graph.specs.declared.arena.Ptr.{Ptr}
use Rattle.irtext_graph.specs.declared.object.Operation.{Operation}
use Rattle.irtext_graph.specs.declared.object.Region.{Region}
use Rattle.irtext_tokens.specs.AttrTexts.{attr_at}
use Rattle.irtext_tokens.specs.Infix.{Reader}
use Rattle.irtext_parse_state.specs.States.{marks_of}
use Rattle.irtext_parse_state.specs.declared.parsable.state.StateStream.{StateStream}
use Rattle.irtext_grammar.specs.Contexts.Formats.{format_of, isolated, IsAccepted}
use Rattle.irtext_grammar.specs.Grammar.Forest.{Regions, no_regions, region, Blocks, no_blocks, block, Operations, no_operations, operation}
use Rattle.irtext_grammar.specs.Grammar.Reads as grammar
use Rattle.irtext_grammar.specs.Grammar.Tree as tree
use Rattle.irtext_grammar.specs.Grammar.Tree.{Op, Head, Brace, Tree, custom, shown, elided}
use Rattle.irtext_grammar.specs.Spelling.Spellable.{Each}
use Rattle.irtext_grammar.specs.Names.History as history
use Rattle.irtext_grammar.specs.Names.History.{going, start, run, events, after}
use Rattle.irtext_grammar.specs.Names.Script.{Path}
use Rattle.irtext_grammar.specs.Names.Acts.{blocks_script}
use Rattle.irtext_grammar.specs.Names.TextScopes.{Facts, Script, failures, facts, outward}
use Rattle.irtext_grammar.proofs.Names.InScripts as enough
use Rattle.irtext_grammar.proofs.Names.TreeClaims.{root_entryless}
use Rattle.irtext_grammar.proofs.Names.TreeLists.{marks_in_root}
use Rattle.irtext_grammar.proofs.Grammar.ListReadings.{repeated_used}
use Rattle.irtext_grammar.specs.Promises.Section.{indices_of}
use Rattle.irtext_grammar.proofs.Joins.Answers.{Splits}
use Rattle.irtext_grammar.specs.Exact.{NeedsWord}
use Rattle.irtext_grammar.specs.Naming.{naming, paths_in_blocks}
use Rattle.irtext_grammar.specs.Reached.{Advanced, region_at, do_blocks}
use Rattle.irtext_grammar.proofs.Knot.Whole as knot
use Rattle.irtext_grammar.proofs.Naming.Shorter.{Shortens}
use Rattle.irtext_grammar.specs.Building.{Unfinished, region_so_far, Building, whole_blocks, nothing_open, building}
use Rattle.irtext_grammar.proofs.Built.{blocks_after, last_after, whole_after, in_region, blocks_build}
use Rattle.irtext_grammar.proofs.Seen.{shows_blocks}
use Rattle.irtext_grammar.proofs.Whole.{WholeRegions, WholeBlocks, WholeOperations, blocks_read}
use Rattle.irtext_names.proofs.FewerMarks.{ran_without}
use Rattle.irtext_names.proofs.Linked.Passes.{ran_from, ran_through}
use Rattle.irtext_names.specs.Items.{Names, MachineAgrees, doing, IsSound}
use Rattle.irtext_parse_root.specs.Carried.{marks_in_blocks}
use Rattle.irtext_parse_root.specs.Recorded.{Did, did_enter, did_leave, recorder, all_done}
use Rattle.irtext_parse_root.specs.Under.{ReadsUnder}
use Rattle.irtext_parse_root.proofs.Carrying.{marks_are}
use Rattle.irtext_parse_root.proofs.Telling.{tells_does, done_both}
use Rattle.irtext_parse_root.proofs.Fresh.{begun_agrees}
use Rattle.irtext_parse_root.proofs.Marks.{map_both, indices_carried}
use Rattle.irtext_context.specs.Context as context
use Rattle.irtext_context.specs.Context.{KeepsOlder}
use Rattle.irtext_graph.specs.declared.object.Object.{Object}
use Rattle.irtext_graph.specs.Back.{AllOlder}
use Rattle.irtext_graph.specs.Graph.{children, parent, IsLive}
use Rattle.irtext_graph.specs.Nested as graphs
use Rattle.irtext_grammar.specs.Contexts.Held.{whole}
use Rattle.irtext_grammar.proofs.Grammar.PartsOfFormats.{FormedBlocks}
use Rattle.irtext_grammar.specs.Promises.Root.{location_of}
use Rattle.irtext_names.specs.Linked.{NamesAgree}
use Rattle.irtext_names.specs.OfItems.{AreOf}
use Rattle.irtext_names.specs.Promises.{start_with, outside_with}
use Rattle.irtext_names.specs.Tied.{NoneIsLeft}
use Rattle.irtext_names.specs.Alone.{region_alone, in_braces, BuildsRegion}
use Rattle.irtext_names.proofs.AfterTree.{values_shut, labels_shut, none_left, place_written}
use Rattle.irtext_names.proofs.Kept.{came_same}
use Rattle.irtext_names.specs.Located.{IsLocated}
use Rattle.irtext_parse_root.proofs.RegionBuilt as built
use Rattle.irtext_parse_root.proofs.RegionPlaces.{paths_exist}
use Rattle.irtext_parse_root.proofs.RegionRuns.{region_runs}

-- ---- what is known of blocks that a text parses as
module _ {T A : Type 0} (types : Texts T) (owns : Texts A) (formats : Id → Option Format) where
  abbrev L : Language ℕ T A
  L = language types owns formats

  -- blocks that a text parses as in braces are whole
  blocks_whole : (place : ℕ) (bs : Blocks (Op ℕ T A) (Head ℕ T A) (Brace ℕ)) (text rest : Text) → grammar.region_read L (shown place) (grammar.block_readings L bs) text rest → WholeBlocks formats bs
  blocks_whole place bs text rest (at, (m, a, (w, b, c))) = blocks_read types owns formats bs (repeated_used (the 94) (grammar.block_readings L bs) (after_space m) w b)

-- so each of their operations has a place for each of its regions
module _ {T A : Type 0} (formats : Id → Option Format) where
  mutual
    regions_enough : (rs : Regions (Op ℕ T A) (Head ℕ T A) (Brace ℕ)) → WholeRegions formats rs → enough.WholeRegions rs
    regions_enough no_regions w = tt
    regions_enough (region (shown place) bs rs) w = (blocks_enough bs w.0, regions_enough rs w.1)
    regions_enough (region elided bs rs) w = absurd w

    blocks_enough : (bs : Blocks (Op ℕ T A) (Head ℕ T A) (Brace ℕ)) → WholeBlocks formats bs → enough.WholeBlocks bs
    blocks_enough no_blocks w = tt
    blocks_enough (block h os bs) w = (operations_enough os w.0, blocks_enough bs w.1)

    operations_enough : (os : Operations (Op ℕ T A) (Head ℕ T A) (Brace ℕ)) → WholeOperations formats os → enough.WholeOperations os
    operations_enough no_operations w = tt
    operations_enough (operation o rs os) (has, inner, others) = ((has.1, regions_enough rs inner), operations_enough os others)

-- ---- marks
-- a region says its marks outward, whether its operation is isolated or not
outward_marks : (iso : Bool) (f : Facts) → (outward iso f).marks ≡ f.marks
outward_marks true f = refl
outward_marks false f = refl

-- ---- what was recorded
left_last : {T A : Type 0} (iso is : Bool) (place at : ℕ) (ds es : List (Did T A)) → ◌≡◌ {A = List (Did T A)} (did_leave iso place ∷ ds) (did_leave is at ∷ es) → ds ≡ es
left_last iso is place at ds es e = cc

so_far_same : {T A : Type 0} (bs cs : Blocks (Op ℕ T A) (Head ℕ T A) (Brace ℕ)) (l m : Option (Head ℕ T A × Operations (Op ℕ T A) (Head ℕ T A) (Brace ℕ))) → ◌≡◌ {A = List (Unfinished T A)} (region_so_far bs l ∷ []) (region_so_far cs m ∷ []) → whole_blocks bs l ≡ whole_blocks cs m
so_far_same bs cs l m e = let f : bs ≡ cs = cc in let g : l ≡ m = cc in λ i. whole_blocks (f i) (g i)

module _ {T A : Type 0} (formats : Id → Option Format) (isolated : Id → Bool) where
  -- if the recorded actions are those of blocks in their braces, what is built of them is these blocks
  recorded_builds : (iso is : Bool) (place at : ℕ) (before : List (Did T A)) (bs : Blocks (Op ℕ T A) (Head ℕ T A) (Brace ℕ)) → WholeBlocks formats bs
      → ◌≡◌ {A = List (Did T A)} ((did_leave is at ∷ before) ++ did_enter iso ∷ []) (did_leave iso place ∷ do_blocks isolated recorder bs (did_enter iso ∷ []))
      → all_done (building formats) before (in_region {T = T} {A = A} no_blocks None [] None) ≡ in_region (blocks_after no_blocks None bs) (last_after None bs) [] None
  recorded_builds iso is place at before bs whole e =
      let does = building {T = T} {A = A} formats in
      let inner : before ++ did_enter iso ∷ [] ≡ do_blocks isolated recorder bs (did_enter iso ∷ []) = left_last is iso at place (before ++ did_enter iso ∷ []) (do_blocks isolated recorder bs (did_enter iso ∷ [])) e in
      sym (done_both does before (did_enter iso ∷ []) nothing_open)
      ∙ (ap (λ ds. all_done does ds nothing_open) inner
      ∙ (shows_blocks isolated (λ ds. all_done does ds nothing_open) recorder does (tells_does does nothing_open) bs (did_enter iso ∷ [])
      ∙ blocks_build formats isolated bs whole no_blocks None [] None))

module _ {T A U : Type 0} (types_at : Reader T) (types_written : T → Text) (reading : Reader A) (written : A → Text) (types_split : Splits types_at) (splits : Splits reading) (words : NeedsWord reading)
    (short_types : Shortens (texts_of types_at types_written)) (short_owns : Shortens (texts_of reading written)) (before names : Names) (old new : StateStream T A U)
    (no_names : before.names ≡ []) (no_values : before.values ≡ []) (no_labels : before.labels ≡ []) (op : Ptr Operation) (r : Ptr Region) (u : ReadsUnder types_at (attr_at reading) op before old r names new)
    (accepted : (id : Id) → IsAccepted old.state.ctx.now.dialects id) (closed : u.iso ≡ true) where
  abbrev ds : List (Text × Table)
  ds = old.state.ctx.now.dialects

  abbrev types : Texts T
  types = texts_of types_at types_written

  abbrev owns : Texts A
  owns = texts_of reading written

  abbrev place : ℕ
  place = length old.stream.rest

  -- the marks that were recorded earlier
  abbrev earlier : List ℕ
  earlier = indices_of (marks_of old.state)

  -- the machine of names before any name
  abbrev begun : history.State
  begun = start_with earlier

  -- the blocks that the context holds
  abbrev pub blocks : Blocks (Op ℕ T A) (Head ℕ T A) (Brace ℕ)
  blocks = whole_blocks u.holds.blocks u.holds.last

  record Text_is : Type 0 where
    bs : Blocks (Op ℕ T A) (Head ℕ T A) (Brace ℕ)
    is_read : grammar.region_read (knot.L types_at types_written reading written ds) (shown place) (grammar.block_readings (knot.L types_at types_written reading written ds) bs) old.stream.rest new.stream.rest
    same : whole_blocks u.holds.blocks u.holds.last ≡ bs

  text_is : Text_is
  text_is =
      let x = knot.region_read types_at types_written reading written ds types_split splits recorder accepted u.iso old.stream.rest [] (u.did ++ did_enter u.iso ∷ []) new.stream.rest u.tells in
      let e = subst (λ z. ◌≡◌ {A = List (Did T A)} (z ++ did_enter u.iso ∷ []) (did_leave u.iso place ∷ do_blocks (isolated ds) recorder x.0 (did_enter u.iso ∷ []))) u.holds.is x.2 in
      let b = recorded_builds (format_of ds) (isolated ds) u.iso u.holds.iso place u.holds.place u.holds.before x.0 (blocks_whole types owns (format_of ds) place x.0 old.stream.rest new.stream.rest x.1) e in
      let f = sym u.holds.built_before ∙ ap (λ (z : Building T A). z.unfinished) b in record {
        bs = x.0;
        is_read = x.1;
        same = so_far_same u.holds.blocks (blocks_after no_blocks None x.0) u.holds.last (last_after None x.0) f ∙ whole_after no_blocks None x.0;
      }

  -- its text parses as these
  pub region_reads : grammar.region_read (knot.L types_at types_written reading written ds) (shown place) (grammar.block_readings (knot.L types_at types_written reading written ds) blocks) old.stream.rest new.stream.rest
  region_reads = subst (λ bs. grammar.region_read (knot.L types_at types_written reading written ds) (shown place) (grammar.block_readings (knot.L types_at types_written reading written ds) bs) old.stream.rest new.stream.rest) (sym text_is.same) text_is.is_read

  -- paths of their items, and the state of the machine after them
  pub named : (path : ℕ → Path) × Each (λ item. path item.0 ≡ item.1) (paths_in_blocks (0 ∷ []) 0 blocks)
  named = paths_exist types owns (format_of ds) short_types short_owns (0 ∷ []) (shown place) blocks old.stream.rest new.stream.rest region_reads

  abbrev at_end : (z : history.Outcome) × MachineAgrees named.0 (u.made ++ []) [] names u.mid.state z × (region_at ds types_at (attr_at reading) (doing ds named.0) u.iso old.stream.rest (going begun) ≡ Advanced tt z new.stream.rest)
  at_end = u.runs named.0 [] (going begun) (begun_agrees before old.state no_names no_values no_labels named.0)

  -- what they do with names
  abbrev script : Script
  script = region_alone ds place blocks

  -- the machine ran their script without failure
  ran : run (going begun) (events script) ≡ going at_end.1.state
  ran =
      let found = knot.region_found types_at types_written reading written ds types_split splits (naming (format_of ds) named.0) words true blocks old.stream.rest new.stream.rest (going begun) region_reads in
      let came = subst (λ b. region_at ds types_at (attr_at reading) (doing ds named.0) b old.stream.rest (going begun) ≡ Advanced tt at_end.0 new.stream.rest) closed at_end.2 in
      let comes = knot.region_comes types_at types_written reading written ds types_split splits (naming (format_of ds) named.0) words accepted true old.stream.rest (going begun) at_end.0 new.stream.rest came in
      region_runs types owns (format_of ds) named.0 (isolated ds) true (0 ∷ []) place blocks old.stream.rest new.stream.rest region_reads named.1 (going begun)
      ∙ (came_same tt tt _ _ new.stream.rest new.stream.rest (sym found ∙ comes) ∙ at_end.1.going)

  -- they resolve, and none of their marks was recorded earlier
  resolves : failures (outside_with earlier) script ≡ []
  resolves = (ran_from begun script at_end.1.state ran).0

  -- a tree of which it is the one region, whose operation says nothing of marks
  abbrev round : Tree ℕ T A
  round = record { own = record { place = 0; names = []; id = record { dialect = []; name = [] }; body = custom (tree.region 0 ∷ []); mark = None }; regions = in_braces place blocks }

  whole_round : enough.WholeOperations (operation round.own round.regions no_operations)
  whole_round = ((tt, (blocks_enough (format_of ds) blocks (blocks_whole types owns (format_of ds) place blocks old.stream.rest new.stream.rest region_reads), tt)), tt)

  -- the machine runs where nothing was marked, too
  alone : (st : history.State) × (run (going start) (events script) ≡ going st) × (at_end.1.state ≡ record st { marks = earlier ++ st.marks })
  alone = ran_without earlier script start at_end.1.state ((root_entryless (isolated ds) round whole_round).0, tt) (ap (λ ms. run (going (start_with ms)) (events script)) (append-nil earlier) ∙ ran)

  stopped : alone.0 ≡ after start (facts script)
  stopped = (ran_through script alone.0 alone.1).1

  agreed : NamesAgree names u.mid.state.ctx.now.graph at_end.1.known [] alone.0
  agreed = subst (λ z. NamesAgree names u.mid.state.ctx.now.graph at_end.1.known [] z) alone.2 at_end.1.agreed

  -- ---- its marks
  -- the indices that are recorded are those that the blocks say
  marks_said : indices_of u.marks ≡ (facts script).marks
  marks_said =
      let none = append-nil (marks_in_blocks blocks ++ []) ∙ append-nil (marks_in_blocks blocks) in
      let outer = outward_marks (isolated ds round.own.id) (facts (blocks_script (isolated ds) (0 ∷ []) 0 blocks)) in
      indices_carried u.made (marks_in_blocks blocks) u.marks u.holds.carried
      ∙ (ap (λ ms. map (λ m. m.0) ms) (sym none)
      ∙ (marks_are (isolated ds) round
      ∙ (sym (marks_in_root (isolated ds) round whole_round)
      ∙ ap (λ ms. ms ++ []) outer)))

  marks_after : indices_of (marks_of new.state) ≡ earlier ++ (facts script).marks
  marks_after = ap indices_of u.noted ∙ (map_both (λ m. m.0) (marks_of old.state) u.marks ∙ ap (λ ms. earlier ++ ms) marks_said)

  -- ---- what it built
  module _ (id : Id) (id_closed : isolated ds id ≡ true) (here : IsSome (context.operation old.state.ctx.now op)) (older : AllOlder old.state.ctx.now.graph.made old.state.ctx.now.graph)
      (kept : KeepsOlder old.state.ctx.now.graph.made old.state.ctx.now u.mid.state.ctx.now) (sound : IsSound old.state.ctx.now.graph.made names u.mid.state)
      (nest : graphs.Nested (children new.state.ctx.now.graph) (parent new.state.ctx.now.graph)) (holders : (c k : Object) → parent old.state.ctx.now.graph c ≡ Some k → IsLive old.state.ctx.now.graph k) where
    values_none : names.values ≡ []
    values_none = values_shut names u.mid.state.ctx.now.graph at_end.1.known [] alone.0 agreed (ap (λ (z : history.State). z.values) stopped)

    labels_none : names.labels ≡ []
    labels_none = labels_shut names u.mid.state.ctx.now.graph at_end.1.known [] alone.0 agreed (ap (λ (z : history.State). z.labels) stopped)

    none : NoneIsLeft old.state.ctx.now.graph.made [] u.mid.state.ctx.now.graph
    none = none_left old.state.ctx.now.graph.made names.values names.labels u.mid.state.ctx.now.graph values_none labels_none sound.waiting

    formed : FormedBlocks blocks
    formed = built.blocks_formed ds accepted blocks (blocks_whole types owns (format_of ds) place blocks old.stream.rest new.stream.rest region_reads)

    are : AreOf named.0 u.made at_end.1.known
    are = subst (λ xs. AreOf named.0 xs at_end.1.known) (append-nil u.made) at_end.1.of_items

    -- so it keeps its promise
    pub builds_region : BuildsRegion types owns (marks_of old.state) op r old new
    builds_region =
        let p = built.promised (IsLocated old.state.src (whole old.stream)) old.state.ctx.now u.mid.state.ctx.now new.state.ctx.now u.made u.holds.whole op r place blocks u.holds.holds u.holds.there u.holds.tracks u.places here
        old.state.ctx.now.graph.made older kept none sound.blanks holders nest named.0 named.1 (isolated ds) id id_closed formed names at_end.1.known are alone.0 agreed alone.1
        (location_of new.state.ctx.now.paths old.state.src (whole old.stream)) (λ n l e. place_written new.state.ctx.now.paths old.state.src (whole old.stream) n l e) u.with_it
        (length old.stream.rest) (length new.stream.rest) u.falls u.marks u.holds.carried in
        record {
          blocks = blocks;
          reads = region_reads;
          resolves = resolves;
          moves = u.moves;
          builds = p.builds;
          is_whole = p.is_whole;
          attached = u.places.parent_here;
          only = p.only;
          marks = marks_after;
          carried = u.noted ∙ ap (λ ms. marks_of old.state ++ ms) p.carried;
        }
