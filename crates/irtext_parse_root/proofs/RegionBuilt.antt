-- A region that was parsed alone satisfies its promise: its contents are what its blocks build, without placeholders; the items of its
-- marks are in it; and only the region and what is nested in it are new.
use Rattle.std.proofs.Common.{◌≡◌, ◌∙◌, ◌⊎◌, ℕ, arith, Bool, true, List, [], ◌∷◌, Some, None, IsSome, option_map, append-nil, refl, sym, ap, subst, inl, inr}
use Rattle.std.specs.Prelude.{⊤}
use Rattle.irtext_base.specs.Text.{Text}
use Rattle.irtext_base.specs.Format.{Id}
use Rattle.irtext_base.specs.Paths.{Written, KeepsPaths}
use Rattle.irtext_base.specs.declared.location.Location.{Location}
use Rattle.irtext_context.specs.Context.{ContextView, operation, region_of, with_graph, KeepsOlder}
use Rattle.irtext_context.specs.Dialects.{Table}
use Rattle.irtext_context.specs.declared.base.item.Item.{Item}
use Rattle.irtext_graph.specs.declared.arena.Ptr.{Ptr}
use Rattle.irtext_graph.specs.declared.object.Operation.{Operation}
use Rattle.irtext_graph.specs.declared.object.BasicBlock.{BasicBlock}
use Rattle.irtext_graph.specs.declared.object.Region.{Region}
use Rattle.irtext_graph.specs.declared.object.Object.{Object}
use Rattle.irtext_graph.specs.declared.object.Object.TheVariants.{TheOperation, TheRegion}
use Rattle.irtext_graph.specs.declared.object.Value.{Value}
use Rattle.irtext_graph.specs.Back.{AllOlder}
use Rattle.irtext_graph.specs.Chained.{Among}
use Rattle.irtext_graph.specs.Graph.{children, parent, IsLive, Appends, CountsOn}
use Rattle.irtext_graph.specs.Nested as graphs
use Rattle.irtext_graph.specs.Regions.{with_child}
use Rattle.irtext_graph.specs.Store.{get, object_of}
use Rattle.irtext_grammar.specs.Contexts.Formats.{format_of, IsAccepted}
use Rattle.irtext_grammar.specs.Contexts.Held.{location_over}
use Rattle.irtext_grammar.specs.Grammar.Forest as forest
use Rattle.irtext_grammar.specs.Grammar.Forest.{Regions, no_regions, region, Blocks, no_blocks, block, Operations, no_operations, AllRegions}
use Rattle.irtext_grammar.specs.Grammar.Tree.{Op, Head, Brace, shown, elided}
use Rattle.irtext_grammar.specs.Graphs.Build.{built_regions}
use Rattle.irtext_grammar.specs.Graphs.Links.{OpLinked}
use Rattle.irtext_grammar.specs.Names.Acts.{blocks_script}
use Rattle.irtext_grammar.specs.Names.History as history
use Rattle.irtext_grammar.specs.Names.History.{State, going, run, events}
use Rattle.irtext_grammar.specs.Names.Script as script
use Rattle.irtext_grammar.specs.Names.Script.{Path, done}
use Rattle.irtext_grammar.specs.Spelling.Spellable.{Each}
use Rattle.irtext_grammar.proofs.Grammar.PartsOfFormats.{FormedRegions, FormedBlocks, FormedOperations}
use Rattle.irtext_scopes.specs.declared.tracker.NameTracker.{NameTracker}
use Rattle.irtext_grammar.specs.Naming.{paths_in_blocks}
use Rattle.irtext_grammar.specs.Unchanged.{RegionsHold, IsThere}
use Rattle.irtext_grammar.specs.Tracks.{Made, noted, HasChild}
use Rattle.irtext_grammar.proofs.Whole.{WholeRegions, WholeBlocks, WholeOperations}
use Rattle.irtext_names.specs.Linked.{Known, NamesAgree}
use Rattle.irtext_names.specs.OfItems.{AreOf}
use Rattle.irtext_names.specs.Tied.{NoneIsLeft}
use Rattle.irtext_names.specs.Alone.{OnlyNewIn, IsWholeRegion, pointers_in, held_region, in_braces}
use Rattle.irtext_names.specs.Carriers.{marks_on_regions}
use Rattle.irtext_names.specs.OnlyNew.{BlanksDefine}
use Rattle.irtext_graph.proofs.Marks.{counts_kept, counts_on}
use Rattle.irtext_graph.proofs.Once.{gives_rest}
use Rattle.irtext_names.proofs.Ages.{operation_stays, block_stays, region_stays}
use Rattle.irtext_names.proofs.AloneBuilds as builds
use Rattle.irtext_names.proofs.Kept.{accepts}
use Rattle.irtext_names.proofs.News as news
use Rattle.irtext_parse_root.specs.Built.{RegionTracks}
use Rattle.irtext_parse_root.specs.Carried.{marks_in_blocks, AreCarried, Falls}
use Rattle.irtext_parse_root.proofs.RegionGains.{gains_child, other_operation, each_block, other_region, there_in}
use Rattle.irtext_parse_root.proofs.RegionMarks.{carried_there}
use Rattle.irtext_parse_root.proofs.RegionMoved as moved

-- each operation that a text parses as has a body of an accepted format
module _ {T A : Type 0} (dialects : List (Text × Table)) (accepted : (id : Id) → IsAccepted dialects id) where
  mutual
    regions_formed : (rs : Regions (Op ℕ T A) (Head ℕ T A) (Brace ℕ)) → WholeRegions (format_of dialects) rs → FormedRegions rs
    regions_formed no_regions w = tt
    regions_formed (region (shown place) bs rs) w = (blocks_formed bs w.0, regions_formed rs w.1)
    regions_formed (region elided bs rs) w = absurd w

    pub blocks_formed : (bs : Blocks (Op ℕ T A) (Head ℕ T A) (Brace ℕ)) → WholeBlocks (format_of dialects) bs → FormedBlocks bs
    blocks_formed no_blocks w = tt
    blocks_formed (block h os bs) w = (operations_formed os w.0, blocks_formed bs w.1)

    operations_formed : (os : Operations (Op ℕ T A) (Head ℕ T A) (Brace ℕ)) → WholeOperations (format_of dialects) os → FormedOperations os
    operations_formed no_operations w = tt
    operations_formed (forest.operation o rs os) (((f, known, is), enough), inner, others) =
        ((record { format = f; accepted = accepts (format_of dialects o.id) f (accepted o.id) known; is_of = is; enough = enough }, regions_formed rs inner), operations_formed os others)

module _ {T A : Type 0} (L : ℕ → Location A → Type 0) (start mid now : ContextView T A) (items : Made) (whole : List Object) (op : Ptr Operation) (r : Ptr Region) (place : ℕ) (bs : Blocks (Op ℕ T A) (Head ℕ T A) (Brace ℕ))
    (hold : RegionsHold (noted items L) mid whole (r ∷ []) (forest.region (shown place) bs no_regions)) (there : (o : Object) → Among o whole → IsThere mid o) (tracks : RegionTracks start mid items whole r)
    (a : Appends mid.graph now.graph (TheOperation op) (TheRegion r)) (here : IsSome (operation start op))
    (m : ℕ) (older : AllOlder m start.graph) (kept : KeepsOlder m start mid) (none : NoneIsLeft m [] mid.graph) (blanks : BlanksDefine m mid) (holders : (o k : Object) → parent start.graph o ≡ Some k → IsLive start.graph k)
    (nest : graphs.Nested (children now.graph) (parent now.graph)) (path : ℕ → Path) (said : Each (λ item. path item.0 ≡ item.1) (paths_in_blocks (0 ∷ []) 0 bs))
    (isolated : Id → Bool) (id : Id) (id_closed : isolated id ≡ true) (formed : FormedBlocks bs) (names_at : NameTracker Value (Ptr BasicBlock)) (known : Known) (are : AreOf path items known) (st : State) (agreed : NamesAgree names_at mid.graph known [] st)
    (ran : run (going history.start) (events (script.within true place (blocks_script isolated (0 ∷ []) 0 bs) done)) ≡ going st)
    (first : ℕ → Written A) (tells : (n : ℕ) (l : Location A) → L n l → location_over now.paths l ≡ first n) where
  abbrev rs : Regions (Op ℕ T A) (Head ℕ T A) (Brace ℕ)
  rs = in_braces place bs

  not_whole : Among (TheOperation op) whole → ⊥
  not_whole i = tracks.came (TheOperation op) i here

  hold_now : RegionsHold (noted items L) now whole (r ∷ []) rs
  hold_now = moved.regions_moved (noted items L) mid now op r a whole not_whole (r ∷ []) rs hold

  inside_now : (o : Object) → Among o whole → (o ≡ TheRegion r) ⊎ ((k : Object) × Among k whole × HasChild now k o)
  inside_now o i = elim (tracks.inside o i) [ inl e ↦ inl e | inr (k, at, child) ↦ inr (k, at, moved.child_moved (noted items L) mid now op r a whole not_whole k o at child) ]

  -- the contents of the region are what the blocks build
  builds_now : held_region now r ≡ built_regions isolated first [] [] [] 0 true rs
  builds_now = builds.region_builds L now items whole r place bs hold_now tracks.known tracks.once inside_now nest path said first isolated id id_closed formed names_at mid.graph known are st agreed
      (moved.used_same (noted items L) mid now op r a whole not_whole) ran tells

  linked_now : AllRegions OpLinked (λ b. ⊤) (λ q. ⊤) (held_region now r)
  linked_now = subst (λ z. AllRegions OpLinked (λ b. ⊤) (λ q. ⊤) z) (sym builds_now) (builds.region_linked first isolated id id_closed place bs formed st ran)

  -- nothing is given where the region becomes a child
  appended_counts : CountsOn mid.graph now.graph
  appended_counts =
      let rest = a.objects.rest in
      let made = rest.made in
      let values = rest.values in
      record { made = omega (arith, made); values = omega (arith, values); first_place = rest.first_place; pointers = gives_rest mid.graph now.graph rest (λ q e. a.objects.contents q ∙ e) }

  -- only the region and what is nested in it are new
  only_now : now ≡ with_graph mid now.graph → OnlyNewIn op r start now
  only_now is = record {
    live = news.region_live L start mid now items whole op r a there tracks.came tracks.all tracks.known hold.0 inside_now nest m older kept none blanks holders;
    is_new = news.region_is_new L start mid now items whole op r a there tracks.came tracks.all tracks.known hold.0 inside_now nest m older kept none blanks holders;
    gains = gains_child mid.graph now.graph op r a ∙ ap (option_map (object_of (with_child r))) (operation_stays m start.graph mid.graph older kept.graph op (there_in start op here));
    operations = λ p was apart. other_operation mid.graph now.graph op r a p apart ∙ operation_stays m start.graph mid.graph older kept.graph p was;
    blocks = λ b was. each_block mid.graph now.graph op r a b ∙ block_stays m start.graph mid.graph older kept.graph b was;
    regions = λ q was.
        other_region mid.graph now.graph op r a q (λ e. tracks.came (TheRegion r) hold.0 (region_seen (get start.graph.regions r) (subst (λ z. IsSome (get start.graph.regions z)) e was)))
        ∙ region_stays m start.graph mid.graph older kept.graph q was;
    uses = news.region_uses L start mid now items whole op r a there tracks.came tracks.all tracks.known hold.0 inside_now nest m older kept none blanks holders rs
        (builds.is_region L now items whole r place bs hold_now tracks.known tracks.once inside_now nest path said) linked_now path
        (builds.placed L now items whole r place bs hold_now tracks.known tracks.once inside_now nest path said)
        (builds.occurs_whole L now items whole r place bs hold_now tracks.known tracks.once inside_now nest path said);
    counts = counts_on start.graph mid.graph now.graph (counts_kept m start.graph mid.graph kept.graph) appended_counts;
    paths = subst (λ (c : ContextView T A). KeepsPaths start.paths c.paths) (sym is) kept.paths;
    dialects = ap (λ (c : ContextView T A). c.dialects) is ∙ kept.dialects;
  }
    where
      region_seen : (x : moved.OfRegion) → IsSome x → IsSome (option_map region_of x)
      region_seen None h = absurd (cc)
      region_seen (Some e) h = refl

  -- the items that carry its marks are in it
  carried_now : (above below : ℕ) → Falls above items below → (marks : List (ℕ × Item)) → AreCarried items (marks_in_blocks bs) marks → marks ≡ marks_on_regions rs (pointers_in now r)
  carried_now above below falls marks carried =
      carried_there L now items above below falls (pointers_in now r) rs (builds.is_region L now items whole r place bs hold_now tracks.known tracks.once inside_now nest path said)
      marks (subst (λ ms. AreCarried items ms marks) (sym (append-nil (marks_in_blocks bs))) carried)

  -- what is promised of the context, and of marks that are recorded
  pub record Promised (marks : List (ℕ × Item)) : Type 0 where
    pub builds : held_region now r ≡ built_regions isolated first [] [] [] 0 true (in_braces place bs)
    pub is_whole : IsWholeRegion now r
    pub carried : marks ≡ marks_on_regions (in_braces place bs) (pointers_in now r)
    pub only : OnlyNewIn op r start now

  pub promised : now ≡ with_graph mid now.graph → (above below : ℕ) → Falls above items below → (marks : List (ℕ × Item)) → AreCarried items (marks_in_blocks bs) marks → Promised marks
  promised is above below falls marks carried = record {
    builds = builds_now;
    is_whole = builds.is_whole L now items whole r place bs hold_now tracks.known tracks.once inside_now nest path said first tells;
    carried = carried_now above below falls marks carried;
    only = only_now is;
  }
