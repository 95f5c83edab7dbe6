-- The promise of a root, from the result of parsing its operation, with a section after it or without one.
use Rattle.std.proofs.Common.{◌≡◌, ◌∙◌, ◌==◌, ℕ, suc, true, false, List, [], ◌∷◌, ◌++◌, map, length, Option, Some, refl, sym, ap, subst, inl, inr}
use Rattle.irtext_base.specs.Text.{Text}
use Rattle.irtext_base.specs.Format.{distinct}
use Rattle.irtext_base.specs.Answers.{Outcome, Read}
use Rattle.irtext_base.specs.Own.{texts_of}
use Rattle.irtext_base.specs.Paths.{Written}
use Rattle.irtext_base.specs.declared.location.Location.{Location}
use Rattle.irtext_base.specs.declared.parsable.fault.ParseFault.{ParseFault}
use Rattle.irtext_base.specs.declared.text.IrText as ir_text
use Rattle.irtext_context.specs.Context.{ContextView, KeepsOlder}
use Rattle.irtext_context.specs.Dialects.{Table}
use Rattle.irtext_context.specs.declared.base.item.Item.{Item}
use Rattle.irtext_context.proofs.Kept.{kept_trans}
use Rattle.irtext_graph.specs.declared.arena.Ptr.{Ptr}
use Rattle.irtext_graph.specs.declared.object.Operation.{Operation}
use Rattle.irtext_graph.specs.Chained.{Among}
use Rattle.irtext_tokens.specs.AttrTexts.{attr_at}
use Rattle.irtext_parse_state.specs.States.{marks_of}
use Rattle.irtext_parse_state.specs.declared.parsable.state.StateStream.{StateStream}
use Rattle.irtext_grammar.specs.Contexts.Formats.{format_of, isolated}
use Rattle.irtext_grammar.specs.Contexts.Held.{location_over, whole}
use Rattle.irtext_grammar.specs.Contexts.Nested.{pointers}
use Rattle.irtext_grammar.specs.Grammar.Marked.{marked, section_if, reads_root}
use Rattle.irtext_grammar.specs.Grammar.Reads as grammar
use Rattle.irtext_grammar.specs.Grammar.Section.{Entry, section}
use Rattle.irtext_grammar.specs.Grammar.Tree.{Mark, Tree}
use Rattle.irtext_grammar.specs.Graphs.Build.{build}
use Rattle.irtext_grammar.specs.Graphs.Links.{links}
use Rattle.irtext_grammar.specs.Names.Acts.{failures_of, rule_of}
use Rattle.irtext_grammar.specs.Names.Resolves as resolves
use Rattle.irtext_grammar.specs.Names.Script.{done}
use Rattle.irtext_grammar.proofs.Grammar.PartsOfFormats.{Formed}
use Rattle.irtext_grammar.proofs.Grammar.WholeTree as trees
use Rattle.irtext_grammar.proofs.Graphs.Links.{all_there}
use Rattle.irtext_grammar.proofs.Names.ResolvedRoot as resolved
use Rattle.irtext_grammar.specs.Promises.Root.{location_of, UnlessMemory}
use Rattle.irtext_grammar.specs.Promises.Section.{indices_of, is_noted}
use Rattle.irtext_grammar.specs.Promises.Supported.{location_verdict}
use Rattle.irtext_grammar.proofs.Readers.Answered.{moves_more}
use Rattle.irtext_grammar.proofs.Knot.Whole as knot
use Rattle.irtext_grammar.proofs.Naming.Places.{places_fall}
use Rattle.irtext_names.specs.Given.{RootHas}
use Rattle.irtext_names.specs.Held.{held_root, placed_under}
use Rattle.irtext_names.specs.OnlyNew.{OnlyNew}
use Rattle.irtext_names.specs.Placed.{RootIs}
use Rattle.irtext_names.specs.Promises.{BuildsTree, BuildsRoot, RefusesRoot}
use Rattle.irtext_names.specs.WithSection.{SameShape}
use Rattle.irtext_names.proofs.Ages.{operation_stays, block_stays, region_stays}
use Rattle.irtext_names.proofs.AfterTree.{place_written}
use Rattle.irtext_names.proofs.Equal.{Keeps}
use Rattle.irtext_names.proofs.Kept as kept
use Rattle.irtext_names.proofs.Root as root
use Rattle.irtext_names.proofs.WithSection.{pointers_same, builds_given, only_still}
use Rattle.irtext_names.proofs.Wholes.{root_whole}
use Rattle.irtext_names.proofs.ItemsGiven.{root_has}
use Rattle.irtext_grammar.specs.Agrees.{refused, ReadOrStops}
use Rattle.irtext_grammar.specs.Entries.{section_at}
use Rattle.irtext_grammar.proofs.Lawful.{section_read, section_found}
use Rattle.irtext_parse_root.specs.AnyState.{MissesSection, ReadsTree}
use Rattle.irtext_parse_root.specs.Carried.{marks_in, object_of, AreCarried}
use Rattle.irtext_parse_root.proofs.Carrying.{marks_are}
use Rattle.irtext_parse_pieces.proofs.Meanings.{takes_whole}
use Rattle.irtext_tokens.proofs.Steps.{alone}
use Rattle.irtext_names.specs.Located.{IsLocated}
use Rattle.irtext_parse_locations.specs.Applied.{AreNewer}
use Rattle.irtext_parse_section.specs.Said.{rules_of}
use Rattle.irtext_parse_section.specs.Items.{CarriesOnly}
use Rattle.irtext_parse_section.specs.Section.{ReadsSection}
use Rattle.irtext_parse_root.proofs.Laws.{Laws}
use Rattle.irtext_parse_root.proofs.Marks.{marked_items, carries_only}
use Rattle.irtext_parse_root.proofs.Newer.{all_newer}
use Rattle.irtext_parse_root.proofs.Rooted.{GivesEach, root_given}
use Rattle.irtext_parse_root.proofs.Rules.{rules_are}
use Rattle.irtext_parse_root.proofs.SectionFirst.{first_wrong}
use Rattle.irtext_parse_root.proofs.SectionGives as gives
use Rattle.irtext_graph.proofs.Marks.{counts_kept}

module _ {T A U : Type 0} {types : ir_text.Ghosts T A} {owns : ir_text.Ghosts A A} (laws : Laws types owns) (op : Ptr Operation) (old mid : StateStream T A U) (m : ReadsTree types.reading (attr_at owns.reading) op old mid) (none : marks_of old.state ≡ []) where
  -- what is parsed of a type and of an attribute, and what is printed
  abbrev types_at : Text → Outcome T
  types_at = types.reading

  abbrev types_written : T → Text
  types_written = types.written

  abbrev reading : Text → Outcome A
  reading = owns.reading

  abbrev written : A → Text
  written = owns.written

  abbrev dialects : List (Text × Table)
  dialects = old.state.ctx.now.dialects

  abbrev L : ℕ → Location A → Type 0
  L = IsLocated old.state.src (whole old.stream)

  abbrev earlier : List ℕ
  earlier = indices_of (marks_of old.state)

  none_earlier : earlier ≡ []
  none_earlier = ap indices_of none

  abbrev noted : List ℕ
  noted = indices_of (marks_of mid.state)

  abbrev t : Tree ℕ T A
  t = m.leaves.tree

  abbrev marks : List (ℕ × Item)
  marks = marks_of mid.state

  abbrev first_of : ContextView T A → ℕ → Written A
  first_of c = location_of c.paths old.state.src (whole old.stream)

  -- the recorded marks are those of the tree
  same_marks : marks ≡ m.marks
  same_marks = m.noted ∙ ap (λ (ms : List (ℕ × Item)). ms ++ m.marks) none

  carried : AreCarried m.leaves.items (marks_in t) marks
  carried = subst (AreCarried m.leaves.items (marks_in t)) (sym same_marks) m.carried

  -- the items of the recorded marks are newer than what was there before
  pub marks_newer : AreNewer old.state.ctx.now.graph.made mid.state.ctx.now marks
  marks_newer = all_newer old.state.ctx.now.graph.made old.state.ctx.now mid.state.ctx.now m.closed.older m.closed.kept L m.leaves.items m.leaves.whole op t m.leaves.held marks carried

  -- ---- no section
  is_marked : is_noted noted ≡ marked t
  is_marked = root.marked_noted types_at types_written reading written dialects laws.types_split laws.splits laws.words laws.short_types laws.short_owns m.accepted L op earlier noted old.state.ctx.now mid.state.ctx.now old.stream.rest mid.stream.rest m.leaves none_earlier

  reads_it : grammar.reads (knot.L types_at types_written reading written dialects) t old.stream.rest mid.stream.rest
  reads_it = kept.reads_tree types_at types_written reading written dialects laws.types_split laws.splits laws.words laws.short_types laws.short_owns m.accepted L op earlier noted old.state.ctx.now mid.state.ctx.now old.stream.rest mid.stream.rest m.leaves

  tree_resolves : failures_of {X = Written A} (isolated dialects) t [] ≡ []
  tree_resolves = kept.tree_resolves types_at types_written reading written dialects laws.types_split laws.splits laws.words laws.short_types laws.short_owns m.accepted L op earlier noted old.state.ctx.now mid.state.ctx.now old.stream.rest mid.stream.rest m.leaves

  -- an operation that was parsed with no section keeps its promise
  pub tree_built : BuildsTree (texts_of types_at types_written) (texts_of reading written) (attr_at reading) op old mid
  tree_built = record { tree = t; reads = reads_it; resolves = tree_resolves; moves = m.moves; builds = m.builds; marks = ap indices_of same_marks ∙ m.marked; only = m.only }

  formed : Formed t
  formed = kept.formed types_at types_written reading written dialects laws.types_split laws.splits laws.words laws.short_types laws.short_owns m.accepted L op earlier noted old.state.ctx.now mid.state.ctx.now old.stream.rest mid.stream.rest m.leaves

  module _ (first : ℕ → Written A) where
    is_tree : RootIs L mid.state.ctx.now m.leaves.items (pointers mid.state.ctx.now.graph op) t
    is_tree = kept.is_tree types_at types_written reading written dialects laws.types_split laws.splits laws.words laws.short_types laws.short_owns m.accepted L op earlier noted old.state.ctx.now mid.state.ctx.now old.stream.rest mid.stream.rest m.leaves m.closed first

    keeps_links : (es : List (Entry ℕ A (Written A))) → Keeps mid.state.ctx.now first es (isolated dialects) (placed_under (pointers mid.state.ctx.now.graph op)) (links (build (isolated dialects) first es t))
    keeps_links = kept.keeps types_at types_written reading written dialects laws.types_split laws.splits laws.words laws.short_types laws.short_owns m.accepted L op earlier noted old.state.ctx.now mid.state.ctx.now old.stream.rest mid.stream.rest m.leaves m.closed first

  tells_first : (n : ℕ) (l : Location A) → L n l → location_over mid.state.ctx.now.paths l ≡ first_of mid.state.ctx.now n
  tells_first n l e = place_written mid.state.ctx.now.paths old.state.src (whole old.stream) n l e

  -- so does a root without a mark, after which no section is looked for
  pub root_unmarked : marks_of mid.state ≡ [] → BuildsRoot (texts_of types_at types_written) (texts_of reading written) (attr_at reading) op old mid
  root_unmarked bare =
      let unmarked : marked t ≡ false = sym is_marked ∙ ap (λ (ms : List (ℕ × Item)). is_noted (indices_of ms)) bare in
      record {
        tree = t;
        entries = [];
        reads = (mid.stream.rest, reads_it, subst (λ z. section_if (knot.L types_at types_written reading written dialects) (location_verdict (attr_at reading)) z [] mid.stream.rest mid.stream.rest) (sym unmarked) refl);
        resolves = tree_resolves;
        moves = m.moves;
        builds = m.builds;
        is_whole = root_whole mid.state.ctx.now (first_of mid.state.ctx.now) [] op t
            (root_has L mid.state.ctx.now m.leaves.items (first_of mid.state.ctx.now) tells_first (pointers mid.state.ctx.now.graph op) t (is_tree (first_of mid.state.ctx.now)));
        fresh = bare;
        only = m.only;
      }

  -- ---- a section
  module _ (some : marks_of mid.state ≡ [] → ⊥) where
    has_mark : marked t ≡ true
    has_mark = sym is_marked ∙ go (marks_of mid.state) some
      where
        go : (ms : List (ℕ × Item)) → (ms ≡ [] → ⊥) → is_noted (indices_of ms) ≡ true
        go [] h = absurd (h refl)
        go (x ∷ ms) h = refl

    resolves_it : resolves.Resolves (isolated dialects) {X = Written A} t []
    resolves_it = resolved.resolves (isolated dialects) t [] (trees.whole (knot.L types_at types_written reading written dialects) (λ p q h. h) t old.stream.rest mid.stream.rest reads_it) tree_resolves

    -- no mark occurs twice
    apart : distinct ◌==◌ (map (λ n. n.0) (marks_in t)) ≡ true
    apart = ap (distinct ◌==◌) (marks_are (isolated dialects) t) ∙ resolves_it.marks

    -- what is allowed in the entry of an item by its mark is what is allowed by the tree
    same_rules : rules_of marks ≡ rule_of t
    same_rules = rules_are L mid.state.ctx.now m.leaves.items (pointers mid.state.ctx.now.graph op) t (is_tree (first_of mid.state.ctx.now)) marks carried (length old.stream.rest) (length mid.stream.rest) m.falls apart

    carries : (n : ℕ) (x : Item) (mark : Option (Mark ℕ)) → Among (n, object_of x) m.leaves.items → Among (n, mark) (marked_items t) → CarriesOnly marks x mark
    carries = carries_only t (suc (length old.stream.rest)) (suc (length mid.stream.rest)) (places_fall (texts_of types_at types_written) (texts_of reading written) (format_of dialects) laws.short_types laws.short_owns t old.stream.rest mid.stream.rest reads_it)
        m.leaves.items marks carried (length old.stream.rest) (length mid.stream.rest) m.falls m.leaves.held.tracks.once apart

    -- ---- it was parsed
    -- what the text is then, whatever the items have
    module _ (entries : List (Entry ℕ A (Written A))) (taken rest : Text) (reads : section_at (attr_at reading) noted (rules_of marks) mid.stream.rest ≡ Read entries taken rest) where
      read : section (knot.L types_at types_written reading written dialects) (location_verdict (attr_at reading)) entries mid.stream.rest rest
          × (taken ++ rest ≡ mid.stream.rest) × (refused noted (rules_of marks) entries ≡ [])
      read = section_read (texts_of types_at types_written) reading written (format_of dialects) laws.sincere laws.lawful noted (rules_of marks) mid.stream.rest entries taken rest reads

      none_wrong : refused noted (rule_of t) entries ≡ []
      none_wrong = subst (λ rules. refused noted rules entries ≡ []) same_rules read.2

      pub reads_marked : reads_root (knot.L types_at types_written reading written dialects) (location_verdict (attr_at reading)) t entries old.stream.rest rest
      reads_marked = (mid.stream.rest, reads_it, subst (λ b. section_if (knot.L types_at types_written reading written dialects) (location_verdict (attr_at reading)) b entries mid.stream.rest rest) (sym has_mark) read.0)

      pub resolves_marked : failures_of (isolated dialects) t entries ≡ []
      resolves_marked = root.section_failures types_at types_written reading written dialects laws.types_split laws.splits laws.words laws.short_types laws.short_owns m.accepted L op earlier noted old.state.ctx.now mid.state.ctx.now old.stream.rest mid.stream.rest m.leaves none_earlier entries ∙ none_wrong

    module _ (new : StateStream T A U) (r : ReadsSection (attr_at reading) mid new) (later : KeepsOlder old.state.ctx.now.graph.made mid.state.ctx.now new.state.ctx.now) where
      abbrev first : ℕ → Written A
      first = first_of new.state.ctx.now

      none_refused : refused noted (rules_of marks) r.entries ≡ []
      none_refused = (read r.entries r.taken new.stream.rest r.reads).2

      each : GivesEach L mid.state.ctx.now m.leaves.items marks new.state.ctx.now first r.entries
      each = gives.each (attr_at reading) mid new r (rules_of marks) none_refused L m.leaves.items first (λ n l e. place_written new.state.ctx.now.paths old.state.src (whole old.stream) n l e)

      has : RootHas new.state.ctx.now first r.entries (pointers mid.state.ctx.now.graph op) t
      has = root_given L mid.state.ctx.now m.leaves.items marks new.state.ctx.now first r.entries each t carries (pointers mid.state.ctx.now.graph op) (is_tree first)

      shape : SameShape mid.state.ctx.now.graph new.state.ctx.now.graph
      shape = gives.shape (attr_at reading) mid new r

      held : held_root new.state.ctx.now op ≡ Some (build (isolated dialects) first r.entries t)
      held = builds_given mid.state.ctx.now new.state.ctx.now shape first (isolated dialects) op t r.entries (all_there (isolated dialects) first r.entries t formed done tree_resolves) (keeps_links first r.entries) has

      all_kept : KeepsOlder old.state.ctx.now.graph.made old.state.ctx.now new.state.ctx.now
      all_kept = kept_trans m.closed.kept later

      abbrev mark : ℕ
      mark = old.state.ctx.now.graph.made

      only : OnlyNew op old.state.ctx.now new.state.ctx.now
      only = only_still op old.state.ctx.now mid.state.ctx.now new.state.ctx.now m.only shape
          (λ p h. operation_stays mark old.state.ctx.now.graph new.state.ctx.now.graph m.closed.older all_kept.graph p h ∙ sym (operation_stays mark old.state.ctx.now.graph mid.state.ctx.now.graph m.closed.older m.closed.kept.graph p h))
          (λ b h. block_stays mark old.state.ctx.now.graph new.state.ctx.now.graph m.closed.older all_kept.graph b h ∙ sym (block_stays mark old.state.ctx.now.graph mid.state.ctx.now.graph m.closed.older m.closed.kept.graph b h))
          (λ q h. region_stays mark old.state.ctx.now.graph new.state.ctx.now.graph m.closed.older all_kept.graph q h ∙ sym (region_stays mark old.state.ctx.now.graph mid.state.ctx.now.graph m.closed.older m.closed.kept.graph q h))
          (counts_kept mark mid.state.ctx.now.graph new.state.ctx.now.graph later.graph) all_kept.paths later.dialects

      -- the root keeps its promise
      pub root_marked : BuildsRoot (texts_of types_at types_written) (texts_of reading written) (attr_at reading) op old new
      root_marked = record {
        tree = t;
        entries = r.entries;
        reads = reads_marked r.entries r.taken new.stream.rest r.reads;
        resolves = resolves_marked r.entries r.taken new.stream.rest r.reads;
        moves = moves_more m.moves r.moves;
        builds = held;
        is_whole = root_whole new.state.ctx.now first r.entries op t (subst (λ ps. RootHas new.state.ctx.now first r.entries ps t) (sym (pointers_same mid.state.ctx.now.graph new.state.ctx.now.graph shape op)) has);
        fresh = r.fresh;
        only = only;
      }

    -- ---- it was an error
    pub section_refused : (fault : ParseFault A) → MissesSection (attr_at reading) mid fault → UnlessMemory (RefusesRoot (texts_of types_at types_written) (texts_of reading written) types_at (attr_at reading) dialects old.stream) fault
    section_refused fault (inl ran_out) = inl ran_out
    section_refused fault (inr (cause, upto, h, at)) = inr (root.root_refused_after types_at types_written reading written dialects laws.types_split laws.splits laws.words laws.short_types laws.short_owns m.accepted L op earlier noted old.state.ctx.now mid.state.ctx.now old.stream mid.stream.rest m.leaves none_earlier fault
        (λ es left s.
        let k = subst (λ b. section_if (knot.L types_at types_written reading written dialects) (location_verdict (attr_at reading)) b es mid.stream.rest left) has_mark s in
        let found = section_found (texts_of types_at types_written) reading written (format_of dialects) laws.sincere laws.lawful noted (rules_of marks) mid.stream.rest es left k in
        first_wrong (whole old.stream) mid.stream.passed mid.stream.rest (takes_whole alone old.stream mid.stream m.moves.taken mid.stream.rest m.moves.takes) fault cause upto at.because at.place
        (section_at (attr_at reading) noted (rules_of marks) mid.stream.rest) es left (refused noted (rule_of t) es)
        (subst (λ rules. ReadOrStops mid.stream.rest (section_at (attr_at reading) noted (rules_of marks) mid.stream.rest) es left (refused noted rules es)) same_rules found) h))
