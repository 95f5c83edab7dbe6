-- One region under a live operation, from its brace to its end, and how it is appended to the operation.
use Rattle.std.proofs.Common.{◌≡◌, ◌∙◌, ◌≤◌, ◌<◌, ◌+◌, ◌-◌, ℕ, zero, suc, Bool, true, false, ◌||◌, List, [], ◌∷◌, ◌++◌, length, Option, Some, None, IsSome, refl, sym, ap, subst, append-nil, arith, inl, inr, codes}
use Rattle.std.specs.Option.{option_map, option_and_then}
use Rattle.std.specs.Char.{is_whitespace}
use Rattle.irtext_base.specs.Text.{Text, after_space}
use Rattle.irtext_base.specs.Faults.{Fault, NotIsolated, Unexpected, Word, fault_of}
use Rattle.irtext_base.specs.Stream.{StreamView, first_of}
use Rattle.irtext_base.specs.Answers.{Outcome, Read, Missing, Bad, Passes, demanded, followed}
use Rattle.irtext_base.specs.Locations.{AttrView}
use Rattle.irtext_base.specs.declared.location.Location.{Location}
use Rattle.irtext_base.specs.declared.parsable.fault.ParseFault.{ParseFault}
use Rattle.irtext_base.proofs.Characters.{after_twice}
use Rattle.irtext_context.specs.Context.{ContextView, OperationView, RegionView, operation, operation_of, region, region_of, with_graph, KeepsOlder}
use Rattle.irtext_context.specs.Dialects.{Table}
use Rattle.irtext_graph.specs.Back.{AllOlder, IsClosedBelow}
use Rattle.irtext_graph.specs.Chained.{Among}
use Rattle.irtext_graph.specs.Graph.{GraphView, parent, parent_of, IsNew, CanInsert, MakesRegion, Appends}
use Rattle.irtext_graph.specs.Nested.{climb}
use Rattle.irtext_graph.specs.Store.{get, before}
use Rattle.irtext_graph.specs.declared.arena.Ptr.{Ptr}
use Rattle.irtext_graph.specs.declared.object.Operation.{Operation}
use Rattle.irtext_graph.specs.declared.object.Region.{Region}
use Rattle.irtext_graph.specs.declared.object.Object.{Object}
use Rattle.irtext_graph.specs.declared.object.Object.TheVariants.{TheOperation, TheRegion}
use Rattle.irtext_graph.proofs.Frames.{new_operation}
use Rattle.irtext_tokens.specs.AttrTexts.{attr_at}
use Rattle.irtext_tokens.specs.Infix.{Reader, ◌▷◌}
use Rattle.irtext_tokens.specs.Tokens.{space_at, word}
use Rattle.irtext_scopes.specs.Scopes.{is_open}
use Rattle.irtext_scopes.specs.Tracker.{entered}
use Rattle.irtext_parse_state.specs.States.{KeepsRest, marks_of}
use Rattle.irtext_parse_state.specs.declared.parsable.state.StateStream.{StateStream}
use Rattle.irtext_grammar.specs.Contexts.Formats.{format_of}
use Rattle.irtext_grammar.specs.Contexts.Held.{whole}
use Rattle.irtext_grammar.specs.Names.History.{Outcome as Machine, failed}
use Rattle.irtext_grammar.specs.Names.Script.{Path}
use Rattle.irtext_grammar.specs.Promises.Root.{UnlessMemory}
use Rattle.irtext_grammar.specs.Promises.Section.{Moves}
use Rattle.irtext_grammar.specs.Readers.Streams.{itself, replaced}
use Rattle.irtext_grammar.proofs.Readers.Answered.{moves_more}
use Rattle.irtext_grammar.proofs.Joins.Answers.{Splits}
use Rattle.irtext_grammar.specs.Reached.{Reached, Advanced, Stopped, came, tells, Actions, blocks_by, begins_region, region_at}
use Rattle.irtext_grammar.specs.Resume.{a_region, block_at, EndsIn}
use Rattle.irtext_grammar.specs.Resume as theory
use Rattle.irtext_grammar.proofs.Knot.Loops.{tells_found}
use Rattle.irtext_grammar.proofs.Naming.Keeps.{failed_keeps}
use Rattle.irtext_grammar.proofs.Naming.KeepsReading.{done_in, quiet_region_at}
use Rattle.irtext_grammar.proofs.Resume.Frames.{tells_bad}
use Rattle.irtext_grammar.proofs.Resume.Unbounded.{Unbounded}
use Rattle.irtext_grammar.specs.Grows.{RegionCame}
use Rattle.irtext_grammar.specs.Unchanged.{region_under, IsThere, ModifiesOnly}
use Rattle.irtext_grammar.specs.Tracks.{Made, HoldsMade, IsHeld as HeldBy}
use Rattle.irtext_grammar.proofs.Kept.{there_still}
use Rattle.irtext_parse_nested.specs.declared.frame.BegunRegion.{BegunRegion}
use Rattle.irtext_names.specs.Items.{Names, MachineAgrees, IsFailure, IsTextFault, IsSound, doing}
use Rattle.irtext_parse_nested.specs.OpenOperation.{IsRegion}
use Rattle.irtext_names.specs.Located.{IsLocated}
use Rattle.irtext_parse_nested.specs.Read as read
use Rattle.irtext_parse_nested.specs.Read.{BeginsRegion, RefusesRegion}
use Rattle.irtext_parse_root.specs.declared.frames.Frame.TheVariants as framed
use Rattle.irtext_parse_root.specs.Built.{start_of, IsHeld, HoldsRegion}
use Rattle.irtext_parse_root.specs.Carried.{Falls}
use Rattle.irtext_parse_root.specs.Here.{within, IsHere, AreHere}
use Rattle.irtext_parse_root.specs.Levels.{Level, at_region, isolated_in}
use Rattle.irtext_parse_root.specs.Recorded.{did_enter, recorder, all_done}
use Rattle.irtext_parse_root.specs.Turned.{Turned, Faulted, at_text, by_names, Stops, Finishes}
use Rattle.irtext_parse_root.specs.Under as under
use Rattle.irtext_names.specs.Alone.{IsOutermost}
use Rattle.irtext_parse_root.specs.Under.{IsolatedAs, ReadsUnder, FaultUnder, RefusesUnder}
use Rattle.irtext_parse_root.proofs.Carrying.{falls_both}
use Rattle.irtext_parse_root.proofs.Chains.{moved_whole, turned_over, faulted_over}
use Rattle.irtext_parse_root.proofs.Nearer.{moves_fewer}
use Rattle.irtext_parse_root.proofs.Proceeding.{entered_more, is_open_some, loops}
use Rattle.irtext_parse_root.proofs.Telling.{goes_recorded, goes_after, stuck_recorded}
use Rattle.irtext_parse_nested.proofs.Unplaced.{alone_is, alone_came, alone_spares}

-- ---- a new object is nested in new ones only
-- no object is above no object
none_climbs : {O : Type 0} (up : O → Option O) (n : ℕ) (o : O) → climb up n None ≡ Some o → ⊥
none_climbs up zero o e = absurd (cc e)
none_climbs up (suc n) o e = absurd (cc e)

-- what is nested in a new object is new
pub inside_new : {O B T : Type 0} (m : ℕ) (g : GraphView O B T) → IsClosedBelow m g → (o : Object) → IsNew m g o → (n : ℕ) (q : Object) → climb (parent g) n (Some q) ≡ Some o → IsNew m g q
inside_new m g closed o new zero q e = let f : o ≡ q = cc e in subst (IsNew m g) f new
inside_new m g closed o new (suc n) q e = go (parent g q) refl e (λ k up. inside_new m g closed o new n k up)
  where
    go : (k : Option Object) → parent g q ≡ k → climb (parent g) n k ≡ Some o → ((k : Object) → climb (parent g) n (Some k) ≡ Some o → IsNew m g k) → IsNew m g q
    go (Some k) is up inner = closed.parents q k is (inner k up)
    go None is up inner = absurd (none_climbs (parent g) n o up)

module _ {T A : Type 0} (m : ℕ) (old mid : ContextView T A) (older : AllOlder m old.graph) (kept : KeepsOlder m old mid) where
  -- an operation that was live is older
  pub not_new : (op : Ptr Operation) → IsSome (operation old op) → IsNew m mid.graph (TheOperation op) → ⊥
  not_new op there new =
      let gone : before m mid.graph.operations op ≡ None = new_operation m mid.graph op new in
      let was : get old.graph.operations op ≡ None = sym (older.operations op) ∙ (sym (kept.graph.operations op) ∙ gone) in
      let none : operation old op ≡ None = ap (option_and_then operation_of) was in
      let h = subst IsSome none there in
      absurd (cc h)

  -- the region can be inserted into it
  pub can_place : IsClosedBelow m mid.graph → (r : Ptr Region) → IsNew m mid.graph (TheRegion r) → (view : RegionView) → region mid r ≡ Some view → view.parent ≡ None → (op : Ptr Operation) → IsSome (operation old op)
      → CanInsert mid.graph (TheOperation op) (TheRegion r)
  can_place closed r new view is alone op there = record {
    free = go (get mid.graph.regions r) is;
    apart = λ w. not_new op there (inside_new m mid.graph closed (TheRegion r) new w.0 (TheOperation op) w.1);
  }
    where
      go : (e : _) → option_map region_of e ≡ Some view → option_map TheOperation (parent_of e) ≡ None
      go None f = absurd (cc f)
      go (Some e) f = let g : region_of e ≡ view = cc f in ap (option_map TheOperation) (ap (λ v. v.parent) g ∙ alone)

-- ---- its brace
-- white space was passed
tight : (o : Outcome (Unit {0})) (x : Unit {0}) (taken rest : Text) → followed o (λ _ t. space_at t) ≡ Read x taken rest → after_space rest ≡ rest
tight (Read y first left) x taken rest e =
    let q : after_space left ≡ rest = cc in
    ap after_space (sym q) ∙ (after_twice is_whitespace left ∙ q)
tight (Missing cause) x taken rest e = absurd (cc)
tight (Bad cause upto) x taken rest e = absurd (cc)

module _ {T A S : Type 0} (dialects : List (Text × Table)) (types_at : Reader T) (attr : Reader (AttrView A)) (does : Actions T A S) (k : Unbounded dialects types_at attr does) where
  -- the brace after a region's blocks
  abbrev and_brace : Bool → ℕ → Reached Unit S → Reached Unit S
  and_brace iso place o = came o (λ _ z left. tells (word (codes "}") left) left z (λ _ end. Advanced tt (does.leaves iso place z) end))

  abbrev after_brace : Bool → ℕ → S → Unit {0} → Text → Reached Unit S
  after_brace iso place z x rest = and_brace iso place (blocks_by (block_at dialects types_at attr does) (length rest) rest z)

  -- after its brace its blocks are left
  region_opens : (iso : Bool) (s : S) (u : Text) (x : Unit {0}) (taken r : Text) → (word (codes "{") ▷ space_at) u ≡ Read x taken r
      → region_at dialects types_at attr does iso u s ≡ theory.whole dialects types_at attr does (Some (a_region iso (length u))) [] (does.enters iso s) r
  region_opens iso s u x taken r e = k.region_is iso u s ∙ (tells_found ((word (codes "{") ▷ space_at) u) u (does.enters iso s) (after_brace iso (length u) (does.enters iso s)) x taken r e
      ∙ ap (λ v. and_brace iso (length u) (blocks_by (block_at dialects types_at attr does) (length r) v (does.enters iso s))) (sym (tight (word (codes "{") u) x taken r e)))

  -- no brace follows
  region_misses : (iso : Bool) (s : S) (u : Text) (cause : Fault) (upto : Text) → demanded ((word (codes "{") ▷ space_at) u) ≡ Bad cause upto
      → region_at dialects types_at attr does iso u s ≡ Stopped (does.enters iso s) cause (length u - length upto)
  region_misses iso s u cause upto e = k.region_is iso u s ∙ tells_bad ((word (codes "{") ▷ space_at) u) u (does.enters iso s) (after_brace iso (length u) (does.enters iso s)) cause upto e

  -- it is entered before its brace is parsed
  entered_once : (iso : Bool) (s z : S) (u : Text) → does.enters iso s ≡ z → does.enters iso z ≡ z → region_at dialects types_at attr does iso u s ≡ region_at dialects types_at attr does iso u z
  entered_once iso s z u f g = k.region_is iso u s ∙ (ap (λ y. tells ((word (codes "{") ▷ space_at) u) u y (after_brace iso (length u) y)) (f ∙ sym g) ∙ sym (k.region_is iso u z))

-- a parse ends with the state of what was done there
ends_in : {X S : Type 0} (s : S) (o : Reached X S) → done_in o ≡ s → EndsIn s o
ends_in s (Advanced x t rest) e = e
ends_in s (Stopped t cause place) e = e

-- ---- all of it
-- the bound on the first place may be raised
falls_from : (up above : ℕ) (items : Made) (below : ℕ) → above ≤ up → Falls above items below → Falls up items below
falls_from up above items below le h = subst (λ z. Falls up z below) (append-nil items) (falls_both up [] items above below le h)

module _ {T A U : Type 0} (types_at : Reader T) (reading : Reader A) (h : Splits types_at) (k : Splits reading) (before : Names) (old : StateStream T A U) (iso : Bool) where
  -- it can't be entered, or no brace follows
  entry_fails : (fault : ParseFault A) → fault.committed ≡ true → begins_region old.stream.rest ≡ true → RefusesRegion types_at (attr_at reading) iso before old fault → FaultUnder types_at (attr_at reading) iso before old fault
  entry_fails fault committed begins (read.not_isolated a) = under.by_names begins a.failure a.is
      (λ path items o agreed.
      let d = doing {T = T} {A = A} old.state.ctx.now.dialects path in
      let keeps = failed_keeps {T = T} {A = A} (format_of old.state.ctx.now.dialects) path a.failure in
      ends_in (failed a.failure) (region_at old.state.ctx.now.dialects types_at (attr_at reading) d iso old.stream.rest o)
      (ap done_in (entered_once old.state.ctx.now.dialects types_at (attr_at reading) d (loops types_at reading h k before old d) iso o (failed a.failure) old.stream.rest (a.so path items [] o agreed) (keeps.enters iso))
      ∙ (quiet_region_at old.state.ctx.now.dialects types_at (attr_at reading) d (failed a.failure) keeps iso).at old.stream.rest))
  entry_fails fault committed begins (read.no_brace names mid acts d) = under.at_text begins d.cause (length old.stream.rest - length d.upto) d.fault_is committed
      (λ path items o agreed.
      let z = acts.so path items [] o agreed in
      let w = doing {T = T} {A = A} old.state.ctx.now.dialects path in (
        z.state,
        region_misses old.state.ctx.now.dialects types_at (attr_at reading) w (loops types_at reading h k before old w) iso o old.stream.rest d.cause d.upto d.bad
            ∙ ap (λ y. Stopped y d.cause (length old.stream.rest - length d.upto)) z.going,
      ))

  pub entry_refused : (op : Ptr Operation) → IsolatedAs old.state.ctx.now op iso → (iso || is_open before.values) ≡ true → begins_region old.stream.rest ≡ true → (fault : ParseFault A) → fault.committed ≡ true
      → UnlessMemory (RefusesRegion types_at (attr_at reading) iso before old) fault → UnlessMemory (RefusesUnder types_at (attr_at reading) op before old) fault
  entry_refused op isolation opened begins fault committed (inl ran_out) = inl ran_out
  entry_refused op isolation opened begins fault committed (inr r) = inr (under.in_text iso isolation opened (entry_fails fault committed begins r))

-- neither holds
neither : (a b : Bool) → (a || b) ≡ false → (a ≡ false) × (b ≡ false)
neither true b e = absurd (cc)
neither false b e = (refl, e)

module _ {T A U : Type 0} (types_at : Reader T) (attr : Reader (AttrView A)) (before : Names) (old : StateStream T A U) (iso : Bool) (op : Ptr Operation) (isolation : IsolatedAs old.state.ctx.now op iso) where
  -- it can't be entered, whatever text follows
  pub unentered_refused : (iso || is_open before.values) ≡ false → (fault : ParseFault A) → fault_of fault.cause ≡ NotIsolated → fault.committed ≡ true
      → ((view : OperationView T A) → operation old.state.ctx.now op ≡ Some view → IsOutermost view.loc fault.pos) → UnlessMemory (RefusesUnder types_at attr op before old) fault
  unentered_refused shut fault because flag at =
      let both = neither iso (is_open before.values) shut in
      inr (under.not_isolated (subst (IsolatedAs old.state.ctx.now op) both.0 isolation) both.1 because flag at)

  -- it can, but no brace follows
  pub unbegun_refused : (iso || is_open before.values) ≡ true → begins_region old.stream.rest ≡ false → (fault : ParseFault A) (v : StreamView)
      → Passes itself replaced (Unexpected (first_of old.stream.rest) (Word (codes "{"))) old.stream fault v → UnlessMemory (RefusesUnder types_at attr op before old) fault
  unbegun_refused opened begins fault v h = inr (under.in_text iso isolation opened (under.no_region begins h.because h.committed h.place))

module _ {T A U : Type 0} (types_at : Reader T) (reading : Reader A) (h : Splits types_at) (k : Splits reading) (before : Names) (old : StateStream T A U) (b : BegunRegion) (iso : Bool) (n1 : Names) (s1 : StateStream T A U)
    (bg : BeginsRegion types_at (attr_at reading) iso b before old n1 s1) (makes : MakesRegion old.state.ctx.now.graph s1.state.ctx.now.graph b.region)
    (with_it : s1.state.ctx.now ≡ with_graph old.state.ctx.now s1.state.ctx.now.graph) (values : n1.values ≡ entered iso before.values) (labels : n1.labels ≡ [] ∷ before.labels) (is_in : is_open n1.values ≡ true)
    (marked : marks_of s1.state ≡ marks_of old.state) (rest : KeepsRest old.state s1.state) where
  abbrev attr : Reader (AttrView A)
  attr = attr_at reading

  abbrev dialects : List (Text × Table)
  dialects = old.state.ctx.now.dialects

  abbrev alone : List (Level T A)
  alone = at_region b iso (length old.stream.rest) None ∷ []

  abbrev L : ℕ → Location A → Type 0
  L = IsLocated old.state.src (whole old.stream)

  abbrev does : (ℕ → Path) → Actions T A Machine
  does path = doing {T = T} {A = A} dialects path

  same_text : whole s1.stream ≡ whole old.stream
  same_text = moved_whole old.stream s1.stream bg.moves

  same_dialects : s1.state.ctx.now.dialects ≡ dialects
  same_dialects = ap (λ c. c.dialects) with_it

  is_alone : region s1.state.ctx.now b.region ≡ Some (record { parent = None; blocks = [] })
  is_alone = alone_is old.state.ctx.now s1.state.ctx.now b.region makes with_it

  region_came : RegionCame old.state.ctx.now s1.state.ctx.now b.region
  region_came = alone_came old.state.ctx.now s1.state.ctx.now b.region makes with_it

  spares : ModifiesOnly (TheRegion b.region ∷ []) old.state.ctx.now s1.state.ctx.now
  spares = alone_spares old.state.ctx.now s1.state.ctx.now b.region makes with_it

  -- it is open, and nothing else
  region_here : IsHere (within b.region) (length before.values) (length before.labels) alone n1 (whole s1.stream) s1.state.ctx.now (Some (framed.Region b)) []
  region_here =
      let depth : length n1.values ≡ isolated_in alone + length before.values = ap length values ∙ entered_more b iso (length old.stream.rest) None {T = T} {A = A} [] (length before.values) before.values (omega arith) in
      let outer = ap length labels in
      record {
        next_is = refl;
        others = refl;
        levels = (subst (λ t. IsRegion n1.names t s1.state.ctx.now b iso (length old.stream.rest)) (sym same_text) bg.region, tt);
        nest = (refl, subst (λ n. 0 < n) depth (is_open_some n1.values is_in), tt);
        values = depth;
        labels = omega (arith, outer);
      }

  pub region_is_here : AreHere T A (whole s1.stream) s1.state.ctx.now n1 (Some (framed.Region b)) []
  region_is_here = record { base = within b.region; v = length before.values; l = length before.labels; ls = alone; here = region_here }

  -- the context holds it, and nothing in it
  holds : HoldsMade L old.state.ctx.now s1.state.ctx.now [] [] (region_under b.region None ∷ []) None (start_of {T = T} {A = A} (within b.region))
  holds =
      let there : IsThere s1.state.ctx.now (TheRegion b.region) = subst IsSome (sym is_alone) refl in
      record {
        so_far = record {
          are_open = ((refl, record { view = record { parent = None; blocks = [] }; is = is_alone; done = []; blocks = refl; hold = tt }), tt);
          tree = tt;
          whole_there = λ o i. absurd i;
          open_there = λ o i. elim i [ inl e ↦ subst (IsThere s1.state.ctx.now) (sym e) there | inr j ↦ absurd j ];
          not_whole = λ o i j. absurd j;
          apart = (λ i. i, tt);
        };
        tracks = record {
          known = λ n o i. absurd i;
          once = λ n m o i. absurd i;
          all = λ o t. elim (spares.brought o t) [ inl was ↦ inl was | inr i ↦ inr (inr i) ];
          came = λ o held t. not_there o held t;
          stays = λ o t. there_still old.state.ctx.now s1.state.ctx.now o (spares.spared o t (λ i. was_not o i t)) t;
          inside = λ o i. absurd i;
        };
      }
    where
      was_not : (o : Object) → Among o (TheRegion b.region ∷ []) → IsThere old.state.ctx.now o → ⊥
      was_not o (inl e) t = region_came.is_new (subst (IsThere old.state.ctx.now) e t)
      was_not o (inr j) t = absurd j

      not_there : (o : Object) → HeldBy {T = T} {A = A} [] (region_under b.region None ∷ []) o → IsThere old.state.ctx.now o → ⊥
      not_there o (inl i) t = absurd i
      not_there o (inr i) t = was_not o i t

  held : IsHeld (format_of dialects) L (within b.region) old.state.ctx.now s1.state.ctx.now [] [] (region_under b.region None ∷ []) None []
  held = record { whole = []; holds = holds; carried = tt }

  -- what is parsed and done from its brace on
  begun_agrees : (path : ℕ → Path) (items : Made) (o : Machine) → MachineAgrees path items [] before old.state o → MachineAgrees path items [] n1 s1.state ((does path).enters iso o)
  begun_agrees path items o st = bg.acts.so path items [] o st

  begun_goes : {S : Type 0} (d : Actions T A S) (s : S) → region_at dialects types_at attr d iso old.stream.rest s ≡ theory.whole dialects types_at attr d (Some (a_region iso (length old.stream.rest))) [] (d.enters iso s) s1.stream.rest
  begun_goes d s = region_opens dialects types_at attr d (loops types_at reading h k before old d) iso s old.stream.rest tt bg.taken s1.stream.rest bg.read

  module _ (n2 : Names) (s2 : StateStream T A U) (f : Finishes types_at attr (framed.Region b) n1 s1 n2 s2) where
    turned : Turned types_at attr dialects old.state.src (whole old.stream) (within b.region) alone n1 s1 [] n2 s2
    turned = turned_over s1.state.ctx.now.dialects dialects s1.state.src old.state.src (whole s1.stream) (whole old.stream) same_dialects rest.src same_text
        (f.arrives (within b.region) (length before.values) (length before.labels) alone region_here).2

    -- it has no parent
    pub still_alone : (view : RegionView) × (region s2.state.ctx.now b.region ≡ Some view) × (view.parent ≡ None)
    still_alone = turned.stays.stay b.region (record { parent = None; blocks = [] }) is_alone

    all_held : HoldsRegion (format_of dialects) L (within b.region) old.state.ctx.now s2.state.ctx.now turned.made turned.marks b.region turned.did
    all_held = subst (λ z. HoldsRegion (format_of dialects) L (within b.region) old.state.ctx.now s2.state.ctx.now z turned.marks b.region turned.did) (append-nil turned.made)
        (subst (λ z. HoldsRegion (format_of dialects) L (within b.region) old.state.ctx.now s2.state.ctx.now (turned.made ++ []) turned.marks b.region z) (append-nil turned.did)
        (turned.builds old.state.ctx.now [] [] [] held))

    all_done_goes : {S : Type 0} (d : Actions T A S) → false ≡ d.any_key → (s : S) → region_at dialects types_at attr d iso old.stream.rest s ≡ Advanced tt (all_done d turned.did (d.enters iso s)) s2.stream.rest
    all_done_goes d same s = begun_goes d s ∙ (goes_recorded d same turned.goes (d.enters iso s)).so

    pub reads_under : (op : Ptr Operation) (new : StateStream T A U) → IsolatedAs old.state.ctx.now op iso → new.stream ≡ s2.stream → marks_of new.state ≡ marks_of s2.state
        → ((m : ℕ) → m ≤ old.state.ctx.now.graph.made → IsSound m before old.state → IsSound m n2 s2.state)
        → ((m : ℕ) → m ≤ old.state.ctx.now.graph.made → IsClosedBelow m old.state.ctx.now.graph → IsSound m before old.state → KeepsOlder m old.state.ctx.now s2.state.ctx.now)
        → Appends s2.state.ctx.now.graph new.state.ctx.now.graph (TheOperation op) (TheRegion b.region) → new.state.ctx.now ≡ with_graph s2.state.ctx.now new.state.ctx.now.graph
        → ReadsUnder types_at attr op before old b.region n2 new
    reads_under op new isolation stream same sound older places with_graph_is = record {
      iso = iso;
      isolation = isolation;
      moves = subst (λ v. Moves old.stream v) (sym stream) (moves_more bg.moves f.carries.moves);
      did = turned.did;
      tells = subst (λ v. region_at dialects types_at attr recorder iso old.stream.rest [] ≡ Advanced tt (turned.did ++ did_enter iso ∷ []) v.rest) (sym stream)
          (begun_goes recorder [] ∙ (goes_after turned.goes (did_enter iso ∷ [])).so);
      made = turned.made;
      mid = s2;
      runs = λ path items o st. (
        all_done (does path) turned.did ((does path).enters iso o),
        turned.acts.so path items [] ((does path).enters iso o) (begun_agrees path items o st),
        subst (λ v. region_at dialects types_at attr (does path) iso old.stream.rest o ≡ Advanced tt (all_done (does path) turned.did ((does path).enters iso o)) v.rest) (sym stream) (all_done_goes (does path) refl o),
      );
      falls = subst (λ v. Falls (length old.stream.rest) turned.made (length v.rest)) (sym stream) (falls_from (length old.stream.rest) (length s1.stream.rest) turned.made (length s2.stream.rest) (moves_fewer old.stream s1.stream bg.moves) turned.falls);
      marks = turned.marks;
      noted = same ∙ (turned.noted ∙ ap (λ z. z ++ turned.marks) marked);
      holds = all_held;
      sound = sound;
      older = older;
      places = places;
      with_it = with_graph_is;
    }

  -- ---- or there is a fault in it
  module _ (fault : ParseFault A) (st : Stops types_at attr (framed.Region b) [] n1 s1 fault) where
    inside_fails : begins_region old.stream.rest ≡ true → UnlessMemory (Faulted types_at attr dialects alone n1 s1) fault → UnlessMemory (FaultUnder types_at attr iso before old) fault
    inside_fails begins (inl ran_out) = inl ran_out
    inside_fails begins (inr (at_text did made names mid still cause place g a f)) = inr (under.at_text begins cause place (subst (λ t. IsTextFault t cause place fault) same_text f) st.committed
        (λ path items o agreed.
        let z = a.so path items [] ((does path).enters iso o) (begun_agrees path items o agreed) in
        (z.state, begun_goes (does path) o ∙ ((stuck_recorded (does path) refl g ((does path).enters iso o)).so ∙ ap (λ y. Stopped y cause place) z.going))))
    inside_fails begins (inr (by_names failure f ends)) = inr (under.by_names begins failure (subst (λ t. IsFailure t failure fault) same_text f)
        (λ path items o agreed. subst (EndsIn (failed failure)) (sym (begun_goes (does path) o)) (ends path items [] ((does path).enters iso o) (begun_agrees path items o agreed))))

    in_its_text : (op : Ptr Operation) → IsolatedAs old.state.ctx.now op iso → (iso || is_open before.values) ≡ true → UnlessMemory (FaultUnder types_at attr iso before old) fault → UnlessMemory (RefusesUnder types_at attr op before old) fault
    in_its_text op isolation opened (inl ran_out) = inl ran_out
    in_its_text op isolation opened (inr f) = inr (under.in_text iso isolation opened f)

    pub under_stops : (op : Ptr Operation) → IsolatedAs old.state.ctx.now op iso → (iso || is_open before.values) ≡ true → begins_region old.stream.rest ≡ true → UnlessMemory (RefusesUnder types_at attr op before old) fault
    under_stops op isolation opened begins =
        in_its_text op isolation opened (inside_fails begins (faulted_over s1.state.ctx.now.dialects dialects same_dialects (st.stops (within b.region) (length before.values) (length before.labels) alone region_here)))
