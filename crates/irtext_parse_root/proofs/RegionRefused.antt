-- What an error of a region that is parsed alone says: of its cause, that it is the first fault of the text, and that it is the first
-- failure of whatever blocks the text parses as.
use Rattle.std.proofs.Common.{◌≡◌, ◌∙◌, ℕ, Bool, true, false, cond, List, [], ◌∷◌, length, Option, Some, None, IsSome, option_map, codes, ◌++◌, refl, sym, ap, subst, inl, inr}
use Rattle.irtext_base.specs.Text.{Text}
use Rattle.irtext_base.specs.Format.{Id}
use Rattle.irtext_base.specs.Faults.{Fault, NotIsolated, fault_of, id_of}
use Rattle.irtext_base.specs.Own.{Sincere, is_first_fault, texts_of}
use Rattle.irtext_base.specs.declared.base.identifier.OpId.{OpId}
use Rattle.irtext_base.specs.Answers.{Outcome}
use Rattle.irtext_base.specs.Stream.{StreamView}
use Rattle.irtext_base.specs.Locations.{AttrView}
use Rattle.irtext_base.specs.declared.location.Location.{Location}
use Rattle.irtext_base.specs.declared.parsable.fault.ParseFault.{ParseFault}
use Rattle.irtext_context.specs.Context.{ContextView, OperationView, operation}
use Rattle.irtext_context.specs.Dialects.{Table}
use Rattle.irtext_graph.specs.declared.arena.Ptr.{Ptr}
use Rattle.irtext_graph.specs.declared.object.Operation.{Operation}
use Rattle.irtext_graph.specs.declared.object.Region.{Region}
use Rattle.irtext_tokens.specs.AttrTexts.{attr_at}
use Rattle.irtext_tokens.specs.Infix.{Reader}
use Rattle.irtext_parse_state.specs.States.{IsFresh, marks_of}
use Rattle.irtext_parse_state.specs.declared.parsable.state.StateStream.{StateStream}
use Rattle.irtext_stream.specs.declared.position.SourcePosition.{SourcePosition}
use Rattle.irtext_grammar.specs.Contexts.Formats.{format_of, isolated}
use Rattle.irtext_grammar.specs.Contexts.Held.{whole, IsPosition}
use Rattle.irtext_grammar.specs.Grammar.Forest.{Blocks}
use Rattle.irtext_grammar.specs.Grammar.Reads as grammar
use Rattle.irtext_grammar.specs.Grammar.Tree.{Op, Head, Brace, shown}
use Rattle.irtext_grammar.specs.Names.History as history
use Rattle.irtext_grammar.specs.Names.History.{going, failed, start, run, events}
use Rattle.irtext_grammar.specs.Names.Scopes.{no_scope}
use Rattle.irtext_grammar.specs.Names.Script.{Failure, Path}
use Rattle.irtext_grammar.specs.Names.TextScopes.{failures}
use Rattle.irtext_grammar.specs.Promises.Root.{UnlessMemory}
use Rattle.irtext_grammar.specs.Promises.Section.{indices_of}
use Rattle.irtext_grammar.specs.Readers.Refusals.{Refusal}
use Rattle.irtext_grammar.proofs.Joins.Answers.{Splits}
use Rattle.irtext_grammar.specs.Exact.{NeedsWord}
use Rattle.irtext_grammar.specs.Entries.{fault_for}
use Rattle.irtext_grammar.specs.Naming.{naming, paths_in_blocks}
use Rattle.irtext_grammar.specs.Spelling.Spellable.{Each}
use Rattle.irtext_grammar.specs.Reached.{Reached, Advanced, Stopped, begins_region, region_at, do_region, do_blocks}
use Rattle.irtext_grammar.specs.Resume.{EndsIn}
use Rattle.irtext_grammar.proofs.Knot.Whole as knot
use Rattle.irtext_grammar.proofs.Knot.Tested.{Ends, there, at_key, region_is_tested}
use Rattle.irtext_grammar.proofs.Naming.Follows.{Follows, broke}
use Rattle.irtext_grammar.proofs.Naming.Shorter.{Shortens}
use Rattle.irtext_names.proofs.Linked.Passes.{ran_into}
use Rattle.irtext_names.specs.Alone as alone
use Rattle.irtext_names.specs.Alone.{region_alone, RefusesRegion, first}
use Rattle.irtext_names.specs.Promises.{start_with, IsOf, IsFirst}
use Rattle.irtext_names.proofs.Refuses.{first_is, stuck_of, stuck_state}
use Rattle.irtext_names.specs.Items.{Names, MachineAgrees, doing}
use Rattle.irtext_parse_root.specs.AnyRegion as region
use Rattle.irtext_parse_root.specs.AnyRegion.{IsRegionText, HasRegionFault, MissesRegion}
use Rattle.irtext_parse_root.specs.Under as under
use Rattle.irtext_parse_root.specs.Under.{IsolatedAs, ReadsUnder, FaultUnder, RefusesUnder}
use Rattle.irtext_parse_root.specs.Region.{unisolated, IsReportedAt}
use Rattle.irtext_parse_root.proofs.Causes.{no_cause}
use Rattle.irtext_parse_root.proofs.Failing.{region_never_failed}
use Rattle.irtext_parse_root.proofs.Fresh.{begun_agrees}
use Rattle.irtext_parse_root.proofs.Refused.{SaysText}
use Rattle.irtext_parse_root.proofs.RegionPlaces.{paths_exist}
use Rattle.irtext_parse_root.proofs.RegionRuns.{region_runs}

-- ---- the operation
-- if no location is reported for it, a live operation is isolated
is_closed : {X : Type 0} (b : Bool) (x : X) → cond b None (Some x) ≡ None → b ≡ true
is_closed true x e = refl
is_closed false x e = absurd (cc)

pub closed_as : {T A : Type 0} (c : ContextView T A) (op : Ptr Operation) → IsSome (operation c op) → unisolated c op ≡ None → (iso : Bool) → IsolatedAs c op iso → iso ≡ true
closed_as {T} {A} c op here none iso of_it = go (operation c op) refl here none
  where
    go : (o : Option (OperationView T A)) → operation c op ≡ o → IsSome o → ◌≡◌ {A = Option (Location A)} (elim o [ Some view ↦ cond (isolated c.dialects (id_of view.id)) None (Some view.loc) | None ↦ None ]) None → iso ≡ true
    go None e h n = absurd (cc)
    go (Some view) e h n = of_it view e ∙ is_closed (isolated c.dialects (id_of view.id)) view.loc n

-- so its id is one of operations that are isolated
pub closed_id : {T A : Type 0} (c : ContextView T A) (op : Ptr Operation) → IsSome (operation c op) → unisolated c op ≡ None → (id : Id) × (isolated c.dialects id ≡ true)
closed_id {T} {A} c op here none = go (operation c op) here none
  where
    go : (o : Option (OperationView T A)) → IsSome o → ◌≡◌ {A = Option (Location A)} (elim o [ Some view ↦ cond (isolated c.dialects (id_of view.id)) None (Some view.loc) | None ↦ None ]) None → (id : Id) × (isolated c.dialects id ≡ true)
    go None h n = absurd (cc)
    go (Some view) h n = (id_of view.id, is_closed (isolated c.dialects (id_of view.id)) view.loc n)

-- if a position is reported, the operation has a location, and is not isolated; an error at that position says so
pub reported : {A : Type 0} (loc : Option (Location A)) (pos : SourcePosition) → IsReportedAt loc (Some pos) → (fault : ParseFault A) → fault_of fault.cause ≡ NotIsolated → fault.committed ≡ true → fault.pos ≡ pos → alone.IsUnisolated loc fault
reported None pos h fault because flag at = absurd h
reported (Some l) pos h fault because flag at = record { loc = l; is = refl; because = because; flag = flag; at = subst (alone.IsOutermost l) (sym at) h }

-- if none is reported, it is isolated
pub unreported : {A : Type 0} (loc : Option (Location A)) → IsReportedAt loc None → loc ≡ None
unreported None h = refl
unreported (Some l) h = absurd h

module _ {T A : Type 0} (c : ContextView T A) (op : Ptr Operation) (id : OpId) (is : option_map (λ (view : OperationView T A). view.id) (operation c op) ≡ Some id) where
  -- so no position is reported for an operation that is isolated
  pub none_reported : isolated c.dialects (id_of id) ≡ true → IsReportedAt (unisolated c op) None
  none_reported closed = go (operation c op) is
    where
      go : (o : Option (OperationView T A)) → option_map (λ (view : OperationView T A). view.id) o ≡ Some id → IsReportedAt (elim o [ Some view ↦ cond (isolated c.dialects (id_of view.id)) None (Some view.loc) | None ↦ None ]) None
      go None e = absurd (cc)
      go (Some view) e =
          let same : id ≡ view.id = cc in
          let b : isolated c.dialects (id_of view.id) ≡ true = subst (λ z. isolated c.dialects (id_of z) ≡ true) same closed in
          subst (λ z. IsReportedAt (cond z None (Some view.loc)) None) (sym b) tt

  -- and of another its position is
  pub one_reported : isolated c.dialects (id_of id) ≡ false → (loc : Location A) → option_map (λ (view : OperationView T A). view.loc) (operation c op) ≡ Some loc → (pos : SourcePosition) → alone.IsOutermost loc pos → IsReportedAt (unisolated c op) (Some pos)
  one_reported shared loc at pos h = go (operation c op) is at
    where
      go : (o : Option (OperationView T A)) → option_map (λ (view : OperationView T A). view.id) o ≡ Some id → option_map (λ (view : OperationView T A). view.loc) o ≡ Some loc
          → IsReportedAt (elim o [ Some view ↦ cond (isolated c.dialects (id_of view.id)) None (Some view.loc) | None ↦ None ]) (Some pos)
      go None e f = absurd (cc)
      go (Some view) e f =
          let same : id ≡ view.id = cc in
          let there : loc ≡ view.loc = cc in
          let b : isolated c.dialects (id_of view.id) ≡ false = subst (λ z. isolated c.dialects (id_of z) ≡ false) same shared in
          subst (λ z. IsReportedAt (cond z None (Some view.loc)) (Some pos)) (sym b) (subst (λ l. alone.IsOutermost l pos) there h)

-- the error of an operation that is not isolated
pub refused_unisolated : {A : Type 0} (old new : StreamView) (fault : ParseFault A) → fault_of fault.cause ≡ NotIsolated → fault.committed ≡ true → new.failed ≡ true → Refusal old fault new
refused_unisolated old new fault because flag fails = record {
  committed = λ e. fails;
  uncommitted = λ e. absurd (cc (flag, e));
  first = λ e. absurd (cc (flag, e));
  failed = λ e. absurd (cc (because, e));
}

-- ---- what an error says of its cause
module _ {T A U : Type 0} (types_at : Reader T) (reading : Reader A) (sincere_types : Sincere types_at) (sincere : Sincere reading) (before : Names) (old : StateStream T A U)
    (no_names : before.names ≡ []) (no_values : before.values ≡ []) (no_labels : before.labels ≡ []) (op : Ptr Operation) where
  pub says_region : (fault : ParseFault A) → UnlessMemory (RefusesUnder types_at (attr_at reading) op before old) fault → SaysText fault
  says_region fault (inl ran_out) = record { not_failed = λ e. cc (ran_out.because, e); first = λ e. absurd (cc (ran_out.flag, e)) }
  says_region fault (inr (under.not_isolated of_it shared because flag at)) = record { not_failed = λ e. cc (because, e); first = λ e. absurd (cc (flag, e)) }
  says_region fault (inr (under.in_text iso of_it opened (under.no_region begins because flag at))) = record { not_failed = λ e. cc (because, e); first = λ e. ap is_first_fault because }
  says_region fault (inr (under.in_text iso of_it opened (under.at_text begins cause place f flag so))) =
      let ds = old.state.ctx.now.dialects in
      let path : ℕ → Path = λ n. [] in
      let begun = start_with (indices_of (marks_of old.state)) in
      let stuck = so path [] (going begun) (begun_agrees before old.state no_names no_values no_labels path) in
      record {
        not_failed = λ e. region_never_failed types_at reading sincere_types sincere ds (doing {T = T} {A = A} ds path) iso old.stream.rest (going begun) (going stuck.0) cause place stuck.1 (sym f.because ∙ e);
        first = λ e. absurd (cc (flag, e));
      }
  says_region fault (inr (under.in_text iso of_it opened (under.by_names begins failure f so))) = record { not_failed = no_cause failure.cause (fault_of fault.cause) f.cause; first = λ e. absurd (cc (f.committed, e)) }

-- ---- on any state
module _ {T A U : Type 0} (types_at : Reader T) (attr : Reader (AttrView A)) (before : Names) (old : StateStream T A U)
    (no_names : before.names ≡ []) (no_values : before.values ≡ []) (no_labels : before.labels ≡ []) (op : Ptr Operation)
    (here : IsSome (operation old.state.ctx.now op)) (none : unisolated old.state.ctx.now op ≡ None) where
  abbrev dialects : List (Text × Table)
  dialects = old.state.ctx.now.dialects

  abbrev earlier : List ℕ
  earlier = indices_of (marks_of old.state)

  -- the machine of names before any name
  abbrev begun : history.Outcome
  begun = going (start_with earlier)

  abbrev reached : Bool → (ℕ → Path) → Reached Unit history.Outcome
  reached iso path = region_at dialects types_at attr (doing dialects path) iso old.stream.rest begun

  begun_there : (path : ℕ → Path) → MachineAgrees path [] [] before old.state begun
  begun_there path = begun_agrees before old.state no_names no_values no_labels path

  fault_missed : (iso : Bool) → iso ≡ true → (fault : ParseFault A) → FaultUnder types_at attr iso before old fault → HasRegionFault types_at attr dialects earlier old.stream fault
  fault_missed iso is fault (under.no_region begins because flag at) = region.no_brace begins because at flag
  fault_missed iso is fault (under.at_text begins cause place f flag so) = region.at_text begins cause place f.because f.placed flag
      (λ path. subst (λ b. (st : history.State) × (reached b path ≡ Stopped (going st) cause place)) is (so path [] begun (begun_there path)))
  fault_missed iso is fault (under.by_names begins failure f so) = region.by_names begins failure (f.cause, f.place) f.committed
      (λ path. subst (λ b. EndsIn (failed failure) (reached b path)) is (so path [] begun (begun_there path)))

  -- what is parsed under an operation that is isolated has no fault
  pub region_came : (r : Ptr Region) (names : Names) (new : StateStream T A U) → ReadsUnder types_at attr op before old r names new → IsRegionText types_at attr dialects earlier old.stream.rest new.stream.rest
  region_came r names new u path =
      let z = u.runs path [] begun (begun_there path) in
      (z.1.state, subst (λ b. reached b path ≡ Advanced tt (going z.1.state) new.stream.rest) (closed_as old.state.ctx.now op here none u.iso u.isolation) (z.2 ∙ ap (λ o. Advanced tt o new.stream.rest) z.1.going))

  -- and if it is an error, the fault is that of the text
  pub misses_region : (fault : ParseFault A) → UnlessMemory (RefusesUnder types_at attr op before old) fault → UnlessMemory (MissesRegion types_at attr op old) fault
  misses_region fault (inl ran_out) = inl ran_out
  misses_region fault (inr (under.not_isolated of_it shared because flag at)) = let e = closed_as old.state.ctx.now op here none false of_it in absurd (cc)
  misses_region fault (inr (under.in_text iso of_it opened f)) = inr (region.in_text none (fault_missed iso (closed_as old.state.ctx.now op here none iso of_it) fault f))

-- ---- that it is the first failure
-- a text that begins with a brace begins a region
begins_so : (text m : Text) → text ≡ codes "{" ++ m → begins_region text ≡ true
begins_so text m e = ap begins_region e

module _ {T A : Type 0} (types_at : Text → Outcome T) (types_written : T → Text) (reading : Text → Outcome A) (written : A → Text) (dialects : List (Text × Table)) (types_split : Splits types_at) (splits : Splits reading) (words : NeedsWord reading)
    (short_types : Shortens (texts_of types_at types_written)) (short_owns : Shortens (texts_of reading written)) where
  abbrev IsRead : Blocks (Op ℕ T A) (Head ℕ T A) (Brace ℕ) → Text → Text → Type 0
  IsRead bs text rest = grammar.region_read (knot.L types_at types_written reading written dialects) (shown (length text)) (grammar.block_readings (knot.L types_at types_written reading written dialects) bs) text rest

  begins_there : (bs : Blocks (Op ℕ T A) (Head ℕ T A) (Brace ℕ)) (text rest : Text) → IsRead bs text rest → begins_region text ≡ true
  begins_there bs text rest (at, (m, opened, more)) = begins_so text m opened

  module _ (text rest : Text) (fault : ParseFault A) (bs : Blocks (Op ℕ T A) (Head ℕ T A) (Brace ℕ)) (left : Text) (r : IsRead bs rest left) where
    abbrev Named : Type 0
    Named = (path : ℕ → Path) × Each (λ item. path item.0 ≡ item.1) (paths_in_blocks (0 ∷ []) 0 bs)

    -- paths of the items of the blocks
    named : Named
    named = paths_exist (texts_of types_at types_written) (texts_of reading written) (format_of dialects) short_types short_owns (0 ∷ []) (shown (length rest)) bs rest left r

    -- what the actions of the blocks come to
    abbrev did : (ℕ → Path) → history.Outcome
    did path = do_region {T = T} {A = A} (isolated dialects) (naming (format_of dialects) path) true (shown (length rest)) (do_blocks (isolated dialects) (naming (format_of dialects) path) bs) (going start)

    -- what the actions of the blocks fail with is the first failure
    fails_so : (p : Named) (f : Failure Text ℕ) → did p.0 ≡ failed f → IsOf text f fault → IsFirst text (failures no_scope (region_alone dialects (length rest) bs)) fault
    fails_so p f does is =
        let ran : run (going start) (events (region_alone dialects (length rest) bs)) ≡ failed f =
        region_runs (texts_of types_at types_written) (texts_of reading written) (format_of dialects) p.0 (isolated dialects) true (0 ∷ []) (length rest) bs rest left r p.1 (going start) ∙ does in
        let all = ran_into (region_alone dialects (length rest) bs) f ran in
        first_is text f (failures no_scope (region_alone dialects (length rest) bs)) all.0 fault all.1 is

    -- the parser comes to the end of the blocks, or to an attribute that is not allowed under its key
    ends : (path : ℕ → Path) → Ends (Follows (going start)) (region_at dialects types_at (attr_at reading) (doing dialects path) true rest (going start)) tt (did path) left
    ends path =
        let found = knot.region_found types_at types_written reading written dialects types_split splits (naming (format_of dialects) path) words true bs rest left (going start) r in
        ((region_is_tested types_at types_written reading written dialects types_split splits words path true).at rest (going start) tt).by tt (did path) left found

    -- where the text is at fault, it is at such an attribute
    text_first : (p : Named) (cause : Fault) (place : ℕ) (st : history.State) → fault_of fault.cause ≡ cause → IsPosition text place fault.pos
        → region_at dialects types_at (attr_at reading) (doing dialects p.0) true rest (going start) ≡ Stopped (going st) cause place
        → Ends (Follows (going start)) (region_at dialects types_at (attr_at reading) (doing dialects p.0) true rest (going start)) tt (did p.0) left → IsFirst text (failures no_scope (region_alone dialects (length rest) bs)) fault
    text_first p cause place st because at stuck (there e k) = absurd (cc (e, stuck))
    text_first p cause place st because at stuck (at_key u f here e a is) =
        let same : u ≡ going st = stuck_state u (going st) (fault_for f.cause) cause here place (sym e ∙ stuck) in
        fails_so p f (is ∙ ap (λ u. failed (broke u f)) same) (stuck_of text f place here cause u (going st) fault (sym e ∙ stuck) a because at)

    -- where a name fails so, that is the first failure
    name_first : (p : Named) (f : Failure Text ℕ) → IsOf text f fault → EndsIn (failed f) (region_at dialects types_at (attr_at reading) (doing dialects p.0) true rest (going start))
        → Ends (Follows (going start)) (region_at dialects types_at (attr_at reading) (doing dialects p.0) true rest (going start)) tt (did p.0) left → IsFirst text (failures no_scope (region_alone dialects (length rest) bs)) fault
    name_first p f is stuck (there e k) = fails_so p f (subst (EndsIn (failed f)) e stuck) is
    name_first p f is stuck (at_key u g here e a went) =
        let same : u ≡ failed f = subst (EndsIn (failed f)) e stuck in
        fails_so p f (went ∙ ap (λ u. failed (broke u g)) same) is

  -- so the promise of an error is kept, where no mark was recorded
  in_text_refused : (old : StreamView) (fault : ParseFault A) (iso : Option (Location A)) → iso ≡ None → HasRegionFault types_at (attr_at reading) dialects [] old fault → RefusesRegion (texts_of types_at types_written) (texts_of reading written) dialects iso old fault
  in_text_refused old fault iso none (region.no_brace begins because at flag) = first none (λ bs rest r. let b = begins_there bs old.rest rest r in absurd (cc (begins, b)))
  in_text_refused old fault iso none (region.at_text begins cause place because at flag so) =
      first none (λ bs rest r.
      let p = named (whole old) old.rest fault bs rest r in
      let stuck = so p.0 in
      record { first = text_first (whole old) old.rest fault bs rest r p cause place stuck.0 because at stuck.1 (ends (whole old) old.rest fault bs rest r p.0); flag = flag })
  in_text_refused old fault iso none (region.by_names begins f is flag so) =
      first none (λ bs rest r.
      let p = named (whole old) old.rest fault bs rest r in
      record { first = name_first (whole old) old.rest fault bs rest r p f is (so p.0) (ends (whole old) old.rest fault bs rest r p.0); flag = flag })

module _ {T A U : Type 0} (types_at : Reader T) (types_written : T → Text) (reading : Reader A) (written : A → Text) (types_split : Splits types_at) (splits : Splits reading) (words : NeedsWord reading)
    (short_types : Shortens (texts_of types_at types_written)) (short_owns : Shortens (texts_of reading written)) (op : Ptr Operation) (old : StateStream T A U) (fresh : IsFresh old) (fault : ParseFault A) where
  abbrev ds : List (Text × Table)
  ds = old.state.ctx.now.dialects

  -- what an error says on any state is what is promised of it on a fresh one
  pub refuses_region : UnlessMemory (MissesRegion types_at (attr_at reading) op old) fault → UnlessMemory (RefusesRegion (texts_of types_at types_written) (texts_of reading written) ds (unisolated old.state.ctx.now op) old.stream) fault
  refuses_region (inl ran_out) = inl ran_out
  refuses_region (inr (region.not_isolated u)) = inr (alone.not_isolated u)
  refuses_region (inr (region.in_text none f)) =
      let here = subst (λ ms. HasRegionFault types_at (attr_at reading) ds ms old.stream fault) (ap indices_of fresh.marks) f in
      inr (in_text_refused types_at types_written reading written ds types_split splits words short_types short_owns old.stream fault (unisolated old.state.ctx.now op) none here)
