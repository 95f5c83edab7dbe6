-- Each turn takes the open frames to those after it: for the text, for the names, and for what the context contains.
use Rattle.std.proofs.Common.{◌≡◌, ◌∙◌, ◌<◌, ◌≤◌, ℕ, Bool, true, false, cond, List, [], ◌∷◌, ◌++◌, map, length, codes, Option, Some, None, refl, sym, ap, subst, append-nil}
use Rattle.irtext_base.specs.Text.{Text, after_space}
use Rattle.irtext_base.specs.Stream.{StreamView}
use Rattle.irtext_base.specs.Locations.{AttrView}
use Rattle.irtext_context.specs.Context.{ContextView, OperationView, operation}
use Rattle.irtext_context.specs.Dialects.{Table}
use Rattle.irtext_context.specs.declared.base.item.Item.{Item}
use Rattle.irtext_context.specs.declared.base.item.Item.TheVariants as item
use Rattle.irtext_graph.specs.declared.arena.Ptr.{Ptr}
use Rattle.irtext_graph.specs.declared.object.BasicBlock.{BasicBlock}
use Rattle.irtext_graph.specs.declared.object.Object.TheVariants.{TheOperation, TheBlock, TheRegion}
use Rattle.irtext_tokens.specs.Infix.{Reader, ◌▷◌}
use Rattle.irtext_tokens.specs.Tokens.{space_at, word}
use Rattle.irtext_parse_state.specs.States.{marks_of}
use Rattle.irtext_parse_state.specs.declared.parsable.state.StateStream.{StateStream}
use Rattle.irtext_grammar.specs.Contexts.Formats.{format_of, isolated}
use Rattle.irtext_grammar.specs.Contexts.Held.{whole}
use Rattle.irtext_grammar.specs.Grammar.Tree as tree
use Rattle.irtext_grammar.specs.Grammar.Tree.{Part}
use Rattle.irtext_grammar.specs.Graphs.Build.{put_all, stored, read_names}
use Rattle.irtext_grammar.specs.Readers.Parts.{without_first}
use Rattle.irtext_grammar.proofs.Joins.Answers.{Splits}
use Rattle.irtext_grammar.specs.Heads.{Step, one, all, front_steps, piece_at, head_at, setting}
use Rattle.irtext_grammar.specs.Reached.{begins_region, begins_block, steps_in}
use Rattle.irtext_grammar.specs.Resume.{OpenOperation, with_steps, is_flat, Open, to_come, an_operation, a_region, a_block, Goes}
use Rattle.irtext_grammar.proofs.Resume.Frames.{goes_trans}
use Rattle.irtext_grammar.proofs.Resume.Front.{front_reads}
use Rattle.irtext_grammar.proofs.Resume.Turns.{operation_begins, piece_reads, operation_ends, first_operation, no_operation, region_begins, no_more_regions, another_region, block_begins, region_ends, another_operation, no_more_operations}
use Rattle.irtext_grammar.proofs.Resume.Unbounded.{Unbounded}
use Rattle.irtext_grammar.specs.Grows.{RegionCame, OperationGains, RegionGains, BlockCame, OwnBecame}
use Rattle.irtext_grammar.specs.Unchanged.{OwnSoFar, operation_under, region_under, HasOwn, HasUses, ModifiesOnly}
use Rattle.irtext_parse_nested.specs.declared.frame.BegunOperation.{BegunOperation}
use Rattle.irtext_parse_nested.specs.declared.frame.BegunRegion.{BegunRegion}
use Rattle.irtext_parse_nested.specs.declared.frame.BegunBlock.{BegunBlock}
use Rattle.irtext_parse_nested.specs.Beginning.{HasBegun, ComesInto}
use Rattle.irtext_parse_nested.specs.OpenOperation.{pledge_of}
use Rattle.irtext_names.specs.Carriers.{noted_as}
use Rattle.irtext_names.specs.Items.{Names, Made, Acts, doing}
use Rattle.irtext_names.specs.Located.{IsLocated}
use Rattle.irtext_parse_nested.specs.Read.{begun_by, uses_of, ReadsPiece, EndsOperation, BeginsRegion, EndsRegion, BeginsBlock}
use Rattle.irtext_parse_root.specs.Built.{Built, IsHeld, Ended}
use Rattle.irtext_parse_root.specs.Here.{Base, outermost, within}
use Rattle.irtext_parse_root.specs.Levels.{Level, at_operation, at_region, at_block, outward, open_of, next_of, waiting, pledges_of, ats_of}
use Rattle.irtext_parse_root.specs.OperationFollows.{operation_follows, text_there}
use Rattle.irtext_parse_root.specs.Recorded.{Did, did_use, did_late, did_enter, did_leave, did_close, did_mark, did_head, recorder}
use Rattle.irtext_parse_root.specs.Turned.{RegionsStay, Turned}
use Rattle.irtext_parse_root.specs.Turns.{Begins}
use Rattle.irtext_parse_root.proofs.Builds.{begins_in_block, region_enters, piece_comes, root_ends, ends_in_block, block_comes, region_leaves, region_alone}
use Rattle.irtext_parse_root.proofs.Carrying.{carried_still}
use Rattle.irtext_parse_root.proofs.Chains.{acts_within, acts_open, acts_close, acts_none}
use Rattle.irtext_parse_root.proofs.Levels.{theory_pops}
use Rattle.irtext_parse_root.proofs.Owns.{own_whole}
use Rattle.irtext_parse_root.proofs.Staying.{stay_still, stay_operation, stay_placed, stay_entered, stay_gained}

-- a state with another stream
abbrev pub with_stream : {T A U : Type 0} → StateStream T A U → StreamView → StateStream T A U
with_stream s v = record { stream = v; state = s.state }

module _ {T A U : Type 0} (types_at : Reader T) (attr : Reader (AttrView A)) (base : Base) (before : Names) (old : StateStream T A U) where
  abbrev dialects : List (Text × Table)
  dialects = old.state.ctx.now.dialects

  abbrev text : Text
  text = whole old.stream

  -- the turn that is made from here
  abbrev Makes : List (Level T A) → List (Level T A) → Names → StateStream T A U → Type 0
  Makes ls later names new = Turned types_at attr dialects old.state.src text base ls before old later names new

  -- what the context holds by it, if nothing is created
  abbrev Builds : List (Level T A) → List (Level T A) → StateStream T A U → List (ℕ × Item) → List (Did T A) → Type 0
  Builds ls later new marks did = (start : ContextView T A) (items : Made) (more : List (ℕ × Item)) (ds : List (Did T A)) → Built (format_of dialects) (IsLocated old.state.src text) base start old.state.ctx.now items more ls ds
      → Built (format_of dialects) (IsLocated old.state.src text) base start new.state.ctx.now items (more ++ marks) later (did ++ ds)

  -- no mark was recorded
  same_marks : (new : StateStream T A U) → marks_of new.state ≡ marks_of old.state → marks_of new.state ≡ marks_of old.state ++ []
  same_marks new e = e ∙ sym (append-nil (marks_of old.state))

  -- the text where a turn ends is another name of the same
  goes_to : (f : Option (Open T A)) (fs : List (Open T A)) (n : Option (Open T A)) (ns : List (Open T A)) (did : List (Did T A)) (t u : Text) → u ≡ t
      → Goes dialects types_at attr recorder f fs [] old.stream.rest n ns did t → Goes dialects types_at attr recorder f fs [] old.stream.rest n ns did u
  goes_to f fs n ns did t u e g = subst (λ z. Goes dialects types_at attr recorder f fs [] old.stream.rest n ns did z) (sym e) g

  -- ---- a block: no operation follows in it
  module _ (k : Unbounded dialects types_at attr recorder) (kb : BegunBlock) (r : BegunRegion) (iso : Bool) (place : ℕ) (last : Option (Ptr BasicBlock)) (more : List (Level T A)) (v : StreamView) where
    abbrev in_region : List (Level T A)
    in_region = at_region r iso place last ∷ more

    pub block_left : operation_follows kb.first old.stream.rest ≡ false → v.rest ≡ text_there kb.first old.stream.rest → length v.rest ≤ length old.stream.rest → Makes (at_block kb ∷ in_region) in_region before (with_stream old v)
    block_left b e fewer = record {
      did = [];
      made = [];
      goes = go kb.first b e;
      acts = acts_none before old.state (pledges_of in_region);
      stays = stay_still old.state.ctx.now;
      falls = fewer;
      marks = [];
      noted = same_marks (with_stream old v) refl;
      builds = λ start items marks ds h. record { whole = h.whole; holds = h.holds; carried = carried_still items _ _ marks refl h.carried };
    }
      where
        go : (first : Bool) → operation_follows first old.stream.rest ≡ false → v.rest ≡ text_there first old.stream.rest
            → Goes dialects types_at attr recorder (Some (a_block first)) (outward (map open_of in_region)) [] old.stream.rest (next_of in_region) (waiting in_region) [] v.rest
        go true b e = goes_to (Some (a_block true)) (outward (map open_of in_region)) (next_of in_region) (waiting in_region) [] (after_space old.stream.rest) v.rest e
            (no_operation dialects types_at attr recorder (outward (map open_of in_region)) [] old.stream.rest (next_of in_region) (waiting in_region) b (theory_pops in_region))
        go false b e = goes_to (Some (a_block false)) (outward (map open_of in_region)) (next_of in_region) (waiting in_region) [] (after_space old.stream.rest) v.rest
            (e ∙ ap (λ z. cond z (after_space (without_first (after_space old.stream.rest))) (after_space old.stream.rest)) b)
            (no_more_operations dialects types_at attr recorder k (outward (map open_of in_region)) [] old.stream.rest (next_of in_region) (waiting in_region) b (theory_pops in_region))

    -- one follows, and its text
    pub one_comes : (first : Bool) → operation_follows first old.stream.rest ≡ true → v.rest ≡ text_there first old.stream.rest
        → Goes dialects types_at attr recorder (Some (a_block first)) (outward (map open_of in_region)) [] old.stream.rest (Some (to_come true)) (outward (map open_of in_region) ++ a_block false ∷ []) [] v.rest
    one_comes true b e = goes_to (Some (a_block true)) (outward (map open_of in_region)) (Some (to_come true)) (outward (map open_of in_region) ++ a_block false ∷ []) [] (after_space old.stream.rest) v.rest e
        (first_operation dialects types_at attr recorder (outward (map open_of in_region)) [] old.stream.rest b)
    one_comes false b e = goes_to (Some (a_block false)) (outward (map open_of in_region)) (Some (to_come true)) (outward (map open_of in_region) ++ a_block false ∷ []) [] (after_space (without_first (after_space old.stream.rest))) v.rest
        (e ∙ ap (λ z. cond z (after_space (without_first (after_space old.stream.rest))) (after_space old.stream.rest)) b)
        (another_operation dialects types_at attr recorder k (outward (map open_of in_region)) [] old.stream.rest b)

    abbrev waits_after : BegunBlock
    waits_after = record { block = kb.block; first = false }

    -- ---- an operation begins in it
    pub operation_in_block : (splits : (step : Step) → Splits (piece_at types_at attr (setting true false) step)) (b : BegunOperation) (names : Names) (new : StateStream T A U) → operation_follows kb.first old.stream.rest ≡ true → v.rest ≡ text_there kb.first old.stream.rest
        → whole v ≡ text → last ≡ Some kb.block → (length new.stream.rest < length v.rest) × (length v.rest ≤ length old.stream.rest) → (h : Begins types_at attr before (with_stream old v) (Some kb.block) b names new)
        → Makes (at_block kb ∷ in_region) (at_operation b (begun_by types_at attr true (with_stream old v) new.stream.rest h.begins.read) h.own ∷ at_block waits_after ∷ in_region) names new
    operation_in_block splits b names new follows_on e same is falls h =
        let q = h.begins.read in
        let o = begun_by types_at attr true (with_stream old v) new.stream.rest q in
        record {
          did = did_use o.place o.id o.parts ∷ [];
          made = (o.place, TheOperation b.op) ∷ [];
          goes = goes_trans (one_comes kb.first follows_on e)
              (operation_begins dialects types_at attr recorder (outward (map open_of in_region) ++ a_block false ∷ []) true [] v.rest q.names q.id q.lead q.middle q.led q.parts new.stream.rest
              (front_reads dialects types_at attr recorder (setting true false) splits (front_steps (steps_in dialects q.id)) [] q.parts q.middle q.taken new.stream.rest [] q.front));
          acts = acts_open ((o.place, TheOperation b.op) ∷ []) (λ path. uses_of types_at attr true (with_stream old v) new.stream.rest q path) before names old.state new.state (pledges_of in_region) (pledge_of b o.place)
              (record { so = λ path made others z st. h.begins.acts.so path made others z st });
          stays = stay_placed old.state.ctx.now new.state.ctx.now b.op kb.block came.2;
          falls = falls;
          marks = [];
          noted = same_marks new h.marks;
          builds = λ start items marks ds held. begins_in_block (format_of dialects) (IsLocated old.state.src text) base start old.state.ctx.now new.state.ctx.now items marks r.region kb.block last (ats_of more) b.op h.own o.place o.id o.parts ds is h.has.place h.has.id
              (came.0) (came.1) (came.2) (record { whole = held.whole; holds = held.holds; carried = held.carried });
        }
      where
        came : ComesInto (IsLocated old.state.src text) old.state.ctx.now new.state.ctx.now b.op h.own (Some kb.block)
        came = subst (λ t. ComesInto (IsLocated old.state.src t) old.state.ctx.now new.state.ctx.now b.op h.own (Some kb.block)) same h.comes

  -- ---- an operation: a piece after a region
  module _ (b : BegunOperation) (o : OpenOperation T A) (own : OwnSoFar T A) (more : List (Level T A)) where
    pub piece_read : (next : BegunOperation) (step : Step) (ss : List Step) (names : Names) (new : StateStream T A U) → o.steps ≡ step ∷ ss → is_flat step ≡ true → next.op ≡ b.op → next.results ≡ b.results → (r : ReadsPiece types_at attr o step b before old names new)
        → ((view : OperationView T A) → operation old.state.ctx.now b.op ≡ Some view → HasOwn (IsLocated old.state.src text) view own → HasUses old.state.ctx.now b.op own
        → OwnBecame old.state.ctx.now new.state.ctx.now (IsLocated old.state.src text) b.op (record own { entries = put_all own.entries (stored r.piece) }))
        → ModifiesOnly (TheOperation b.op ∷ []) old.state.ctx.now new.state.ctx.now → marks_of new.state ≡ marks_of old.state → length new.stream.rest ≤ length old.stream.rest
        → Makes (at_operation b o own ∷ more) (at_operation next (with_steps o ss (o.parts ++ tree.piece r.piece ∷ [])) (record own { entries = put_all own.entries (stored r.piece) }) ∷ more) names new
    piece_read next step ss names new e f same counts r became spares marked fewer = record {
      did = did_late o.place o.id r.piece ∷ [];
      made = [];
      goes = piece_reads dialects types_at attr recorder o (outward (map open_of more)) [] old.stream.rest step ss e f r.piece r.taken new.stream.rest r.read;
      acts = subst (λ w. Acts (λ path. (doing {T = T} {A = A} dialects path).late o.place o.id r.piece) before old.state (pledges_of more ++ pledge_of b o.place ∷ []) names new.state (pledges_of more ++ w ∷ []))
          (ap (λ z. record { place = o.place; op = z; results = b.results }) (sym same) ∙ ap (λ z. record { place = o.place; op = next.op; results = z }) (sym counts))
          (acts_within [] (λ path. (doing {T = T} {A = A} dialects path).late o.place o.id r.piece) before names old.state new.state (pledges_of more ++ pledge_of b o.place ∷ []) r.acts);
      stays = stay_operation old.state.ctx.now new.state.ctx.now b.op spares;
      falls = fewer;
      marks = [];
      noted = same_marks new marked;
      builds = λ start items marks ds held. subst (λ z. IsHeld (format_of dialects) (IsLocated old.state.src text) base start new.state.ctx.now items (marks ++ []) (operation_under z (record own { entries = put_all own.entries (stored r.piece) }) ∷ ats_of more) None (did_late o.place o.id r.piece ∷ ds)) (sym same)
          (piece_comes (format_of dialects) (IsLocated old.state.src text) base start old.state.ctx.now new.state.ctx.now items marks o.place o.id r.piece b.op own (record own { entries = put_all own.entries (stored r.piece) }) (ats_of more) ds refl refl became spares
          (record { whole = held.whole; holds = held.holds; carried = held.carried }));
    }

    -- ---- it waits for a region
    module _ (k : Unbounded dialects types_at attr recorder) (r : BegunRegion) (v : StreamView) (names : Names) (new : StateStream T A U) where
      abbrev in_it : BegunOperation → List Step → List (Part ℕ T A) → List (Level T A)
      in_it next ss ps = at_region r (isolated dialects o.id) (length v.rest) None ∷ at_operation next (with_steps o ss ps) own ∷ more

      entered : (next : BegunOperation) (ss : List Step) (ps : List (Part ℕ T A)) (iso : Bool) → next.op ≡ b.op → next.results ≡ b.results → iso ≡ isolated dialects o.id
          → (h : BeginsRegion types_at attr iso r before (with_stream old v) names new) → RegionCame old.state.ctx.now new.state.ctx.now r.region → OperationGains old.state.ctx.now new.state.ctx.now b.op r.region
          → ModifiesOnly (TheRegion r.region ∷ TheOperation b.op ∷ []) old.state.ctx.now new.state.ctx.now → marks_of new.state ≡ marks_of old.state → length new.stream.rest ≤ length old.stream.rest
          → Goes dialects types_at attr recorder (next_of (at_operation b o own ∷ more)) (waiting (at_operation b o own ∷ more)) [] old.stream.rest (next_of (in_it next ss ps)) (waiting (in_it next ss ps)) (did_enter (isolated dialects o.id) ∷ []) new.stream.rest
          → Makes (at_operation b o own ∷ more) (in_it next ss ps) names new
      entered next ss ps iso same counts is h came gains spares marked fewer g = record {
        did = did_enter (isolated dialects o.id) ∷ [];
        made = [];
        goes = g;
        acts = subst (λ w. Acts (λ path. (doing {T = T} {A = A} dialects path).enters (isolated dialects o.id)) before old.state (pledges_of more ++ pledge_of b o.place ∷ []) names new.state (pledges_of more ++ w ∷ []))
            (ap (λ z. record { place = o.place; op = z; results = b.results }) (sym same) ∙ ap (λ z. record { place = o.place; op = next.op; results = z }) (sym counts))
            (acts_within [] (λ path. (doing {T = T} {A = A} dialects path).enters (isolated dialects o.id)) before names old.state new.state (pledges_of more ++ pledge_of b o.place ∷ [])
            (subst (λ i. Acts (λ path. (doing {T = T} {A = A} dialects path).enters i) before old.state [] names new.state []) is h.acts));
        stays = stay_entered old.state.ctx.now new.state.ctx.now r.region b.op came spares;
        falls = fewer;
        marks = [];
        noted = same_marks new marked;
        builds = λ start items marks ds held. subst (λ z. IsHeld (format_of dialects) (IsLocated old.state.src text) base start new.state.ctx.now items (marks ++ []) (region_under r.region None ∷ operation_under z own ∷ ats_of more) None (did_enter (isolated dialects o.id) ∷ ds)) (sym same)
            (region_enters (format_of dialects) (IsLocated old.state.src text) base start old.state.ctx.now new.state.ctx.now items marks (isolated dialects o.id) r.region b.op own (ats_of more) ds came gains spares (record { whole = held.whole; holds = held.holds; carried = held.carried }));
      }

      -- one region
      pub region_entered : (i : ℕ) (ss : List Step) (next : BegunOperation) (iso : Bool) → o.steps ≡ one i ∷ ss → next.op ≡ b.op → next.results ≡ b.results → iso ≡ isolated dialects o.id → v.rest ≡ after_space old.stream.rest
          → (h : BeginsRegion types_at attr iso r before (with_stream old v) names new) → RegionCame old.state.ctx.now new.state.ctx.now r.region → OperationGains old.state.ctx.now new.state.ctx.now b.op r.region
          → ModifiesOnly (TheRegion r.region ∷ TheOperation b.op ∷ []) old.state.ctx.now new.state.ctx.now → marks_of new.state ≡ marks_of old.state → length new.stream.rest ≤ length old.stream.rest
          → Makes (at_operation b o own ∷ more) (in_it next ss (o.parts ++ tree.region i ∷ [])) names new
      region_entered i ss next iso e same counts is at h came gains spares marked fewer = entered next ss (o.parts ++ tree.region i ∷ []) iso same counts is h came gains spares marked fewer
          (subst (λ n. Goes dialects types_at attr recorder (next_of (at_operation b o own ∷ more)) (waiting (at_operation b o own ∷ more)) [] old.stream.rest (Some (a_region (isolated dialects o.id) n)) (waiting (in_it next ss (o.parts ++ tree.region i ∷ []))) (did_enter (isolated dialects o.id) ∷ []) new.stream.rest)
          (ap length (sym at))
          (region_begins dialects types_at attr recorder k o (outward (map open_of more)) [] old.stream.rest i ss e tt h.taken new.stream.rest (ap (word (codes "{") ▷ space_at) (sym at) ∙ h.read)))

      -- one of all regions
      pub another_entered : (ss : List Step) (iso : Bool) → o.steps ≡ all ∷ ss → begins_region (after_space old.stream.rest) ≡ true → iso ≡ isolated dialects o.id → v.rest ≡ after_space old.stream.rest
          → (h : BeginsRegion types_at attr iso r before (with_stream old v) names new) → RegionCame old.state.ctx.now new.state.ctx.now r.region → OperationGains old.state.ctx.now new.state.ctx.now b.op r.region
          → ModifiesOnly (TheRegion r.region ∷ TheOperation b.op ∷ []) old.state.ctx.now new.state.ctx.now → marks_of new.state ≡ marks_of old.state → length new.stream.rest ≤ length old.stream.rest
          → Makes (at_operation b o own ∷ more) (in_it b o.steps o.parts) names new
      another_entered ss iso e follows_on is at h came gains spares marked fewer = entered b o.steps o.parts iso refl refl is h came gains spares marked fewer
          (subst (λ n. Goes dialects types_at attr recorder (next_of (at_operation b o own ∷ more)) (waiting (at_operation b o own ∷ more)) [] old.stream.rest (Some (a_region (isolated dialects o.id) n)) (waiting (in_it b o.steps o.parts)) (did_enter (isolated dialects o.id) ∷ []) new.stream.rest)
          (ap length (sym at))
          (another_region dialects types_at attr recorder k o (outward (map open_of more)) [] old.stream.rest ss e follows_on tt h.taken new.stream.rest (ap (word (codes "{") ▷ space_at) (sym at) ∙ h.read)))

    -- no more regions
    pub regions_over : (k : Unbounded dialects types_at attr recorder) (ss : List Step) (next : BegunOperation) (v : StreamView) → o.steps ≡ all ∷ ss → begins_region (after_space old.stream.rest) ≡ false → next.op ≡ b.op → next.results ≡ b.results → v.rest ≡ after_space old.stream.rest → length v.rest ≤ length old.stream.rest
        → Makes (at_operation b o own ∷ more) (at_operation next (with_steps o ss (o.parts ++ tree.regions ∷ [])) own ∷ more) before (with_stream old v)
    regions_over k ss next v e none same counts at fewer = record {
      did = [];
      made = [];
      goes = goes_to (next_of (at_operation b o own ∷ more)) (outward (map open_of more)) (Some (an_operation (with_steps o ss (o.parts ++ tree.regions ∷ [])))) (outward (map open_of more)) [] (after_space old.stream.rest) v.rest at
          (no_more_regions dialects types_at attr recorder k o (outward (map open_of more)) [] old.stream.rest ss e none);
      acts = subst (λ w. Acts (λ path z. z) before old.state (pledges_of more ++ pledge_of b o.place ∷ []) before old.state (pledges_of more ++ w ∷ []))
          (ap (λ z. record { place = o.place; op = z; results = b.results }) (sym same) ∙ ap (λ z. record { place = o.place; op = next.op; results = z }) (sym counts))
          (acts_none before old.state (pledges_of more ++ pledge_of b o.place ∷ []));
      stays = stay_still old.state.ctx.now;
      falls = fewer;
      marks = [];
      noted = same_marks (with_stream old v) refl;
      builds = λ start items marks ds held. subst (λ z. IsHeld (format_of dialects) (IsLocated old.state.src text) base start old.state.ctx.now items (marks ++ []) (operation_under z own ∷ ats_of more) None ds) (sym same)
          (record { whole = held.whole; holds = held.holds; carried = carried_still items _ _ marks refl held.carried });
    }

    -- ---- its end
    module _ (e : o.steps ≡ []) (names : Names) (new : StateStream T A U) (has : HasBegun (format_of dialects) o own) (h : EndsOperation types_at attr o b before old names new)
        (became : (view : OperationView T A) → operation old.state.ctx.now b.op ≡ Some view → HasOwn (IsLocated old.state.src text) view own → HasUses old.state.ctx.now b.op own
        → OwnBecame old.state.ctx.now new.state.ctx.now (IsLocated old.state.src text) b.op (record own { entries = put_all own.entries (read_names (map (λ n. n.text) o.names)) }))
        (spares : ModifiesOnly (TheOperation b.op ∷ []) old.state.ctx.now new.state.ctx.now) (note : marks_of new.state ≡ marks_of old.state ++ noted_as h.mark (item.Operation b.op)) (fewer : length new.stream.rest ≤ length old.stream.rest) where
      abbrev at_end : List (Did T A)
      at_end = did_mark h.mark ∷ did_close o.place o.names o.id o.parts ∷ []

      end_goes : Goes dialects types_at attr recorder (Some (an_operation o)) (outward (map open_of more)) [] old.stream.rest (next_of more) (waiting more) at_end new.stream.rest
      end_goes = operation_ends dialects types_at attr recorder o (outward (map open_of more)) [] old.stream.rest e h.mark h.taken new.stream.rest (next_of more) (waiting more) h.read (theory_pops more)

      end_acts : Acts (λ path z. (doing {T = T} {A = A} dialects path).marks h.mark ((doing {T = T} {A = A} dialects path).closes o.place o.names o.id o.parts z)) before old.state (pledges_of more ++ pledge_of b o.place ∷ []) names new.state (pledges_of more)
      end_acts = acts_close [] (λ path z. (doing {T = T} {A = A} dialects path).marks h.mark ((doing {T = T} {A = A} dialects path).closes o.place o.names o.id o.parts z)) before names old.state new.state (pledges_of more) (pledge_of b o.place) h.acts

      -- whatever is open outside, given what the context holds then
      over : (outside : List (Level T A)) → more ≡ outside → Builds (at_operation b o own ∷ outside) outside new (noted_as h.mark (item.Operation b.op)) at_end → Makes (at_operation b o own ∷ outside) outside names new
      over outside is builds = record {
        did = at_end;
        made = [];
        goes = subst (λ ls. Goes dialects types_at attr recorder (Some (an_operation o)) (outward (map open_of ls)) [] old.stream.rest (next_of ls) (waiting ls) at_end new.stream.rest) is end_goes;
        acts = subst (λ ls. Acts (λ path z. (doing {T = T} {A = A} dialects path).marks h.mark ((doing {T = T} {A = A} dialects path).closes o.place o.names o.id o.parts z)) before old.state (pledges_of ls ++ pledge_of b o.place ∷ []) names new.state (pledges_of ls)) is end_acts;
        stays = stay_operation old.state.ctx.now new.state.ctx.now b.op spares;
        falls = fewer;
        marks = noted_as h.mark (item.Operation b.op);
        noted = note;
        builds = builds;
      }

      -- of what is parsed itself
      pub root_over : more ≡ [] → base ≡ outermost b.op → Makes (at_operation b o own ∷ []) [] names new
      root_over alone is = over [] alone (λ start items marks ds held. subst (λ z. Ended (format_of dialects) (IsLocated old.state.src text) z start new.state.ctx.now items (marks ++ noted_as h.mark (item.Operation b.op)) (at_end ++ ds)) (sym is)
          (root_ends (format_of dialects) (IsLocated old.state.src text) (outermost b.op) start old.state.ctx.now new.state.ctx.now items marks o.place o.names o.id o.parts h.mark b.op own (record own { entries = put_all own.entries (read_names (map (λ n. n.text) o.names)) }) ds
          refl refl has.place has.id (own_whole (format_of dialects) o own e has) became spares
          (subst (λ z. IsHeld (format_of dialects) (IsLocated old.state.src text) z start old.state.ctx.now items marks (operation_under b.op own ∷ []) None ds) is (record { whole = held.whole; holds = held.holds; carried = held.carried }))))

      -- of one in a block
      pub operation_over : (kb : BegunBlock) (r : BegunRegion) (iso : Bool) (place : ℕ) (last : Option (Ptr BasicBlock)) (outside : List (Level T A)) → more ≡ at_block kb ∷ at_region r iso place last ∷ outside → last ≡ Some kb.block
          → Makes (at_operation b o own ∷ at_block kb ∷ at_region r iso place last ∷ outside) (at_block kb ∷ at_region r iso place last ∷ outside) names new
      operation_over kb r iso place last outside is at = over (at_block kb ∷ at_region r iso place last ∷ outside) is (λ start items marks ds held.
          ends_in_block (format_of dialects) (IsLocated old.state.src text) base start old.state.ctx.now new.state.ctx.now items marks o.place o.names o.id o.parts h.mark b.op own (record own { entries = put_all own.entries (read_names (map (λ n. n.text) o.names)) }) ds
          refl refl has.place has.id (own_whole (format_of dialects) o own e has) became spares r.region kb.block last (ats_of outside) at (record { whole = held.whole; holds = held.holds; carried = held.carried }))

  -- ---- a region
  module _ (k : Unbounded dialects types_at attr recorder) (r : BegunRegion) (iso : Bool) (place : ℕ) (last : Option (Ptr BasicBlock)) (more : List (Level T A)) (v : StreamView) (at : v.rest ≡ after_space old.stream.rest) (names : Names) (new : StateStream T A U) where
    -- a block begins in it
    pub block_begun : (kb : BegunBlock) → begins_block (after_space old.stream.rest) ≡ true → kb.first ≡ true → whole v ≡ text → (h : BeginsBlock types_at attr kb before (with_stream old v) names new)
        → BlockCame old.state.ctx.now new.state.ctx.now (IsLocated old.state.src (whole v)) kb.block h.head → RegionGains old.state.ctx.now new.state.ctx.now r.region kb.block → ModifiesOnly (TheBlock kb.block ∷ TheRegion r.region ∷ []) old.state.ctx.now new.state.ctx.now
        → marks_of new.state ≡ marks_of old.state ++ noted_as h.head.mark (item.Block kb.block) → (length new.stream.rest < h.head.label.place) × (h.head.label.place ≤ length old.stream.rest)
        → Makes (at_region r iso place last ∷ more) (at_block kb ∷ at_region r iso place (Some kb.block) ∷ more) names new
    block_begun kb follows_on first same h came gains spares note falls = record {
      did = did_head h.head ∷ [];
      made = (h.head.label.place, TheBlock kb.block) ∷ [];
      goes = subst (λ f. Goes dialects types_at attr recorder (Some (a_region iso place)) (outward (map open_of more)) [] old.stream.rest (Some (a_block f)) (outward (map open_of more) ++ a_region iso place ∷ []) (did_head h.head ∷ []) new.stream.rest) (sym first)
          (block_begins dialects types_at attr recorder k iso place (outward (map open_of more)) [] old.stream.rest follows_on h.head h.taken new.stream.rest (ap (head_at types_at attr) (sym at) ∙ h.read));
      acts = acts_within ((h.head.label.place, TheBlock kb.block) ∷ []) (λ path. (doing dialects path).heads h.head) before names old.state new.state (pledges_of more) (record { so = λ path made others z st. h.acts.so path made others z st });
      stays = stay_gained old.state.ctx.now new.state.ctx.now r.region kb.block gains spares;
      falls = falls;
      marks = noted_as h.head.mark (item.Block kb.block);
      noted = note;
      builds = λ start items marks ds held. block_comes (format_of dialects) (IsLocated old.state.src text) base start old.state.ctx.now new.state.ctx.now items marks r.region kb.block h.head last (ats_of more) ds
          (subst (λ t. BlockCame old.state.ctx.now new.state.ctx.now (IsLocated old.state.src t) kb.block h.head) same came) gains spares (record { whole = held.whole; holds = held.holds; carried = held.carried });
    }

    -- it ends
    module _ (none : begins_block (after_space old.stream.rest) ≡ false) (h : EndsRegion types_at attr iso place before (with_stream old v) names new) (still : new.state ≡ old.state) (fewer : length new.stream.rest ≤ length old.stream.rest) where
      left_goes : Goes dialects types_at attr recorder (Some (a_region iso place)) (outward (map open_of more)) [] old.stream.rest (next_of more) (waiting more) (did_leave iso place ∷ []) new.stream.rest
      left_goes = region_ends dialects types_at attr recorder k iso place (outward (map open_of more)) [] old.stream.rest none tt h.taken new.stream.rest (next_of more) (waiting more) (ap (word (codes "}")) (sym at) ∙ h.read) (theory_pops more)

      left_acts : Acts (λ path. (doing {T = T} {A = A} dialects path).leaves iso place) before old.state (pledges_of more) names new.state (pledges_of more)
      left_acts = acts_within [] (λ path. (doing {T = T} {A = A} dialects path).leaves iso place) before names old.state new.state (pledges_of more) (record { so = λ path made others z st. h.acts.so path made others z st })

      -- whatever is open outside, given what the context holds then
      left_over : (outside : List (Level T A)) → more ≡ outside → Builds (at_region r iso place last ∷ outside) outside new [] (did_leave iso place ∷ []) → Makes (at_region r iso place last ∷ outside) outside names new
      left_over outside is builds = record {
        did = did_leave iso place ∷ [];
        made = [];
        goes = subst (λ ls. Goes dialects types_at attr recorder (Some (a_region iso place)) (outward (map open_of ls)) [] old.stream.rest (next_of ls) (waiting ls) (did_leave iso place ∷ []) new.stream.rest) is left_goes;
        acts = subst (λ ls. Acts (λ path. (doing {T = T} {A = A} dialects path).leaves iso place) before old.state (pledges_of ls) names new.state (pledges_of ls)) is left_acts;
        stays = subst (λ s. RegionsStay old.state.ctx.now s.ctx.now) (sym still) (stay_still old.state.ctx.now);
        falls = fewer;
        marks = [];
        noted = same_marks new (ap marks_of still);
        builds = builds;
      }

      -- in an operation
      pub region_over : (b : BegunOperation) (o : OpenOperation T A) (own : OwnSoFar T A) (outside : List (Level T A)) → more ≡ at_operation b o own ∷ outside
          → Makes (at_region r iso place last ∷ at_operation b o own ∷ outside) (at_operation b o own ∷ outside) names new
      region_over b o own outside is = left_over (at_operation b o own ∷ outside) is (λ start items marks ds held.
          subst (λ s. IsHeld (format_of dialects) (IsLocated old.state.src text) base start s.ctx.now items (marks ++ []) (operation_under b.op own ∷ ats_of outside) None (did_leave iso place ∷ ds)) (sym still)
          (region_leaves (format_of dialects) (IsLocated old.state.src text) base start old.state.ctx.now items marks iso place r.region last b.op own (ats_of outside) ds (record { whole = held.whole; holds = held.holds; carried = held.carried })))

      -- or it is what is parsed
      pub base_over : more ≡ [] → base ≡ within r.region → Makes (at_region r iso place last ∷ []) [] names new
      base_over alone is = left_over [] alone (λ start items marks ds held.
          subst (λ s. Ended (format_of dialects) (IsLocated old.state.src text) base start s.ctx.now items (marks ++ []) (did_leave iso place ∷ ds)) (sym still)
          (subst (λ z. Ended (format_of dialects) (IsLocated old.state.src text) z start old.state.ctx.now items (marks ++ []) (did_leave iso place ∷ ds)) (sym is)
          (region_alone (format_of dialects) (IsLocated old.state.src text) start old.state.ctx.now items marks r.region iso place last ds
          (subst (λ z. IsHeld (format_of dialects) (IsLocated old.state.src text) z start old.state.ctx.now items marks (region_under r.region last ∷ []) None ds) is (record { whole = held.whole; holds = held.holds; carried = held.carried })))))
