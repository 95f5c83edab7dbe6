-- An operation with all that nests in it, from its beginning to its end, or to the first fault.
use Rattle.std.proofs.Common.{◌≡◌, ◌∙◌, ◌-◌, ℕ, Bool, true, false, List, [], ◌∷◌, ◌++◌, length, Option, Some, None, refl, sym, ap, subst, append_assoc, append-nil, arith, le_refl, inl, inr}
use Rattle.irtext_base.specs.Text.{Text}
use Rattle.irtext_base.specs.Locations.{AttrView}
use Rattle.irtext_base.specs.declared.location.Location.{Location}
use Rattle.irtext_base.specs.declared.parsable.fault.ParseFault.{ParseFault}
use Rattle.irtext_context.specs.Context.{ContextView}
use Rattle.irtext_context.specs.Dialects.{Table}
use Rattle.irtext_graph.specs.declared.arena.Ptr.{Ptr}
use Rattle.irtext_graph.specs.declared.object.Operation.{Operation}
use Rattle.irtext_graph.specs.declared.object.Object.{Object}
use Rattle.irtext_graph.specs.declared.object.Object.TheVariants.{TheOperation}
use Rattle.irtext_tokens.specs.AttrTexts.{attr_at}
use Rattle.irtext_tokens.specs.Infix.{Reader}
use Rattle.irtext_parse_state.specs.declared.parsable.state.StateStream.{StateStream}
use Rattle.irtext_grammar.specs.Contexts.Formats.{format_of}
use Rattle.irtext_grammar.specs.Contexts.Held.{whole}
use Rattle.irtext_grammar.specs.Grammar.Tree.{Tree}
use Rattle.irtext_grammar.specs.Names.History.{Outcome as Machine, failed}
use Rattle.irtext_grammar.specs.Names.Script.{Path}
use Rattle.irtext_grammar.specs.Promises.Root.{UnlessMemory}
use Rattle.irtext_grammar.specs.Promises.Supported.{is_committed}
use Rattle.irtext_grammar.proofs.Joins.Answers.{Splits}
use Rattle.irtext_grammar.proofs.Joins.Attributes.{splits_attr}
use Rattle.irtext_grammar.specs.Heads.{front_steps, setting}
use Rattle.irtext_grammar.specs.Reached.{Advanced, Stopped, Actions, steps_in, front_by, operation_at}
use Rattle.irtext_grammar.specs.Resume.{OpenOperation, to_come, an_operation, EndsIn, Goes}
use Rattle.irtext_grammar.proofs.Naming.Keeps.{failed_keeps}
use Rattle.irtext_grammar.proofs.Resume.Failed.{failed_at}
use Rattle.irtext_grammar.proofs.Resume.Frames.{goes_trans, stuck_at}
use Rattle.irtext_grammar.proofs.Resume.Front.{splits_piece, front_inside, front_reads, front_misses}
use Rattle.irtext_grammar.proofs.Knot.Whole.{leaves_no_more}
use Rattle.irtext_grammar.proofs.Resume.Turns.{operation_begins, no_lead, no_front}
use Rattle.irtext_grammar.specs.Building.{Unfinished, building, nothing_open, finished}
use Rattle.irtext_grammar.specs.Unchanged.{operation_under, AreOpenAt, TreeHolds}
use Rattle.irtext_grammar.specs.Tracks.{Made, noted, HoldsMade}
use Rattle.irtext_grammar.proofs.Tracked.{holds_nothing, uses_at_root}
use Rattle.irtext_parse_nested.specs.declared.frame.BegunOperation.{BegunOperation}
use Rattle.irtext_parse_nested.specs.Beginning.{HasBegun}
use Rattle.irtext_parse_nested.specs.OpenOperation.{IsBegun, pledge_of}
use Rattle.irtext_names.specs.Items.{Names, MachineAgrees, IsFailure, IsTextFault, doing}
use Rattle.irtext_names.specs.Located.{IsLocated}
use Rattle.irtext_parse_nested.specs.Read as read
use Rattle.irtext_parse_nested.specs.Read.{begun_by, RefusesOperation}
use Rattle.irtext_parse_root.specs.declared.frames.Frame.TheVariants as framed
use Rattle.irtext_parse_root.specs.Built.{IsHeld}
use Rattle.irtext_parse_root.specs.Here.{outermost, IsHere, AreHere}
use Rattle.irtext_parse_root.specs.Levels.{Level, at_operation}
use Rattle.irtext_parse_root.specs.Nested as nested
use Rattle.irtext_parse_root.specs.Nested.{ReadsNested, RefusesNested}
use Rattle.irtext_parse_root.specs.Recorded.{Did, did_use, recorder, all_done}
use Rattle.irtext_parse_root.specs.Turned.{Turned, Faulted, at_text, by_names, Stops, Finishes}
use Rattle.irtext_parse_root.specs.Turns.{Begins}
use Rattle.irtext_parse_root.proofs.Carrying.{falls_both}
use Rattle.irtext_parse_root.specs.Carried.{marks_so_far, marks_in, AreCarried, Falls}
use Rattle.irtext_parse_root.proofs.Chains.{moved_whole, carries_both, turned_over, faulted_over}
use Rattle.irtext_parse_root.proofs.Nearer.{front_fewer, led_fewer, led_some}
use Rattle.irtext_parse_root.proofs.Telling.{done_both, goes_recorded, goes_after, stuck_recorded, stuck_after}

-- nothing is open, and a tree is whole
finished_is : {T A : Type 0} (I : Object → ℕ → Location A → Type 0) (c : ContextView T A) (w : List Object) (p : Ptr Operation) (us : List (Unfinished T A)) (t : Option (Tree ℕ T A)) → AreOpenAt I c w [] us None → TreeHolds I c w (Some p) t
    → (x : Tree ℕ T A) × (record { unfinished = us; tree = t } ≡ finished x)
finished_is I c w p [] None o h = absurd h
finished_is I c w p [] (Some x) o h = (x, refl)
finished_is I c w p (u ∷ us) t o h = absurd o

module _ {T A U : Type 0} (types_at : Reader T) (reading : Reader A) (h : Splits types_at) (k : Splits reading) (before : Names) (old : StateStream T A U) where
  abbrev attr : Reader (AttrView A)
  attr = attr_at reading

  abbrev dialects : List (Text × Table)
  dialects = old.state.ctx.now.dialects

  abbrev does : (ℕ → Path) → Actions T A Machine
  does path = doing {T = T} {A = A} dialects path

  module _ (b : BegunOperation) (n1 : Names) (s1 : StateStream T A U) (bg : Begins types_at attr before old None b n1 s1) where
    abbrev begun_here : OpenOperation T A
    begun_here = begun_by types_at attr false old s1.stream.rest bg.begins.read

    abbrev alone : List (Level T A)
    alone = at_operation b begun_here bg.own ∷ []

    same_text : whole s1.stream ≡ whole old.stream
    same_text = moved_whole old.stream s1.stream bg.carries.moves

    abbrev first : List (Did T A)
    first = did_use begun_here.place begun_here.id begun_here.parts ∷ []

    abbrev item : ℕ × Object
    item = (begun_here.place, TheOperation b.op)

    -- it is open, and nothing else
    root_here : IsHere (outermost b.op) (length before.values) (length before.labels) alone n1 (whole s1.stream) s1.state.ctx.now (Some (framed.Operation b)) []
    root_here =
        let values = bg.depth.values in
        let labels = bg.depth.labels in
        record {
          next_is = refl;
          others = refl;
          levels = ((subst (λ t. IsBegun n1.names t s1.state.ctx.now b begun_here) (sym same_text) bg.begins.begun, subst (λ d. HasBegun (format_of d) begun_here bg.own) (sym bg.carries.lasts.dialects) bg.has), tt);
          nest = (refl, tt);
          values = omega (arith, values);
          labels = omega (arith, labels);
        }

    pub root_is_here : AreHere T A (whole s1.stream) s1.state.ctx.now n1 (Some (framed.Operation b)) []
    root_is_here = record { base = outermost b.op; v = length before.values; l = length before.labels; ls = alone; here = root_here }

    -- its front, as it is parsed outside of each region, is parsed so inside of one too
    front_there : (inside : Bool) {S : Type 0} (d : Actions T A S) (s : S) → front_by dialects types_at attr d (setting inside false) (front_steps (steps_in dialects bg.begins.read.id)) [] bg.begins.read.middle s ≡ Advanced bg.begins.read.parts s s1.stream.rest
    front_there false d s =
        let q = bg.begins.read in
        front_reads dialects types_at attr d (setting false false) (splits_piece types_at reading h k false) (front_steps (steps_in dialects q.id)) [] q.parts q.middle q.taken s1.stream.rest s q.front
    front_there true d s =
        let q = bg.begins.read in
        let m = front_inside types_at reading h k (front_steps (steps_in dialects q.id)) [] q.parts q.middle q.taken s1.stream.rest q.front in
        front_reads dialects types_at attr d (setting true false) (splits_piece types_at reading h k true) (front_steps (steps_in dialects q.id)) [] q.parts q.middle m.0 s1.stream.rest s m.1

    -- what was parsed of it so far
    begun_goes : (inside : Bool) {S : Type 0} (d : Actions T A S) → false ≡ d.any_key → (s : S) → Goes dialects types_at attr d (Some (to_come inside)) [] s old.stream.rest (Some (an_operation begun_here)) [] (d.uses begun_here.place begun_here.id begun_here.parts s) s1.stream.rest
    begun_goes inside d same s =
        let q = bg.begins.read in
        operation_begins dialects types_at attr d [] inside s old.stream.rest q.names q.id q.lead q.middle q.led q.parts s1.stream.rest
        (subst (λ k. front_by dialects types_at attr d (setting inside k) (front_steps (steps_in dialects q.id)) [] q.middle s ≡ Advanced q.parts s s1.stream.rest) same (front_there inside d s))

    begun_agrees : (path : ℕ → Path) (items : Made) (o : Machine) → MachineAgrees path items [] before old.state o → MachineAgrees path (item ∷ items) (pledge_of b begun_here.place ∷ []) n1 s1.state ((does path).uses begun_here.place begun_here.id begun_here.parts o)
    begun_agrees path items o st = bg.begins.acts.so path items [] o st

    begun_held : IsHeld (format_of dialects) (IsLocated old.state.src (whole old.stream)) (outermost b.op) old.state.ctx.now s1.state.ctx.now (item ∷ []) [] (operation_under b.op bg.own ∷ []) None first
    begun_held = record {
      whole = [];
      holds = subst (λ z. HoldsMade (IsLocated old.state.src (whole old.stream)) old.state.ctx.now s1.state.ctx.now ((z, TheOperation b.op) ∷ []) [] (operation_under b.op bg.own ∷ []) None ((building (format_of dialects)).uses z begun_here.id begun_here.parts nothing_open)) bg.has.place
          (subst (λ z. HoldsMade (IsLocated old.state.src (whole old.stream)) old.state.ctx.now s1.state.ctx.now ((bg.own.place, TheOperation b.op) ∷ []) [] (operation_under b.op bg.own ∷ []) None ((building (format_of dialects)).uses bg.own.place z begun_here.parts nothing_open)) bg.has.id
          (uses_at_root (IsLocated old.state.src (whole old.stream)) old.state.ctx.now old.state.ctx.now s1.state.ctx.now [] [] None (format_of dialects) b.op bg.own begun_here.parts nothing_open
          (holds_nothing (IsLocated old.state.src (whole old.stream)) old.state.ctx.now) bg.comes.0 bg.comes.1));
      carried = tt;
    }

    -- the rest after it is shorter
    begun_falls : Falls (length old.stream.rest) (item ∷ []) (length s1.stream.rest)
    begun_falls =
        let q = bg.begins.read in
        let lead = led_fewer dialects old.stream.rest (q.names, q.id) q.lead q.middle (led_some dialects old.stream.rest (q.names, q.id) q.lead q.middle q.led) q.led in
        let front = front_fewer (leaves_no_more types_at h) (leaves_no_more attr (splits_attr reading k)) (setting false false) (front_steps (steps_in dialects q.id)) q.middle q.parts q.taken s1.stream.rest q.front in
        (omega (arith, lead, front), le_refl (length old.stream.rest))

    -- ---- all of it was parsed
    module _ (n2 : Names) (s2 : StateStream T A U) (f : Finishes types_at attr (framed.Operation b) n1 s1 n2 s2) where
      abbrev turned_raw : Turned types_at attr s1.state.ctx.now.dialects s1.state.src (whole s1.stream) (outermost b.op) alone n1 s1 [] n2 s2
      turned_raw = (f.arrives (outermost b.op) (length before.values) (length before.labels) alone root_here).2

      turned : Turned types_at attr dialects old.state.src (whole old.stream) (outermost b.op) alone n1 s1 [] n2 s2
      turned = turned_over s1.state.ctx.now.dialects dialects s1.state.src old.state.src (whole s1.stream) (whole old.stream) bg.carries.lasts.dialects bg.carries.rest.src same_text turned_raw

      nested_goes : {S : Type 0} (d : Actions T A S) → false ≡ d.any_key → (s : S) → operation_at dialects types_at attr d true old.stream.rest s ≡ Advanced tt (all_done d (turned.did ++ first) s) s2.stream.rest
      nested_goes d same s = (goes_recorded d same (goes_trans (begun_goes true recorder refl []) (goes_after turned.goes first)) s).so

      nested_held : IsHeld (format_of dialects) (IsLocated old.state.src (whole old.stream)) (outermost b.op) old.state.ctx.now s2.state.ctx.now (turned.made ++ item ∷ []) turned.marks [] (Some b.op) (turned.did ++ first)
      nested_held = turned.builds old.state.ctx.now (item ∷ []) [] first begun_held

      pub nested_reads : ReadsNested types_at attr before old b.op n2 s2
      nested_reads =
          let held = nested_held in
          let built = all_done (building (format_of dialects)) (turned.did ++ first) nothing_open in
          let t = finished_is (noted (turned.made ++ item ∷ []) (IsLocated old.state.src (whole old.stream))) s2.state.ctx.now held.whole b.op built.unfinished built.tree held.holds.so_far.are_open held.holds.so_far.tree in
          record {
            tree = t.0;
            moves = (carries_both bg.carries f.carries).moves;
            builds = nested_goes (building (format_of dialects)) refl nothing_open ∙ ap (λ z. Advanced tt z s2.stream.rest) t.1;
            made = turned.made ++ item ∷ [];
            runs = λ path items o st. (
              all_done (does path) (turned.did ++ first) o,
              subst (λ z. MachineAgrees path z [] n2 s2.state (all_done (does path) (turned.did ++ first) o)) (sym (append_assoc turned.made (item ∷ []) items))
                  (subst (λ z. MachineAgrees path (turned.made ++ item ∷ items) [] n2 s2.state z) (sym (done_both (does path) turned.did first o))
                  (turned.acts.so path (item ∷ items) [] ((does path).uses begun_here.place begun_here.id begun_here.parts o) (begun_agrees path items o st))),
              nested_goes (does path) refl o,
            );
            objects = held.whole;
            holds = subst (λ z. HoldsMade (IsLocated old.state.src (whole old.stream)) old.state.ctx.now s2.state.ctx.now (turned.made ++ item ∷ []) held.whole [] (Some b.op) z) t.1 held.holds;
            falls = falls_both (length old.stream.rest) (item ∷ []) turned.made (length s1.stream.rest) (length s2.stream.rest) begun_falls turned.falls;
            marks = turned.marks;
            noted = turned.noted ∙ ap (λ z. z ++ turned.marks) bg.marks;
            carried = subst (λ z. AreCarried (turned.made ++ item ∷ []) z turned.marks) (append-nil (marks_in t.0)) (subst (λ z. AreCarried (turned.made ++ item ∷ []) (marks_so_far z) turned.marks) t.1 held.carried);
          }

    -- ---- or there is a fault in it
    module _ (fault : ParseFault A) (st : Stops types_at attr (framed.Operation b) [] n1 s1 fault) where
      inside_refused : UnlessMemory (Faulted types_at attr dialects alone n1 s1) fault → UnlessMemory (RefusesNested types_at attr before old) fault
      inside_refused (inl ran_out) = inl ran_out
      inside_refused (inr (at_text did made names mid still cause place g a f)) = inr (nested.at_text cause place (subst (λ t. IsTextFault t cause place fault) same_text f) (st.committed ∙ sym (ap is_committed bg.begins.read.led))
          (λ path items o agreed.
          let z = a.so path (item ∷ items) [] ((does path).uses begun_here.place begun_here.id begun_here.parts o) (begun_agrees path items o agreed) in
          (z.state, (stuck_recorded (does path) refl (stuck_at (begun_goes false recorder refl []) (stuck_after g first)) o).so ∙ ap (λ y. Stopped y cause place) (done_both (does path) did first o ∙ z.going))))
      inside_refused (inr (by_names failure f ends)) = inr (nested.by_names failure (subst (λ t. IsFailure t failure fault) same_text f)
          (λ path items o agreed. subst (EndsIn (failed failure)) (sym (begun_goes false (does path) refl o).so)
          (ends path (item ∷ items) [] ((does path).uses begun_here.place begun_here.id begun_here.parts o) (begun_agrees path items o agreed))))

      pub nested_stops : UnlessMemory (RefusesNested types_at attr before old) fault
      nested_stops = inside_refused (faulted_over s1.state.ctx.now.dialects dialects bg.carries.lasts.dialects (st.stops (outermost b.op) (length before.values) (length before.labels) alone root_here))

  -- ---- or none begins
  pub none_begins : (fault : ParseFault A) → UnlessMemory (RefusesOperation types_at attr false before old) fault → UnlessMemory (RefusesNested types_at attr before old) fault
  none_begins fault (inl ran_out) = inl ran_out
  none_begins fault (inr (read.no_lead d flag)) = inr (nested.at_text d.cause (length old.stream.rest - length d.upto) d.fault_is flag
      (λ path items o agreed. (agreed.state, (no_lead dialects types_at attr (does path) [] false o old.stream.rest d.cause d.upto d.bad).so ∙ ap (λ y. Stopped y d.cause (length old.stream.rest - length d.upto)) agreed.going)))
  none_begins fault (inr (read.no_front names id lead middle e d flag)) = inr (nested.at_text d.cause (length middle - length d.upto) d.fault_is (flag ∙ sym (ap is_committed e))
      (λ path items o agreed. (
        agreed.state,
        (no_front dialects types_at attr (does path) [] false o old.stream.rest names id lead middle e o d.cause (length middle - length d.upto)
            (front_misses dialects types_at attr (does path) (setting false false) (splits_piece types_at reading h k false) (front_steps (steps_in dialects id)) [] middle o d.cause d.upto d.bad)).so
            ∙ ap (λ y. Stopped y d.cause (length middle - length d.upto)) agreed.going,
      )))
  none_begins fault (inr (read.no_uses rest q f)) = inr (nested.by_names f.failure f.is (λ path items o agreed.
      let at : (does path).uses (length old.stream.rest) q.id q.parts o ≡ failed f.failure = f.so path items [] o agreed in
      failed_at (failed_keeps {T = T} {A = A} (format_of dialects) path f.failure)
      (subst (λ z. Goes dialects types_at attr (does path) (Some (to_come false)) [] o old.stream.rest (Some (an_operation (begun_by types_at attr false old rest q))) [] z rest) at
      (operation_begins dialects types_at attr (does path) [] false o old.stream.rest q.names q.id q.lead q.middle q.led q.parts rest
      (front_reads dialects types_at attr (does path) (setting false false) (splits_piece types_at reading h k false) (front_steps (steps_in dialects q.id)) [] q.parts q.middle q.taken rest o q.front)))))
