-- Where there is no turn, the text is at fault, or an action fails: from the errors of the turns of each open frame.
use Rattle.std.proofs.Common.{◌≡◌, ◌∙◌, ◌-◌, ℕ, Bool, true, false, List, [], ◌∷◌, ◌++◌, map, length, codes, Option, Some, sym, ap, subst, append-nil, inl, inr, refl}
use Rattle.irtext_base.specs.Text.{Text, after_space}
use Rattle.irtext_base.specs.Stream.{StreamView}
use Rattle.irtext_base.specs.Answers.{Bad, demanded}
use Rattle.irtext_base.specs.Faults.{Fault}
use Rattle.irtext_base.specs.Locations.{AttrView}
use Rattle.irtext_base.specs.declared.parsable.fault.ParseFault.{ParseFault}
use Rattle.irtext_context.specs.Dialects.{Table}
use Rattle.irtext_graph.specs.declared.arena.Ptr.{Ptr}
use Rattle.irtext_graph.specs.declared.object.BasicBlock.{BasicBlock}
use Rattle.irtext_tokens.specs.Infix.{Reader, ◌▷◌}
use Rattle.irtext_tokens.specs.Tokens.{space_at, word}
use Rattle.irtext_parse_state.specs.declared.parsable.state.StateStream.{StateStream}
use Rattle.irtext_grammar.specs.Contexts.Formats.{format_of, isolated}
use Rattle.irtext_grammar.specs.Contexts.Held.{whole}
use Rattle.irtext_grammar.specs.Names.History.{Outcome as Machine, failed}
use Rattle.irtext_grammar.specs.Names.Script.{Path}
use Rattle.irtext_grammar.specs.Names.TextScopes.{Failure}
use Rattle.irtext_grammar.specs.Promises.Root.{UnlessMemory}
use Rattle.irtext_grammar.proofs.Joins.Answers.{Splits}
use Rattle.irtext_grammar.specs.Heads.{Step, one, all, front_steps, piece_at, head_at, setting}
use Rattle.irtext_tokens.proofs.Spelling.{begins_the}
use Rattle.irtext_grammar.specs.Reached.{Actions, begins_region, begins_block, steps_in}
use Rattle.irtext_grammar.specs.Resume as theory
use Rattle.irtext_grammar.specs.Resume.{OpenOperation, is_flat, Open, an_operation, a_region, a_block, EndsIn, Goes, StoppedAt}
use Rattle.irtext_grammar.proofs.Naming.Keeps.{failed_keeps}
use Rattle.irtext_grammar.proofs.Resume.Failed.{failed_at}
use Rattle.irtext_grammar.proofs.Resume.Frames.{goes_trans, stuck_at}
use Rattle.irtext_grammar.proofs.Resume.Front.{front_reads, front_misses}
use Rattle.irtext_grammar.proofs.Resume.Turns.{operation_begins, no_lead, no_front, piece_reads, no_piece, operation_ends, no_end, operation_closes, no_region, region_enters, another_enters, block_begins, no_block, region_ends, no_brace}
use Rattle.irtext_grammar.proofs.Resume.Unbounded.{Unbounded}
use Rattle.irtext_grammar.specs.Unchanged.{OwnSoFar}
use Rattle.irtext_parse_nested.specs.declared.frame.BegunOperation.{BegunOperation}
use Rattle.irtext_parse_nested.specs.declared.frame.BegunRegion.{BegunRegion}
use Rattle.irtext_parse_nested.specs.declared.frame.BegunBlock.{BegunBlock}
use Rattle.irtext_parse_nested.specs.OpenOperation.{pledge_of}
use Rattle.irtext_names.specs.Items.{Names, Made, Pledge, MachineAgrees, Acts, ActFails, IsFailure, IsTextFault, doing}
use Rattle.irtext_parse_nested.specs.Read as read
use Rattle.irtext_parse_nested.specs.Read.{begun_by, closes_of, RefusesOperation, RefusesPiece, RefusesEnd, RefusesRegion, RefusesRegionEnd, RefusesBlock}
use Rattle.irtext_parse_root.specs.Here.{Base}
use Rattle.irtext_parse_root.specs.Levels.{Level, at_operation, at_region, at_block, outward, open_of, next_of, waiting, pledges_of}
use Rattle.irtext_parse_root.specs.OperationFollows.{operation_follows, text_there}
use Rattle.irtext_parse_root.specs.Recorded.{Did, did_use, did_late, did_enter, did_leave, did_close, did_mark, did_head, recorder, all_done}
use Rattle.irtext_parse_root.specs.Turned.{Faulted, at_text, by_names}
use Rattle.irtext_parse_root.proofs.Chains.{acts_within, acts_close, acts_none, fails_besides}
use Rattle.irtext_parse_root.proofs.Levels.{theory_pops}
use Rattle.irtext_parse_root.proofs.Telling.{goes_recorded}
use Rattle.irtext_parse_root.proofs.Turning.{with_stream, one_comes}

module _ {T A U : Type 0} (types_at : Reader T) (attr : Reader (AttrView A)) (before : Names) (old : StateStream T A U) (fault : ParseFault A) where
  abbrev dialects : List (Text × Table)
  dialects = old.state.ctx.now.dialects

  -- there is no turn
  abbrev NoTurn : List (Level T A) → Type 0
  NoTurn ls = UnlessMemory (Faulted types_at attr dialects ls before old) fault

  -- what items do with names
  abbrev does : (ℕ → Path) → Actions T A Machine
  does path = doing {T = T} {A = A} dialects path

  -- what was done fails, where the text leads on
  failing : (ls : List (Level T A)) (next : Option (Open T A)) (frames : List (Open T A)) (did : List (Did T A)) (rest : Text) (failure : Failure)
      → Goes dialects types_at attr recorder (next_of ls) (waiting ls) [] old.stream.rest next frames did rest
      → ((path : ℕ → Path) (items : Made) (more : List Pledge) (o : Machine) → MachineAgrees path items (more ++ pledges_of ls) before old.state o → all_done (does path) did o ≡ failed failure)
      → (path : ℕ → Path) (items : Made) (more : List Pledge) (o : Machine) → MachineAgrees path items (more ++ pledges_of ls) before old.state o
      → EndsIn (failed failure) (theory.whole dialects types_at attr (does path) (next_of ls) (waiting ls) o old.stream.rest)
  failing ls next frames did rest failure g fails path items more o st =
      failed_at (failed_keeps (format_of dialects) path failure)
      (subst (λ z. Goes dialects types_at attr (does path) (next_of ls) (waiting ls) o old.stream.rest next frames z rest) (fails path items more o st) (goes_recorded (does path) refl g o))

  -- ---- a block
  module _ (k : Unbounded dialects types_at attr recorder) (splits : (step : Step) → Splits (piece_at types_at attr (setting true false) step)) (base : Base) (kb : BegunBlock) (r : BegunRegion) (iso : Bool) (place : ℕ) (last : Option (Ptr BasicBlock)) (more : List (Level T A)) (v : StreamView)
      (follows_on : operation_follows kb.first old.stream.rest ≡ true) (at : v.rest ≡ text_there kb.first old.stream.rest) (same : whole v ≡ whole old.stream) where
    abbrev in_region : List (Level T A)
    in_region = at_region r iso place last ∷ more

    abbrev following : List (Open T A)
    following = outward (map open_of in_region) ++ a_block false ∷ []

    pub no_operation_begins : RefusesOperation types_at attr true before (with_stream old v) fault → Faulted types_at attr dialects (at_block kb ∷ in_region) before old fault
    no_operation_begins (read.no_lead d flag) = at_text [] [] before old.state (pledges_of in_region) d.cause (length v.rest - length d.upto)
        (stuck_at (one_comes types_at attr base before old k kb r iso place last more v kb.first follows_on at) (no_lead dialects types_at attr recorder following true [] v.rest d.cause d.upto d.bad))
        (acts_none before old.state (pledges_of in_region)) (subst (λ t. IsTextFault t d.cause (length v.rest - length d.upto) fault) same d.fault_is)
    no_operation_begins (read.no_front names id lead middle e d flag) = at_text [] [] before old.state (pledges_of in_region) d.cause (length middle - length d.upto)
        (stuck_at (one_comes types_at attr base before old k kb r iso place last more v kb.first follows_on at) (no_front dialects types_at attr recorder following true [] v.rest names id lead middle e [] d.cause (length middle - length d.upto)
        (front_misses dialects types_at attr recorder (setting true false) splits (front_steps (steps_in dialects id)) [] middle [] d.cause d.upto d.bad)))
        (acts_none before old.state (pledges_of in_region)) (subst (λ t. IsTextFault t d.cause (length middle - length d.upto) fault) same d.fault_is)
    no_operation_begins (read.no_uses rest q f) = by_names f.failure (subst (λ t. IsFailure t f.failure fault) same f.is)
        (failing (at_block kb ∷ in_region) (Some (an_operation (begun_by types_at attr true (with_stream old v) rest q))) following (did_use (length v.rest) q.id q.parts ∷ []) rest f.failure
        (goes_trans (one_comes types_at attr base before old k kb r iso place last more v kb.first follows_on at)
        (operation_begins dialects types_at attr recorder following true [] v.rest q.names q.id q.lead q.middle q.led q.parts rest
        (front_reads dialects types_at attr recorder (setting true false) splits (front_steps (steps_in dialects q.id)) [] q.parts q.middle q.taken rest [] q.front)))
        (λ path items others o st. f.so path items (others ++ pledges_of in_region) o (subst (λ ps. MachineAgrees path items ps before old.state o) (sym (append-nil (others ++ pledges_of in_region))) st)))

  -- ---- an operation
  module _ (b : BegunOperation) (o : OpenOperation T A) (own : OwnSoFar T A) (more : List (Level T A)) where
    abbrev at_it : List (Level T A)
    at_it = at_operation b o own ∷ more

    abbrev outside : List (Open T A)
    outside = outward (map open_of more)

    -- besides the operations that are open
    alone : {act : (ℕ → Path) → Machine → Machine} (text : Text) (f : ActFails text act before old.state [] fault) (path : ℕ → Path) (items : Made) (others : List Pledge) (z : Machine) → MachineAgrees path items (others ++ pledges_of at_it) before old.state z → act path z ≡ failed f.failure
    alone text f path items others z st = f.so path items (others ++ pledges_of at_it) z (subst (λ ps. MachineAgrees path items ps before old.state z) (sym (append-nil (others ++ pledges_of at_it))) st)

    -- besides those further out
    with_it : {act : (ℕ → Path) → Machine → Machine} (text : Text) (f : ActFails text act before old.state (pledge_of b o.place ∷ []) fault) (path : ℕ → Path) (items : Made) (others : List Pledge) (z : Machine)
        → MachineAgrees path items (others ++ pledges_of at_it) before old.state z → act path z ≡ failed f.failure
    with_it text f path items others z st = fails_besides (pledges_of more) f path items others z st

    -- a piece
    pub no_piece_comes : (step : Step) (ss : List Step) → o.steps ≡ step ∷ ss → is_flat step ≡ true → UnlessMemory (RefusesPiece types_at attr o step before old) fault → NoTurn at_it
    no_piece_comes step ss e f (inl ran_out) = inl ran_out
    no_piece_comes step ss e f (inr (inl d)) = inr (at_text [] [] before old.state (pledges_of at_it) d.cause (length old.stream.rest - length d.upto)
        (no_piece dialects types_at attr recorder o outside [] old.stream.rest step ss e f d.cause d.upto d.bad) (acts_none before old.state (pledges_of at_it)) d.fault_is)
    no_piece_comes step ss e f (inr (inr (p, taken, rest, h, fails))) = inr (by_names fails.failure fails.is
        (failing at_it _ _ (did_late o.place o.id p ∷ []) rest fails.failure (piece_reads dialects types_at attr recorder o outside [] old.stream.rest step ss e f p taken rest h) (alone (whole old.stream) fails)))

    -- its end
    pub no_end_comes : o.steps ≡ [] → UnlessMemory (RefusesEnd types_at attr o b before old) fault → NoTurn at_it
    no_end_comes e (inl ran_out) = inl ran_out
    no_end_comes e (inr (read.no_results f)) = inr (by_names f.failure f.is (λ path items others z st.
        let at : (does path).closes o.place o.names o.id o.parts z ≡ failed f.failure = with_it (whole old.stream) f path items others z st in
        failed_at (failed_keeps {T = T} {A = A} (format_of dialects) path f.failure) (operation_closes dialects types_at attr (does path) o outside z old.stream.rest e (failed f.failure) at ((failed_keeps {T = T} {A = A} (format_of dialects) path f.failure).closes o.place o.names o.id o.parts))))
    no_end_comes e (inr (read.no_mark names mid acts d)) = inr (at_text (did_close o.place o.names o.id o.parts ∷ []) [] names mid.state (pledges_of more) d.cause (length old.stream.rest - length d.upto)
        (no_end dialects types_at attr recorder o outside [] old.stream.rest e d.cause d.upto d.bad)
        (acts_close [] (closes_of types_at attr o old) before names old.state mid.state (pledges_of more) (pledge_of b o.place) acts) d.fault_is)
    no_end_comes e (inr (read.same_mark mark taken rest h f)) = inr (by_names f.failure f.is
        (failing at_it _ _ (did_mark mark ∷ did_close o.place o.names o.id o.parts ∷ []) rest f.failure
        (operation_ends dialects types_at attr recorder o outside [] old.stream.rest e mark taken rest (next_of more) (waiting more) h (theory_pops more)) (with_it (whole old.stream) f)))

    -- a region
    module _ (v : StreamView) (at : v.rest ≡ after_space old.stream.rest) (same : whole v ≡ whole old.stream) (iso : Bool) (is : iso ≡ isolated dialects o.id) where
      entering : (f : ActFails (whole v) (λ path. (does path).enters iso) before old.state [] fault) (path : ℕ → Path) (items : Made) (others : List Pledge) (z : Machine) → MachineAgrees path items (others ++ pledges_of at_it) before old.state z
          → (does path).enters (isolated dialects o.id) z ≡ failed f.failure
      entering f path items others z st = subst (λ i. (does path).enters i z ≡ failed f.failure) is (alone (whole v) f path items others z st)

      pub no_region_begins : (i : ℕ) (ss : List Step) → Unbounded dialects types_at attr recorder → ((path : ℕ → Path) → Unbounded dialects types_at attr (does path)) → o.steps ≡ one i ∷ ss
          → UnlessMemory (RefusesRegion types_at attr iso before (with_stream old v)) fault → NoTurn at_it
      no_region_begins i ss k ks e (inl ran_out) = inl ran_out
      no_region_begins i ss k ks e (inr (read.not_isolated f)) = inr (by_names f.failure (subst (λ t. IsFailure t f.failure fault) same f.is) (λ path items others z st.
          failed_at (failed_keeps {T = T} {A = A} (format_of dialects) path f.failure) (region_enters dialects types_at attr (does path) (ks path) o outside z old.stream.rest i ss e (failed f.failure) (entering f path items others z st) ((failed_keeps {T = T} {A = A} (format_of dialects) path f.failure).enters (isolated dialects o.id)))))
      no_region_begins i ss k ks e (inr (read.no_brace names mid acts d)) = inr (at_text (did_enter (isolated dialects o.id) ∷ []) [] names mid.state (pledges_of at_it) d.cause (length v.rest - length d.upto)
          (subst (λ t. StoppedAt dialects types_at attr recorder (Some (an_operation o)) outside [] old.stream.rest (did_enter (isolated dialects o.id) ∷ []) d.cause (length t - length d.upto)) (sym at)
          (no_region dialects types_at attr recorder k o outside [] old.stream.rest i ss e d.cause d.upto (subst (λ t. demanded ((word (codes "{") ▷ space_at) t) ≡ Bad d.cause d.upto) at d.bad)))
          (subst (λ j. Acts (λ path. (does path).enters j) before old.state (pledges_of at_it) names mid.state (pledges_of at_it)) is
          (acts_within [] (λ path. (does path).enters iso) before names old.state mid.state (pledges_of at_it) (record { so = λ path items others z st. acts.so path items others z st })))
          (subst (λ t. IsTextFault t d.cause (length v.rest - length d.upto) fault) same d.fault_is))

      -- a brace follows
      brace_read : (u : Text) → begins_region u ≡ true → (cause : Fault) (upto : Text) → demanded ((word (codes "{") ▷ space_at) u) ≡ Bad cause upto → ⊥
      brace_read u b cause upto e =
          let s = begins_the 123 u b in
          let g : demanded ((word (codes "{") ▷ space_at) (123 ∷ s.0)) ≡ Bad cause upto = subst (λ t. demanded ((word (codes "{") ▷ space_at) t) ≡ Bad cause upto) s.1 e in
          cc g

      pub no_other_begins : (ss : List Step) → ((path : ℕ → Path) → Unbounded dialects types_at attr (does path)) → o.steps ≡ all ∷ ss → begins_region (after_space old.stream.rest) ≡ true
          → UnlessMemory (RefusesRegion types_at attr iso before (with_stream old v)) fault → NoTurn at_it
      no_other_begins ss ks e follows_on (inl ran_out) = inl ran_out
      no_other_begins ss ks e follows_on (inr (read.not_isolated f)) = inr (by_names f.failure (subst (λ t. IsFailure t f.failure fault) same f.is) (λ path items others z st.
          failed_at (failed_keeps {T = T} {A = A} (format_of dialects) path f.failure) (another_enters dialects types_at attr (does path) (ks path) o outside z old.stream.rest ss e follows_on (failed f.failure) (entering f path items others z st) ((failed_keeps {T = T} {A = A} (format_of dialects) path f.failure).enters (isolated dialects o.id)))))
      no_other_begins ss ks e follows_on (inr (read.no_brace names mid acts d)) = absurd (brace_read (after_space old.stream.rest) follows_on d.cause d.upto (subst (λ t. demanded ((word (codes "{") ▷ space_at) t) ≡ Bad d.cause d.upto) at d.bad))

  -- ---- a region
  module _ (k : Unbounded dialects types_at attr recorder) (r : BegunRegion) (iso : Bool) (place : ℕ) (last : Option (Ptr BasicBlock)) (more : List (Level T A)) (v : StreamView) (at : v.rest ≡ after_space old.stream.rest) (same : whole v ≡ whole old.stream) where
    abbrev at_region_here : List (Level T A)
    at_region_here = at_region r iso place last ∷ more

    beside : {act : (ℕ → Path) → Machine → Machine} (f : ActFails (whole v) act before old.state [] fault) (path : ℕ → Path) (items : Made) (others : List Pledge) (z : Machine) → MachineAgrees path items (others ++ pledges_of more) before old.state z → act path z ≡ failed f.failure
    beside f path items others z st = f.so path items (others ++ pledges_of more) z (subst (λ ps. MachineAgrees path items ps before old.state z) (sym (append-nil (others ++ pledges_of more))) st)

    pub no_block_begins : begins_block (after_space old.stream.rest) ≡ true → UnlessMemory (RefusesBlock types_at attr before (with_stream old v)) fault → NoTurn at_region_here
    no_block_begins follows_on (inl ran_out) = inl ran_out
    no_block_begins follows_on (inr (inl d)) = inr (at_text [] [] before old.state (pledges_of more) d.cause (length v.rest - length d.upto)
        (subst (λ t. StoppedAt dialects types_at attr recorder (Some (a_region iso place)) (outward (map open_of more)) [] old.stream.rest [] d.cause (length t - length d.upto)) (sym at)
        (no_block dialects types_at attr recorder k iso place (outward (map open_of more)) [] old.stream.rest follows_on d.cause d.upto (subst (λ t. demanded (head_at types_at attr t) ≡ Bad d.cause d.upto) at d.bad)))
        (acts_none before old.state (pledges_of more)) (subst (λ t. IsTextFault t d.cause (length v.rest - length d.upto) fault) same d.fault_is))
    no_block_begins follows_on (inr (inr (h, taken, rest, e, f))) = inr (by_names f.failure (subst (λ t. IsFailure t f.failure fault) same f.is)
        (failing at_region_here _ _ (did_head h ∷ []) rest f.failure
        (block_begins dialects types_at attr recorder k iso place (outward (map open_of more)) [] old.stream.rest follows_on h taken rest (ap (head_at types_at attr) (sym at) ∙ e)) (beside f)))

    pub no_brace_comes : begins_block (after_space old.stream.rest) ≡ false → UnlessMemory (RefusesRegionEnd types_at attr iso place before (with_stream old v)) fault → NoTurn at_region_here
    no_brace_comes none (inl ran_out) = inl ran_out
    no_brace_comes none (inr (inl d)) = inr (at_text [] [] before old.state (pledges_of more) d.cause (length v.rest - length d.upto)
        (subst (λ t. StoppedAt dialects types_at attr recorder (Some (a_region iso place)) (outward (map open_of more)) [] old.stream.rest [] d.cause (length t - length d.upto)) (sym at)
        (no_brace dialects types_at attr recorder k iso place (outward (map open_of more)) [] old.stream.rest none d.cause d.upto (subst (λ t. demanded (word (codes "}") t) ≡ Bad d.cause d.upto) at d.bad)))
        (acts_none before old.state (pledges_of more)) (subst (λ t. IsTextFault t d.cause (length v.rest - length d.upto) fault) same d.fault_is))
    no_brace_comes none (inr (inr (taken, rest, e, f))) = inr (by_names f.failure (subst (λ t. IsFailure t f.failure fault) same f.is)
        (failing at_region_here _ _ (did_leave iso place ∷ []) rest f.failure
        (region_ends dialects types_at attr recorder k iso place (outward (map open_of more)) [] old.stream.rest none tt taken rest (next_of more) (waiting more) (ap (word (codes "}")) (sym at) ∙ e) (theory_pops more)) (beside f)))
