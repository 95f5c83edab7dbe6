-- Between functions: what a step of the loop does, and how it fails. Steps compose.
use Rattle.std.specs.Prelude.{◌≡◌, ◌≤◌, ◌<◌, ℕ, true, false, List, [], ◌++◌, length, option_to_list, Option, Some, None, Result, IfOk, IfErr, OnErr}
use Rattle.irtext_base.specs.Text.{Text}
use Rattle.irtext_base.specs.Faults.{Fault}
use Rattle.irtext_base.specs.Locations.{AttrView}
use Rattle.irtext_base.specs.declared.parsable.fault.ParseFault.{ParseFault}
use Rattle.irtext_base.specs.declared.location.Source.{Source}
use Rattle.irtext_context.specs.Context.{ContextView, RegionView, region, KeepsOlder}
use Rattle.irtext_context.specs.Dialects.{Table}
use Rattle.irtext_context.specs.declared.base.item.Item.{Item}
use Rattle.irtext_graph.specs.Back.{IsClosedBelow}
use Rattle.irtext_graph.specs.declared.arena.Ptr.{Ptr}
use Rattle.irtext_graph.specs.declared.object.Region.{Region}
use Rattle.irtext_tokens.specs.Infix.{Reader}
use Rattle.irtext_parse_state.specs.States.{KeepsRest, marks_of}
use Rattle.irtext_parse_state.specs.declared.parsable.state.State as code
use Rattle.irtext_parse_state.specs.declared.parsable.state.StateStream.{StateStream}
use Rattle.irtext_grammar.specs.Contexts.Formats.{format_of}
use Rattle.irtext_grammar.specs.Contexts.Held.{whole}
use Rattle.irtext_grammar.specs.Names.History.{Outcome, failed}
use Rattle.irtext_grammar.specs.Names.Script.{Path}
use Rattle.irtext_grammar.specs.Names.TextScopes.{Failure}
use Rattle.irtext_scopes.specs.Names.{KeepsNames}
use Rattle.irtext_grammar.specs.Promises.Root.{UnlessMemory}
use Rattle.irtext_grammar.specs.Promises.Section.{Moves}
use Rattle.irtext_grammar.specs.Resume as theory
use Rattle.irtext_grammar.specs.Resume.{Goes, StoppedAt, EndsIn}
use Rattle.irtext_parse_nested.specs.Ends.{GainsMarks}
use Rattle.irtext_names.specs.Items.{Names, Pledge, MachineAgrees, IsFailure, IsTextFault, IsSound, KeepsLive, Made, ActsWith, doing}
use Rattle.irtext_names.specs.Located.{IsLocated}
use Rattle.irtext_parse_root.specs.declared.frames.Frame.{Frame}
use Rattle.irtext_parse_root.specs.Built.{Built}
use Rattle.irtext_parse_root.specs.Carried.{Falls}
use Rattle.irtext_parse_root.specs.Here.{AreHere, Base, IsHere}
use Rattle.irtext_parse_root.specs.Levels.{Level, next_of, waiting, pledges_of, left_to_do, AreAllNew}
use Rattle.irtext_parse_root.specs.Recorded.{Did, recorder, all_done}

-- ---- names, stream and context after a step
-- each region that was live is live, and has the same parent
pub record RegionsStay {T A : Type 0} (old new : ContextView T A) : Type 0 where
  pub stay : (r : Ptr Region) (view : RegionView) → region old r ≡ Some view → (now : RegionView) × (region new r ≡ Some now) × (now.parent ≡ view.parent)

module _ {T A U : Type 0} where
  -- After a step, the source and the caller's data are unchanged, the known names keep their numbers, and what is open is still live.
  -- Some of the text was consumed, and marks may have been recorded.
  pub record Carries (before : Names) (old : StateStream T A U) (names : Names) (new : StateStream T A U) : Type 0 where
    pub rest : KeepsRest old.state new.state
    pub moves : Moves old.stream new.stream
    pub keeps : KeepsNames before.names names.names
    pub lasts : KeepsLive old.state.ctx.now new.state.ctx.now
    pub sound : (m : ℕ) → m ≤ old.state.ctx.now.graph.made → IsSound m before old.state → IsSound m names new.state
    pub gains : GainsMarks (marks_of old.state) (marks_of new.state)

  -- after a failed step, the source and the caller's data are unchanged, and the recorded marks are kept
  pub record Remains (old new : code.State T A U) : Type 0 where
    pub rest : KeepsRest old new
    pub gains : GainsMarks (marks_of old) (marks_of new)

  -- the names, the labels and what waits for them are sound since some count of created objects
  pub record IsSoundOnce (names : Names) (s : code.State T A U) : Type 0 where
    pub since : ℕ
    pub past : since ≤ s.ctx.now.graph.made
    pub sound : IsSound since names s

  -- objects that are older than any count since which the names are sound are unchanged
  abbrev pub KeepsEarlier : Names → code.State T A U → ContextView T A → Type 0
  KeepsEarlier names old new = (m : ℕ) → m ≤ old.ctx.now.graph.made → IsClosedBelow m old.ctx.now.graph → IsSound m names old → KeepsOlder m old.ctx.now new

  -- a parser can begin: the stream has not failed, and the names are sound
  pub record IsSteady (names : Names) (s : StateStream T A U) : Type 0 where
    pub fine : s.stream.failed ≡ false
    pub sound : IsSoundOnce names s.state

  -- a step can be made: the stream has not failed, the names are sound, and this is the innermost of the open frames and these are the others
  pub record AreReady (frame : Frame) (waits : List Frame) (names : Names) (s : StateStream T A U) : Type 0 where
    pub steady : IsSteady names s
    pub here : AreHere T A (whole s.stream) s.state.ctx.now names (Some frame) waits

  -- What an action, a step or the loop leaves: on an error the recorded marks are kept, the known names keep their numbers, and objects
  -- that are older than some count are unchanged if what is open was created since.
  pub record Spares {X : Type 0} (IsOpenSince : ℕ → Type 0) (before : Names) (old : code.State T A U) (result : Result X (ParseFault A)) (after : Names) (new : code.State T A U) : Type 0 where
    pub remains : OnErr result (Remains old new)
    pub names : KeepsNames before.names after.names
    pub kept : (m : ℕ) → m ≤ old.ctx.now.graph.made → IsClosedBelow m old.ctx.now.graph → IsSound m before old → IsOpenSince m → KeepsOlder m old.ctx.now new.ctx.now

module _ {T A U : Type 0} (types_at : Reader T) (attr : Reader (AttrView A)) (dialects : List (Text × Table)) (source : Source) (text : Text) (base : Base) where
  -- The first list of open frames became the second by these actions, and the names, the context and the marks agree with the result of
  -- the actions.
  pub record Turned (ls : List (Level T A)) (before : Names) (old : StateStream T A U) (later : List (Level T A)) (names : Names) (new : StateStream T A U) : Type 0 where
    pub did : List (Did T A)
    pub made : Made
    pub goes : Goes dialects types_at attr recorder (next_of ls) (waiting ls) [] old.stream.rest (next_of later) (waiting later) did new.stream.rest
    pub acts : ActsWith made (λ path. all_done (doing dialects path) did) before old.state (pledges_of ls) names new.state (pledges_of later)
    pub stays : RegionsStay old.state.ctx.now new.state.ctx.now
    pub falls : Falls (length old.stream.rest) made (length new.stream.rest)
    pub marks : List (ℕ × Item)
    pub noted : marks_of new.state ≡ marks_of old.state ++ marks
    pub builds : (start : ContextView T A) (items : Made) (more : List (ℕ × Item)) (ds : List (Did T A)) → Built (format_of dialects) (IsLocated source text) base start old.state.ctx.now items more ls ds
        → Built (format_of dialects) (IsLocated source text) base start new.state.ctx.now (made ++ items) (more ++ marks) later (did ++ ds)

-- The step fails. Either the text is at fault, and the actions before the fault were done; or an action fails, whatever follows in the
-- text.
pub data Faulted {T A U : Type 0} (types_at : Reader T) (attr : Reader (AttrView A)) (dialects : List (Text × Table)) (ls : List (Level T A)) (before : Names) (old : StateStream T A U) (fault : ParseFault A) : Type 0 where
  at_text : (did : List (Did T A)) (made : Made) (names : Names) (mid : code.State T A U) (still : List Pledge) (cause : Fault) (place : ℕ)
      → StoppedAt dialects types_at attr recorder (next_of ls) (waiting ls) [] old.stream.rest did cause place
      → ActsWith made (λ path. all_done (doing dialects path) did) before old.state (pledges_of ls) names mid still
      → IsTextFault (whole old.stream) cause place fault → Faulted types_at attr dialects ls before old fault
  by_names : (failure : Failure) → IsFailure (whole old.stream) failure fault
      → ((path : ℕ → Path) (items : Made) (more : List Pledge) (o : Outcome) → MachineAgrees path items (more ++ pledges_of ls) before old.state o
      → EndsIn (failed failure) (theory.whole dialects types_at attr (doing dialects path) (next_of ls) (waiting ls) o old.stream.rest)) → Faulted types_at attr dialects ls before old fault

-- the last of the waiting frames was removed, if there was one
pub record TakesLast (old : List Frame) (next : Option Frame) (new : List Frame) : Type 0 where
  pub frames : old ≡ new ++ option_to_list next
  pub none : next ≡ None → length old ≡ 0

module _ {T A U : Type 0} (types_at : Reader T) (attr : Reader (AttrView A)) where
  -- the open frames afterwards, and how they came about
  pub record Arrives (base : Base) (v l : ℕ) (ls : List (Level T A)) (before : Names) (old : StateStream T A U) (names : Names) (new : StateStream T A U) (next : Option Frame) (frames : List Frame) : Type 0 where
    pub later : List (Level T A)
    pub here : IsHere base v l later names (whole old.stream) new.state.ctx.now next frames
    pub turned : Turned types_at attr old.state.ctx.now.dialects old.state.src (whole old.stream) base ls before old later names new

  -- A step was made: whenever the frames were the open ones, the new frames are the open ones now; and less work is left.
  pub record Proceeds (frame : Frame) (waits : List Frame) (before : Names) (old : StateStream T A U) (names : Names) (new : StateStream T A U) (next : Option Frame) (frames : List Frame) : Type 0 where
    pub carries : Carries before old names new
    pub arrives : (base : Base) (v l : ℕ) (ls : List (Level T A)) → IsHere base v l ls before (whole old.stream) old.state.ctx.now (Some frame) waits
        → Arrives base v l ls before old names new next frames
    pub fresh : (m : ℕ) → m ≤ old.state.ctx.now.graph.made → AreAllNew m old.state.ctx.now.graph (Some frame) waits → AreAllNew m new.state.ctx.now.graph next frames
    pub less : left_to_do T A old.state.ctx.now.dialects next frames new.stream.rest < left_to_do T A old.state.ctx.now.dialects (Some frame) waits old.stream.rest

  -- A step failed: the fault is committed, and whenever the frames were the open ones, an allocation failed, or the fault is that of the
  -- text or of an action.
  pub record Stops (frame : Frame) (waits : List Frame) (before : Names) (old : StateStream T A U) (fault : ParseFault A) : Type 0 where
    pub committed : fault.committed ≡ true
    pub stops : (base : Base) (v l : ℕ) (ls : List (Level T A)) → IsHere base v l ls before (whole old.stream) old.state.ctx.now (Some frame) waits
        → UnlessMemory (Faulted types_at attr old.state.ctx.now.dialects ls before old) fault

  -- a step: it was made or failed, and this is what it leaves
  pub record Steps (frame : Frame) (waits : List Frame) (before : Names) (old : StateStream T A U) (result : Result (Option Frame) (ParseFault A)) (names : Names) (new : StateStream T A U) (frames : List Frame) : Type 0 where
    pub proceeds : IfOk result (λ next. Proceeds frame waits before old names new next frames)
    pub stops : IfErr result (Stops frame waits before old)
    pub spares : Spares (λ m. AreAllNew m old.state.ctx.now.graph (Some frame) waits) before old.state result names new.state

  -- The rest of a frame was parsed, in which no other frame was open: whenever it was the open frame, no frame is open any more.
  pub record Finishes (frame : Frame) (before : Names) (old : StateStream T A U) (names : Names) (new : StateStream T A U) : Type 0 where
    pub carries : Carries before old names new
    pub arrives : (base : Base) (v l : ℕ) (ls : List (Level T A)) → IsHere base v l ls before (whole old.stream) old.state.ctx.now (Some frame) []
        → (length names.values ≡ v) × (length names.labels ≡ l) × Turned types_at attr old.state.ctx.now.dialects old.state.src (whole old.stream) base ls before old [] names new
