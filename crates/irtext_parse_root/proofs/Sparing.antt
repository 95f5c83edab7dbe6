-- What actions, steps and the loop leave, and that it is kept from one to the next.
use Rattle.std.proofs.Common.{◌≡◌, ◌≤◌, ◌∙◌, ℕ, false, List, [], Option, Some, Result, Ok, Err, arith, ap, inl}
use Rattle.std.specs.Prelude.{OnErr}
use Rattle.irtext_base.specs.Answers.{RunsOutHere}
use Rattle.irtext_base.specs.Locations.{AttrView}
use Rattle.irtext_base.specs.Stream.{StreamView}
use Rattle.irtext_base.specs.declared.parsable.fault.ParseFault.{ParseFault}
use Rattle.irtext_context.proofs.Kept.{kept_closed, kept_trans}
use Rattle.irtext_context.specs.Context.{with_graph, KeepsOlder}
use Rattle.irtext_graph.specs.Back.{IsClosedBelow}
use Rattle.irtext_graph.specs.Graph.{MakesRegion}
use Rattle.irtext_tokens.specs.Infix.{Reader}
use Rattle.irtext_parse_state.specs.declared.parsable.state.State as code
use Rattle.irtext_parse_state.specs.declared.parsable.state.StateStream.{StateStream}
use Rattle.irtext_grammar.specs.Promises.Section.{Moves}
use Rattle.irtext_grammar.specs.Readers.Streams.{itself, replaced}
use Rattle.irtext_parse_section.proofs.SectionSteps.{ran_out_there}
use Rattle.irtext_parse_nested.proofs.Marking.{on_err}
use Rattle.irtext_names.specs.Items.{Names, IsSound}
use Rattle.irtext_parse_nested.specs.declared.frame.BegunRegion.{BegunRegion}
use Rattle.irtext_parse_root.proofs.Chains.{remains_on, remains_so}
use Rattle.irtext_parse_root.proofs.Looping.{keeps_itself}
use Rattle.irtext_parse_nested.proofs.Unplaced.{alone_new}
use Rattle.irtext_parse_root.specs.declared.frames.Frame.{Frame}
use Rattle.irtext_parse_root.specs.declared.frames.Frame.TheVariants as framed
use Rattle.irtext_parse_root.specs.Levels.{AreAllNew, IsNewFrame}
use Rattle.irtext_parse_root.specs.Turned.{Carries, IsSoundOnce, Proceeds, Remains, Spares, Steps, Stops}

-- ---- before
-- a stream that has moved on has not failed
pub fine_after : {old new : StreamView} → old.failed ≡ false → Moves old new → new.failed ≡ false
fine_after fine moves = ap (λ v. v.failed) moves.takes.is ∙ fine

-- names that are sound are so after some actions
pub sound_after : {T A U : Type 0} {before names : Names} {old new : StateStream T A U} → IsSoundOnce before old.state → Carries before old names new → IsSoundOnce names new.state
sound_after sound carries =
    let past = sound.past in
    let later = carries.lasts.made in
    record { since = sound.since; past = omega (arith, past, later); sound = carries.sound sound.since sound.past sound.sound }

-- ---- afterwards
-- no action leaves all
pub spares_all : {T A U X : Type 0} {P : ℕ → Type 0} {x : X} (names : Names) (s : code.State T A U) → Spares {A = A} P names s (Ok x) names s
spares_all names s = record { remains = tt; names = λ i text e. e; kept = λ m le closed sound all. keeps_itself m s.ctx.now }

-- what one result leaves another does, if what is open is among what was open
pub spares_as : {T A U X Y : Type 0} {P Q : ℕ → Type 0} {before after : Names} {old new : code.State T A U} {result : Result X (ParseFault A)} (answer : Result Y (ParseFault A)) → ((m : ℕ) → Q m → P m) → OnErr answer (Remains old new)
    → Spares P before old result after new → Spares Q before old answer after new
spares_as answer among remains spares = record { remains = remains; names = spares.names; kept = λ m le closed sound q. spares.kept m le closed sound (among m q) }

-- one after the other
pub spares_then : {T A U X Y Z : Type 0} {P Q R : ℕ → Type 0} {before names after : Names} (old mid : StateStream T A U) {new : code.State T A U} {x : X} {result : Result Y (ParseFault A)} (answer : Result Z (ParseFault A)) → Carries before old names mid
    → ((m : ℕ) → Q m → P m) → ((m : ℕ) → m ≤ old.state.ctx.now.graph.made → Q m → R m) → OnErr answer (Remains mid.state new) → Spares P before old.state (Ok x) names mid.state → Spares R names mid.state result after new
    → Spares Q before old.state answer after new
spares_then old mid answer carries among next remains first second = record {
  remains = on_err answer (λ r. remains_on carries r) remains;
  names = λ i text e. second.names i text (first.names i text e);
  kept = λ m le closed sound q.
      let k = first.kept m le closed sound (among m q) in
      let up = carries.lasts.made in
      kept_trans k (second.kept m (omega (arith, le, up)) (kept_closed closed k) (carries.sound m le sound) (next m le q));
}

-- ---- steps
-- the spared objects are older than the frame
module _ {T A U X : Type 0} {types_at : Reader T} {attr : Reader (AttrView A)} {f : Frame} {waits frames : List Frame} {before names : Names} {old new : StateStream T A U} where
  -- a step was made
  pub step_made : {x : X} {next : Option Frame} → Proceeds types_at attr f waits before old names new next frames → Spares (λ m. IsNewFrame m old.state.ctx.now.graph f) before old.state (Ok x) names new.state → Steps types_at attr f waits before old (Ok next) names new frames
  step_made proceeds spares = record { proceeds = proceeds; stops = tt; spares = spares_as _ (λ m all. all.0) tt spares }

  -- its action failed
  pub step_failed : {fault : ParseFault A} → Stops types_at attr f waits before old fault → Spares {X = X} (λ m. IsNewFrame m old.state.ctx.now.graph f) before old.state (Err fault) names new.state → Steps types_at attr f waits before old (Err fault) names new frames
  step_failed stops spares = record { proceeds = tt; stops = stops; spares = spares_as _ (λ m all. all.0) spares.remains spares }

  -- there was no memory for the frame to wait
  pub step_ran_out : {x : X} {mid end : StreamView} {fault : ParseFault A} → RunsOutHere itself replaced mid fault end → Carries before old names new → Spares (λ m. IsNewFrame m old.state.ctx.now.graph f) before old.state (Ok x) names new.state → Steps types_at attr f waits before old (Err fault) names (record { stream = end; state = new.state }) frames
  step_ran_out runs_out carries spares =
      let ran_out = ran_out_there runs_out in
      record { proceeds = tt; stops = record { committed = ran_out.flag; stops = λ base v l ls here. inl ran_out }; spares = spares_as _ (λ m all. all.0) (remains_so carries) spares }

-- a step that consumes white space alone
pub step_passed : {T A U : Type 0} {types_at : Reader T} {attr : Reader (AttrView A)} {f : Frame} {waits frames : List Frame} {names : Names} {old : StateStream T A U} {v : StreamView} {next : Option Frame}
    → Proceeds types_at attr f waits names old names (record { stream = v; state = old.state }) next frames → Steps types_at attr f waits names old (Ok next) names (record { stream = v; state = old.state }) frames
step_passed {names = names} {old = old} proceeds = record { proceeds = proceeds; stops = tt; spares = spares_all names old.state }

-- ---- a region alone
-- what is older than some count stays while the text of a region is parsed that was created without a parent
pub alone_kept : {T A U X : Type 0} {before names after : Names} (old mid : StateStream T A U) {new : code.State T A U} {result : Result X (ParseFault A)} (begun : BegunRegion) → MakesRegion old.state.ctx.now.graph mid.state.ctx.now.graph begun.region
    → mid.state.ctx.now ≡ with_graph old.state.ctx.now mid.state.ctx.now.graph → ((m : ℕ) → m ≤ old.state.ctx.now.graph.made → KeepsOlder m old.state.ctx.now mid.state.ctx.now)
    → ((m : ℕ) → m ≤ old.state.ctx.now.graph.made → IsSound m before old.state → IsSound m names mid.state) → Spares (λ m. AreAllNew m mid.state.ctx.now.graph (Some (framed.Region begun)) []) names mid.state result after new
    → (m : ℕ) → m ≤ old.state.ctx.now.graph.made → IsClosedBelow m old.state.ctx.now.graph → IsSound m before old.state → KeepsOlder m old.state.ctx.now new.ctx.now
alone_kept old mid begun makes with_it kept sounds spares m le closed sound =
    let k = kept m le in
    let more = makes.made in
    kept_trans k (spares.kept m (omega (arith, le, more)) (kept_closed closed k) (sounds m le sound) (alone_new old.state.ctx.now mid.state.ctx.now begun.region makes with_it m le, tt))
