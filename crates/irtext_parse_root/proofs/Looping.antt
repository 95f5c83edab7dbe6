-- The loop: turns are put one after another, until no frame is open; or a fault follows them.
use Rattle.std.proofs.Common.{◌≡◌, ◌<◌, ℕ, List, [], ◌∷◌, length, Option, Some, None, refl, sym, subst, arith, le_refl}
use Rattle.irtext_base.specs.Locations.{AttrView}
use Rattle.irtext_base.specs.declared.parsable.fault.ParseFault.{ParseFault}
use Rattle.irtext_context.specs.Context.{ContextView, KeepsOlder}
use Rattle.irtext_graph.specs.Graph.{GraphView}
use Rattle.irtext_tokens.specs.Infix.{Reader}
use Rattle.irtext_parse_state.specs.declared.parsable.state.StateStream.{StateStream}
use Rattle.irtext_grammar.specs.Contexts.Held.{whole}
use Rattle.irtext_grammar.specs.Promises.Root.{UnlessMemory}
use Rattle.irtext_names.specs.Items.{Names}
use Rattle.irtext_parse_root.specs.declared.frames.Frame.{Frame}
use Rattle.irtext_parse_root.specs.Here.{Base, IsHere, AreHere}
use Rattle.irtext_parse_root.specs.Levels.{Level, at_operation, at_region, at_block, first_frame, left_to_do, AreNewFrames}
use Rattle.irtext_parse_root.specs.Turned.{Carries, Turned, Faulted, Arrives, Proceeds, Stops}
use Rattle.irtext_parse_root.proofs.Chains.{moved_whole, turned_none, turned_both, turned_over, faulted_after, faulted_over}
use Rattle.irtext_graph.proofs.Once.{gives_itself}

-- nothing is open
none_open : {T A : Type 0} (ls : List (Level T A)) → None ≡ first_frame ls → ls ≡ []
none_open [] e = refl
none_open (at_operation b o own ∷ ls) e = absurd (cc e)
none_open (at_region r iso place last ∷ ls) e = absurd (cc e)
none_open (at_block kb ∷ ls) e = absurd (cc e)

module _ {T A U : Type 0} (types_at : Reader T) (attr : Reader (AttrView A)) (n0 : Names) (s0 : StateStream T A U) where
  -- where nothing was done, what was open is
  pub arrives_first : (base : Base) (v k : ℕ) (ls : List (Level T A)) (first : Frame) (frames : List Frame) → frames ≡ [] → IsHere base v k ls n0 (whole s0.stream) s0.state.ctx.now (Some first) []
      → Arrives types_at attr base v k ls n0 s0 n0 s0 (Some first) frames
  arrives_first base v k ls first frames e here = record {
    later = ls;
    here = subst (λ fs. IsHere base v k ls n0 (whole s0.stream) s0.state.ctx.now (Some first) fs) (sym e) here;
    turned = turned_none ls n0 s0;
  }

  module _ (n1 : Names) (s1 : StateStream T A U) (carries : Carries n0 s0 n1 s1) where
    same : whole s1.stream ≡ whole s0.stream
    same = moved_whole s0.stream s1.stream carries.moves

    module _ (base : Base) (v k : ℕ) (ls : List (Level T A)) (next : Option Frame) (waits : List Frame) (a : Arrives types_at attr base v k ls n0 s0 n1 s1 next waits) where
      -- the frames are those that are open now
      here_now : IsHere base v k a.later n1 (whole s1.stream) s1.state.ctx.now next waits
      here_now = subst (λ t. IsHere base v k a.later n1 t s1.state.ctx.now next waits) (sym same) a.here

      pub are_here : AreHere T A (whole s1.stream) s1.state.ctx.now n1 next waits
      are_here = record { base = base; v = v; l = k; ls = a.later; here = here_now }

    module _ (frame : Frame) (waits : List Frame) where
      -- one turn more
      pub arrives_on : (n2 : Names) (s2 : StateStream T A U) (next : Option Frame) (frames : List Frame) (base : Base) (v k : ℕ) (ls : List (Level T A)) → Proceeds types_at attr frame waits n1 s1 n2 s2 next frames
          → Arrives types_at attr base v k ls n0 s0 n1 s1 (Some frame) waits → Arrives types_at attr base v k ls n0 s0 n2 s2 next frames
      arrives_on n2 s2 next frames base v k ls p a =
          let b = p.arrives base v k a.later (here_now base v k ls (Some frame) waits a) in
          record {
            later = b.later;
            here = subst (λ t. IsHere base v k b.later n2 t s2.state.ctx.now next frames) same b.here;
            turned = turned_both a.turned (turned_over s1.state.ctx.now.dialects s0.state.ctx.now.dialects s1.state.src s0.state.src (whole s1.stream) (whole s0.stream) carries.lasts.dialects carries.rest.src same b.turned);
          }

      -- there is none
      pub stops_on : (fault : ParseFault A) (base : Base) (v k : ℕ) (ls : List (Level T A)) → Stops types_at attr frame waits n1 s1 fault → Arrives types_at attr base v k ls n0 s0 n1 s1 (Some frame) waits
          → UnlessMemory (Faulted types_at attr s0.state.ctx.now.dialects ls n0 s0) fault
      stops_on fault base v k ls st a =
          faulted_after a.turned same (faulted_over s1.state.ctx.now.dialects s0.state.ctx.now.dialects carries.lasts.dialects (st.stops base v k a.later (here_now base v k ls (Some frame) waits a)))

      -- less is left
      pub less_on : (n2 : Names) (s2 : StateStream T A U) (next : Option Frame) (frames : List Frame) → Proceeds types_at attr frame waits n1 s1 n2 s2 next frames
          → left_to_do T A s0.state.ctx.now.dialects next frames s2.stream.rest < left_to_do T A s0.state.ctx.now.dialects (Some frame) waits s1.stream.rest
      less_on n2 s2 next frames p =
          subst (λ d. left_to_do T A d next frames s2.stream.rest < left_to_do T A d (Some frame) waits s1.stream.rest) carries.lasts.dialects p.less

    -- nothing is left
    pub finishes_on : (base : Base) (v k : ℕ) (ls : List (Level T A)) (frames : List Frame) → Arrives types_at attr base v k ls n0 s0 n1 s1 None frames
        → (length n1.values ≡ v) × (length n1.labels ≡ k) × Turned types_at attr s0.state.ctx.now.dialects s0.state.src (whole s0.stream) base ls n0 s0 [] n1 s1
    finishes_on base v k ls frames a =
        let e = none_open a.later a.here.next_is in
        let there = subst (λ z. IsHere base v k z n1 (whole s0.stream) s1.state.ctx.now None frames) e a.here in
        let values = there.values in
        let labels = there.labels in
        (omega (arith, values), omega (arith, labels), subst (λ z. Turned types_at attr s0.state.ctx.now.dialects s0.state.src (whole s0.stream) base ls n0 s0 z n1 s1) e a.turned)

-- where no action was performed, older objects are unchanged
pub keeps_itself : {T A : Type 0} (m : ℕ) (c : ContextView T A) → KeepsOlder m c c
keeps_itself m c = record {
  graph = record { operations = λ p. refl; blocks = λ p. refl; regions = λ p. refl; made = le_refl c.graph.made; values = le_refl c.graph.values; first_place = refl; pointers = gives_itself c.graph };
  paths = λ i path e. e;
  dialects = refl;
}

-- where nothing waits, all that waits is new
pub none_wait : {O B T : Type 0} (m : ℕ) (g : GraphView O B T) (frames : List Frame) → frames ≡ [] → AreNewFrames m g frames
none_wait m g frames e = subst (AreNewFrames m g) (sym e) tt

-- the frame that is taken is the next
module _ {T A U : Type 0} (types_at : Reader T) (attr : Reader (AttrView A)) (n0 : Names) (s0 : StateStream T A U) (n1 : Names) (s1 : StateStream T A U) (next : Option Frame) (waits : List Frame) where
  -- wherever the first was open, these frames are those that are open now
  abbrev pub ComeTo : Frame → Option Frame → Type 0
  ComeTo first other = (base : Base) (v k : ℕ) (ls : List (Level T A)) → IsHere base v k ls n0 (whole s0.stream) s0.state.ctx.now (Some first) [] → Arrives types_at attr base v k ls n0 s0 n1 s1 other waits

  pub come_to : (first : Frame) (other : Option Frame) → next ≡ other → ComeTo first next → ComeTo first other
  come_to first other e h base v k ls here = subst (λ n. Arrives types_at attr base v k ls n0 s0 n1 s1 n waits) e (h base v k ls here)
