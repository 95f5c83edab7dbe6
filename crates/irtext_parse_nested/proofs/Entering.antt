-- A region that begins and ends: what it does with names, and which errors there are.
use Rattle.std.proofs.Common.{◌≡◌, ◌∙◌, ◌⊎◌, inl, inr, Bool, true, false, [], codes, length, None, Ok, Err, refl, sym, ap, subst}
use Rattle.irtext_base.specs.Faults as fault
use Rattle.irtext_base.specs.Faults.{fault_of}
use Rattle.irtext_base.specs.Locations.{AttrView}
use Rattle.irtext_base.specs.Stream.{StreamView, IsAt}
use Rattle.irtext_base.specs.declared.parsable.fault.ParseFault.{ParseFault}
use Rattle.irtext_graph.specs.declared.arena.Ptr.{Ptr}
use Rattle.irtext_graph.specs.declared.object.Region.{Region}
use Rattle.irtext_graph.specs.declared.object.Object.TheVariants.{TheRegion}
use Rattle.irtext_graph.specs.Graph.{IsLive}
use Rattle.irtext_tokens.specs.Infix.{Reader, ◌▷◌}
use Rattle.irtext_tokens.specs.MustRead.{MustRead}
use Rattle.irtext_tokens.specs.Tokens.{space_at, word}
use Rattle.irtext_tokens.proofs.Honest.{◌then◌, honest_word, honest_space}
use Rattle.irtext_tokens.proofs.Steps.{alone}
use Rattle.irtext_parse_state.specs.States.{marks_of}
use Rattle.irtext_parse_state.specs.declared.parsable.state.StateStream.{StateStream}
use Rattle.irtext_grammar.specs.Contexts.Held.{whole}
use Rattle.irtext_grammar.specs.Names.History as history
use Rattle.irtext_grammar.specs.Names.History.{State, enter}
use Rattle.irtext_grammar.specs.Names.Script.{NotIsolated}
use Rattle.irtext_names.specs.Linked.{Takes, FailsBy}
use Rattle.irtext_names.specs.Tied.{MatchesGraph}
use Rattle.irtext_grammar.specs.Promises.Root.{UnlessMemory}
use Rattle.irtext_grammar.specs.Promises.Section.{IsOutOfMemory}
use Rattle.irtext_grammar.specs.Readers.Streams.{itself, replaced}
use Rattle.irtext_grammar.proofs.Readers.Answered.{answered}
use Rattle.irtext_grammar.specs.Parsed.{Leaves}
use Rattle.irtext_names.specs.Items.{Names, Acts}
use Rattle.irtext_parse_nested.specs.Read.{enters_of, Demands, BeginsRegion, RefusesRegion, not_isolated, no_brace}
use Rattle.irtext_parse_nested.specs.declared.frame.BegunRegion.{BegunRegion}
use Rattle.irtext_parse_nested.proofs.Ended.{within_honest}
use Rattle.irtext_parse_nested.proofs.Faults.{must_demand}
use Rattle.irtext_parse_nested.proofs.NamesLeft.{LeavesNames, agrees_left}
use Rattle.irtext_parse_nested.proofs.Agreement.{agrees_next, agrees_fails}

-- the first brace, with white space after it
abbrev brace_at : Reader (Unit {0})
brace_at = word (codes "{") ▷ space_at

marks_same : (iso : Bool) (st : State) → (history.entered iso st).marks ≡ st.marks
marks_same true st = refl
marks_same false st = refl

-- what holds of a region that is an error as it is entered
abbrev pub IsUnentered : {A T U : Type 0} → Bool → Names → StateStream T A U → ParseFault A → Type 0
IsUnentered iso names old f = IsOutOfMemory f ⊎ ((fault_of f.cause ≡ fault.NotIsolated) × (f.committed ≡ true) × IsAt f.pos.line f.pos.column []
    × FailsBy (enter iso) names old.state.ctx.now.graph (record { cause = NotIsolated; at = None }))

module _ {T A U : Type 0} (types_at : Reader T) (attr : Reader (AttrView A)) (iso : Bool) (before : Names) (old : StateStream T A U) where
  pub unentered : (f : ParseFault A) → IsUnentered iso before old f → UnlessMemory (RefusesRegion types_at attr iso before old) f
  unentered f (inl s) = inl s
  unentered f (inr (cause, committed, at, fails)) = inr (not_isolated (record {
    failure = record { cause = NotIsolated; at = None };
    is = record { cause = cause; place = at; committed = committed };
    so = λ path items more o h. agrees_fails before old.state (enter iso) (record { cause = NotIsolated; at = None }) fails h;
  }))

  -- the scopes of a region were entered, and it was created by an edit that leaves what names refer to
  module _ (names : Names) (mid : StateStream T A U) (takes : Takes (enter iso) (history.entered iso) before names old.state.ctx.now.graph) (leaves : LeavesNames old.state.ctx.now.graph mid.state.ctx.now.graph)
      (tied : MatchesGraph names.values names.labels old.state.ctx.now.graph) (marks : marks_of mid.state ≡ marks_of old.state) (same : mid.stream ≡ old.stream) where
    pub acts_entered : Acts (enters_of types_at attr iso old) before old.state [] names mid.state []
    acts_entered = record {
      so = λ path items more o h. agrees_left old.state.ctx.now mid.state.ctx.now leaves names old.state mid.state refl refl marks tied
          (agrees_next before names old.state old.state (enter iso) (history.entered iso) takes (marks_same iso) refl refl h);
    }

    -- no brace follows
    pub unbraced : (f : ParseFault A) (v : StreamView) → old.stream.failed ≡ false → MustRead {Y = Unit {0}} itself replaced (λ u. u) brace_at mid.stream (Err f) v → UnlessMemory (RefusesRegion types_at attr iso before old) f
    unbraced f v fine h = elim (must_demand alone brace_at (within_honest (◌then◌ (honest_word (codes "{")) honest_space)) (ap (λ s. s.failed) same ∙ fine) h) [
      | inl s ↦ inl s
      | inr d ↦ inr (no_brace names mid acts_entered (subst (λ s. Demands (whole s) (brace_at s.rest) s.rest f) same d))
    ]

    -- its brace was parsed
    pub braced : (r : Ptr Region) → IsLive mid.state.ctx.now.graph (TheRegion r) → (b : BegunRegion) (new : StateStream T A U) → new.state ≡ mid.state → MustRead {A = A} itself replaced (λ u. u) brace_at mid.stream (Ok tt) new.stream → b.region ≡ r → b.isolated ≡ iso
        → Leaves (whole old.stream) b.at (length old.stream.rest) → BeginsRegion types_at attr iso b before old names new
    braced r live b new state h region isolated placed =
        let a = answered (subst (λ s. MustRead {A = A} itself replaced (λ u. u) brace_at s (Ok tt) new.stream) same h) in
        record {
          taken = a.taken;
          read = a.is;
          moves = record { taken = a.taken; takes = a.takes };
          region = record { is_isolated = isolated; placed = placed; alive = rw (state, region) live };
          acts = subst (λ z. Acts (enters_of types_at attr iso old) before old.state [] names z []) (sym state) acts_entered;
        }
