-- A region that ends: what it does with names, and which errors there are.
use Rattle.std.proofs.Common.{◌≡◌, inl, inr, ℕ, Bool, true, false, codes, Some, Ok, Err, refl, sym, ap, subst}
use Rattle.irtext_base.specs.Faults.{Unresolved}
use Rattle.irtext_base.specs.Locations.{AttrView}
use Rattle.irtext_base.specs.Stream.{StreamView}
use Rattle.irtext_base.specs.declared.parsable.fault.ParseFault.{ParseFault}
use Rattle.irtext_tokens.specs.Infix.{Reader}
use Rattle.irtext_tokens.specs.MustRead.{MustRead}
use Rattle.irtext_tokens.specs.Tokens.{word}
use Rattle.irtext_tokens.proofs.Honest.{honest_word}
use Rattle.irtext_tokens.proofs.Steps.{alone}
use Rattle.irtext_parse_state.specs.States.{marks_of}
use Rattle.irtext_parse_state.specs.declared.parsable.state.StateStream.{StateStream}
use Rattle.irtext_grammar.specs.Contexts.Held.{whole}
use Rattle.irtext_grammar.specs.Names.History as history
use Rattle.irtext_grammar.specs.Names.History.{State, leave}
use Rattle.irtext_grammar.specs.Names.Script.{UnresolvedReference}
use Rattle.irtext_grammar.specs.Promises.Root.{UnlessMemory}
use Rattle.irtext_grammar.specs.Readers.Streams.{itself, replaced}
use Rattle.irtext_grammar.proofs.Readers.Answered.{answered}
use Rattle.irtext_grammar.specs.Parsed.{Leaves}
use Rattle.irtext_parse_pieces.proofs.Meanings.{must_whole}
use Rattle.irtext_parse_nested.specs.declared.frame.BegunRegion.{BegunRegion}
use Rattle.irtext_names.specs.Definitions.{IsFaultOf}
use Rattle.irtext_names.specs.Items.{Names}
use Rattle.irtext_parse_nested.specs.Leaving.{IsUnresolved, TakesLeave}
use Rattle.irtext_parse_nested.specs.Read.{EndsRegion, RefusesRegionEnd}
use Rattle.irtext_parse_nested.proofs.Ended.{within_honest}
use Rattle.irtext_parse_nested.proofs.Faults.{must_demand, name_failure}
use Rattle.irtext_parse_nested.proofs.Agreement.{agrees_next, agrees_fails}

-- the other brace
abbrev end_at : Reader (Unit {0})
end_at = word (codes "}")

marks_left : (iso : Bool) (st : State) → (history.left iso st).marks ≡ st.marks
marks_left true st = refl
marks_left false st = refl

module _ {T A U : Type 0} (types_at : Reader T) (attr : Reader (AttrView A)) (before : Names) (old : StateStream T A U) (region : BegunRegion) (place : ℕ) where
  pub unclosed : (f : ParseFault A) (v : StreamView) → old.stream.failed ≡ false → MustRead {Y = Unit {0}} itself replaced (λ u. u) end_at old.stream (Err f) v → UnlessMemory (RefusesRegionEnd types_at attr region.isolated place before old) f
  unclosed f v fine h = elim (must_demand alone end_at (within_honest (honest_word (codes "}"))) fine h) [
    | inl s ↦ inl s
    | inr d ↦ inr (inl d)
  ]

  module _ (v : StreamView) (h : MustRead {A = A} itself replaced (λ (u : Unit {0}). u) end_at old.stream (Ok tt) v) where
    pub closed : (names : Names) (new : StateStream T A U) → new.state ≡ old.state → new.stream ≡ v → TakesLeave region.isolated before names old.state.ctx.now.graph
        → EndsRegion types_at attr region.isolated place before old names new
    closed names new state stream takes =
        let a = answered (subst (λ s. MustRead {A = A} itself replaced (λ (u : Unit {0}). u) end_at old.stream (Ok tt) s) (sym stream) h) in
        record {
          taken = a.taken;
          read = a.is;
          moves = record { taken = a.taken; takes = a.takes };
          acts = record {
            so = λ path items more o k. agrees_next before names old.state new.state (leave region.isolated place) (history.left region.isolated) (takes place) (marks_left region.isolated)
                (ap (λ z. z.ctx.now.graph) state) (ap marks_of state) k;
          };
        }

    pub unleft : (f : ParseFault A) → Leaves (whole old.stream) region.at place → UnlessMemory (IsUnresolved before old.state.ctx.now.graph (whole v) region) f → UnlessMemory (RefusesRegionEnd types_at attr region.isolated place before old) f
    unleft f placed (inl s) = inl s
    unleft f placed (inr u) =
        let r = u.fails place in
        let a = answered h in
        inr (inr (
          a.taken,
          v.rest,
          a.is,
          record {
            failure = record { cause = UnresolvedReference r.0; at = Some place };
            is = name_failure {w = record { place = place; text = r.0 }} Unresolved UnresolvedReference (λ t c e. e) (record { named = r.1; place = placed })
                (subst (λ t. IsFaultOf before.names t Unresolved (record { name = u.name; at = region.at }) f) (must_whole alone {A = A} h) u.said);
            so = λ path items more o k. agrees_fails before old.state (leave region.isolated place) (record { cause = UnresolvedReference r.0; at = Some place }) r.2 k;
          },
        ))
