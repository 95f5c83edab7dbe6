-- What is known of the roots after one is parsed.
use Rattle.std.proofs.Common.{◌≡◌, ◌∙◌, ◌<◌, true, Result, Ok, Err, IsSome, ◌++◌, length, append_assoc, refl, sym, ap, subst}
use Rattle.std.specs.Prelude.{IfOk, OnOk, is_some}
use Rattle.irtext_base.specs.Places.{IsPlaceAfter}
use Rattle.irtext_base.specs.declared.parsable.fault.ParseFault.{ParseFault}
use Rattle.irtext_base.specs.declared.text.IrText as ir_text
use Rattle.irtext_context.proofs.Kept.{kept_closed, kept_trans}
use Rattle.irtext_context.specs.Context.{ContextView, operation, KeepsOlder}
use Rattle.irtext_graph.specs.Back.{AllOlder, IsClosedBelow}
use Rattle.irtext_graph.specs.Throughout.{IsNewInside}
use Rattle.irtext_graph.specs.declared.arena.Ptr.{Ptr}
use Rattle.irtext_graph.specs.declared.object.Object.TheVariants.{TheOperation}
use Rattle.irtext_graph.specs.declared.object.Operation.{Operation}
use Rattle.irtext_names.specs.Promises.{BuildsRoot}
use Rattle.irtext_parse_root.specs.AnyState.{ReadsAny}
use Rattle.irtext_parse_root.specs.Parses.{texts, attr}
use Rattle.irtext_parse_state.specs.States.{KeepsRest}
use Rattle.irtext_formatter.proofs.Newer.{new_inside}
use Rattle.irtext_formatter.proofs.Shorter.{root_shorter}
use Rattle.irtext_formatter.specs.Rows.{IsSound, ReadsRoot}
use Rattle.irtext_formatter.specs.Stands.{place_of, held_by, IsReady, CanTakeBack, Begins}
use Rattle.irtext_formatter.specs.declared.roots.Roots.{Roots}

module _ {T A : Type 0} (types : ir_text.Ghosts T A) (owns : ir_text.Ghosts A A) (old new : Roots T A) where
  pub reads : IsReady old → IsSound (held_by new).graph → (r : Result (Ptr Operation) (ParseFault A)) → IfOk r (λ op. BuildsRoot (texts types) (texts owns) (attr owns) op old.stream new.stream)
      → IfOk r (λ op. ReadsRoot types owns op (place_of old) (place_of new) (held_by old) (held_by new))
  reads ready sound (Ok op) b = record { old = old.stream; new = new.stream; from = refl; to = refl; source = ready.source; context = refl; left = refl; builds = b; sound = sound }
  reads ready sound (Err fault) b = tt

  pub is_live : (r : Result (Ptr Operation) (ParseFault A)) → IfOk r (λ op. BuildsRoot (texts types) (texts owns) (attr owns) op old.stream new.stream) → IfOk r (λ op. IsSome (operation (held_by new) op))
  is_live (Ok op) b = ap is_some b.is_whole.0.is
  is_live (Err fault) b = tt

  pub ready_still : IsReady old → KeepsRest old.stream.state new.stream.state → (r : Result (Ptr Operation) (ParseFault A)) → IfOk r (λ op. BuildsRoot (texts types) (texts owns) (attr owns) op old.stream new.stream)
      → OnOk r (IsReady new)
  ready_still ready rest (Ok op) b = record { fresh = record { marks = b.fresh; fine = ap (λ v. v.failed) b.moves.takes.is ∙ ready.fresh.fine }; source = rest.src ∙ ready.source }
  ready_still ready rest (Err fault) b = tt

  pub begins : IsPlaceAfter new.begin (place_of old).passed → (r : Result (Ptr Operation) (ParseFault A)) → IfOk r (λ op. BuildsRoot (texts types) (texts owns) (attr owns) op old.stream new.stream) → OnOk r (Begins (place_of old).passed new)
  begins at (Ok op) b = record {
    at = at;
    rest = (place_of old).rest;
    same = ap (λ z. (place_of old).passed ++ z) (sym b.moves.takes.same) ∙ (sym (append_assoc (place_of old).passed b.moves.taken (place_of new).rest) ∙ ap (λ v. v.passed ++ (place_of new).rest) (sym b.moves.takes.is));
  }
  begins at (Err fault) b = tt

  pub can_take_back : new.made ≡ (held_by old).graph.made → AllOlder new.made (held_by old).graph → IsClosedBelow new.made (held_by old).graph → (r : Result (Ptr Operation) (ParseFault A))
      → OnOk r (KeepsOlder (held_by old).graph.made (held_by old) (held_by new)) → OnOk r (CanTakeBack (held_by old) new)
  can_take_back made older closed (Ok op) k =
      let kept : KeepsOlder new.made (held_by old) (held_by new) = subst (λ m. KeepsOlder m (held_by old) (held_by new)) (sym made) k in
      record { older = older; kept = kept; closed = kept_closed closed kept }
  can_take_back made older closed (Err fault) k = tt

  pub all_new : new.made ≡ (held_by old).graph.made → (r : Result (Ptr Operation) (ParseFault A)) → OnOk r (KeepsOlder (held_by old).graph.made (held_by old) (held_by new))
      → IfOk r (λ op. BuildsRoot (texts types) (texts owns) (attr owns) op old.stream new.stream) → IfOk r (λ op. IsNewInside new.made (held_by new).graph (TheOperation op))
  all_new made (Ok op) k b = new_inside new.made op (held_by old) (held_by new) (subst (λ m. KeepsOlder m (held_by old) (held_by new)) (sym made) k) b.only
  all_new made (Err fault) k b = tt

  pub shorter : (r : Result (Ptr Operation) (ParseFault A)) → IfOk r (λ op. ReadsAny types.reading (attr owns) true op old.stream new.stream) → OnOk r (length (place_of new).rest < length (place_of old).rest)
  shorter (Ok op) h = root_shorter types.reading (attr owns) op old.stream new.stream h
  shorter (Err fault) h = tt

-- what was made since can still be erased after a change that keeps what is older
pub back_still : {T A : Type 0} (old new : Roots T A) (before : ContextView T A) → new.made ≡ old.made → KeepsOlder old.made (held_by old) (held_by new) → CanTakeBack before old → CanTakeBack before new
back_still old new before same kept can =
    let k : KeepsOlder new.made (held_by old) (held_by new) = subst (λ m. KeepsOlder m (held_by old) (held_by new)) (sym same) kept in
    record {
      older = subst (λ m. AllOlder m before.graph) (sym same) can.older;
      kept = kept_trans (subst (λ m. KeepsOlder m before (held_by old)) (sym same) can.kept) k;
      closed = kept_closed (subst (λ m. IsClosedBelow m (held_by old).graph) (sym same) can.closed) k;
    }
