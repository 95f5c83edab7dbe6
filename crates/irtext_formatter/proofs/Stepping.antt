-- Between the steps over the roots of a text: what a step of a stream and of a context keeps, and why a step fails.
use Rattle.std.proofs.Common.{◌≡◌, ◌∙◌, ◌++◌, ℕ, Bool, true, false, List, Result, Ok, Err, length, append_assoc, ◌<◌, arith, ap, subst}
use Rattle.std.specs.Prelude.{IfOk, IfErr, OnOk, OnErr}
use Rattle.irtext_base.specs.Stream.{StreamView}
use Rattle.irtext_base.specs.Text.{front, after}
use Rattle.irtext_base.specs.declared.parsable.fault.ParseFault.{ParseFault}
use Rattle.irtext_base.specs.declared.text.AttrText as attr_text
use Rattle.irtext_base.specs.declared.text.IrText as ir_text
use Rattle.irtext_context.specs.Context.{ContextView}
use Rattle.irtext_context.specs.Made.{SameObjects}
use Rattle.pliron_text.specs.Calls.{IsPrinted}
use Rattle.irtext_graph.specs.declared.arena.Ptr.{Ptr}
use Rattle.irtext_graph.specs.declared.object.Operation.{Operation}
use Rattle.irtext_grammar.proofs.Naming.Shorter.{space_shorter}
use Rattle.irtext_grammar.specs.Promises.Root.{UnlessMemory}
use Rattle.irtext_print.specs.declared.printable.refusal.Refusal.{Refusal}
use Rattle.irtext_print_ops.specs.Heads as heads
use Rattle.irtext_stream.proofs.Slices.{front_after}
use Rattle.irtext_stream.specs.Classes.{after_spaces, has}
use Rattle.irtext_stream.specs.declared.class.Class.TheVariants.{WhiteSpace}
use Rattle.pliron_text.specs.Unprinted.{plain}
use Rattle.irtext_formatter.specs.Rows.{follows, RefusesAt, ReadsRoot, LaysOut, HasRoot, FailsHere}
use Rattle.irtext_formatter.specs.Stands.{place_of, held_by, IsReady, CanTakeBack, NextRoot, GoesOn}
use Rattle.irtext_formatter.specs.Unprinted.{IsReason}
use Rattle.irtext_formatter.specs.declared.fault.Fault as fault
use Rattle.irtext_formatter.specs.declared.fault.Fault.TheVariants as of_fault
use Rattle.irtext_formatter.specs.declared.layout.Layout.{Layout}
use Rattle.irtext_formatter.specs.declared.roots.Roots.{Roots}

-- white space is part of the text
pub same_text : (v : StreamView) → (after_spaces v).passed ++ (after_spaces v).rest ≡ v.passed ++ v.rest
same_text v = append_assoc v.passed (front (has WhiteSpace) v.rest) (after (has WhiteSpace) v.rest) ∙ ap (λ z. v.passed ++ z) (front_after (has WhiteSpace) v.rest)

module _ {T A : Type 0} (types : ir_text.Ghosts T A) (owns : ir_text.Ghosts A A) (attributes : attr_text.Ghosts A A) (same : A → A → Bool) (layout : Layout) where
  -- a root was not printed
  pub stopped_here : (at : StreamView) (before : ContextView T A) (op : Ptr Operation) (next : StreamView) (shown : ContextView T A) → HasRoot types owns attributes same layout at before op next shown
      → (reason : Refusal) → heads.RefusesUnder types owns attributes same shown op plain reason → (r : fault.Fault A) → IsReason types owns attributes same shown op reason r → FailsHere types owns attributes same layout at before r
  stopped_here at before op next shown has reason refuses of_fault.Memory h = tt
  stopped_here at before op next shown has reason refuses (of_fault.Misfit m) h = record { op = op; next = next; shown = shown; has = has; why = (subst (heads.RefusesUnder types owns attributes same shown op plain) h.0 refuses, h.1) }
  stopped_here at before op next shown has reason refuses of_fault.TooDeep h = record { op = op; next = next; shown = shown; has = has; why = subst (heads.RefusesUnder types owns attributes same shown op plain) h refuses }
  stopped_here at before op next shown has reason refuses (of_fault.Rejected g) h = absurd h

  -- a root was parsed, and its locations are laid out
  pub has_root : (old parsed spaced laid : Roots T A) (op : Ptr Operation) (followed : Bool) → ReadsRoot types owns op (place_of old) (place_of parsed) (held_by old) (held_by parsed) → spaced.stream.state ≡ parsed.stream.state
      → followed ≡ follows (place_of parsed).rest → LaysOut layout followed (place_of old).passed op (held_by spaced) (held_by laid)
      → HasRoot types owns attributes same layout (place_of old) (held_by old) op (place_of parsed) (held_by laid)
  has_root old parsed spaced laid op followed reads state is lays = record {
    after = held_by parsed;
    reads = reads;
    laid = subst (λ b. LaysOut layout b (place_of old).passed op (held_by parsed) (held_by laid)) is (subst (λ s. LaysOut layout followed (place_of old).passed op s.ctx.now (held_by laid)) state lays);
  }

  -- a root was printed
  pub goes_on : (old parsed spaced laid new : Roots T A) (op : Ptr Operation) (followed : Bool) (text : List ℕ) → ReadsRoot types owns op (place_of old) (place_of parsed) (held_by old) (held_by parsed)
      → place_of spaced ≡ after_spaces (place_of parsed) → spaced.stream.state ≡ parsed.stream.state → followed ≡ follows (place_of parsed).rest → LaysOut layout followed (place_of old).passed op (held_by spaced) (held_by laid)
      → place_of laid ≡ place_of spaced → IsPrinted types owns attributes same (held_by laid) op plain text → (followed ≡ true → SameObjects (held_by old) (held_by new) × IsReady new) → (followed ≡ false → held_by new ≡ held_by laid)
      → place_of new ≡ place_of laid → GoesOn types owns attributes same layout text followed old new
  goes_on old parsed spaced laid new op followed text reads spaces state is lays stays prints left last at = record {
    next = place_of parsed;
    shown = held_by laid;
    gives = record {
      op = op;
      has = has_root old parsed spaced laid op followed reads state is lays;
      prints = prints;
    };
    is_followed = is;
    place = at ∙ (stays ∙ spaces);
    left = left;
    last = last;
  }

-- and less of the text is left
pub shorter_still : {T A : Type 0} (old parsed new : Roots T A) → place_of new ≡ after_spaces (place_of parsed) → length (place_of parsed).rest < length (place_of old).rest → length (place_of new).rest < length (place_of old).rest
shorter_still old parsed new at less = let same = ap (λ v. length v.rest) at in let fewer = space_shorter (place_of parsed).rest in omega (arith, less, same, fewer)

-- the root that follows white space
module _ {T A : Type 0} (types : ir_text.Ghosts T A) (owns : ir_text.Ghosts A A) (old spaced new : Roots T A) (spaces : place_of spaced ≡ after_spaces (place_of old)) (state : spaced.stream.state ≡ old.stream.state) where
  pub next_root : (r : Result (Ptr Operation) (ParseFault A)) → IfOk r (λ op. ReadsRoot types owns op (place_of spaced) (place_of new) (held_by spaced) (held_by new)) → IfErr r (UnlessMemory (RefusesAt types owns (held_by spaced) (place_of spaced)))
      → OnOk r (IsReady new) → OnOk r (CanTakeBack (held_by spaced) new) → OnErr r (SameObjects (held_by spaced) (held_by new)) → NextRoot types owns old new r
  next_root (Ok op) reads refuses ready back objects = (
    subst (λ s. ReadsRoot types owns op (after_spaces (place_of old)) (place_of new) s.ctx.now (held_by new)) state (subst (λ v. ReadsRoot types owns op v (place_of new) (held_by spaced) (held_by new)) spaces reads),
    ready,
    subst (λ s. CanTakeBack s.ctx.now new) state back,
  )
  next_root (Err fault) reads refuses ready back objects = (
    subst (λ s. UnlessMemory (RefusesAt types owns s.ctx.now (after_spaces (place_of old))) fault) state (subst (λ v. UnlessMemory (RefusesAt types owns (held_by spaced) v) fault) spaces refuses),
    subst (λ s. SameObjects s.ctx.now (held_by new)) state objects,
  )
