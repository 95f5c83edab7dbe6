-- What an error of the nested parser says of its cause, and what it leaves of the stream once a committed fault has failed it.
use Rattle.std.proofs.Common.{◌≡◌, ◌∙◌, ℕ, true, false, cond, [], sym, ap, subst, inl, inr}
use Rattle.irtext_base.specs.Faults.{Failed, fault_of}
use Rattle.irtext_base.specs.Own.{Sincere, is_first_fault}
use Rattle.irtext_base.specs.Stream.{StreamView, after_failure}
use Rattle.irtext_base.specs.declared.parsable.fault.ParseFault.{ParseFault}
use Rattle.irtext_tokens.specs.AttrTexts.{attr_at}
use Rattle.irtext_tokens.specs.Infix.{Reader}
use Rattle.irtext_parse_state.specs.declared.parsable.state.StateStream.{StateStream}
use Rattle.irtext_grammar.specs.Names.History.{going}
use Rattle.irtext_grammar.specs.Names.Script.{Path}
use Rattle.irtext_grammar.specs.Promises.Root.{UnlessMemory}
use Rattle.irtext_grammar.specs.Readers.Refusals.{Refusal}
use Rattle.irtext_names.specs.Items.{Names, doing}
use Rattle.irtext_parse_root.specs.Nested as nested
use Rattle.irtext_parse_root.specs.Nested.{RefusesNested}
use Rattle.irtext_parse_root.proofs.Failing.{operation_never_failed, operation_first}
use Rattle.irtext_parse_root.proofs.Causes.{no_cause}
use Rattle.irtext_parse_root.proofs.Fresh.{begun, begun_agrees}

-- The cause does not say that the stream had failed, and where nothing was parsed it is one of a text.
pub record SaysText {A : Type 0} (fault : ParseFault A) : Type 0 where
  pub not_failed : fault_of fault.cause ≡ Failed → ⊥
  pub first : fault.committed ≡ false → is_first_fault (fault_of fault.cause) ≡ true

-- a committed fault fails the stream, and another left it as it was
pub refusal_by : {A : Type 0} (old mid : StreamView) (fault : ParseFault A) → SaysText fault → (fault.committed ≡ false → mid ≡ old) → Refusal old fault (cond fault.committed (after_failure mid) mid)
refusal_by old mid fault says unread = record {
  committed = λ e. ap (λ b. (cond b (after_failure mid) mid).failed) e;
  uncommitted = λ e. ap (λ b. cond b (after_failure mid) mid) e ∙ unread e;
  first = says.first;
  failed = λ e. absurd (says.not_failed e);
}

module _ {T A U : Type 0} (types_at : Reader T) (reading : Reader A) (sincere_types : Sincere types_at) (sincere : Sincere reading) (before : Names) (old : StateStream T A U)
    (no_names : before.names ≡ []) (no_values : before.values ≡ []) (no_labels : before.labels ≡ []) where
  pub says_text : (fault : ParseFault A) → UnlessMemory (RefusesNested types_at (attr_at reading) before old) fault → SaysText fault
  says_text fault (inl ran_out) = record { not_failed = λ e. cc (ran_out.because, e); first = λ e. absurd (cc (ran_out.flag, e)) }
  says_text fault (inr (nested.at_text cause place f flag so)) =
      let ds = old.state.ctx.now.dialects in
      let path : ℕ → Path = λ n. [] in
      let stuck = so path [] (going (begun before old.state no_names no_values no_labels)) (begun_agrees before old.state no_names no_values no_labels path) in
      record {
        not_failed = λ e. operation_never_failed types_at reading sincere_types sincere ds (doing {T = T} {A = A} ds path) false old.stream.rest (going (begun before old.state no_names no_values no_labels)) (going stuck.0) cause place stuck.1 (sym f.because ∙ e);
        first = λ e. subst (λ z. is_first_fault z ≡ true) (sym f.because)
            (operation_first types_at reading sincere_types sincere ds (doing {T = T} {A = A} ds path) false old.stream.rest (going (begun before old.state no_names no_values no_labels)) (going stuck.0) cause place stuck.1 (sym flag ∙ e));
      }
  says_text fault (inr (nested.by_names failure f so)) = record { not_failed = no_cause failure.cause (fault_of fault.cause) f.cause; first = λ e. absurd (cc (f.committed, e)) }
