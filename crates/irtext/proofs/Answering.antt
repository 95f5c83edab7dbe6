-- What the answer of the program says.
use Rattle.std.proofs.Common.{◌≡◌, ◌∙◌, ℕ, Bool, false, List, [], ◌++◌, Option, Some, Result, Ok, Err, codes, inl, inr, refl, sym, ap, ap₂, subst}
use Rattle.std.specs.Prelude.{OnOk, is_err}
use Rattle.std.specs.Str.{IsUtf8}
use Rattle.irtext_base.proofs.LocationViews.{seen-src_pos}
use Rattle.irtext_base.specs.Causes.{headed}
use Rattle.irtext_base.specs.Paths.{written_with}
use Rattle.irtext_base.specs.Text.{Text}
use Rattle.irtext_base.specs.declared.location.Location.{Location, SrcPos}
use Rattle.irtext_base.specs.declared.location.Source.TheVariants.{InMemory}
use Rattle.irtext_base.specs.declared.parsable.fault.ParseFault.{ParseFault}
use Rattle.irtext_base.specs.declared.result.Cause.{Cause, Nested'}
use Rattle.irtext_base.specs.declared.result.Error.{Error}
use Rattle.irtext_base.specs.declared.text.AttrText as attr_text
use Rattle.irtext_base.specs.declared.text.IrText as ir_text
use Rattle.irtext_context.specs.Context.{ContextView}
use Rattle.irtext_graph.specs.declared.arena.Ptr.{Ptr}
use Rattle.irtext_graph.specs.declared.object.Operation.{Operation}
use Rattle.irtext_stream.specs.declared.position.SourcePosition.{SourcePosition}
use Rattle.irtext_grammar.specs.Spelling.Locations.{known_text, written_text}
use Rattle.irtext_parse_state.specs.FromText.{IsCauseOf, IsErrorOf}
use Rattle.irtext_print.specs.Errors.Located.{framed, located_cause, located_error}
use Rattle.irtext_print.specs.declared.printable.refusal.Refusal.{Refusal}
use Rattle.irtext.specs.Formatting.{demo_context, Unformatted, IsRejected, IsUnprinted}
use Rattle.irtext.specs.Roots.{ReadsRoot, IsNotRead, RefusesIn}
use Rattle.irtext.specs.declared.root.Form.{Form}
use Rattle.irtext.specs.declared.fault.Fault.{Fault}
use Rattle.irtext.specs.declared.fault.Fault.TheVariants.{Usage, Unreadable, NotUtf8, Memory, Rejected, Unprinted, Unwritable}

-- a cause of an error for a text in memory has the same text with any paths
cause_same : {A : Type 0} (written : A → Text) (paths : List (List ℕ)) (fault : ParseFault A) (cause : Cause A) → IsCauseOf fault cause → located_cause written paths cause ≡ located_cause written [] cause
cause_same written paths fault (Nested' p kind err loc) h = absurd (cc)
cause_same written paths fault _ h = refl

-- so has a place in memory
place_same : {A : Type 0} (written : A → Text) (paths : List (List ℕ)) (at : SourcePosition) → known_text written paths (SrcPos InMemory at) ≡ known_text written [] (SrcPos InMemory at)
place_same {A} written paths at =
    ap (λ v. Some (written_text written (written_with paths v))) (seen-src_pos {A = A} InMemory at)
    ∙ sym (ap (λ v. Some (written_text written (written_with [] v))) (seen-src_pos {A = A} InMemory at))

-- and so has the error
without_paths : {A : Type 0} (written : A → Text) (paths : List (List ℕ)) (fault : ParseFault A) (error : Error A) → IsErrorOf fault error → located_error written paths error ≡ located_error written [] error
without_paths {A} written paths fault error is =
    ap₂ (λ (place : Option Text) (cause : List ℕ). framed (codes "[") (codes "] ") place ++ headed error.kind cause)
    (subst (λ (l : Location A). known_text written paths l ≡ known_text written [] l) (sym is.place) (place_same written paths fault.pos))
    (cause_same written paths fault error.err is.cause)

module _ {T A : Type 0} (types : ir_text.Ghosts T A) (owns : ir_text.Ghosts A A) (attributes : attr_text.Ghosts A A) (same : A → A → Bool) (form : Form) (bytes : List ℕ) (utf8 : IsUtf8 bytes) where
  -- the fault for the error of a text says why that is not formatted
  pub rejected_fault : (ctx : ContextView T A) → ctx ≡ demo_context → (paths : List (List ℕ)) (error : Error A) → IsNotRead types owns bytes ctx error
      → (fault : Fault) → IsRejected owns.written paths error fault → Unformatted types owns attributes same form bytes fault
  rejected_fault ctx is paths error unread Usage h = absurd h
  rejected_fault ctx is paths error unread Unreadable h = absurd h
  rejected_fault ctx is paths error unread NotUtf8 h = absurd h
  rejected_fault ctx is paths error unread Memory h = tt
  rejected_fault ctx is paths error unread (Rejected said) h =
      elim (subst (λ z. IsNotRead types owns bytes z error) is unread) [
        | inl memory ↦ absurd (h.0 memory)
        | inr rejected ↦ record { utf8 = utf8; error = error; rejected = rejected; says = h.1 ∙ without_paths owns.written paths rejected.fault error rejected.is_error }
      ]
  rejected_fault ctx is paths error unread (Unprinted said) h = absurd h
  rejected_fault ctx is paths error unread Unwritable h = absurd h

  -- so does that for a root that was not printed
  pub unprinted_fault : (ctx : ContextView T A) → ctx ≡ demo_context → (root : Ptr Operation) (after : ContextView T A) → ReadsRoot types owns bytes ctx root after
      → (refusal : Refusal) → RefusesIn types owns attributes same after root form refusal → (paths : List (List ℕ)) (fault : Fault) → IsUnprinted {A = A} owns.written paths fault
      → Unformatted types owns attributes same form bytes fault
  unprinted_fault ctx is root after reads refusal because paths Usage h = absurd h
  unprinted_fault ctx is root after reads refusal because paths Unreadable h = absurd h
  unprinted_fault ctx is root after reads refusal because paths NotUtf8 h = absurd h
  unprinted_fault ctx is root after reads refusal because paths Memory h = tt
  unprinted_fault ctx is root after reads refusal because paths (Rejected said) h = absurd h
  unprinted_fault ctx is root after reads refusal because paths (Unprinted said) h =
      record { utf8 = utf8; root = root; after = after; reads = subst (λ z. ReadsRoot types owns bytes z root after) is reads; refusal = refusal; because = because; says = h }
  unprinted_fault ctx is root after reads refusal because paths Unwritable h = absurd h

-- what holds if a call succeeds holds if it did
pub where_ok : {X E : Type 0} (P : Type 0) (r : Result X E) → OnOk r P → is_err r ≡ false → P
where_ok P (Ok x) h e = h
where_ok P (Err f) h e = absurd (cc)
