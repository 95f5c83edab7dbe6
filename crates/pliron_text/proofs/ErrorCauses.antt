-- Why parsing fails: from what the outermost parsers promise of an error, and the causes that an error of a text can have.
use Rattle.std.proofs.Common.{◌≡◌, ◌∙◌, ◌-◌, ℕ, Bool, true, false, cond, Result, Ok, Err, List, [], ◌∷◌, ◌++◌, length, length-append, take, refl, sym, ap, subst, append_assoc, inl, inr, arith, IfErr}
use Rattle.std.proofs.Math.Seq.{take_at}
use Rattle.std.specs.Char.{is_whitespace}
use Rattle.irtext_base.specs.Text.{Text, front}
use Rattle.irtext_base.specs.Faults.{Fault, Memory, Failed, fault_of}
use Rattle.irtext_base.specs.Own.{Sincere}
use Rattle.irtext_base.specs.Stream.{StreamView, IsAt}
use Rattle.irtext_base.specs.declared.parsable.fault.ParseFault.{ParseFault}
use Rattle.irtext_base.proofs.Along.{front_after}
use Rattle.irtext_context.specs.Dialects.{Table}
use Rattle.irtext_graph.specs.declared.arena.Ptr.{Ptr}
use Rattle.irtext_graph.specs.declared.object.Operation.{Operation}
use Rattle.irtext_grammar.specs.Contexts.Formats.{format_of}
use Rattle.irtext_grammar.specs.Contexts.Held.{whole, IsPosition}
use Rattle.irtext_grammar.specs.Names.History.{Outcome as Machine, going}
use Rattle.irtext_grammar.specs.Names.Script as script
use Rattle.irtext_grammar.specs.Names.Script.{Cause}
use Rattle.irtext_grammar.specs.Naming.{naming}
use Rattle.irtext_grammar.specs.Reached.{Actions}
use Rattle.irtext_grammar.specs.Promises.ErrorCauses.{is_name_fault, IsLeft, CauseAt, of_token, CauseAtPlace, HasReason, out_of_memory, in_text, by_name}
use Rattle.irtext_grammar.specs.Promises.Root.{IsCause}
use Rattle.irtext_grammar.specs.Promises.Section.{Moves, indices_of, is_noted}
use Rattle.irtext_grammar.proofs.Causes.Found.{cause_longer, operation_cause, region_cause, section_takes, section_cause}
use Rattle.irtext_parse_root.specs.AnyRegion.{MissesRegion, not_isolated, HasRegionFault, no_brace}
use Rattle.irtext_parse_root.specs.AnyRegion as region
use Rattle.irtext_parse_root.specs.AnyState.{MissesSection, MissesAny, no_operation, no_section}
use Rattle.irtext_parse_root.specs.Parses.{FirstFault}
use Rattle.irtext_parse_root.specs.Whole.{ExpectsEnd}
use Rattle.irtext_parse_root.specs.WholeAny.{HasSection, IsRest, MissesWholeAny, no_root, more_left}
use Rattle.irtext_parse_section.specs.Said.{rules_of}
use Rattle.irtext_parse_state.specs.States.{marks_of}
use Rattle.irtext_parse_state.specs.declared.parsable.state.StateStream.{StateStream}
use Rattle.irtext_names.specs.Promises.{HasFault, at_text, by_names, start_with}
use Rattle.irtext_tokens.specs.AttrTexts.{attr_at}
use Rattle.irtext_tokens.specs.Infix.{Reader}

-- the cause of a failure is about a name, a mark, an entry or a key
about_name : (c : Cause Text) (cause : Fault) → IsCause c cause → is_name_fault cause ≡ true
about_name (script.ResultCount types names) cause e = ap is_name_fault e
about_name (script.NoActiveScope n) cause e = ap is_name_fault e
about_name (script.UnresolvedReference n) cause e = ap is_name_fault e
about_name (script.MultipleDefinitions n) cause e = ap is_name_fault e
about_name script.NotIsolated cause e = ap is_name_fault e
about_name (script.DuplicateIndex i) cause e = ap is_name_fault e
about_name (script.UnknownIndex i) cause e = ap is_name_fault e
about_name (script.UnknownPrintOnce i) cause e = ap is_name_fault e
about_name (script.ReservedKey k) cause e = ap is_name_fault e

-- the characters before what is left
before_left : (passed left text : Text) → passed ++ left ≡ text → take (length text - length left) text ≡ passed
before_left passed left text e = subst (λ z. take (length z - length left) z ≡ passed) e
    (take_at passed left (length (passed ++ left) - length left) (omega (arith, length-append passed left)))

module _ {T A : Type 0} (dialects : List (Text × Table)) (types_at : Reader T) (owns_at : Reader A) (sincere_types : Sincere types_at) (sincere : Sincere owns_at) where
  -- what items do with names; their paths do not matter here
  abbrev does : Actions T A Machine
  does = naming (format_of dialects) (λ _. [])

  -- what is left after an operation, and the section of its marks if it has any
  rest_left : {U : Type 0} (mid : StateStream T A U) (rest : Text) → IsRest (attr_at owns_at) mid rest → IsLeft mid.stream.rest rest
  rest_left mid rest i = go (is_noted (marks_of mid.state)) i
    where
      go : (b : Bool) → cond b (HasSection (attr_at owns_at) mid rest) (rest ≡ mid.stream.rest) → IsLeft mid.stream.rest rest
      go true h = (h.1, section_takes dialects types_at owns_at sincere_types sincere (indices_of (marks_of mid.state)) (rules_of (marks_of mid.state)) mid.stream.rest h.0 h.1 rest h.2)
      go false e = ([], e)

  module _ (old : StreamView) (fault : ParseFault A) where
    abbrev Says : Type 0
    Says = HasReason dialects types_at owns_at old fault

    -- a cause at a place of the text
    at_place : (cause : Fault) (place : ℕ) → fault_of fault.cause ≡ cause → IsPosition (whole old) place fault.pos → CauseAtPlace dialects types_at owns_at old.rest cause place → Says
    at_place cause place because at c = in_text c.0 (subst (λ z. CauseAt dialects types_at owns_at old.rest z c.0) (sym because) c.2) (subst (λ z. IsPosition (whole old) z fault.pos) c.1 at)

    -- an operation's text
    operation_fails : (earlier : List ℕ) → HasFault {T = T} types_at (attr_at owns_at) dialects earlier (whole old) old.rest fault → Says
    operation_fails earlier (at_text cause place because at flag so) = let k = so (λ _. []) in
        at_place cause place because at (operation_cause dialects types_at owns_at sincere_types sincere does false old.rest (going (start_with earlier)) (going k.0) cause place k.1)
    operation_fails earlier (by_names f is flag so) = by_name (about_name f.cause (fault_of fault.cause) is.0)

    -- a region's text
    region_fails : (earlier : List ℕ) → HasRegionFault {T = T} types_at (attr_at owns_at) dialects earlier old fault → Says
    region_fails earlier (no_brace b because at flag) = in_text old.rest
        (subst (λ z. CauseAt dialects types_at owns_at old.rest z old.rest) (sym because) (of_token refl ([], refl)))
        (subst (λ z. IsAt fault.pos.line fault.pos.column z) (sym (before_left old.passed old.rest (whole old) refl)) at)
    region_fails earlier (region.at_text b cause place because at flag so) = let k = so (λ _. []) in
        at_place cause place because at (region_cause dialects types_at owns_at sincere_types sincere does true old.rest (going (start_with earlier)) (going k.0) cause place k.1)
    region_fails earlier (region.by_names b f is flag so) = by_name (about_name f.cause (fault_of fault.cause) is.0)

    -- something is left after a root
    end_fails : (rest : Text) (front : Text) → front ++ rest ≡ old.rest → ExpectsEnd (whole old) rest fault → Says
    end_fails rest before e x = in_text (x.more ∷ x.left)
        (subst (λ z. CauseAt dialects types_at owns_at old.rest z (x.more ∷ x.left)) (sym x.because) (of_token refl (
          before ++ front is_whitespace rest,
          append_assoc before (front is_whitespace rest) (x.more ∷ x.left) ∙ (ap (λ z. before ++ (front is_whitespace rest ++ z)) (sym x.follows_on) ∙ (ap (λ z. before ++ z) (front_after is_whitespace rest) ∙ e)),
        )))
        x.place

    -- a later position in the same text
    moved_whole : {U : Type 0} (mid : StateStream T A U) (moves : Moves old mid.stream) → whole mid.stream ≡ whole old
    moved_whole mid moves = ap (λ v. v.passed ++ mid.stream.rest) moves.takes.is ∙ (append_assoc old.passed moves.taken mid.stream.rest ∙ ap (λ z. old.passed ++ z) moves.takes.same)

    -- the section after an operation
    section_fails : {U : Type 0} (mid : StateStream T A U) → Moves old mid.stream → MissesSection (attr_at owns_at) mid fault → Says
    section_fails mid moves (inl m) = out_of_memory m.because
    section_fails mid moves (inr (cause, upto, refused, at)) =
        let c = section_cause dialects types_at owns_at sincere_types sincere (indices_of (marks_of mid.state)) (rules_of (marks_of mid.state)) mid.stream.rest cause upto refused in
        let longer = subst (λ z. CauseAt dialects types_at owns_at z cause c.0) moves.takes.same (cause_longer dialects types_at owns_at moves.taken mid.stream.rest cause c.0 c.2) in
        in_text c.0 (subst (λ z. CauseAt dialects types_at owns_at old.rest z c.0) (sym at.because) longer)
        (subst (λ z. IsAt fault.pos.line fault.pos.column z) (sym (before_left (mid.stream.passed ++ upto) c.0 (whole old)
        (append_assoc mid.stream.passed upto c.0 ∙ (ap (λ z. mid.stream.passed ++ z) c.1 ∙ moved_whole mid moves)))) at.place)

module _ {T A U : Type 0} (types_at : Reader T) (owns_at : Reader A) (sincere_types : Sincere types_at) (sincere : Sincere owns_at) (old : StateStream T A U) (fault : ParseFault A) where
  abbrev Fails : Type 0
  Fails = HasReason old.state.ctx.now.dialects types_at owns_at old.stream fault

  -- an operation, with the section of its marks or without it
  pub any_fails : (look : Bool) → MissesAny types_at (attr_at owns_at) look old fault → Fails
  any_fails look (no_operation accepted h) = operation_fails old.state.ctx.now.dialects types_at owns_at sincere_types sincere old.stream fault _ h
  any_fails look (no_section op mid r is m) = section_fails old.state.ctx.now.dialects types_at owns_at sincere_types sincere old.stream fault mid r.moves m

  -- a whole text
  pub whole_fails : MissesWholeAny types_at (attr_at owns_at) old fault → Fails
  whole_fails (no_root m) = any_fails true m
  whole_fails (more_left op mid r rest i x) =
      let l = rest_left old.state.ctx.now.dialects types_at owns_at sincere_types sincere mid rest i in
      end_fails old.state.ctx.now.dialects types_at owns_at sincere_types sincere old.stream fault rest (r.moves.taken ++ l.0)
      (append_assoc r.moves.taken l.0 rest ∙ (ap (λ z. r.moves.taken ++ z) l.1 ∙ r.moves.takes.same)) x

  -- a region
  pub alone_fails : (op : Ptr Operation) → MissesRegion types_at (attr_at owns_at) op old fault → Fails
  alone_fails op (not_isolated u) = by_name (ap is_name_fault u.because)
  alone_fails op (region.in_text is h) = region_fails old.state.ctx.now.dialects types_at owns_at sincere_types sincere old.stream fault _ h

module _ {T A U X : Type 0} (P : ParseFault A → Type 0) {Reads : X → StateStream T A U → StateStream T A U → Type 0} {Misses Fails : StateStream T A U → ParseFault A → Type 0}
    (old new : StateStream T A U) (failed : (fault : ParseFault A) → old.stream.failed ≡ true → fault_of fault.cause ≡ Failed → P fault)
    (ran_out : (fault : ParseFault A) → fault_of fault.cause ≡ Memory → P fault) (missed : (fault : ParseFault A) → Misses old fault → P fault) where
  -- why a parser that meets its contract fails
  pub why : (result : Result X (ParseFault A)) → FirstFault Reads Misses Fails old result new → IfErr result P
  why (Ok x) a = tt
  why (Err fault) a = go old.stream.failed refl
    where
      go : (b : Bool) → old.stream.failed ≡ b → P fault
      go true e = failed fault e (a.failed e).because
      go false e = elim (a.missed e) [ inl m ↦ ran_out fault m.because | inr m ↦ missed fault m ]
