-- The front of an operation was parsed, or why it was not.
use Rattle.std.proofs.Common.{◌≡◌, ◌∙◌, ◌||◌, inl, inr, ℕ, Bool, true, false, cond, List, [], ◌∷◌, ◌++◌, length, Some, None, Ok, Err, refl, sym, ap, subst, append-nil, true≢false}
use Rattle.std.specs.Option.{option_map}
use Rattle.irtext_base.specs.Text.{Text}
use Rattle.irtext_base.specs.Own.{Sincere}
use Rattle.irtext_base.specs.Faults.{id_of, fault_of}
use Rattle.irtext_base.specs.Stream.{StreamView, IsAt}
use Rattle.irtext_base.specs.Answers.{Outcome, Read, Missing, Bad, Refuses, demanded, unless_failed}
use Rattle.irtext_base.specs.Answers as base
use Rattle.irtext_base.specs.Format.{Id}
use Rattle.irtext_base.specs.declared.base.identifier.OpId.{OpId}
use Rattle.irtext_base.specs.declared.parsable.fault.ParseFault.{ParseFault}
use Rattle.irtext_context.specs.Dialects.{Table}
use Rattle.irtext_context.specs.declared.dialect.OpInfo.{OpInfo}
use Rattle.irtext_base.specs.FormatViews.{format_of}
use Rattle.irtext_tokens.specs.AttrTexts.{attr_at}
use Rattle.irtext_tokens.proofs.Steps.{alone}
use Rattle.irtext_scopes.specs.Names.{KeepsNames}
use Rattle.irtext_grammar.specs.declared.parsed.Setting.{Setting}
use Rattle.irtext_grammar.specs.Contexts.Formats as formats
use Rattle.irtext_grammar.specs.Contexts.Held.{whole}
use Rattle.irtext_grammar.specs.Grammar.Tree.{Name}
use Rattle.irtext_grammar.specs.Readers.Streams.{itself, replaced}
use Rattle.irtext_grammar.specs.Promises.Root.{UnlessMemory}
use Rattle.irtext_grammar.specs.Promises.Supported.{is_committed}
use Rattle.irtext_grammar.proofs.Readers.Answered.{Answered, answered, may_answered, moves_more}
use Rattle.irtext_grammar.specs.Heads.{steps_of, front_steps, led_at, setting}
use Rattle.irtext_grammar.specs.Reached.{steps_in}
use Rattle.irtext_grammar.specs.Resume.{front_at}
use Rattle.irtext_grammar.specs.declared.parsed.ReadName.{ReadName}
use Rattle.irtext_grammar.specs.declared.parsed.ReadPiece.{ReadPiece}
use Rattle.irtext_grammar.specs.Parsed.{IsPart, Represents, Each}
use Rattle.irtext_parse_pieces.specs.Fronts.{MustFront, front_of}
use Rattle.irtext_parse_pieces.specs.Ids.{IsLed, IsKnown}
use Rattle.irtext_parse_pieces.specs.Named.{MayMean}
use Rattle.irtext_parse_pieces.proofs.Meanings.{still_represents, may_whole}
use Rattle.irtext_parse_nested.specs.Beginning.{FrontComes, MissesFront, misses_lead, misses_piece}
use Rattle.irtext_parse_nested.specs.Read.{Demands}
use Rattle.irtext_parse_nested.proofs.Ended.{must_commit}
use Rattle.irtext_parse_nested.proofs.Faults.{text_fault, must_demand}
use Rattle.irtext_parse_nested.proofs.FrontHonest.{front_within, led_within}

or_committed : (is_required : Bool) → (is_required || true) ≡ true
or_committed true = refl
or_committed false = refl

-- names represent the same when more names are added
pub each_on : (names more : List Text) (text : Text) → KeepsNames names more → (ns : List ReadName) (ws : List (Name ℕ)) → Each (Represents names text) ns ws → Each (Represents more text) ns ws
each_on names more text keeps [] [] e = tt
each_on names more text keeps [] (w ∷ ws) e = absurd e
each_on names more text keeps (n ∷ ns) [] e = absurd e
each_on names more text keeps (n ∷ ns) (w ∷ ws) e = (still_represents names more n w keeps refl e.0, each_on names more text keeps ns ws e.1)

-- a fault that is committed where this is wanted, and else is the same
record SameFault {A : Type 0} (is_required : Bool) (fault last : ParseFault A) : Type 0 where
  cause : last.cause ≡ fault.cause
  pos : last.pos ≡ fault.pos
  flag : last.committed ≡ (is_required || fault.committed)

same_fault : {A : Type 0} (is_required : Bool) (fault last : ParseFault A) (old new : StreamView) → cond is_required (base.Demands itself replaced fault old last new) ((last ≡ fault) × (new ≡ old)) → SameFault is_required fault last
same_fault true fault last old new d = record { cause = d.cause; pos = d.place; flag = d.committed }
same_fault false fault last old new d = record { cause = ap (λ f. f.cause) d.0; pos = ap (λ f. f.pos) d.0; flag = ap (λ f. f.committed) d.0 }

module _ {T A : Type 0} (types_at : Text → Outcome T) (reading : Text → Outcome A) (dialects : List (Text × Table)) (inside : Bool) (old : StreamView) (fine : old.failed ≡ false) where
  -- ---- there is no lead
  module _ {X : Type 0} {names : List Text} {fault : ParseFault A} {mid : StreamView}
      (h : MayMean {X = List (Name ℕ) × Id} {Y = List ReadName × OpId × X} itself replaced (IsLed names (whole old)) (led_at dialects) old (Err fault) mid) (last : ParseFault A) (new : StreamView)
      (c : cond inside (base.Demands itself replaced fault mid last new) ((last ≡ fault) × (new ≡ mid))) where
    same : SameFault inside fault last
    same = same_fault inside fault last mid new c

    pub lead_misses : UnlessMemory (MissesFront types_at (attr_at reading) dialects inside old) last
    lead_misses = elim h.read.answers [
      | inl ran_out ↦ inl (record { because = ap fault_of same.cause ∙ ran_out.because; flag = same.flag ∙ (ap (λ b. inside || b) ran_out.committed ∙ or_committed inside) })
      | inr refused ↦ inr (go (led_at dialects old.rest) refl (subst (λ b. Refuses itself replaced (unless_failed b (led_at dialects old.rest)) old fault mid) fine refused))
    ]
      where
        placed : (upto : Text) → IsAt fault.pos.line fault.pos.column (old.passed ++ upto) → IsAt last.pos.line last.pos.column (old.passed ++ upto)
        placed upto p = subst (λ p. IsAt p.line p.column (old.passed ++ upto)) (sym same.pos) p

        go : (o : Outcome (List (Name ℕ) × Id)) → led_at dialects old.rest ≡ o → Refuses itself replaced o old fault mid → MissesFront types_at (attr_at reading) dialects inside old last
        go (Read x taken rest) is r = absurd r
        go (Missing cause) is r = misses_lead
            (record { cause = cause; upto = []; bad = ap demanded is; fault_is = text_fault old cause [] old.rest last refl (ap fault_of same.cause ∙ r.because) (placed [] (subst (IsAt fault.pos.line fault.pos.column) (sym (append-nil old.passed)) r.place)) })
            (same.flag ∙ ap (λ b. inside || b) (r.committed ∙ sym (ap is_committed is)))
        go (Bad cause upto) is r =
            let front = (led_within dialects).within old.rest cause upto is in
            misses_lead (record { cause = cause; upto = upto; bad = ap demanded is; fault_is = text_fault old cause upto front.0 last front.1 (ap fault_of same.cause ∙ r.because) (placed upto r.place) })
            (same.flag ∙ ap (λ b. inside || b) (r.committed ∙ sym (ap is_committed is)))

    -- where the fault is not committed, nothing was parsed
    pub lead_unread : last.committed ≡ false → new ≡ old
    lead_unread flag = go inside c
      where
        uncommitted : (o : Outcome (List (Name ℕ) × Id)) → Refuses itself replaced o old fault mid → fault.committed ≡ false → mid ≡ old
        uncommitted (Read x taken rest) r e = absurd r
        uncommitted (Missing cause) r e = r.left
        uncommitted (Bad cause upto) r e = absurd (true≢false (sym r.committed ∙ e))

        still : fault.committed ≡ false → mid ≡ old
        still e = elim h.read.answers [
          | inl ran_out ↦ absurd (true≢false (sym ran_out.committed ∙ e))
          | inr refused ↦ uncommitted (unless_failed old.failed (led_at dialects old.rest)) refused e
        ]

        go : (w : Bool) → cond w (base.Demands itself replaced fault mid last new) ((last ≡ fault) × (new ≡ mid)) → new ≡ old
        go true d = absurd (true≢false (sym d.committed ∙ flag))
        go false d = d.1 ∙ still (sym (ap (λ f. f.committed) d.0) ∙ flag)

  -- ---- after a lead
  module _ {X : Type 0} {names : List Text} {mid : StreamView} (op : List ReadName × OpId × X) (info : OpInfo)
      (h : MayMean {A = A} itself replaced (IsLed names (whole old)) (led_at dialects) old (Ok op) mid) (known : IsKnown dialects op.1 info) where
    led_is : Answered (led_at dialects old.rest) old (h.meant op) mid
    led_is = may_answered {A = A} h.read

    same_text : whole mid ≡ whole old
    same_text = may_whole alone {A = A} h.read

    still_fine : mid.failed ≡ false
    still_fine = ap (λ v. v.failed) led_is.takes.is ∙ fine

    id_is : id_of op.1 ≡ (h.meant op).1
    id_is = h.means.1

    led_here : led_at dialects old.rest ≡ Read ((h.meant op).0, id_of op.1) led_is.taken mid.rest
    led_here = led_is.is ∙ ap (λ i. Read ((h.meant op).0, i) led_is.taken mid.rest) (sym id_is)

    known_format : formats.format_of dialects (id_of op.1) ≡ Some (format_of info.format)
    known_format = ap (λ o. option_map (λ k. k.format) o) known.known

    pub steps_are : steps_in dialects (id_of op.1) ≡ steps_of (format_of info.format)
    steps_are = ap (λ o. elim o [ Some f ↦ steps_of f | None ↦ [] ]) known_format

    pub isolated_is : formats.isolated dialects (id_of op.1) ≡ info.isolated
    isolated_is = ap (λ o. elim o [ Some k ↦ k.isolated | None ↦ false ]) known.known

    -- a piece is missing
    pub piece_misses : (more : List Text) {fault : ParseFault A} {new : StreamView} → Sincere types_at → Sincere reading → MustFront {T = T} itself replaced more types_at (attr_at reading) (setting inside false) (steps_of (format_of info.format)) mid (Err fault) new
        → UnlessMemory (MissesFront types_at (attr_at reading) dialects inside old) fault
    piece_misses more {fault} {new} sincere_types sincere f =
        let within = front_within types_at reading sincere_types sincere (setting inside false) (front_steps (steps_of (format_of info.format))) [] in
        let c = must_commit still_fine f.read in
        elim (must_demand alone (front_of types_at (attr_at reading) (setting inside false) (steps_of (format_of info.format)) []) within still_fine f.read) [
          | inl s ↦ inl s
          | inr d ↦ inr (misses_piece (h.meant op).0 (id_of op.1) led_is.taken mid.rest led_here
              (subst (λ t. Demands t (front_at types_at (attr_at reading) (setting inside false) (front_steps (steps_in dialects (id_of op.1))) [] mid.rest) mid.rest fault) same_text
              (subst (λ ss. Demands (whole mid) (front_at types_at (attr_at reading) (setting inside false) (front_steps ss) [] mid.rest) mid.rest fault) (sym steps_are) d)) c)
        ]

    pub piece_commits : (more : List Text) {fault : ParseFault A} {new : StreamView} → MustFront {T = T} itself replaced more types_at (attr_at reading) (setting inside false) (steps_of (format_of info.format)) mid (Err fault) new → fault.committed ≡ true
    piece_commits more f = must_commit still_fine f.read

    -- all of it is in the text
    pub front_comes : (at : Setting) (more : List Text) → KeepsNames names more → (pieces : List (ReadPiece T A)) (new : StreamView) → MustFront {A = A} itself replaced more types_at (attr_at reading) at (steps_of (format_of info.format)) mid (Ok pieces) new
        → length pieces ≡ length (front_steps (steps_of (format_of info.format))) → FrontComes types_at (attr_at reading) dialects at more old op.0 op.1 pieces new
    front_comes at more keeps pieces new f count =
        let there : Answered (front_of types_at (attr_at reading) at (steps_of (format_of info.format)) [] mid.rest) mid (f.meant pieces) new = answered {A = A} f.read in
        record {
          results = (h.meant op).0;
          lead = led_is.taken;
          middle = mid.rest;
          led = led_here;
          parts = f.meant pieces;
          taken = there.taken;
          front = ap (λ ss. front_at types_at (attr_at reading) at (front_steps ss) [] mid.rest) steps_are ∙ there.is;
          moves = moves_more (record { taken = led_is.taken; takes = led_is.takes }) (record { taken = there.taken; takes = there.takes });
          named = each_on names more (whole old) keeps op.0 (h.meant op).0 h.means.0;
          are = subst (λ t. Each (IsPart more t) pieces (f.meant pieces)) same_text f.means;
          counts = count ∙ ap (λ ss. length (front_steps ss)) (sym steps_are);
          format = format_of info.format;
          known = known_format;
          accepted = known.accepted;
        }
