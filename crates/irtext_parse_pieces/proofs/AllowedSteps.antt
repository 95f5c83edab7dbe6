-- Steps of the parser of an entry whose attribute has to be allowed under its key.
use Rattle.std.proofs.Common.{◌≡◌, ◌∙◌, ℕ, Bool, true, false, Result, Ok, Err, [], ◌++◌, append-nil, refl, sym, ap, ap₂, subst, ◌⊎◌, inl, inr}
use Rattle.std.specs.Prelude.{IfOk}
use Rattle.irtext_base.specs.Text.{Text, begins, begins_word}
use Rattle.irtext_base.specs.Faults.{Fault, ReservedKey}
use Rattle.irtext_base.specs.Answers.{Outcome, Read, Missing, Bad, Takes, RunsOut, Commits, Refuses, Answers, unless_failed}
use Rattle.irtext_base.specs.Locations.{AttrView}
use Rattle.irtext_base.specs.declared.base.attributes.AttrObj.{AttrObj}
use Rattle.irtext_base.specs.declared.parsable.fault.ParseFault.{ParseFault}
use Rattle.irtext_base.proofs.Compose.{takes_same_stream, same_stream_failed}
use Rattle.irtext_stream.specs.Places.{IsPlaceAfter}
use Rattle.irtext_stream.specs.declared.position.Place.{Place}
use Rattle.irtext_tokens.proofs.SetBack.{set_within}
use Rattle.irtext_tokens.proofs.Steps.{Lens}
use Rattle.irtext_grammar.specs.Contexts.Held.{attribute_of}
use Rattle.irtext_grammar.specs.Grammar.Tree.{Name, Attribute}
use Rattle.irtext_grammar.specs.Names.Acts.{may_hold}
use Rattle.irtext_grammar.specs.Heads.{allowed, pair_at, entry_by}
use Rattle.irtext_grammar.specs.Readers.Operations.{RefusesAt}
use Rattle.irtext_grammar.specs.declared.parsed.Key.{Key}
use Rattle.irtext_grammar.specs.Parsed.{IsEntry}
use Rattle.irtext_parse_pieces.specs.Entries.{Allows}
use Rattle.irtext_parse_pieces.specs.Named.{whole, MayMean}
use Rattle.irtext_parse_pieces.proofs.Absences.{missing_followed, no_name_begins}

-- where no name begins, no entry does
pub no_entry_begins : {A : Type 0} (attr : Text → Outcome (AttrView A)) (inside : Bool) (text : Text) → begins begins_word text ≡ false → (cause : Fault) × (entry_by attr inside text ≡ Missing cause)
no_entry_begins attr true text b = missing_followed _ (no_name_begins text b)
no_entry_begins attr false text b = let m = missing_followed _ (no_name_begins text b) in (m.0, ap allowed m.1)

module _ {S A : Type 0} (l : Lens S) where
  -- a fault at an earlier place of the text is one of what was parsed from there
  pub refused_there : (cause : Fault) (place : Place) (old mid new : S) (fault : ParseFault A) (t r : Text) → Takes l.view l.at t r old mid → IsPlaceAfter place (l.view old).passed → RefusesAt l.view l.at cause place mid fault new
      → Commits l.view l.at cause [] old fault new
  refused_there cause place old mid new fault t r k p h =
      let s = takes_same_stream l.view l.at l.view_at l.at_at old mid t r k in
      record {
        because = h.because;
        committed = h.committed;
        place = h.position ((l.view old).passed ++ []) (l.view old).rest (rw append-nil (set_within l old mid s)) (rw append-nil p);
        left = same_stream_failed l.view l.at l.view_at l.at_at (l.view old).failed old mid new s h.left;
      }

  -- a parsed entry is allowed exactly if the one that it represents is
  allowed_same : (text : Text) (p : Key × AttrObj A) (x : Name ℕ × Attribute A) → IsEntry text p x → may_hold p.0.name (attribute_of p.1) ≡ may_hold x.0.text x.1
  allowed_same text p x h = ap₂ may_hold h.0.named h.1

  unread : (o : Outcome (Name ℕ × Attribute A)) (old new : S) (fault : ParseFault A) → RunsOut l.view l.at old fault new ⊎ Refuses l.view l.at o old fault new → RunsOut l.view l.at old fault new ⊎ Refuses l.view l.at (allowed o) old fault new
  unread o old new fault (inl h) = inl h
  unread (Read x t q) old new fault (inr h) = absurd h
  unread (Missing cause) old new fault (inr h) = inr h
  unread (Bad cause upto) old new fault (inr h) = inr h

  module _ (meant : Key × AttrObj A → Name ℕ × Attribute A) where
    keeps : (text : Text) (o : Outcome (Name ℕ × Attribute A)) (place : Place) (a : Result (Key × AttrObj A) (ParseFault A)) (old mid new : S) (r : Result (Key × AttrObj A) (ParseFault A)) → IsPlaceAfter place (l.view old).passed
        → ((p : Key × AttrObj A) → a ≡ Ok p → IsEntry text p (meant p)) → Answers l.view l.at meant o old a mid → Allows l.view l.at place a mid r new → Answers l.view l.at meant (allowed o) old r new
    keeps text (Read x t q) place (Ok p) old mid new (Ok d) at m h k =
        let b : may_hold x.0.text x.1 ≡ true = subst (λ (x : Name ℕ × Attribute A). may_hold x.0.text x.1 ≡ true) h.0 (sym (allowed_same text p (meant p) (m p refl)) ∙ k.0) in
        rw b (rw k.1 h.0, rw k.2 h.1)
    keeps text (Read x t q) place (Ok p) old mid new (Err fault) at m h k =
        let b : may_hold x.0.text x.1 ≡ false = subst (λ (x : Name ℕ × Attribute A). may_hold x.0.text x.1 ≡ false) h.0 (sym (allowed_same text p (meant p) (m p refl)) ∙ k.0) in
        let name : p.0.name ≡ x.0.text = (m p refl).0.named ∙ ap (λ (x : Name ℕ × Attribute A). x.0.text) h.0 in
        rw b (inr (subst (λ n. Commits l.view l.at (ReservedKey n) [] old fault new) name (refused_there (ReservedKey p.0.name) place old mid new fault t q h.1 at k.1)))
    keeps text (Missing cause) place (Ok p) old mid new r at m h k = absurd h
    keeps text (Bad cause upto) place (Ok p) old mid new r at m h k = absurd h
    keeps text o place (Err f) old mid new (Ok d) at m h k = absurd k
    keeps text o place (Err f) old mid new (Err fault) at m h k = rw (k.0, k.1) (unread o old mid f h)

  allowed_unless : (b : Bool) (o : Outcome (Name ℕ × Attribute A)) → allowed (unless_failed b o) ≡ unless_failed b (allowed o)
  allowed_unless true o = refl
  allowed_unless false o = refl

  still_means : (text : Text) (meant : Key × AttrObj A → Name ℕ × Attribute A) (place : Place) (a r : Result (Key × AttrObj A) (ParseFault A)) (mid new : S) → ((p : Key × AttrObj A) → a ≡ Ok p → IsEntry text p (meant p)) → Allows l.view l.at place a mid r new
      → (q : Key × AttrObj A) → r ≡ Ok q → IsEntry text q (meant q)
  still_means text meant place (Ok p) (Ok d) mid new m k q e = let f : d ≡ q = cc e in subst (λ q. IsEntry text q (meant q)) (sym k.1 ∙ f) (m p refl)
  still_means text meant place (Err f) (Ok d) mid new m k q e = absurd k
  still_means text meant place a (Err fault) mid new m k q e = absurd (cc e)

  meant_of : (text : Text) (meant : Key × AttrObj A → Name ℕ × Attribute A) (a : Result (Key × AttrObj A) (ParseFault A)) → IfOk a (λ p. IsEntry text p (meant p)) → (p : Key × AttrObj A) → a ≡ Ok p → IsEntry text p (meant p)
  meant_of text meant (Ok d) h p e = let f : d ≡ p = cc e in subst (λ p. IsEntry text p (meant p)) f h
  meant_of text meant (Err fault) h p e = absurd (cc e)

  if_ok : (text : Text) (meant : Key × AttrObj A → Name ℕ × Attribute A) (a : Result (Key × AttrObj A) (ParseFault A)) → ((p : Key × AttrObj A) → a ≡ Ok p → IsEntry text p (meant p)) → IfOk a (λ p. IsEntry text p (meant p))
  if_ok text meant (Ok d) h = h d refl
  if_ok text meant (Err fault) h = tt

  -- an entry that was parsed is allowed, or its key is reserved; one that was not parsed is the same error
  pub may_keep : {raw : Text → Outcome (Name ℕ × Attribute A)} {old mid new : S} (place : Place) (a r : Result (Key × AttrObj A) (ParseFault A)) → MayMean l.view l.at (IsEntry (whole (l.view old))) raw old a mid
      → IsPlaceAfter place (l.view old).passed → Allows l.view l.at place a mid r new → MayMean l.view l.at (IsEntry (whole (l.view old))) (λ t. allowed (raw t)) old r new
  may_keep {raw = raw} {old = old} {mid = mid} {new = new} place a r h p k =
      let m = meant_of (whole (l.view old)) h.meant a h.means in
      record {
        meant = h.meant;
        means = if_ok (whole (l.view old)) h.meant r (still_means (whole (l.view old)) h.meant place a r mid new m k);
        read = record { answers = subst (λ o. Answers l.view l.at h.meant o old r new) (allowed_unless (l.view old).failed (raw (l.view old).rest)) (keeps h.meant (whole (l.view old)) (unless_failed (l.view old).failed (raw (l.view old).rest)) place a old mid new r p m h.read.answers k) };
      }
