-- What is found in the notes of a root is what the definitions say of the text.
use Rattle.std.proofs.Common.{◌≡◌, ℕ, Bool, true, false, List, Option, sym, ap, subst}
use Rattle.irtext_base.specs.Text.{Text}
use Rattle.irtext_base.specs.Stream.{StreamView}
use Rattle.irtext_base.specs.Locations.{AttrView}
use Rattle.irtext_stream.specs.declared.position.Place.{Place}
use Rattle.irtext_stream.specs.declared.position.SourcePosition.{SourcePosition}
use Rattle.irtext_context.specs.Dialects.{Table}
use Rattle.irtext_tokens.specs.Infix.{Reader}
use Rattle.irtext_grammar.specs.Contexts.Held.{whole}
use Rattle.irtext_grammar.specs.Parsed.{Leaves, Each, Optional}
use Rattle.irtext_survey.specs.Notes.{Noted, noted_in, state_of, IsFound}
use Rattle.irtext_survey.specs.Walk.{IsNote, IsNoted}
use Rattle.irtext_survey.specs.Root.{NotesTree}
use Rattle.irtext_survey.specs.Found.{Finds}
use Rattle.irtext_survey.specs.declared.notes.Note.{Note}
use Rattle.irtext_survey.specs.declared.opening.Notebook.{Notebook}
use Rattle.irtext_survey.proofs.Stepping.{moved_whole}

module _ {T A : Type 0} (types_at : Reader T) (attr : Reader (AttrView A)) (dialects : List (Text × Table)) (name : Text) (old : StreamView) (book : Notebook) (new : StreamView) where
  -- whether or not the text has an error
  pub noted_there : (is_whole : Bool) → NotesTree types_at attr dialects name old is_whole book new → IsNoted (whole old) book (noted_in dialects types_at attr name old.rest) × (whole new ≡ whole old)
  noted_there true r = (subst (IsNoted (whole old) book) (ap state_of (sym r.read)) r.noted, moved_whole old new r.moves)
  noted_there false r = (subst (IsNoted (whole old) book) (ap state_of (sym r.read)) r.noted, r.same)

  module _ (looked : Text → List (Note ℕ) → Option ℕ) (is_whole : Bool) (noted : NotesTree types_at attr dialects name old is_whole book new) where
    pub found_by : (place : Option Place) → ((seen : List (Note ℕ)) → Each (IsNote (whole new)) book.notes.items seen → Optional (Leaves (whole new)) place (looked (whole new) seen))
        → (found : Option SourcePosition) → ((left : Option ℕ) → Optional (Leaves (whole new)) place left → IsFound (whole new) left found) → Finds types_at attr dialects name looked old found
    found_by place looks found located =
        let n = noted_there is_whole noted in
        let s : Noted = noted_in dialects types_at attr name old.rest in
        let there : IsFound (whole new) (looked (whole new) s.notes) found = located (looked (whole new) s.notes) (looks s.notes (subst (λ t. IsNoted t book s) (sym n.1) n.0).notes) in
        subst (λ t. IsFound t (looked t s.notes) found) n.1 there

    pub text_stays : whole new ≡ whole old
    text_stays = (noted_there is_whole noted).1
