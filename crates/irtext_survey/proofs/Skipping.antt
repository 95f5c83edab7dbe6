-- Whether a root was consumed is whether the text begins with one of the grammar.
use Rattle.std.proofs.Common.{◌≡◌, ◌∙◌, ℕ, Bool, true, false, List, [], Result, Ok, Err, IfOk, OnOk, refl, sym, ap, subst}
use Rattle.irtext_base.specs.Text.{Text}
use Rattle.irtext_base.specs.Answers.{Outcome, Read, demanded}
use Rattle.irtext_base.specs.Format.{Id}
use Rattle.irtext_base.specs.Locations.{AttrView}
use Rattle.irtext_base.specs.Own.{Language}
use Rattle.irtext_base.specs.Stream.{StreamView}
use Rattle.irtext_base.specs.declared.text.IrText as ir_text
use Rattle.irtext_context.specs.Dialects.{Table}
use Rattle.irtext_tokens.specs.AttrTexts.{attr_at}
use Rattle.irtext_grammar.specs.Contexts.Formats.{format_of, isolated, IsAccepted}
use Rattle.irtext_grammar.specs.Contexts.Held.{whole}
use Rattle.irtext_grammar.specs.Grammar.Marked.{marked, section_if}
use Rattle.irtext_grammar.specs.Grammar.Reads as grammar
use Rattle.irtext_grammar.specs.Grammar.Tree.{Tree}
use Rattle.irtext_grammar.specs.Promises.Supported.{supported, location_verdict}
use Rattle.irtext_grammar.specs.Reached.{Reached, Advanced, operation_at, do_tree}
use Rattle.irtext_grammar.proofs.Joins.Attributes.{splits_attr}
use Rattle.irtext_grammar.proofs.Knot.Whole as knot
use Rattle.irtext_grammar.proofs.Readers.Answered.{moves_more}
use Rattle.irtext_grammar.proofs.Whole.{whole_read}
use Rattle.irtext_parse_root.specs.Parses.{texts}
use Rattle.irtext_parse_root.proofs.Laws.{Laws}
use Rattle.irtext_survey.specs.Found.{Skips}
use Rattle.irtext_survey.specs.Notes.{Noted, nothing_noted, noter}
use Rattle.irtext_survey.specs.Root.{NotesTree}
use Rattle.irtext_survey.specs.Section.{section_in, SkipsSection}
use Rattle.irtext_survey.specs.Walk.{IsMissed}
use Rattle.irtext_survey.specs.declared.opening.Notebook.{Notebook}
use Rattle.irtext_survey.proofs.Marking.{marked_noted}
use Rattle.irtext_survey.proofs.SectionRead.{syntax_read, syntax_found}
use Rattle.irtext_survey.proofs.Stepping.{moved_whole}

-- what was parsed and what is left
pub record SameEnd (s : Noted) (left : Text) (t : Noted) (rest : Text) : Type 0 where
  pub state : s ≡ t
  pub text : left ≡ rest

same_end : (s t : Noted) (left rest : Text) (o : Reached Unit Noted) → o ≡ Advanced tt s left → o ≡ Advanced tt t rest → SameEnd s left t rest
same_end s t left rest o e f = record { state = cc (e, f); text = cc (e, f) }

not_missed : {X : Type 0} (o : Outcome X) (x : X) (taken rest : Text) → o ≡ Read x taken rest → IsMissed o → ⊥
not_missed o x taken rest e m = absurd (cc (ap demanded e, m.bad))

module _ {T A : Type 0} {types : ir_text.Ghosts T A} {owns : ir_text.Ghosts A A} (laws : Laws types owns) (dialects : List (Text × Table)) (accepted : (id : Id) → IsAccepted dialects id) (old : StreamView) where
  abbrev attr : Text → Outcome (AttrView A)
  attr = attr_at owns.reading

  abbrev L : Language ℕ T A
  L = supported dialects (texts types) (texts owns)

  -- what the grammar parses as a tree is noted
  module _ (x : Tree ℕ T A) (rest : Text) (r : grammar.reads L x old.rest rest) where
    abbrev noted_by : Noted
    noted_by = do_tree (isolated dialects) (noter []) x nothing_noted

    comes : operation_at dialects types.reading attr (noter []) true old.rest nothing_noted ≡ Advanced tt noted_by rest
    comes = knot.tree_found types.reading types.written owns.reading owns.written dialects laws.types_split laws.splits (noter []) laws.words x old.rest rest nothing_noted r

    says_marked : noted_by.marked ≡ marked x
    says_marked = marked_noted (format_of dialects) (isolated dialects) [] x (whole_read (texts types) (texts owns) (format_of dialects) x old.rest rest r) nothing_noted refl

  module _ (book : Notebook) (mid : StreamView) (r : NotesTree types.reading attr dialects [] old true book mid) where
    read_as : (x : Tree ℕ T A) × grammar.reads L x old.rest mid.rest × (r.s ≡ do_tree (isolated dialects) (noter []) x nothing_noted)
    read_as = knot.tree_read types.reading types.written owns.reading owns.written dialects laws.types_split laws.splits (noter []) accepted old.rest nothing_noted r.s mid.rest r.read

    has_mark : marked read_as.0 ≡ book.marked
    has_mark = sym (r.noted.marked ∙ (ap (λ (s : Noted). s.marked) read_as.2 ∙ says_marked read_as.0 mid.rest read_as.1))

    -- the stream has not failed there
    pub still_fine : old.failed ≡ false → mid.failed ≡ false
    still_fine fine = ap (λ (v : StreamView). v.failed) r.moves.takes.is ∙ fine

    -- a root without a mark was consumed
    pub skips_plain : book.marked ≡ false → Skips types owns dialects old true mid
    skips_plain none = record {
      tree = read_as.0;
      entries = [];
      reads = (mid.rest, read_as.1, subst (λ b. section_if L (location_verdict attr) b [] mid.rest mid.rest) (sym (has_mark ∙ none)) refl);
      moves = r.moves;
    }

    -- one with a mark, if its section follows
    pub skips_marked : book.marked ≡ true → (there : Bool) (new : StreamView) → SkipsSection attr mid there new → Skips types owns dialects old there new
    skips_marked some true new (es, taken, e, moves) =
        let read = syntax_read (texts types) owns.reading owns.written (format_of dialects) laws.splits laws.words (splits_attr owns.reading laws.splits) mid.rest es taken new.rest e in
        record {
          tree = read_as.0;
          entries = es;
          reads = (mid.rest, read_as.1, subst (λ b. section_if L (location_verdict attr) b es mid.rest new.rest) (sym (has_mark ∙ some)) read);
          moves = moves_more r.moves moves;
        }
    skips_marked some false new (missed, same) = record {
      none = λ x es rest (between, reads, after).
          let end = same_end r.s (noted_by x between reads) mid.rest between (operation_at dialects types.reading attr (noter []) true old.rest nothing_noted) r.read (comes x between reads) in
          let is : marked x ≡ true = sym (sym some ∙ (r.noted.marked ∙ (ap (λ (s : Noted). s.marked) end.state ∙ says_marked x between reads))) in
          let there = subst (λ t. section_if L (location_verdict attr) true es t rest) (sym end.text) (subst (λ b. section_if L (location_verdict attr) b es between rest) is after) in
          let f = syntax_found (texts types) owns.reading owns.written (format_of dialects) laws.splits laws.words (splits_attr owns.reading laws.splits) mid.rest es rest there in
          not_missed (section_in attr mid.rest) es f.0 rest f.1 missed;
    }

    pub skips_marked_ok : {E : Type 0} → book.marked ≡ true → (result : Result Bool E) (new : StreamView) → IfOk result (λ there. SkipsSection attr mid there new) → IfOk result (λ there. Skips types owns dialects old there new)
    skips_marked_ok some (Ok there) new h = skips_marked some there new h
    skips_marked_ok some (Err error) new h = tt

    section_whole : (there : Bool) (new : StreamView) → SkipsSection attr mid there new → whole new ≡ whole mid
    section_whole true new (es, taken, e, moves) = moved_whole mid new moves
    section_whole false new (missed, same) = same

    -- the whole text is the same there
    pub same_after : {E : Type 0} (result : Result Bool E) (new : StreamView) → IfOk result (λ there. SkipsSection attr mid there new) → OnOk result (whole new ≡ whole old)
    same_after (Ok there) new h = section_whole there new h ∙ moved_whole old mid r.moves
    same_after (Err error) new h = tt

  -- there is none
  pub skips_none : (book : Notebook) (new : StreamView) → NotesTree types.reading attr dialects [] old false book new → Skips types owns dialects old false new
  skips_none book new r = record {
    none = λ x es rest (between, reads, after). knot.stuck_unread types.reading types.written owns.reading owns.written dialects laws.types_split laws.splits (noter []) laws.words old.rest nothing_noted r.s r.cause r.place r.read x between reads;
  }
