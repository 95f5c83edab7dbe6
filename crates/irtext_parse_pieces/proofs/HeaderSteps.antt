-- How far the parser of a block's header has come: each module adds the part that was parsed next.
use Rattle.std.proofs.Common.{◌≡◌, ◌∙◌, ℕ, false, Result, Ok, Err, List, [], Option, None, refl, sym, ap, codes, subst}
use Rattle.std.specs.Prelude.{Vec}
use Rattle.std.specs.Char.{is_whitespace}
use Rattle.std.specs.Global.{Global}
use Rattle.irtext_base.specs.Answers.{Outcome, mapped, followed}
use Rattle.irtext_base.specs.Locations.{AttrView}
use Rattle.irtext_base.specs.Text.{Text}
use Rattle.irtext_base.specs.declared.base.attributes.AttrObj.{AttrObj}
use Rattle.irtext_base.specs.declared.parsable.fault.ParseFault.{ParseFault}
use Rattle.irtext_scopes.specs.Names.{KeepsNames}
use Rattle.irtext_tokens.specs.Demanded.{spaced_at}
use Rattle.irtext_tokens.specs.ListOutcomes.{separated_at}
use Rattle.irtext_tokens.specs.MustRead.{MustRead}
use Rattle.irtext_tokens.specs.Reads.{TakesFront}
use Rattle.irtext_tokens.specs.Tokens.{space_at, text_at}
use Rattle.irtext_tokens.proofs.Steps.{Lens, Passed, mapped_followed, mapped_mapped, starts, turned, first, spaced, more, refuses, refuses_seen, last_seen, fine_there}
use Rattle.irtext_grammar.specs.Grammar.Tree.{Name, Mark, Attribute, Head}
use Rattle.irtext_grammar.specs.Heads.{label_at, argument_at, mark_if_at, head_at}
use Rattle.irtext_grammar.specs.declared.parsed.Key.{Key}
use Rattle.irtext_grammar.specs.declared.parsed.ReadMark.{ReadMark}
use Rattle.irtext_grammar.specs.declared.parsed.ReadName.{ReadName}
use Rattle.irtext_parse_pieces.specs.Beside.{closed, paired}
use Rattle.irtext_parse_pieces.specs.Arguments.{IsArgument, MustArguments}
use Rattle.irtext_grammar.specs.Parsed.{AreEntries, IsMarkIf, Each, Optional}
use Rattle.irtext_parse_pieces.specs.Entries.{MustDictionaryIf, dictionary_if}
use Rattle.irtext_parse_pieces.specs.Headers.{mark_end_at, head_end_at, MustHeadEnd, MustHead}
use Rattle.irtext_parse_pieces.specs.Named.{whole, MustMean, MustName}
use Rattle.irtext_parse_pieces.proofs.EntrySteps.{first_refused}
use Rattle.irtext_parse_pieces.proofs.Meanings.{must_refuse, passed_whole, still_represents}
use Rattle.irtext_parse_pieces.proofs.NameSteps.{nobody}

-- a header of these parts
abbrev head_of : {T A : Type 0} → Name ℕ → List (Name ℕ × T) → Option (List (Name ℕ × Attribute A)) → Option (Mark ℕ) → Head ℕ T A
head_of label arguments attributes mark = record { label = label; arguments = arguments; attributes = attributes; mark = mark }

-- a header without parts, for when none was parsed
abbrev headless : {T A : Type 0} → Head ℕ T A
headless = head_of nobody [] None None

-- what follows the mark, with the white space
abbrev marked : Option (Mark ℕ) → Text → Outcome (Option (Mark ℕ))
marked mark t = followed (space_at t) (λ _ u. mapped (λ _. mark) (text_at (codes ":") u))

mark_next : {S : Type 0} (l : Lens S) {old mid : S} → (l.view old).failed ≡ false → TakesFront l.view l.at is_whitespace old mid → Passed l mark_end_at (λ u. followed (mark_if_at u) marked) old mid
mark_next l {old = old} fine space = spaced l (λ _ u. followed (mark_if_at u) marked) (starts l mark_end_at mark_end_at old fine refl) space

module _ {S A : Type 0} (l : Lens S) where
  -- the mark or its absence, and the end
  abbrev IsEnd : S → Result (Option ReadMark) (ParseFault A) → S → Type 0
  IsEnd old result new = MustMean {A = A} l.view l.at (IsMarkIf (whole (l.view old))) mark_end_at old result new

  module _ {old s1 : S} (fine : (l.view old).failed ≡ false) (space1 : TakesFront l.view l.at is_whitespace old s1) where
    pub no_mark : {fault : ParseFault A} {new : S} → MustMean l.view l.at (IsMarkIf (whole (l.view s1))) mark_if_at s1 (Err fault) new → IsEnd old (Err fault) new
    no_mark h = must_refuse l (refuses l {sees = λ _. None} marked (mark_next l fine space1) h.read)

    module _ {s2 s3 : S} {mark : Option ReadMark} (read2 : MustMean {A = A} l.view l.at (IsMarkIf (whole (l.view s1))) mark_if_at s1 (Ok mark) s2) (space3 : TakesFront l.view l.at is_whitespace s2 s3) where
      colon_next : Passed l mark_end_at (λ u. mapped (λ _. read2.meant mark) (text_at (codes ":") u)) old s3
      colon_next = spaced l (λ _ u. mapped (λ _. read2.meant mark) (text_at (codes ":") u)) (more l marked (mark_next l fine space1) read2.read) space3

      no_colon : {fault : ParseFault A} {new : S} → MustRead {Y = Unit {0}} l.view l.at (λ u. u) (text_at (codes ":")) s3 (Err fault) new → IsEnd old (Err fault) new
      no_colon h = must_refuse l (refuses_seen l {sees = λ _. None} (λ _. read2.meant mark) colon_next h)

      -- all of it was parsed
      mark_read : {s4 : S} → MustRead {A = A} {Y = Unit {0}} l.view l.at (λ u. u) (text_at (codes ":")) s3 (Ok tt) s4 → IsEnd old (Ok mark) s4
      mark_read h = record {
        meant = λ _. read2.meant mark;
        means = subst (λ t. IsMarkIf t mark (read2.meant mark)) (passed_whole l (mark_next l fine space1)) read2.means;
        read = last_seen l (λ _. read2.meant mark) (λ _. read2.meant mark) mark refl colon_next h;
      }

      -- one or the other
      pub colon_closed : (w : Result (Unit {0}) (ParseFault A)) {r : Result (Option ReadMark) (ParseFault A)} {new : S} → r ≡ closed mark w → MustRead {A = A} {Y = Unit {0}} l.view l.at (λ u. u) (text_at (codes ":")) s3 w new → IsEnd old r new
      colon_closed (Ok u) e h = rw e (mark_read h)
      colon_closed (Err fault) e h = rw e (no_colon h)

  module _ (attr : Text → Outcome (AttrView A)) where
    -- what follows the dictionary
    abbrev ends_attributes : Option (List (Name ℕ × Attribute A)) → Text → Outcome (Option (List (Name ℕ × Attribute A)) × Option (Mark ℕ))
    ends_attributes attributes t = mapped (λ mark. (attributes, mark)) (mark_end_at t)

    -- what follows the parenthesis
    abbrev ends_closing : Unit {0} → Text → Outcome (Option (List (Name ℕ × Attribute A)) × Option (Mark ℕ))
    ends_closing w t = followed (space_at t) (λ _ u. followed (dictionary_if attr u) ends_attributes)

    -- the end is this error
    abbrev NoEnd : S → ParseFault A → S → Type 0
    NoEnd old fault new = MustHeadEnd l.view l.at attr old (Err fault) new

    pub no_closing : {old new : S} {fault : ParseFault A} → MustRead {Y = Unit {0}} l.view l.at (λ u. u) (text_at (codes ")")) old (Err fault) new → NoEnd old fault new
    no_closing h = must_refuse l (first_refused l {sees = λ _. (None, None)} ends_closing h)

    module _ {old s1 s2 : S} (word1 : MustRead {A = A} {Y = Unit {0}} l.view l.at (λ u. u) (text_at (codes ")")) old (Ok tt) s1) (space2 : TakesFront l.view l.at is_whitespace s1 s2) where
      dictionary_next : Passed l (head_end_at attr) (λ u. followed (dictionary_if attr u) ends_attributes) old s2
      dictionary_next = spaced l (λ _ u. followed (dictionary_if attr u) ends_attributes) (first l ends_closing word1) space2

      pub no_dictionary : {fault : ParseFault A} {new : S} → MustDictionaryIf l.view l.at attr s2 (Err fault) new → NoEnd old fault new
      no_dictionary h = must_refuse l (refuses l {sees = λ _. (None, None)} ends_attributes dictionary_next h.read)

      module _ {s3 : S} {attributes : Option (Vec (Key × AttrObj A) Global)} (read3 : MustDictionaryIf {A = A} l.view l.at attr s2 (Ok attributes) s3) where
        end_next : Passed l (head_end_at attr) (ends_attributes (read3.meant attributes)) old s3
        end_next = more l ends_attributes dictionary_next read3.read

        -- all of it was parsed, or what follows the dictionary is an error
        pub end_read : (m : Result (Option ReadMark) (ParseFault A)) {r : Result (Option (Vec (Key × AttrObj A) Global) × Option ReadMark) (ParseFault A)} {s4 : S} → r ≡ paired attributes m → ((l.view s3).failed ≡ false → IsEnd s3 m s4) → MustHeadEnd l.view l.at attr old r s4
        end_read (Ok mark) e h =
            let k = h (fine_there l end_next) in
            rw e (record {
              meant = λ _. (read3.meant attributes, k.meant mark);
              means = (subst (λ t. Optional (AreEntries t) attributes (read3.meant attributes)) (passed_whole l dictionary_next) read3.means, subst (λ t. IsMarkIf t mark (k.meant mark)) (passed_whole l end_next) k.means);
              read = last_seen l (λ _. (read3.meant attributes, k.meant mark)) (λ m. (read3.meant attributes, m)) (attributes, mark) refl end_next k.read;
            })
        end_read (Err fault) e h = let k = h (fine_there l end_next) in rw e (must_refuse l (refuses_seen l {sees = λ _. (None, None)} (λ m. (read3.meant attributes, m)) end_next k.read))

module _ {S T A : Type 0} (l : Lens S) (types : Text → Outcome T) (attr : Text → Outcome (AttrView A)) where
  -- what follows the mark, with the white space
  abbrev after_mark : Name ℕ → List (Name ℕ × T) → Option (List (Name ℕ × Attribute A)) → Option (Mark ℕ) → Text → Outcome (Head ℕ T A)
  after_mark label arguments attributes mark t = followed (space_at t) (λ _ u. mapped (λ _. head_of label arguments attributes mark) (text_at (codes ":") u))

  -- what follows the dictionary, with the white space
  abbrev after_attributes : Name ℕ → List (Name ℕ × T) → Option (List (Name ℕ × Attribute A)) → Text → Outcome (Head ℕ T A)
  after_attributes label arguments attributes t = followed (space_at t) (λ _ u. followed (mark_if_at u) (after_mark label arguments attributes))

  -- what follows the closing parenthesis
  abbrev after_closing : Name ℕ → List (Name ℕ × T) → Unit {0} → Text → Outcome (Head ℕ T A)
  after_closing label arguments w t = followed (space_at t) (λ _ u. followed (dictionary_if attr u) (after_attributes label arguments))

  -- what follows the arguments
  abbrev after_arguments : Name ℕ → List (Name ℕ × T) → Text → Outcome (Head ℕ T A)
  after_arguments label arguments t = followed (text_at (codes ")") t) (after_closing label arguments)

  -- a header with this end
  abbrev head_with : Name ℕ → List (Name ℕ × T) → Option (List (Name ℕ × Attribute A)) × Option (Mark ℕ) → Head ℕ T A
  head_with label arguments end = head_of label arguments end.0 end.1

  mark_closed : (label : Name ℕ) (arguments : List (Name ℕ × T)) (attributes : Option (List (Name ℕ × Attribute A))) (mark : Option (Mark ℕ)) (t : Text) → mapped (λ m. head_of label arguments attributes m) (marked mark t) ≡ after_mark label arguments attributes mark t
  mark_closed label arguments attributes mark t =
      mapped_followed (λ m. head_of label arguments attributes m) (space_at t) (λ _ u. mapped (λ _. mark) (text_at (codes ":") u))
      ∙ ap (followed (space_at t)) (λ i _ u. mapped_mapped (λ m. head_of label arguments attributes m) (λ _. mark) (λ _. head_of label arguments attributes mark) (text_at (codes ":") u) (λ _. refl) i)

  marks_closed : (label : Name ℕ) (arguments : List (Name ℕ × T)) (attributes : Option (List (Name ℕ × Attribute A))) (t : Text) → mapped (λ m. head_of label arguments attributes m) (mark_end_at t) ≡ after_attributes label arguments attributes t
  marks_closed label arguments attributes t =
      mapped_followed (λ m. head_of label arguments attributes m) (space_at t) (λ _ u. followed (mark_if_at u) marked)
      ∙ ap (followed (space_at t)) (λ i _ u. (mapped_followed (λ m. head_of label arguments attributes m) (mark_if_at u) marked ∙ ap (followed (mark_if_at u)) (λ j mark v. mark_closed label arguments attributes mark v j)) i)

  attributes_closed : (label : Name ℕ) (arguments : List (Name ℕ × T)) (attributes : Option (List (Name ℕ × Attribute A))) (t : Text) → mapped (head_with label arguments) (ends_attributes l attr attributes t) ≡ after_attributes label arguments attributes t
  attributes_closed label arguments attributes t =
      mapped_mapped (head_with label arguments) (λ mark. (attributes, mark)) (λ mark. head_of label arguments attributes mark) (mark_end_at t) (λ _. refl) ∙ marks_closed label arguments attributes t

  closing_closed : (label : Name ℕ) (arguments : List (Name ℕ × T)) (w : Unit {0}) (t : Text) → mapped (head_with label arguments) (ends_closing l attr w t) ≡ after_closing label arguments w t
  closing_closed label arguments w t =
      mapped_followed (head_with label arguments) (space_at t) (λ _ u. followed (dictionary_if attr u) (ends_attributes l attr))
      ∙ ap (followed (space_at t)) (λ i _ u. (mapped_followed (head_with label arguments) (dictionary_if attr u) (ends_attributes l attr) ∙ ap (followed (dictionary_if attr u)) (λ j attributes v. attributes_closed label arguments attributes v j)) i)

  -- what follows the arguments is the end of the header
  arguments_closed : (label : Name ℕ) (arguments : List (Name ℕ × T)) (t : Text) → after_arguments label arguments t ≡ mapped (head_with label arguments) (head_end_at attr t)
  arguments_closed label arguments t = sym (mapped_followed (head_with label arguments) (text_at (codes ")") t) (ends_closing l attr) ∙ ap (followed (text_at (codes ")") t)) (λ i w u. closing_closed label arguments w u i))

  -- what follows the opening parenthesis
  abbrev after_opening : Name ℕ → Unit {0} → Text → Outcome (Head ℕ T A)
  after_opening label w t = followed (separated_at 44 (argument_at types attr) t) (after_arguments label)

  -- what follows the label
  abbrev after_label : Name ℕ → Text → Outcome (Head ℕ T A)
  after_label label t = followed (spaced_at (codes "(") t) (after_opening label)

  -- the header is this error
  abbrev NoHead : S → List Text → ParseFault A → S → Type 0
  NoHead old names fault new = MustHead l.view l.at names types attr old (Err fault) new

  -- the result is this, which is required
  abbrev Word : (Text → Outcome (Unit {0})) → S → Result (Unit {0}) (ParseFault A) → S → Type 0
  Word outcome from result to = MustRead l.view l.at (λ u. u) outcome from result to

  -- what is to be parsed next of a header
  abbrev At : S → S → (Text → Outcome (Head ℕ T A)) → Type 0
  At old now next = Passed l (head_at types attr) next old now

  pub no_label : (names : List Text) {old : S} {fault : ParseFault A} {new : S} → MustName l.view l.at names label_at old (Err fault) new → NoHead old names fault new
  no_label names h = must_refuse l (first_refused l {sees = λ _. headless} after_label h.read)

  module _ (names0 : List Text) {old s1 : S} {label : ReadName} (read1 : MustName {A = A} l.view l.at names0 label_at old (Ok label) s1) where
    at1 : At old s1 (after_label (read1.meant label))
    at1 = first l after_label read1.read

    pub no_opening : {fault : ParseFault A} {new : S} → Word (spaced_at (codes "(")) s1 (Err fault) new → NoHead old names0 fault new
    no_opening h = must_refuse l (refuses l {sees = λ _. headless} (after_opening (read1.meant label)) at1 h)

    module _ {s2 : S} (word2 : Word (spaced_at (codes "(")) s1 (Ok tt) s2) (names : List Text) where
      at2 : At old s2 (after_opening (read1.meant label) tt)
      at2 = more l (after_opening (read1.meant label)) at1 word2

      pub no_arguments : {fault : ParseFault A} {new : S} → MustArguments l.view l.at names (separated_at 44 (argument_at types attr)) s2 (Err fault) new → NoHead old names fault new
      no_arguments h = must_refuse l (refuses l {sees = λ _. headless} (after_arguments (read1.meant label)) at2 h.read)

      module _ {s3 : S} {arguments : List (ReadName × T)} (read3 : MustArguments {A = A} l.view l.at names (separated_at 44 (argument_at types attr)) s2 (Ok arguments) s3) where
        at3 : At old s3 (λ t. mapped (head_with (read1.meant label) (read3.meant arguments)) (head_end_at attr t))
        at3 =
            turned l (λ t. mapped (head_with (read1.meant label) (read3.meant arguments)) (head_end_at attr t)) (arguments_closed (read1.meant label) (read3.meant arguments) (l.view s3).rest)
            (more l (after_arguments (read1.meant label)) at2 read3.read)

        pub no_end : {fault : ParseFault A} {new : S} → MustHeadEnd l.view l.at attr s3 (Err fault) new → NoHead old names fault new
        no_end h = must_refuse l (refuses_seen l {sees = λ _. headless} (head_with (read1.meant label) (read3.meant arguments)) at3 h.read)

        -- all of it was parsed
        pub head_read : {s4 : S} {attributes : Option (Vec (Key × AttrObj A) Global)} {mark : Option ReadMark} → KeepsNames names0 names → MustHeadEnd {A = A} l.view l.at attr s3 (Ok (attributes, mark)) s4
            → MustHead {A = A} l.view l.at names types attr old (Ok (record { label = label; arguments = arguments; attributes = attributes; mark = mark })) s4
        head_read {attributes = attributes} {mark = mark} keeps h =
            let end = h.meant (attributes, mark) in
            record {
              meant = λ _. head_with (read1.meant label) (read3.meant arguments) end;
              means = record {
                label = still_represents names0 names label (read1.meant label) keeps refl read1.means;
                arguments = subst (λ t. Each (IsArgument names t) arguments (read3.meant arguments)) (passed_whole l at2) read3.means;
                attributes = subst (λ t. Optional (AreEntries t) attributes end.0) (passed_whole l at3) h.means.0;
                mark = subst (λ t. IsMarkIf t mark end.1) (passed_whole l at3) h.means.1;
              };
              read = last_seen l (λ _. head_with (read1.meant label) (read3.meant arguments) end) (head_with (read1.meant label) (read3.meant arguments)) (record { label = label; arguments = arguments; attributes = attributes; mark = mark }) refl at3 h.read;
            }
