-- What the parsers of parts found or missed, with what was noted.
use Rattle.std.proofs.Common.{◌≡◌, ◌∙◌, inl, inr, ℕ, Bool, true, false, Result, Ok, Err, IfOk, List, [], ◌∷◌, ◌++◌, codes, length, drop, Option, Some, None, refl, sym, ap, subst, is_some, ◌||◌, flat_map}
use Rattle.std.specs.Char.{is_whitespace}
use Rattle.irtext_base.specs.Text.{Text, front, after}
use Rattle.irtext_base.specs.Stream.{StreamView}
use Rattle.irtext_base.specs.Faults.{id_of}
use Rattle.irtext_base.specs.FormatViews.{format_of}
use Rattle.irtext_base.specs.Answers.{Outcome, Read, Missing, Bad, Takes, SameStream, Refuses, RunsOutHere, demanded, unless_failed}
use Rattle.irtext_base.specs.Locations.{AttrView}
use Rattle.irtext_base.specs.declared.base.identifier.OpId.{OpId}
use Rattle.irtext_base.specs.declared.parsable.fault.ParseFault.{ParseFault}
use Rattle.irtext_context.specs.Dialects.{Table}
use Rattle.irtext_context.specs.declared.dialect.OpInfo.{OpInfo}
use Rattle.irtext_tokens.specs.AttrTexts.{attr_at}
use Rattle.irtext_tokens.specs.Infix.{Reader, ◌▷◌}
use Rattle.irtext_tokens.specs.MustRead.{MayRead, MustRead}
use Rattle.irtext_tokens.specs.Tokens.{space_at, word}
use Rattle.irtext_tokens.proofs.Steps.{alone, starts, spaced, last}
use Rattle.irtext_scopes.specs.Names.{KeepsNames}
use Rattle.irtext_grammar.specs.Contexts.Held.{whole}
use Rattle.irtext_grammar.specs.Grammar.Tree.{Name, Mark}
use Rattle.irtext_grammar.specs.Heads.{Step, steps_of, front_steps, region_steps, led_at, piece_at, mark_if_at, flat, types, one, all, setting}
use Rattle.irtext_grammar.specs.Promises.Root.{UnlessMemory}
use Rattle.irtext_grammar.specs.Promises.Section.{Moves}
use Rattle.irtext_grammar.specs.Reached.{steps_in}
use Rattle.irtext_grammar.specs.Readers.Streams.{itself, replaced}
use Rattle.irtext_grammar.specs.Resume.{front_at}
use Rattle.irtext_grammar.specs.declared.parsed.ReadMark.{ReadMark}
use Rattle.irtext_grammar.specs.declared.parsed.ReadName.{ReadName}
use Rattle.irtext_grammar.specs.declared.parsed.ReadPiece.{ReadPiece}
use Rattle.irtext_grammar.specs.Parsed.{IsMarkIf, Represents, Each, Leaves}
use Rattle.irtext_grammar.proofs.Readers.Answered.{Answered, answered, may_answered}
use Rattle.irtext_parse_pieces.specs.Fronts.{MustFront}
use Rattle.irtext_parse_pieces.specs.Headers.{MustHead}
use Rattle.irtext_parse_pieces.specs.Arguments.{IsArgument}
use Rattle.irtext_parse_pieces.specs.Ids.{IsLed, IsKnown}
use Rattle.irtext_parse_pieces.specs.Named.{MayMean, MustMean}
use Rattle.irtext_parse_pieces.specs.Pieces.{MustPiece}
use Rattle.irtext_parse_pieces.specs.declared.headers.BlockHead.{BlockHead}
use Rattle.irtext_parse_pieces.proofs.Meanings.{may_whole, passed_whole}
use Rattle.irtext_parse_nested.specs.Beginning.{FrontComes}
use Rattle.irtext_parse_nested.proofs.FrontRead.{front_comes, steps_are}
use Rattle.irtext_survey.specs.Notes.{Noted, with_notes, with_mark, notes_of, mentioned, piece_uses, part_uses, argument_names, head_names}
use Rattle.irtext_survey.specs.Walk.{IsNote, IsNoted, IsMention, AreNamed, Notes, Does, read_as, read_uses, all_read, arguments_read, IsMissed, Unread, Begun, NotBegun, PieceRead, HeadRead, EndRead, EndUnread, Entered, NotEntered, Left}
use Rattle.irtext_survey.specs.declared.frames.OpenOperation.{OpenOperation as Held}
use Rattle.irtext_survey.specs.declared.frames.OpenRegion.{OpenRegion}
use Rattle.irtext_survey.specs.declared.notes.Mention.TheVariants.{DefinesValue, DefinesLabel}
use Rattle.irtext_survey.specs.declared.notes.Note.{Note}
use Rattle.irtext_survey.specs.declared.notes.Note.TheVariants as noted
use Rattle.irtext_survey.specs.declared.opening.Notebook.{Notebook}
use Rattle.irtext_stream.specs.declared.position.Place.{Place}
use Rattle.irtext_stream.specs.Places.{IsPlaceAfter}
use Rattle.irtext_survey.proofs.Mentions.{each_join, named_as}
use Rattle.irtext_survey.proofs.Uses.{piece_named, parts_named}

-- ---- faults
same_whole : (old new : StreamView) (failed : Bool) → SameStream itself replaced failed old new → whole new ≡ whole old
same_whole old new failed s = ap whole s.is ∙ s.same

refuses_missed : {X A : Type 0} (o : Outcome X) (old new : StreamView) (fault : ParseFault A) → Refuses itself replaced (demanded o) old fault new → IsMissed o × (whole new ≡ whole old)
refuses_missed (Read x taken rest) old new fault r = absurd r
refuses_missed (Missing cause) old new fault r = (record { cause = cause; upto = []; bad = refl }, same_whole old new true r.left)
refuses_missed (Bad cause upto) old new fault r = (record { cause = cause; upto = upto; bad = refl }, same_whole old new true r.left)

may_missed : {X A : Type 0} (o : Outcome X) (old new : StreamView) (fault : ParseFault A) → Refuses itself replaced o old fault new → IsMissed o × (whole new ≡ whole old)
may_missed (Read x taken rest) old new fault r = absurd r
may_missed (Missing cause) old new fault r = (record { cause = cause; upto = []; bad = refl }, ap whole r.left)
may_missed (Bad cause upto) old new fault r = (record { cause = cause; upto = upto; bad = refl }, same_whole old new true r.left)

-- an allocation failed, or the text is at fault
abbrev pub Faulty : {X A : Type 0} → Outcome X → StreamView → ParseFault A → StreamView → Type 0
Faulty o old fault new = UnlessMemory (λ _. IsMissed o × (whole new ≡ whole old)) fault

module _ {X Y A : Type 0} {see : Y → X} {f : Text → Outcome X} {old new : StreamView} {fault : ParseFault A} where
  pub must_miss : old.failed ≡ false → MustRead {Y = Y} itself replaced see f old (Err fault) new → Faulty (f old.rest) old fault new
  must_miss fine h = elim h.answers [
    | inl ran_out ↦ inl (record { because = ran_out.because; flag = ran_out.committed })
    | inr refused ↦ inr (refuses_missed (f old.rest) old new fault (subst (λ b. Refuses itself replaced (demanded (unless_failed b (f old.rest))) old fault new) fine refused))
  ]

  pub may_miss : old.failed ≡ false → MayRead {Y = Y} itself replaced see f old (Err fault) new → Faulty (f old.rest) old fault new
  may_miss fine h = elim h.answers [
    | inl ran_out ↦ inl (record { because = ran_out.because; flag = ran_out.committed })
    | inr refused ↦ inr (may_missed (f old.rest) old new fault (subst (λ b. Refuses itself replaced (unless_failed b (f old.rest)) old fault new) fine refused))
  ]

-- the error of a full memory
pub no_memory : {A : Type 0} (Says : ParseFault A → Type 0) {old new : StreamView} {fault : ParseFault A} → RunsOutHere itself replaced old fault new → UnlessMemory Says fault
no_memory Says r = inl (record { because = r.because; flag = r.committed })

-- what was not parsed leaves what was noted
pub unread : {X A : Type 0} {o : Outcome X} {old new : StreamView} {fault : ParseFault A} (book : Notebook) → Faulty o old fault new → UnlessMemory (λ _. Unread o book old book new) fault
unread book (inl m) = inl m
unread book (inr r) = inr (record { missed = r.0; same = r.1; still = refl })

moves_of : {X : Type 0} {o : Outcome X} {old new : StreamView} {x : X} → Answered o old x new → Moves old new
moves_of a = record { taken = a.taken; takes = a.takes }

-- ---- regions
-- a note is added at the end
pub noted_more : (text : Text) (old new : Notebook) (n : Note Place) (m : Note ℕ) → new.notes.items ≡ old.notes.items ++ n ∷ [] → new.marked ≡ old.marked → IsNote text n m → Does text (λ s. with_notes s (m ∷ [])) old new
noted_more text old new n m pushed marked is s h = record {
  notes = subst (λ l. Each (IsNote text) l (s.notes ++ m ∷ [])) (sym pushed) (each_join (IsNote text) old.notes.items (n ∷ []) s.notes (m ∷ []) h.notes (is, tt));
  marked = marked ∙ h.marked;
}

-- the stream's position is the place where its rest begins
pub place_here : (v : StreamView) (p : Place) → IsPlaceAfter p v.passed → Leaves (whole v) p (length v.rest)
place_here v p at = record { passed = v.passed; rest = v.rest; same = refl; positioned = at; counts = refl }

pub region_entered : {A : Type 0} (iso : Bool) (old new : StreamView) (book later : Notebook) (at : Place) → IsPlaceAfter at old.passed → MustRead {A = A} itself replaced (λ u. u) (word (codes "{") ▷ space_at) old (Ok tt) new
    → later.notes.items ≡ book.notes.items ++ noted.Enters iso ∷ [] → later.marked ≡ book.marked → Entered iso book old (record { isolated = iso; at = at }) later new
region_entered {A} iso old new book later at here h pushed marked =
    let a = answered {A = A} h in
    record {
      taken = a.taken;
      read = a.is;
      moves = moves_of a;
      is_isolated = refl;
      placed = place_here old at here;
      noted = noted_more (whole old) book later (noted.Enters iso) (noted.Enters iso) pushed marked refl;
    }

pub region_not_entered : {A : Type 0} {fault : ParseFault A} (iso : Bool) (old new : StreamView) (book later : Notebook) → Faulty ((word (codes "{") ▷ space_at) old.rest) old fault new
    → later.notes.items ≡ book.notes.items ++ noted.Enters iso ∷ [] → later.marked ≡ book.marked → UnlessMemory (λ _. NotEntered iso book old later new) fault
region_not_entered iso old new book later (inl m) pushed marked = inl m
region_not_entered iso old new book later (inr r) pushed marked = inr (record { missed = r.0; same = r.1; noted = noted_more (whole old) book later (noted.Enters iso) (noted.Enters iso) pushed marked refl })

pub region_left : {A : Type 0} (r : OpenRegion) (old new : StreamView) (book later : Notebook) → MustRead {A = A} itself replaced (λ u. u) (word (codes "}")) old (Ok tt) new
    → later.notes.items ≡ book.notes.items ++ noted.Leaves r.isolated r.at ∷ [] → later.marked ≡ book.marked → Left r book old later new
region_left {A} r old new book later h pushed marked =
    let a = answered {A = A} h in
    record {
      taken = a.taken;
      read = a.is;
      moves = moves_of a;
      noted = λ place there. noted_more (whole old) book later (noted.Leaves r.isolated r.at) (noted.Leaves r.isolated place) pushed marked (refl, there);
    }

-- ---- an operation's end
mark_same : (text : Text) (read : Option ReadMark) (mark : Option (Mark ℕ)) → IsMarkIf text read mark → is_some read ≡ is_some mark
mark_same text None None e = refl
mark_same text None (Some m) e = absurd e
mark_same text (Some r) None e = absurd e
mark_same text (Some r) (Some m) e = refl

-- a mark after white space
pub mark_spaced : {A : Type 0} {old mid new : StreamView} {result : Result (Option ReadMark) (ParseFault A)} → old.failed ≡ false → Takes itself replaced (front is_whitespace old.rest) (after is_whitespace old.rest) old mid
    → MustMean itself replaced (IsMarkIf (whole mid)) mark_if_at mid result new → MustMean itself replaced (IsMarkIf (whole old)) (space_at ▷ mark_if_at) old result new
mark_spaced {old = old} {result = result} fine k h =
    let p = spaced alone (λ _ t. mark_if_at t) (starts alone (space_at ▷ mark_if_at) (space_at ▷ mark_if_at) old fine refl) k in
    record { meant = h.meant; means = subst (λ t. IfOk result (λ y. IsMarkIf t y (h.meant y))) (passed_whole alone p) h.means; read = last alone p h.read }

-- a mark may have come
marked_more : (text : Text) (book later : Notebook) (read : Option ReadMark) (mark : Option (Mark ℕ)) (s : Noted) → IsMarkIf text read mark → later.notes ≡ book.notes → later.marked ≡ (book.marked || is_some read)
    → IsNoted text book s → IsNoted text later (with_mark s (is_some mark))
marked_more text book later read mark s is notes marked n = record {
  notes = subst (λ v. Each (IsNote text) v.items s.notes) (sym notes) n.notes;
  marked = marked ∙ (ap (λ b. b || is_some read) n.marked ∙ ap (λ b. s.marked || b) (mark_same text read mark is));
}

module _ (name : Text) (names : List Text) (results : List ReadName) (old new : StreamView) (book middle later : Notebook) (nts : Notes names name (read_as DefinesValue results) book middle) where
  results_noted : (ns : List (Name ℕ)) → Each (Represents names (whole old)) results ns → Does (whole old) (λ s. with_notes s (notes_of name (mentioned DefinesValue ns))) book middle
  results_noted ns e s n = nts.so (whole old) (mentioned DefinesValue ns) s (named_as names (whole old) DefinesValue results ns e) n

  pub end_read : {A : Type 0} (mark : Option ReadMark) → MustMean {A = A} itself replaced (IsMarkIf (whole old)) (space_at ▷ mark_if_at) old (Ok mark) new → later.notes ≡ middle.notes → later.marked ≡ (middle.marked || is_some mark)
      → EndRead name names results book old later new
  end_read {A} mark h notes marked =
      let a = answered {A = A} h.read in
      record {
        mark = h.meant mark;
        taken = a.taken;
        read = a.is;
        moves = moves_of a;
        noted = λ ns e s n. marked_more (whole old) middle later mark (h.meant mark) (with_notes s (notes_of name (mentioned DefinesValue ns))) h.means notes marked (results_noted ns e s n);
      }

  pub end_unread : {A : Type 0} {fault : ParseFault A} → Faulty ((space_at ▷ mark_if_at) old.rest) old fault new → UnlessMemory (λ _. EndUnread name names results book old middle new) fault
  end_unread (inl m) = inl m
  end_unread (inr r) = inr (record { missed = r.0; same = r.1; noted = results_noted })

-- ---- a piece
module _ {T A : Type 0} (types_at : Reader T) (attr : Reader (AttrView A)) (name : Text) (step : Step) (names : List Text) (old new : StreamView) (piece : ReadPiece T A)
    (m : MustPiece {A = A} itself replaced names (space_at ▷ piece_at types_at attr (setting true true) step) old (Ok piece) new) where
  pub piece_names : AreNamed names (read_uses piece)
  piece_names = record { text = whole old; all = piece_uses (m.meant piece); are = piece_named names (whole old) piece (m.meant piece) m.means }

  pub piece_read : (before : List Text) (book later : Notebook) → KeepsNames before names → Notes names name (read_uses piece) book later → PieceRead types_at attr name step before book old names later new
  piece_read before book later keeps nts =
      let a = answered {A = A} m.read in
      record {
        piece = m.meant piece;
        taken = a.taken;
        read = a.is;
        moves = moves_of a;
        keeps = keeps;
        noted = λ s n. nts.so (whole old) (piece_uses (m.meant piece)) s (piece_named names (whole old) piece (m.meant piece) m.means) n;
      }

-- ---- the header of a block
arguments_named : {T : Type 0} (names : List Text) (text : Text) (rs : List (ReadName × T)) (us : List (Name ℕ × T)) → Each (IsArgument names text) rs us → Each (IsMention names text) (arguments_read rs) (argument_names us)
arguments_named names text [] [] e = tt
arguments_named names text [] (u ∷ us) e = absurd e
arguments_named names text (r ∷ rs) [] e = absurd e
arguments_named names text (r ∷ rs) (u ∷ us) e = ((refl, e.0.0), arguments_named names text rs us e.1)

module _ {T A : Type 0} (types_at : Reader T) (attr : Reader (AttrView A)) (name : Text) (names : List Text) (old new : StreamView) (head : BlockHead T A) (m : MustHead {A = A} itself replaced names types_at attr old (Ok head) new) where
  named : Each (IsMention names (whole old)) (arguments_read head.arguments ++ (DefinesLabel, head.label) ∷ []) (head_names (m.meant head))
  named = each_join (IsMention names (whole old)) (arguments_read head.arguments) ((DefinesLabel, head.label) ∷ []) (argument_names (m.meant head).arguments) ((DefinesLabel, (m.meant head).label) ∷ [])
      (arguments_named names (whole old) head.arguments (m.meant head).arguments m.means.arguments) ((refl, m.means.label), tt)

  pub head_named : AreNamed names (arguments_read head.arguments ++ (DefinesLabel, head.label) ∷ [])
  head_named = record { text = whole old; all = head_names (m.meant head); are = named }

  pub head_read : (before : List Text) (book middle later : Notebook) → KeepsNames before names → middle.notes ≡ book.notes → middle.marked ≡ (book.marked || is_some head.mark)
      → Notes names name (arguments_read head.arguments ++ (DefinesLabel, head.label) ∷ []) middle later → HeadRead types_at attr name before book old names later new
  head_read before book middle later keeps notes marked nts =
      let a = answered {A = A} m.read in
      record {
        head = m.meant head;
        taken = a.taken;
        read = a.is;
        moves = moves_of a;
        keeps = keeps;
        noted = λ s n. nts.so (whole old) (head_names (m.meant head)) (with_mark s (is_some (m.meant head).mark)) named
            (marked_more (whole old) book middle head.mark (m.meant head).mark s m.means.mark notes marked n);
      }

-- ---- what precedes an operation's first region
-- the steps from the first region on
regions_left : (ss : List Step) → region_steps ss ≡ drop (length (front_steps ss)) ss
regions_left [] = refl
regions_left (one i ∷ ss) = refl
regions_left (all ∷ ss) = refl
regions_left (flat d ∷ ss) = regions_left ss
regions_left (types ∷ ss) = regions_left ss

module _ {T A : Type 0} (types_at : Text → Outcome T) (reading : Text → Outcome A) (dialects : List (Text × Table)) (name : Text) (old : StreamView) (fine : old.failed ≡ false) where
  -- there is no lead
  pub no_lead : {fault : ParseFault A} {new : StreamView} (book : Notebook) → Faulty (led_at dialects old.rest) old fault new → UnlessMemory (λ _. NotBegun types_at (attr_at reading) dialects name book old book new) fault
  no_lead book (inl m) = inl m
  no_lead book (inr r) = inr (record { missed = inl r.0; same = r.1; still = refl })

  module _ {X : Type 0} {names : List Text} {mid : StreamView} (op : List ReadName × OpId × X) (info : OpInfo) (h : MayMean {A = A} itself replaced (IsLed names (whole old)) (led_at dialects) old (Ok op) mid) (known : IsKnown dialects op.1 info)
      (more : List Text) where
    led_is : Answered (led_at dialects old.rest) old (h.meant op) mid
    led_is = may_answered {A = A} h.read

    same_steps : steps_of (format_of info.format) ≡ steps_in dialects (h.meant op).1
    same_steps = sym (steps_are types_at reading dialects true old fine op info h known) ∙ ap (steps_in dialects) h.means.1

    -- a piece is missing
    pub no_front : {fault : ParseFault A} {new : StreamView} (book : Notebook) → MustFront {T = T} itself replaced more types_at (attr_at reading) (setting true true) (steps_of (format_of info.format)) mid (Err fault) new
        → UnlessMemory (λ _. NotBegun types_at (attr_at reading) dialects name book old book new) fault
    no_front {fault} {new} book f = elim (must_miss (ap (λ v. v.failed) led_is.takes.is ∙ fine) f.read) [
      | inl m ↦ inl m
      | inr r ↦ inr (record {
        missed = inr ((h.meant op, led_is.taken, mid.rest), led_is.is, subst (λ ss. IsMissed (front_at types_at (attr_at reading) (setting true true) (front_steps ss) [] mid.rest)) same_steps r.0);
        same = r.1 ∙ may_whole alone {A = A} h.read;
        still = refl;
      })
    ]

    module _ (keeps : KeepsNames names more) (pieces : List (ReadPiece T A)) (new : StreamView) (f : MustFront {A = A} itself replaced more types_at (attr_at reading) (setting true true) (steps_of (format_of info.format)) mid (Ok pieces) new)
        (count : length pieces ≡ length (front_steps (steps_of (format_of info.format)))) where
      comes : FrontComes types_at (attr_at reading) dialects (setting true true) more old op.0 op.1 pieces new
      comes = front_comes types_at reading dialects true old fine op info h known (setting true true) more keeps pieces new f count

      pub front_names : AreNamed more (all_read pieces)
      front_names = record { text = whole old; all = flat_map part_uses comes.parts; are = parts_named more (whole old) pieces comes.parts comes.are }

      pub begun_here : (before : List Text) (book later : Notebook) (b : Held) → b.names ≡ op.0 → b.id ≡ op.1 → b.step ≡ length pieces → KeepsNames before more → Notes more name (all_read pieces) book later
          → Begun types_at (attr_at reading) dialects name before book old b more later new
      begun_here before book later b names_are id_is step_is before_keeps nts = record {
        results = comes.results;
        id = id_of op.1;
        lead = comes.lead;
        middle = comes.middle;
        led = comes.led;
        parts = comes.parts;
        taken = comes.taken;
        front = comes.front;
        moves = comes.moves;
        keeps = before_keeps;
        held = record {
          names_are = subst (λ rs. Each (Represents more (whole old)) rs comes.results) (sym names_are) comes.named;
          id = ap id_of id_is;
          steps = regions_left (steps_in dialects (id_of op.1)) ∙ ap (λ n. drop n (steps_in dialects (id_of op.1))) (sym (step_is ∙ comes.counts));
        };
        noted = λ s n. nts.so (whole old) (flat_map part_uses comes.parts) s (parts_named more (whole old) pieces comes.parts comes.are) n;
      }
