-- Steps of the parsers of an entry's head.
use Rattle.std.proofs.Common.{◌≡◌, ℕ, Bool, true, false, cond, not, ◌&&◌, is_some, Ok, Err, List, [], ◌++◌, length, refl, sym, ap, ap₂, subst, append-nil, ◌⊎◌, inl, inr, Option, Some, None}
use Rattle.std.specs.Map.{lookup}
use Rattle.irtext_base.specs.Text.{Text}
use Rattle.irtext_base.specs.Stream.{StreamView}
use Rattle.irtext_base.specs.Faults.{Fault, UnknownIndex}
use Rattle.irtext_base.specs.Answers.{Outcome, Read, Missing, Bad, Takes, RunsOut, Commits, Refuses, Gives, demanded, unless_failed}
use Rattle.irtext_base.specs.declared.parsable.fault.ParseFault.{ParseFault}
use Rattle.irtext_base.proofs.Compose.{takes_same_stream, same_stream_failed, refuses_mapped_demanded}
use Rattle.irtext_stream.specs.Places.{IsPlaceAfter}
use Rattle.irtext_stream.specs.declared.position.Place.{Place}
use Rattle.irtext_context.specs.declared.base.item.Item.{Item}
use Rattle.irtext_parse_state.specs.States.{same_index}
use Rattle.irtext_tokens.specs.Demanded.{index_at}
use Rattle.irtext_tokens.specs.MustRead.{MustRead}
use Rattle.irtext_tokens.proofs.SetBack.{set_within}
use Rattle.irtext_tokens.proofs.Steps.{alone, seen_alone}
use Rattle.irtext_grammar.specs.Heads.{mark_at}
use Rattle.irtext_grammar.specs.Grammar.Tree.{Mark}
use Rattle.irtext_parse_section.specs.OnlyPaths.{may_follow}
use Rattle.irtext_grammar.specs.Readers.Operations.{RefusesAt}
use Rattle.irtext_grammar.specs.Readers.Streams.{itself, replaced}
use Rattle.irtext_grammar.specs.Parsed.{IsMark}
use Rattle.irtext_parse_pieces.specs.Named.{whole, MustMean}
use Rattle.irtext_grammar.specs.declared.parsed.ReadMark.{ReadMark}
use Rattle.irtext_grammar.specs.Entries.{begins_given, tested, entry_head_at}
use Rattle.irtext_parse_section.specs.Entries.{IsHead, next_item}
use Rattle.irtext_parse_section.specs.declared.entry.EntryHead.{EntryHead}

-- the mark of an index, at a place
abbrev pub a_mark : ℕ → ℕ → Mark ℕ
a_mark place i = record { place = place; index = i }

module _ {A : Type 0} {old new : StreamView} where
  -- an index that was parsed is one of a mark
  pub mark_read : {i : ℕ} → MustRead {A = A} itself replaced (λ n. n) index_at old (Ok i) new → MustRead {A = A} itself replaced (λ n. a_mark (length old.rest) n) mark_at old (Ok i) new
  mark_read {i = i} h = record { answers = (seen_alone alone {A = A} (λ n. a_mark (length old.rest) n) (a_mark (length old.rest)) i refl h).answers }

  -- so is one that was not
  pub mark_unread : {fault : ParseFault A} → MustRead {Y = ℕ} itself replaced (λ n. n) index_at old (Err fault) new → MustRead {Y = ℕ} itself replaced (λ n. a_mark (length old.rest) n) mark_at old (Err fault) new
  mark_unread {fault = fault} h = record { answers = refuses_mapped_demanded itself replaced alone.view_at alone.at_at (a_mark (length old.rest)) old.failed (index_at old.rest) old new fault h.answers }

found : {X Y : Type 0} (s : Option Y) (m : Option X) (x : X) → cond (is_some s) None m ≡ Some x → ((is_some m && not (is_some s)) ≡ true) × (m ≡ Some x)
found None (Some y) x e = (refl, e)
found None None x e = absurd (cc e)
found (Some z) m x e = absurd (cc e)

lost : {X Y : Type 0} (s : Option Y) (m : Option X) → cond (is_some s) None m ≡ None → (is_some m && not (is_some s)) ≡ false
lost None None e = refl
lost None (Some y) e = absurd (cc e)
lost (Some z) None e = refl
lost (Some z) (Some y) e = refl

-- the item is found exactly where the index passes
pub next_found : {X Y : Type 0} (marks : List (ℕ × X)) (seen : List (ℕ × Y)) (i : ℕ) (x : X) → next_item marks seen i ≡ Some x → (may_follow marks seen i ≡ true) × (lookup (same_index i) marks ≡ Some x)
next_found marks seen i x e = found (lookup (same_index i) seen) (lookup (same_index i) marks) x e

-- none is found exactly where the index does not pass
pub none_found : {X Y : Type 0} (marks : List (ℕ × X)) (seen : List (ℕ × Y)) (i : ℕ) → next_item marks seen i ≡ None → may_follow marks seen i ≡ false
none_found marks seen i e = lost (lookup (same_index i) seen) (lookup (same_index i) marks) e

module _ (test : ℕ → Bool) where
  short : (b : Bool) (o : Outcome (Mark ℕ)) (x : Mark ℕ) (old new : StreamView) → Gives itself replaced (demanded (unless_failed b o)) old x new → begins_given new.rest ≡ false → Gives itself replaced (demanded (unless_failed b (tested test o))) old x new
  short true o x old new h e = absurd h
  short false (Read m t r) x old new h e =
      let g : begins_given r ≡ false = subst (λ z. begins_given z ≡ false) (ap (λ (v : StreamView). v.rest) h.1.is) e in
      let b : (begins_given r && not (test m.index)) ≡ false = ap (λ z. z && not (test m.index)) g in
      subst (λ z. Gives itself replaced (demanded (cond z (Bad (UnknownIndex m.index) []) (Read m t r))) old x new) (sym b) h
  short false (Missing cause) x old new h e = absurd h
  short false (Bad cause upto) x old new h e = absurd h

  passes : (b : Bool) (o : Outcome (Mark ℕ)) (x : Mark ℕ) (old new : StreamView) → Gives itself replaced (demanded (unless_failed b o)) old x new → begins_given new.rest ≡ true → test x.index ≡ true → Gives itself replaced (demanded (unless_failed b (tested test o))) old x new
  passes true o x old new h e f = absurd h
  passes false (Read m t r) x old new h e f =
      let g : begins_given r ≡ true = subst (λ z. begins_given z ≡ true) (ap (λ (v : StreamView). v.rest) h.1.is) e in
      let k : test m.index ≡ true = subst (λ (m : Mark ℕ). test m.index ≡ true) h.0 f in
      let b : (begins_given r && not (test m.index)) ≡ false = ap₂ (λ y z. y && not z) g k in
      subst (λ z. Gives itself replaced (demanded (cond z (Bad (UnknownIndex m.index) []) (Read m t r))) old x new) (sym b) h
  passes false (Missing cause) x old new h e f = absurd h
  passes false (Bad cause upto) x old new h e f = absurd h

module _ {A : Type 0} where
  -- a fault at an earlier place of the text is one of what was parsed from there
  pub refused_there : (cause : Fault) (place : Place) (old mid new : StreamView) (fault : ParseFault A) (t r : Text) → Takes itself replaced t r old mid → IsPlaceAfter place old.passed → RefusesAt itself replaced cause place mid fault new → Commits itself replaced cause [] old fault new
  refused_there cause place old mid new fault t r k p h = record {
    because = h.because;
    committed = h.committed;
    place = h.position (old.passed ++ []) old.rest (rw append-nil (set_within alone old mid (takes_same_stream itself replaced alone.view_at alone.at_at old mid t r k))) (rw append-nil p);
    left = same_stream_failed itself replaced alone.view_at alone.at_at old.failed old mid new (takes_same_stream itself replaced alone.view_at alone.at_at old mid t r k) h.left;
  }

  module _ (test : ℕ → Bool) where
    fails : (b : Bool) (o : Outcome (Mark ℕ)) (x : Mark ℕ) (place : Place) (old mid new : StreamView) (fault : ParseFault A) → Gives itself replaced (demanded (unless_failed b o)) old x mid → begins_given mid.rest ≡ true → test x.index ≡ false
        → IsPlaceAfter place old.passed → RefusesAt itself replaced (UnknownIndex x.index) place mid fault new → RunsOut itself replaced old fault new ⊎ Refuses itself replaced (demanded (unless_failed b (tested test o))) old fault new
    fails true o x place old mid new fault h e f p k = absurd h
    fails false (Read m t r) x place old mid new fault h e f p k =
        let g : begins_given r ≡ true = subst (λ z. begins_given z ≡ true) (ap (λ (v : StreamView). v.rest) h.1.is) e in
        let j : test m.index ≡ false = subst (λ (m : Mark ℕ). test m.index ≡ false) h.0 f in
        let b : (begins_given r && not (test m.index)) ≡ true = ap₂ (λ y z. y && not z) g j in
        subst (λ z. RunsOut itself replaced old fault new ⊎ Refuses itself replaced (demanded (cond z (Bad (UnknownIndex m.index) []) (Read m t r))) old fault new) (sym b) (inr (subst (λ (m : Mark ℕ). Commits itself replaced (UnknownIndex m.index) [] old fault new) h.0 (refused_there (UnknownIndex x.index) place old mid new fault t r h.1 p k)))
    fails false (Missing cause) x place old mid new fault h e f p k = absurd h
    fails false (Bad cause upto) x place old mid new fault h e f p k = absurd h

    unread : (b : Bool) (o : Outcome (Mark ℕ)) (old new : StreamView) (fault : ParseFault A) → RunsOut itself replaced old fault new ⊎ Refuses itself replaced (demanded (unless_failed b o)) old fault new → RunsOut itself replaced old fault new ⊎ Refuses itself replaced (demanded (unless_failed b (tested test o))) old fault new
    unread b o old new fault (inl h) = inl h
    unread true o old new fault (inr h) = inr h
    unread false (Read x t q) old new fault (inr h) = absurd h
    unread false (Missing cause) old new fault (inr h) = inr h
    unread false (Bad cause upto) old new fault (inr h) = inr h

    -- after the index, the entry does not go on as that of an item
    pub head_short : {old mid : StreamView} {mark : ReadMark} (x : Option Item) → MustMean {A = A} itself replaced (IsMark (whole old)) entry_head_at old (Ok mark) mid → begins_given mid.rest ≡ false
        → MustMean {A = A} itself replaced (IsHead (whole old)) (λ t. tested test (entry_head_at t)) old (Ok (record { mark = mark; item = x })) mid
    head_short {old = old} {mid = mid} {mark = mark} x h e =
        record { meant = λ (y : EntryHead). h.meant y.mark; means = h.means; read = record { answers = short test old.failed (entry_head_at old.rest) (h.meant mark) old mid h.read.answers e } }

    -- an item's entry goes on, and its index passes
    pub head_passes : {old mid : StreamView} {mark : ReadMark} (x : Option Item) → MustMean {A = A} itself replaced (IsMark (whole old)) entry_head_at old (Ok mark) mid → begins_given mid.rest ≡ true → test mark.index ≡ true
        → MustMean {A = A} itself replaced (IsHead (whole old)) (λ t. tested test (entry_head_at t)) old (Ok (record { mark = mark; item = x })) mid
    head_passes {old = old} {mid = mid} {mark = mark} x h e f =
        record {
          meant = λ (y : EntryHead). h.meant y.mark;
          means = h.means;
          read = record { answers = passes test old.failed (entry_head_at old.rest) (h.meant mark) old mid h.read.answers e (subst (λ i. test i ≡ true) h.means.indexed f) };
        }

    -- an item's entry goes on, but its index fails
    pub head_fails : {old mid new : StreamView} {mark : ReadMark} {fault : ParseFault A} → MustMean {A = A} itself replaced (IsMark (whole old)) entry_head_at old (Ok mark) mid → begins_given mid.rest ≡ true → test mark.index ≡ false
        → IsPlaceAfter mark.at old.passed → RefusesAt itself replaced (UnknownIndex mark.index) mark.at mid fault new
        → MustMean {A = A} itself replaced (IsHead (whole old)) (λ t. tested test (entry_head_at t)) old (Err fault) new
    head_fails {old = old} {mid = mid} {new = new} {mark = mark} {fault = fault} h e f p k =
        record {
          meant = λ _. a_mark 0 0;
          means = tt;
          read = record {
            answers = fails old.failed (entry_head_at old.rest) (h.meant mark) mark.at old mid new fault h.read.answers e (subst (λ i. test i ≡ false) h.means.indexed f) p
                (subst (λ i. RefusesAt itself replaced (UnknownIndex i) mark.at mid fault new) h.means.indexed k);
          };
        }

    -- there was no index
    pub head_unread : {old new : StreamView} {fault : ParseFault A} → MustMean {A = A} itself replaced (IsMark (whole old)) entry_head_at old (Err fault) new
        → MustMean {A = A} itself replaced (IsHead (whole old)) (λ t. tested test (entry_head_at t)) old (Err fault) new
    head_unread {old = old} {new = new} {fault = fault} h = record { meant = λ _. a_mark 0 0; means = tt; read = record { answers = unread old.failed (entry_head_at old.rest) old new fault h.read.answers } }
