-- For callers: what is noted of one name while a root is parsed once more, and what the notes say of the scopes of the name. A place is
-- the number of characters from it to the end of the text.
use Rattle.std.specs.Prelude.{◌≡◌, ℕ, zero, suc, ◌-◌, Bool, true, false, cond, ◌||◌, ◌&&◌, List, [], ◌∷◌, ◌++◌, length, take, flat_map, Option, None, Some, is_some, slice_get, ⊤}
use Rattle.std.specs.Str.{bytes_eq}
use Rattle.irtext_base.specs.Text.{Text}
use Rattle.irtext_base.specs.SameLocations.{same_position}
use Rattle.irtext_base.specs.Answers.{Outcome}
use Rattle.irtext_base.specs.Locations.{AttrView}
use Rattle.irtext_context.specs.Dialects.{Table}
use Rattle.irtext_stream.specs.Stream.{cut}
use Rattle.irtext_stream.specs.Text.{line_after, column_after}
use Rattle.irtext_stream.specs.declared.position.SourcePosition.{SourcePosition}
use Rattle.irtext_grammar.specs.Grammar.Tree as tree
use Rattle.irtext_grammar.specs.Grammar.Tree.{Name, Piece, Part, Head}
use Rattle.irtext_grammar.specs.Reached.{Reached, Advanced, Stopped, Actions, operation_at}
use Rattle.irtext_survey.specs.declared.notes.Mention.{Mention}
use Rattle.irtext_survey.specs.declared.notes.Mention.TheVariants.{UsesValue, UsesLabel, DefinesValue, DefinesLabel}
use Rattle.irtext_survey.specs.declared.notes.Note.{Note}
use Rattle.irtext_survey.specs.declared.notes.Note.TheVariants.{Mentions, Enters, Leaves}

-- the names, mentioned in this way
abbrev pub mentioned : {P : Type 0} → Mention → List (Name P) → List (Mention × Name P)
mentioned m [] = []
mentioned m (n ∷ ns) = (m, n) ∷ mentioned m ns

-- the names of arguments
abbrev pub argument_names : {P T : Type 0} → List (Name P × T) → List (Mention × Name P)
argument_names [] = []
argument_names (a ∷ rest) = (DefinesValue, a.0) ∷ argument_names rest

module _ {P T A : Type 0} where
  -- the names that a piece uses
  abbrev pub piece_uses : Piece P T A → List (Mention × Name P)
  piece_uses (tree.operand i n) = (UsesValue, n) ∷ []
  piece_uses (tree.operands ns) = mentioned UsesValue ns
  piece_uses (tree.successor i n) = (UsesLabel, n) ∷ []
  piece_uses (tree.successors ns) = mentioned UsesLabel ns
  piece_uses _ = []

  -- the names that a part uses
  abbrev pub part_uses : Part P T A → List (Mention × Name P)
  part_uses (tree.piece p) = piece_uses p
  part_uses _ = []

  -- the names that the header of a block defines, those of its arguments first
  abbrev pub head_names : Head P T A → List (Mention × Name P)
  head_names h = argument_names h.arguments ++ (DefinesLabel, h.label) ∷ []

-- a note for each of the mentions of this name
abbrev pub notes_of : {P : Type 0} → Text → List (Mention × Name P) → List (Note P)
notes_of name [] = []
notes_of name (m ∷ ms) = cond (bytes_eq m.1.text name) (Mentions m.0 m.1.place ∷ notes_of name ms) (notes_of name ms)

-- what was noted: the notes, and whether an operation or a block has a mark
pub record Noted : Type 0 where
  pub notes : List (Note ℕ)
  pub marked : Bool

-- nothing was noted
abbrev pub nothing_noted : Noted
nothing_noted = record { notes = []; marked = false }

-- these notes were added
abbrev pub with_notes : Noted → List (Note ℕ) → Noted
with_notes s more = record { notes = s.notes ++ more; marked = s.marked }

-- a mark may have come
abbrev pub with_mark : Noted → Bool → Noted
with_mark s is_marked = record { notes = s.notes; marked = s.marked || is_marked }

-- what parsing notes of a name
abbrev pub noter : {T A : Type 0} → Text → Actions T A Noted
noter name = record {
  uses = λ place id parts s. with_notes s (notes_of name (flat_map part_uses parts));
  late = λ place id piece s. with_notes s (notes_of name (piece_uses piece));
  enters = λ iso s. with_notes s (Enters iso ∷ []);
  leaves = λ iso place s. with_notes s (Leaves iso place ∷ []);
  closes = λ place names id parts s. with_notes s (notes_of name (mentioned DefinesValue names));
  marks = λ mark s. with_mark s (is_some mark);
  heads = λ h s. with_notes (with_mark s (is_some h.mark)) (notes_of name (head_names h));
  any_key = true;
}

-- the state that a parse reached, also if it is stuck
abbrev pub state_of : {X S : Type 0} → Reached X S → S
state_of (Advanced x s rest) = s
state_of (Stopped s cause place) = s

-- what is noted of a name in the operation with which the text begins, up to its end or to the first error of the text
abbrev pub noted_in : {T A : Type 0} → List (Text × Table) → (Text → Outcome T) → (Text → Outcome (AttrView A)) → Text → Text → Noted
noted_in dialects types_at attr name text = state_of (operation_at dialects types_at attr (noter name) true text nothing_noted)

-- ---- scopes
-- both mentions are of the same kind
abbrev pub same_mention : Mention → Mention → Bool
same_mention UsesValue UsesValue = true
same_mention UsesLabel UsesLabel = true
same_mention DefinesValue DefinesValue = true
same_mention DefinesLabel DefinesLabel = true
same_mention _ _ = false

-- a region has a scope of its own for such a mention: always for labels, and for values if its operation is isolated
abbrev pub has_scope : Mention → Bool → Bool
has_scope UsesValue iso = iso
has_scope UsesLabel iso = true
has_scope DefinesValue iso = iso
has_scope DefinesLabel iso = true

-- the mention defines the name
abbrev pub defines : Mention → Bool
defines DefinesValue = true
defines DefinesLabel = true
defines _ = false

module _ {P : Type 0} where
  -- What a look for the first such mention has found, and in how many scopes inside of the one that it looks at it is, before a note, given
  -- the same after the note; none if the scope begins there.
  abbrev pub back_over : Mention → Note P → ℕ × Option P → Option (ℕ × Option P)
  back_over m (Mentions other p) (zero, found) = Some (zero, cond (same_mention other m) (Some p) found)
  back_over m (Mentions other p) (suc k, found) = Some (suc k, found)
  back_over m (Leaves iso p) (k, found) = Some (cond (has_scope m iso) (suc k) k, found)
  back_over m (Enters iso) (zero, found) = cond (has_scope m iso) None (Some (zero, found))
  back_over m (Enters iso) (suc k, found) = Some (cond (has_scope m iso) k (suc k), found)

  -- what is found before so many notes
  abbrev pub first_before : Mention → ℕ → List (Note P) → ℕ × Option P → Option P
  first_before m zero notes (k, found) = found
  first_before m (suc n) notes (k, found) = elim (slice_get notes n) [
    | None ↦ found
    | Some note ↦ elim (back_over m note (k, found)) [ None ↦ found | Some before ↦ first_before m n notes before ]
  ]

  -- the first such mention in the scope that is open after so many notes
  abbrev pub first_in_scope : Mention → ℕ → List (Note P) → Option P
  first_in_scope m n notes = first_before m n notes (zero, None)

  -- the first mention of one kind in the scope, if it has none of another kind
  abbrev pub first_unless : Mention → Mention → ℕ → List (Note P) → Option P
  first_unless m other n notes = cond (is_some (first_in_scope other n notes)) None (first_in_scope m n notes)

  -- the first one that is there
  abbrev pub or_else : Option P → Option P → Option P
  or_else (Some p) other = Some p
  or_else None other = other

  -- the first use that a region leaves without a definition, if it ends after so many notes: of a value, if its operation is isolated, or
  -- else of a label
  abbrev pub first_unresolved : Bool → ℕ → List (Note P) → Option P
  first_unresolved iso n notes = or_else (cond iso (first_unless UsesValue DefinesValue n notes) None) (first_unless UsesLabel DefinesLabel n notes)

  -- whether the operation of the region that ends with a note is isolated, if the region's brace is at such a place
  abbrev pub ended_at : (P → Bool) → Note P → Option Bool
  ended_at is_there (Leaves iso p) = cond (is_there p) (Some iso) None
  ended_at is_there (Mentions m p) = None
  ended_at is_there (Enters iso) = None

  -- how a note defines the name, if it does so at such a place
  abbrev pub defined_at : (P → Bool) → Note P → Option Mention
  defined_at is_there (Mentions m p) = cond (defines m && is_there p) (Some m) None
  defined_at is_there (Leaves iso p) = None
  defined_at is_there (Enters iso) = None

-- what the first note of which something is seen gives, with its index; the first of the notes has this index
abbrev pub first_seen : {P X Y : Type 0} → (Note P → Option X) → (X → ℕ → Option Y) → ℕ → List (Note P) → Option Y
first_seen sees gives n [] = None
first_seen sees gives n (note ∷ ns) = elim (sees note) [ Some x ↦ gives x n | None ↦ first_seen sees gives (suc n) ns ]

-- the line and the column of a place of the text
abbrev pub position_at : Text → ℕ → SourcePosition
position_at text k = record { line = cut (line_after (take (length text - k) text)); column = cut (column_after (take (length text - k) text)) }

-- the place is at this line and this column
abbrev pub is_at : Text → SourcePosition → ℕ → Bool
is_at text at k = same_position (position_at text k) at

-- the first use that the region whose brace is at this position leaves without a definition
abbrev pub first_use : Text → SourcePosition → List (Note ℕ) → Option ℕ
first_use text region notes = first_seen (ended_at (is_at text region)) (λ iso n. first_unresolved iso n notes) 0 notes

-- the first definition in the scope of the one at this position
abbrev pub first_definition : Text → SourcePosition → List (Note ℕ) → Option ℕ
first_definition text second notes = first_seen (defined_at (is_at text second)) (λ m n. first_in_scope m n notes) 0 notes

-- the position is that of the place, or there is none
abbrev pub IsFound : Text → Option ℕ → Option SourcePosition → Type 0
IsFound text None None = ⊤
IsFound text None (Some at) = ⊥
IsFound text (Some k) None = ⊥
IsFound text (Some k) (Some at) = at ≡ position_at text k
