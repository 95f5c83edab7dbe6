-- Between functions: the walk over a root: its frames and its notes in the code represent those of the definitions, and what a step does.
use Rattle.std.specs.Prelude.{◌≡◌, ◌⊎◌, ◌<◌, ℕ, Bool, true, codes, List, [], ◌∷◌, ◌++◌, length, drop, option_to_list, Option, Some, None, Result, Ok, Err, ⊤, is_some}
use Rattle.irtext_base.specs.Text.{Text}
use Rattle.irtext_base.specs.Format.{Id}
use Rattle.irtext_base.specs.Faults.{Fault, id_of}
use Rattle.irtext_base.specs.Answers.{Outcome, Read, Bad, demanded}
use Rattle.irtext_base.specs.Locations.{AttrView}
use Rattle.irtext_base.specs.Stream.{StreamView}
use Rattle.irtext_base.specs.declared.parsable.fault.ParseFault.{ParseFault}
use Rattle.irtext_stream.specs.declared.position.Place.{Place}
use Rattle.irtext_context.specs.Dialects.{Table}
use Rattle.irtext_tokens.specs.Infix.{Reader, ◌▷◌}
use Rattle.irtext_tokens.specs.Tokens.{space_at, word}
use Rattle.irtext_scopes.specs.Names.{KeepsNames}
use Rattle.irtext_grammar.specs.Contexts.Held.{whole}
use Rattle.irtext_grammar.specs.Grammar.Tree.{Name, Mark, Piece, Part, Head}
use Rattle.irtext_grammar.specs.Heads.{Step, front_steps, led_at, head_at, piece_at, mark_if_at, setting}
use Rattle.irtext_grammar.specs.Promises.Root.{UnlessMemory}
use Rattle.irtext_grammar.specs.Promises.Section.{Moves}
use Rattle.irtext_grammar.specs.Reached.{steps_in}
use Rattle.irtext_grammar.specs.Resume.{OpenOperation, Open, an_operation, a_region, a_block, Goes, StoppedAt, front_at, begun, work, by_character}
use Rattle.irtext_grammar.specs.declared.parsed.ReadName.{ReadName}
use Rattle.irtext_grammar.specs.declared.parsed.ReadPiece.{ReadPiece}
use Rattle.irtext_grammar.specs.declared.parsed.ReadPiece.TheVariants as read
use Rattle.irtext_grammar.specs.Parsed.{Leaves, Represents, Each}
use Rattle.irtext_survey.specs.Notes.{Noted, with_notes, with_mark, notes_of, noter, mentioned, piece_uses}
use Rattle.irtext_survey.specs.declared.frames.Frame.{Frame}
use Rattle.irtext_survey.specs.declared.frames.Frame.TheVariants as framed
use Rattle.irtext_survey.specs.declared.frames.OpenOperation.{OpenOperation as Held}
use Rattle.irtext_survey.specs.declared.frames.OpenRegion.{OpenRegion}
use Rattle.irtext_survey.specs.declared.notes.Mention.{Mention}
use Rattle.irtext_survey.specs.declared.notes.Mention.TheVariants.{UsesValue, UsesLabel, DefinesValue}
use Rattle.irtext_survey.specs.declared.notes.Note.{Note}
use Rattle.irtext_survey.specs.declared.notes.Note.TheVariants as noted
use Rattle.irtext_survey.specs.declared.opening.Notebook.{Notebook}

-- ---- notes
-- the note with its place as the definitions have it
abbrev pub IsNote : Text → Note Place → Note ℕ → Type 0
IsNote text (noted.Mentions m p) (noted.Mentions n k) = (m ≡ n) × Leaves text p k
IsNote text (noted.Enters i) (noted.Enters j) = i ≡ j
IsNote text (noted.Leaves i p) (noted.Leaves j k) = (i ≡ j) × Leaves text p k
IsNote text _ _ = ⊥

-- the notebook has what was noted
pub record IsNoted (text : Text) (book : Notebook) (s : Noted) : Type 0 where
  pub notes : Each (IsNote text) book.notes.items s.notes
  pub marked : book.marked ≡ s.marked

-- the names that were parsed, mentioned in this way
abbrev pub read_as : Mention → List ReadName → List (Mention × ReadName)
read_as m [] = []
read_as m (r ∷ rs) = (m, r) ∷ read_as m rs

-- the names that a parsed piece uses
abbrev pub read_uses : {T A : Type 0} → ReadPiece T A → List (Mention × ReadName)
read_uses (read.Operand i n) = (UsesValue, n) ∷ []
read_uses (read.Operands ns) = read_as UsesValue ns
read_uses (read.Successor i n) = (UsesLabel, n) ∷ []
read_uses (read.Successors ns) = read_as UsesLabel ns
read_uses _ = []

-- those of all pieces
abbrev pub all_read : {T A : Type 0} → List (ReadPiece T A) → List (Mention × ReadName)
all_read [] = []
all_read (p ∷ ps) = read_uses p ++ all_read ps

-- the names of arguments that were parsed
abbrev pub arguments_read : {T : Type 0} → List (ReadName × T) → List (Mention × ReadName)
arguments_read [] = []
arguments_read (a ∷ rest) = (DefinesValue, a.0) ∷ arguments_read rest

-- the mention in the code represents this one
abbrev pub IsMention : List Text → Text → Mention × ReadName → Mention × Name ℕ → Type 0
IsMention names text r m = (r.0 ≡ m.0) × Represents names text r.1 m.1

-- the mentions are of names that were parsed
pub record AreNamed (names : List Text) (rs : List (Mention × ReadName)) : Type 0 where
  pub text : Text
  pub all : List (Mention × Name ℕ)
  pub are : Each (IsMention names text) rs all

-- whatever the mentions represent, those of the name were noted
pub record Notes (names : List Text) (name : Text) (rs : List (Mention × ReadName)) (old new : Notebook) : Type 0 where
  pub so : (text : Text) (ms : List (Mention × Name ℕ)) (s : Noted) → Each (IsMention names text) rs ms → IsNoted text old s → IsNoted text new (with_notes s (notes_of name ms))

-- ---- frames
-- the operation in the code represents this one
pub record IsHeld (dialects : List (Text × Table)) (names : List Text) (text : Text) (b : Held) {T A : Type 0} (o : OpenOperation T A) : Type 0 where
  pub names_are : Each (Represents names text) b.names o.names
  pub id : id_of b.id ≡ o.id
  pub steps : o.steps ≡ drop b.step (steps_in dialects o.id)

module _ {T A : Type 0} (dialects : List (Text × Table)) (names : List Text) (text : Text) where
  -- the frame in the code represents this one
  abbrev pub IsOpen : Frame → Open T A → Type 0
  IsOpen (framed.Operation b) (an_operation o) = IsHeld dialects names text b o
  IsOpen (framed.Region r) (a_region iso place) = (r.isolated ≡ iso) × Leaves text r.at place
  IsOpen (framed.Block first) (a_block other) = first ≡ other
  IsOpen _ _ = ⊥

  -- the same of the next frame, if there is one
  abbrev pub IsNext : Option Frame → Option (Open T A) → Type 0
  IsNext None None = ⊤
  IsNext (Some f) (Some o) = IsOpen f o
  IsNext _ _ = ⊥

  -- the frames and the notes in the code represent these
  pub record IsHere (book : Notebook) (next : Option Frame) (waits : List Frame) (f : Option (Open T A)) (fs : List (Open T A)) (s : Noted) : Type 0 where
    pub next_is : IsNext next f
    pub others : Each IsOpen waits fs
    pub noted : IsNoted text book s

-- whatever was noted, this was done to it
abbrev pub Does : Text → (Noted → Noted) → Notebook → Notebook → Type 0
Does text f old new = (s : Noted) → IsNoted text old s → IsNoted text new (f s)

-- the frames and the notes in the code represent some
pub record IsReady (T A : Type 0) (dialects : List (Text × Table)) (names : List Text) (text : Text) (book : Notebook) (next : Option Frame) (waits : List Frame) : Type 0 where
  pub f : Option (Open T A)
  pub fs : List (Open T A)
  pub s : Noted
  pub here : IsHere dialects names text book next waits f fs s

-- a required parser does not find what it parses
pub record IsMissed {X : Type 0} (o : Outcome X) : Type 0 where
  pub cause : Fault
  pub upto : Text
  pub bad : demanded o ≡ Bad cause upto

-- nothing was parsed by a required parser, and nothing was noted
pub record Unread {X : Type 0} (o : Outcome X) (book : Notebook) (old : StreamView) (later : Notebook) (new : StreamView) : Type 0 where
  pub missed : IsMissed o
  pub same : whole new ≡ whole old
  pub still : later ≡ book

-- ---- parts of an operation and of a block
module _ {T A : Type 0} (types_at : Reader T) (attr : Reader (AttrView A)) (dialects : List (Text × Table)) (name : Text) where
  -- what precedes an operation's first region was parsed, and the names that it uses were noted
  pub record Begun (before : List Text) (book : Notebook) (old : StreamView) (b : Held) (names : List Text) (later : Notebook) (new : StreamView) : Type 0 where
    pub results : List (Name ℕ)
    pub id : Id
    pub lead : Text
    pub middle : Text
    pub led : led_at dialects old.rest ≡ Read (results, id) lead middle
    pub parts : List (Part ℕ T A)
    pub taken : Text
    pub front : front_at types_at attr (setting true true) (front_steps (steps_in dialects id)) [] middle ≡ Read parts taken new.rest
    pub moves : Moves old new
    pub keeps : KeepsNames before names
    pub held : IsHeld dialects names (whole old) b (begun {T = T} {A = A} dialects (length old.rest) results id parts)
    pub noted : Does (whole old) ((noter {T = T} {A = A} name).uses (length old.rest) id parts) book later

  -- nothing is noted of an operation whose lead or whose front is at fault
  pub record NotBegun (book : Notebook) (old : StreamView) (later : Notebook) (new : StreamView) : Type 0 where
    pub missed : IsMissed (led_at dialects old.rest) ⊎ ((lead : (List (Name ℕ) × Id) × Text × Text) × (led_at dialects old.rest ≡ Read lead.0 lead.1 lead.2)
        × IsMissed (front_at types_at attr (setting true true) (front_steps (steps_in dialects lead.0.1)) [] lead.2))
    pub same : whole new ≡ whole old
    pub still : later ≡ book

  -- an operation was begun; or an allocation failed, or the text is at fault
  abbrev pub Begins : List Text → Notebook → StreamView → Result Held (ParseFault A) → List Text → Notebook → StreamView → Type 0
  Begins before book old (Ok b) names later new = Begun before book old b names later new
  Begins before book old (Err fault) names later new = UnlessMemory (λ _. NotBegun book old later new) fault

module _ {T A : Type 0} (types_at : Reader T) (attr : Reader (AttrView A)) (name : Text) where
  -- what a step describes was parsed, with white space before it, and the names that it uses were noted
  pub record PieceRead (step : Step) (before : List Text) (book : Notebook) (old : StreamView) (names : List Text) (later : Notebook) (new : StreamView) : Type 0 where
    pub piece : Piece ℕ T A
    pub taken : Text
    pub read : (space_at ▷ piece_at types_at attr (setting true true) step) old.rest ≡ Read piece taken new.rest
    pub moves : Moves old new
    pub keeps : KeepsNames before names
    pub noted : Does (whole old) (λ s. with_notes s (notes_of name (piece_uses piece))) book later

  -- the same; or an allocation failed, or the text is at fault
  abbrev pub ReadsPiece : Step → List Text → Notebook → StreamView → Result (Unit {0}) (ParseFault A) → List Text → Notebook → StreamView → Type 0
  ReadsPiece step before book old (Ok done) names later new = PieceRead step before book old names later new
  ReadsPiece step before book old (Err fault) names later new = UnlessMemory (λ _. Unread ((space_at ▷ piece_at types_at attr (setting true true) step) old.rest) book old later new) fault

  -- the header of a block was parsed, and the names that it defines were noted
  pub record HeadRead (before : List Text) (book : Notebook) (old : StreamView) (names : List Text) (later : Notebook) (new : StreamView) : Type 0 where
    pub head : Head ℕ T A
    pub taken : Text
    pub read : head_at types_at attr old.rest ≡ Read head taken new.rest
    pub moves : Moves old new
    pub keeps : KeepsNames before names
    pub noted : Does (whole old) ((noter name).heads head) book later

  -- the same; or an allocation failed, or the text is at fault
  abbrev pub ReadsHead : List Text → Notebook → StreamView → Result (Unit {0}) (ParseFault A) → List Text → Notebook → StreamView → Type 0
  ReadsHead before book old (Ok done) names later new = HeadRead before book old names later new
  ReadsHead before book old (Err fault) names later new = UnlessMemory (λ _. Unread (head_at types_at attr old.rest) book old later new) fault

-- the names of results were noted, and the mark that comes next was parsed, if one does
pub record EndRead (name : Text) (names : List Text) (results : List ReadName) (book : Notebook) (old : StreamView) (later : Notebook) (new : StreamView) : Type 0 where
  pub mark : Option (Mark ℕ)
  pub taken : Text
  pub read : (space_at ▷ mark_if_at) old.rest ≡ Read mark taken new.rest
  pub moves : Moves old new
  pub noted : (ns : List (Name ℕ)) → Each (Represents names (whole old)) results ns → Does (whole old) (λ s. with_mark (with_notes s (notes_of name (mentioned DefinesValue ns))) (is_some mark)) book later

-- the names of results were noted, and their mark is at fault
pub record EndUnread (name : Text) (names : List Text) (results : List ReadName) (book : Notebook) (old : StreamView) (later : Notebook) (new : StreamView) : Type 0 where
  pub missed : IsMissed ((space_at ▷ mark_if_at) old.rest)
  pub same : whole new ≡ whole old
  pub noted : (ns : List (Name ℕ)) → Each (Represents names (whole old)) results ns → Does (whole old) (λ s. with_notes s (notes_of name (mentioned DefinesValue ns))) book later

-- an operation was ended; or an allocation failed, or its mark is at fault
abbrev pub Ends : {A : Type 0} → Text → List Text → List ReadName → Notebook → StreamView → Result (Unit {0}) (ParseFault A) → Notebook → StreamView → Type 0
Ends name names results book old (Ok done) later new = EndRead name names results book old later new
Ends name names results book old (Err fault) later new = UnlessMemory (λ _. EndUnread name names results book old later new) fault

-- the `{` of a region was parsed, with the white space after it, and the region was noted
pub record Entered (iso : Bool) (book : Notebook) (old : StreamView) (r : OpenRegion) (later : Notebook) (new : StreamView) : Type 0 where
  pub taken : Text
  pub read : (word (codes "{") ▷ space_at) old.rest ≡ Read tt taken new.rest
  pub moves : Moves old new
  pub is_isolated : r.isolated ≡ iso
  pub placed : Leaves (whole old) r.at (length old.rest)
  pub noted : Does (whole old) (λ s. with_notes s (noted.Enters iso ∷ [])) book later

-- a region was noted whose `{` is missing
pub record NotEntered (iso : Bool) (book : Notebook) (old : StreamView) (later : Notebook) (new : StreamView) : Type 0 where
  pub missed : IsMissed ((word (codes "{") ▷ space_at) old.rest)
  pub same : whole new ≡ whole old
  pub noted : Does (whole old) (λ s. with_notes s (noted.Enters iso ∷ [])) book later

-- a region was entered; or an allocation failed, or its `{` is missing
abbrev pub Enters : {A : Type 0} → Bool → Notebook → StreamView → Result OpenRegion (ParseFault A) → Notebook → StreamView → Type 0
Enters iso book old (Ok r) later new = Entered iso book old r later new
Enters iso book old (Err fault) later new = UnlessMemory (λ _. NotEntered iso book old later new) fault

-- the `}` of a region was parsed, and its end was noted
pub record Left (r : OpenRegion) (book : Notebook) (old : StreamView) (later : Notebook) (new : StreamView) : Type 0 where
  pub taken : Text
  pub read : word (codes "}") old.rest ≡ Read tt taken new.rest
  pub moves : Moves old new
  pub noted : (place : ℕ) → Leaves (whole old) r.at place → Does (whole old) (λ s. with_notes s (noted.Leaves r.isolated place ∷ [])) book later

-- a region was left; or an allocation failed, or its `}` is missing
abbrev pub Leaves_region : {A : Type 0} → OpenRegion → Notebook → StreamView → Result (Unit {0}) (ParseFault A) → Notebook → StreamView → Type 0
Leaves_region r book old (Ok done) later new = Left r book old later new
Leaves_region r book old (Err fault) later new = UnlessMemory (λ _. Unread (word (codes "}") old.rest) book old later new) fault

-- ---- the steps
module _ {T A : Type 0} (types_at : Reader T) (attr : Reader (AttrView A)) (dialects : List (Text × Table)) (name : Text) where
  -- The walk came from the one point to the other: whatever the frames and the notes represented, they represent what the parse comes to.
  pub record Arrives (before : List Text) (book : Notebook) (next : Option Frame) (waits : List Frame) (old : StreamView) (names : List Text) (later : Notebook) (next' : Option Frame) (waits' : List Frame) (new : StreamView)
      (f : Option (Open T A)) (fs : List (Open T A)) (s : Noted) : Type 0 where
    pub f' : Option (Open T A)
    pub fs' : List (Open T A)
    pub s' : Noted
    pub here : IsHere dialects names (whole old) later next' waits' f' fs' s'
    pub goes : Goes dialects types_at attr (noter name) f fs s old.rest f' fs' s' new.rest

  -- the same, and less is left to do
  pub record Nearer (before : List Text) (book : Notebook) (next : Option Frame) (waits : List Frame) (old : StreamView) (names : List Text) (later : Notebook) (next' : Option Frame) (waits' : List Frame) (new : StreamView)
      (f : Option (Open T A)) (fs : List (Open T A)) (s : Noted) : Type 0 where
    pub arrives : Arrives before book next waits old names later next' waits' new f fs s
    pub less : work (by_character dialects) arrives.f' arrives.fs' new.rest < work (by_character dialects) f fs old.rest

  -- a step was made
  pub record Proceeds (before : List Text) (book : Notebook) (next : Option Frame) (waits : List Frame) (old : StreamView) (names : List Text) (later : Notebook) (next' : Option Frame) (waits' : List Frame) (new : StreamView) : Type 0 where
    pub moves : Moves old new
    pub keeps : KeepsNames before names
    pub nearer : (f : Option (Open T A)) (fs : List (Open T A)) (s : Noted) → IsHere dialects before (whole old) book next waits f fs s
        → Nearer before book next waits old names later next' waits' new f fs s

  -- The text is at fault: whatever the frames and the notes represented, the parse is stuck, and the notes represent what it came to.
  pub record Stops (before : List Text) (book : Notebook) (next : Option Frame) (waits : List Frame) (old : StreamView) (later : Notebook) (new : StreamView) : Type 0 where
    pub same : whole new ≡ whole old
    pub stops : (f : Option (Open T A)) (fs : List (Open T A)) (s : Noted) → IsHere dialects before (whole old) book next waits f fs s
        → (s' : Noted) × (cause : Fault) × (place : ℕ) × StoppedAt dialects types_at attr (noter name) f fs s old.rest s' cause place × IsNoted (whole old) later s'

  -- a step was made, or it failed: an allocation did, or the text is at fault
  abbrev pub Steps : List Text → Notebook → Option Frame → List Frame → StreamView → Result (Option Frame) (ParseFault A) → List Text → Notebook → List Frame → StreamView → Type 0
  Steps before book next waits old (Ok next') names later waits' new = Proceeds before book next waits old names later next' waits' new
  Steps before book next waits old (Err fault) names later waits' new = UnlessMemory (λ _. Stops before book next waits old later new) fault

-- the last of the waiting frames was removed, if there was one
pub record TakesLast (old : List Frame) (next : Option Frame) (new : List Frame) : Type 0 where
  pub frames : old ≡ new ++ option_to_list next
  pub none : next ≡ None → length old ≡ 0
