-- How far the parser of what precedes an operation's regions has come.
use Rattle.std.proofs.Common.{◌≡◌, ℕ, Bool, true, false, Ok, Err, List, [], ◌∷◌, ◌++◌, refl, sym, ◌∙◌, ap, subst, inl}
use Rattle.std.specs.Char.{is_whitespace}
use Rattle.irtext_base.specs.Text.{Text, front, after}
use Rattle.irtext_base.specs.Answers.{Outcome, Read, Missing, Bad, Takes, RunsOutHere, followed, prefixed}
use Rattle.irtext_base.specs.Locations.{AttrView}
use Rattle.irtext_base.specs.declared.parsable.fault.ParseFault.{ParseFault}
use Rattle.irtext_scopes.specs.Names.{KeepsNames}
use Rattle.irtext_tokens.specs.Tokens.{space_at, text_at}
use Rattle.irtext_tokens.specs.Infix.{Reader, ◌⇒◌}
use Rattle.irtext_tokens.specs.MustRead.{MustRead}
use Rattle.irtext_tokens.proofs.Spelling.{prefixed-prefixed}
use Rattle.irtext_tokens.proofs.Steps.{Lens, Passed, starts, first, more, refuses, spaced, turned, ends}
use Rattle.irtext_grammar.specs.declared.parsed.Setting.{Setting}
use Rattle.irtext_grammar.specs.Grammar.Tree as tree
use Rattle.irtext_grammar.specs.Grammar.Tree.{Piece, Part}
use Rattle.irtext_grammar.specs.Heads.{Step, front_steps, piece_at}
use Rattle.irtext_grammar.specs.Resume.{is_flat, front_at}
use Rattle.irtext_grammar.proofs.Resume.Front.{in_front}
use Rattle.irtext_base.proofs.Compose.{runs_out_after}
use Rattle.irtext_grammar.specs.declared.parsed.ReadPiece.{ReadPiece}
use Rattle.irtext_grammar.specs.declared.parsed.ReadPiece.TheVariants as read
use Rattle.irtext_grammar.specs.Parsed.{IsPart, IsPiece, Represents, Each}
use Rattle.irtext_parse_pieces.specs.Fronts.{front_of, MustFront, MustFind}
use Rattle.irtext_parse_pieces.specs.Pieces.{MustPiece}
use Rattle.irtext_parse_pieces.specs.Named.{whole}
use Rattle.irtext_parse_pieces.proofs.Listings.{each_on, each_more}
use Rattle.irtext_parse_pieces.proofs.PieceSteps.{no_tree, plain_there, piece_refused}
use Rattle.irtext_parse_pieces.proofs.Meanings.{still_represents, must_refuse, passed_whole}

pub followed_prefixed : {X Y : Type 0} (t : Text) (o : Outcome X) (k : X → Text → Outcome Y) → followed (prefixed t o) k ≡ prefixed t (followed o k)
followed_prefixed t (Read x taken rest) k = sym (prefixed-prefixed t taken (k x rest))
followed_prefixed t (Missing cause) k = refl
followed_prefixed t (Bad cause upto) k = refl

-- one parser, a second and a third
pub followed_followed : {X Y V : Type 0} (o : Outcome X) (k : X → Text → Outcome Y) (n : Y → Text → Outcome V) → followed (followed o k) n ≡ followed o (λ x t. followed (k x t) n)
followed_followed (Read x taken rest) k n = followed_prefixed taken (k x rest) n
followed_followed (Missing cause) k n = refl
followed_followed (Bad cause upto) k n = refl

module _ {T A : Type 0} where
  -- a piece represents the same when more names are added
  pub piece_on : (names more : List Text) (text : Text) → KeepsNames names more → (r : ReadPiece T A) (p : Piece ℕ T A) → IsPiece names text r p → IsPiece more text r p
  piece_on names more text k read.Word p h = h
  piece_on names more text k (read.Operand i n) p h = (h.0, h.1, still_represents names more n h.0 k refl h.2)
  piece_on names more text k (read.Operands ns) p h = (h.0, h.1, each_on (Represents names text) (Represents more text) (λ y x s. still_represents names more y x k refl s) ns h.0 h.2)
  piece_on names more text k (read.Successor i n) p h = (h.0, h.1, still_represents names more n h.0 k refl h.2)
  piece_on names more text k (read.Successors ns) p h = (h.0, h.1, each_on (Represents names text) (Represents more text) (λ y x s. still_represents names more y x k refl s) ns h.0 h.2)
  piece_on names more text k (read.Attr key a) p h = h
  piece_on names more text k (read.Dictionary es) p h = h
  piece_on names more text k (read.ResultType i t) p h = h
  piece_on names more text k (read.Header s) p h = h
  piece_on names more text k (read.Types ts) p h = h

module _ {S T A : Type 0} (l : Lens S) (found more : List (ReadPiece T A)) where
  -- a word was parsed, and put after the others
  pub word_found : (w : Text) {names : List Text} {old new : S} → more ≡ found ++ (read.Word ∷ []) → MustRead {A = A} l.view l.at (λ (u : Unit {0}). u) (text_at w) old (Ok tt) new
      → MustFind l.view l.at names (text_at w ⇒ λ _. tree.word w) found more old (Ok tt) new
  word_found w e h = plain_there l (λ _. tree.word w) tt h (read.Word, e, (w, refl))

  -- it is an error
  pub word_missed : (w : Text) {names : List Text} {old new : S} {fault : ParseFault A} → MustRead {A = A} l.view l.at (λ (u : Unit {0}). u) (text_at w) old (Err fault) new
      → MustFind l.view l.at names (text_at w ⇒ λ _. tree.word w) found more old (Err fault) new
  word_missed w h = piece_refused l (λ _. tree.word w) no_tree h

  module _ {outcome : Reader (Piece ℕ T A)} {names : List Text} {old : S} where
    -- a piece was parsed, and put after the others
    pub piece_found : {new : S} (y : ReadPiece T A) → more ≡ found ++ (y ∷ []) → MustPiece l.view l.at names outcome old (Ok y) new → MustFind l.view l.at names outcome found more old (Ok tt) new
    piece_found y e h = record { meant = λ _. h.meant y; means = (y, e, h.means); read = record { answers = h.read.answers } }

    -- it is an error
    pub piece_missed : {new : S} {fault : ParseFault A} → MustPiece l.view l.at names outcome old (Err fault) new → MustFind l.view l.at names outcome found more old (Err fault) new
    piece_missed h = record { meant = λ _. no_tree; means = tt; read = record { answers = h.read.answers } }

    -- out of memory after it
    pub found_ran_out : {mid new : S} {y : ReadPiece T A} {fault : ParseFault A} → MustPiece l.view l.at names outcome old (Ok y) mid → RunsOutHere l.view l.at mid fault new → MustFind l.view l.at names outcome found more old (Err fault) new
    found_ran_out {mid = mid} {new = new} {fault = fault} h s =
        let p = first l (λ x t. Read x [] t) h.read in
        record { meant = λ _. no_tree; means = tt; read = record { answers = inl (runs_out_after l.view l.at l.view_at l.at_at old mid new p.taken (l.view mid).rest fault p.fine p.takes s) } }

module _ {S T A : Type 0} (l : Lens S) (types : Text → Outcome T) (attr : Text → Outcome (AttrView A)) (setting : Setting) where
  -- what follows a piece, with these parts before it
  abbrev pub after_piece : List Step → List (Part ℕ T A) → Piece ℕ T A → Text → Outcome (List (Part ℕ T A))
  after_piece rest parts p = front_of types attr setting rest (parts ++ (tree.piece p ∷ []))

  -- the pieces found so far, and what is left of the steps
  pub record Fronting (names : List Text) (all left : List Step) (old now : S) (found : List (ReadPiece T A)) : Type 0 where
    pub parts : List (Part ℕ T A)
    pub each : Each (IsPart names (whole (l.view old))) found parts
    pub passed : Passed l (front_of types attr setting all []) (front_of types attr setting left parts) old now

  -- nothing was parsed so far
  pub front_begins : (names : List Text) (all : List Step) (old : S) → (l.view old).failed ≡ false → Fronting names all all old old []
  front_begins names all old fine = record { parts = []; each = tt; passed = starts l (front_of types attr setting all []) (front_of types attr setting all []) old fine refl }

  next_is : (left rest : List Step) (step : Step) (parts : List (Part ℕ T A)) (text : Text) → left ≡ step ∷ rest → is_flat step ≡ true
      → front_of types attr setting left parts text ≡ followed (space_at text) (λ _ u. followed (piece_at types attr setting step u) (after_piece rest parts))
  next_is left rest step parts text e b =
      ap (λ ss. front_of types attr setting ss parts text) e
      ∙ ap (λ ss. front_at types attr setting ss parts text) (in_front step rest b).0
      ∙ followed_followed (space_at text) (λ _ u. piece_at types attr setting step u) (after_piece rest parts)

  module _ {names : List Text} {all left : List Step} {old now : S} {found : List (ReadPiece T A)} where
    -- a piece is to be parsed after white space
    pub front_next : {mid : S} (rest : List Step) (step : Step) → left ≡ step ∷ rest → is_flat step ≡ true → (p : Fronting names all left old now found) → Takes l.view l.at (front is_whitespace (l.view now).rest) (after is_whitespace (l.view now).rest) now mid
        → Passed l (front_of types attr setting all []) (λ t. followed (piece_at types attr setting step t) (after_piece rest p.parts)) old mid
    front_next rest step e b p k =
        spaced l (λ _ u. followed (piece_at types attr setting step u) (after_piece rest p.parts)) (turned l (λ t. followed (space_at t) (λ _ u. followed (piece_at types attr setting step u) (after_piece rest p.parts))) (next_is left rest step p.parts (l.view now).rest e b) p.passed) k

    -- it was parsed
    pub front_more : {mid new : S} {more_found : List (ReadPiece T A)} (rest : List Step) (step : Step) (more_names : List Text) → left ≡ step ∷ rest → is_flat step ≡ true → (p : Fronting names all left old now found) → Takes l.view l.at (front is_whitespace (l.view now).rest) (after is_whitespace (l.view now).rest) now mid
        → KeepsNames names more_names → MustFind {A = A} l.view l.at more_names (piece_at types attr setting step) found more_found mid (Ok tt) new → Fronting more_names all rest old new more_found
    front_more {mid = mid} {more_found = more_found} rest step more_names e b p k keeps h =
        let q = front_next rest step e b p k in
        let text = whole (l.view old) in
        let x = h.meant tt in
        let y = h.means.0 in
        let m : IsPiece more_names text y x = subst (λ t. IsPiece more_names t y x) (passed_whole l q) h.means.2 in
        record {
          parts = p.parts ++ (tree.piece x ∷ []);
          each = subst (λ ys. Each (IsPart more_names text) ys (p.parts ++ (tree.piece x ∷ []))) (sym h.means.1) (each_more (IsPart more_names text) found p.parts y (tree.piece x) (each_on (IsPart names text) (IsPart more_names text) (λ r part i. (i.0, i.1, piece_on names more_names text keeps r i.0 i.2)) found p.parts p.each) (x, refl, m));
          passed = more l (after_piece rest p.parts) q h.read;
        }

    -- it is an error
    pub front_refused : {mid new : S} {fault : ParseFault A} {more_found : List (ReadPiece T A)} {others more_names : List Text} (rest : List Step) (step : Step) → left ≡ step ∷ rest → is_flat step ≡ true → Fronting names all left old now found → Takes l.view l.at (front is_whitespace (l.view now).rest) (after is_whitespace (l.view now).rest) now mid
        → MustFind {A = A} l.view l.at others (piece_at types attr setting step) found more_found mid (Err fault) new → MustFront l.view l.at more_names types attr setting all old (Err fault) new
    front_refused rest step e b p k h = must_refuse l (refuses l {sees = λ _. []} (after_piece rest p.parts) (front_next rest step e b p k) h.read)

    -- none of the front is left
    pub front_ends : front_steps left ≡ [] → Fronting names all left old now found → MustFront {A = A} l.view l.at names types attr setting all old (Ok found) now
    front_ends e p = record {
      meant = λ _. p.parts;
      means = p.each;
      read = ends l {A = A} (λ _. p.parts) found (turned l (λ t. Read p.parts [] t) (ap (λ ss. front_at types attr setting ss p.parts (l.view now).rest) e) p.passed);
    }
