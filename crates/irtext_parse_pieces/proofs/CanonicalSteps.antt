-- How far the reader of the canonical form has come: several steps at a time.
use Rattle.std.proofs.Common.{◌≡◌, ℕ, Bool, false, Result, Ok, Err, List, [], ◌∷◌, ◌++◌, append-nil, append_assoc, refl, sym, ◌∙◌, ap, subst}
use Rattle.std.specs.Char.{is_whitespace}
use Rattle.std.specs.Prelude.{IfOk}
use Rattle.irtext_base.specs.Text.{Text, front, after}
use Rattle.irtext_base.specs.Answers.{Outcome, Read, Missing, Bad, Takes, mapped, followed, prefixed, demanded}
use Rattle.irtext_base.specs.Locations.{AttrView}
use Rattle.irtext_base.specs.declared.parsable.fault.ParseFault.{ParseFault}
use Rattle.irtext_scopes.specs.Names.{KeepsNames}
use Rattle.irtext_tokens.specs.Tokens.{space_at, text_at}
use Rattle.irtext_tokens.specs.Infix.{Reader, ◌▷◌}
use Rattle.irtext_tokens.specs.MustRead.{MustRead}
use Rattle.irtext_base.proofs.Compose.{refuses_mapped_demanded}
use Rattle.irtext_tokens.proofs.Steps.{Lens, Passed, starts, more, last, refuses, seen_alone, spaced, spaced_whole, ends, fine_there}
use Rattle.irtext_base.specs.Stream.{after_taken}
use Rattle.irtext_stream.specs.Classes.{after_spaces}
use Rattle.irtext_grammar.specs.declared.parsed.Setting.{Setting}
use Rattle.irtext_grammar.specs.Grammar.Tree as tree
use Rattle.irtext_grammar.specs.Grammar.Tree.{Piece, Part}
use Rattle.irtext_grammar.specs.Heads.{Step, piece_at}
use Rattle.irtext_grammar.specs.Resume.{front_at}
use Rattle.irtext_parse_pieces.specs.Beside as closing
use Rattle.irtext_grammar.specs.declared.parsed.ReadPiece.{ReadPiece}
use Rattle.irtext_grammar.specs.declared.parsed.ReadPiece.TheVariants as read
use Rattle.irtext_parse_pieces.specs.Canonical.{word_step, MustSteps}
use Rattle.irtext_grammar.specs.Parsed.{IsPart, IsPiece, Each}
use Rattle.irtext_parse_pieces.specs.Named.{whole, MustMean}
use Rattle.irtext_parse_pieces.proofs.FrontSteps.{followed_followed, piece_on}
use Rattle.irtext_parse_pieces.proofs.Listings.{each_on}
use Rattle.irtext_parse_pieces.proofs.Meanings.{means_on, passed_whole}

-- ---- outcomes
prefixed_demanded : {X : Type 0} (t : Text) (o : Outcome X) → prefixed t o ≡ prefixed t (demanded o)
prefixed_demanded t (Read x taken rest) = refl
prefixed_demanded t (Missing cause) = ap (λ z. Bad cause z) (sym (append-nil t))
prefixed_demanded t (Bad cause upto) = refl

demanded_prefixed : {X : Type 0} (t : Text) (o : Outcome X) → demanded (prefixed t o) ≡ prefixed t o
demanded_prefixed t (Read x taken rest) = refl
demanded_prefixed t (Missing cause) = refl
demanded_prefixed t (Bad cause upto) = refl

prefixed_nothing : {X : Type 0} (o : Outcome X) → demanded o ≡ demanded (prefixed [] o)
prefixed_nothing (Read x taken rest) = refl
prefixed_nothing (Missing cause) = refl
prefixed_nothing (Bad cause upto) = refl

-- what comes after a first thing need only be the same where it is required
followed_alike : {X Y : Type 0} (o : Outcome X) (k n : X → Text → Outcome Y) → ((x : X) (t : Text) → demanded (k x t) ≡ demanded (n x t)) → demanded (followed o k) ≡ demanded (followed o n)
followed_alike (Read x taken rest) k n h =
    demanded_prefixed taken (k x rest) ∙ (prefixed_demanded taken (k x rest) ∙ (ap (prefixed taken) (h x rest) ∙ (sym (prefixed_demanded taken (n x rest)) ∙ sym (demanded_prefixed taken (n x rest)))))
followed_alike (Missing cause) k n h = refl
followed_alike (Bad cause upto) k n h = refl

-- a value of which a list of one is made
followed_one : {X V W : Type 0} (t : Text) (o : Outcome X) (h : X → V) (k : V → W) → followed (prefixed t (mapped h o)) (λ v u. Read (k v) [] u) ≡ mapped (λ x. k (h x)) (prefixed t o)
followed_one t (Read x taken rest) h k = ap (λ z. Read (k (h x)) z rest) (append-nil (t ++ taken))
followed_one t (Missing cause) h k = refl
followed_one t (Bad cause upto) h k = refl

-- ---- several steps
each_append : {X Y : Type 0} (Means : Y → X → Type 0) (ys : List Y) (xs : List X) (vs : List Y) (us : List X) → Each Means ys xs → Each Means vs us → Each Means (ys ++ vs) (xs ++ us)
each_append Means [] [] vs us h k = k
each_append Means [] (x ∷ xs) vs us h k = absurd h
each_append Means (y ∷ ys) [] vs us h k = absurd h
each_append Means (y ∷ ys) (x ∷ xs) vs us h k = (h.0, each_append Means ys xs vs us h.1 k)

module _ {S T A : Type 0} (l : Lens S) (types : Text → Outcome T) (attr : Text → Outcome (AttrView A)) (setting : Setting) where
  -- the reader of these steps, where these parts were found before
  abbrev reader : List Step → List (Part ℕ T A) → Reader (List (Part ℕ T A))
  reader steps parts = front_at types attr setting steps parts

  -- the steps are read in two parts
  split : (steps rest : List Step) (before found : List (Part ℕ T A)) (t : Text) → demanded (reader (steps ++ rest) (before ++ found) t) ≡ demanded (followed (reader steps found t) (λ ps u. reader rest (before ++ ps) u))
  split [] rest before found t = prefixed_nothing (reader rest (before ++ found) t)
  split (s ∷ steps) rest before found t =
      let o : Outcome (Piece ℕ T A) = (space_at ▷ piece_at types attr setting s) t in
      let k : Piece ℕ T A → Text → Outcome (List (Part ℕ T A)) = λ p u. reader steps (found ++ (tree.piece p ∷ [])) u in
      let n : List (Part ℕ T A) → Text → Outcome (List (Part ℕ T A)) = λ ps u. reader rest (before ++ ps) u in
      followed_alike o (λ p u. reader (steps ++ rest) ((before ++ found) ++ (tree.piece p ∷ [])) u) (λ p u. followed (k p u) n)
      (λ p u. ap (λ z. demanded (reader (steps ++ rest) z u)) (append_assoc before found (tree.piece p ∷ [])) ∙ split steps rest before (found ++ (tree.piece p ∷ [])) u)
      ∙ ap demanded (sym (followed_followed o k n))

  -- the pieces found so far, and the steps that are left
  pub record Through (names : List Text) (all left : List Step) (old now : S) (found : List (ReadPiece T A)) : Type 0 where
    pub parts : List (Part ℕ T A)
    pub each : Each (IsPart names (whole (l.view old))) found parts
    pub passed : Passed l (reader all []) (reader left parts) old now

  -- nothing was read so far
  pub steps_begin : (names : List Text) (all : List Step) (old : S) → (l.view old).failed ≡ false → Through names all all old old []
  steps_begin names all old fine = record { parts = []; each = tt; passed = starts l (reader all []) (reader all []) old fine refl }

  module _ {names : List Text} {all : List Step} {old now : S} {found : List (ReadPiece T A)} where
    -- these steps are to be read
    next : (steps rest : List Step) (p : Through names all (steps ++ rest) old now found) → Passed l (reader all []) (λ t. followed (reader steps [] t) (λ ps u. reader rest (p.parts ++ ps) u)) old now
    next steps rest p =
        let k : List (Part ℕ T A) → Text → Outcome (List (Part ℕ T A)) = λ ps u. reader rest (p.parts ++ ps) u in
        let t = (l.view now).rest in
        let e : demanded (reader (steps ++ rest) p.parts t) ≡ demanded (followed (reader steps [] t) k) = ap (λ z. demanded (reader (steps ++ rest) z t)) (sym (append-nil p.parts)) ∙ split steps rest p.parts [] t in
        let q = p.passed in
        record {
          fine = q.fine;
          taken = q.taken;
          takes = q.takes;
          so_far = q.so_far ∙ (prefixed_demanded q.taken (reader (steps ++ rest) p.parts t) ∙ (ap (prefixed q.taken) e ∙ sym (prefixed_demanded q.taken (followed (reader steps [] t) k))));
        }

    -- they were read
    pub steps_more : {Y : Type 0} (see : Y → List (ReadPiece T A)) {new : S} {y : Y} (steps rest : List Step) (more_names : List Text) → Through names all (steps ++ rest) old now found → KeepsNames names more_names
        → MustSteps l.view l.at more_names types attr setting steps see now (Ok y) new → Through more_names all rest old new (found ++ see y)
    steps_more see {y = y} steps rest more_names p keeps h =
        let text = whole (l.view old) in
        let ps = h.meant y in
        let each : Each (IsPart more_names text) (see y) ps = subst (λ t. Each (IsPart more_names t) (see y) ps) (passed_whole l p.passed) h.means in
        let before = each_on (IsPart names text) (IsPart more_names text) (λ r part i. (i.0, i.1, piece_on names more_names text keeps r i.0 i.2)) found p.parts p.each in
        record {
          parts = p.parts ++ ps;
          each = each_append (IsPart more_names text) found p.parts (see y) ps before each;
          passed = more l (λ zs u. reader rest (p.parts ++ zs) u) (next steps rest p) h.read;
        }

    -- they are refused
    pub steps_refused : {Y W : Type 0} (see : Y → List (ReadPiece T A)) (sees : W → List (ReadPiece T A)) {new : S} {fault : ParseFault A} (steps rest : List Step) (others more_names : List Text) → Through names all (steps ++ rest) old now found
        → MustSteps l.view l.at others types attr setting steps see now (Err fault) new → MustSteps l.view l.at more_names types attr setting all sees old (Err fault) new
    steps_refused see sees steps rest others more_names p h = record { meant = λ _. []; means = tt; read = refuses l (λ ps u. reader rest (p.parts ++ ps) u) (next steps rest p) h.read }

  -- no step is left
  pub steps_end : {Y : Type 0} (sees : Y → List (ReadPiece T A)) {names : List Text} {all : List Step} {old now : S} {found : List (ReadPiece T A)} (y : Y) → sees y ≡ found → Through names all [] old now found → MustSteps l.view l.at names types attr setting all sees old (Ok y) now
  steps_end sees {names = names} {old = old} y e p = record {
    meant = λ _. p.parts;
    means = subst (λ z. Each (IsPart names (whole (l.view old))) z p.parts) (sym e) p.each;
    read = ends l {A = A} (λ _. p.parts) y p.passed;
  }

  -- ---- one step
  module _ {X : Type 0} (f : Text → Outcome X) (h : X → Piece ℕ T A) (step : Step) (is : (u : Text) → piece_at types attr setting step u ≡ mapped h (f u)) where
    one_step : (t : Text) → reader (step ∷ []) [] t ≡ mapped (λ x. tree.piece (h x) ∷ []) ((space_at ▷ f) t)
    one_step t =
        let w = front is_whitespace t in
        let u = after is_whitespace t in
        ap (λ o. followed (prefixed w o) (λ p v. Read (tree.piece p ∷ []) [] v)) (is u) ∙ followed_one w (f u) h (λ p. tree.piece p ∷ [])

    module _ {Y : Type 0} (Means : Y → X → Type 0) (wrap : Y → ReadPiece T A) (names : List Text) {old new : S} where
      -- a piece was read, with white space before it, or refused
      pub step_read : {r : Result Y (ParseFault A)} → ((y : Y) (x : X) → Means y x → IsPiece names (whole (l.view old)) (wrap y) (h x)) → MustMean l.view l.at Means (space_at ▷ f) old r new
          → MustSteps l.view l.at names types attr setting (step ∷ []) (λ y. wrap y ∷ []) old r new
      step_read {r = Ok y} on m = record {
        meant = λ _. tree.piece (h (m.meant y)) ∷ [];
        means = ((h (m.meant y), refl, on y (m.meant y) m.means), tt);
        read = record { answers = rw (one_step (l.view old).rest) (seen_alone l {A = A} (λ _. tree.piece (h (m.meant y)) ∷ []) (λ x. tree.piece (h x) ∷ []) y refl m.read).answers };
      }
      step_read {r = Err fault} on m = record {
        meant = λ _. [];
        means = tt;
        read = record { answers = rw (one_step (l.view old).rest) (refuses_mapped_demanded l.view l.at l.view_at l.at_at (λ x. tree.piece (h x) ∷ []) (l.view old).failed ((space_at ▷ f) (l.view old).rest) old new fault m.read.answers) };
      }

-- white space comes before what must be read
pub spaced_mean : {S X Y A : Type 0} (l : Lens S) {Means Other : Y → X → Type 0} {f : Text → Outcome X} {old mid new : S} {r : Result Y (ParseFault A)} → (l.view old).failed ≡ false
    → Takes l.view l.at (front is_whitespace (l.view old).rest) (after is_whitespace (l.view old).rest) old mid → (whole (l.view mid) ≡ whole (l.view old) → (y : Y) (x : X) → Means y x → Other y x)
    → MustMean l.view l.at Means f mid r new → MustMean l.view l.at Other (space_at ▷ f) old r new
spaced_mean l {Means = Means} {Other = Other} {f = f} {old = old} {r = r} fine k on m =
    let p = spaced l (λ _ u. f u) (starts l (space_at ▷ f) (space_at ▷ f) old fine refl) k in
    record { meant = m.meant; means = means_on Means Other (on (passed_whole l p)) m.meant r m.means; read = last l p m.read }

-- what was read as it is
pub read_so : {S X A : Type 0} (l : Lens S) {f : Text → Outcome X} {old new : S} (r : Result X (ParseFault A)) → MustRead l.view l.at (λ x. x) f old r new → MustMean l.view l.at (λ _ _. Unit {0}) f old r new
read_so l r h = record { meant = λ x. x; means = elim r as (λ r. IfOk r (λ _. Unit {0})) [ Ok x ↦ tt | Err e ↦ tt ]; read = h }

followed_read : {X : Type 0} (t : Text) (o : Outcome X) → followed (prefixed t o) (λ x u. Read x [] u) ≡ prefixed t o
followed_read t (Read x taken rest) = ap (λ z. Read x z rest) (append-nil (t ++ taken))
followed_read t (Missing cause) = refl
followed_read t (Bad cause upto) = refl

-- a fixed text was passed, with the white space before it
pub spaced_word : {S A : Type 0} (l : Lens S) (w rest : Text) {old new : S} → (l.view old).failed ≡ false → after is_whitespace (l.view old).rest ≡ w ++ rest → new ≡ l.at old (after_taken (after_spaces (l.view old)) w rest)
    → MustRead {A = A} l.view l.at (λ (u : Unit {0}). u) (space_at ▷ text_at w) old (Ok tt) new
spaced_word {A = A} l w rest {old = old} {new = new} fine e n =
    let p = spaced_whole l (λ u t. Read u [] t) w rest old new fine e n in
    let t = (l.view old).rest in
    let q = ends l {A = A} (λ (u : Unit {0}). u) tt p in
    record { answers = rw (sym (followed_followed (space_at t) (λ _ u. text_at w u) (λ x u. Read x [] u)) ∙ followed_read (front is_whitespace t) (text_at w (after is_whitespace t))) at q.answers }

module _ {S T A : Type 0} (l : Lens S) (types : Text → Outcome T) (attr : Text → Outcome (AttrView A)) (setting : Setting) (names : List Text) {old new : S} {r : Result (Unit {0}) (ParseFault A)} where
  -- a fixed text was read, with white space before it, or refused
  pub word_read : (w : Text) → MustRead l.view l.at (λ u. u) (space_at ▷ text_at w) old r new → MustSteps l.view l.at names types attr setting (word_step w ∷ []) (λ _. read.Word ∷ []) old r new
  word_read w h = step_read l types attr setting (text_at w) (λ _. tree.word w) (word_step w) (λ u. refl) (λ _ _. Unit {0}) (λ _. read.Word) names (λ y x m. (w, refl)) (read_so l r h)

module _ {S T A : Type 0} (l : Lens S) (types : Text → Outcome T) (attr : Text → Outcome (AttrView A)) (setting : Setting) {names : List Text} {all : List Step} {old now : S} {found : List (ReadPiece T A)} where
  -- a fixed text more was read
  pub word_more : (w : Text) (rest : List Step) {new : S} → Through l types attr setting names all (word_step w ∷ rest) old now found → ((l.view now).failed ≡ false → MustRead {A = A} {Y = Unit {0}} l.view l.at (λ u. u) (space_at ▷ text_at w) now (Ok tt) new)
      → Through l types attr setting names all rest old new (found ++ (read.Word ∷ []))
  word_more w rest p h = steps_more l types attr setting (λ (_ : Unit {0}). read.Word ∷ []) (word_step w ∷ []) rest names p (λ i text k. k) (word_read l types attr setting names w (h (fine_there l p.passed)))

  -- it is refused
  pub word_refused : {W : Type 0} (sees : W → List (ReadPiece T A)) (w : Text) (rest : List Step) {new : S} {fault : ParseFault A} (more_names : List Text) → Through l types attr setting names all (word_step w ∷ rest) old now found
      → ((l.view now).failed ≡ false → MustRead {Y = Unit {0}} l.view l.at (λ u. u) (space_at ▷ text_at w) now (Err fault) new) → MustSteps l.view l.at more_names types attr setting all sees old (Err fault) new
  word_refused sees w rest more_names p h = steps_refused l types attr setting (λ (_ : Unit {0}). read.Word ∷ []) sees (word_step w ∷ []) rest names more_names p (word_read l types attr setting names w (h (fine_there l p.passed)))

module _ {S T A Y Z : Type 0} (l : Lens S) (types : Text → Outcome T) (attr : Text → Outcome (AttrView A)) (setting : Setting) (names : List Text) (steps : List Step) (see : Y → List (ReadPiece T A)) (sees : Z → List (ReadPiece T A)) {old mid : S} where
  -- an error is the same, whatever value there would be
  pub steps_failed : {fault : ParseFault A} → MustSteps l.view l.at names types attr setting steps see old (Err fault) mid → MustSteps l.view l.at names types attr setting steps sees old (Err fault) mid
  steps_failed h = record { meant = λ _. []; means = tt; read = record { answers = h.read.answers } }

  -- another value has the same pieces
  pub steps_seen : {y : Y} (z : Z) → sees z ≡ see y → MustSteps l.view l.at names types attr setting steps see old (Ok y) mid → MustSteps l.view l.at names types attr setting steps sees old (Ok z) mid
  steps_seen {y = y} z e h = record { meant = λ _. h.meant y; means = subst (λ ps. Each (IsPart names (whole (l.view old))) ps (h.meant y)) (sym e) h.means; read = record { answers = h.read.answers } }

-- ---- a piece between two fixed texts
module _ {S T A X Y : Type 0} (l : Lens S) (types : Text → Outcome T) (attr : Text → Outcome (AttrView A)) (setting : Setting) (opens closes : Text) (step : Step)
    (f : Text → Outcome X) (h : X → Piece ℕ T A) (is : (u : Text) → piece_at types attr setting step u ≡ mapped h (f u)) (Means : List Text → Text → Y → X → Type 0) (wrap : Y → ReadPiece T A)
    (on : (names : List Text) (text : Text) (y : Y) (x : X) → Means names text y x → IsPiece names text (wrap y) (h x)) where
  abbrev enclosed : List Step
  enclosed = word_step opens ∷ step ∷ word_step closes ∷ []

  abbrev enclosed_pieces : Y → List (ReadPiece T A)
  enclosed_pieces y = read.Word ∷ wrap y ∷ read.Word ∷ []

  module _ {old mid : S} (fine : (l.view old).failed ≡ false) where
    -- the first of the texts is refused
    pub unopened : {fault : ParseFault A} (names : List Text) → ((l.view old).failed ≡ false → MustRead {Y = Unit {0}} l.view l.at (λ u. u) (space_at ▷ text_at opens) old (Err fault) mid) → MustSteps l.view l.at names types attr setting enclosed enclosed_pieces old (Err fault) mid
    unopened names w = word_refused l types attr setting enclosed_pieces opens (step ∷ word_step closes ∷ []) names (steps_begin l types attr setting names enclosed old fine) w

    module _ (opened : (l.view old).failed ≡ false → MustRead {A = A} {Y = Unit {0}} l.view l.at (λ u. u) (space_at ▷ text_at opens) old (Ok tt) mid) where
      after_opening : (names : List Text) → Through l types attr setting names enclosed (step ∷ word_step closes ∷ []) old mid (read.Word ∷ [])
      after_opening names = word_more l types attr setting opens (step ∷ word_step closes ∷ []) (steps_begin l types attr setting names enclosed old fine) opened

      module _ {spaced last : S} (skipped : Takes l.view l.at (front is_whitespace (l.view mid).rest) (after is_whitespace (l.view mid).rest) mid spaced) (names : List Text) where
        item_read : {r : Result Y (ParseFault A)} → MustMean l.view l.at (Means names (whole (l.view spaced))) f spaced r last → MustSteps l.view l.at names types attr setting (step ∷ []) (λ y. wrap y ∷ []) mid r last
        item_read m =
            step_read l types attr setting f h step is (Means names (whole (l.view mid))) wrap names (on names (whole (l.view mid)))
            (spaced_mean l (fine_there l (after_opening names).passed) skipped (λ e y x k. subst (λ t. Means names t y x) e k) m)

        -- the piece is refused
        pub unfilled : {fault : ParseFault A} → MustMean l.view l.at (Means names (whole (l.view spaced))) f spaced (Err fault) last → MustSteps l.view l.at names types attr setting enclosed enclosed_pieces old (Err fault) last
        unfilled m = steps_refused l types attr setting (λ y. wrap y ∷ []) enclosed_pieces (step ∷ []) (word_step closes ∷ []) names names (after_opening names) (item_read m)

        module _ {y : Y} (filled : MustMean {A = A} l.view l.at (Means names (whole (l.view spaced))) f spaced (Ok y) last) where
          after_item : Through l types attr setting names enclosed (word_step closes ∷ []) old last (read.Word ∷ wrap y ∷ [])
          after_item = steps_more l types attr setting (λ y. wrap y ∷ []) (step ∷ []) (word_step closes ∷ []) names (after_opening names) (λ i text k. k) (item_read filled)

          -- the last of the texts is refused
          pub unclosed : {new : S} {fault : ParseFault A} → ((l.view last).failed ≡ false → MustRead {Y = Unit {0}} l.view l.at (λ u. u) (space_at ▷ text_at closes) last (Err fault) new) → MustSteps l.view l.at names types attr setting enclosed enclosed_pieces old (Err fault) new
          unclosed w = word_refused l types attr setting enclosed_pieces closes [] names after_item w

          -- all was read
          pub closed : {new : S} → ((l.view last).failed ≡ false → MustRead {A = A} {Y = Unit {0}} l.view l.at (λ u. u) (space_at ▷ text_at closes) last (Ok tt) new) → MustSteps l.view l.at names types attr setting enclosed enclosed_pieces old (Ok y) new
          closed w = steps_end l types attr setting enclosed_pieces y refl (word_more l types attr setting closes [] after_item w)

          -- all was read, or the last of the texts is refused
          pub ended : (w : Result (Unit {0}) (ParseFault A)) {r : Result Y (ParseFault A)} {new : S} → r ≡ closing.closed y w → ((l.view last).failed ≡ false → MustRead {Y = Unit {0}} l.view l.at (λ u. u) (space_at ▷ text_at closes) last w new)
              → MustSteps l.view l.at names types attr setting enclosed enclosed_pieces old r new
          ended (Ok u) e h = rw e (closed h)
          ended (Err fault) e h = rw e (unclosed h)
