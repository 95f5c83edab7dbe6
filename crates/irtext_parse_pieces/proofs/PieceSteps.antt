-- Steps of the parsers of pieces.
use Rattle.std.proofs.Common.{◌≡◌, ℕ, true, false, Result, Ok, Err, Option, Some, None, IfOk, List, [], ◌∷◌, length, refl, ap, subst, ◌∙◌, inr}
use Rattle.std.specs.Char.{is_whitespace}
use Rattle.irtext_base.specs.Text.{Text, front, after}
use Rattle.irtext_base.specs.Answers.{Outcome, Read, Missing, Bad, Takes, Gives, RunsOutHere, Commits, mapped, demanded, unless_failed}
use Rattle.irtext_base.specs.Faults.{Fault, Failed}
use Rattle.irtext_base.specs.Locations.{AttrView}
use Rattle.irtext_base.specs.declared.base.attributes.AttrObj.{AttrObj}
use Rattle.irtext_base.specs.declared.parsable.fault.ParseFault.{ParseFault}
use Rattle.irtext_base.proofs.Compose.{refuses_mapped_demanded}
use Rattle.irtext_tokens.specs.ListOutcomes.{items_after, separated_at}
use Rattle.irtext_tokens.specs.MustRead.{MayRead, MustRead}
use Rattle.irtext_tokens.specs.Tokens.{text_at}
use Rattle.irtext_tokens.proofs.Spelling.{whole_gives}
use Rattle.irtext_tokens.proofs.Steps.{Lens, first, seen_alone, ran_out, mapped_is_followed}
use Rattle.irtext_stream.specs.Stream.{Comes}
use Rattle.irtext_stream.specs.Text.{BeginsOtherwise}
use Rattle.irtext_grammar.specs.Contexts.Held.{attribute_of}
use Rattle.irtext_grammar.specs.Grammar.Tree as tree
use Rattle.irtext_grammar.specs.Grammar.Tree.{Piece}
use Rattle.irtext_grammar.specs.Readers.Directives.{attribute_at}
use Rattle.irtext_grammar.specs.Readers.Marker.{marker, starts_with}
use Rattle.irtext_grammar.specs.Heads.{outlined_or_at}
use Rattle.irtext_grammar.proofs.Readers.MarkerSteps.{starts_whole, starts_not}
use Rattle.irtext_parse_pieces.specs.Beside.{closed, present}
use Rattle.irtext_parse_pieces.specs.Pieces.{MustTypes, TypesAfter}
use Rattle.irtext_grammar.specs.Parsed.{seen_attribute, Each}
use Rattle.irtext_parse_pieces.specs.Named.{MayMean, MustMean}
use Rattle.irtext_parse_pieces.proofs.Listings.{list_some}

gives_demanded : {S X : Type 0} (l : Lens S) (f : Text → Outcome X) (old new : S) (x : X) → (l.view old).failed ≡ false → Gives l.view l.at (f (l.view old).rest) old x new → Gives l.view l.at (demanded (unless_failed (l.view old).failed (f (l.view old).rest))) old x new
gives_demanded l f old new x e h = rw e (there (f (l.view old).rest) h)
  where
    there : (o : Outcome _) → Gives l.view l.at o old x new → Gives l.view l.at (demanded o) old x new
    there (Read y t r) k = k
    there (Missing cause) k = absurd k
    there (Bad cause upto) k = absurd k

-- lists whose items are the same are the same
pub each_same : {X : Type 0} (ys xs : List X) → Each ◌≡◌ ys xs → ys ≡ xs
each_same [] [] h = refl
each_same [] (x ∷ xs) h = absurd h
each_same (y ∷ ys) [] h = absurd h
each_same (y ∷ ys) (x ∷ xs) h = ap (λ z. z ∷ ys) h.0 ∙ ap (λ zs. x ∷ zs) (each_same ys xs h.1)

itself : {X E : Type 0} (r : Result X E) → IfOk r (λ x. x ≡ x)
itself (Ok x) = refl
itself (Err e) = tt

module _ {S A : Type 0} (l : Lens S) where
  -- what was parsed represents itself
  pub may_itself : {X : Type 0} {f : Text → Outcome X} {old new : S} (r : Result X (ParseFault A)) → MayRead l.view l.at (λ x. x) f old r new → MayMean l.view l.at ◌≡◌ f old r new
  may_itself r h = record { meant = λ x. x; means = itself r; read = h }

  -- there is a first type, and what follows it
  pub list_types : {T : Type 0} (item : Text → Outcome T) {old mid new last : S} {first : T} {r : Result (List T) (ParseFault A)} → MayMean {A = A} l.view l.at ◌≡◌ item old (Ok first) mid → Takes l.view l.at (front is_whitespace (l.view mid).rest) (after is_whitespace (l.view mid).rest) mid new
      → TypesAfter l.view l.at item first new r last → MustTypes l.view l.at (separated_at 44 item) old r last
  list_types item {new = new} {last = last} {first = n} {r = r} h k rest =
      list_some l item h.read k (λ fine. subst (λ x. MustMean l.view l.at (Each ◌≡◌) (λ t. items_after 44 item (length t) (x ∷ []) t) new r last) h.means (rest fine))

  module _ {X Y V W : Type 0} {Means : Y → X → Type 0} {Other : W → V → Type 0} {f : Text → Outcome X} (k : X → V) where
    -- what was parsed is a piece
    pub piece_there : (w : W) {old new : S} {y : Y} → (h : MustMean {A = A} l.view l.at Means f old (Ok y) new) → Other w (k (h.meant y)) → MustMean {A = A} l.view l.at Other (λ t. mapped k (f t)) old (Ok w) new
    piece_there w {y = y} h m = record { meant = λ _. k (h.meant y); means = m; read = seen_alone l {A = A} (λ _. k (h.meant y)) k w refl h.read }

  -- what would be a piece is an error
  pub piece_refused : {X Y V W : Type 0} {Other : W → V → Type 0} {see : Y → X} {f : Text → Outcome X} (k : X → V) → V → {old new : S} {fault : ParseFault A} → MustRead l.view l.at see f old (Err fault) new → MustMean l.view l.at Other (λ t. mapped k (f t)) old (Err fault) new
  piece_refused {f = f} k v {old = old} {new = new} {fault = fault} h = record { meant = λ _. v; means = tt; read = record { answers = refuses_mapped_demanded l.view l.at l.view_at l.at_at k (l.view old).failed (f (l.view old).rest) old new fault h.answers } }

-- a piece without meaning, for when none was parsed
pub no_tree : {T A : Type 0} → Piece ℕ T A
no_tree = tree.word []

module _ {S A : Type 0} (l : Lens S) where
  -- what was parsed, unchanged, is a piece
  pub plain_there : {X Y V W : Type 0} {Other : W → V → Type 0} {see : Y → X} {f : Text → Outcome X} (k : X → V) (w : W) {old new : S} {y : Y} → MustRead {A = A} l.view l.at see f old (Ok y) new → Other w (k (see y)) → MustMean {A = A} l.view l.at Other (λ t. mapped k (f t)) old (Ok w) new
  plain_there {see = see} k w {y = y} h m = record { meant = λ _. k (see y); means = m; read = seen_alone l {A = A} (λ _. k (see y)) k w refl h }

  -- a piece with the text that was parsed, or the error
  pub piece_closed : {U V W : Type 0} {Other : W → V → Type 0} {f : Text → Outcome U} (k : U → V) → V → (w : W) {old new : S} (r : Result U (ParseFault A)) {q : Result W (ParseFault A)} → q ≡ closed w r → MustRead {A = A} l.view l.at (λ u. u) f old r new → ((u : U) → Other w (k u)) → MustMean l.view l.at Other (λ t. mapped k (f t)) old q new
  piece_closed k v w (Ok u) e h m = rw e (plain_there k w h (m u))
  piece_closed k v w (Err fault) e h m = rw e (piece_refused l k v h)

  -- out of memory after what was parsed
  pub piece_ran_out : {X Y V W : Type 0} {Other : W → V → Type 0} {see : Y → X} {f : Text → Outcome X} (k : X → V) → V → {old mid new : S} {y : Y} {fault : ParseFault A} → MustRead {A = A} l.view l.at see f old (Ok y) mid → RunsOutHere l.view l.at mid fault new → MustMean l.view l.at Other (λ t. mapped k (f t)) old (Err fault) new
  piece_ran_out {W = W} {f = f} k v {old = old} h s =
      let q = ran_out l {W = W} {sees = λ _. v} (first l (λ x t. Read (k x) [] t) h) s in
      record { meant = λ _. v; means = tt; read = record { answers = rw (mapped_is_followed k (f (l.view old).rest)) q.answers } }

  -- nothing can be parsed there
  pub must_miss : {V W : Type 0} {Other : W → V → Type 0} {cause : Text → Fault} → V → {old new : S} {fault : ParseFault A} → (l.view old).failed ≡ false → Commits l.view l.at (cause (l.view old).rest) [] old fault new → MustMean l.view l.at Other (λ t. Missing (cause t)) old (Err fault) new
  must_miss v f h = record { meant = λ _. v; means = tt; read = record { answers = rw f (inr h) } }

  -- a stream that had failed is an error
  pub read_failed : {V W : Type 0} {see : W → V} {f : Text → Outcome V} {old new : S} {fault : ParseFault A} → (l.view old).failed ≡ true → Commits l.view l.at Failed [] old fault new → MustRead l.view l.at see f old (Err fault) new
  read_failed e h = record { answers = rw e (inr h) }

  module _ (attr : Text → Outcome (AttrView A)) where
    -- the marker was taken
    pub outlined_taken : {old new : S} → (l.view old).failed ≡ false → Comes marker (l.view old) (λ v. new ≡ l.at old v) → MustRead {A = A} l.view l.at seen_attribute (outlined_or_at attr) old (Ok None) new
    outlined_taken {old = old} {new = new} f h =
        let b : starts_with marker (l.view old).rest ≡ true = ap (starts_with marker) h.1 ∙ starts_whole marker h.0 in
        let g : MustRead {A = A} l.view l.at (λ (u : Unit {0}). u) (text_at marker) old (Ok tt) new = record { answers = gives_demanded l (text_at marker) old new tt f (whole_gives l.view l.at l.view_at l.at_view l.at_at marker h.0 old new h.1 h.2) } in
        record { answers = rw b (seen_alone l {A = A} seen_attribute (λ _. None) None refl g).answers }

    -- the marker does not follow, and an attribute was parsed
    outlined_there : {old mid new : S} {a : AttrObj A} → BeginsOtherwise marker (l.view old).rest × (mid ≡ old) → MustRead {A = A} l.view l.at attribute_of (attribute_at attr) mid (Ok a) new → MustRead {A = A} l.view l.at seen_attribute (outlined_or_at attr) old (Ok (Some a)) new
    outlined_there {old = old} {mid = mid} {new = new} {a = a} h m =
        let here : MustRead {A = A} l.view l.at attribute_of (attribute_at attr) old (Ok a) new = subst (λ s. MustRead {A = A} l.view l.at attribute_of (attribute_at attr) s (Ok a) new) h.1 m in
        record { answers = rw (starts_not marker (l.view old).rest h.0) (seen_alone l {A = A} seen_attribute Some (Some a) refl here).answers }

    -- nor does an attribute
    outlined_refused : {old mid new : S} {fault : ParseFault A} → BeginsOtherwise marker (l.view old).rest × (mid ≡ old) → MustRead l.view l.at attribute_of (attribute_at attr) mid (Err fault) new → MustRead l.view l.at seen_attribute (outlined_or_at attr) old (Err fault) new
    outlined_refused {old = old} {mid = mid} {new = new} {fault = fault} h m =
        let here : MustRead l.view l.at attribute_of (attribute_at attr) old (Err fault) new = subst (λ s. MustRead l.view l.at attribute_of (attribute_at attr) s (Err fault) new) h.1 m in
        record { answers = rw (starts_not marker (l.view old).rest h.0) (refuses_mapped_demanded l.view l.at l.view_at l.at_at Some (l.view old).failed (attribute_at attr (l.view old).rest) old new fault here.answers) }

    -- one or the other
    pub not_outlined : {old mid new : S} → BeginsOtherwise marker (l.view old).rest × (mid ≡ old) → (r : Result (AttrObj A) (ParseFault A)) {q : Result (Option (AttrObj A)) (ParseFault A)} → q ≡ present r → MustRead {A = A} l.view l.at attribute_of (attribute_at attr) mid r new → MustRead {A = A} l.view l.at seen_attribute (outlined_or_at attr) old q new
    not_outlined h (Ok a) e m = rw e (outlined_there h m)
    not_outlined h (Err fault) e m = rw e (outlined_refused h m)
