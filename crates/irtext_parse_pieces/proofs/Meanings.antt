-- What parsed names represent, while more text is parsed after them.
use Rattle.std.proofs.Common.{◌≡◌, ℕ, true, Result, Ok, Err, List, [], ◌++◌, refl, ◌∙◌, ap, subst, append_assoc, inr}
use Rattle.std.specs.Prelude.{IfOk}
use Rattle.irtext_base.specs.Text.{Text}
use Rattle.irtext_base.specs.Answers.{Outcome, Read, Missing, Bad, Takes, Gives, Commits, DemandsOf, demanded, followed, unless_failed}
use Rattle.irtext_base.specs.declared.parsable.fault.ParseFault.{ParseFault}
use Rattle.irtext_base.specs.Faults.{Failed}
use Rattle.irtext_base.proofs.Compose.{seen_after}
use Rattle.irtext_scopes.specs.Names.{KeepsNames}
use Rattle.irtext_scopes.specs.declared.tracker.NameTracker.{NameTracker}
use Rattle.irtext_tokens.specs.MustRead.{MayRead, MustRead}
use Rattle.irtext_tokens.proofs.Steps.{Lens, Passed, insisted, last, begins_with, begun_by}
use Rattle.irtext_grammar.specs.Grammar.Tree.{Name}
use Rattle.irtext_grammar.specs.declared.parsed.ReadName.{ReadName}
use Rattle.irtext_parse_pieces.specs.Named.{whole, NamesRead, MayMean, MustMean, Misses}
use Rattle.irtext_grammar.specs.Parsed.{Leaves, Represents}

-- a name represents the same when more names are added and more text is parsed
pub still_represents : (names more : List Text) {text other : Text} (n : ReadName) (x : Name ℕ) → KeepsNames names more → text ≡ other → Represents names text n x → Represents more other n x
still_represents names more n x keeps e h = record { named = keeps n.name x.text h.named; place = subst (λ t. Leaves t n.at x.place) e h.place }

-- what a value represents, stated in another way
pub means_on : {X Y A : Type 0} (Means Other : Y → X → Type 0) → ((y : Y) (x : X) → Means y x → Other y x) → (meant : Y → X) (r : Result Y (ParseFault A)) → IfOk r (λ y. Means y (meant y)) → IfOk r (λ y. Other y (meant y))
means_on Means Other on meant (Ok y) h = on y (meant y) h
means_on Means Other on meant (Err fault) h = tt

module _ {V B : Type 0} where
  -- no names have come
  pub names_none : (names : NameTracker V B) → NamesRead names names
  names_none names = record { kept = λ i text h. h; words = λ w. w; values = refl; labels = refl }

  -- names have come twice
  pub names_more : (old mid new : NameTracker V B) → NamesRead old mid → NamesRead mid new → NamesRead old new
  names_more old mid new h k = record { kept = λ i text e. k.kept i text (h.kept i text e); words = λ w. k.words (h.words w); values = k.values ∙ h.values; labels = k.labels ∙ h.labels }

  -- and a name represents the same
  pub names_still_represent : {names more : NameTracker V B} → NamesRead names more → {text : Text} (n : ReadName) (x : Name ℕ) → Represents names.names text n x → Represents more.names text n x
  names_still_represent {names = names} {more = more} h n x s = still_represents names.names more.names n x h.kept refl s

module _ {S : Type 0} (l : Lens S) where
  pub takes_whole : (old mid : S) (t r : Text) → Takes l.view l.at t r old mid → whole (l.view mid) ≡ whole (l.view old)
  takes_whole old mid t r k = ap whole (seen_after l.view l.at l.view_at l.at_at old mid t r k) ∙ (append_assoc (l.view old).passed t r ∙ ap (λ z. (l.view old).passed ++ z) k.same)

  -- what is parsed leaves the whole text
  pub passed_whole : {V : Type 0} {outcome next : Text → Outcome V} {old mid : S} → Passed l outcome next old mid → whole (l.view mid) ≡ whole (l.view old)
  passed_whole {old = old} {mid = mid} p = takes_whole old mid p.taken (l.view mid).rest p.takes

  gives_whole : {X : Type 0} (o : Outcome X) (old new : S) (x : X) → Gives l.view l.at o old x new → whole (l.view new) ≡ whole (l.view old)
  gives_whole (Read y t r) old new x h = takes_whole old new t r h.1
  gives_whole (Missing cause) old new x h = absurd h
  gives_whole (Bad cause upto) old new x h = absurd h

  pub must_whole : {X Y A : Type 0} {see : Y → X} {f : Text → Outcome X} {old new : S} {y : Y} → MustRead {A = A} l.view l.at see f old (Ok y) new → whole (l.view new) ≡ whole (l.view old)
  must_whole {see = see} {f = f} {old = old} {new = new} {y = y} h = gives_whole (demanded (unless_failed (l.view old).failed (f (l.view old).rest))) old new (see y) h.answers

  pub may_whole : {X Y A : Type 0} {see : Y → X} {f : Text → Outcome X} {old new : S} {y : Y} → MayRead {A = A} l.view l.at see f old (Ok y) new → whole (l.view new) ≡ whole (l.view old)
  may_whole {see = see} {f = f} {old = old} {new = new} {y = y} h = gives_whole (unless_failed (l.view old).failed (f (l.view old).rest)) old new (see y) h.answers

  module _ {X Y A : Type 0} {Means : Y → X → Type 0} {f : Text → Outcome X} where
    -- an optional value is required
    pub insisted_mean : {old mid new : S} (a r : Result Y (ParseFault A)) → MayMean l.view l.at Means f old a mid → DemandsOf l.view l.at a mid r new → MustMean l.view l.at Means f old r new
    insisted_mean (Ok y) r h d = record { meant = h.meant; means = rw d.0 h.means; read = insisted l h.read d }
    insisted_mean (Err fault) r h d = record { meant = h.meant; means = rw d.1 tt; read = insisted l h.read d }

    -- what was parsed may be required
    pub read_mean : {old new : S} {y : Y} → MayMean {A = A} l.view l.at Means f old (Ok y) new → MustMean {A = A} l.view l.at Means f old (Ok y) new
    read_mean {y = y} h = insisted_mean (Ok y) (Ok y) h (refl, refl)

    -- an error represents nothing
    pub may_refuse : {see : Y → X} {old new : S} {fault : ParseFault A} → MayRead l.view l.at see f old (Err fault) new → MayMean l.view l.at Means f old (Err fault) new
    may_refuse {see = see} h = record { meant = see; means = tt; read = h }

    pub must_refuse : {see : Y → X} {old new : S} {fault : ParseFault A} → MustRead l.view l.at see f old (Err fault) new → MustMean l.view l.at Means f old (Err fault) new
    must_refuse {see = see} h = record { meant = see; means = tt; read = h }

    -- so is a fault in which no value is seen
    pub may_miss : {old new : S} {fault : ParseFault A} → X → Misses l.view l.at f old fault new → MayMean l.view l.at Means f old (Err fault) new
    may_miss x h = record { meant = λ _. x; means = tt; read = record { answers = h } }

    -- a stream that had failed is an error
    pub may_fail : {old new : S} {fault : ParseFault A} → X → (l.view old).failed ≡ true → Commits l.view l.at Failed [] old fault new → MayMean l.view l.at Means f old (Err fault) new
    may_fail x e h = record { meant = λ _. x; means = tt; read = record { answers = rw e (inr h) } }

    pub must_fail : {old new : S} {fault : ParseFault A} → X → (l.view old).failed ≡ true → Commits l.view l.at Failed [] old fault new → MustMean l.view l.at Means f old (Err fault) new
    must_fail x e h = record { meant = λ _. x; means = tt; read = record { answers = rw e (inr h) } }

    -- the result of a required parser after a first one is the result of both
    pub after_may : {V U : Type 0} {see : V → U} {first : Text → Outcome U} {old mid new : S} {v : V} {r : Result Y (ParseFault A)} (Other : Y → X → Type 0) → ((y : Y) (x : X) → Means y x → Other y x)
        → MayRead {A = A} l.view l.at see first old (Ok v) mid → MustMean l.view l.at Means f mid r new → MayMean l.view l.at Other (λ t. followed (first t) (λ _ u. f u)) old r new
    after_may {r = r} Other on h m =
        let next : _ → Text → Outcome X = λ _ u. f u in
        record { meant = m.meant; means = means_on Means Other on m.meant r m.means; read = begun_by l next h (last l (begins_with l next h) m.read) }

  -- an error after a first value represents nothing
  pub may_unread : {X U V Y A : Type 0} {Means : Y → V → Type 0} {first : Text → Outcome U} {see : X → U} {sees : Y → V} {old mid new : S} {x : X} {fault : ParseFault A} (k : U → Text → Outcome V) → MayRead {A = A} l.view l.at see first old (Ok x) mid → MustRead l.view l.at sees (λ t. followed (first t) k) old (Err fault) new
      → MayMean l.view l.at Means (λ t. followed (first t) k) old (Err fault) new
  may_unread {sees = sees} k h m = record { meant = sees; means = tt; read = begun_by l k h m }
