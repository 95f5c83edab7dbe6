-- Steps of the parsers of pairs.
use Rattle.std.proofs.Common.{◌≡◌, ◌∙◌, ℕ, Bool, true, false, Result, Ok, Err, [], ◌∷◌, length, refl, sym, ap, ap₂, subst, ◌⊎◌, inl, inr}
use Rattle.std.specs.Prelude.{IfOk}
use Rattle.std.specs.Char.{is_whitespace}
use Rattle.irtext_base.specs.Text.{Text, begins, front, after}
use Rattle.irtext_base.specs.Reading.{the}
use Rattle.irtext_base.specs.Faults.{ReservedKey}
use Rattle.irtext_base.specs.Stream.{StreamView}
use Rattle.irtext_base.specs.Answers.{Outcome, Read, Missing, Bad, Takes, RunsOut, Commits, Refuses, Answers, mapped, unless_failed}
use Rattle.irtext_base.specs.Locations.{AttrView}
use Rattle.irtext_base.specs.declared.base.attributes.AttrObj.{AttrObj}
use Rattle.irtext_base.specs.declared.parsable.fault.ParseFault.{ParseFault}
use Rattle.irtext_base.proofs.Compose.{refuses_mapped_demanded}
use Rattle.irtext_stream.specs.Places.{IsPlaceAfter}
use Rattle.irtext_stream.specs.declared.position.Place.{Place}
use Rattle.irtext_tokens.specs.Demanded.{index_at}
use Rattle.irtext_tokens.specs.ListOutcomes.{items_after, separated_at}
use Rattle.irtext_tokens.specs.MustRead.{MustRead}
use Rattle.irtext_tokens.proofs.Steps.{alone, seen_alone, mapped_mapped}
use Rattle.irtext_grammar.specs.Contexts.Held.{attribute_of}
use Rattle.irtext_grammar.specs.Grammar.Section.{Item, direct, reference}
use Rattle.irtext_grammar.specs.Grammar.Tree.{Name}
use Rattle.irtext_grammar.specs.Names.Acts.{Rule}
use Rattle.irtext_grammar.specs.Readers.Directives.{attribute_at}
use Rattle.irtext_grammar.specs.Readers.Streams.{itself, replaced}
use Rattle.irtext_parse_pieces.specs.Named.{whole, MayMean, MustMean}
use Rattle.irtext_grammar.specs.Parsed.{Each}
use Rattle.irtext_grammar.specs.declared.parsed.Key.{Key}
use Rattle.irtext_grammar.specs.declared.parsed.ReadMark.{ReadMark}
use Rattle.irtext_parse_pieces.proofs.Listings.{list_some}
use Rattle.irtext_parse_pieces.proofs.Meanings.{takes_whole, may_whole}
use Rattle.irtext_grammar.specs.Entries.{item_at, pair_at, is_allowed, kept}
use Rattle.irtext_parse_section.proofs.HeadSteps.{refused_there}
use Rattle.irtext_parse_locations.specs.Rules.{is_allowed_under}
use Rattle.irtext_parse_section.specs.Said.{IsGiven, IsPair, Allows, MustPairs, PairsAfter}
use Rattle.irtext_parse_locations.specs.declared.said.GivenAttr.{GivenAttr}
use Rattle.irtext_parse_locations.specs.declared.said.GivenAttr.TheVariants as given

-- a pair that is kept
abbrev pub kept_at : {A : Type 0} → (Text → Outcome (AttrView A)) → Rule A → Text → Outcome (Name ℕ × Item ℕ A)
kept_at attr rule t = kept rule (pair_at attr t)

-- the reference to an index, at a place
abbrev reference_of : {A : Type 0} → ℕ → ℕ → Item ℕ A
reference_of place i = reference (record { place = place; index = i })

module _ {A : Type 0} (attr : Text → Outcome (AttrView A)) where
  -- if the text begins with `!`, the given value is an index
  item_is_index : (text : Text) → begins (the 33) text ≡ true → item_at attr text ≡ mapped (reference_of (length text)) (index_at text)
  item_is_index text b = rw b (mapped_mapped reference (λ i. record { place = length text; index = i }) (reference_of (length text)) (index_at text) (λ i. refl))

  -- an index was parsed after `!`
  pub reference_there : {old new : StreamView} (mark : ReadMark) → begins (the 33) old.rest ≡ true → MustRead {A = A} itself replaced (λ n. n) index_at old (Ok mark.index) new → IsPlaceAfter mark.at old.passed
      → MustMean {A = A} itself replaced (IsGiven (whole old)) (item_at attr) old (Ok (given.Reference mark)) new
  reference_there {old = old} mark b h p =
      let place = length old.rest in
      record {
        meant = λ _. reference_of place mark.index;
        means = record { indexed = refl; place = record { passed = old.passed; rest = old.rest; same = refl; positioned = p; counts = refl } };
        read = record { answers = rw (item_is_index old.rest b) (seen_alone alone {A = A} (λ (m : GivenAttr A). reference_of place mark.index) (reference_of place) (given.Reference mark) refl h).answers };
      }

  -- no index follows it
  pub reference_refused : {Means : GivenAttr A → Item ℕ A → Type 0} {old new : StreamView} {fault : ParseFault A} → Item ℕ A → begins (the 33) old.rest ≡ true → MustRead {Y = ℕ} itself replaced (λ n. n) index_at old (Err fault) new
      → MustMean itself replaced Means (item_at attr) old (Err fault) new
  reference_refused {old = old} {new = new} {fault = fault} any b h =
      record { meant = λ _. any; means = tt; read = record { answers = rw (item_is_index old.rest b) (refuses_mapped_demanded itself replaced alone.view_at alone.at_at (reference_of (length old.rest)) old.failed (index_at old.rest) old new fault h.answers) } }

  -- an attribute was parsed
  pub attribute_there : {old new : StreamView} (a : AttrObj A) → begins (the 33) old.rest ≡ false → MustRead {A = A} itself replaced attribute_of (attribute_at attr) old (Ok a) new
      → MustMean {A = A} itself replaced (IsGiven (whole old)) (item_at attr) old (Ok (given.Direct a)) new
  attribute_there a b h = record {
    meant = λ _. direct (attribute_of a);
    means = refl;
    read = record { answers = rw b (seen_alone alone {A = A} (λ (m : GivenAttr A). direct (attribute_of a)) direct (given.Direct a) refl h).answers };
  }

  -- no attribute follows
  pub attribute_refused : {Means : GivenAttr A → Item ℕ A → Type 0} {old new : StreamView} {fault : ParseFault A} → Item ℕ A → begins (the 33) old.rest ≡ false → MustRead {Y = AttrObj A} itself replaced attribute_of (attribute_at attr) old (Err fault) new
      → MustMean itself replaced Means (item_at attr) old (Err fault) new
  attribute_refused {old = old} {new = new} {fault = fault} any b h =
      record { meant = λ _. any; means = tt; read = record { answers = rw b (refuses_mapped_demanded itself replaced alone.view_at alone.at_at direct old.failed (attribute_at attr old.rest) old new fault h.answers) } }

-- ---- keys that are kept
module _ {A : Type 0} (rule : Rule A) where
  -- a parsed pair is allowed exactly if the pair that it represents is
  pub allowed_same : (text : Text) (p : Key × GivenAttr A) (x : Name ℕ × Item ℕ A) → IsPair text p x → is_allowed_under rule p.0.name p.1 ≡ is_allowed rule x
  allowed_same text (key, given.Direct a) (n, direct b) h = ap₂ rule h.0.named h.1
  allowed_same text (key, given.Direct a) (n, reference m) h = absurd h.1
  allowed_same text (key, given.Reference m) (n, direct b) h = absurd h.1
  allowed_same text (key, given.Reference m) (n, reference k) h = refl

  unread : (o : Outcome (Name ℕ × Item ℕ A)) (old new : StreamView) (fault : ParseFault A) → RunsOut itself replaced old fault new ⊎ Refuses itself replaced o old fault new → RunsOut itself replaced old fault new ⊎ Refuses itself replaced (kept rule o) old fault new
  unread o old new fault (inl h) = inl h
  unread (Read x t q) old new fault (inr h) = absurd h
  unread (Missing cause) old new fault (inr h) = inr h
  unread (Bad cause upto) old new fault (inr h) = inr h

  module _ (meant : Key × GivenAttr A → Name ℕ × Item ℕ A) where
    keeps : (text : Text) (o : Outcome (Name ℕ × Item ℕ A)) (place : Place) (a : Result (Key × GivenAttr A) (ParseFault A)) (old mid new : StreamView) (r : Result (Key × GivenAttr A) (ParseFault A)) → IsPlaceAfter place old.passed
        → ((p : Key × GivenAttr A) → a ≡ Ok p → IsPair text p (meant p)) → Answers itself replaced meant o old a mid → Allows rule place a mid r new → Answers itself replaced meant (kept rule o) old r new
    keeps text (Read x t q) place (Ok p) old mid new (Ok d) at m h k =
        let b : is_allowed rule x ≡ true = subst (λ x. is_allowed rule x ≡ true) h.0 (sym (allowed_same text p (meant p) (m p refl)) ∙ k.0) in
        rw b (rw k.1 h.0, rw k.2 h.1)
    keeps text (Read x t q) place (Ok p) old mid new (Err fault) at m h k =
        let b : is_allowed rule x ≡ false = subst (λ x. is_allowed rule x ≡ false) h.0 (sym (allowed_same text p (meant p) (m p refl)) ∙ k.0) in
        let name : p.0.name ≡ x.0.text = (m p refl).0.named ∙ ap (λ x. x.0.text) h.0 in
        rw b (inr (subst (λ n. Commits itself replaced (ReservedKey n) [] old fault new) name (refused_there (ReservedKey p.0.name) place old mid new fault t q h.1 at k.1)))
    keeps text (Missing cause) place (Ok p) old mid new r at m h k = absurd h
    keeps text (Bad cause upto) place (Ok p) old mid new r at m h k = absurd h
    keeps text o place (Err f) old mid new (Ok d) at m h k = absurd k
    keeps text o place (Err f) old mid new (Err fault) at m h k = rw (k.0, k.1) (unread o old mid f h)

  kept_unless : (b : Bool) (o : Outcome (Name ℕ × Item ℕ A)) → kept rule (unless_failed b o) ≡ unless_failed b (kept rule o)
  kept_unless true o = refl
  kept_unless false o = refl

  still_means : (text : Text) (meant : Key × GivenAttr A → Name ℕ × Item ℕ A) (place : Place) (a r : Result (Key × GivenAttr A) (ParseFault A)) (mid new : StreamView) → ((p : Key × GivenAttr A) → a ≡ Ok p → IsPair text p (meant p)) → Allows rule place a mid r new
      → (q : Key × GivenAttr A) → r ≡ Ok q → IsPair text q (meant q)
  still_means text meant place (Ok p) (Ok d) mid new m k q e = let f : d ≡ q = cc e in subst (λ q. IsPair text q (meant q)) (sym k.1 ∙ f) (m p refl)
  still_means text meant place (Err f) (Ok d) mid new m k q e = absurd k
  still_means text meant place a (Err fault) mid new m k q e = absurd (cc e)

  meant_of : (text : Text) (meant : Key × GivenAttr A → Name ℕ × Item ℕ A) (a : Result (Key × GivenAttr A) (ParseFault A)) → IfOk a (λ p. IsPair text p (meant p)) → (p : Key × GivenAttr A) → a ≡ Ok p → IsPair text p (meant p)
  meant_of text meant (Ok d) h p e = let f : d ≡ p = cc e in subst (λ p. IsPair text p (meant p)) f h
  meant_of text meant (Err fault) h p e = absurd (cc e)

  if_ok : (text : Text) (meant : Key × GivenAttr A → Name ℕ × Item ℕ A) (a : Result (Key × GivenAttr A) (ParseFault A)) → ((p : Key × GivenAttr A) → a ≡ Ok p → IsPair text p (meant p)) → IfOk a (λ p. IsPair text p (meant p))
  if_ok text meant (Ok d) h = h d refl
  if_ok text meant (Err fault) h = tt

  -- a pair that was parsed is kept, or its key is reserved; one that was not parsed is the same error
  pub may_keep : {raw : Text → Outcome (Name ℕ × Item ℕ A)} {old mid new : StreamView} (place : Place) (a r : Result (Key × GivenAttr A) (ParseFault A)) → MayMean itself replaced (IsPair (whole old)) raw old a mid → IsPlaceAfter place old.passed → Allows rule place a mid r new
      → MayMean itself replaced (IsPair (whole old)) (λ t. kept rule (raw t)) old r new
  may_keep {raw = raw} {old = old} {mid = mid} {new = new} place a r h p k =
      let m = meant_of (whole old) h.meant a h.means in
      record {
        meant = h.meant;
        means = if_ok (whole old) h.meant r (still_means (whole old) h.meant place a r mid new m k);
        read = record { answers = subst (λ o. Answers itself replaced h.meant o old r new) (kept_unless old.failed (raw old.rest)) (keeps h.meant (whole old) (unless_failed old.failed (raw old.rest)) place a old mid new r p m h.read.answers k) };
      }

module _ {A : Type 0} (item : Text → Outcome (Name ℕ × Item ℕ A)) where
  -- there is a first pair, and what follows it
  pub list_pairs : {old mid new last : StreamView} {first : Key × GivenAttr A} {r : Result _ (ParseFault A)} → MayMean {A = A} itself replaced (IsPair (whole old)) item old (Ok first) mid → Takes itself replaced (front is_whitespace mid.rest) (after is_whitespace mid.rest) mid new
      → PairsAfter item first new r last → MustPairs (separated_at 44 item) old r last
  list_pairs {old = old} {mid = mid} {new = new} {last = last} {first = n} {r = r} h k rest =
      let e : whole new ≡ whole old = takes_whole alone mid new (front is_whitespace mid.rest) (after is_whitespace mid.rest) k ∙ may_whole alone h.read in
      list_some alone item h.read k (λ fine. subst (λ t. MustMean itself replaced (λ v ps. Each (IsPair t) v.items ps) (λ t. items_after 44 item (length t) (h.meant n ∷ []) t) new r last) e (rest (h.meant n) (subst (λ t. IsPair t n (h.meant n)) (sym e) h.means) fine))
