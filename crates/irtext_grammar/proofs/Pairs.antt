-- The parsers of the keyed attributes of entries return what the grammar parses, up to the first key whose attribute is not allowed.
use Rattle.std.proofs.Common.{◌≡◌, ◌∙◌, ℕ, Bool, true, false, cond, Option, Some, List, [], ◌∷◌, ◌++◌, map, refl, sym, ap, subst, true≢false}
use Rattle.std.proofs.lemmas.List.{map-id}
use Rattle.std.specs.Prelude.{codes}
use Rattle.std.specs.List.{list_all}
use Rattle.irtext_base.specs.Text.{Text, begins, begins_word}
use Rattle.irtext_base.specs.Reading.{Reading, ◌▹◌, the, literal, separated}
use Rattle.irtext_base.specs.Format.{Id, Format}
use Rattle.irtext_base.specs.Faults.{Fault}
use Rattle.irtext_base.specs.Faults as fault
use Rattle.irtext_base.specs.Answers.{Outcome, Read, Missing, Bad, mapped}
use Rattle.irtext_base.specs.Locations.{AttrView}
use Rattle.irtext_base.specs.Own.{Texts, Language, Verdict, language, texts_of, found, missing}
use Rattle.irtext_base.specs.Paths.{Written}
use Rattle.irtext_base.proofs.Characters.{and_left, and_right}
use Rattle.irtext_tokens.specs.AttrTexts.{attr_at}
use Rattle.irtext_grammar.specs.Grammar.Reads as reads
use Rattle.irtext_grammar.specs.Grammar.Section as section
use Rattle.irtext_grammar.specs.Grammar.Section.{Item, direct, reference}
use Rattle.irtext_grammar.specs.Grammar.Tree as tree
use Rattle.irtext_grammar.specs.Grammar.Tree.{Name, Attribute}
use Rattle.irtext_grammar.specs.Names.Acts.{Rule}
use Rattle.irtext_grammar.specs.Names.Script.{ReservedKey}
use Rattle.irtext_grammar.specs.Promises.Supported.{location_verdict}
use Rattle.irtext_grammar.specs.Readers.Directives.{attribute_at}
use Rattle.irtext_grammar.proofs.Joins.Answers.{Splits, mapped_read}
use Rattle.irtext_grammar.proofs.Joins.Brackets.{bracketed_read, bracketed_found, stop_fails}
use Rattle.irtext_grammar.proofs.Joins.Lists.{Items, Stop}
use Rattle.irtext_grammar.specs.Exact.{Exact, NeedsWord}
use Rattle.irtext_grammar.specs.Heads.{mark_at}
use Rattle.irtext_grammar.proofs.Exact.Attributes.{exact_attribute, no_word_there}
use Rattle.irtext_grammar.proofs.Exact.Combined.{exact_keyed}
use Rattle.irtext_grammar.proofs.Exact.Listed.{Starts, starts_so}
use Rattle.irtext_grammar.proofs.Exact.Names.{exact_name, exact_mark, starts_name}
use Rattle.irtext_grammar.specs.Entries.{item_at, pair_at, is_allowed, kept, pairs_at}
use Rattle.irtext_grammar.specs.Agrees.{StopsAt, ReadOrStops}
use Rattle.irtext_grammar.proofs.Claims.{wrong_pairs}

-- ---- a key that is kept
module _ {A : Type 0} (rule : Rule A) where
  -- a pair that parses is one whose attribute is allowed under its key
  kept_read : (o : Outcome (Name ℕ × Item ℕ A)) (p : Name ℕ × Item ℕ A) (taken rest : Text) → kept rule o ≡ Read p taken rest → (o ≡ Read p taken rest) × (is_allowed rule p ≡ true)
  kept_read (Read q a r) p taken rest e = go (is_allowed rule q) refl e
    where
      go : (b : Bool) → is_allowed rule q ≡ b → cond b (Read q a r) (Bad (fault.ReservedKey q.0.text) []) ≡ Read p taken rest → (Read q a r ≡ Read p taken rest) × (is_allowed rule p ≡ true)
      go true f e = (e, let g : q ≡ p = cc e in ap (is_allowed rule) (sym g) ∙ f)
      go false f e = absurd (cc e)
  kept_read (Missing cause) p taken rest e = absurd (cc e)
  kept_read (Bad cause upto) p taken rest e = absurd (cc e)

  kept_missing : (o : Outcome (Name ℕ × Item ℕ A)) (cause : Fault) → kept rule o ≡ Missing cause → o ≡ Missing cause
  kept_missing (Read q a r) cause e = go (is_allowed rule q) e
    where
      go : (b : Bool) → cond b (Read q a r) (Bad (fault.ReservedKey q.0.text) []) ≡ Missing cause → Read q a r ≡ Missing cause
      go true e = e
      go false e = absurd (cc e)
  kept_missing (Missing c) cause e = e
  kept_missing (Bad c upto) cause e = absurd (cc e)

  -- pairs that are all allowed have no failures
  pub fine_pairs : (ps : List (Name ℕ × Item ℕ A)) → list_all (is_allowed rule) ps ≡ true → wrong_pairs rule ps ≡ []
  fine_pairs [] h = refl
  fine_pairs ((n, direct a) ∷ ps) h =
      let f : rule n.text a ≡ true = and_left (rule n.text a) (list_all (is_allowed rule) ps) h in
      rw f (fine_pairs ps (and_right (rule n.text a) (list_all (is_allowed rule) ps) h))
  fine_pairs ((n, reference m) ∷ ps) h = fine_pairs ps h

  -- after pairs that are allowed, the first failing pair is the first failure of all
  first_wrong : (before following : List (Name ℕ × Item ℕ A)) (p : Name ℕ × Item ℕ A) → list_all (is_allowed rule) before ≡ true → is_allowed rule p ≡ false
      → wrong_pairs rule (before ++ p ∷ following) ≡ record { cause = ReservedKey p.0.text; at = Some p.0.place } ∷ wrong_pairs rule following
  first_wrong [] following (n, direct a) h f = rw f refl
  first_wrong [] following (n, reference m) h f = absurd (true≢false f)
  first_wrong ((n, direct a) ∷ before) following p h f =
      let g : rule n.text a ≡ true = and_left (rule n.text a) (list_all (is_allowed rule) before) h in
      rw g (first_wrong before following p (and_right (rule n.text a) (list_all (is_allowed rule) before) h) f)
  first_wrong ((n, reference m) ∷ before) following p h f = first_wrong before following p h f

-- a location, as the grammar parses one with these attributes
abbrev pub own_location : {A : Type 0} → (Text → Outcome A) → Text → Verdict (Written A)
own_location reading = location_verdict (attr_at reading)

-- pairs between brackets
abbrev pub bracketed : {T A : Type 0} → Language ℕ T A → (Text → Verdict (Written A)) → List (Name ℕ × Item ℕ A) → Reading
bracketed L loc ps = literal (codes "[") ▹ separated 44 reads.no_word (map (section.pair L loc) ps) ▹ literal (codes "]")

module _ {T A : Type 0} (types : Texts T) (reading : Text → Outcome A) (written : A → Text) (formats : Id → Option Format) (splits : Splits reading) (words : NeedsWord reading) where
  abbrev l : Language ℕ T A
  l = language types (texts_of reading written) formats

  abbrev attr : Text → Outcome (AttrView A)
  attr = attr_at reading

  abbrev loc : Text → Verdict (Written A)
  loc = own_location reading

  -- an attribute begins as a word does
  pub attribute_begins : (a : Attribute A) (text rest : Text) → reads.attribute l a text rest → begins begins_word text ≡ true
  attribute_begins (tree.given_names ns) text rest r = ap (begins begins_word) r.1.0
  attribute_begins (tree.ident n) text rest r = ap (begins begins_word) r.1.0
  attribute_begins (tree.own a) text rest r = go (begins begins_word text) refl
    where
      go : (b : Bool) → begins begins_word text ≡ b → begins begins_word text ≡ true
      go true e = e
      go false e = absurd (let f : found a rest ≡ missing = sym r.1.1 ∙ words.misses text e in cc f)

  no_mark : (a : Attribute A) (text rest : Text) → reads.attribute l a text rest → begins (the 33) text ≡ false
  no_mark a text rest r = go (begins (the 33) text) refl
    where
      go : (b : Bool) → begins (the 33) text ≡ b → begins (the 33) text ≡ false
      go false e = e
      go true e = absurd (true≢false (sym (attribute_begins a text rest r) ∙ no_word_there text e))

  -- what an entry gives under a key
  pub exact_item : Exact (item_at attr) (section.item l loc)
  exact_item = record { read = there; found = back }
    where
      there : (text : Text) (i : Item ℕ A) (taken rest : Text) → item_at attr text ≡ Read i taken rest → section.item l loc i text rest × (taken ++ rest ≡ text)
      there text i taken rest e = go (begins (the 33) text) e
        where
          go : (b : Bool) → cond b (mapped reference (mark_at text)) (mapped direct (attribute_at attr text)) ≡ Read i taken rest → section.item l loc i text rest × (taken ++ rest ≡ text)
          go true e =
              let m = mapped_read reference (mark_at text) i taken rest e in
              let k = (exact_mark types (texts_of reading written) formats).read text m.0 taken rest m.1 in
              (subst (λ i. section.item l loc i text rest) m.2 k.0, k.1)
          go false e =
              let m = mapped_read direct (attribute_at attr text) i taken rest e in
              let k = (exact_attribute types reading written formats splits).read text m.0 taken rest m.1 in
              (subst (λ i. section.item l loc i text rest) m.2 k.0, k.1)

      back : (text : Text) (i : Item ℕ A) (rest : Text) → section.item l loc i text rest → (taken : Text) × (item_at attr text ≡ Read i taken rest)
      back text (reference m) rest r =
          let k = (exact_mark types (texts_of reading written) formats).found text m rest r in
          let b : begins (the 33) text ≡ true = ap (begins (the 33)) r.1.1 in
          (k.0, rw b (ap (mapped reference) k.1))
      back text (direct a) rest r =
          let k = (exact_attribute types reading written formats splits).found text a rest r in
          (k.0, rw (no_mark a text rest r) (ap (mapped direct) k.1))

  -- a key with what the entry gives under it
  pub exact_pair : Exact (pair_at attr) (section.pair l loc)
  exact_pair = exact_keyed (codes "=") (exact_name types (texts_of reading written) formats) exact_item

  -- where one is missing no word begins
  starts_pair : Starts (pair_at attr) reads.no_word
  starts_pair = starts_so _ starts_name

  module _ (rule : Rule A) where
    -- pairs under a rule, as the joins of lists take them
    abbrev pairs_of : Items (Name ℕ × Item ℕ A) (Name ℕ × Item ℕ A)
    pairs_of = record {
      item = λ t. kept rule (pair_at attr t);
      reading = section.pair l loc;
      missing = reads.no_word;
      see = λ p. p;
      allowed = is_allowed rule;
      wrong = λ p. fault.ReservedKey p.0.text;
      splits = λ text p taken rest e. (exact_pair.read text p taken rest (kept_read rule (pair_at attr text) p taken rest e).0).1;
      reads = λ text p taken rest e.
          let k = kept_read rule (pair_at attr text) p taken rest e in
          record { item = p; read = (exact_pair.read text p taken rest k.0).0; sees = refl; fine = k.1 };
      misses = λ text cause e. starts_pair.misses text cause (kept_missing rule (pair_at attr text) cause e);
      found = λ p text rest r f. let a = exact_pair.found text p rest r in (a.0, ap (kept rule) a.1 ∙ rw f refl);
      refused = λ p text rest r f. ap (kept rule) (exact_pair.found text p rest r).1 ∙ rw f refl;
      missed = λ text n. let m = starts_pair.missed text n in (m.0, ap (kept rule) m.1);
    }

    -- pairs that are accepted the grammar parses, and without a failure
    pub pairs_read : (text : Text) (ps : List (Name ℕ × Item ℕ A)) (taken rest : Text) → pairs_at attr rule text ≡ Read ps taken rest → bracketed l loc ps text rest × (taken ++ rest ≡ text) × (wrong_pairs rule ps ≡ [])
    unfolding pairs_at
    pairs_read text ps taken rest e = let b = bracketed_read pairs_of map-id text ps taken rest e in (b.0, b.1, fine_pairs rule ps b.2)

    -- if the list stops at a pair, the key of that pair is the first failure
    list_stops : (ps : List (Name ℕ × Item ℕ A)) (text : Text) (o : Outcome (List (Name ℕ × Item ℕ A))) → Stop 44 pairs_of ps text o → StopsAt text o (wrong_pairs rule ps)
    list_stops ps text o k = stop_fails pairs_of ps text o k (record { cause = ReservedKey k.at.item.0.text; at = Some k.at.item.0.place }) (wrong_pairs rule k.following) (wrong_pairs rule ps)
        (ap (wrong_pairs rule) k.whole ∙ first_wrong rule k.before k.following k.at.item k.fine k.at.wrong) (ap Some k.at.read.1.0) refl

    -- pairs that the grammar parses are accepted, up to the first key whose attribute is not allowed
    pub pairs_found : (text : Text) (ps : List (Name ℕ × Item ℕ A)) (rest : Text) → bracketed l loc ps text rest → ReadOrStops text (pairs_at attr rule text) ps rest (wrong_pairs rule ps)
    unfolding pairs_at
    pairs_found text ps rest h = bracketed_found pairs_of map-id text ps rest h (wrong_pairs rule ps) (fine_pairs rule ps) (list_stops ps)
