-- What the parser of attributes returns, and the grammar's readings of them.
use Rattle.std.proofs.Common.{◌≡◌, ◌∙◌, ℕ, Bool, true, false, cond, Some, None, Option, List, [], ◌∷◌, ◌++◌, map, codes, refl, sym, ap, subst, true≢false}
use Rattle.std.proofs.lemmas.List.{map-id}
use Rattle.std.specs.Prelude.{◌||◌, ◌==◌}
use Rattle.std.specs.Str.{bytes_eq}
use Rattle.std.specs.Cmp.Lexicographic.{bytes_decides}
use Rattle.std.specs.List.{list_all}
use Rattle.std.specs.Char.{is_whitespace}
use Rattle.irtext_base.specs.Text.{Text, begins, front, after, after_space, in_dotted, begins_word}
use Rattle.irtext_base.specs.Reading.{the, keyword, identifier, separated}
use Rattle.irtext_base.specs.Faults.{Fault, AnIdentifier, EmptyItem, Unexpected}
use Rattle.irtext_base.specs.Answers.{Outcome, Read, Missing, mapped, followed, prefixed}
use Rattle.irtext_base.specs.Locations.{AttrView}
use Rattle.irtext_base.specs.Locations as view
use Rattle.irtext_base.specs.Own.{Language, verdict}
use Rattle.irtext_base.proofs.Characters.{front_all, is_false}
use Rattle.irtext_tokens.specs.Tokens.{word_at, space_at, text_at, identifier_at}
use Rattle.irtext_tokens.specs.AttrTexts.{leads, given_name_at, names_at, given_names_at, ident_at, attr_at}
use Rattle.irtext_tokens.proofs.Attributes.{given_name_takes, names_lead, ident_leads, own_leads}
use Rattle.irtext_grammar.specs.Spelling.AttrText.{attr_tree}
use Rattle.irtext_grammar.specs.Grammar.Reads as reads
use Rattle.irtext_grammar.proofs.RoundTrips.AttrBack.{leads_keyword, no_question, read_there}
use Rattle.irtext_grammar.proofs.Joins.Answers.{followed_read, followed-read, mapped_read, Splits, splits_followed, splits_mapped}
use Rattle.irtext_grammar.proofs.Joins.Lists.{Items, list_read, list_tight, list_found, ListFound, all_fine, one_stops, splits_separated}
use Rattle.irtext_grammar.proofs.Joins.Tokens.{text_read, text-literal, splits_text, splits_space, word_read, word-identifier, splits_word}

-- ---- a given name
name_read : (x : Option Text) (text taken rest : Text) → given_name_at text ≡ Read x taken rest → reads.given_name x text rest
name_read x text taken rest e =
    elim (begins (the 63) text) as (λ b. cond b (mapped (λ _. None) (text_at (codes "?") text)) (mapped Some (identifier_at text)) ≡ Read x taken rest → reads.given_name x text rest) [
      | true ↦ (λ q. let m = mapped_read (λ _. None) (text_at (codes "?") text) x taken rest q in subst (λ z. reads.given_name z text rest) m.2 (text_read (codes "?") text taken rest m.1))
      | false ↦ (λ q. let m = mapped_read Some (identifier_at text) x taken rest q in subst (λ z. reads.given_name z text rest) m.2 (word_read AnIdentifier text m.0 taken rest m.1).0)
    ] e

name-reads : (x : Option Text) (text rest : Text) → reads.given_name x text rest → (taken : Text) × (given_name_at text ≡ Read x taken rest)
name-reads None text rest e = (63 ∷ [], ap given_name_at e)
name-reads (Some n) text rest h = (n, rw (no_question text h.0, word-identifier AnIdentifier text n rest h) refl)

-- where the fault is a missing one, no name begins
missed_at : (b w : Bool) (c : ℕ) (text : Text) (cause : Fault) → (c == 63) ≡ b → begins_word c ≡ w → given_name_at (c ∷ text) ≡ Missing cause → (begins_word c || (c == 63)) ≡ false
unfolding word_at
missed_at true w c text cause f g e = absurd (let q = rw f at e in cc q)
missed_at false true c text cause f g e = absurd (let q = rw (f, g) at e in cc q)
missed_at false false c text cause f g e = rw (f, g) refl

name_missed : (text : Text) (cause : Fault) → given_name_at text ≡ Missing cause → reads.no_given_name text
name_missed [] cause e = refl
name_missed (c ∷ text) cause e = missed_at (c == 63) (begins_word c) c text cause refl refl e

missing_by : (b w : Bool) (c : ℕ) (text : Text) → (c == 63) ≡ b → begins_word c ≡ w → (begins_word c || (c == 63)) ≡ false → (cause : Fault) × (given_name_at (c ∷ text) ≡ Missing cause)
unfolding word_at
missing_by b true c text f g e = absurd (let q = rw g at e in cc q)
missing_by true false c text f g e = absurd (let q = rw (g, f) at e in cc q)
missing_by false false c text f g e = (Unexpected (Some c) AnIdentifier, rw (f, g) refl)

name-missed : (text : Text) → reads.no_given_name text → (cause : Fault) × (given_name_at text ≡ Missing cause)
unfolding word_at
name-missed [] e = (_, refl)
name-missed (c ∷ text) e = missing_by (c == 63) (begins_word c) c text refl refl e

-- ---- the names
-- given names, as the grammar and their parser have them; each is allowed
abbrev given : Items (Option Text) (Option Text)
given = record {
  item = given_name_at;
  reading = reads.given_name;
  missing = reads.no_given_name;
  see = λ x. x;
  allowed = λ x. true;
  wrong = λ x. EmptyItem;
  splits = given_name_takes;
  reads = λ text x taken rest e. record { item = x; read = name_read x text taken rest e; sees = refl; fine = refl };
  misses = name_missed;
  found = λ x text rest r f. name-reads x text rest r;
  refused = λ x text rest r f. absurd (true≢false f);
  missed = name-missed;
}

names_read : (text : Text) (all : List (Option Text)) (taken rest : Text) → names_at text ≡ Read all taken rest → separated 44 reads.no_given_name (map reads.given_name all) text rest
names_read text all taken rest e =
    let k = list_read 44 given text all taken rest e in
    subst (λ z. separated 44 reads.no_given_name (map reads.given_name z) text rest) (sym (map-id k.items) ∙ k.whole) k.read

names-reads : (all : List (Option Text)) (text rest : Text) → separated 44 reads.no_given_name (map reads.given_name all) text rest → (taken : Text) × (names_at text ≡ Read all taken rest)
names-reads all text rest h = go (list_found 44 given all text rest h)
  where
    go : ListFound 44 given [] all text rest (names_at text) → (taken : Text) × (names_at text ≡ Read all taken rest)
    go (all_fine f taken e) = (taken, e ∙ ap (λ z. Read z taken rest) (map-id all))
    go (one_stops k) = absurd (true≢false k.at.wrong)

-- no white space is left after names
separated_tight : (names : List (Option Text)) (text rest : Text) → separated 44 reads.no_given_name (map reads.given_name names) (after_space text) rest → after_space rest ≡ rest
separated_tight names text rest h = list_tight 44 given names text rest h

-- ---- what attributes take
splits_names : Splits names_at
splits_names = splits_separated 44 given_name_at given_name_takes

-- the closing bracket, after what was parsed
abbrev pub shut_next : {X : Type 0} → X → Text → Outcome X
shut_next x text = mapped (λ _. x) (text_at (codes "]") text)

-- what is taken and what is left of it make up the text
pub splits_shut : {X : Type 0} (x : X) → Splits (shut_next x)
splits_shut x = splits_mapped (λ _. x) (text_at (codes "]")) (splits_text (codes "]"))

splits_given_names : Splits given_names_at
unfolding given_names_at
splits_given_names = splits_followed (text_at (codes "builtin.given_names")) _ (splits_text (codes "builtin.given_names")) (λ a. splits_followed space_at _ splits_space
    (λ b. splits_followed (text_at (codes "[")) _ (splits_text (codes "[")) (λ c. splits_followed space_at _ splits_space (λ d. splits_followed names_at shut_next splits_names splits_shut))))

splits_ident : Splits ident_at
unfolding ident_at
splits_ident = splits_followed (text_at (codes "builtin.identifier")) _ (splits_text (codes "builtin.identifier")) (λ a. splits_followed space_at _ splits_space (λ b. splits_word AnIdentifier))

-- an attribute takes a front of the text, where the caller's own parser does
pub splits_attr : {A : Type 0} (reading : Text → Outcome A) → Splits reading → Splits (attr_at reading)
unfolding attr_at
splits_attr reading h text v taken rest e = go (leads (codes "builtin.given_names") text) (leads (codes "builtin.identifier") text) e
  where
    go : (b c : Bool) → cond b (mapped view.given_names (given_names_at text)) (cond c (mapped view.ident (ident_at text)) (mapped view.own (reading text))) ≡ Read v taken rest → taken ++ rest ≡ text
    go true c e = splits_mapped view.given_names given_names_at splits_given_names text v taken rest e
    go false true e = splits_mapped view.ident ident_at splits_ident text v taken rest e
    go false false e = splits_mapped view.own reading h text v taken rest e

-- ---- attributes
cancel_front : (word a b : Text) → word ++ a ≡ word ++ b → a ≡ b
cancel_front [] a b e = e
cancel_front (c ∷ word) a b e = let q : word ++ a ≡ word ++ b = cc e in cancel_front word a b q

in_front : (word text : Text) → list_all in_dotted word ≡ true → (rest : Text) → keyword word text rest → leads word text ≡ true
in_front word text e rest k =
    let f : front in_dotted text ≡ word = ap (front in_dotted) k.0 ∙ front_all in_dotted word rest e k.1 in
    (bytes_decides (front in_dotted text) word).1 f

module _ {P T A : Type 0} (reading : Text → Outcome A) (L : Language P T A) (same : (text : Text) → L.owns.outcome text ≡ verdict (reading text)) where
  given_names_read : (text : Text) (all : List (Option Text)) (taken rest : Text) → leads (codes "builtin.given_names") text ≡ true → given_names_at text ≡ Read all taken rest → reads.attribute L (attr_tree {A = A} (view.given_names all)) text rest
  unfolding given_names_at
  given_names_read text all taken rest l e =
      let k = leads_keyword (codes "builtin.given_names") text l in
      let f1 = followed_read (text_at (codes "builtin.given_names") text) (λ _ t. followed (space_at t) (λ _ u. followed (text_at (codes "[") u) (λ _ v. followed (space_at v) (λ _ w. followed (names_at w) (λ names x. mapped (λ _. names) (text_at (codes "]") x)))))) all taken rest e in
      let f2 = followed_read (space_at f1.middle) (λ _ u. followed (text_at (codes "[") u) (λ _ v. followed (space_at v) (λ _ w. followed (names_at w) (λ names x. mapped (λ _. names) (text_at (codes "]") x))))) all f1.more rest f1.second in
      let f3 = followed_read (text_at (codes "[") f2.middle) (λ _ v. followed (space_at v) (λ _ w. followed (names_at w) (λ names x. mapped (λ _. names) (text_at (codes "]") x)))) all f2.more rest f2.second in
      let f4 = followed_read (space_at f3.middle) (λ _ w. followed (names_at w) (λ names x. mapped (λ _. names) (text_at (codes "]") x))) all f3.more rest f3.second in
      let f5 = followed_read (names_at f4.middle) (λ names x. mapped (λ _. names) (text_at (codes "]") x)) all f4.more rest f4.second in
      let m = mapped_read (λ _. f5.value) (text_at (codes "]") f5.middle) all f5.more rest f5.second in
      let s2 : after is_whitespace f1.middle ≡ f2.middle = cc f2.first in
      let s4 : after is_whitespace f3.middle ≡ f4.middle = cc f4.first in
      let word : text ≡ codes "builtin.given_names" ++ f1.middle = text_read (codes "builtin.given_names") text f1.front f1.middle f1.first in
      let following : after in_dotted text ≡ f1.middle = cancel_front (codes "builtin.given_names") (after in_dotted text) f1.middle (sym k.0 ∙ word) in
      let names = names_read f4.middle f5.value f5.front f5.middle f5.first in
      let listed : separated 44 reads.no_given_name (map reads.given_name all) (after_space f3.middle) f5.middle = subst (λ z. separated 44 reads.no_given_name (map reads.given_name all) z f5.middle) (sym s4) (subst (λ z. separated 44 reads.no_given_name (map reads.given_name z) f4.middle f5.middle) m.2 names) in (
        f1.middle,
        (word, subst (λ z. begins in_dotted z ≡ false) following k.1),
        (f3.middle, s2 ∙ text_read (codes "[") f2.middle f3.front f3.middle f3.first, (f5.middle, listed, separated_tight all f3.middle f5.middle listed ∙ text_read (codes "]") f5.middle f5.more rest m.1)),
      )

  ident_read : (text name taken rest : Text) → leads (codes "builtin.identifier") text ≡ true → ident_at text ≡ Read name taken rest → reads.attribute L (attr_tree {A = A} (view.ident name)) text rest
  unfolding ident_at
  ident_read text name taken rest l e =
      let k = leads_keyword (codes "builtin.identifier") text l in
      let f1 = followed_read (text_at (codes "builtin.identifier") text) (λ _ t. followed (space_at t) (λ _ u. identifier_at u)) name taken rest e in
      let f2 = followed_read (space_at f1.middle) (λ _ u. identifier_at u) name f1.more rest f1.second in
      let s2 : after is_whitespace f1.middle ≡ f2.middle = cc f2.first in
      let word : text ≡ codes "builtin.identifier" ++ f1.middle = text_read (codes "builtin.identifier") text f1.front f1.middle f1.first in
      let following : after in_dotted text ≡ f1.middle = cancel_front (codes "builtin.identifier") (after in_dotted text) f1.middle (sym k.0 ∙ word) in
      (f1.middle, (word, subst (λ z. begins in_dotted z ≡ false) following k.1), subst (λ z. identifier name z rest) (sym s2) (word_read AnIdentifier f2.middle name f2.more rest f2.second).0)

  own_read : (text : Text) (a : A) (taken rest : Text) → leads (codes "builtin.given_names") text ≡ false → leads (codes "builtin.identifier") text ≡ false → reading text ≡ Read a taken rest → reads.attribute L (attr_tree (view.own a)) text rest
  own_read text a taken rest d f e = (
    λ after k. true≢false (sym (in_front (codes "builtin.given_names") text refl after k) ∙ d),
    (λ after k. true≢false (sym (in_front (codes "builtin.identifier") text refl after k) ∙ f), same text ∙ ap verdict e),
  )

  -- what was parsed is the grammar's
  pub attribute_read : (v : AttrView A) (text taken rest : Text) → attr_at reading text ≡ Read v taken rest → reads.attribute L (attr_tree v) text rest
  attribute_read v text taken rest e =
      let go : (b c : Bool) → leads (codes "builtin.given_names") text ≡ b → leads (codes "builtin.identifier") text ≡ c → reads.attribute L (attr_tree v) text rest =
      elim [
        | true ↦ (λ c p q. let m = mapped_read view.given_names (given_names_at text) v taken rest (sym (names_lead reading text (sym p)) ∙ e) in subst (λ z. reads.attribute L (attr_tree z) text rest) m.2 (given_names_read text m.0 taken rest p m.1))
        | false ↦ elim [
          | true ↦ (λ p q. let m = mapped_read view.ident (ident_at text) v taken rest (sym (ident_leads reading text (sym p) (sym q)) ∙ e) in subst (λ z. reads.attribute L (attr_tree z) text rest) m.2 (ident_read text m.0 taken rest q m.1))
          | false ↦ (λ p q. let m = mapped_read view.own (reading text) v taken rest (sym (own_leads reading text (sym p) (sym q)) ∙ e) in subst (λ z. reads.attribute L (attr_tree z) text rest) m.2 (own_read text m.0 taken rest p q m.1))
        ]
      ] in
      go (leads (codes "builtin.given_names") text) (leads (codes "builtin.identifier") text) refl refl

  -- the word of an identifier is not the one of given names
  one_word : (text : Text) → leads (codes "builtin.identifier") text ≡ true → leads (codes "builtin.given_names") text ≡ false
  one_word text e =
      let f : front in_dotted text ≡ codes "builtin.identifier" = (bytes_decides (front in_dotted text) (codes "builtin.identifier")).0 e in
      ap (λ z. bytes_eq z (codes "builtin.given_names")) f

  given_names-reads : (text : Text) (all : List (Option Text)) (rest : Text) → reads.attribute L (attr_tree {A = A} (view.given_names all)) text rest → (taken : Text) × (given_names_at text ≡ Read all taken rest)
  unfolding given_names_at
  given_names-reads text all rest (b1, word, (b2, opened, (b3, listed, shuts))) =
      let n = names-reads all (after_space b2) b3 listed in
      let shut : b3 ≡ codes "]" ++ rest = sym (separated_tight all b2 b3 listed) ∙ shuts in
      let k5 = λ (names : List (Option Text)) (x : Text). mapped (λ _. names) (text_at (codes "]") x) in
      let k4 = λ (u : Unit {0}) (w : Text). followed (names_at w) k5 in
      let k3 = λ (u : Unit {0}) (v : Text). followed (space_at v) k4 in
      let k2 = λ (u : Unit {0}) (v : Text). followed (text_at (codes "[") v) k3 in
      let k1 = λ (u : Unit {0}) (t : Text). followed (space_at t) k2 in
      let e5 : k5 all b3 ≡ Read all (codes "]") rest = ap (mapped (λ _. all)) (text-literal (codes "]") b3 rest shut) in
      let e4 = followed-read (names_at (after_space b2)) k5 all all n.0 b3 (codes "]") rest n.1 e5 in
      let e3 : k3 tt b2 ≡ Read all (front is_whitespace b2 ++ (n.0 ++ codes "]")) rest = ap (prefixed (front is_whitespace b2)) e4 in
      let e2 = followed-read (text_at (codes "[") (after_space b1)) k3 tt all (codes "[") b2 (front is_whitespace b2 ++ (n.0 ++ codes "]")) rest (text-literal (codes "[") (after_space b1) b2 opened) e3 in
      let e1 : k1 tt b1 ≡ Read all (front is_whitespace b1 ++ (codes "[" ++ (front is_whitespace b2 ++ (n.0 ++ codes "]")))) rest = ap (prefixed (front is_whitespace b1)) e2 in
      (_, followed-read (text_at (codes "builtin.given_names") text) k1 tt all (codes "builtin.given_names") b1 (front is_whitespace b1 ++ (codes "[" ++ (front is_whitespace b2 ++ (n.0 ++ codes "]")))) rest (text-literal (codes "builtin.given_names") text b1 word.0) e1)

  ident-reads : (text name rest : Text) → reads.attribute L (attr_tree {A = A} (view.ident name)) text rest → (taken : Text) × (ident_at text ≡ Read name taken rest)
  unfolding ident_at
  ident-reads text name rest (b1, word, h) =
      let k1 = λ (u : Unit {0}) (t : Text). followed (space_at t) (λ (_ : Unit {0}) (u : Text). identifier_at u) in
      let e1 : k1 tt b1 ≡ Read name (front is_whitespace b1 ++ name) rest = ap (prefixed (front is_whitespace b1)) (word-identifier AnIdentifier (after_space b1) name rest h) in
      (_, followed-read (text_at (codes "builtin.identifier") text) k1 tt name (codes "builtin.identifier") b1 (front is_whitespace b1 ++ name) rest (text-literal (codes "builtin.identifier") text b1 word.0) e1)

  -- what the grammar parses is accepted
  pub attribute-reads : (v : AttrView A) (text rest : Text) → reads.attribute L (attr_tree v) text rest → (taken : Text) × (attr_at reading text ≡ Read v taken rest)
  attribute-reads (view.given_names all) text rest h =
      let n = given_names-reads text all rest h in
      let l = in_front (codes "builtin.given_names") text refl h.0 h.1 in
      (n.0, names_lead reading text (sym l) ∙ ap (mapped view.given_names) n.1)
  attribute-reads (view.ident name) text rest h =
      let n = ident-reads text name rest h in
      let l = in_front (codes "builtin.identifier") text refl h.0 h.1 in
      (n.0, ident_leads reading text (sym (one_word text l)) (sym l) ∙ ap (mapped view.ident) n.1)
  attribute-reads (view.own a) text rest (names, (word, there)) =
      let d = is_false (leads (codes "builtin.given_names") text) (λ l. names (after in_dotted text) (leads_keyword (codes "builtin.given_names") text l)) in
      let f = is_false (leads (codes "builtin.identifier") text) (λ l. word (after in_dotted text) (leads_keyword (codes "builtin.identifier") text l)) in
      let o = read_there (reading text) a rest (sym (same text) ∙ there) in
      (o.0, own_leads reading text (sym d) (sym f) ∙ ap (mapped view.own) o.1)
