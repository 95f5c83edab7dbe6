-- What is written of an attribute is parsed back.
use Rattle.std.proofs.Common.{◌≡◌, ◌∙◌, ◌≤◌, ℕ, zero, suc, Bool, true, false, cond, Some, None, Option, List, [], ◌∷◌, ◌++◌, map, length, length-append, codes, refl, sym, ap, arith, append_assoc, append-nil, true≢false}
use Rattle.std.specs.Cmp.Lexicographic.{bytes_decides}
use Rattle.std.proofs.lemmas.Bool.Decides.{nat_tests}
use Rattle.std.specs.Char.{is_whitespace}
use Rattle.irtext_base.specs.Text.{Text, begins, front, after, after_space, in_word, in_dotted, begins_word}
use Rattle.irtext_base.specs.Reading.{the, keyword}
use Rattle.irtext_base.specs.Faults.{Fault}
use Rattle.irtext_base.specs.Answers.{Outcome, Read, Missing, Bad, mapped, followed, prefixed}
use Rattle.irtext_base.specs.Locations.{AttrView, given_names, ident, own}
use Rattle.irtext_base.specs.Own.{texts_of, verdict, found, missing, Ends, Lawful, Unreserved}
use Rattle.irtext_base.proofs.Along.{front_after}
use Rattle.irtext_base.proofs.Characters.{front_all, after_all, ends_word, identifier_every, identifier_begins, word_tight, is_false}
use Rattle.irtext_tokens.specs.Tokens.{word_at, text_at, identifier_at}
use Rattle.irtext_tokens.specs.ListOutcomes.{item_after, items_after, or_empty}
use Rattle.irtext_tokens.specs.AttrTexts.{leads, given_name_at, names_at, given_names_at, ident_at, attr_at}
use Rattle.irtext_tokens.proofs.Attributes.{names_lead, ident_leads, own_leads}
use Rattle.irtext_tokens.proofs.Grammar.{identifier_at-identifier}
use Rattle.irtext_grammar.specs.Spelling.AttrText.{attr_text, IsSpellableAttr}
use Rattle.irtext_grammar.specs.Spelling.Spellable.{Each, IsIdentifier, IsGiven}
use Rattle.irtext_grammar.specs.Spelling.Spell.{joined, joined_from, comma, or_question}

-- what follows the longest prefix of such characters does not begin with one
after_begins : (test : ℕ → Bool) (text : Text) → begins test (after test text) ≡ false
after_begins test [] = refl
after_begins test (c ∷ text) = elim (test c) as (λ b. test c ≡ b → begins test (cond b (after test text) (c ∷ text)) ≡ false) [ true ↦ (λ e. after_begins test text) | false ↦ (λ e. e) ] refl

-- a word that leads is one that goes no further
pub leads_keyword : (word text : Text) → leads word text ≡ true → keyword word text (after in_dotted text)
leads_keyword word text e = (sym (front_after in_dotted text) ∙ ap (λ z. z ++ after in_dotted text) ((bytes_decides (front in_dotted text) word).0 e), after_begins in_dotted text)

-- an identifier before what does not go on with it
word_back : (n f : Text) → IsIdentifier n → begins in_word f ≡ false → identifier_at (n ++ f) ≡ Read n n f
word_back n f w e = identifier_at-identifier n (n ++ f) f (identifier_begins n f w, sym (front_all in_word n f (identifier_every n w) e), sym (after_all in_word n f (identifier_every n w) e))

word_no_question : (c : ℕ) → begins_word c ≡ true → the 63 c ≡ false
word_no_question c e = grind (arith, nat_tests)

-- where a word begins, the text does not begin with `?`
pub no_question : (text : Text) → begins begins_word text ≡ true → begins (the 63) text ≡ false
no_question [] e = refl
no_question (c ∷ text) e = word_no_question c e

-- a given name before what does not go on with it
name_back : (x : Option Text) (f : Text) → IsGiven x → begins in_word f ≡ false → given_name_at (or_question x ++ f) ≡ Read x (or_question x) f
name_back None f h e = refl
name_back (Some n) f h e = rw (no_question (n ++ f) (identifier_begins n f h), word_back n f h e) refl

-- a text that does not begin with white space has an empty prefix of it
no_space : (f : Text) → begins is_whitespace f ≡ false → (front is_whitespace f ≡ []) × (after is_whitespace f ≡ f)
no_space [] e = (refl, refl)
no_space (c ∷ f) e = rw e (refl, refl)

-- a given name does not begin with white space
name_tight : (x : Option Text) (f : Text) → IsGiven x → after_space (or_question x ++ f) ≡ or_question x ++ f
name_tight None f h = refl
name_tight (Some n) f h = word_tight (n ++ f) (identifier_begins n f h)

module _ (rest : Text) where
  -- the rest of the names and the closing bracket
  abbrev left : List (Option Text) → Text
  left ns = joined_from comma (map or_question ns) ++ (93 ∷ rest)

  left_begins : (ns : List (Option Text)) → (begins in_word (left ns) ≡ false) × (begins is_whitespace (left ns) ≡ false)
  left_begins [] = (refl, refl)
  left_begins (x ∷ ns) = (refl, refl)

  item_back : (before ns : List (Option Text)) (x : Option Text) → IsGiven x → item_after 44 given_name_at before (or_question x ++ left ns) ≡ Read (before ++ (x ∷ [])) (or_question x ++ []) (left ns)
  item_back before ns x h = rw (name_back x (left ns) h (left_begins ns).0, (no_space (left ns) (left_begins ns).1).0, (no_space (left ns) (left_begins ns).1).1) refl

  tail_back : (ns before : List (Option Text)) (m : ℕ) → Each IsGiven ns → length (left ns) ≤ m → (taken : Text) × (items_after 44 given_name_at m before (left ns) ≡ Read (before ++ ns) taken (93 ∷ rest))
  tail_back [] before zero h l = absurd (omega (arith, l))
  tail_back [] before (suc m) h l = ([], ap (λ z. Read z [] (93 ∷ rest)) (sym (append-nil before)))
  tail_back (x ∷ ns) before zero h l = absurd (omega (arith, l))
  tail_back (x ∷ ns) before (suc m) h l =
      let following = or_question x ++ left ns in
      let flat : left (x ∷ ns) ≡ 44 ∷ 32 ∷ following = ap (λ z. 44 ∷ 32 ∷ z) (append_assoc (or_question x) (joined_from comma (map or_question ns)) (93 ∷ rest)) in
      let enough : length (left ns) ≤ m = omega (arith, l, ap length flat, length-append (or_question x) (left ns)) in
      let i = tail_back ns (before ++ (x ∷ [])) m h.1 enough in
      let spaces = 32 ∷ front is_whitespace following in (
        (44 ∷ []) ++ (spaces ++ ((or_question x ++ []) ++ i.0)),
        ap (items_after 44 given_name_at (suc m) before) flat
            ∙ (ap (λ z. prefixed (44 ∷ []) (prefixed spaces (followed z (λ more v. items_after 44 given_name_at m more v)))) (ap (item_after 44 given_name_at before) (name_tight x (left ns) h.0) ∙ item_back before ns x h.0)
            ∙ ap (λ z. prefixed (44 ∷ []) (prefixed spaces (prefixed (or_question x ++ []) z))) (i.1 ∙ ap (λ z. Read z i.0 (93 ∷ rest)) (append_assoc before (x ∷ []) ns))),
      )

  -- the names and the closing bracket
  abbrev inside : List (Option Text) → Text
  inside ns = joined comma (map or_question ns) ++ (93 ∷ rest)

  inside_tight : (ns : List (Option Text)) → Each IsGiven ns → after_space (inside ns) ≡ inside ns
  inside_tight [] h = refl
  inside_tight (x ∷ ns) h =
      let flat : inside (x ∷ ns) ≡ or_question x ++ left ns = append_assoc (or_question x) (joined_from comma (map or_question ns)) (93 ∷ rest) in
      ap after_space flat ∙ (name_tight x (left ns) h.0 ∙ sym flat)

  names_back : (ns : List (Option Text)) → Each IsGiven ns → (taken : Text) × (names_at (inside ns) ≡ Read ns taken (93 ∷ rest))
  unfolding word_at
  names_back [] h = ([], refl)
  names_back (x ∷ ns) h =
      let flat : inside (x ∷ ns) ≡ or_question x ++ left ns = append_assoc (or_question x) (joined_from comma (map or_question ns)) (93 ∷ rest) in
      let i = tail_back ns (x ∷ []) (length (left ns)) h.1 (omega arith) in (
        (or_question x ++ []) ++ i.0,
        ap (λ z. or_empty (followed z (λ before t. items_after 44 given_name_at (length t) before t)) (inside (x ∷ ns))) (ap (item_after 44 given_name_at []) flat ∙ item_back [] ns x h.0)
            ∙ ap (λ z. or_empty (prefixed (or_question x ++ []) z) (inside (x ∷ ns))) i.1,
      )

  given_names_back : (ns : List (Option Text)) → Each IsGiven ns → (taken : Text) × (given_names_at (codes "builtin.given_names [" ++ inside ns) ≡ Read ns taken rest)
  unfolding given_names_at
  given_names_back ns h =
      let spaces = front is_whitespace (inside ns) in
      let n = names_back ns h in (
        codes "builtin.given_names" ++ ((32 ∷ []) ++ ((91 ∷ []) ++ (spaces ++ (n.0 ++ (93 ∷ []))))),
        ap (λ z. prefixed (codes "builtin.given_names") (prefixed (32 ∷ []) (prefixed (91 ∷ []) (prefixed spaces (followed z (λ names x. mapped (λ _. names) (text_at (codes "]") x))))))) (ap names_at (inside_tight ns h) ∙ n.1),
      )

  ident_back : (n : Text) → IsIdentifier n → begins in_word rest ≡ false → (taken : Text) × (ident_at (codes "builtin.identifier " ++ (n ++ rest)) ≡ Read n taken rest)
  unfolding ident_at
  ident_back n h e =
      let spaces = 32 ∷ front is_whitespace (n ++ rest) in (
        codes "builtin.identifier" ++ (spaces ++ n),
        ap (λ z. prefixed (codes "builtin.identifier") (prefixed spaces z)) (ap identifier_at (word_tight (n ++ rest) (identifier_begins n rest h)) ∙ word_back n rest h e),
      )

-- what the grammar finds in a text was parsed from it
pub read_there : {X : Type 0} (o : Outcome X) (x : X) (left : Text) → verdict o ≡ found x left → (taken : Text) × (o ≡ Read x taken left)
read_there (Read y t r) x left e =
    let p : y ≡ x = cc in
    let q : r ≡ left = cc in
    (t, rw (p, q) refl)
read_there (Missing cause) x left e = absurd (cc)
read_there (Bad cause upto) x left e = absurd (cc)

missing_there : {X : Type 0} (o : Outcome X) → verdict o ≡ missing → (cause : Fault) × (o ≡ Missing cause)
missing_there (Read y t r) e = absurd (cc)
missing_there (Missing cause) e = (cause, refl)
missing_there (Bad cause upto) e = absurd (cc)

module _ {A : Type 0} (reading : Text → Outcome A) (written : A → Text) (lawful : Lawful A (texts_of reading written)) (unreserved : Unreserved A (texts_of reading written)) where
  -- what is written of an attribute parses as that attribute, before every end
  pub attr_back : (v : AttrView A) (rest : Text) → IsSpellableAttr v → Ends rest → (taken left : Text) × (attr_at reading (attr_text written v ++ rest) ≡ Read v taken left) × (after_space left ≡ after_space rest)
  attr_back (given_names ns) rest h e =
      let text = codes "builtin.given_names [" ++ inside rest ns in
      let flat : attr_text written (given_names ns) ++ rest ≡ text = ap (λ z. codes "builtin.given_names [" ++ z) (append_assoc (joined comma (map or_question ns)) (codes "]") rest) in
      let n = given_names_back rest ns h in
      (n.0, rest, ap (attr_at reading) flat ∙ (names_lead reading text refl ∙ ap (mapped given_names) n.1), refl)
  attr_back (ident n) rest h e =
      let text = codes "builtin.identifier " ++ (n ++ rest) in
      let n = ident_back rest n h (ends_word rest e) in
      (n.0, rest, ident_leads reading text refl refl ∙ ap (mapped ident) n.1, refl)
  attr_back (own a) rest h e =
      let text = written a ++ rest in
      let names : leads (codes "builtin.given_names") text ≡ false = is_false _ (λ l. unreserved.given_names a rest (after in_dotted text) (leads_keyword (codes "builtin.given_names") text l)) in
      let word : leads (codes "builtin.identifier") text ≡ false = is_false _ (λ l. unreserved.identifier a rest (after in_dotted text) (leads_keyword (codes "builtin.identifier") text l)) in
      let again = lawful.again a rest e in
      let o = read_there (reading text) a again.0 again.1 in
      (o.0, again.0, own_leads reading text (sym names) (sym word) ∙ ap (mapped own) o.1, again.2)

  -- where no word begins an attribute is missing
  pub attr_missing : (text : Text) → begins begins_word text ≡ false → (cause : Fault) × (attr_at reading text ≡ Missing cause)
  attr_missing text e =
      let names : leads (codes "builtin.given_names") text ≡ false = is_false _ (λ l. true≢false (sym (ap (begins begins_word) (leads_keyword (codes "builtin.given_names") text l).0) ∙ e)) in
      let word : leads (codes "builtin.identifier") text ≡ false = is_false _ (λ l. true≢false (sym (ap (begins begins_word) (leads_keyword (codes "builtin.identifier") text l).0) ∙ e)) in
      let m = missing_there (reading text) (lawful.misses text e) in
      (m.0, own_leads reading text (sym names) (sym word) ∙ ap (mapped own) m.1)
