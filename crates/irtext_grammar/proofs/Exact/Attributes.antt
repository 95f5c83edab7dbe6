-- The parsers of attributes, entries and dictionaries return what the grammar parses.
use Rattle.std.proofs.Common.{◌≡◌, ◌∙◌, ℕ, Bool, true, false, cond, Some, None, Option, [], ◌∷◌, ◌++◌, refl, sym, ap, subst, true≢false, arith}
use Rattle.std.proofs.lemmas.Bool.Decides.{nat_tests}
use Rattle.std.specs.Prelude.{codes}
use Rattle.irtext_base.specs.Text.{Text, begins, begins_word}
use Rattle.irtext_base.specs.Reading.{Reading, the, literal}
use Rattle.irtext_base.specs.Format.{Id, Format}
use Rattle.irtext_base.specs.Answers.{Outcome, Read, mapped}
use Rattle.irtext_base.specs.Locations.{AttrView}
use Rattle.irtext_base.specs.Own.{Texts, Language, language, texts_of, Lawful, found, missing}
use Rattle.irtext_tokens.specs.AttrTexts.{attr_at}
use Rattle.irtext_tokens.specs.Tokens.{word}
use Rattle.irtext_grammar.specs.Grammar.Reads as reads
use Rattle.irtext_grammar.specs.Grammar.Tree as tree
use Rattle.irtext_grammar.specs.Grammar.Tree.{Attribute}
use Rattle.irtext_grammar.specs.Readers.Directives.{attribute_at}
use Rattle.irtext_grammar.specs.Readers.Marker.{marker, starts_with}
use Rattle.irtext_grammar.proofs.Joins.Answers.{Splits, mapped_read}
use Rattle.irtext_grammar.proofs.Joins.Dictionary.{tree_read, tree_found, splits_tree}
use Rattle.irtext_grammar.proofs.Joins.Tokens.{text_read, text-literal, splits_text}
use Rattle.irtext_grammar.specs.Exact.{Exact, NeedsWord}
use Rattle.irtext_grammar.specs.Heads.{pair_at, dictionary_by, dictionary_at, dictionary_if_at, outlined_or_at}
use Rattle.irtext_grammar.proofs.Exact.Combined.{exact_as, exact_word, exact_then, exact_spaced, exact_before, exact_if, exact_keyed}
use Rattle.irtext_grammar.proofs.Exact.Listed.{Starts, starts_so, exact_list, loosened, tightened}
use Rattle.irtext_grammar.proofs.Exact.Names.{exact_name, starts_name}

-- ---- a marker
-- a text that begins with the word
starts_front : (w rest : Text) → starts_with w (w ++ rest) ≡ true
starts_front [] rest = refl
starts_front (c ∷ w) rest = let same : the c c ≡ true = grind (arith, nat_tests) in rw same (starts_front w rest)

-- what begins so has the word's first character
starts_first : (c : ℕ) (w text : Text) → starts_with (c ∷ w) text ≡ true → begins (the c) text ≡ true
starts_first c w [] e = absurd (true≢false (sym e))
starts_first c w (d ∷ text) e = go (the c d) refl e
  where
    go : (b : Bool) → the c d ≡ b → cond b (starts_with w text) false ≡ true → the c d ≡ true
    go true f e = f
    go false f e = absurd (true≢false (sym e))

-- where a text begins with `!`, no word begins
pub no_word_there : (text : Text) → begins (the 33) text ≡ true → begins begins_word text ≡ false
no_word_there [] e = refl
no_word_there (c ∷ text) e = other c e
  where
    other : (c : ℕ) → the 33 c ≡ true → begins_word c ≡ false
    other c e = grind (arith, nat_tests)

-- ---- attributes
-- a caller's own parser that keeps the law finds nothing where no word begins
pub lawful_needs_word : {A : Type 0} (reading : Text → Outcome A) (written : A → Text) → Lawful A (texts_of reading written) → NeedsWord reading
lawful_needs_word reading written law = record { misses = law.misses }

module _ {T A : Type 0} (types : Texts T) (reading : Text → Outcome A) (written : A → Text) (formats : Id → Option Format) (splits : Splits reading) where
  abbrev l : Language ℕ T A
  l = language types (texts_of reading written) formats

  abbrev attr : Text → Outcome (AttrView A)
  attr = attr_at reading

  -- an attribute
  pub exact_attribute : Exact (attribute_at attr) (reads.attribute l)
  exact_attribute = record {
    read = λ text a taken rest e. (
      tree_read reading types (texts_of reading written) formats (λ text. refl) a text taken rest e,
      splits_tree reading types (texts_of reading written) formats (λ text. refl) splits text a taken rest e,
    );
    found = λ text a rest r. tree_found reading types (texts_of reading written) formats (λ text. refl) a text rest r;
  }

  -- an entry
  pub exact_pair : Exact (pair_at attr) (reads.entry l)
  exact_pair = exact_keyed (codes ":") (exact_name types (texts_of reading written) formats) exact_attribute

  -- where an entry is missing no word begins
  pub starts_pair : Starts (pair_at attr) reads.no_word
  starts_pair = starts_so _ starts_name

  -- a dictionary
  pub exact_dictionary : Exact (dictionary_at attr) (reads.dictionary l)
  unfolding dictionary_by
  exact_dictionary = exact_as
      (exact_then (exact_word (codes "[")) (exact_spaced (exact_before (exact_list 44 exact_pair starts_pair) (exact_word (codes "]")))))
      (λ es text rest (m, a, q). (m, a, loosened 44 exact_pair starts_pair es (literal (codes "]")) m rest q))
      (λ es text rest (m, a, q). (m, a, tightened 44 exact_pair starts_pair es (literal (codes "]")) m rest q))

  -- a block's dictionary, if there is one
  pub exact_dictionary_if : (types_at : Text → Outcome T) → Exact (dictionary_if_at types_at attr) (reads.dictionary_if l)
  exact_dictionary_if types_at = exact_if (the 91) exact_dictionary (λ es text rest r. ap (begins (the 91)) r.1) (reads.dictionary_if l) (λ text rest. (λ r. r, λ r. r)) (λ es text rest. (λ r. r, λ r. r))

  -- an attribute begins as a word does
  attribute_begins : NeedsWord reading → (a : Attribute A) (text rest : Text) → reads.attribute l a text rest → begins begins_word text ≡ true
  attribute_begins h (tree.given_names ns) text rest r = ap (begins begins_word) r.1.0
  attribute_begins h (tree.ident n) text rest r = ap (begins begins_word) r.1.0
  attribute_begins h (tree.own a) text rest r = go (begins begins_word text) refl
    where
      go : (b : Bool) → begins begins_word text ≡ b → begins begins_word text ≡ true
      go true e = e
      go false e = absurd (let f : found a rest ≡ missing = sym r.1.1 ∙ h.misses text e in cc f)

  -- the marker of an attribute that the section has, or an attribute
  abbrev outlined : Text → Option (Attribute A) → Reading
  outlined key o = reads.piece l (tree.attribute key o)

  -- an attribute or the marker in its place that is accepted is one that the grammar parses
  pub outlined_read : (key text : Text) (o : Option (Attribute A)) (taken rest : Text) → outlined_or_at attr text ≡ Read o taken rest → outlined key o text rest × (taken ++ rest ≡ text)
  outlined_read key text o taken rest e = go (starts_with marker text) e
    where
      go : (b : Bool) → cond b (mapped (λ _. None) (word marker text)) (mapped Some (attribute_at attr text)) ≡ Read o taken rest → outlined key o text rest × (taken ++ rest ≡ text)
      go true e = let m = mapped_read (λ _. None) (word marker text) o taken rest e in (subst (λ o. outlined key o text rest) m.2 (text_read marker text taken rest m.1), splits_text marker text m.0 taken rest m.1)
      go false e =
          let m = mapped_read Some (attribute_at attr text) o taken rest e in
          let k = exact_attribute.read text m.0 taken rest m.1 in
          (subst (λ o. outlined key o text rest) m.2 k.0, k.1)

  -- An attribute or the marker in its place that the grammar parses is accepted, where each attribute begins as a word does.
  pub outlined_found : NeedsWord reading → (key text : Text) (o : Option (Attribute A)) (rest : Text) → outlined key o text rest → (taken : Text) × (outlined_or_at attr text ≡ Read o taken rest)
  outlined_found h key text None rest r =
      let s : starts_with marker text ≡ true = ap (starts_with marker) r ∙ starts_front marker rest in
      (marker, rw s (ap (mapped (λ _. None)) (text-literal marker text rest r)))
  outlined_found h key text (Some a) rest r = go (starts_with marker text) refl
    where
      k : (taken : Text) × (attribute_at attr text ≡ Read a taken rest)
      k = exact_attribute.found text a rest r

      go : (b : Bool) → starts_with marker text ≡ b → (taken : Text) × (outlined_or_at attr text ≡ Read (Some a) taken rest)
      go true s = absurd (true≢false (sym (attribute_begins h a text rest r) ∙ no_word_there text (starts_first 33 (codes "outlined") text s)))
      go false s = (k.0, rw s (ap (mapped Some) k.1))

  -- the same
  pub exact_outlined : NeedsWord reading → (key : Text) → Exact (outlined_or_at attr) (λ o. reads.piece l (tree.attribute key o))
  exact_outlined h key = record { read = outlined_read key; found = outlined_found h key }
