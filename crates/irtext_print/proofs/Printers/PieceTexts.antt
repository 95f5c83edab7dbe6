-- What is written of an operation's attributes: attributes that are found under a key, and the texts of pieces.
use Rattle.std.proofs.Common.{◌≡◌, ◌++◌, ◌∙◌, ◌||◌, ◌&&◌, not, filter, ℕ, List, [], ◌∷◌, Bool, true, false, cond, map, refl, sym, ap, Option, Some, IsTrue, codes, slice_get}
use Rattle.std.proofs.lemmas.List.{append-nil}
use Rattle.std.proofs.lemmas.Str.{encodes-chars}
use Rattle.std.specs.List.{list_any, list_all}
use Rattle.std.specs.Map as dictionary
use Rattle.std.specs.Option.{option_map}
use Rattle.std.specs.Char.{is_ascii}
use Rattle.std.specs.Str.{bytes_eq, encode_utf8_all, chars, IsUtf8}
use Rattle.irtext_base.specs.Text.{Text, begins, is_identifier}
use Rattle.irtext_base.specs.declared.base.attributes.AttrObj.{AttrObj}
use Rattle.irtext_base.specs.declared.base.attributes.AttrObj.TheVariants.{GivenNames, Ident, Own}
use Rattle.irtext_base.specs.Locations.{attr_view}
use Rattle.irtext_grammar.specs.Spelling.AttrText.{attr_text}
use Rattle.irtext_format_check.proofs.Formats.{same_text_bytes}
use Rattle.irtext_base.specs.Format.{Directive}
use Rattle.irtext_base.proofs.Characters.{and_left, and_right}
use Rattle.irtext_grammar.specs.Grammar.Tree.{Attribute}
use Rattle.irtext_grammar.specs.Graphs.Graph.{lookup, outlined, inline}
use Rattle.irtext_print.specs.Printers.PieceText.{word_text, words, outlining, is_key_written, dictionary_entries, entry_text}
use Rattle.irtext_grammar.specs.Spelling.Spell.{joins_left, comma, attribute, joined_from}
use Rattle.irtext_grammar.specs.Contexts.Held.{attribute_of, entries_of}
use Rattle.irtext_grammar.proofs.Lists.Ascii.{ascii-identifier, encodes-ascii}
use Rattle.irtext_print.proofs.Printers.Locations.{worded, more, left_text}

-- the attribute under a key, as a dictionary finds it
pub looked : {A : Type 0} (key : Text) (es : List (Text × AttrObj A)) → lookup key (entries_of es) ≡ option_map attribute_of (dictionary.lookup (bytes_eq key) es)
looked key [] = refl
looked key (e ∷ es) = ap (λ b. cond b (Some (attribute_of e.1)) (lookup key (entries_of es))) (same_text_bytes key e.0) ∙ go (bytes_eq key e.0) (looked key es)
  where
    go : (b : Bool) → lookup key (entries_of es) ≡ option_map attribute_of (dictionary.lookup (bytes_eq key) es)
        → cond b (Some (attribute_of e.1)) (lookup key (entries_of es)) ≡ option_map attribute_of (cond b (Some e.1) (dictionary.lookup (bytes_eq key) es))
    go true h = refl
    go false h = h

-- the same of what was found
pub found_under : {A : Type 0} (key : Text) (es : List (Text × AttrObj A)) (found value : Option (AttrObj A)) → found ≡ dictionary.lookup (bytes_eq key) es → found ≡ value
    → lookup key (entries_of es) ≡ option_map attribute_of value
found_under key es found value e is = looked key es ∙ ap (option_map attribute_of) (sym e ∙ is)

-- the first entry has the key
pub first_under : {A : Type 0} (key k : Text) (a : AttrObj A) (es : List (Text × AttrObj A)) → slice_get es 0 ≡ Some (k, a) → bytes_eq key k ≡ true → Some a ≡ dictionary.lookup (bytes_eq key) es
first_under key k a [] e t = absurd (cc)
first_under {A = A} key k a (x ∷ es) e t =
    let is : x ≡ (k, a) = cc in
    sym (ap (λ (z : Text × AttrObj A). cond (bytes_eq key z.0) (Some z.1) (dictionary.lookup (bytes_eq key) es)) is ∙ ap (λ b. cond b (Some a) (dictionary.lookup (bytes_eq key) es)) t)

-- nothing was appended
pub unchanged : (old : List ℕ) → old ≡ old ++ encode_utf8_all []
unchanged old = sym (append-nil old)

-- a fixed word is written
pub word_appended : (word : List ℕ) (hugging : Bool) (old now new : List ℕ) → IsUtf8 word → hugging ≡ begins joins_left (chars word) → now ≡ old ++ cond hugging [] (codes " ") → new ≡ now ++ word
    → new ≡ old ++ encode_utf8_all (word_text (chars word))
word_appended word hugging old now new u h p q =
    let is : word ≡ encode_utf8_all (chars word) = sym (encodes-chars word u) in
    worded old now new (cond hugging [] (codes " ")) (chars word) (small hugging) p (q ∙ ap (λ z. now ++ z) is) ∙ ap (λ b. old ++ encode_utf8_all (cond b [] (codes " ") ++ chars word)) h
  where
    small : (b : Bool) → list_all is_ascii (cond b [] (codes " ")) ≡ true
    small true = refl
    small false = refl

-- an identifier is written
pub identifier_appended : (name text : List ℕ) (old new : List ℕ) → IsTrue (is_identifier name) → text ≡ name → new ≡ old ++ text → new ≡ old ++ encode_utf8_all name
identifier_appended name text old new i e p = p ∙ ap (λ z. old ++ z) (e ∙ sym (encodes-ascii name (ascii-identifier name i)))

-- a test of some of the values of a list
pub any_mapped : {X Y : Type 0} (test : Y → Bool) (f : X → Y) (xs : List X) → list_any (λ x. test (f x)) xs ≡ list_any test (map f xs)
any_mapped test f [] = refl
any_mapped test f (x ∷ xs) = ap (λ b. test (f x) || b) (any_mapped test f xs)

-- a separator that may be left out is ASCII
pub comma_ascii : (first : Bool) → list_all is_ascii (cond first [] comma) ≡ true
comma_ascii true = refl
comma_ascii false = refl

-- an attribute's text, as it is written and as pieces have it
pub attribute_text : {A : Type 0} (written : A → Text) (attr : AttrObj A) → attr_text written (attr_view attr) ≡ attribute (words written) (attribute_of attr)
attribute_text written (GivenNames names) = refl
attribute_text written (Ident name) = refl
attribute_text written (Own a) = refl

-- one more item is written, after a comma if it is not the first
pub row_written : (first : Bool) (t : Text) (ts : List Text) (now next all : List ℕ) → next ≡ now ++ encode_utf8_all (cond first [] comma ++ t)
    → now ++ encode_utf8_all (left_text first (t ∷ ts)) ≡ all → next ++ encode_utf8_all (left_text false ts) ≡ all
row_written true t ts now next all p h = more now next (next ++ encode_utf8_all (joined_from comma ts)) t (joined_from comma ts) p refl ∙ h
row_written false t ts now next all p h = more now next (next ++ encode_utf8_all (joined_from comma ts)) (comma ++ t) (joined_from comma ts) p refl ∙ h

module _ {A : Type 0} (written : A → Text) (is_outlined : A → Bool) (ds : List Directive) (key : Text) (attr : AttrObj A) (es : List (Text × AttrObj A)) where
  -- the test of the dictionary's entries
  abbrev free : Text × Attribute A → Bool
  free e = not (is_key_written e.0 ds)

  -- an entry that the dictionary writes
  listed_more : (not (outlined (outlining is_outlined) (attribute_of attr)) && not (is_key_written key ds)) ≡ true
      → dictionary_entries is_outlined ds (entries_of ((key, attr) ∷ es)) ≡ (key, attribute_of attr) ∷ dictionary_entries is_outlined ds (entries_of es)
  listed_more h =
      let rest = inline (outlining is_outlined) (entries_of es) in
      ap (λ b. filter free (cond b ((key, attribute_of attr) ∷ rest) rest)) (and_left (not (outlined (outlining is_outlined) (attribute_of attr))) (not (is_key_written key ds)) h)
      ∙ ap (λ b. cond b ((key, attribute_of attr) ∷ filter free rest) (filter free rest)) (and_right (not (outlined (outlining is_outlined) (attribute_of attr))) (not (is_key_written key ds)) h)

  -- one that it doesn't
  listed_same : (not (outlined (outlining is_outlined) (attribute_of attr)) && not (is_key_written key ds)) ≡ false
      → dictionary_entries is_outlined ds (entries_of ((key, attr) ∷ es)) ≡ dictionary_entries is_outlined ds (entries_of es)
  listed_same h = go (not (outlined (outlining is_outlined) (attribute_of attr))) h
    where
      go : (b : Bool) → (b && not (is_key_written key ds)) ≡ false → filter free (cond b ((key, attribute_of attr) ∷ inline (outlining is_outlined) (entries_of es)) (inline (outlining is_outlined) (entries_of es))) ≡ filter free (inline (outlining is_outlined) (entries_of es))
      go false h = refl
      go true h = ap (λ b. cond b ((key, attribute_of attr) ∷ filter free (inline (outlining is_outlined) (entries_of es))) (filter free (inline (outlining is_outlined) (entries_of es)))) h

  -- what is left of the rows of these entries
  abbrev pub rows_left : Bool → List (Text × AttrObj A) → Text
  rows_left first es = left_text first (map (entry_text written) (dictionary_entries is_outlined ds (entries_of es)))

  -- an entry is written
  pub row_more : (left : List (Text × AttrObj A)) (first : Bool) (now next all : List ℕ) → left ≡ (key, attr) ∷ es → (not (outlined (outlining is_outlined) (attribute_of attr)) && not (is_key_written key ds)) ≡ true
      → next ≡ now ++ encode_utf8_all (cond first [] comma ++ entry_text written (key, attribute_of attr)) → now ++ encode_utf8_all (rows_left first left) ≡ all → next ++ encode_utf8_all (rows_left false es) ≡ all
  row_more left first now next all e h p before =
      row_written first (entry_text written (key, attribute_of attr)) (map (entry_text written) (dictionary_entries is_outlined ds (entries_of es))) now next all p
      (ap (λ z. now ++ encode_utf8_all (left_text first (map (entry_text written) z))) (sym (listed_more h)) ∙ ap (λ z. now ++ encode_utf8_all (rows_left first z)) (sym e) ∙ before)

  -- an entry is left out
  pub row_same : (left : List (Text × AttrObj A)) (first : Bool) (now all : List ℕ) → left ≡ (key, attr) ∷ es → (not (outlined (outlining is_outlined) (attribute_of attr)) && not (is_key_written key ds)) ≡ false
      → now ++ encode_utf8_all (rows_left first left) ≡ all → now ++ encode_utf8_all (rows_left first es) ≡ all
  row_same left first now all e h before =
      ap (λ z. now ++ encode_utf8_all (left_text first (map (entry_text written) z))) (sym (listed_same h)) ∙ ap (λ z. now ++ encode_utf8_all (rows_left first z)) (sym e) ∙ before

-- all rows are written
pub rows_end : {A : Type 0} (written : A → Text) (is_outlined : A → Bool) (ds : List Directive) (left : List (Text × AttrObj A)) (first : Bool) (now all : List ℕ) → left ≡ []
    → now ++ encode_utf8_all (left_text first (map (entry_text written) (dictionary_entries is_outlined ds (entries_of left)))) ≡ all → now ≡ all
rows_end {A = A} written is_outlined ds left first now all e before = go first (ap (λ z. now ++ encode_utf8_all (left_text first (map (entry_text written) (dictionary_entries is_outlined ds (entries_of z))))) (sym e) ∙ before)
  where
    go : (first : Bool) → now ++ encode_utf8_all (left_text first []) ≡ all → now ≡ all
    go true h = sym (append-nil now) ∙ h
    go false h = sym (append-nil now) ∙ h
