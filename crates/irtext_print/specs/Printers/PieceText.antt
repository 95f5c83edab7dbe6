-- For callers: what the directives of an operation's format print of its attributes.
use Rattle.std.specs.Prelude.{ℕ, zero, suc, ◌-◌, ◌==◌, ◌&&◌, Bool, false, cond, not, List, [], ◌∷◌, ◌++◌, map, filter, Option, Some, None, codes, ⊤}
use Rattle.std.specs.List.{list_any}
use Rattle.irtext_base.specs.Text.{Text, begins}
use Rattle.irtext_base.specs.Format as format
use Rattle.irtext_base.specs.Format.{Directive, same_text, sym_name_key}
use Rattle.irtext_base.specs.Own.{Language, unplaced, missing}
use Rattle.irtext_grammar.specs.Graphs.Graph.{Printing, lookup, outlined, inline}
use Rattle.irtext_grammar.specs.Spelling.Spell.{joins_left, attribute, joined, comma}
use Rattle.irtext_grammar.specs.Grammar.Tree.{Attribute, ident, given_names, own}

-- what printing needs to know of the caller's attributes if it is only whether one is outlined
abbrev pub outlining : {A : Type 0} → (A → Bool) → Printing ⊤ A
outlining outlined = record { given = λ v. None; label = λ b. None; type_of = λ v. None; own_outlined = outlined; own_once = λ a. false; same_own = λ a b. false; format_of = λ id. None }

-- the texts of the caller's attributes, and of nothing else
abbrev pub words : {A : Type 0} → (A → Text) → Language ⊤ ⊤ A
words written = unplaced (record { outcome = λ t. missing; written = λ t. [] }) (record { outcome = λ t. missing; written = written }) (λ id. None)

-- a text after a space
abbrev pub spaced : Text → Text
spaced text = codes " " ++ text

-- the same, if there is a text
abbrev pub spaced_if : Option Text → Text
spaced_if None = []
spaced_if (Some text) = spaced text

-- a fixed word, after a space unless it joins what is before it
abbrev pub word_text : Text → Text
word_text s = cond (begins joins_left s) [] (codes " ") ++ s

-- a text, so many times
abbrev pub repeated : ℕ → Text → Text
repeated zero text = []
repeated (suc n) text = text ++ repeated n text

-- how many regions are left after a directive
abbrev pub left_after : ℕ → Directive → ℕ
left_after n (format.region i) = n - 1
left_after n format.regions = 0
left_after n _ = n

-- the directive prints the attribute under a key
abbrev pub names_key : Text → Directive → Bool
names_key key (format.attribute named) = same_text key named
names_key key format.header = same_text key sym_name_key
names_key key _ = false

-- one of the directives prints the attribute under a key
abbrev pub is_key_written : Text → List Directive → Bool
is_key_written key ds = list_any (names_key key) ds

-- a symbol's name after `@`, if there is one
abbrev pub symbol_text : Option Text → Text
symbol_text None = []
symbol_text (Some n) = spaced (codes "@" ++ n)

module _ {A : Type 0} where
  -- the symbol's name in an attribute that is an identifier
  abbrev pub symbol_in : Option (Attribute A) → Option Text
  symbol_in None = None
  symbol_in (Some (ident n)) = Some n
  symbol_in (Some (given_names ns)) = None
  symbol_in (Some (own a)) = None

  -- the symbol's name among entries, if the attribute under its key is an identifier
  abbrev pub symbol_name : List (Text × Attribute A) → Option Text
  symbol_name es = symbol_in (lookup sym_name_key es)

  -- the symbol's name after `@`, if there is one
  abbrev pub header_text : List (Text × Attribute A) → Text
  header_text es = symbol_text (symbol_name es)

  -- the dictionary prints this entry: no other directive does, and it is not outlined
  abbrev pub is_listed : (A → Bool) → List Directive → Text × Attribute A → Bool
  is_listed is_outlined ds e = not (outlined (outlining is_outlined) e.1) && not (is_key_written e.0 ds)

  -- the entries that the dictionary prints: those that no other directive prints and that are not outlined
  abbrev pub dictionary_entries : (A → Bool) → List Directive → List (Text × Attribute A) → List (Text × Attribute A)
  dictionary_entries is_outlined ds es = filter (λ e. not (is_key_written e.0 ds)) (inline (outlining is_outlined) es)

  module _ (written : A → Text) where
    -- an entry
    abbrev pub entry_text : Text × Attribute A → Text
    entry_text e = e.0 ++ (codes ": " ++ attribute (words written) e.1)

    -- an entry, after `, ` if it is not the first
    abbrev pub next_text : Bool → Text × Attribute A → Text
    next_text first e = cond first [] comma ++ entry_text e

    -- entries with `, ` between them
    abbrev pub rows_text : List (Text × Attribute A) → Text
    rows_text es = joined comma (map entry_text es)

    module _ (is_outlined : A → Bool) where
      -- the text of an attribute, or `!outlined` if it is outlined
      abbrev pub inline_text : Attribute A → Text
      inline_text a = cond (outlined (outlining is_outlined) a) (codes "!outlined") (attribute (words written) a)

      -- the same, if there is an attribute
      abbrev pub inline_text_in : Option (Attribute A) → Option Text
      inline_text_in None = None
      inline_text_in (Some a) = Some (inline_text a)

      -- what is printed of the attribute under a key, after a space, if there is one
      abbrev pub keyed_text : Text → List (Text × Attribute A) → Text
      keyed_text k es = spaced_if (inline_text_in (lookup k es))

      -- the entries of the dictionary, with `, ` between them
      abbrev pub listed_text : List Directive → List (Text × Attribute A) → Text
      listed_text ds es = rows_text (dictionary_entries is_outlined ds es)

      -- the dictionary, after a space
      abbrev pub dictionary_text : List Directive → List (Text × Attribute A) → Text
      dictionary_text ds es = codes " [" ++ (listed_text ds es ++ codes "]")

      -- what a directive prints if so many regions with this text are left
      abbrev pub directive_text : List Directive → List (Text × Attribute A) → Text → ℕ → Directive → Text
      directive_text ds es r n (format.word s) = word_text s
      directive_text ds es r n (format.attribute k) = keyed_text k es
      directive_text ds es r n format.dictionary = dictionary_text ds es
      directive_text ds es r n format.header = header_text es
      directive_text ds es r n (format.region i) = cond (n == 0) [] (spaced r)
      directive_text ds es r n format.regions = spaced (repeated n r)
      directive_text ds es r n _ = []

      -- what directives print, each with the regions that are left
      abbrev pub directives_text : List Directive → List (Text × Attribute A) → Text → ℕ → List Directive → Text
      directives_text ds es r n [] = []
      directives_text ds es r n (d ∷ rest) = directive_text ds es r n d ++ directives_text ds es r (left_after n d) rest
