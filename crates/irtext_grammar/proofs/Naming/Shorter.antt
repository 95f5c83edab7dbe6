-- No reading of an item's own parts leaves more than the text that it was parsed from, if no reading of a type or of an attribute does.
use Rattle.std.proofs.Common.{◌≡◌, ℕ, ◌+◌, Bool, ◌≤◌, List, [], ◌∷◌, length, map, Option, Some, None, codes, ap, length-append, arith, inl, inr}
use Rattle.std.specs.Char.{is_whitespace, is_ascii_digit}
use Rattle.irtext_base.specs.Text.{Text, front, after, after_space, in_word}
use Rattle.irtext_base.specs.Reading.{Reading, ◌▹◌, ends, the, literal, keyword, identifier, number, more, separated}
use Rattle.irtext_base.specs.Format.{Format, Id}
use Rattle.irtext_base.proofs.Along.{front_after}
use Rattle.irtext_base.specs.Own.{Texts, Language, language, found}
use Rattle.irtext_grammar.specs.Grammar.Tree as tree
use Rattle.irtext_grammar.specs.Grammar.Tree.{Name, Mark, Attribute, Piece}
use Rattle.irtext_grammar.specs.Grammar.Reads as reads

-- what is left is no longer than the text
pub record Leaves (R : Reading) : Type 0 where
  pub by : (t u : Text) → R t u → length u ≤ length t

after_shorter : (test : ℕ → Bool) (t : Text) → length (after test t) ≤ length t
after_shorter test t = omega (arith, ap length (front_after test t), length-append (front test t) (after test t))

-- white space that is passed leaves no more than the text
pub space_shorter : (t : Text) → length (after_space t) ≤ length t
space_shorter t = after_shorter is_whitespace t

-- a word that was parsed leaves so many characters fewer
pub word_shorter : (w t u : Text) → literal w t u → length w + length u ≡ length t
word_shorter w t u e = omega (arith, ap length e, length-append w u)

module _ {R S : Reading} where
  leaves_then : Leaves R → Leaves S → Leaves (R ▹ S)
  leaves_then r s = record { by = λ t u h. omega (arith, r.by t h.0 h.1, space_shorter h.0, s.by (after_space h.0) u h.2) }

leaves_ends : (test : ℕ → Bool) → Leaves (ends test)
leaves_ends test = record { by = λ t u h. omega (arith, ap length h.1) }

leaves_literal : (w : Text) → Leaves (literal w)
leaves_literal w = record { by = λ t u e. omega (arith, word_shorter w t u e) }

leaves_keyword : (w : Text) → Leaves (keyword w)
leaves_keyword w = record { by = λ t u e. omega (arith, word_shorter w t u e.0) }

-- an identifier leaves no more than the text
pub leaves_identifier : (s : Text) → Leaves (identifier s)
leaves_identifier s = record { by = λ t u h. omega (arith, ap length h.2, after_shorter in_word t) }

number_shorter : (n : ℕ) (t u : Text) → number n t u → length u ≤ length t
number_shorter n t u (inl (b, d)) = omega (arith, ap length d.3, after_shorter is_ascii_digit t)
number_shorter n t u (inr (m, a, d)) = omega (arith, word_shorter (codes "+") t m a, ap length d.3, after_shorter is_ascii_digit m)

module _ {X : Type 0} (F : X → Reading) (leaves : (x : X) → Leaves (F x)) where
  leaves_more : (sep : ℕ) (xs : List X) → Leaves (more sep (map F xs))
  leaves_more sep [] = leaves_ends (the sep)
  leaves_more sep (x ∷ xs) = leaves_then (leaves_literal (sep ∷ [])) (leaves_then (leaves x) (leaves_more sep xs))

  -- a list leaves no more than the text where no item does
  leaves_list : (sep : ℕ) (absent : Text → Type 0) (xs : List X) → Leaves (separated sep absent (map F xs))
  leaves_list sep absent [] = record { by = λ t u h. omega (arith, ap length h.1) }
  leaves_list sep absent (x ∷ xs) = record { by = (leaves_then (leaves x) (leaves_more sep xs)).by }

leaves_given : (n : Option Text) → Leaves (reads.given_name n)
leaves_given None = leaves_literal (codes "?")
leaves_given (Some n) = leaves_identifier n

-- the parse of a value leaves no more than the text
pub record Shortens {X : Type 0} (texts : Texts X) : Type 0 where
  pub by : (text rest : Text) (x : X) → texts.outcome text ≡ found x rest → length rest ≤ length text

module _ {T A : Type 0} (types : Texts T) (owns : Texts A) (formats : Id → Option Format) (short_types : Shortens types) (short_owns : Shortens owns) where
  abbrev L : Language ℕ T A
  L = language types owns formats

  leaves_name : (n : Name ℕ) → Leaves (reads.name L n)
  leaves_name n = record { by = λ t u h. (leaves_identifier n.text).by t u h.1 }

  leaves_target : (n : Name ℕ) → Leaves (reads.target L n)
  leaves_target n = record { by = λ t u h. omega (arith, word_shorter (codes "^") t h.0 h.1, (leaves_identifier n.text).by h.0 u h.2.1) }

  -- a mark, if there is one
  pub leaves_mark_if : (m : Option (Mark ℕ)) → Leaves (reads.mark_if L m)
  leaves_mark_if None = leaves_ends (the 33)
  leaves_mark_if (Some m) = record { by = λ t u h. omega (arith, word_shorter (codes "!") t h.1.0 h.1.1, number_shorter m.index h.1.0 u h.1.2) }

  leaves_type : (x : T) → Leaves (reads.type L x)
  leaves_type x = record { by = λ t u e. short_types.by t u x e }

  leaves_attribute : (a : Attribute A) → Leaves (reads.attribute L a)
  leaves_attribute (tree.given_names ns) = leaves_then (leaves_keyword (codes "builtin.given_names")) (leaves_then (leaves_literal (codes "["))
      (leaves_then (leaves_list reads.given_name leaves_given 44 reads.no_given_name ns) (leaves_literal (codes "]"))))
  leaves_attribute (tree.ident n) = leaves_then (leaves_keyword (codes "builtin.identifier")) (leaves_identifier n)
  leaves_attribute (tree.own a) = record { by = λ t u h. short_owns.by t u a h.1.1 }

  leaves_entry : (e : Name ℕ × Attribute A) → Leaves (reads.entry L e)
  leaves_entry e = leaves_then (leaves_name e.0) (leaves_then (leaves_literal (codes ":")) (leaves_attribute e.1))

  leaves_dictionary : (es : List (Name ℕ × Attribute A)) → Leaves (reads.dictionary L es)
  leaves_dictionary es = leaves_then (leaves_literal (codes "[")) (leaves_then (leaves_list (reads.entry L) leaves_entry 44 reads.no_word es) (leaves_literal (codes "]")))

  -- a dictionary, if there is one
  pub leaves_dictionary_if : (es : Option (List (Name ℕ × Attribute A))) → Leaves (reads.dictionary_if L es)
  leaves_dictionary_if None = leaves_ends (the 91)
  leaves_dictionary_if (Some es) = leaves_dictionary es

  leaves_argument : (a : Name ℕ × T) → Leaves (reads.argument L a)
  leaves_argument a = leaves_then (leaves_name a.0) (leaves_then (leaves_literal (codes ":")) (leaves_type a.1))

  -- a block's arguments
  pub leaves_arguments : (xs : List (Name ℕ × T)) → Leaves (separated 44 reads.no_word (map (reads.argument L) xs))
  leaves_arguments xs = leaves_list (reads.argument L) leaves_argument 44 reads.no_word xs

  -- what a directive parses, where it is no region
  pub leaves_piece : (x : Piece ℕ T A) → Leaves (reads.piece L x)
  leaves_piece (tree.word s) = leaves_literal s
  leaves_piece (tree.operand i n) = leaves_name n
  leaves_piece (tree.operands ns) = leaves_list (reads.name L) leaves_name 44 reads.no_word ns
  leaves_piece (tree.successor i n) = leaves_target n
  leaves_piece (tree.successors ns) = leaves_list (reads.target L) leaves_target 44 reads.no_label ns
  leaves_piece (tree.attribute k None) = leaves_literal (codes "!outlined")
  leaves_piece (tree.attribute k (Some a)) = leaves_attribute a
  leaves_piece (tree.dictionary es) = leaves_dictionary es
  leaves_piece (tree.result_type i x) = leaves_type x
  leaves_piece (tree.header n) = record { by = λ t u h. omega (arith, word_shorter (codes "@") t h.1.0 h.1.1, (leaves_identifier n.text).by h.1.0 u h.1.2) }
  leaves_piece (tree.types xs) = leaves_list (reads.type L) leaves_type 44 (reads.no_type L) xs

  results_shorter : (ns : List (Name ℕ)) (t u : Text) → reads.results_if L ns t u → length u ≤ length t
  results_shorter ns t u (inl h) = (leaves_then (leaves_list (reads.name L) leaves_name 44 reads.no_word ns) (leaves_literal (codes "="))).by t u h
  results_shorter ns t u (inr h) = omega (arith, ap length h.1)

  -- the names of an operation's results, if there are any
  pub leaves_results_if : (ns : List (Name ℕ)) → Leaves (reads.results_if L ns)
  leaves_results_if ns = record { by = results_shorter ns }
