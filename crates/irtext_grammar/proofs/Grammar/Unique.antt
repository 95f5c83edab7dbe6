-- A text parses as one tree, and one rest.
use Rattle.std.specs.Prelude.{◌≡◌, ℕ, Bool, true, false, cond, ◌==◌, ◌||◌, List, [], ◌∷◌, ◌++◌, map, codes, get_or, refl, Option, Some, None, ⊤}
use Rattle.std.proofs.Common.{inl, inr, sym, ◌∙◌, ap, ap₂, subst, true≢false}
use Rattle.std.specs.Char.{is_whitespace}
use Rattle.irtext_base.specs.Text.{Text, begins, after_space, begins_word, after}
use Rattle.irtext_base.specs.Reading.{Reading, ◌▹◌, ◌▸◌, white, ends, the, literal, keyword, identifier, digits, number, separated, more, repeated}
use Rattle.irtext_grammar.specs.Grammar.Forest.{Regions, no_regions, region, Blocks, no_blocks, block, Operations, no_operations, operation}
use Rattle.irtext_base.specs.Format as format
use Rattle.irtext_base.specs.Format.{Format}
use Rattle.irtext_grammar.specs.Grammar.Tree as tree
use Rattle.irtext_grammar.specs.Grammar.Tree.{Name, Mark, Attribute, given_names, ident, own, Piece, Part, Op, Head, Brace, shown, elided, Tree, IsOf, parts_of, directive, directive_of_piece}
use Rattle.irtext_base.specs.Own.{Language, found, missing, Lawful}
use Rattle.irtext_grammar.specs.Grammar.Reads as reads
use Rattle.irtext_grammar.proofs.Grammar.Nested.{EachRegion, EachBlock, EachOperation, all_regions}

-- Two readings of one text leave one rest, and C holds.
abbrev pub Agree : Type 0 → Reading → Reading → Type 0
Agree C R S = (t u v : Text) → R t u → S t v → C × (u ≡ v)

-- two values that a text parses as are one, and leave one rest
abbrev pub Sure : {X : Type 0} → (X → Reading) → Type 0
Sure {X} F = (x y : X) → Agree (x ≡ y) (F x) (F y)

-- readings that agree on a value agree on a function of it
pub agree_map : {C D : Type 0} {R S : Reading} → (C → D) → Agree C R S → Agree D R S
agree_map f h t u v a b = let r = h t u v a b in (f r.0, r.1)

-- sequences of readings agree where the first readings do, and then the second ones
pub agree_then : {C D : Type 0} {R S R' S' : Reading} → Agree C R S → (C → Agree D R' S') → Agree (C × D) (R ▹ R') (S ▹ S')
agree_then {R' = R'} h k t u v (m, a, b) (n, c, d) =
    let r = h t m n a c in
    let s = k r.0 (after_space n) u v (subst (λ w. R' (after_space w) u) r.1 b) d in
    ((r.0, s.0), s.1)

-- the same without white space between
pub agree_tight : {C D : Type 0} {R S R' S' : Reading} → Agree C R S → (C → Agree D R' S') → Agree (C × D) (R ▸ R') (S ▸ S')
agree_tight {R' = R'} h k t u v (m, a, b) (n, c, d) =
    let r = h t m n a c in
    let s = k r.0 n u v (subst (λ w. R' w u) r.1 b) d in
    ((r.0, s.0), s.1)

same_rest : (w : Text) (u v : Text) → w ++ u ≡ w ++ v → u ≡ v
same_rest [] u v e = e
same_rest (c ∷ w) u v e = same_rest w u v (cc)

-- a fixed word parses in one way
pub one_literal : (w : Text) → Agree ⊤ (literal w) (literal w)
one_literal w t u v a b = (tt, same_rest w u v (sym a ∙ b))

-- an identifier parses in one way
pub sure_identifier : Sure identifier
sure_identifier x y t u v a b = (a.1 ∙ sym b.1, a.2 ∙ sym b.2)

-- digits are parsed in one way
pub sure_digits : Sure digits
sure_digits x y t u v a b = (a.1 ∙ sym b.1, a.3 ∙ sym b.3)

-- a character both passes and does not
pub clash : {Z : Type 0} (test : ℕ → Bool) (c : ℕ) (t m : Text) → begins test t ≡ false → t ≡ c ∷ m → test c ≡ true → Z
clash test c t m a b d = absurd (true≢false (sym d ∙ ap (begins test) (sym b) ∙ a))

-- a number parses in one way
pub sure_number : Sure number
sure_number x y t u v (inl a) (inl b) = sure_digits x y t u v a.1 b.1
sure_number x y t u v (inl a) (inr (m, b, c)) = clash (the 43) 43 t m a.0 b refl
sure_number x y t u v (inr (m, b, c)) (inl a) = clash (the 43) 43 t m a.0 b refl
sure_number x y t u v (inr (m, b, c)) (inr (n, d, e)) = let s : m ≡ n = cc in sure_digits x y n u v (subst (λ w. digits x w u) s c) e

module _ {X : Type 0} (F : X → Reading) (sure : Sure F) (sep : ℕ) (is_sep : the sep sep ≡ true) where
  sure_more : Sure (λ xs. more sep (map F xs))
  sure_more [] [] t u v a b = (refl, a.1 ∙ sym b.1)
  sure_more [] (y ∷ ys) t u v a (m, b, c) = clash (the sep) sep t m a.0 b is_sep
  sure_more (x ∷ xs) [] t u v (m, b, c) a = clash (the sep) sep t m a.0 b is_sep
  sure_more (x ∷ xs) (y ∷ ys) t u v a b = agree_map (λ p. ap₂ ◌∷◌ p.1.0 p.1.1) (agree_then (one_literal (sep ∷ [])) λ _. agree_then (sure x y) λ _. sure_more xs ys) t u v a b

  -- a list with a separator parses in one way where each item does, and no item begins where the list is empty
  pub sure_separated : (missing : Text → Type 0) → ((x : X) (t u : Text) → F x t u → missing t → ⊥) → Sure (λ xs. separated sep missing (map F xs))
  sure_separated none not [] [] t u v a b = (refl, a.1 ∙ sym b.1)
  sure_separated none not [] (y ∷ ys) t u v a (m, b, c) = absurd (not y t m b a.0)
  sure_separated none not (x ∷ xs) [] t u v (m, b, c) a = absurd (not x t m b a.0)
  sure_separated none not (x ∷ xs) (y ∷ ys) t u v a b = agree_map (λ p. ap₂ ◌∷◌ p.0 p.1) (agree_then (sure x y) λ _. sure_more xs ys) t u v a b

-- a list ends in one way
pub agree_ends : (test : ℕ → Bool) → Agree ⊤ (ends test) (ends test)
agree_ends test t u v a b = (tt, a.1 ∙ sym b.1)

agree_keyword : (w : Text) → Agree ⊤ (keyword w) (keyword w)
agree_keyword w t u v a b = one_literal w t u v a.0 b.0

begins_at : (test : ℕ → Bool) (c : ℕ) (t m : Text) → begins test t ≡ true → t ≡ c ∷ m → test c ≡ true
begins_at test c t m a b = sym (ap (begins test) b) ∙ a

question_begins : {Z : Type 0} (n : Text) (t u v : Text) → literal (codes "?") t u → identifier n t v → Z
question_begins n t u v a b = absurd (true≢false (sym (begins_at begins_word 63 t u b.0 a) ∙ refl))

sure_given_name : Sure reads.given_name
sure_given_name None None = agree_map (λ _. refl) (one_literal (codes "?"))
sure_given_name None (Some n) = λ t u v a b. question_begins n t u v a b
sure_given_name (Some n) None = λ t u v b a. question_begins n t v u a b
sure_given_name (Some m) (Some n) = agree_map (ap Some) (sure_identifier m n)

or_true : (b c : Bool) → b ≡ true → (b || c) ≡ true
or_true true c e = refl
or_true false c e = absurd (true≢false (sym e))

given_name_begins : (n : Option Text) (t u : Text) → reads.given_name n t u → reads.no_given_name t → ⊥
given_name_begins None t u a e = clash (λ c. begins_word c || c == 63) 63 t u e a refl
given_name_begins (Some n) [] u a e = true≢false (sym a.0)
given_name_begins (Some n) (c ∷ t) u a e = true≢false (sym (or_true (begins_word c) (c == 63) a.0) ∙ e)

sure_id : Sure reads.id
sure_id x y = agree_map (λ p. λ i. record { dialect = p.0 i; name = p.1.1 i }) (agree_tight (sure_identifier x.dialect y.dialect) λ _. agree_tight (one_literal (codes ".")) λ _. sure_identifier x.name y.name)

module _ {P T A : Type 0} (L : Language P T A) (owns : Lawful A L.owns) where
  -- an attribute begins as a word does
  pub attribute_begins : (a : Attribute A) (t u : Text) → reads.attribute L a t u → begins begins_word t ≡ false → ⊥
  attribute_begins (given_names ns) t u (m, a, b) e = clash begins_word 98 t ((codes "uiltin.given_names") ++ m) e a.0 refl
  attribute_begins (ident n) t u (m, a, b) e = clash begins_word 98 t ((codes "uiltin.identifier") ++ m) e a.0 refl
  attribute_begins (own x) t u a e = let f : L.owns.outcome t ≡ missing = owns.misses t e in let g : found x u ≡ missing = sym a.1.1 ∙ f in cc g

module _ {P T A : Type 0} (L : Language P T A) (types : Lawful T L.types) (owns : Lawful A L.owns)
    (one_place : (p q : P) (t : Text) → L.at p t → L.at q t → p ≡ q) (only : (t u : Text) → L.left_out t u → literal (codes "{..}") t u) where
  sure_here : (p q : P) {C : Type 0} {R S : Reading} → Agree C R S → Agree ((p ≡ q) × C) (reads.here L p R) (reads.here L q S)
  sure_here p q h t u v a b = let r = h t u v a.1 b.1 in ((one_place p q t a.0 b.0, r.0), r.1)

  same_name : (m n : Name P) → m.place ≡ n.place → m.text ≡ n.text → m ≡ n
  same_name m n e f = λ i. record { place = e i; text = f i }

  same_mark : (m n : Mark P) → m.place ≡ n.place → m.index ≡ n.index → m ≡ n
  same_mark m n e f = λ i. record { place = e i; index = f i }

  -- a name parses in one way
  pub sure_name : Sure (reads.name L)
  sure_name m n = agree_map (λ p. same_name m n p.0 p.1) (sure_here m.place n.place (sure_identifier m.text n.text))

  sure_label : Sure (reads.label L)
  sure_label m n = agree_map (λ p. same_name m n p.0 p.1.1) (sure_here m.place n.place (agree_tight (one_literal (codes "^")) λ _. sure_identifier m.text n.text))

  sure_target : Sure (reads.target L)
  sure_target m n = agree_map (λ p. same_name m n p.1.0 p.1.1) (agree_tight (one_literal (codes "^")) λ _. sure_here m.place n.place (sure_identifier m.text n.text))

  -- a mark parses in one way
  pub sure_mark : Sure (reads.mark L)
  sure_mark m n = agree_map (λ p. same_mark m n p.0 p.1.1) (sure_here m.place n.place (agree_tight (one_literal (codes "!")) λ _. sure_number m.index n.index))

  sure_mark_if : Sure (reads.mark_if L)
  sure_mark_if None None = agree_map (λ _. refl) (agree_ends (the 33))
  sure_mark_if None (Some n) = λ t u v a b. clash (the 33) 33 t b.1.0 a.0 b.1.1 refl
  sure_mark_if (Some m) None = λ t u v b a. clash (the 33) 33 t b.1.0 a.0 b.1.1 refl
  sure_mark_if (Some m) (Some n) = agree_map (ap Some) (sure_mark m n)

  -- what was found in two ways is one value and one rest
  pub same_found : {X : Type 0} (x y : X) (u v : Text) → found x u ≡ found y v → (x ≡ y) × (u ≡ v)
  same_found x y u v e = (cc, cc)

  sure_type : Sure (reads.type L)
  sure_type x y t u v a b = same_found x y u v (sym a ∙ b)

  type_begins : (x : T) (t u : Text) → reads.type L x t u → reads.no_type L t → ⊥
  type_begins x t u a b = cc (a, b)

  -- where no word begins, no name is parsed
  pub name_begins : (n : Name P) (t u : Text) → reads.name L n t u → reads.no_word t → ⊥
  name_begins n t u a b = true≢false (sym a.1.0 ∙ b)

  label_begins : (n : Name P) (t u : Text) → reads.label L n t u → begins (the 94) t ≡ false → ⊥
  label_begins n t u a e = clash (the 94) 94 t a.1.0 e a.1.1 refl

  target_begins : (n : Name P) (t u : Text) → reads.target L n t u → begins (the 94) t ≡ false → ⊥
  target_begins n t u a e = clash (the 94) 94 t a.0 e a.1 refl

  given_names_text : (t m n : Text) → keyword (codes "builtin.given_names") t m → keyword (codes "builtin.identifier") t n → ⊥
  given_names_text t m n a b = let e : get_or ((codes "builtin.given_names") ++ m) 8 0 ≡ get_or ((codes "builtin.identifier") ++ n) 8 0 = ap (λ s. get_or s 8 0) (sym a.0 ∙ b.0) in true≢false (ap (λ c. c == 103) e)

  -- an attribute parses in one way
  pub sure_attribute : Sure (reads.attribute L)
  sure_attribute (given_names ms) (given_names ns) = agree_map (λ p. ap given_names p.1.1.0)
      (agree_then (agree_keyword (codes "builtin.given_names")) λ _. agree_then (one_literal (codes "[")) λ _.
      agree_then (sure_separated reads.given_name sure_given_name 44 refl reads.no_given_name given_name_begins ms ns) λ _. one_literal (codes "]"))
  sure_attribute (given_names ms) (ident n) = λ t u v a b. absurd (given_names_text t a.0 b.0 a.1 b.1)
  sure_attribute (given_names ms) (own y) = λ t u v a b. absurd (b.0 a.0 a.1)
  sure_attribute (ident m) (given_names ns) = λ t u v a b. absurd (given_names_text t b.0 a.0 b.1 a.1)
  sure_attribute (ident m) (ident n) = agree_map (λ p. ap ident p.1) (agree_then (agree_keyword (codes "builtin.identifier")) λ _. sure_identifier m n)
  sure_attribute (ident m) (own y) = λ t u v a b. absurd (b.1.0 a.0 a.1)
  sure_attribute (own x) (given_names ns) = λ t u v a b. absurd (a.0 b.0 b.1)
  sure_attribute (own x) (ident n) = λ t u v a b. absurd (a.1.0 b.0 b.1)
  sure_attribute (own x) (own y) = λ t u v a b. (ap own (same_found x y u v (sym a.1.1 ∙ b.1.1)).0, (same_found x y u v (sym a.1.1 ∙ b.1.1)).1)

  entry_begins : (e : Name P × Attribute A) (t u : Text) → reads.entry L e t u → reads.no_word t → ⊥
  entry_begins e t u (m, a, b) = name_begins e.0 t m a

  sure_entry : Sure (reads.entry L)
  sure_entry e f = agree_map (λ p. λ i. (p.0 i, p.1.1 i)) (agree_then (sure_name e.0 f.0) λ _. agree_then (one_literal (codes ":")) λ _. sure_attribute e.1 f.1)

  sure_dictionary : Sure (reads.dictionary L)
  sure_dictionary es fs = agree_map (λ p. p.1.0) (agree_then (one_literal (codes "[")) λ _.
      agree_then (sure_separated (reads.entry L) sure_entry 44 refl reads.no_word entry_begins es fs) λ _. one_literal (codes "]"))

  sure_dictionary_if : Sure (reads.dictionary_if L)
  sure_dictionary_if None None = agree_map (λ _. refl) (agree_ends (the 91))
  sure_dictionary_if None (Some fs) = λ t u v a b. clash (the 91) 91 t b.0 a.0 b.1 refl
  sure_dictionary_if (Some es) None = λ t u v b a. clash (the 91) 91 t b.0 a.0 b.1 refl
  sure_dictionary_if (Some es) (Some fs) = agree_map (ap Some) (sure_dictionary es fs)

  argument_begins : (e : Name P × T) (t u : Text) → reads.argument L e t u → reads.no_word t → ⊥
  argument_begins e t u (m, a, b) = name_begins e.0 t m a

  sure_argument : Sure (reads.argument L)
  sure_argument e f = agree_map (λ p. λ i. (p.0 i, p.1.1 i)) (agree_then (sure_name e.0 f.0) λ _. agree_then (one_literal (codes ":")) λ _. sure_type e.1 f.1)

  outlined_or : (a : Attribute A) (t u v : Text) → literal (codes "!outlined") t u → reads.attribute L a t v → ⊥
  outlined_or a t u v e r = attribute_begins L owns a t v r (ap (begins begins_word) e)

  sure_names : (ms ns : List (Name P)) → Agree (ms ≡ ns) (separated 44 reads.no_word (map (reads.name L) ms)) (separated 44 reads.no_word (map (reads.name L) ns))
  sure_names = sure_separated (reads.name L) sure_name 44 refl reads.no_word name_begins

  sure_piece : (p q : Piece P T A) → directive_of_piece p ≡ directive_of_piece q → Agree (p ≡ q) (reads.piece L p) (reads.piece L q)
  sure_piece (tree.word w) (tree.word w') e t u v a b = let f : w ≡ w' = cc e in (ap tree.word f, same_rest w u v (sym a ∙ b ∙ ap (λ s. s ++ v) (sym f)))
  sure_piece (tree.operand i n) (tree.operand j n') e t u v a b = let f : i ≡ j = cc e in agree_map (λ p. ap₂ tree.operand f p) (sure_name n n') t u v a b
  sure_piece (tree.operands ns) (tree.operands ns') e t u v a b = agree_map (ap tree.operands) (sure_names ns ns') t u v a b
  sure_piece (tree.successor i n) (tree.successor j n') e t u v a b = let f : i ≡ j = cc e in agree_map (λ p. ap₂ tree.successor f p) (sure_target n n') t u v a b
  sure_piece (tree.successors ns) (tree.successors ns') e t u v a b = agree_map (ap tree.successors) (sure_separated (reads.target L) sure_target 44 refl reads.no_label target_begins ns ns') t u v a b
  sure_piece (tree.attribute k None) (tree.attribute k' None) e t u v a b = let f : k ≡ k' = cc e in agree_map (λ p. ap (λ k. tree.attribute k None) f) (one_literal (codes "!outlined")) t u v a b
  sure_piece (tree.attribute k None) (tree.attribute k' (Some y)) e t u v a b = absurd (outlined_or y t u v a b)
  sure_piece (tree.attribute k (Some x)) (tree.attribute k' None) e t u v a b = absurd (outlined_or x t v u b a)
  sure_piece (tree.attribute k (Some x)) (tree.attribute k' (Some y)) e t u v a b = let f : k ≡ k' = cc e in agree_map (λ p. ap₂ (λ k x. tree.attribute k (Some x)) f p) (sure_attribute x y) t u v a b
  sure_piece (tree.dictionary es) (tree.dictionary fs) e t u v a b = agree_map (ap tree.dictionary) (sure_dictionary es fs) t u v a b
  sure_piece (tree.result_type i x) (tree.result_type j y) e t u v a b = let f : i ≡ j = cc e in agree_map (λ p. ap₂ tree.result_type f p) (sure_type x y) t u v a b
  sure_piece (tree.header m) (tree.header n) e t u v a b = agree_map (λ p. ap tree.header (same_name m n p.0 p.1.1)) (sure_here m.place n.place (agree_tight (one_literal (codes "@")) λ _. sure_identifier m.text n.text)) t u v a b
  sure_piece (tree.types xs) (tree.types ys) e t u v a b = agree_map (ap tree.types) (sure_separated (reads.type L) sure_type 44 refl (reads.no_type L) type_begins xs ys) t u v a b
  sure_piece _ _ e t u v a b = absurd (cc e)

  abbrev Inner : Type 0
  Inner = Regions (Op P T A) (Head P T A) (Brace P)

  -- a text parses as at most one such region
  abbrev SureRegion : Brace P → Blocks (Op P T A) (Head P T A) (Brace P) → Type 0
  SureRegion brace bs = (brace' : Brace P) (bs' : Blocks (Op P T A) (Head P T A) (Brace P)) →
      Agree ((brace ≡ brace') × (bs ≡ bs')) (reads.region_read L brace (reads.block_readings L bs)) (reads.region_read L brace' (reads.block_readings L bs'))

  abbrev SureRegions : Inner → Type 0
  SureRegions rs = EachRegion SureRegion rs

  brace_begins : (brace : Brace P) (rs : List Reading) (t u : Text) → reads.region_read L brace rs t u → begins (the 123) t ≡ false → ⊥
  brace_begins elided [] t u a e = clash (the 123) 123 t (codes "..}" ++ u) e (only t u a) refl
  brace_begins elided (r ∷ rs) t u a e = a
  brace_begins (shown p) rs t u a e = clash (the 123) 123 t a.1.0 e a.1.1 refl

  sure_repeated : (rs ss : Inner) → SureRegions rs → Agree (rs ≡ ss) (repeated (the 123) (reads.region_readings L rs)) (repeated (the 123) (reads.region_readings L ss))
  sure_repeated no_regions no_regions s t u v a b = (refl, a.1 ∙ sym b.1)
  sure_repeated no_regions (region brace bs ss) s t u v a (m, b, c) = absurd (brace_begins brace _ t m b a.0)
  sure_repeated (region brace bs rs) no_regions s t u v (m, b, c) a = absurd (brace_begins brace _ t m b a.0)
  sure_repeated (region brace bs rs) (region brace' bs' ss) s t u v a b = agree_map (λ p. λ i. region (p.0.0 i) (p.0.1 i) (p.1 i)) (agree_then (s.0 brace' bs') λ _. sure_repeated rs ss s.1) t u v a b

  -- readings that agree do so after white space
  pub agree_white : {C : Type 0} {R S : Reading} → Agree C R S → Agree C (white R) (white S)
  agree_white h t u v a b = h (after_space t) u v a b

  abbrev is_region : Option format.Directive → Bool
  is_region None = false
  is_region (Some d) = elim d [ format.region i ↦ true | format.regions ↦ true | _ ↦ false ]

  plain : (p : Piece P T A) → is_region (directive_of_piece p) ≡ false
  plain (tree.word w) = refl
  plain _ = refl

  not_region : (p : Piece P T A) (d : Option format.Directive) → directive_of_piece p ≡ d → is_region d ≡ true → ⊥
  not_region p d e f = true≢false (sym f ∙ ap is_region (sym e) ∙ plain p)

  sure_parts : (ps qs : List (Part P T A)) (rs ss : Inner) → SureRegions rs → map directive ps ≡ map directive qs
      → Agree ((ps ≡ qs) × (rs ≡ ss)) (reads.parts L ps (reads.region_readings L rs)) (reads.parts L qs (reads.region_readings L ss))
  sure_parts [] [] no_regions no_regions s e t u v a b = ((refl, refl), a ∙ sym b)
  sure_parts [] [] no_regions (region brace bs ss) s e t u v a b = absurd b
  sure_parts [] [] (region brace bs rs) ss s e t u v a b = absurd a
  sure_parts (tree.piece p ∷ ps) (tree.piece q ∷ qs) rs ss s e t u v a b =
      let f : directive_of_piece p ≡ directive_of_piece q = cc e in
      let g : map directive ps ≡ map directive qs = cc e in
      agree_map (λ r. (λ i. tree.piece (r.0 i) ∷ r.1.0 i, r.1.1)) (agree_white (agree_tight (sure_piece p q f) λ _. sure_parts ps qs rs ss s g)) t u v a b
  sure_parts (tree.region i ∷ ps) (tree.region j ∷ qs) no_regions ss s e t u v a b = absurd a
  sure_parts (tree.region i ∷ ps) (tree.region j ∷ qs) (region brace bs rs) no_regions s e t u v a b = absurd b
  sure_parts (tree.region i ∷ ps) (tree.region j ∷ qs) (region brace bs rs) (region brace' bs' ss) s e t u v a b =
      let f : i ≡ j = cc e in
      let g : map directive ps ≡ map directive qs = cc e in
      agree_map (λ r. (λ k. tree.region (f k) ∷ r.1.0 k, λ k. region (r.0.0 k) (r.0.1 k) (r.1.1 k))) (agree_white (agree_tight (s.0 brace' bs') λ _. sure_parts ps qs rs ss s.1 g)) t u v a b
  sure_parts (tree.regions ∷ ps) (tree.regions ∷ qs) rs ss s e t u v a b =
      let g : map directive ps ≡ map directive qs = cc e in
      agree_map (λ r. (ap (λ x. tree.regions ∷ x) r.1.0, r.0)) (agree_white (agree_tight (sure_repeated rs ss s) λ _. sure_parts ps qs no_regions no_regions tt g)) t u v a b
  sure_parts (tree.piece p ∷ ps) (tree.region j ∷ qs) rs ss s e t u v a b = absurd (not_region p (Some (format.region j)) (cc e) refl)
  sure_parts (tree.piece p ∷ ps) (tree.regions ∷ qs) rs ss s e t u v a b = absurd (not_region p (Some format.regions) (cc e) refl)
  sure_parts (tree.region j ∷ ps) (tree.piece p ∷ qs) rs ss s e t u v a b = absurd (not_region p (Some (format.region j)) (cc e) refl)
  sure_parts (tree.regions ∷ ps) (tree.piece p ∷ qs) rs ss s e t u v a b = absurd (not_region p (Some format.regions) (cc e) refl)
  sure_parts _ _ rs ss s e t u v a b = absurd (cc e)

  abbrev Leaves : Type 0
  Leaves = Blocks (Op P T A) (Head P T A) (Brace P)

  abbrev Steps : Type 0
  Steps = Operations (Op P T A) (Head P T A) (Brace P)

  abbrev SureBlock : Head P T A → Steps → Type 0
  SureBlock h os = (h' : Head P T A) (os' : Steps) → Agree ((h ≡ h') × (os ≡ os')) (reads.block_read L h (reads.operation_readings L os)) (reads.block_read L h' (reads.operation_readings L os'))

  abbrev SureOperation : Op P T A → Inner → Type 0
  SureOperation o rs = (o' : Op P T A) (rs' : Inner) → Agree ((o ≡ o') × (rs ≡ rs')) (reads.operation_read L o (reads.region_readings L rs)) (reads.operation_read L o' (reads.region_readings L rs'))

  abbrev SureBlocks : Leaves → Type 0
  SureBlocks bs = EachBlock SureBlock bs

  abbrev SureOperations : Steps → Type 0
  SureOperations os = EachOperation SureOperation os

  -- regions
  block_begins : (h : Head P T A) (rs : List Reading) (t u : Text) → reads.block_read L h rs t u → begins (the 94) t ≡ false → ⊥
  block_begins h rs t u (m, a, b) e = label_begins h.label t m a e

  repeated_blocks : (bs cs : Leaves) → SureBlocks bs → Agree (bs ≡ cs) (repeated (the 94) (reads.block_readings L bs)) (repeated (the 94) (reads.block_readings L cs))
  repeated_blocks no_blocks no_blocks s t u v a b = (refl, a.1 ∙ sym b.1)
  repeated_blocks no_blocks (block h os cs) s t u v a (m, b, c) = absurd (block_begins h _ t m b a.0)
  repeated_blocks (block h os bs) no_blocks s t u v (m, b, c) a = absurd (block_begins h _ t m b a.0)
  repeated_blocks (block h os bs) (block h' os' cs) s t u v a b = agree_map (λ p. λ i. block (p.0.0 i) (p.0.1 i) (p.1 i)) (agree_then (s.0 h' os') λ _. repeated_blocks bs cs s.1) t u v a b

  -- after its brace a region that is shown has a block or the other brace
  not_both_braces : (p : P) (bs : Leaves) (t u v : Text) → reads.region_read L (shown p) (reads.block_readings L bs) t u → literal (codes "{..}") t v → ⊥
  not_both_braces p no_blocks t u v (at, (m, o, (k, a, c))) e =
      let s : m ≡ codes "..}" ++ v = cc in
      clash (the 46) 46 (after_space k) (codes ".}" ++ v) (ap (begins (the 46)) c) (ap after_space (a.1 ∙ ap after_space s)) refl
  not_both_braces p (block h os bs) t u v (at, (m, o, (k, (k', a, b), c))) e =
      let s : m ≡ codes "..}" ++ v = cc in
      block_begins h _ (after_space m) k' a (ap (λ t. begins (the 94) (after_space t)) s)

  sure_region : (bs : Leaves) → SureBlocks bs → (brace brace' : Brace P) (cs : Leaves) →
      Agree ((brace ≡ brace') × (bs ≡ cs)) (reads.region_read L brace (reads.block_readings L bs)) (reads.region_read L brace' (reads.block_readings L cs))
  sure_region no_blocks s elided elided no_blocks t u v a b = let r = one_literal (codes "{..}") t u v (only t u a) (only t v b) in ((refl, refl), r.1)
  sure_region no_blocks s elided elided (block h os cs) t u v a b = absurd b
  sure_region no_blocks s elided (shown q) cs t u v a b = absurd (not_both_braces q cs t v u b (only t u a))
  sure_region (block h os bs) s elided brace' cs t u v a b = absurd a
  sure_region bs s (shown p) elided no_blocks t u v a b = absurd (not_both_braces p bs t u v a (only t v b))
  sure_region bs s (shown p) elided (block h os cs) t u v a b = absurd b
  sure_region bs s (shown p) (shown q) cs t u v a b = agree_map (λ r. (ap shown r.0, r.1.1.0))
      (sure_here p q (agree_then (one_literal (codes "{")) λ _. agree_then (repeated_blocks bs cs s) λ _. one_literal (codes "}"))) t u v a b

  -- operations
  sure_results : (ms ns : List (Name P)) → Agree (ms ≡ ns) (reads.results_if L ms) (reads.results_if L ns)
  sure_results ms ns t u v (inl a) (inl b) = agree_map (λ p. p.0) (agree_then (sure_names ms ns) λ _. one_literal (codes "=")) t u v a b
  sure_results ms ns t u v (inl a) (inr b) = absurd (b.2 ms u a)
  sure_results ms ns t u v (inr a) (inl b) = absurd (a.2 ns v b)
  sure_results ms ns t u v (inr a) (inr b) = (a.0 ∙ sym b.0, a.1 ∙ sym b.1)

  same_shape : (f : Format) (b c : tree.Body P T A) → IsOf f b → IsOf f c → map directive (parts_of b) ≡ map directive (parts_of c)
  same_shape format.canonical (tree.canonical ns ls es xs ys) (tree.canonical ns' ls' es' xs' ys') p q = refl
  same_shape (format.custom ds) (tree.custom ps) (tree.custom qs) p q = p ∙ sym q
  same_shape format.canonical (tree.custom ps) c p q = absurd p
  same_shape format.canonical (tree.canonical ns ls es xs ys) (tree.custom ps) p q = absurd q
  same_shape (format.custom ds) (tree.canonical ns ls es xs ys) c p q = absurd p
  same_shape (format.custom ds) (tree.custom ps) (tree.canonical ns ls es xs ys) p q = absurd q

  abbrev names_at : ℕ → List (Part P T A) → List (Name P)
  names_at k ps = elim (get_or ps k tree.regions) [ tree.piece p ↦ elim p [ tree.operands ns ↦ ns | tree.successors ns ↦ ns | _ ↦ [] ] | _ ↦ [] ]

  abbrev entries_at : ℕ → List (Part P T A) → List (Name P × Attribute A)
  entries_at k ps = elim (get_or ps k tree.regions) [ tree.piece p ↦ elim p [ tree.dictionary es ↦ es | _ ↦ [] ] | _ ↦ [] ]

  abbrev types_at : ℕ → List (Part P T A) → List T
  types_at k ps = elim (get_or ps k tree.regions) [ tree.piece p ↦ elim p [ tree.types xs ↦ xs | _ ↦ [] ] | _ ↦ [] ]

  same_body : (f : Format) (b c : tree.Body P T A) → IsOf f b → IsOf f c → parts_of b ≡ parts_of c → b ≡ c
  same_body format.canonical (tree.canonical ns ls es xs ys) (tree.canonical ns' ls' es' xs' ys') p q e = λ i. tree.canonical (names_at 1 (e i)) (names_at 4 (e i)) (entries_at 6 (e i)) (types_at 10 (e i)) (types_at 14 (e i))
  same_body (format.custom ds) (tree.custom ps) (tree.custom qs) p q e = ap tree.custom e
  same_body format.canonical (tree.custom ps) c p q e = absurd p
  same_body format.canonical (tree.canonical ns ls es xs ys) (tree.custom ps) p q e = absurd q
  same_body (format.custom ds) (tree.canonical ns ls es xs ys) c p q e = absurd p
  same_body (format.custom ds) (tree.custom ps) (tree.canonical ns ls es xs ys) p q e = absurd q

  sure_operation : (rs : Inner) → SureRegions rs → (x y : Op P T A) (ss : Inner) →
      Agree ((x ≡ y) × (rs ≡ ss)) (reads.operation_read L x (reads.region_readings L rs)) (reads.operation_read L y (reads.region_readings L ss))
  sure_operation rs s x y ss t u v (at, ((f, fx, is), a)) (at', ((f', fx', is'), b)) =
      let r = (agree_white (agree_then (sure_results x.names y.names) λ _. agree_tight (sure_id x.id y.id) λ i.
      let g : f ≡ f' = cc in
      let is'' : IsOf f y.body = subst (λ f. IsOf f y.body) (sym g) is' in
      let bodies : Agree ((x.body ≡ y.body) × (rs ≡ ss)) (reads.parts L (parts_of x.body) (reads.region_readings L rs)) (reads.parts L (parts_of y.body) (reads.region_readings L ss)) =
      agree_map (λ p. (same_body f x.body y.body is is'' p.0, p.1)) (sure_parts (parts_of x.body) (parts_of y.body) rs ss s (same_shape f x.body y.body is is'')) in
      agree_then bodies λ _. sure_mark_if x.mark y.mark)) t u v a b in
      ((λ i. record { place = one_place x.place y.place t at at' i; names = r.0.0 i; id = r.0.1.0 i; body = r.0.1.1.0.0 i; mark = r.0.1.1.1 i }, r.0.1.1.0.1), r.1)

  -- blocks
  after_twice : (test : ℕ → Bool) (t : Text) → after test (after test t) ≡ after test t
  after_twice test [] = refl
  after_twice test (c ∷ t) = go (test c) refl (after_twice test t)
    where
      go : (b : Bool) → test c ≡ b → after test (after test t) ≡ after test t → after test (cond b (after test t) (c ∷ t)) ≡ cond b (after test t) (c ∷ t)
      go true e h = h
      go false e h = ap (λ b. cond b (after test t) (c ∷ t)) e

  word_or : (t : Text) → begins begins_word t ≡ true → begins (λ c. begins_word c || c == 61) t ≡ true
  word_or [] e = e
  word_or (c ∷ t) e = or_true (begins_word c) (c == 61) e

  operation_begins : (x : Op P T A) (rs : List Reading) (t u : Text) → reads.operation_read L x rs t u → reads.no_operation t → ⊥
  operation_begins x rs t u (at, (is, (m, inl a, b))) e = go x.names a
    where
      s : Text
      s = after_space t

      go : (ns : List (Name P)) → reads.results L ns (after_space t) m → ⊥
      go [] (w, a, b) = clash (λ c. begins_word c || c == 61) 61 (after_space t) m e (sym (after_twice is_whitespace t) ∙ ap after_space (sym a.1) ∙ b) refl
      go (n ∷ ns) (w, (w', a, c), b) = true≢false (sym (word_or (after_space t) a.1.0) ∙ e)
  operation_begins x rs t u (at, (is, (m, inr a, (w, (w', b, c), d)))) e =
      true≢false (sym (word_or (after_space t) (subst (λ s. begins begins_word s ≡ true) (ap after_space a.1 ∙ after_twice is_whitespace t) b.0)) ∙ e)

  more_operations : (xs ys : Steps) → SureOperations xs → Agree (xs ≡ ys) (more 59 (reads.operation_readings L xs)) (more 59 (reads.operation_readings L ys))
  more_operations no_operations no_operations s t u v a b = (refl, a.1 ∙ sym b.1)
  more_operations no_operations (operation y ss ys) s t u v a (m, b, c) = clash (the 59) 59 t m a.0 b refl
  more_operations (operation x rs xs) no_operations s t u v (m, b, c) a = clash (the 59) 59 t m a.0 b refl
  more_operations (operation x rs xs) (operation y ss ys) s t u v a b = agree_map (λ p. λ i. operation (p.1.0.0 i) (p.1.0.1 i) (p.1.1 i))
      (agree_then (one_literal (59 ∷ [])) λ _. agree_then (s.0 y ss) λ _. more_operations xs ys s.1) t u v a b

  all_operations : (xs ys : Steps) → SureOperations xs → Agree (xs ≡ ys) (separated 59 reads.no_operation (reads.operation_readings L xs)) (separated 59 reads.no_operation (reads.operation_readings L ys))
  all_operations no_operations no_operations s t u v a b = (refl, a.1 ∙ sym b.1)
  all_operations no_operations (operation y ss ys) s t u v a (m, b, c) = absurd (operation_begins y _ t m b a.0)
  all_operations (operation x rs xs) no_operations s t u v (m, b, c) a = absurd (operation_begins x _ t m b a.0)
  all_operations (operation x rs xs) (operation y ss ys) s t u v a b = agree_map (λ p. λ i. operation (p.0.0 i) (p.0.1 i) (p.1 i))
      (agree_then (s.0 y ss) λ _. more_operations xs ys s.1) t u v a b

  sure_block : (os : Steps) → SureOperations os → (h h' : Head P T A) (os' : Steps) →
      Agree ((h ≡ h') × (os ≡ os')) (reads.block_read L h (reads.operation_readings L os)) (reads.block_read L h' (reads.operation_readings L os'))
  sure_block os s h h' os' = agree_map (λ p. (λ i. record { label = p.0 i; arguments = p.1.1.0 i; attributes = p.1.1.1.1.0 i; mark = p.1.1.1.1.1.0 i }, p.1.1.1.1.1.1.1))
      (agree_then (sure_label h.label h'.label) λ _. agree_then (one_literal (codes "(")) λ _.
      agree_then (sure_separated (reads.argument L) sure_argument 44 refl reads.no_word argument_begins h.arguments h'.arguments) λ _. agree_then (one_literal (codes ")")) λ _.
      agree_then (sure_dictionary_if h.attributes h'.attributes) λ _. agree_then (sure_mark_if h.mark h'.mark) λ _. agree_then (one_literal (codes ":")) λ _. all_operations os os' s)

  all_sure : (rs : Inner) → SureRegions rs
  all_sure = all_regions SureRegion SureBlock SureOperation (λ brace bs s brace' cs. sure_region bs s brace brace' cs) (λ h os s h' os'. sure_block os s h h' os') (λ o rs s o' ss. sure_operation rs s o o' ss)

  -- A text parses as one tree at most, and leaves one rest.
  pub one_tree : (x y : Tree P T A) (t u v : Text) → reads.reads L x t u → reads.reads L y t v → (x ≡ y) × (u ≡ v)
  one_tree x y t u v a b = agree_map (λ p. λ i. record { own = p.0 i; regions = p.1 i }) (sure_operation x.regions (all_sure x.regions) x.own y.own y.regions) t u v a b
