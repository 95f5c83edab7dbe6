-- What is written parses as what it was written from, before every follower that printed IR has.
use Rattle.std.specs.Prelude.{◌≡◌, ℕ, zero, suc, ◌+◌, ◌<◌, Bool, true, false, cond, not, ◌==◌, ◌&&◌, ◌||◌, ◌⊎◌, List, [], ◌∷◌, ◌++◌, map, codes, refl, Option, Some, None, ⊤}
use Rattle.std.proofs.Common.{inl, inr, sym, ◌∙◌, ap, subst, true≢false, append_assoc, arith}
use Rattle.std.proofs.lemmas.Bool.Decides.{nat_tests}
use Rattle.std.specs.Char.{is_whitespace, is_ascii_graphic}
use Rattle.irtext_base.specs.Text.{Text, begins, after_space, begins_word, in_dotted}
use Rattle.irtext_base.specs.Reading.{Reading, ◌▹◌, ◌▸◌, white, the, literal, keyword, identifier, separated, repeated}
use Rattle.irtext_grammar.specs.Grammar.Forest.{Regions, no_regions, region}
use Rattle.irtext_base.specs.Format.{has, kind}
use Rattle.irtext_grammar.specs.Grammar.Tree as tree
use Rattle.irtext_grammar.specs.Grammar.Tree.{Name, Attribute, given_names, ident, own, Piece, Part, Op, Head, Brace, shown, elided, directive_of_piece}
use Rattle.irtext_base.specs.Own.{Language, found, missing, Lawful, Unreserved, Ends, can_follow}
use Rattle.irtext_grammar.specs.Spelling.Spellable.{Each, IsIdentifier, IsName, IsGiven, IsSpellableAttribute, IsSpellableEntry, IsSpellable, AreSpellable, Enough}
use Rattle.irtext_grammar.specs.Grammar.Reads as reads
use Rattle.irtext_grammar.specs.Spelling.Spell as spell
use Rattle.irtext_grammar.specs.Spelling.Spell.{joined, joined_from, comma, or_question, joins_left, newline}
use Rattle.irtext_grammar.specs.Spelling.Writable.{OneOf}
use Rattle.irtext_grammar.proofs.Grammar.Sequences.{Reaches, reaches_from, reaches_then, reaches_literal, identifier_here, reaches_identifier, reaches_ends, back_list}
use Rattle.irtext_grammar.proofs.Grammar.Follows.{NoneOf, apart_none, has_left, has_right, word_kind, none_word, none_the}
use Rattle.irtext_grammar.proofs.Grammar.Apart.{first, listed, continuing, starts, Apart}
use Rattle.irtext_grammar.proofs.Grammar.Unique.{attribute_begins}
use Rattle.irtext_base.proofs.Characters.{or_left, after_stops, after_twice, word_tight, is_false, ascii, implied, not_both}

graphic_tight : (c : ℕ) → is_ascii_graphic c ≡ true → is_whitespace c ≡ false
graphic_tight c e = is_false (is_whitespace c) (λ f. not_both (is_ascii_graphic c) (is_whitespace c) (ascii (λ c. not (is_ascii_graphic c && is_whitespace c)) refl c (graphic_small c e)) e f)
  where
    graphic_small : (c : ℕ) → is_ascii_graphic c ≡ true → c < 128
    graphic_small c e = grind (arith, nat_tests)

hugs_small : (c : ℕ) → joins_left c ≡ true → c < 128
hugs_small c e = grind (arith, nat_tests)

hugs_follow : (c : ℕ) → joins_left c ≡ true → can_follow c ≡ true
hugs_follow c e = implied (joins_left c) (can_follow c) (ascii (λ c. not (joins_left c) || can_follow c) refl c (hugs_small c e)) e

-- the parts of an operation's text, joined from the left, are the same joined from the right
pub regroup : (r d nm b m f : Text) → ((r ++ ((d ++ (46 ∷ nm)) ++ b)) ++ m) ++ f ≡ r ++ (d ++ (46 ∷ (nm ++ (b ++ (m ++ f)))))
regroup r d nm b m f = simp append_assoc

regroup_joined : (x j l f : Text) → ((x ++ j) ++ l) ++ f ≡ x ++ (j ++ (l ++ f))
regroup_joined x j l f = simp append_assoc

-- a newline with its indentation is white space
pub newline_white : (k : ℕ) (x : Text) → after_space (newline k ++ x) ≡ after_space x
newline_white zero x = refl
newline_white (suc k) x = newline_white k x

module _ {P T A : Type 0} (L : Language P T A) (types : Lawful T L.types) (owns : Lawful A L.owns) (unreserved : Unreserved A L.owns) (anywhere : (p : P) (t : Text) → L.at p t) where
  -- a reading that keeps its place reaches where the reading alone does
  pub here : (p : P) {R : Reading} {t f : Text} → Reaches R t f → Reaches (reads.here L p R) t f
  here p r = record { left = r.left; reading = (anywhere p _, r.reading); same = r.same }

  -- a name is parsed back
  pub back_name : (n : Name P) (f : Text) → IsName n → Ends f → Reaches (reads.name L n) (n.text ++ f) f
  back_name n f e h = here n.place (reaches_identifier n.text f e h)

  -- a sign, and a name with nothing between
  back_signed : (c : ℕ) (s f : Text) → is_whitespace c ≡ false → IsIdentifier s → Ends f → Reaches (literal (c ∷ []) ▸ identifier s) (c ∷ (s ++ f)) f
  back_signed c s f w e h = record { left = f; reading = (s ++ f, after_stops is_whitespace c (s ++ f) w, identifier_here s f e h); same = refl }

  -- a label that is named is parsed back
  pub back_target : (n : Name P) (f : Text) → IsName n → Ends f → Reaches (reads.target L n) (spell.label L n ++ f) f
  back_target n f e h = record { left = f; reading = (n.text ++ f, after_stops is_whitespace 94 (n.text ++ f) refl, (anywhere n.place (n.text ++ f), identifier_here n.text f e h)); same = refl }

  -- a type is parsed back
  pub back_type : (x : T) (f : Text) → Ends f → Reaches (reads.type L x) (L.types.written x ++ f) f
  back_type x f h = let a = types.again x f h in
      record { left = a.0; reading = subst (λ t. L.types.outcome t ≡ found x a.0) (sym (word_tight (L.types.written x ++ f) (types.starts x f))) a.1; same = a.2 }

  reaches_keyword : (c : ℕ) (w f : Text) → is_whitespace c ≡ false → begins in_dotted f ≡ false → Reaches (keyword (c ∷ w)) (c ∷ (w ++ f)) f
  reaches_keyword c w f e h = record { left = f; reading = (after_stops is_whitespace c (w ++ f) e, h); same = refl }

  back_given : (n : Option Text) (f : Text) → IsGiven n → Ends f → Reaches (reads.given_name n) (or_question n ++ f) f
  back_given None f e h = reaches_literal 63 [] f refl
  back_given (Some n) f e h = reaches_identifier n f e h

  -- a list in brackets, the first of which was parsed
  back_bracketed : {X : Type 0} (F : X → Reading) (s : X → Text) (Good : X → Type 0) → ((x : X) (f : Text) → Good x → Ends f → Reaches (F x) (s x ++ f) f)
      → (absent : Text → Type 0) → ((f : Text) → absent (93 ∷ f)) → (xs : List X) (f : Text) → Each Good xs
      → Reaches (literal (codes "[") ▹ separated 44 absent (map F xs) ▹ literal (codes "]")) (91 ∷ ((joined comma (map s xs) ++ codes "]") ++ f)) f
  back_bracketed F s Good back absent shut xs f g = reaches_then (reaches_literal 91 [] ((joined comma (map s xs) ++ codes "]") ++ f) refl)
      (reaches_then (reaches_from (ap after_space (append_assoc (joined comma (map s xs)) (codes "]") f)) (back_list F s Good back absent xs (93 ∷ f) g (inr refl) refl (shut f))) (reaches_literal 93 [] f refl))

  -- an attribute is parsed back
  pub back_attribute : (a : Attribute A) (f : Text) → IsSpellableAttribute a → Ends f → Reaches (reads.attribute L a) (spell.attribute L a ++ f) f
  back_attribute (given_names ns) f e h = reaches_then (reaches_keyword 98 (codes "uiltin.given_names") (32 ∷ 91 ∷ ((joined comma (map or_question ns) ++ codes "]") ++ f)) refl refl)
      (reaches_from refl (back_bracketed reads.given_name or_question IsGiven back_given reads.no_given_name (λ f. refl) ns f e))
  back_attribute (ident n) f e h = reaches_then (reaches_keyword 98 (codes "uiltin.identifier") (32 ∷ (n ++ f)) refl refl) (reaches_from refl (reaches_identifier n f e h))
  back_attribute (own x) f e h = let a = owns.again x f h in
      let tight : after_space (L.owns.written x ++ f) ≡ L.owns.written x ++ f = word_tight (L.owns.written x ++ f) (owns.starts x f) in
      record {
        left = a.0;
        reading = (
          λ after k. unreserved.given_names x f after (subst (λ t. keyword (codes "builtin.given_names") t after) tight k),
          (
            λ after k. unreserved.identifier x f after (subst (λ t. keyword (codes "builtin.identifier") t after) tight k),
            subst (λ t. L.owns.outcome t ≡ found x a.0) (sym tight) a.1,
          ),
        );
        same = a.2;
      }

  back_entry : (e : Name P × Attribute A) (f : Text) → IsSpellableEntry e → Ends f → Reaches (reads.entry L e) (spell.entry L e ++ f) f
  back_entry e f g h = reaches_then (reaches_from (ap after_space (append_assoc e.0.text (58 ∷ 32 ∷ spell.attribute L e.1) f)) (back_name e.0 (58 ∷ 32 ∷ (spell.attribute L e.1 ++ f)) g.0 (inr refl)))
      (reaches_then (reaches_literal 58 [] (32 ∷ (spell.attribute L e.1 ++ f)) refl) (reaches_from refl (back_attribute e.1 f g.1 h)))

  -- a dictionary is parsed back
  pub back_dictionary : (es : List (Name P × Attribute A)) (f : Text) → Each IsSpellableEntry es → Reaches (reads.dictionary L es) (spell.dictionary L es ++ f) f
  back_dictionary es f g = back_bracketed (reads.entry L) (spell.entry L) IsSpellableEntry back_entry reads.no_word (λ f. refl) es f g

  -- what follows a piece ends it, and does not continue it
  abbrev pub FollowsWell : Piece P T A → Text → Type 0
  FollowsWell (tree.word s) f = ⊤
  FollowsWell p f = Ends f × NoneOf (continuing p) (after_space f)

  back_piece : (p : Piece P T A) (f : Text) → IsSpellable p → FollowsWell p f → Reaches (reads.piece L p) (spell.piece L p ++ f) f
  back_piece (tree.word []) f e h = absurd (true≢false (sym e))
  back_piece (tree.word (c ∷ s)) f e h = reaches_literal c s f (graphic_tight c e)
  back_piece (tree.operand i n) f e h = back_name n f e h.0
  back_piece (tree.operands ns) f e h = back_list (reads.name L) (λ n. n.text) IsName back_name reads.no_word ns f e h.0
      (none_the (codes "_,") 44 (after_space f) refl h.1) (none_word (codes "_,") (after_space f) refl h.1)
  back_piece (tree.successor i n) f e h = back_target n f e h.0
  back_piece (tree.successors ns) f e h = back_list (reads.target L) (spell.label L) IsName back_target reads.no_label ns f e h.0
      (none_the (codes "^,") 44 (after_space f) refl h.1) (none_the (codes "^,") 94 (after_space f) refl h.1)
  back_piece (tree.attribute k None) f e h = reaches_literal 33 (codes "outlined") f refl
  back_piece (tree.attribute k (Some a)) f e h = back_attribute a f e h.0
  back_piece (tree.dictionary es) f e h = back_dictionary es f e
  back_piece (tree.result_type i t) f e h = back_type t f h.0
  back_piece (tree.header n) f e h = here n.place (back_signed 64 n.text f refl e h.0)
  back_piece (tree.types ts) f e h = absurd e

  -- what the next character says of a piece
  abbrev Begins : List ℕ → Text → Type 0
  Begins kinds t = begins (λ c. has ◌==◌ (kind c) kinds) t ≡ true

  word_first : (t : Text) (kinds : List ℕ) → has ◌==◌ 95 kinds ≡ true → begins begins_word t ≡ true → Begins kinds t
  word_first [] kinds e h = absurd (true≢false (sym h))
  word_first (c ∷ t) kinds e h = ap (λ k. has ◌==◌ k kinds) (word_kind c h) ∙ e

  literal_first : (c : ℕ) (w t u : Text) (kinds : List ℕ) → has ◌==◌ (kind c) kinds ≡ true → literal (c ∷ w) t u → Begins kinds t
  literal_first c w t u kinds e a = ap (begins (λ c. has ◌==◌ (kind c) kinds)) a ∙ e

  same_self : (c : ℕ) → (c == c) ≡ true
  same_self c = grind (arith, nat_tests)

  attribute_first : (a : Attribute A) (t u : Text) → reads.attribute L a t u → begins begins_word t ≡ true
  attribute_first a t u r = go (begins begins_word t) refl
    where
      go : (b : Bool) → begins begins_word t ≡ b → begins begins_word t ≡ true
      go true e = e
      go false e = absurd (attribute_begins L owns a t u r e)

  piece_first : (p : Piece P T A) (t u : Text) → IsSpellable p → reads.piece L p t u
      → ((listed (directive_of_piece p) ≡ true) × (u ≡ t)) ⊎ Begins (first (directive_of_piece p)) t
  piece_first (tree.word []) t u e a = absurd (true≢false (sym e))
  piece_first (tree.word (c ∷ s)) t u e a = inr (literal_first c s t u (kind c ∷ []) (or_left (kind c == kind c) false (same_self (kind c))) a)
  piece_first (tree.operand i n) t u e a = inr (word_first t (codes "_") refl a.1.0)
  piece_first (tree.operands []) t u e a = inl (refl, a.1)
  piece_first (tree.operands (n ∷ ns)) t u e (m, a, b) = inr (word_first t (codes "_") refl a.1.0)
  piece_first (tree.successor i n) t u e a = inr (literal_first 94 [] t a.0 (codes "^") refl a.1)
  piece_first (tree.successors []) t u e a = inl (refl, a.1)
  piece_first (tree.successors (n ∷ ns)) t u e (m, a, b) = inr (literal_first 94 [] t a.0 (codes "^") refl a.1)
  piece_first (tree.attribute k None) t u e a = inr (literal_first 33 (codes "outlined") t u (codes "_!") refl a)
  piece_first (tree.attribute k (Some x)) t u e a = inr (word_first t (codes "_!") refl (attribute_first x t u a))
  piece_first (tree.dictionary es) t u e a = inr (literal_first 91 [] t a.0 (codes "[") refl a.1)
  piece_first (tree.result_type i x) t u e a = inr (word_first t (codes "_") refl (type_first x t u a))
    where
      type_first : (x : T) (t u : Text) → reads.type L x t u → begins begins_word t ≡ true
      type_first x t u r = go (begins begins_word t) refl
        where
          go : (b : Bool) → begins begins_word t ≡ b → begins begins_word t ≡ true
          go true e = e
          go false e = let f : L.types.outcome t ≡ missing = types.misses t e in let g : found x u ≡ missing = sym r ∙ f in cc g
  piece_first (tree.header n) t u e a = inr (literal_first 64 [] t a.1.0 (codes "@") refl a.1.1)
  piece_first (tree.types xs) t u e a = absurd e

  -- ends
  pub ends_parts : (ps : List (Part P T A)) (ss : List Text) (f : Text) → Ends f → Ends (spell.parts L ps ss ++ f)
  ends_parts [] ss f h = h
  ends_parts (tree.piece (tree.word []) ∷ ps) ss f h = inr refl
  ends_parts (tree.piece (tree.word (c ∷ s)) ∷ ps) ss f h = go (joins_left c) refl
    where
      go : (b : Bool) → joins_left c ≡ b → Ends ((cond b [] (codes " ") ++ (c ∷ (s ++ spell.parts L ps ss))) ++ f)
      go true e = inr (hugs_follow c e)
      go false e = inr refl
  ends_parts (tree.piece p ∷ ps) ss f h = inr refl
  ends_parts (tree.region i ∷ ps) [] f h = ends_parts ps [] f h
  ends_parts (tree.region i ∷ ps) (s ∷ ss) f h = inr refl
  ends_parts (tree.regions ∷ ps) ss f h = inr refl

  -- white space before parts is skipped
  pub unwhite : (ps : List (Part P T A)) (rs : List Reading) (m u : Text) → reads.parts L ps rs (after_space m) u → (v : Text) × reads.parts L ps rs m v × (after_space v ≡ after_space u)
  unwhite [] [] m u a = (m, refl, sym (after_twice is_whitespace m) ∙ ap after_space (sym a))
  unwhite [] (r ∷ rs) m u a = absurd a
  unwhite (tree.piece p ∷ ps) rs m u a = (u, subst (λ s. (reads.piece L p ▸ reads.parts L ps rs) s u) (after_twice is_whitespace m) a, refl)
  unwhite (tree.region i ∷ ps) [] m u a = absurd a
  unwhite (tree.region i ∷ ps) (r ∷ rs) m u a = (u, subst (λ s. (r ▸ reads.parts L ps rs) s u) (after_twice is_whitespace m) a, refl)
  unwhite (tree.regions ∷ ps) rs m u a = (u, subst (λ s. (repeated (the 123) rs ▸ reads.parts L ps []) s u) (after_twice is_whitespace m) a, refl)

  -- a part is parsed, and then the parts after it
  pub reaches_part : {R : Reading} {t g f : Text} (ps : List (Part P T A)) (rs : List Reading) → Reaches R t g → Reaches (reads.parts L ps rs) g f → Reaches (white (R ▸ reads.parts L ps rs)) t f
  reaches_part {R} {t} ps rs r s =
      let a = unwhite ps rs r.left s.left (subst (λ w. reads.parts L ps rs w s.left) (sym r.same) s.reading) in
      record { left = a.0; reading = (r.left, subst (λ w. R w r.left) (sym (after_twice is_whitespace t)) r.reading, a.1); same = a.2 ∙ s.same }

  oneof_left : (xs ys : List ℕ) (t : Text) → Begins xs t → OneOf (xs ++ ys) t
  oneof_left xs ys [] e = absurd (true≢false (sym e))
  oneof_left xs ys (c ∷ t) e = inr (has_left (kind c) xs ys e)

  -- a text that begins with one of some kinds begins with one of more kinds
  pub oneof_right : (xs ys : List ℕ) (t : Text) → OneOf ys t → OneOf (xs ++ ys) t
  oneof_right xs ys t (inl e) = inl e
  oneof_right xs ys [] (inr e) = absurd (true≢false (sym e))
  oneof_right xs ys (c ∷ t) (inr e) = inr (has_right (kind c) xs ys e)

  -- what the text begins with, if something is written here, or the text after it, if nothing is written
  oneof_after : (xs ys : List ℕ) (b : Bool) (t t' : Text) → (b ≡ true) × (t ≡ t') ⊎ Begins xs t → OneOf ys t' → OneOf (xs ++ cond b ys []) t
  oneof_after xs ys b t t' (inl (e, q)) o = oneof_right xs (cond b ys []) t (subst (λ b. OneOf (cond b ys []) t) (sym e) (subst (λ s. OneOf ys s) (sym q) o))
  oneof_after xs ys b t t' (inr e) o = oneof_left xs (cond b ys []) t e

  following : {R : Reading} {t g : Text} (xs ys : List ℕ) (b : Bool) (r : Reaches R t g) → (b ≡ true) × (r.left ≡ after_space t) ⊎ Begins xs (after_space t)
      → OneOf ys (after_space g) → OneOf (xs ++ cond b ys []) (after_space t)
  following {R} {t} {g} xs ys b r (inl (e, q)) o = oneof_after xs ys b (after_space t) (after_space g) (inl (e, sym (after_twice is_whitespace t) ∙ ap after_space (sym q) ∙ r.same)) o
  following {R} {t} {g} xs ys b r (inr e) o = oneof_after xs ys b (after_space t) (after_space g) (inr e) o

  follows : (p : Piece P T A) (f : Text) → Ends f → NoneOf (continuing p) (after_space f) → FollowsWell p f
  follows (tree.word s) f h e = tt
  follows _ f h e = (h, e)

  space_white : (p : Piece P T A) (x f : Text) → after_space ((spell.space L p ++ x) ++ f) ≡ after_space (x ++ f)
  space_white (tree.word s) x f = go (begins joins_left s)
    where
      go : (b : Bool) → after_space ((cond b [] (codes " ") ++ x) ++ f) ≡ after_space (x ++ f)
      go true = refl
      go false = refl
  space_white _ x f = refl

  module _ (width : ℕ) where
    -- the regions of an operation
    abbrev pub Inner : Type 0
    Inner = Regions (Op P T A) (Head P T A) (Brace P)

    -- each region is parsed back, whatever follows
    abbrev pub BackRegions : ℕ → Inner → Type 0
    BackRegions n no_regions = ⊤
    BackRegions n (region brace bs rs) = ((f : Text) → Reaches (reads.region_read L brace (reads.block_readings L bs)) (spell.region_text L width n brace (spell.block_texts L width (n + width) bs) ++ f) f) × BackRegions n rs

    back_joined : (n : ℕ) (rs : Inner) (f : Text) → BackRegions n rs → begins (the 123) (after_space f) ≡ false
        → Reaches (repeated (the 123) (reads.region_readings L rs)) (joined_from [] (spell.region_texts L width n rs) ++ f) f
    back_joined n no_regions f b e = reaches_ends (the 123) f e
    back_joined n (region brace bs rs) f b e =
        let x = spell.region_text L width n brace (spell.block_texts L width (n + width) bs) in
        let j = joined_from [] (spell.region_texts L width n rs) in
        reaches_then (reaches_from (ap after_space (append_assoc x j f)) (b.0 (j ++ f))) (back_joined n rs f b.1 e)

    joined_nothing : (ts : List Text) → joined [] ts ≡ joined_from [] ts
    joined_nothing [] = refl
    joined_nothing (t ∷ ts) = refl

    -- the regions of an operation are parsed back, before what begins no region
    pub back_regions : (n : ℕ) (rs : Inner) (f : Text) → BackRegions n rs → begins (the 123) (after_space f) ≡ false
        → Reaches (repeated (the 123) (reads.region_readings L rs)) (joined [] (spell.region_texts L width n rs) ++ f) f
    back_regions n rs f b e = reaches_from (ap (λ t. after_space (t ++ f)) (joined_nothing (spell.region_texts L width n rs))) (back_joined n rs f b e)

    -- a region's text begins with its brace
    region_first : (n : ℕ) (brace : Brace P) (ss : List Text) (f : Text) → Begins (codes "{") (after_space (spell.region_text L width n brace ss ++ f))
    region_first n elided ss f = refl
    region_first n (shown p) ss f =
        let k = newline (n + width) ++ (joined (10 ∷ newline (n + width)) ss ++ (newline n ++ codes "}")) in
        ap (begins (λ c. has ◌==◌ (kind c) (codes "{"))) (ap after_space (append_assoc (newline n) (123 ∷ k) f) ∙ newline_white n (123 ∷ (k ++ f)))

    -- the parts are parsed back, and their text begins with one of what can begin them
    pub record BackParts (last : List ℕ) (n : ℕ) (ps : List (Part P T A)) (rs : Inner) (f : Text) : Type 0 where
      pub thru : Reaches (reads.parts L ps (reads.region_readings L rs)) (spell.parts L ps (spell.region_texts L width n rs) ++ f) f
      pub begin : OneOf (starts last ps rs) (after_space (spell.parts L ps (spell.region_texts L width n rs) ++ f))

    -- the parts of a body are parsed back, each before the next
    pub back_parts : (last : List ℕ) (n : ℕ) (ps : List (Part P T A)) (rs : Inner) (f : Text) → Apart last ps rs
        → AreSpellable ps → Enough ps rs → BackRegions n rs → Ends f → OneOf last (after_space f) → BackParts last n ps rs f
    back_parts last n [] no_regions f c g en b h o = record { thru = record { left = after_space f; reading = refl; same = after_twice is_whitespace f }; begin = o }
    back_parts last n [] (region brace bs rs) f c g en b h o = absurd en
    back_parts last n (tree.piece p ∷ ps) rs f c g en b h o =
        let after_it = back_parts last n ps rs f c.1 g.1 en b h o in
        let texts = spell.region_texts L width n rs in
        let left = spell.parts L ps texts in
        let stops : NoneOf (continuing p) (after_space (left ++ f)) = apart_none (continuing p) (starts last ps rs) (after_space (left ++ f)) c.0 after_it.begin in
        let r : Reaches (reads.piece L p) ((spell.space L p ++ (spell.piece L p ++ left)) ++ f) (left ++ f) =
        reaches_from (space_white p (spell.piece L p ++ left) f ∙ ap after_space (append_assoc (spell.piece L p) left f)) (back_piece p (left ++ f) g.0 (follows p (left ++ f) (ends_parts ps texts f h) stops)) in
        let t = after_space ((spell.space L p ++ (spell.piece L p ++ left)) ++ f) in
        record {
          thru = reaches_part ps (reads.region_readings L rs) r after_it.thru;
          begin = following (first (directive_of_piece p)) (starts last ps rs) (listed (directive_of_piece p)) r (piece_first p t r.left g.0 r.reading) after_it.begin;
        }
    back_parts last n (tree.region i ∷ ps) no_regions f c g en b h o = absurd en
    back_parts last n (tree.region i ∷ ps) (region brace bs rs) f c g en b h o =
        let after_it = back_parts last n ps rs f c g en b.1 h o in
        let ss = spell.block_texts L width (n + width) bs in
        let x = spell.region_text L width n brace ss in
        let left = spell.parts L ps (spell.region_texts L width n rs) in
        let e = ap after_space (append_assoc x left f) in
        let r : Reaches (reads.region_read L brace (reads.block_readings L bs)) (32 ∷ ((x ++ left) ++ f)) (left ++ f) = reaches_from e (b.0 (left ++ f)) in
        record {
          thru = reaches_part ps (reads.region_readings L rs) r after_it.thru;
          begin = inr (ap (begins (λ c. has ◌==◌ (kind c) (codes "{"))) e ∙ region_first n brace ss (left ++ f));
        }
    back_parts last n (tree.regions ∷ ps) no_regions f c g en b h o =
        let after_it = back_parts last n ps no_regions f c.1 g en tt h o in
        let left = spell.parts L ps [] in
        let stops : begins (the 123) (after_space (left ++ f)) ≡ false = none_the (codes "{") 123 (after_space (left ++ f)) refl (apart_none (codes "{") (starts last ps no_regions) (after_space (left ++ f)) c.0 after_it.begin) in
        let r : Reaches (repeated (the 123) []) (32 ∷ (left ++ f)) (left ++ f) = reaches_from refl (reaches_ends (the 123) (left ++ f) stops) in
        record {
          thru = reaches_part ps [] r after_it.thru;
          begin = oneof_right (codes "{") (starts last ps no_regions) (after_space (left ++ f)) after_it.begin;
        }
    back_parts last n (tree.regions ∷ ps) (region brace bs rs) f c g en b h o =
        let after_it = back_parts last n ps no_regions f c.1 g en tt h o in
        let ss = spell.block_texts L width (n + width) bs in
        let x = spell.region_text L width n brace ss in
        let j = joined_from [] (spell.region_texts L width n rs) in
        let left = spell.parts L ps [] in
        let stops : begins (the 123) (after_space (left ++ f)) ≡ false = none_the (codes "{") 123 (after_space (left ++ f)) refl (apart_none (codes "{") (starts last ps no_regions) (after_space (left ++ f)) c.0 after_it.begin) in
        let r : Reaches (repeated (the 123) (reads.region_readings L (region brace bs rs))) (32 ∷ (((x ++ j) ++ left) ++ f)) (left ++ f) = reaches_from (ap after_space (append_assoc (x ++ j) left f)) (back_regions n (region brace bs rs) (left ++ f) b stops) in
        record {
          thru = reaches_part ps [] r after_it.thru;
          begin = inr (ap (begins (λ c. has ◌==◌ (kind c) (codes "{"))) (ap after_space (regroup_joined x j left f)) ∙ region_first n brace ss (j ++ (left ++ f)));
        }
