-- The text of a format is parsed back to the same format, and what is parsed has a text.
use Rattle.std.proofs.Common.{◌≡◌, ℕ, ◌^◌, ◌<◌, ◌≤◌, suc, zero, Bool, true, false, cond, ◌==◌, Result, Ok, Err, Option, Some, None, List, [], ◌∷◌, ◌++◌, length, refl, sym, ◌∙◌, ap, ap₂, subst, arith, append_assoc, append-nil, length-append}
use Rattle.std.proofs.lemmas.Bool.Decides.{nat_tests}
use Rattle.std.proofs.lemmas.Fmt.{decimal_is_IsNumeral}
use Rattle.std.specs.Fmt.{decimal}
use Rattle.std.specs.Prelude.{nat_lt, codes, flat_map}
use Rattle.std.specs.Char.{is_ascii_digit, is_ascii_graphic, is_whitespace}
use Rattle.std.specs.List.{list_all}
use Rattle.irtext_base.specs.Text.{Text, begins, front, after, after_space, begins_word, in_word, is_identifier}
use Rattle.irtext_base.specs.Format.{Directive, Format, canonical, custom, word, operand, operands, successor, successors, attribute, dictionary, result_type, region, regions, header}
use Rattle.irtext_stream.specs.NotationPieces.{spelled, Meaning, means, unmet, mapped, followed, is_end, past, led, index_of, index_at, closed_at, letters_after}
use Rattle.irtext_base.specs.FormatViews.{format_of}
use Rattle.irtext_base.specs.Stream.{StreamView}
use Rattle.irtext_base.specs.declared.format.OpFormat.{OpFormat}
use Rattle.irtext_stream.specs.declared.notation.fault.NotationFault.{NotationFault}
use Rattle.irtext_stream.specs.NotationFaults.{whole, Reads}
use Rattle.irtext_base.specs.Notation.{Denotes, directive_text, notation_text, variable_at, filled, literal_at, directive_at, directives_after, canonical_at, format_at, notation_at, has_text, has_notation}
use Rattle.irtext_stream.specs.declared.notation.fault.NotationPart.{NotationPart}
use Rattle.irtext_stream.specs.declared.notation.fault.NotationPart.TheVariants as part
use Rattle.irtext_base.proofs.Characters.{and_left, and_right, front_all, after_all, identifier_every, identifier_begins}
use Rattle.irtext_base.proofs.Numbers.{digits_every}
use Rattle.irtext_stream.proofs.NotationSteps.{index_there}
use Rattle.irtext_base.proofs.NotationDirectives.{directive_found, directives_step, all_more, faults_as}

-- a text that is empty, or begins with a space
data Spaced : Text → Type 0 where
  none : Spaced []
  space : (text : Text) → Spaced (32 ∷ text)

spaced_word : (rest : Text) → Spaced rest → begins in_word rest ≡ false
spaced_word _ none = refl
spaced_word _ (space text) = refl

spaced_digit : (rest : Text) → Spaced rest → begins is_ascii_digit rest ≡ false
spaced_digit _ none = refl
spaced_digit _ (space text) = refl

-- an index is found again
index_back : (expected : NotationPart) (i : ℕ) (rest : Text) → nat_lt i (2 ^ 64) ≡ true → begins is_ascii_digit rest ≡ false → index_at expected (decimal i ++ rest) ≡ means i rest
index_back expected i rest e h =
    let small : i < 2 ^ 64 = grind (arith, nat_tests) in
    let k = decimal_is_IsNumeral i small in
    let every = digits_every (decimal i) k.0.1 in
    let f : front is_ascii_digit (decimal i ++ rest) ≡ decimal i = front_all is_ascii_digit (decimal i) rest every h in
    let a : after is_ascii_digit (decimal i ++ rest) ≡ rest = after_all is_ascii_digit (decimal i) rest every h in
    let v : index_of (decimal i ++ rest) ≡ i = ap (Rattle.std.specs.Str.Parse.digits_value 10) f ∙ k.1 in
    let some : 0 < length (front is_ascii_digit (decimal i ++ rest)) = omega (arith, ap length f, k.0.0) in
    let fits : index_of (decimal i ++ rest) < 2 ^ 64 = omega (arith, v, small) in
    index_there expected (decimal i ++ rest) some fits ∙ ap₂ means v a

closed_back : (c : ℕ) (expected : NotationPart) (i : ℕ) (rest : Text) → nat_lt i (2 ^ 64) ≡ true → is_ascii_digit c ≡ false → closed_at (c ∷ []) expected ((decimal i ++ (c ∷ [])) ++ rest) ≡ means i rest
closed_back c expected i rest e d =
    let same : (c == c) ≡ true = grind (arith, nat_tests) in
    let q : index_at part.Index ((decimal i ++ (c ∷ [])) ++ rest) ≡ means i (c ∷ rest) = ap (index_at part.Index) (append_assoc (decimal i) (c ∷ []) rest) ∙ index_back part.Index i (c ∷ rest) e d in
    ap (λ m. followed m (λ i rest. led (past (c ∷ []) rest) (means i) (unmet expected rest))) q ∙ ap (λ b. led (cond b (Some rest) None) (means i) (unmet expected (c ∷ rest))) same

digit_no_word : (c : ℕ) → is_ascii_digit c ≡ true → begins_word c ≡ false
digit_no_word c e = grind (arith, nat_tests)

digits_no_word : (s rest : Text) → 0 < length s → list_all is_ascii_digit s ≡ true → begins begins_word (s ++ rest) ≡ false
digits_no_word [] rest l e = absurd (omega (arith, l))
digits_no_word (c ∷ s) rest l e = digit_no_word c (and_left (is_ascii_digit c) (list_all is_ascii_digit s) e)

operand_back : (i : ℕ) (rest : Text) → nat_lt i (2 ^ 64) ≡ true → begins is_ascii_digit rest ≡ false → variable_at (decimal i ++ rest) ≡ means (operand i) rest
operand_back i rest e h =
    let small : i < 2 ^ 64 = grind (arith, nat_tests) in
    let k = decimal_is_IsNumeral i small in
    let b : begins begins_word (decimal i ++ rest) ≡ false = digits_no_word (decimal i) rest k.0.0 (digits_every (decimal i) k.0.1) in
    ap (λ b. cond b (means (attribute (front in_word (decimal i ++ rest))) (after in_word (decimal i ++ rest))) (mapped operand (index_at part.KeyOrIndex (decimal i ++ rest)))) b ∙ ap (mapped operand) (index_back part.KeyOrIndex i rest e h)

key_back : (k rest : Text) → is_identifier k ≡ true → begins in_word rest ≡ false → variable_at (k ++ rest) ≡ means (attribute k) rest
key_back k rest e h =
    let every = identifier_every k e in
    ap (λ b. cond b (means (attribute (front in_word (k ++ rest))) (after in_word (k ++ rest))) (mapped operand (index_at part.KeyOrIndex (k ++ rest)))) (identifier_begins k rest e)
    ∙ ap₂ (λ x y. means (attribute x) y) (front_all in_word k rest every h) (after_all in_word k rest every h)

-- the characters of a literal, the backquote after them, and the text after it
abbrev closed_by : Text → Text → Text
closed_by s rest = (flat_map spelled s ++ codes "`") ++ rest

-- the characters of a literal are found again
letters_back : (found s rest : Text) → list_all is_ascii_graphic s ≡ true → Spaced rest → letters_after found false ((flat_map spelled s ++ codes "`") ++ rest) ≡ means (found ++ s) rest
letters_back found [] _ e none = ap (λ z. means z []) (sym (append-nil found))
letters_back found [] _ e (space text) = ap (λ z. means z (32 ∷ text)) (sym (append-nil found))
letters_back found (c ∷ s) rest e h = go (c == 96) refl (letters_back (found ++ c ∷ []) s rest (and_right (is_ascii_graphic c) (list_all is_ascii_graphic s) e) h)
  where
    g : is_ascii_graphic c ≡ true
    g = and_left (is_ascii_graphic c) (list_all is_ascii_graphic s) e

    whole_is : means ((found ++ c ∷ []) ++ s) rest ≡ means (found ++ c ∷ s) rest
    whole_is = ap (λ z. means z rest) (append_assoc found (c ∷ []) s)

    twice : (c == 96) ≡ true → letters_after found false (c ∷ c ∷ closed_by s rest) ≡ letters_after (found ++ c ∷ []) false (closed_by s rest)
    twice q = rw q refl

    once : (c == 96) ≡ false → letters_after found false (c ∷ closed_by s rest) ≡ letters_after (found ++ c ∷ []) false (closed_by s rest)
    once q = rw (q, g) refl

    go : (b : Bool) → (c == 96) ≡ b → letters_after (found ++ c ∷ []) false (closed_by s rest) ≡ means ((found ++ c ∷ []) ++ s) rest → letters_after found false (((cond b (c ∷ c ∷ []) (c ∷ []) ++ flat_map spelled s) ++ codes "`") ++ rest) ≡ means (found ++ c ∷ s) rest
    go true q more = twice q ∙ (more ∙ whole_is)
    go false q more = once q ∙ (more ∙ whole_is)

literal_back : (s rest : Text) → 0 < length s → list_all is_ascii_graphic s ≡ true → Spaced rest → literal_at ((flat_map spelled s ++ codes "`") ++ rest) ≡ means (word s) rest
literal_back s rest some e h = ap (λ m. followed m (filled ((flat_map spelled s ++ codes "`") ++ rest))) (letters_back [] s rest e h) ∙ go s some
  where
    go : (s : Text) → 0 < length s → filled ((flat_map spelled s ++ codes "`") ++ rest) s rest ≡ means (word s) rest
    go [] l = absurd (omega (arith, l))
    go (c ∷ s) l = refl

-- a directive is found again
directive_back : (d : Directive) (rest : Text) → has_text d ≡ true → Spaced rest → directive_at (directive_text d ++ rest) ≡ means d rest
directive_back (word s) rest e h =
    let some : 0 < length s = grind (arith, nat_tests, and_left (nat_lt 0 (length s)) (list_all is_ascii_graphic s) e) in
    literal_back s rest some (and_right (nat_lt 0 (length s)) (list_all is_ascii_graphic s) e) h
directive_back (operand i) rest e h = operand_back i rest e (spaced_digit rest h)
directive_back operands rest e h = refl
directive_back (successor i) rest e h = ap (mapped successor) (index_back part.Index i rest e (spaced_digit rest h))
directive_back successors rest e h = refl
directive_back (attribute k) rest e h = key_back k rest e (spaced_word rest h)
directive_back dictionary rest e h = refl
directive_back (result_type i) rest e h = ap (mapped result_type) (closed_back 41 part.Parenthesis i rest e refl)
directive_back (region i) rest e h = ap (mapped region) (closed_back 125 part.Brace i rest e refl)
directive_back regions rest e h = refl
directive_back header rest e h = refl

-- the text of a directive begins with no white space, and not as `canonical` does
record Opens (text : Text) : Type 0 where
  pub first : ℕ
  pub rest : Text
  pub is : text ≡ first ∷ rest
  pub tight : is_whitespace first ≡ false
  pub apart : (99 == first) ≡ false

opens : (d : Directive) → Opens (directive_text d)
opens (word s) = record { first = 96; rest = flat_map spelled s ++ codes "`"; is = refl; tight = refl; apart = refl }
opens (operand i) = record { first = 36; rest = decimal i; is = refl; tight = refl; apart = refl }
opens operands = record { first = 111; rest = codes "perands"; is = refl; tight = refl; apart = refl }
opens (successor i) = record { first = 94; rest = decimal i; is = refl; tight = refl; apart = refl }
opens successors = record { first = 115; rest = codes "uccessors"; is = refl; tight = refl; apart = refl }
opens (attribute k) = record { first = 36; rest = k; is = refl; tight = refl; apart = refl }
opens dictionary = record { first = 97; rest = codes "ttr_dict"; is = refl; tight = refl; apart = refl }
opens (result_type i) = record { first = 116; rest = codes "ype($" ++ (decimal i ++ codes ")"); is = refl; tight = refl; apart = refl }
opens (region i) = record { first = 123; rest = decimal i ++ codes "}"; is = refl; tight = refl; apart = refl }
opens regions = record { first = 114; rest = codes "egions"; is = refl; tight = refl; apart = refl }
opens header = record { first = 64; rest = codes "name"; is = refl; tight = refl; apart = refl }

-- the texts of the directives after the first
abbrev more_text : List Directive → Text
more_text ds = flat_map (λ d. codes " " ++ directive_text d) ds

spaced_more : (ds : List Directive) → Spaced (more_text ds)
spaced_more [] = none
spaced_more (d ∷ ds) = space (directive_text d ++ more_text ds)

module _ (d : Directive) (rest : Text) where
  abbrev whole_text : Text
  whole_text = directive_text d ++ rest

  begins_so : whole_text ≡ (opens d).first ∷ ((opens d).rest ++ rest)
  begins_so = ap (λ z. z ++ rest) (opens d).is

  no_end : is_end whole_text ≡ false
  no_end = ap is_end begins_so

  no_space : after_space whole_text ≡ whole_text
  no_space = ap after_space begins_so ∙ (ap (λ b. cond b (after is_whitespace ((opens d).rest ++ rest)) ((opens d).first ∷ ((opens d).rest ++ rest))) (opens d).tight ∙ sym begins_so)

  no_canonical : past (codes "canonical") whole_text ≡ None
  no_canonical = ap (past (codes "canonical")) begins_so ∙ ap (λ b. let o : Option Text = cond b (past (codes "anonical") ((opens d).rest ++ rest)) None in o) (opens d).apart

-- directives are found again
directives_back : (n : ℕ) (found : List Directive) (d : Directive) (ds : List Directive) → list_all has_text (d ∷ ds) ≡ true → length (directive_text d ++ more_text ds) ≤ n → directives_after n found (directive_text d ++ more_text ds) ≡ means (custom (found ++ d ∷ ds)) []
directives_back n found d [] e l =
    let k = directives_step n found (directive_text d ++ []) (no_end d []) l in
    k.2 ∙ ap (λ m. followed m (λ d rest. directives_after k.0 (found ++ d ∷ []) (after_space rest))) (directive_back d [] (and_left (has_text d) true e) none)
directives_back n found d (next ∷ ds) e l =
    let rest = more_text (next ∷ ds) in
    let k = directives_step n found (directive_text d ++ rest) (no_end d rest) l in
    let less : length (directive_text next ++ more_text ds) ≤ k.0 = omega (arith, l, k.1, length-append (directive_text d) rest) in
    k.2 ∙ (ap (λ m. followed m (λ d rest. directives_after k.0 (found ++ d ∷ []) (after_space rest))) (directive_back d rest (and_left (has_text d) (list_all has_text (next ∷ ds)) e) (spaced_more (next ∷ ds)))
    ∙ (ap (directives_after k.0 (found ++ d ∷ [])) (no_space next (more_text ds))
    ∙ (directives_back k.0 (found ++ d ∷ []) next ds (and_right (has_text d) (list_all has_text (next ∷ ds)) e) less ∙ ap (λ z. means (custom z) []) (append_assoc found (d ∷ []) (next ∷ ds)))))

-- a format is found again
pub notation_back : (f : Format) → has_notation f ≡ true → notation_at (notation_text f) ≡ means f []
notation_back canonical e = refl
notation_back (custom []) e = refl
notation_back (custom (d ∷ ds)) e =
    let t = directive_text d ++ more_text ds in
    ap format_at (no_space d (more_text ds)) ∙ (ap (λ o. led o (λ rest. canonical_at (after_space rest)) (directives_after (length t) [] t)) (no_canonical d (more_text ds)) ∙ directives_back (length t) [] d ds e (omega arith))

-- ---- what is parsed has a notation
abbrev Whole : Meaning Format → Type 0
Whole (means f rest) = (has_notation f ≡ true) × (rest ≡ [])
Whole (unmet expected rest) = Unit {0}

directives_whole : (n : ℕ) (found : List Directive) (text : Text) → list_all has_text found ≡ true → Whole (directives_after n found text)
directives_whole n found [] h = (h, refl)
directives_whole zero found (c ∷ text) h = tt
directives_whole (suc n) found (c ∷ text) h = go (directive_at (c ∷ text)) (λ d rest e. (directive_found (c ∷ text) d rest e).0) (λ d rest e. directives_whole n (found ++ d ∷ []) (after_space rest) (all_more has_text found d h e))
  where
    go : (o : Meaning Directive) → ((d : Directive) (rest : Text) → o ≡ means d rest → has_text d ≡ true) → ((d : Directive) (rest : Text) → has_text d ≡ true → Whole (directives_after n (found ++ d ∷ []) (after_space rest))) → Whole (followed o (λ d rest. directives_after n (found ++ d ∷ []) (after_space rest)))
    go (means d rest) ok more = more d rest (ok d rest refl)
    go (unmet expected rest) ok more = tt

format_whole : (text : Text) → Whole (format_at text)
format_whole text = go (past (codes "canonical") text)
  where
    canonical_whole : (text : Text) → Whole (canonical_at text)
    canonical_whole [] = (refl, refl)
    canonical_whole (c ∷ text) = tt

    go : (o : Option Text) → Whole (led o (λ rest. canonical_at (after_space rest)) (directives_after (length text) [] text))
    go (Some rest) = canonical_whole (after_space rest)
    go None = directives_whole (length text) [] text refl

-- the format that a text denotes has a notation, and nothing is left of the text
pub notation_whole : (text : Text) (f : Format) (rest : Text) → notation_at text ≡ means f rest → (has_notation f ≡ true) × (rest ≡ [])
notation_whole text f rest e = subst Whole e (format_whole (after_space text))

-- ---- the parser's result
-- what a stream at the beginning of the text gives
pub parsed : (text : Text) (start new : StreamView) (r : Result OpFormat NotationFault) → start ≡ record { passed = []; rest = text; failed = false } → Reads format_of (whole start) (notation_at start.rest) r new → Denotes text r
parsed text start new (Ok format) e h =
    let q = ap (λ v. notation_at v.rest) (sym e) ∙ h.0 in
    q ∙ ap (means (format_of format)) (notation_whole text (format_of format) new.rest q).1
parsed text start new (Err fault) e h = faults_as (whole start) text (notation_at start.rest) (notation_at text) fault (ap (λ v. notation_at v.rest) (sym e)) (ap whole e) h
