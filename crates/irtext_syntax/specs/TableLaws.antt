-- The law of a family whose texts begin with dotted words, from one row for each variant.
use Rattle.std.proofs.Common.{◌≡◌, ℕ, Bool, true, false, cond, Option, Some, None, List, [], ◌∷◌, ◌++◌, refl, sym, ◌∙◌, ap, ap₂, append_assoc, append-nil, arith, true≢false, codes}
use Rattle.std.proofs.lemmas.Bool.Decides.{nat_tests}
use Rattle.std.specs.Prelude.{◌&&◌, ◌||◌, ◌==◌}
use Rattle.std.specs.Char.{is_ascii}
use Rattle.std.specs.Cmp.Lexicographic.{bytes_decides}
use Rattle.std.specs.List.{list_all}
use Rattle.std.specs.Str.{bytes_eq, all_scalars}
use Rattle.irtext_base.specs.Text.{Text, begins, front, after, begins_word, in_dotted}
use Rattle.irtext_base.specs.Answers.{Outcome, Read, Missing, mapped}
use Rattle.irtext_base.specs.Faults.{Demand, Unexpected}
use Rattle.irtext_base.specs.Families.{is_one_of, BeginsWithWord}
use Rattle.irtext_base.specs.Own.{missing, verdict, texts_of, Ends, Lawful, Sincere, Unreserved}
use Rattle.irtext_base.specs.Stream.{first_of}
use Rattle.irtext_base.proofs.Along.{front_after}
use Rattle.irtext_base.proofs.Characters.{and_left, and_right, front_all, after_all}
use Rattle.irtext_base.proofs.Scalars.{scalars_more}
use Rattle.irtext_base.proofs.Sincere.{Of, of_read, of_here, of_missing, of_either, of_followed, of_mapped, of_sincere, sincere_of}
use Rattle.irtext_tokens.proofs.SincereTokens.{of_space}
use Rattle.irtext_tokens.specs.BeginningWords.{no_dotted}
use Rattle.irtext_tokens.specs.Infix.{Reader, nothing, ◌▷◌}
use Rattle.irtext_tokens.specs.Tokens.{space_at}
use Rattle.irtext_syntax.specs.PartLaws.{PartLaw, EndsAnywhere}
use Rattle.irtext_syntax.specs.PartSteps.{then_found, mapped_found, then_missing, spaced_found, ascii_scalars}
use Rattle.irtext_syntax.specs.Tables.{table_at, is_word_of, Row, IsRest}
use Rattle.irtext_syntax.specs.Words.{chosen, dotted_at}

-- ---- rows
-- a word and a part after a space
pub part_row : {W E P : Type 0} {choose : Text → Option W} {following : W → Reader E} {words : List Text} {written : E → Text} {reading : Reader P} {text_of : P → Text} {ends : Text → Bool} (word : Text) (kind : W) (make : P → E) (x : P)
    → PartLaw reading text_of ends → EndsAnywhere ends → written (make x) ≡ word ++ (32 ∷ text_of x) → is_word_of words word ≡ true → choose word ≡ Some kind → ((text : Text) → verdict (following kind text) ≡ verdict (mapped make ((space_at ▷ reading) text)))
    → Row choose following words written (make x)
part_row {following = following} {reading = reading} {text_of = text_of} word kind make x law last is listed picks reads = record {
  word = word;
  tail = 32 ∷ text_of x;
  kind = kind;
  is = is;
  listed = listed;
  chosen = picks;
  stops = λ rest e. refl;
  back = λ rest e. let k = law.back x rest (last.anywhere rest e) in
      let text = 32 ∷ (text_of x ++ rest) in
      (k.0, reads text ∙ mapped_found make ((space_at ▷ reading) text) x k.0 (spaced_found reading text x k.0 k.1), k.2);
  scalars = law.scalars x;
}

-- a word alone
pub word_row : {W E : Type 0} {choose : Text → Option W} {following : W → Reader E} {words : List Text} {written : E → Text} (word : Text) (kind : W) (x : E)
    → written x ≡ word → is_word_of words word ≡ true → choose word ≡ Some kind → ((text : Text) → following kind text ≡ Read x [] text) → Row choose following words written x
word_row word kind x is listed picks reads = record {
  word = word;
  tail = [];
  kind = kind;
  is = is ∙ sym (append-nil word);
  listed = listed;
  chosen = picks;
  stops = no_dotted;
  back = λ rest e. (rest, ap verdict (reads rest), refl);
  scalars = refl;
}

-- a word alone that is printed with a space after it
pub spaced_word_row : {W E : Type 0} {choose : Text → Option W} {following : W → Reader E} {words : List Text} {written : E → Text} (word : Text) (kind : W) (x : E)
    → written x ≡ word ++ (32 ∷ []) → is_word_of words word ≡ true → choose word ≡ Some kind → ((text : Text) → following kind text ≡ Read x [] text) → Row choose following words written x
spaced_word_row word kind x is listed picks reads = record {
  word = word;
  tail = 32 ∷ [];
  kind = kind;
  is = is;
  listed = listed;
  chosen = picks;
  stops = λ rest e. refl;
  back = λ rest e. (32 ∷ rest, ap verdict (reads (32 ∷ rest)), refl);
  scalars = refl;
}

-- ---- the law
begins_more : (test : ℕ → Bool) (s t : Text) → begins test s ≡ true → begins test (s ++ t) ≡ true
begins_more test [] t e = absurd (true≢false (sym e))
begins_more test (c ∷ s) t e = e

dotted_ascii : (c : ℕ) → in_dotted c ≡ true → is_ascii c ≡ true
dotted_ascii c e = grind (arith, nat_tests)

both : (a b : Bool) → a ≡ true → b ≡ true → (a && b) ≡ true
both true b e f = f
both false b e f = absurd (true≢false (sym e))

all_ascii : (s : Text) → list_all in_dotted s ≡ true → list_all is_ascii s ≡ true
all_ascii [] e = refl
all_ascii (c ∷ s) e = both (is_ascii c) (list_all is_ascii s) (dotted_ascii c (and_left (in_dotted c) (list_all in_dotted s) e)) (all_ascii s (and_right (in_dotted c) (list_all in_dotted s) e))

-- if no word begins the text, a dotted word is missing
missed : {X : Type 0} (b : Bool) (o : Outcome X) (cause : _) → b ≡ false → verdict (cond b o (Missing cause)) ≡ missing
missed b o cause e = rw e refl

of_chosen : {X : Type 0} (refusal taken rest text : Text) (o : Option X) → taken ++ rest ≡ text → Of text (chosen refusal taken rest o)
of_chosen refusal taken rest text (Some x) e = of_read text x taken rest e
of_chosen refusal taken rest text None e = of_here text _ refl

pub of_dotted : {X : Type 0} (w : Text → Option X) (refusal : Text) (demand : Demand) (text : Text) → Of text (dotted_at w refusal demand text)
of_dotted w refusal demand text = of_either text (begins begins_word text) _ _ (of_chosen refusal (front in_dotted text) (after in_dotted text) text (w (front in_dotted text)) (front_after in_dotted text)) (of_missing text _ refl)

module _ {W E : Type 0} {choose : Text → Option W} {following : W → Reader E} {words : List Text} {written : E → Text} where
  -- the word of a value is the longest dotted front of its text
  leads : (x : E) → (r : Row choose following words written x) → (rest : Text) → Ends rest → front in_dotted (written x ++ rest) ≡ r.word
  leads x r rest e =
      ap (λ z. front in_dotted (z ++ rest)) r.is ∙ (ap (front in_dotted) (append_assoc r.word r.tail rest)
      ∙ front_all in_dotted r.word (r.tail ++ rest) (and_left (list_all in_dotted r.word) _ (and_right (begins begins_word r.word) _ r.listed)) (r.stops rest e))

  pub table_led : ((x : E) → Row choose following words written x) → BeginsWithWord words written
  table_led rows = record { leads = λ x rest e. ap (is_one_of words) (leads x (rows x) rest e) ∙ and_right (list_all in_dotted (rows x).word) _ (and_right (begins begins_word (rows x).word) _ (rows x).listed) }

module _ {W E : Type 0} (choose : Text → Option W) (following : W → Reader E) (words : List Text) (written : E → Text) (refusal : Text) (demand : Demand) where
  abbrev at : Reader E
  at = table_at choose following refusal demand

  dotted_read : (word rest : Text) (kind : W) → begins begins_word word ≡ true → list_all in_dotted word ≡ true → choose word ≡ Some kind → begins in_dotted rest ≡ false → dotted_at choose refusal demand (word ++ rest) ≡ Read kind word rest
  dotted_read word rest kind b d c s =
      ap (λ q. cond q (chosen refusal (front in_dotted (word ++ rest)) (after in_dotted (word ++ rest)) (choose (front in_dotted (word ++ rest)))) (Missing (Unexpected (first_of (word ++ rest)) demand))) (begins_more begins_word word rest b)
      ∙ (ap₂ (λ f a. chosen refusal f a (choose f)) (front_all in_dotted word rest d s) (after_all in_dotted word rest d s) ∙ ap (chosen refusal word rest) c)

  back : (x : E) (r : Row choose following words written x) (rest : Text) → Ends rest → IsRest at x (written x ++ rest) rest
  back x r rest e =
      let b = and_left (begins begins_word r.word) _ r.listed in
      let d = and_left (list_all in_dotted r.word) _ (and_right (begins begins_word r.word) _ r.listed) in
      let k = r.back rest e in
      let flat = ap (λ z. z ++ rest) r.is ∙ append_assoc r.word r.tail rest in
      let lead = dotted_read r.word (r.tail ++ rest) r.kind b d r.chosen (r.stops rest e) in
      (k.0, ap (λ z. verdict (at z)) flat ∙ then_found (dotted_at choose refusal demand (r.word ++ (r.tail ++ rest))) following r.kind x (r.tail ++ rest) k.0 (ap verdict lead) k.1, k.2)

  lawful : ((x : E) → Row choose following words written x) → Lawful E (texts_of at written)
  lawful rows = record {
    starts = λ x rest. let r = rows x in ap (λ z. begins begins_word (z ++ rest)) r.is ∙ (ap (begins begins_word) (append_assoc r.word r.tail rest) ∙ begins_more begins_word r.word (r.tail ++ rest) (and_left (begins begins_word r.word) _ r.listed));
    misses = λ text e. then_missing (dotted_at choose refusal demand text) following (missed (begins begins_word text) _ _ e);
    again = λ x rest e. back x (rows x) rest e;
    scalars = λ x. let r = rows x in
        ap all_scalars r.is ∙ scalars_more r.word r.tail (ascii_scalars r.word (all_ascii r.word (and_left (list_all in_dotted r.word) _ (and_right (begins begins_word r.word) _ r.listed)))) r.scalars;
  }

-- the whole family obeys the law, by one row for each variant
pub table_lawful : {W E : Type 0} {choose : Text → Option W} {following : W → Reader E} {words : List Text} {written : E → Text} (refusal : Text) (demand : Demand) → ((x : E) → Row choose following words written x) → Lawful E (texts_of (table_at choose following refusal demand) written)
table_lawful {choose = choose} {following = following} {words = words} {written = written} refusal demand rows = lawful choose following words written refusal demand rows

pub table_sincere : {W E : Type 0} {following : W → Reader E} (choose : Text → Option W) (refusal : Text) (demand : Demand) → ((w : W) → Sincere (following w)) → Sincere (table_at choose following refusal demand)
table_sincere {following = following} choose refusal demand s = sincere_of (table_at choose following refusal demand) (λ text. of_followed text _ _ (of_dotted choose refusal demand text) (λ w t. of_sincere (following w) (s w) t))

-- what comes after a word is about the text
pub part_sincere : {E P : Type 0} {reading : Reader P} {text_of : P → Text} {ends : Text → Bool} (make : P → E) → PartLaw reading text_of ends → Sincere (λ text. mapped make ((space_at ▷ reading) text))
part_sincere {reading = reading} make law = sincere_of _ (λ t. of_mapped t make ((space_at ▷ reading) t) (of_followed t (space_at t) (λ _ u. reading u) (of_space t) (λ _ u. of_sincere reading law.sincere u)))

pub word_sincere : {E : Type 0} (x : E) → Sincere (nothing x)
word_sincere x = sincere_of (nothing x) (λ t. of_read t x [] t refl)

-- ---- words that are reserved
-- the two texts differ at some character that both have
abbrev pub differ : Text → Text → Bool
differ [] t = false
differ (c ∷ s) [] = false
differ (c ∷ s) (d ∷ t) = cond (c == d) (differ s t) true

heads : (c d : ℕ) (s t : Text) → ◌≡◌ {A = Text} (c ∷ s) (d ∷ t) → (c ≡ d) × (s ≡ t)
heads c d s t e = (cc, cc)

not_equal : (c d : ℕ) → (c == d) ≡ false → c ≡ d → ⊥
not_equal c d q p = absurd (grind (arith, nat_tests))

apart_by : (b : Bool) (c d : ℕ) (rest : Bool) → (c == d) ≡ b → c ≡ d → cond b rest true ≡ true → (rest ≡ true → ⊥) → ⊥
apart_by true c d rest q p e k = k e
apart_by false c d rest q p e k = not_equal c d q p

differ_apart : (s t u v : Text) → differ s t ≡ true → s ++ u ≡ t ++ v → ⊥
differ_apart [] t u v e f = true≢false (sym e)
differ_apart (c ∷ s) [] u v e f = true≢false (sym e)
differ_apart (c ∷ s) (d ∷ t) u v e f =
    let h = heads c d (s ++ u) (t ++ v) f in
    apart_by (c == d) c d (differ s t) refl h.0 e (λ g. differ_apart s t u v g h.1)

-- none of the words can be taken for a reserved one
abbrev pub is_free : Text → Bool
is_free word = differ word (codes "builtin.given_names") && differ word (codes "builtin.identifier")

same_word : (word w : Text) → bytes_eq word w ≡ true → word ≡ w
same_word word w e = (bytes_decides word w).0 e

free_by : (b : Bool) (w word : Text) (others : Bool) → bytes_eq word w ≡ b → (b || others) ≡ true → is_free w ≡ true → (others ≡ true → is_free word ≡ true) → is_free word ≡ true
free_by true w word others q e f k = ap is_free (same_word word w q) ∙ f
free_by false w word others q e f k = k e

free_one : (words : List Text) (word : Text) → list_all is_free words ≡ true → is_one_of words word ≡ true → is_free word ≡ true
free_one [] word f e = absurd (true≢false (sym e))
free_one (w ∷ words) word f e =
    free_by (bytes_eq word w) w word (is_one_of words word) refl e (and_left (is_free w) (list_all is_free words) f) (λ g. free_one words word (and_right (is_free w) (list_all is_free words) f) g)

module _ {W E : Type 0} {choose : Text → Option W} {following : W → Reader E} {words : List Text} {written : E → Text} where
  free_row : (x : E) (r : Row choose following words written x) → list_all is_free words ≡ true → is_free r.word ≡ true
  free_row x r f = free_one words r.word f (and_right (list_all in_dotted r.word) _ (and_right (begins begins_word r.word) _ r.listed))

  whole_row : (x : E) (r : Row choose following words written x) (rest : Text) → r.word ++ (r.tail ++ rest) ≡ written x ++ rest
  whole_row x r rest = sym (ap (λ z. z ++ rest) r.is ∙ append_assoc r.word r.tail rest)

  pub table_unreserved : (reading : Reader E) → ((x : E) → Row choose following words written x) → list_all is_free words ≡ true → Unreserved E (texts_of reading written)
  table_unreserved reading rows f = record {
    given_names = λ x rest left k. let r = rows x in differ_apart r.word (codes "builtin.given_names") (r.tail ++ rest) left (and_left _ _ (free_row x r f)) (whole_row x r rest ∙ k.0);
    identifier = λ x rest left k. let r = rows x in differ_apart r.word (codes "builtin.identifier") (r.tail ++ rest) left (and_right _ _ (free_row x r f)) (whole_row x r rest ∙ k.0);
  }
