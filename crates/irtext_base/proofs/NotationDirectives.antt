-- What the parser of notations takes: each directive takes a character and has a notation. And how far the parser of directives has come.
use Rattle.std.proofs.Common.{◌≡◌, ℕ, ◌+◌, ◌^◌, ◌<◌, ◌≤◌, suc, zero, Bool, true, false, cond, ◌&&◌, ◌==◌, Result, Ok, Err, Option, Some, None, List, [], ◌∷◌, ◌++◌, length, refl, sym, ◌∙◌, ap, ap₂, subst, arith}
use Rattle.std.proofs.lemmas.Bool.Decides.{nat_tests}
use Rattle.std.proofs.lemmas.Str.{chars_from_encodes, encodes-chars}
use Rattle.std.specs.Prelude.{nat_lt, codes}
use Rattle.std.specs.Char.{is_ascii_digit, is_ascii_graphic, is_whitespace}
use Rattle.std.specs.List.{list_all}
use Rattle.std.specs.Result.{IsErrAnd}
use Rattle.std.specs.Str.{chars, IsUtf8, encode_utf8_all}
use Rattle.irtext_base.specs.Text.{Text, begins, front, after, after_space, begins_word, in_word, is_identifier}
use Rattle.irtext_base.specs.Stream.{StreamView, after_taken}
use Rattle.irtext_base.specs.Format.{Directive, canonical, custom, word, operand, operands, successor, successors, attribute, dictionary, result_type, region, regions, header}
use Rattle.irtext_stream.specs.NotationPieces.{Meaning, means, unmet, mapped, followed, is_end, past, led, index_of, index_at, closed_at, letters_after}
use Rattle.irtext_base.specs.Notation.{variable_at, filled, literal_at, directive_at, directives_after, canonical_at, format_at, notation_at, has_text}
use Rattle.irtext_stream.specs.NotationFaults.{whole, Faults, Reads, IsMemory}
use Rattle.irtext_stream.specs.declared.notation.fault.NotationPart.{NotationPart}
use Rattle.irtext_stream.specs.declared.notation.fault.NotationPart.TheVariants as part
use Rattle.irtext_stream.specs.declared.notation.fault.NotationFault.{NotationFault}
use Rattle.irtext_stream.specs.declared.notation.fault.NotationFault.TheVariants as fault
use Rattle.irtext_base.proofs.Characters.{and_left, and_right, in_word_small, begins_in}
use Rattle.irtext_stream.proofs.NotationSteps.{encodes-front, list_all-front, past_shorter, passed_front}

-- ---- keys
-- the word at the beginning of a text is its bytes
pub front_word : (text : Text) → encode_utf8_all (front in_word text) ≡ front in_word text
front_word = encodes-front in_word in_word_small

-- and an identifier
pub front_identifier : (text : Text) → begins begins_word text ≡ true → is_identifier (front in_word text) ≡ true
front_identifier [] e = absurd (cc)
front_identifier (c ∷ text) e = rw (begins_in c e) (rw e (list_all-front in_word text))

-- a key comes next
pub key_there : (old mid : StreamView) (key : Text) → begins begins_word old.rest ≡ true → mid.rest ≡ after in_word old.rest → key ≡ front in_word old.rest → variable_at old.rest ≡ means (attribute key) mid.rest
key_there old mid key b e k = rw b (ap₂ (λ x y. means (attribute x) y) (sym k) (sym e))

-- ---- what is taken

-- a value passes the test, and at most this many characters are left
abbrev pub Sound : {X : Type 0} → (X → Bool) → ℕ → Meaning X → Type 0
Sound test n (means x rest) = (test x ≡ true) × (length rest ≤ n)
Sound test n (unmet expected rest) = Unit {0}

sound_up : {X : Type 0} (test : X → Bool) (m n : ℕ) (o : Meaning X) → m ≤ n → Sound test m o → Sound test n o
sound_up test m n (means x rest) l h = (h.0, omega (arith, l, h.1))
sound_up test m n (unmet expected rest) l h = tt

sound_mapped : {X Y : Type 0} (test : X → Bool) (more : Y → Bool) (see : X → Y) (n : ℕ) (o : Meaning X) → ((x : X) → test x ≡ true → more (see x) ≡ true) → Sound test n o → Sound more n (mapped see o)
sound_mapped test more see n (means x rest) k h = (k x h.0, h.1)
sound_mapped test more see n (unmet expected rest) k h = tt

sound_led : {X : Type 0} (test : X → Bool) (n : ℕ) (s text : Text) (next : Text → Meaning X) (other : Meaning X) → 0 < length s → length text ≤ suc n → ((rest : Text) → Sound test (length rest) (next rest)) → Sound test n other → Sound test n (led (past s text) next other)
sound_led test n s text next other some l k h = go (past s text) (λ rest e. omega (arith, past_shorter s text rest e, some, l))
  where
    go : (o : Option Text) → ((rest : Text) → o ≡ Some rest → length rest ≤ n) → Sound test n (led o next other)
    go (Some rest) e = sound_up test (length rest) n (next rest) (e rest refl) (k rest)
    go None e = h

after_short : (test : ℕ → Bool) (text : Text) → length (after test text) ≤ length text
after_short test [] = omega arith
after_short test (c ∷ text) = go (test c) (after_short test text)
  where
    go : (b : Bool) → length (after test text) ≤ length text → length (cond b (after test text) (c ∷ text)) ≤ length (c ∷ text)
    go true l = omega (arith, l)
    go false l = omega arith

abbrev pub fits : ℕ → Bool
fits i = nat_lt i (2 ^ 64)

index_sound : (expected : NotationPart) (text : Text) → Sound fits (length text) (index_at expected text)
index_sound expected text = go (begins is_ascii_digit text) (fits (index_of text)) refl
  where
    go : (b d : Bool) → fits (index_of text) ≡ d → Sound fits (length text) (cond (b && d) (means (index_of text) (after is_ascii_digit text)) (unmet expected text))
    go true true e = (e, after_short is_ascii_digit text)
    go true false e = tt
    go false d e = tt

closed_sound : (s : Text) (expected : NotationPart) (text : Text) → Sound fits (length text) (closed_at s expected text)
closed_sound s expected text = go (index_at part.Index text) (index_sound part.Index text)
  where
    go : (o : Meaning ℕ) → Sound fits (length text) o → Sound fits (length text) (followed o (λ i rest. led (past s rest) (means i) (unmet expected rest)))
    go (means i rest) h = at (past s rest) (λ left e. past_shorter s rest left e)
      where
        at : (o : Option Text) → ((left : Text) → o ≡ Some left → length left + length s ≡ length rest) → Sound fits (length text) (led o (means i) (unmet expected rest))
        at (Some left) e = (h.0, omega (arith, h.1, e left refl))
        at None e = tt
    go (unmet p rest) h = tt

variable_sound : (text : Text) → Sound has_text (length text) (variable_at text)
variable_sound text = go (begins begins_word text) refl
  where
    go : (b : Bool) → begins begins_word text ≡ b → Sound has_text (length text) (cond b (means (attribute (front in_word text)) (after in_word text)) (mapped operand (index_at part.KeyOrIndex text)))
    go true e = (front_identifier text e, after_short in_word text)
    go false e = sound_mapped fits has_text operand (length text) (index_at part.KeyOrIndex text) (λ i h. h) (index_sound part.KeyOrIndex text)

pub both : (a b : Bool) → a ≡ true → b ≡ true → (a && b) ≡ true
both true b e f = f
both false b e f = absurd (cc)

pub all_more : {X : Type 0} (test : X → Bool) (xs : List X) (x : X) → list_all test xs ≡ true → test x ≡ true → list_all test (xs ++ x ∷ []) ≡ true
all_more test [] x h e = both (test x) true e refl
all_more test (y ∷ xs) x h e = both (test y) (list_all test (xs ++ x ∷ [])) (and_left (test y) (list_all test xs) h) (all_more test xs x (and_right (test y) (list_all test xs) h) e)

quote_graphic : (c : ℕ) → (c == 96) ≡ true → is_ascii_graphic c ≡ true
quote_graphic c e = grind (arith, nat_tests)

letters_sound : (found : Text) (marked : Bool) (text : Text) → list_all is_ascii_graphic found ≡ true → Sound (list_all is_ascii_graphic) (length text) (letters_after found marked text)
letters_sound found true [] h = (h, omega arith)
letters_sound found false [] h = tt
letters_sound found true (c ∷ text) h = go (c == 96) refl (λ e. letters_sound (found ++ c ∷ []) false text (all_more is_ascii_graphic found c h (quote_graphic c e)))
  where
    go : (b : Bool) → (c == 96) ≡ b → ((c == 96) ≡ true → Sound (list_all is_ascii_graphic) (length text) (letters_after (found ++ c ∷ []) false text)) → Sound (list_all is_ascii_graphic) (length (c ∷ text)) (cond b (letters_after (found ++ c ∷ []) false text) (means found (c ∷ text)))
    go true e more = sound_up (list_all is_ascii_graphic) (length text) (length (c ∷ text)) (letters_after (found ++ c ∷ []) false text) (omega arith) (more e)
    go false e more = (h, omega arith)
letters_sound found false (c ∷ text) h = go (c == 96) (is_ascii_graphic c) refl (letters_sound found true text h) (λ e. letters_sound (found ++ c ∷ []) false text (all_more is_ascii_graphic found c h e))
  where
    go : (b d : Bool) → is_ascii_graphic c ≡ d → Sound (list_all is_ascii_graphic) (length text) (letters_after found true text) → (is_ascii_graphic c ≡ true → Sound (list_all is_ascii_graphic) (length text) (letters_after (found ++ c ∷ []) false text))
        → Sound (list_all is_ascii_graphic) (length (c ∷ text)) (cond b (letters_after found true text) (cond d (letters_after (found ++ c ∷ []) false text) (unmet part.Backquote (c ∷ text))))
    go true d e l more = sound_up (list_all is_ascii_graphic) (length text) (length (c ∷ text)) (letters_after found true text) (omega arith) l
    go false true e l more = sound_up (list_all is_ascii_graphic) (length text) (length (c ∷ text)) (letters_after (found ++ c ∷ []) false text) (omega arith) (more e)
    go false false e l more = tt

literal_sound : (text : Text) → Sound has_text (length text) (literal_at text)
literal_sound text = go (letters_after [] false text) (letters_sound [] false text refl)
  where
    go : (o : Meaning Text) → Sound (list_all is_ascii_graphic) (length text) o → Sound has_text (length text) (followed o (filled text))
    go (means [] rest) h = tt
    go (means (c ∷ s) rest) h = let some : nat_lt 0 (length (c ∷ s)) ≡ true = grind (arith, nat_tests) in (both (nat_lt 0 (length (c ∷ s))) (list_all is_ascii_graphic (c ∷ s)) some h.0, h.1)
    go (unmet p rest) h = tt

-- a directive has a notation, and takes a character
directive_sound : (n : ℕ) (text : Text) → length text ≤ suc n → Sound has_text n (directive_at text)
directive_sound n text l =
    sound_led has_text n (codes "`") text literal_at _ (omega arith) l literal_sound
    (sound_led has_text n (codes "$") text variable_at _ (omega arith) l variable_sound
    (sound_led has_text n (codes "^") text (λ rest. mapped successor (index_at part.Index rest)) _ (omega arith) l (λ rest. sound_mapped fits has_text successor (length rest) (index_at part.Index rest) (λ i h. h) (index_sound part.Index rest))
    (sound_led has_text n (codes "{") text (λ rest. mapped region (closed_at (codes "}") part.Brace rest)) _ (omega arith) l (λ rest. sound_mapped fits has_text region (length rest) (closed_at (codes "}") part.Brace rest) (λ i h. h) (closed_sound (codes "}") part.Brace rest))
    (sound_led has_text n (codes "type($") text (λ rest. mapped result_type (closed_at (codes ")") part.Parenthesis rest)) _ (omega arith) l (λ rest. sound_mapped fits has_text result_type (length rest) (closed_at (codes ")") part.Parenthesis rest) (λ i h. h) (closed_sound (codes ")") part.Parenthesis rest))
    (sound_led has_text n (codes "@name") text (means header) _ (omega arith) l (λ rest. (refl, omega arith))
    (sound_led has_text n (codes "operands") text (means operands) _ (omega arith) l (λ rest. (refl, omega arith))
    (sound_led has_text n (codes "successors") text (means successors) _ (omega arith) l (λ rest. (refl, omega arith))
    (sound_led has_text n (codes "regions") text (means regions) _ (omega arith) l (λ rest. (refl, omega arith))
    (sound_led has_text n (codes "attr_dict") text (means dictionary) (unmet part.Directive text) (omega arith) l (λ rest. (refl, omega arith)) tt)))))))))

-- a directive that was found has a notation, and took a character
pub directive_found : (text : Text) (d : Directive) (rest : Text) → directive_at text ≡ means d rest → (has_text d ≡ true) × (length rest < length text)
directive_found [] d rest e = let h = subst (Sound has_text 0) e (directive_sound 0 [] (omega arith)) in absurd (cc)
directive_found (c ∷ text) d rest e = let h = subst (Sound has_text (length text)) e (directive_sound (length text) (c ∷ text) (omega arith)) in (h.0, omega (arith, h.1))

-- ---- the text of a literal
chars_none : (bytes : List ℕ) → IsUtf8 bytes → length bytes ≡ 0 → chars bytes ≡ []
chars_none [] u e = sym (chars_from_encodes [] [] u refl)
chars_none (c ∷ bytes) u e = absurd (omega (arith, e))

-- a literal without characters
pub literal_empty : (text rest : Text) (bytes : List ℕ) → IsUtf8 bytes → length bytes ≡ 0 → letters_after [] false text ≡ means (chars bytes) rest → literal_at text ≡ unmet part.Character text
literal_empty text rest bytes u e h = ap (λ m. followed m (filled text)) h ∙ ap (λ z. filled text z rest) (chars_none bytes u e)

-- a literal with some
pub literal_some : (text rest : Text) (bytes : List ℕ) → IsUtf8 bytes → (length bytes ≡ 0 → ⊥) → letters_after [] false text ≡ means (chars bytes) rest → literal_at text ≡ means (word (chars bytes)) rest
literal_some text rest bytes u n h = ap (λ m. followed m (filled text)) h ∙ go (chars bytes) (encodes-chars bytes u)
  where
    go : (s : Text) → encode_utf8_all s ≡ bytes → filled text s rest ≡ means (word s) rest
    go [] e = absurd (n (ap length (sym e)))
    go (c ∷ s) e = refl

-- what a part lacks, the whole lacks
pub faults_followed : {X Y : Type 0} (text : Text) (m : Meaning X) (next : X → Text → Meaning Y) (e : NotationFault) → Faults text m e → Faults text (followed m next) e
faults_followed text m next (fault.Unexpected at expected) h = (h.0, ap (λ z. followed z next) h.1, h.2)
faults_followed text m next (fault.Memory e) h = tt

-- an allocation that was refused
pub refused : {X Y : Type 0} (see : Y → X) (text : Text) (m : Meaning X) (new : StreamView) (r : Result Y NotationFault) → IsErrAnd r IsMemory → Reads see text m r new
refused see text m new (Ok y) h = absurd h
refused see text m new (Err (fault.Unexpected at expected)) h = absurd h
refused see text m new (Err (fault.Memory e)) h = tt

-- ---- directives
-- the directives found so far, with a bound on how many come
pub record Listed (start : Text) (text : Text) (found : List Directive) (now : StreamView) : Type 0 where
  pub bound : ℕ
  pub enough : length now.rest ≤ bound
  pub left : directives_after (length start) [] start ≡ directives_after bound found now.rest
  pub same : whole now ≡ text

-- the definition's step where a directive comes
pub directives_step : (n : ℕ) (found : List Directive) (text : Text) → is_end text ≡ false → length text ≤ n → (m : ℕ) × (n ≡ suc m) × (directives_after n found text ≡ followed (directive_at text) (λ d rest. directives_after m (found ++ d ∷ []) (after_space rest)))
directives_step n found [] e l = absurd (cc)
directives_step zero found (c ∷ text) e l = absurd (omega (arith, l))
directives_step (suc n) found (c ∷ text) e l = (n, refl, refl)

module _ {start text : Text} {found : List Directive} {now : StreamView} (s : Listed start text found now) where
  -- the next directive is wrong
  pub listed_faults : (e : NotationFault) → is_end now.rest ≡ false → Faults (whole now) (directive_at now.rest) e → Faults text (directives_after (length start) [] start) e
  listed_faults e some h =
      let k = directives_step s.bound found now.rest some s.enough in
      let f = faults_followed (whole now) (directive_at now.rest) (λ d rest. directives_after k.0 (found ++ d ∷ []) (after_space rest)) e h in
      subst (λ z. Faults z (directives_after (length start) [] start) e) s.same (subst (λ m. Faults (whole now) m e) (sym (s.left ∙ k.2)) f)

  -- the next directive was found, and the white space after it
  pub listed_more : (d : Directive) (mid next : StreamView) → is_end now.rest ≡ false → directive_at now.rest ≡ means d mid.rest → whole mid ≡ whole now → next ≡ after_taken mid (front is_whitespace mid.rest) (after is_whitespace mid.rest) → Listed start text (found ++ d ∷ []) next
  listed_more d mid next some h w n =
      let k = directives_step s.bound found now.rest some s.enough in
      let p = passed_front is_whitespace mid next n in
      record {
        bound = k.0;
        enough = omega (arith, s.enough, k.1, (directive_found now.rest d mid.rest h).1, after_short is_whitespace mid.rest, ap length p.0);
        left = s.left ∙ (k.2 ∙ (ap (λ m. followed m (λ d rest. directives_after k.0 (found ++ d ∷ []) (after_space rest))) h ∙ ap (directives_after k.0 (found ++ d ∷ [])) (sym p.0)));
        same = p.1 ∙ (w ∙ s.same);
      }

  -- nothing is left
  pub listed_done : is_end now.rest ≡ true → (directives_after (length start) [] start ≡ means (custom found) now.rest) × (whole now ≡ text)
  listed_done e = (s.left ∙ go now.rest e, s.same)
    where
      go : (rest : Text) → is_end rest ≡ true → directives_after s.bound found rest ≡ means (custom found) rest
      go [] e = refl
      go (c ∷ rest) e = absurd (cc)

-- less is left after a directive
pub listed_shorter : (d : Directive) (now mid next : StreamView) → directive_at now.rest ≡ means d mid.rest → next ≡ after_taken mid (front is_whitespace mid.rest) (after is_whitespace mid.rest) → length next.rest < length now.rest
listed_shorter d now mid next h n = omega (arith, (directive_found now.rest d mid.rest h).1, after_short is_whitespace mid.rest, ap (λ v. length v.rest) n)

-- the start
pub listed_start : (now : StreamView) → Listed now.rest (whole now) [] now
listed_start now = record { bound = length now.rest; enough = omega arith; left = refl; same = refl }

-- ---- formats
-- what a meaning lacks, the same one lacks
pub faults_as : {X : Type 0} (t u : Text) (m n : Meaning X) (e : NotationFault) → n ≡ m → t ≡ u → Faults t m e → Faults u n e
faults_as t u m n e q w h = subst (λ z. Faults z n e) w (subst (λ z. Faults t z e) (sym q) h)

module _ (old mid now : StreamView) (begun : mid ≡ after_taken old (front is_whitespace old.rest) (after is_whitespace old.rest)) where
  -- directives come
  pub format_listed : past (codes "canonical") mid.rest ≡ None → now ≡ mid → (notation_at old.rest ≡ directives_after (length now.rest) [] now.rest) × (whole now ≡ whole old)
  format_listed e n =
      let p = passed_front is_whitespace old mid begun in (
        ap format_at (sym p.0) ∙ (ap (λ o. led o (λ rest. canonical_at (after_space rest)) (directives_after (length mid.rest) [] mid.rest)) e ∙ ap (λ v. directives_after (length v.rest) [] v.rest) (sym n)),
        ap whole n ∙ p.1,
      )

  -- the canonical form comes
  pub format_canonical : (end : StreamView) → past (codes "canonical") mid.rest ≡ Some now.rest → whole now ≡ whole mid → end ≡ after_taken now (front is_whitespace now.rest) (after is_whitespace now.rest) → (notation_at old.rest ≡ canonical_at end.rest) × (whole end ≡ whole old)
  format_canonical end e w n =
      let p = passed_front is_whitespace old mid begun in
      let q = passed_front is_whitespace now end n in (
        ap format_at (sym p.0) ∙ (ap (λ o. led o (λ rest. canonical_at (after_space rest)) (directives_after (length mid.rest) [] mid.rest)) e ∙ ap canonical_at (sym q.0)),
        q.1 ∙ (w ∙ p.1),
      )

-- the text ends there, or not
pub canonical_ends : (text : Text) → is_end text ≡ true → canonical_at text ≡ means canonical text
canonical_ends text e = ap (λ b. cond b (means canonical text) (unmet part.End text)) e

pub canonical_goes_on : (text : Text) → is_end text ≡ false → canonical_at text ≡ unmet part.End text
canonical_goes_on text e = ap (λ b. cond b (means canonical text) (unmet part.End text)) e
