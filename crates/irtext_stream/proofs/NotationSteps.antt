-- Steps of the parser of notations.
use Rattle.std.proofs.Common.{◌≡◌, ℕ, ◌<◌, ◌^◌, ◌+◌, Bool, true, false, cond, ◌&&◌, ◌==◌, Result, Ok, Err, Option, Some, None, List, [], ◌∷◌, ◌++◌, length, refl, sym, ◌∙◌, ap, ap₂, subst, arith, append_assoc, append-nil, MatchBool}
use Rattle.std.proofs.lemmas.Bool.Decides.{nat_tests}
use Rattle.std.proofs.lemmas.Result.{err_from_is_err_and}
use Rattle.std.proofs.lemmas.Str.{encode_ascii, encodes-append, chars_from_encodes}
use Rattle.std.proofs.lemmas.Str.Parse.{numerals_by_value, tells_all_ascii_digits, parse_digits}
use Rattle.std.specs.Prelude.{nat_lt, codes}
use Rattle.std.specs.Str.{chars, IsUtf8, encode_utf8_all}
use Rattle.std.specs.Str.Parse.{ParsesUnsigned}
use Rattle.std.specs.Result.{OkIff, IsErrAnd}
use Rattle.std.specs.Char.{is_ascii, is_ascii_digit, is_ascii_graphic, encode_utf8}
use Rattle.std.specs.List.{list_all}
use Rattle.irtext_stream.specs.Text.{BeginsOtherwise}
use Rattle.irtext_stream.specs.Text.{Text, begins, front, after}
use Rattle.irtext_stream.specs.Stream.{StreamView, after_taken, first_of, advanced, advanced_by}
use Rattle.irtext_stream.specs.Stream.{Comes}
use Rattle.irtext_stream.specs.Places.{IsPlaceAfter, AtPlace, SincePlace}
use Rattle.irtext_stream.specs.declared.position.Place.{Place}
use Rattle.irtext_stream.proofs.Slices.{front_after}
use Rattle.irtext_stream.specs.NotationPieces.{characters, Meaning, means, unmet, past, index_of, index_at, letters_after}
use Rattle.irtext_stream.specs.declared.notation.fault.NotationPart.TheVariants as part
use Rattle.irtext_stream.specs.NotationFaults.{whole, Reads, Faults, IsUnmet, IsNoLetter, TakesLetter}
use Rattle.irtext_stream.specs.declared.notation.fault.NotationPart.{NotationPart}
use Rattle.irtext_stream.specs.declared.notation.fault.NotationFault.{NotationFault}
use Rattle.irtext_stream.specs.declared.notation.fault.NotationFault.TheVariants as fault
use Rattle.irtext_stream.proofs.Ascii.{and_left, and_right}

-- ---- fixed texts
is_ascii_lt : (c : ℕ) → is_ascii c ≡ true → c < 128
is_ascii_lt c e = grind (arith, nat_tests)

pub encodes-ascii : (bytes : List ℕ) → list_all is_ascii bytes ≡ true → encode_utf8_all bytes ≡ bytes
encodes-ascii [] e = refl
encodes-ascii (c ∷ bytes) e =
    rw (encode_ascii c (is_ascii_lt c (and_left (is_ascii c) (list_all is_ascii bytes) e))) (ap (λ z. c ∷ z) (encodes-ascii bytes (and_right (is_ascii c) (list_all is_ascii bytes) e)))

pub chars_is : (bytes : List ℕ) → IsUtf8 bytes → chars bytes ≡ characters bytes
chars_is bytes u =
    elim (list_all is_ascii bytes) as (λ b. list_all is_ascii bytes ≡ b → chars bytes ≡ cond b bytes (chars bytes)) [
      | true ↦ (λ e. sym (chars_from_encodes bytes bytes u (encodes-ascii bytes e)))
      | false ↦ (λ e. refl)
    ] refl

same : (c : ℕ) → (c == c) ≡ true
same c = grind (arith, nat_tests)

same_is : (c d : ℕ) → (c == d) ≡ true → d ≡ c
same_is c d e = grind (arith, nat_tests)

pub past_comes : (word rest : Text) → past word (word ++ rest) ≡ Some rest
past_comes [] rest = refl
past_comes (c ∷ word) rest = rw (same c) (past_comes word rest)

past_otherwise : (word text : Text) → BeginsOtherwise word text → past word text ≡ None
past_otherwise [] text h = absurd (h text refl)
past_otherwise (c ∷ word) [] h = refl
past_otherwise (c ∷ word) (d ∷ text) h = go (c == d) refl (past_otherwise word text)
  where
    go : (b : Bool) → (c == d) ≡ b → (BeginsOtherwise word text → past word text ≡ None) → ◌≡◌ {A = Option Text} (cond b (past word text) None) None
    go true e more = more (λ rest q. h rest (ap₂ (λ x y. x ∷ y) (same_is c d e) q))
    go false e more = refl

-- a word that comes next is consumed, and one that does not leaves the stream unchanged
pub past_is : (word : List ℕ) (r : Bool) (old new : StreamView) → IsUtf8 word → MatchBool r (Comes (chars word) old (λ v. new ≡ v)) (BeginsOtherwise (chars word) old.rest × (new ≡ old))
    → MatchBool r ((past (characters word) old.rest ≡ Some new.rest) × (whole new ≡ whole old)) ((past (characters word) old.rest ≡ None) × (new ≡ old))
past_is word true old new u h = (
  ap (past (characters word)) h.1 ∙ (subst (λ z. past z (chars word ++ h.0) ≡ Some h.0) (chars_is word u) (past_comes (chars word) h.0) ∙ ap (λ v. Some v.rest) (sym h.2)),
  ap whole h.2 ∙ (append_assoc old.passed (chars word) h.0 ∙ ap (λ z. old.passed ++ z) (sym h.1)),
)
past_is word false old new u h = (subst (λ z. past z old.rest ≡ None) (chars_is word u) (past_otherwise (chars word) old.rest h.0), h.1)

-- ---- fronts of ASCII characters
pub encodes-front : (p : ℕ → Bool) → ((c : ℕ) → p c ≡ true → c < 128) → (text : Text) → encode_utf8_all (front p text) ≡ front p text
encodes-front p h [] = refl
encodes-front p h (c ∷ text) =
    elim (p c) as (λ b. p c ≡ b → encode_utf8_all (cond b (c ∷ front p text) []) ≡ cond b (c ∷ front p text) []) [
      | true ↦ (λ e. rw (encode_ascii c (h c e)) (ap (λ z. c ∷ z) (encodes-front p h text)))
      | false ↦ (λ e. refl)
    ] refl

pub list_all-front : (p : ℕ → Bool) (text : Text) → list_all p (front p text) ≡ true
list_all-front p [] = refl
list_all-front p (c ∷ text) =
    elim (p c) as (λ b. p c ≡ b → list_all p (cond b (c ∷ front p text) []) ≡ true) [
      | true ↦ (λ e. rw e (list_all-front p text))
      | false ↦ (λ e. refl)
    ] refl

-- ---- errors
-- the error says what the meaning lacks
pub unmet_so : {X : Type 0} (text rest : Text) (expected : NotationPart) (m : Meaning X) (e : NotationFault) → m ≡ unmet expected rest → IsUnmet text expected rest e → Faults text m e
unmet_so text rest expected m (fault.Unexpected at part) q h = (rest, q ∙ ap (λ z. unmet z rest) (sym h.0), h.1)
unmet_so text rest expected m (fault.Memory e) q h = absurd h

-- ---- indices
digit_small : (c : ℕ) → is_ascii_digit c ≡ true → c < 128
digit_small c e = grind (arith, nat_tests)

front_digits : (text : Text) → encode_utf8_all (front is_ascii_digit text) ≡ front is_ascii_digit text
front_digits = encodes-front is_ascii_digit digit_small

-- the digits that come next are parsed as the number that they denote, if there are any and it fits
digits_parsed : {E : Type 0} (text bytes : Text) (r : Result ℕ E) → bytes ≡ encode_utf8_all (front is_ascii_digit text) → ParsesUnsigned 64 10 bytes r → OkIff r ((0 < length (front is_ascii_digit text)) × (index_of text < 2 ^ 64)) (index_of text)
digits_parsed text bytes r e h =
    let digits = front is_ascii_digit text in
    parse_digits (numerals_by_value (λ ds. list_all is_ascii_digit ds ≡ true) tells_all_ascii_digits) 64 digits r (subst (λ z. ParsesUnsigned 64 10 z r) (e ∙ front_digits text) h) (list_all-front is_ascii_digit text)

some_digits : (text : Text) → 0 < length (front is_ascii_digit text) → begins is_ascii_digit text ≡ true
some_digits [] l = absurd (omega (arith, l))
some_digits (c ∷ text) l =
    elim (is_ascii_digit c) as (λ b. 0 < length (cond b (c ∷ front is_ascii_digit text) []) → b ≡ true) [ true ↦ (λ l. refl) | false ↦ (λ l. absurd (omega (arith, l))) ] l

digits_some : (text : Text) → begins is_ascii_digit text ≡ true → 0 < length (front is_ascii_digit text)
digits_some [] e = absurd (cc)
digits_some (c ∷ text) e = rw e (omega arith)

pub index_there : (expected : NotationPart) (text : Text) → 0 < length (front is_ascii_digit text) → index_of text < 2 ^ 64 → index_at expected text ≡ means (index_of text) (after is_ascii_digit text)
index_there expected text l small =
    let e : nat_lt (index_of text) (2 ^ 64) ≡ true = grind (arith, nat_tests) in
    rw (some_digits text l, e) refl

no_index : (expected : NotationPart) (text : Text) → ((0 < length (front is_ascii_digit text)) × (index_of text < 2 ^ 64) → ⊥) → index_at expected text ≡ unmet expected text
no_index expected text h = go (begins is_ascii_digit text) (nat_lt (index_of text) (2 ^ 64)) refl refl
  where
    go : (b d : Bool) → begins is_ascii_digit text ≡ b → nat_lt (index_of text) (2 ^ 64) ≡ d → ◌≡◌ {A = Meaning ℕ} (cond (b && d) (means (index_of text) (after is_ascii_digit text)) (unmet expected text)) (unmet expected text)
    go true true e f = let small : index_of text < 2 ^ 64 = grind (arith, nat_tests) in absurd (h (digits_some text e, small))
    go true false e f = refl
    go false d e f = refl

-- the index was parsed from the digits that come next
pub index_ok : (E : Type 0) (expected : NotationPart) (old : StreamView) (bytes : List ℕ) (i : ℕ) → bytes ≡ encode_utf8_all (front is_ascii_digit old.rest) → ParsesUnsigned {E = E} 64 10 bytes (Ok i) → index_at expected old.rest ≡ means i (after is_ascii_digit old.rest)
index_ok E expected old bytes i e h =
    let k = digits_parsed {E = E} old.rest bytes (Ok i) e h in index_there expected old.rest k.0.0 k.0.1 ∙ ap (λ z. means z (after is_ascii_digit old.rest)) (sym k.1)

-- none was parsed
pub index_err : {E : Type 0} (expected : NotationPart) (old : StreamView) (bytes : List ℕ) (err : E) → bytes ≡ encode_utf8_all (front is_ascii_digit old.rest) → ParsesUnsigned 64 10 bytes (Err err) → index_at expected old.rest ≡ unmet expected old.rest
index_err expected old bytes err e h = no_index expected old.rest (digits_parsed old.rest bytes (Err err) e h)

-- ---- runs of characters of a class
-- what is left after a run, in the same text
pub passed_front : (test : ℕ → Bool) (old mid : StreamView) → mid ≡ after_taken old (front test old.rest) (after test old.rest) → (mid.rest ≡ after test old.rest) × (whole mid ≡ whole old)
passed_front test old mid e = (ap (λ v. v.rest) e, ap whole e ∙ (append_assoc old.passed (front test old.rest) (after test old.rest) ∙ ap (λ z. old.passed ++ z) (front_after test old.rest)))

-- the text since the place before the run is the run
pub since_is : (test : ℕ → Bool) (old mid : StreamView) (place : Place) (bytes : List ℕ) → mid ≡ after_taken old (front test old.rest) (after test old.rest) → IsPlaceAfter place old.passed → SincePlace place mid (λ passed taken. bytes ≡ encode_utf8_all taken) → bytes ≡ encode_utf8_all (front test old.rest)
since_is test old mid place bytes e p h = h old.passed (front test old.rest) (sym (ap (λ v. v.passed) e)) p

-- the error at the place where the parse began
pub unmet_back : {X : Type 0} (old mid : StreamView) (place : Place) (expected : NotationPart) (m : Meaning X) (e : NotationFault) → m ≡ unmet expected old.rest → whole mid ≡ whole old → IsPlaceAfter place old.passed → AtPlace place mid (λ passed rest. IsUnmet (whole mid) expected rest e) → Faults (whole old) m e
unmet_back old mid place expected m e q w p h = unmet_so (whole old) old.rest expected m e q (subst (λ z. IsUnmet z expected old.rest e) w (h old.passed old.rest (sym w) p))

-- ---- what a `?` returns
propagated : {T E : Type 0} {e : E} (r : Result T E) → IsErrAnd r (λ y. y ≡ e) → r ≡ Err e
propagated r h = let p = err_from_is_err_and r h in p.1 ∙ ap Err p.2

-- an error that is passed on
pub handed : {X Y : Type 0} (see : Y → X) (text : Text) (m : Meaning X) (new : StreamView) (r : Result Y NotationFault) (e : NotationFault) → IsErrAnd r (λ y. y ≡ e) → Faults text m e → Reads see text m r new
handed see text m new r e h f = subst (λ z. Reads see text m z new) (sym (propagated r h)) f

-- ---- literals
-- how far the parser of a literal has come
pub record Spelled (start : Text) (text : Text) (bytes : List ℕ) (now : StreamView) : Type 0 where
  pub found : Text
  pub bytes_are : bytes ≡ encode_utf8_all found
  pub left : letters_after [] false start ≡ letters_after found false now.rest
  pub same : whole now ≡ text

-- the next character
pub first_is : (text : Text) (c : ℕ) → Some c ≡ first_of text → (rest : Text) × (text ≡ c ∷ rest)
first_is [] c e = absurd (cc)
first_is (d ∷ text) c e = let q : d ≡ c = cc in (text, ap (λ z. z ∷ text) q)

-- the next character is passed
pub advances : (now next : StreamView) (c : ℕ) → Some c ≡ first_of now.rest → next ≡ advanced now → (now.rest ≡ c ∷ next.rest) × (whole next ≡ whole now)
advances now next c f n =
    let k = first_is now.rest c f in
    let q : next ≡ advanced_by now.passed (c ∷ k.0) now.failed = n ∙ ap (λ z. advanced_by now.passed z now.failed) k.1 in
    (k.1 ∙ ap (λ v. c ∷ v.rest) (sym q), ap whole q ∙ (append_assoc now.passed (c ∷ []) k.0 ∙ ap (λ z. now.passed ++ z) (sym k.1)))

encodes-more : (bytes more : List ℕ) (found : Text) (c : ℕ) → bytes ≡ encode_utf8_all found → more ≡ bytes ++ encode_utf8 c → more ≡ encode_utf8_all (found ++ c ∷ [])
encodes-more bytes more found c e m = m ∙ (ap (λ z. z ++ encode_utf8 c) e ∙ (ap (λ z. encode_utf8_all found ++ z) (sym (append-nil (encode_utf8 c))) ∙ sym (encodes-append found (c ∷ []))))

letters_more : (found rest : Text) (c : ℕ) → (c ≡ 96 → ⊥) → is_ascii_graphic c ≡ true → letters_after found false (c ∷ rest) ≡ letters_after (found ++ c ∷ []) false rest
letters_more found rest c n g = let e : (c == 96) ≡ false = grind (arith, nat_tests) in rw (e, g) refl

letters_marked : (found rest : Text) (c : ℕ) → c ≡ 96 → letters_after found false (c ∷ rest) ≡ letters_after found true rest
letters_marked found rest c q = let e : (c == 96) ≡ true = grind (arith, nat_tests) in rw e refl

letters_twice : (found rest left : Text) (c : ℕ) → c ≡ 96 → past (codes "`") rest ≡ Some left → letters_after found true rest ≡ letters_after (found ++ c ∷ []) false left
letters_twice found [] left c e p = absurd (cc)
letters_twice found (d ∷ rest) left c e p = go (96 == d) refl p
  where
    go : (b : Bool) → (96 == d) ≡ b → ◌≡◌ {A = Option Text} (cond b (Some rest) None) (Some left) → letters_after found true (d ∷ rest) ≡ letters_after (found ++ c ∷ []) false left
    go true f p =
        let q : d ≡ c = grind (arith, nat_tests) in
        let t : (d == 96) ≡ true = grind (arith, nat_tests) in
        let l : rest ≡ left = cc in
        rw t (ap₂ (λ x y. letters_after (found ++ x ∷ []) false y) q l)
    go false f p = absurd (cc)

letters_end : (found rest : Text) → past (codes "`") rest ≡ None → letters_after found true rest ≡ means found rest
letters_end found [] p = refl
letters_end found (d ∷ rest) p = go (96 == d) refl p
  where
    go : (b : Bool) → (96 == d) ≡ b → ◌≡◌ {A = Option Text} (cond b (Some rest) None) None → letters_after found true (d ∷ rest) ≡ means found (d ∷ rest)
    go true f p = absurd (cc)
    go false f p = let t : (d == 96) ≡ false = grind (arith, nat_tests) in rw t refl

letters_lack : (found rest : Text) → begins is_ascii_graphic rest ≡ false → letters_after found false rest ≡ unmet part.Backquote rest
letters_lack found [] e = refl
letters_lack found (c ∷ rest) e = let t : (c == 96) ≡ false = grind (arith, nat_tests) in rw (t, e) refl

module _ {start text : Text} {bytes : List ℕ} {now : StreamView} (s : Spelled start text bytes now) where
  -- a character was taken
  pub spelled_more : (more : List ℕ) (c : ℕ) (next : StreamView) → TakesLetter c now next → (c ≡ 96 → ⊥) → more ≡ bytes ++ encode_utf8 c → Spelled start text more next
  spelled_more more c next t n m = record {
    found = s.found ++ c ∷ [];
    bytes_are = encodes-more bytes more s.found c s.bytes_are m;
    left = s.left ∙ (ap (letters_after s.found false) t.0 ∙ letters_more s.found next.rest c n t.1);
    same = t.2 ∙ s.same;
  }

  marked : (c : ℕ) (mid : StreamView) → TakesLetter c now mid → c ≡ 96 → letters_after [] false start ≡ letters_after s.found true mid.rest
  marked c mid t e = s.left ∙ (ap (letters_after s.found false) t.0 ∙ letters_marked s.found mid.rest c e)

  -- a backquote and another one were taken
  pub spelled_twice : (more : List ℕ) (c : ℕ) (mid next : StreamView) → TakesLetter c now mid → c ≡ 96 → past (codes "`") mid.rest ≡ Some next.rest → whole next ≡ whole mid → more ≡ bytes ++ encode_utf8 c → Spelled start text more next
  spelled_twice more c mid next t e p w m = record {
    found = s.found ++ c ∷ [];
    bytes_are = encodes-more bytes more s.found c s.bytes_are m;
    left = marked c mid t e ∙ letters_twice s.found mid.rest next.rest c e p;
    same = w ∙ (t.2 ∙ s.same);
  }

  -- the last backquote was taken
  pub spelled_done : (c : ℕ) (mid next : StreamView) → IsUtf8 bytes → TakesLetter c now mid → c ≡ 96 → past (codes "`") mid.rest ≡ None → next ≡ mid → (letters_after [] false start ≡ means (chars bytes) next.rest) × (whole next ≡ text)
  spelled_done c mid next u t e p w = (
    marked c mid t e ∙ (letters_end s.found mid.rest p ∙ ap₂ means (chars_from_encodes s.found bytes u (sym s.bytes_are)) (ap (λ v. v.rest) (sym w))),
    ap whole w ∙ (t.2 ∙ s.same),
  )

  -- neither a character of a literal nor a backquote comes next
  pub spelled_unmet : (next : StreamView) (e : NotationFault) → IsNoLetter now next → IsUnmet (whole next) part.Backquote next.rest e → Faults text (letters_after [] false start) e
  spelled_unmet next e b h =
      unmet_so text now.rest part.Backquote (letters_after [] false start) e (s.left ∙ letters_lack s.found now.rest b.0) (subst (λ z. IsUnmet z part.Backquote now.rest e) s.same (subst (λ v. IsUnmet (whole v) part.Backquote v.rest e) b.1 h))

-- a word that is passed makes the text shorter
pub past_shorter : (word text rest : Text) → past word text ≡ Some rest → length rest + length word ≡ length text
past_shorter [] text rest p = let q : text ≡ rest = cc in omega (arith, ap length q)
past_shorter (c ∷ word) [] rest p = absurd (cc)
past_shorter (c ∷ word) (d ∷ text) rest p = go (c == d) p (past_shorter word text rest)
  where
    go : (b : Bool) → ◌≡◌ {A = Option Text} (cond b (past word text) None) (Some rest) → (past word text ≡ Some rest → length rest + length word ≡ length text) → length rest + length (c ∷ word) ≡ length (d ∷ text)
    go true p more = omega (arith, more p)
    go false p more = absurd (cc)
