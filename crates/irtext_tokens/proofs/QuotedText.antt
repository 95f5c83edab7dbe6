-- Quoted texts, byte by byte.
use Rattle.std.proofs.Common.{◌≡◌, ◌∙◌, ◌<◌, ◌≤◌, ◌+◌, ◌-◌, ◌/◌, ◌%◌, ℕ, suc, Bool, true, false, cond, nat_lt, ◌==◌, List, [], ◌∷◌, ◌++◌, length, take, drop, get_or, codes, refl, sym, ap, subst, true≢false, arith, ⊎_elim}
use Rattle.std.proofs.lemmas.Bool.{cases_lt}
use Rattle.std.proofs.lemmas.Bool.Decides.{nat_tests}
use Rattle.std.proofs.lemmas.List.{append_assoc, append-nil, get_or-drop, length-drop, take_all, take_more, take_rest}
use Rattle.std.proofs.lemmas.Str.{encodes-append, encode_ascii, encodes-chars, inside_one}
use Rattle.std.specs.Cmp.Lexicographic.{bytes_decides}
use Rattle.std.specs.Fmt.{digits}
use Rattle.std.specs.List.{slice_range}
use Rattle.std.specs.Str.{bytes_eq}
use Rattle.irtext_base.proofs.Characters.{ascii}
use Rattle.std.specs.Char.{encode_utf8, is_ascii_control}
use Rattle.std.specs.Str.{chars, encode_utf8_all, IsUtf8, IsCharBoundary}
use Rattle.irtext_base.specs.Quoted.{hexadecimal, image_of, images}
use Rattle.irtext_base.specs.Text.{Text}
use Rattle.irtext_tokens.specs.QuotedBytes.{by_code, is_escaped, quoted_bytes}

-- a test that fails selects the second alternative
passed : (b : Bool) (x y : Text) → b ≡ false → cond b x y ≡ y
passed true x y e = absurd (true≢false e)
passed false x y e = refl

-- for a character that is none of the six
others : (c : ℕ) → (c == 0) ≡ false → (c == 9) ≡ false → (c == 10) ≡ false → (c == 13) ≡ false → (c == 34) ≡ false → (c == 92) ≡ false → image_of c ≡ cond (is_ascii_control c) (by_code c) (c ∷ [])
others c p q r s t u = passed (c == 0) _ _ p ∙ passed (c == 9) _ _ q ∙ passed (c == 10) _ _ r ∙ passed (c == 13) _ _ s ∙ passed (c == 34) _ _ t ∙ passed (c == 92) _ _ u

-- a character that isn't escaped is its own image
pub image-plain : (c : ℕ) → is_escaped c ≡ false → image_of c ≡ c ∷ []
image-plain c e = others c (grind (arith, nat_tests)) (grind (arith, nat_tests)) (grind (arith, nat_tests)) (grind (arith, nat_tests)) (grind (arith, nat_tests)) (grind (arith, nat_tests)) ∙ passed (is_ascii_control c) _ _ (grind (arith, nat_tests))

-- the images of two texts
pub images-append : (xs ys : List ℕ) → images (xs ++ ys) ≡ images xs ++ images ys
images-append [] ys = refl
images-append (x ∷ xs) ys = ap (λ z. image_of x ++ z) (images-append xs ys) ∙ sym (append_assoc (image_of x) (images xs) (images ys))

-- bytes past ASCII are their own images
images-large : (bs : List ℕ) → ((k : ℕ) → k < length bs → 128 ≤ get_or bs k 0) → images bs ≡ bs
images-large [] h = refl
images-large (b ∷ bs) h =
    let large : 128 ≤ b = h 0 (omega arith) in
    ap (λ z. z ++ images bs) (image-plain b (grind (arith, nat_tests))) ∙ ap (λ z. b ∷ z) (images-large bs (λ k l. h (suc k) (omega arith)))

-- the image of an ASCII character is ASCII
image-ascii : (c : ℕ) → c < 128 → encode_utf8_all (image_of c) ≡ image_of c
unfolding digits encode_utf8
image-ascii c l = (bytes_decides (encode_utf8_all (image_of c)) (image_of c)).0 (ascii (λ c. bytes_eq (encode_utf8_all (image_of c)) (image_of c)) refl c l)

-- the image of a character, as bytes
image-encoded : (c : ℕ) → encode_utf8_all (image_of c) ≡ images (encode_utf8 c)
image-encoded c = ⊎_elim (λ (l : c < 128). image-ascii c l ∙ sym (append-nil (image_of c)) ∙ ap images (sym (encode_ascii c l))) (λ (l : 128 ≤ c). large l) (cases_lt c 128)
  where
    large : 128 ≤ c → encode_utf8_all (image_of c) ≡ images (encode_utf8 c)
    large l = ap encode_utf8_all (image-plain c (grind (arith, nat_tests))) ∙ append-nil (encode_utf8 c) ∙ sym (images-large (encode_utf8 c) (λ k s. byte k s))
      where
        byte : (k : ℕ) → k < length (encode_utf8 c) → 128 ≤ get_or (encode_utf8 c) k 0
        byte k s = ⊎_elim (λ (small : get_or (encode_utf8 c) k 0 < 128). absurd (omega (arith, inside_one c [] (encode_utf8 c) k (sym (append-nil (encode_utf8 c))) s small))) (λ (h : 128 ≤ get_or (encode_utf8 c) k 0). h) (cases_lt (get_or (encode_utf8 c) k 0) 128)

-- the images of the characters, as bytes
images-encoded : (cs : List ℕ) → encode_utf8_all (images cs) ≡ images (encode_utf8_all cs)
images-encoded [] = refl
images-encoded (c ∷ cs) =
    encodes-append (image_of c) (images cs) ∙ ap (λ z. z ++ encode_utf8_all (images cs)) (image-encoded c) ∙ ap (λ z. images (encode_utf8 c) ++ z) (images-encoded cs)
    ∙ sym (images-append (encode_utf8 c) (encode_utf8_all cs))

-- a text between quotation marks, byte by byte
pub quoted-bytes : (bs : List ℕ) → IsUtf8 bs → quoted_bytes bs ≡ codes "\"" ++ (images bs ++ codes "\"")
unfolding encode_utf8
quoted-bytes bs u =
    ap (λ z. 34 ∷ z) (encodes-append (images (chars bs)) (codes "\"") ∙ ap (λ z. z ++ codes "\"") (images-encoded (chars bs) ∙ ap images (encodes-chars bs u)))

-- a quotation mark, the images and a quotation mark
pub quoted-appended : (bs old first second new : List ℕ) → IsUtf8 bs → first ≡ old ++ codes "\"" → second ≡ first ++ images bs → new ≡ second ++ codes "\"" → new ≡ old ++ quoted_bytes bs
quoted-appended bs old first second new u p q r =
    r ∙ ap (λ z. z ++ codes "\"") (q ∙ ap (λ z. z ++ images bs) p) ∙ append_assoc (old ++ codes "\"") (images bs) (codes "\"") ∙ append_assoc old (codes "\"") (images bs ++ codes "\"")
    ∙ ap (λ z. old ++ z) (sym (quoted-bytes bs u))

-- a run that ends where it begins is empty
pub run-empty : (bs : List ℕ) (at : ℕ) → slice_range bs at at ≡ []
run-empty bs at =
    let none : at - at ≡ 0 = omega arith in
    ap (λ n. take n (drop at bs)) none

-- a run gains the next byte
run-more : (bs : List ℕ) (begun at : ℕ) → begun ≤ at → at < length bs → slice_range bs begun (at + 1) ≡ slice_range bs begun at ++ get_or bs at 0 ∷ []
run-more bs begun at p l =
    let one : (at + 1) - begun ≡ (at - begun) + 1 = omega arith in
    let place : begun + (at - begun) ≡ at = omega arith in
    ap (λ n. take n (drop begun bs)) one ∙ take_more (drop begun bs) (at - begun) 0 (omega (arith, length-drop begun bs))
    ∙ ap (λ b. slice_range bs begun at ++ b ∷ []) (get_or-drop begun bs (at - begun) 0 ∙ ap (λ n. get_or bs n 0) place)

-- the images of one byte more
images-more : (bs : List ℕ) (at : ℕ) → at < length bs → images (take (at + 1) bs) ≡ images (take at bs) ++ image_of (get_or bs at 0)
images-more bs at l = ap images (take_more bs at 0 l) ∙ images-append (take at bs) (get_or bs at 0 ∷ []) ∙ ap (λ z. images (take at bs) ++ z) (append-nil (image_of (get_or bs at 0)))

-- a byte that represents itself joins the run
pub run-plain : (bs : List ℕ) (begun at : ℕ) (old now : List ℕ) → begun ≤ at → at < length bs → is_escaped (get_or bs at 0) ≡ false
    → now ++ slice_range bs begun at ≡ old ++ images (take at bs) → now ++ slice_range bs begun (at + 1) ≡ old ++ images (take (at + 1) bs)
run-plain bs begun at old now p l e h =
    ap (λ z. now ++ z) (run-more bs begun at p l) ∙ sym (append_assoc now (slice_range bs begun at) (get_or bs at 0 ∷ [])) ∙ ap (λ z. z ++ get_or bs at 0 ∷ []) h
    ∙ append_assoc old (images (take at bs)) (get_or bs at 0 ∷ []) ∙ ap (λ z. old ++ z) (ap (λ z. images (take at bs) ++ z) (sym (image-plain (get_or bs at 0) e)) ∙ sym (images-more bs at l))

-- the run before an escape, the escape, and no run
pub run-escaped : (bs : List ℕ) (begun at : ℕ) (old now copied new : List ℕ) → at < length bs
    → now ++ slice_range bs begun at ≡ old ++ images (take at bs) → copied ≡ now ++ slice_range bs begun at → new ≡ copied ++ image_of (get_or bs at 0)
    → new ++ slice_range bs (at + 1) (at + 1) ≡ old ++ images (take (at + 1) bs)
run-escaped bs begun at old now copied new l h p q =
    ap (λ z. new ++ z) (run-empty bs (at + 1)) ∙ append-nil new ∙ q ∙ ap (λ z. z ++ image_of (get_or bs at 0)) (p ∙ h)
    ∙ append_assoc old (images (take at bs)) (image_of (get_or bs at 0)) ∙ ap (λ z. old ++ z) (sym (images-more bs at l))

-- the last run
pub run-last : (bs : List ℕ) (begun at : ℕ) (old now new : List ℕ) → at ≡ length bs → now ++ slice_range bs begun at ≡ old ++ images (take at bs) → new ≡ now ++ drop begun bs → new ≡ old ++ images bs
run-last bs begun at old now new e h p =
    p ∙ ap (λ z. now ++ z) (sym (ap (λ n. slice_range bs begun n) e ∙ take_rest bs begun)) ∙ h ∙ ap (λ z. old ++ images z) (take_all at bs (omega (arith, e)))

-- an escaped character is ASCII
pub escaped-ascii : (c : ℕ) → is_escaped c ≡ true → c < 128
escaped-ascii c e = grind (arith, nat_tests)

-- the invariant of the loop, at a later place
pub record Run (bs : List ℕ) (at begun : ℕ) (now old : List ℕ) : Type 0 where
  pub within : begun ≤ at
  pub boundary : IsCharBoundary bs begun
  pub so_far : now ++ slice_range bs begun at ≡ old ++ images (take at bs)

-- the same of equal values
pub run-same : (bs : List ℕ) (at b b' : ℕ) (now now' old : List ℕ) → b' ≡ b → now' ≡ now → Run bs at b now old → Run bs at b' now' old
run-same bs at b b' now now' old p q h = subst (λ z. Run bs at z now' old) (sym p) (subst (λ z. Run bs at b z old) (sym q) h)

-- a test that holds selects the first alternative
chosen : (b : Bool) (x y : Bool) → b ≡ true → cond b x y ≡ x
chosen true x y e = refl
chosen false x y e = absurd (true≢false (sym e))

-- a number below 16 is one hexadecimal digit, a slice of all digits
pub digit-slice : (n : ℕ) → n < 16 → slice_range {X = ℕ} (codes "0123456789abcdef") n (n + 1) ≡ hexadecimal n
unfolding digits
digit-slice n l =
    let test : nat_lt n 16 ≡ true = grind (arith, nat_tests) in
    (bytes_decides (slice_range {X = ℕ} (codes "0123456789abcdef") n (n + 1)) (hexadecimal n)).0
    (sym (chosen (nat_lt n 16) _ true test) ∙ ascii (λ n. cond (nat_lt n 16) (bytes_eq (slice_range {X = ℕ} (codes "0123456789abcdef") n (n + 1)) (hexadecimal n)) true) refl n (omega (arith, l)))

-- the code of an ASCII character from 16 on has two digits
two-digits : (n : ℕ) → 16 ≤ n → n < 128 → hexadecimal (n / 16) ++ hexadecimal (n % 16) ≡ hexadecimal n
unfolding digits
two-digits n g l =
    let test : nat_lt 15 n ≡ true = grind (arith, nat_tests) in
    (bytes_decides (hexadecimal (n / 16) ++ hexadecimal (n % 16)) (hexadecimal n)).0
    (sym (chosen (nat_lt 15 n) _ true test) ∙ ascii (λ n. cond (nat_lt 15 n) (bytes_eq (hexadecimal (n / 16) ++ hexadecimal (n % 16)) (hexadecimal n)) true) refl n l)

-- the two digits, one after the other
pub code-appended : (n : ℕ) (old now new high low : List ℕ) → 16 ≤ n → n < 128 → high ≡ hexadecimal (n / 16) → low ≡ hexadecimal (n % 16) → now ≡ old ++ high → new ≡ now ++ low → new ≡ old ++ hexadecimal n
code-appended n old now new high low g l h k p q = let e = two-digits n g l in q ∙ ap (λ z. z ++ low) p ∙ append_assoc old high low ∙ ap (λ z. old ++ z) (ap (λ z. z ++ low) h ∙ ap (λ z. hexadecimal (n / 16) ++ z) k ∙ e)

-- a code below 16 is one digit
pub digit-appended : (n : ℕ) (old now new low : List ℕ) → n < 16 → low ≡ hexadecimal (n % 16) → now ≡ old → new ≡ now ++ low → new ≡ old ++ hexadecimal n
digit-appended n old now new low l k p q =
    let same : n % 16 ≡ n = omega (arith, l) in
    q ∙ ap (λ z. z ++ low) p ∙ ap (λ z. old ++ z) (k ∙ ap hexadecimal same)
