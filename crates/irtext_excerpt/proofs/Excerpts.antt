-- Excerpts of a text: its characters as they are shown, its lines, and the parts of a line.
use Rattle.std.proofs.Common.{◌≡◌, ◌∙◌, ℕ, zero, suc, ◌+◌, ◌-◌, ◌<◌, ◌≤◌, Bool, true, false, cond, not, ◌&&◌, ◌||◌, ◌==◌, nat_lt, List, [], ◌∷◌, ◌++◌, length, take, drop, get_or, replicate, codes, refl, sym, ap, subst, arith, add-zero, length-append, length-drop, lit<, ◌⊎◌, inl, inr, ⊎_elim, eq-or-lt_of_le}
use Rattle.std.specs.Prelude.{nat_eq, Some, None, ℤ}
use Rattle.std.proofs.lemmas.List.{append_assoc, append-nil, take-append-drop, take_more, replicate-append-replicate}
use Rattle.std.proofs.lemmas.Bool.Decides.{nat_tests}
use Rattle.std.proofs.lemmas.Str.{encodes-append, encodes-chars, scalars-chars, chars-encodes, chars-append, chars_past_char, chars_from_encodes, encode_ascii, length-encode, IsCharBoundary-at_seam, IsCharBoundary-before_ascii, IsUtf8-take, IsUtf8-drop}
use Rattle.std.proofs.Math.Seq.{take-append_seam, drop-append_seam, get_or-append_seam}
use Rattle.std.specs.Char.{encode_utf8, len_utf8}
use Rattle.std.specs.Cmp.Lexicographic.{bytes_decides}
use Rattle.std.specs.Fmt.{digits}
use Rattle.std.specs.Str.{chars, encode_utf8_all, IsUtf8, IsCharBoundary, NonePass, bytes_eq, all_scalars}
use Rattle.std.specs.Str.Pattern.{FindsChar}
use Rattle.unicode_width.specs.Width.{char_width}
use Rattle.irtext_stream.specs.Text.{Text, front, after}
use Rattle.irtext_stream.proofs.Ascii.{and_left, and_right}
use lib.Utf8.{scalar}
use Rattle.irtext_excerpt.specs.Excerpt.{Parts, preceding, without_return, lead_at, lead_bytes, place_in, after_newline, after_characters, InPlace, zeros, is_between, is_coded, code_of, glyph, columns_of, columns, shown_as, shown, shown_lines, blanks, dots, left_of, right_of, pointed, is_in_line, HasParts}

-- ---- characters that are shown by their codes
abbrev all_from : ℕ → ℕ → (ℕ → Bool) → Bool
all_from zero low test = true
all_from (suc n) low test = test low && all_from n (low + 1) test

-- what holds of so many codes from one on holds of each of them
from_all : (n low : ℕ) (test : ℕ → Bool) → all_from n low test ≡ true → (c : ℕ) → low ≤ c → c < low + n → test c ≡ true
from_all zero low test e c l h = absurd (omega arith)
from_all (suc n) low test e c l h = ⊎_elim (λ (i : low ≡ c). subst (λ z. test z ≡ true) i (and_left (test low) (all_from n (low + 1) test) e)) (λ (i : low < c). from_all n (low + 1) test (and_right (test low) (all_from n (low + 1) test) e) c (omega arith) (omega arith)) (eq-or-lt_of_le l)

either : (a b : Bool) → (a || b) ≡ true → (a ≡ true) ⊎ (b ≡ true)
either true b e = inl refl
either false b e = inr e

low_of : (low high c : ℕ) → is_between low high c ≡ true → low ≤ c
low_of low high c e = grind (arith, nat_tests)

high_of : (low high c : ℕ) → is_between low high c ≡ true → c ≤ high
high_of low high c e = grind (arith, nat_tests)

-- a law of these characters is computed
coded : (test : ℕ → Bool) → all_from 32 0 test ≡ true → all_from 33 127 test ≡ true → test 173 ≡ true → all_from 5 8203 test ≡ true → all_from 7 8232 test ≡ true → all_from 16 8288 test ≡ true → test 65279 ≡ true
    → (c : ℕ) → is_coded c ≡ true → test c ≡ true
coded test controls more hyphen widths marks operators order c e =
    by_one 65279 order (λ e. by_range 8288 8303 16 operators refl (λ e. by_range 8232 8238 7 marks refl (λ e. by_range 8203 8207 5 widths refl (λ e. by_one 173 hyphen (λ e. by_range 127 159 33 more refl first e) e) e) e) e) e
  where
    one : (n : ℕ) → test n ≡ true → (c == n) ≡ true → test c ≡ true
    one n t e = let i : n ≡ c = grind (arith, nat_tests) in subst (λ z. test z ≡ true) i t

    by_one : {a : Bool} (n : ℕ) → test n ≡ true → (a ≡ true → test c ≡ true) → (a || (c == n)) ≡ true → test c ≡ true
    by_one {a} n t next e = ⊎_elim (λ (h : a ≡ true). next h) (λ (h : (c == n) ≡ true). one n t h) (either a (c == n) e)

    by_range : {a : Bool} (low high n : ℕ) → all_from n low test ≡ true → low + n ≡ high + 1 → (a ≡ true → test c ≡ true) → (a || is_between low high c) ≡ true → test c ≡ true
    by_range {a} low high n t size next e = ⊎_elim (λ (h : a ≡ true). next h) (λ (h : is_between low high c ≡ true). from_all n low test t c (low_of low high c h) (omega (arith, high_of low high c h))) (either a (is_between low high c) e)

    first : (not (c == 9) && nat_lt c 32) ≡ true → test c ≡ true
    first e = let h : c < 32 = grind (arith, nat_tests) in from_all 32 0 test controls c (omega arith) (omega arith)

coded_test : ℕ → Bool
coded_test c = bytes_eq (encode_utf8_all (codes "U+" ++ code_of c)) (codes "U+" ++ code_of c) && nat_eq (columns (codes "U+" ++ code_of c)) 6

coded_holds : (c : ℕ) → is_coded c ≡ true → coded_test c ≡ true
unfolding coded_test digits encode_utf8 char_width
coded_holds c e = coded coded_test refl refl refl refl refl refl refl c e

pub coded_bytes : (c : ℕ) → is_coded c ≡ true → codes "U+" ++ (zeros c ++ digits 16 true c) ≡ encode_utf8_all (shown_as c)
unfolding coded_test
coded_bytes c e =
    let own = codes "U+" ++ code_of c in
    let t = and_left (bytes_eq (encode_utf8_all own) own) (nat_eq (columns own) 6) (coded_holds c e) in
    sym (ap (λ b. encode_utf8_all (cond b own (glyph c ∷ []))) e ∙ (bytes_decides (encode_utf8_all own) own).0 t)

-- ---- characters as they are shown
shown-append : (xs ys : Text) → shown (xs ++ ys) ≡ shown xs ++ shown ys
shown-append [] ys = refl
shown-append (c ∷ xs) ys = ap (λ z. shown_as c ++ z) (shown-append xs ys) ∙ sym (append_assoc (shown_as c) (shown xs) (shown ys))

shown-one : (xs : Text) (c : ℕ) → shown (xs ++ (c ∷ [])) ≡ shown xs ++ shown_as c
shown-one xs c = shown-append xs (c ∷ []) ∙ ap (λ z. shown xs ++ z) (append-nil (shown_as c))

-- one character more, in bytes
pub shown-more : (xs : Text) (c : ℕ) → encode_utf8_all (shown xs) ++ encode_utf8_all (shown_as c) ≡ encode_utf8_all (shown (xs ++ (c ∷ [])))
shown-more xs c = sym (encodes-append (shown xs) (shown_as c)) ∙ ap encode_utf8_all (sym (shown-one xs c))

columns-append : (xs ys : Text) → columns (xs ++ ys) ≡ columns xs + columns ys
columns-append [] ys = omega arith
columns-append (c ∷ xs) ys = omega (arith, columns-append xs ys)

pub blanks-append : (xs ys : Text) → blanks xs ++ blanks ys ≡ blanks (xs ++ ys)
blanks-append xs ys = replicate-append-replicate (columns xs) (columns ys) 32 ∙ ap (λ n. replicate n 32) (sym (columns-append xs ys))

-- the blanks below the dots
pub dots-blank : (b : Bool) → blanks (dots b) ≡ cond b (codes "  ") []
unfolding char_width
dots-blank true = refl
dots-blank false = refl

pub blanks-more : (xs : Text) (c : ℕ) → blanks (shown xs) ++ blanks (shown_as c) ≡ blanks (shown (xs ++ (c ∷ [])))
blanks-more xs c = blanks-append (shown xs) (shown_as c) ∙ ap blanks (sym (shown-one xs c))

-- ---- the parts of the excerpt, in bytes
dots-encoded : (b : Bool) → encode_utf8_all (dots b) ≡ dots b
unfolding encode_utf8
dots-encoded true = refl
dots-encoded false = refl

pub left-bytes : (b : Bool) (xs : Text) → dots b ++ encode_utf8_all (shown xs) ≡ encode_utf8_all (dots b ++ shown xs)
left-bytes b xs = ap (λ z. z ++ encode_utf8_all (shown xs)) (sym (dots-encoded b)) ∙ sym (encodes-append (dots b) (shown xs))

pub right-bytes : (xs : Text) (b : Bool) → encode_utf8_all (shown xs) ++ dots b ≡ encode_utf8_all (shown xs ++ dots b)
right-bytes xs b = ap (λ z. encode_utf8_all (shown xs) ++ z) (sym (dots-encoded b)) ∙ sym (encodes-append (shown xs) (dots b))

pub margin-bytes : (b : Bool) (xs : Text) → blanks (dots b) ++ blanks (shown xs) ≡ blanks (dots b ++ shown xs)
margin-bytes b xs = blanks-append (dots b) (shown xs)

blanks-encoded : (n : ℕ) → encode_utf8_all (replicate n 32) ≡ replicate n 32
unfolding encode_utf8
blanks-encoded zero = refl
blanks-encoded (suc n) = ap (λ z. 32 ∷ z) (blanks-encoded n)

pub pointed-bytes : (left right : Text) → encode_utf8_all left ++ (encode_utf8_all right ++ (codes "\n" ++ blanks left)) ≡ encode_utf8_all (pointed left right)
unfolding encode_utf8
pointed-bytes left right =
    sym (encodes-append left (right ++ (10 ∷ blanks left)) ∙ ap (λ z. encode_utf8_all left ++ z) (encodes-append right (10 ∷ blanks left) ∙ ap (λ z. encode_utf8_all right ++ (10 ∷ z)) (blanks-encoded (columns left))))

-- ---- the columns of a text as it is shown
pub coded_columns : (c : ℕ) → is_coded c ≡ true → columns (shown_as c) ≡ 6
unfolding coded_test
coded_columns c e =
    let own = codes "U+" ++ code_of c in
    let t : nat_eq (columns own) 6 ≡ true = and_right (bytes_eq (encode_utf8_all own) own) (nat_eq (columns own) 6) (coded_holds c e) in
    let s : columns own ≡ 6 = grind (arith, nat_tests) in
    ap (λ b. columns (cond b own (glyph c ∷ []))) e ∙ s

pub plain_columns : (c : ℕ) → is_coded c ≡ false → columns (shown_as c) ≡ columns_of (glyph c)
plain_columns c e = ap (λ b. columns (cond b (codes "U+" ++ code_of c) (glyph c ∷ []))) e ∙ add-zero (columns_of (glyph c))

-- one character more
pub width-more : (xs : Text) (c : ℕ) → columns (shown xs) + columns (shown_as c) ≡ columns (shown (xs ++ c ∷ []))
width-more xs c = sym (columns-append (shown xs) (shown_as c)) ∙ ap columns (sym (shown-one xs c))

-- one character fewer
pub width-fewer : (c : ℕ) (xs : Text) → columns (shown (c ∷ xs)) ≡ columns (shown_as c) + columns (shown xs)
width-fewer c xs = columns-append (shown_as c) (shown xs)

-- ---- a text, cut after so many characters
encodes-one : (xs : Text) (c : ℕ) → length (encode_utf8_all (xs ++ (c ∷ []))) ≡ length (encode_utf8_all xs) + len_utf8 c
encodes-one xs c = ap length (encodes-append xs (c ∷ [])) ∙ length-append (encode_utf8_all xs) (encode_utf8_all (c ∷ [])) ∙ ap (λ n. length (encode_utf8_all xs) + n) (ap length (append-nil (encode_utf8 c)) ∙ length-encode c)

prefix_size : (k : ℕ) (cs : Text) → length (encode_utf8_all (take k cs)) ≤ length (encode_utf8_all cs)
prefix_size k cs = omega (arith, ap (λ t. length (encode_utf8_all t)) (take-append-drop k cs), ap length (encodes-append (take k cs) (drop k cs)), length-append (encode_utf8_all (take k cs)) (encode_utf8_all (drop k cs)))

-- the offset after one character more, and that it is within the text
pub record Advances (bs : List ℕ) (xs : Text) (c : ℕ) : Type 0 where
  pub size : length (encode_utf8_all xs) + len_utf8 c ≡ length (encode_utf8_all (xs ++ (c ∷ [])))
  pub within : length (encode_utf8_all xs) + len_utf8 c ≤ length bs

pub advances : (bs xs : List ℕ) (n c : ℕ) → IsUtf8 bs → xs ≡ take (length xs) (take n (chars bs)) → (length xs < length (take n (chars bs))) × (c ≡ get_or (take n (chars bs)) (length xs) c) → Advances bs xs c
advances bs xs n c u e h =
    let ys = take n (chars bs) in
    let next : take (length xs + 1) ys ≡ xs ++ (c ∷ []) = take_more ys (length xs) c h.0 ∙ ap (λ z. take (length xs) ys ++ z ∷ []) (sym h.1) ∙ ap (λ z. z ++ c ∷ []) (sym e) in
    let all : length (encode_utf8_all (chars bs)) ≡ length bs = ap length (encodes-chars bs u) in
    record {
      size = sym (encodes-one xs c);
      within = omega (arith, encodes-one xs c, ap (λ t. length (encode_utf8_all t)) next, prefix_size (length xs + 1) ys, prefix_size n (chars bs), all);
    }

scalars-append : (xs ys : Text) → all_scalars (xs ++ ys) ≡ true → (all_scalars xs ≡ true) × (all_scalars ys ≡ true)
scalars-append [] ys e = (refl, e)
scalars-append (c ∷ xs) ys e =
    let more = scalars-append xs ys (and_right (scalar c) (all_scalars (xs ++ ys)) e) in
    (both (scalar c) (all_scalars xs) (and_left (scalar c) (all_scalars (xs ++ ys)) e) more.0, more.1)
  where
    both : (a b : Bool) → a ≡ true → b ≡ true → (a && b) ≡ true
    both true b e f = f
    both false b e f = e

-- the bytes on both sides of the offset after so many characters
record Cut (bs : List ℕ) (n at : ℕ) : Type 0 where
  pub boundary : IsCharBoundary bs at
  pub first : chars (take at bs) ≡ take n (chars bs)
  pub second : chars (drop at bs) ≡ drop n (chars bs)

cut : (bs : List ℕ) (n at : ℕ) → IsUtf8 bs → at ≡ length (encode_utf8_all (take n (chars bs))) → Cut bs n at
cut bs n at u e =
    let cs = chars bs in
    let xs = encode_utf8_all (take n cs) in
    let ys = encode_utf8_all (drop n cs) in
    let split : bs ≡ xs ++ ys = sym (encodes-chars bs u) ∙ ap encode_utf8_all (sym (take-append-drop n cs)) ∙ encodes-append (take n cs) (drop n cs) in
    let s = scalars-append (take n cs) (drop n cs) (ap all_scalars (take-append-drop n cs) ∙ scalars-chars bs u) in
    record {
      boundary = subst (λ z. IsCharBoundary bs z) (sym e) (IsCharBoundary-at_seam bs xs ys split (drop n cs, (s.1, refl)));
      first = ap (λ z. chars (take z bs)) e ∙ ap (λ z. chars (take (length xs) z)) split ∙ ap chars (take-append_seam xs ys) ∙ chars-encodes (take n cs) s.0;
      second = ap (λ z. chars (drop z bs)) e ∙ ap (λ z. chars (drop (length xs) z)) split ∙ ap chars (drop-append_seam xs ys) ∙ chars-encodes (drop n cs) s.1;
    }

pub boundary_at : (bs xs : List ℕ) (n at : ℕ) → IsUtf8 bs → xs ≡ take n (chars bs) → at ≡ length (encode_utf8_all xs) → IsCharBoundary bs at
boundary_at bs xs n at u x e = (cut bs n at u (e ∙ ap (λ t. length (encode_utf8_all t)) x)).boundary

pub parts_at : (bs xs first second : List ℕ) (n at : ℕ) → IsUtf8 bs → xs ≡ take n (chars bs) → at ≡ length (encode_utf8_all xs) → first ≡ take at bs → second ≡ drop at bs → HasParts first second (take n (chars bs)) (drop n (chars bs))
parts_at bs xs first second n at u x e f s =
    let k = cut bs n at u (e ∙ ap (λ t. length (encode_utf8_all t)) x) in
    record { first_is = ap chars f ∙ k.first; second_is = ap chars s ∙ k.second }

-- ---- lines
front-line : (xs ys : Text) → NonePass (λ c. c == 10) xs → (front is_in_line (xs ++ 10 ∷ ys) ≡ xs) × (after is_in_line (xs ++ 10 ∷ ys) ≡ 10 ∷ ys)
front-line [] ys h = (refl, refl)
front-line (c ∷ xs) ys h =
    let more = front-line xs ys h.1 in
    (ap (λ b. cond (not b) (c ∷ front is_in_line (xs ++ 10 ∷ ys)) []) h.0 ∙ ap (λ t. c ∷ t) more.0, ap (λ b. cond (not b) (after is_in_line (xs ++ 10 ∷ ys)) (c ∷ xs ++ 10 ∷ ys)) h.0 ∙ more.1)

front-whole : (xs : Text) → NonePass (λ c. c == 10) xs → (front is_in_line xs ≡ xs) × (after is_in_line xs ≡ [])
front-whole [] h = (refl, refl)
front-whole (c ∷ xs) h =
    let more = front-whole xs h.1 in
    (ap (λ b. cond (not b) (c ∷ front is_in_line xs) []) h.0 ∙ ap (λ t. c ∷ t) more.0, ap (λ b. cond (not b) (after is_in_line xs) (c ∷ xs)) h.0 ∙ more.1)

-- a newline was found, between these bytes
pub record Broken (bs first second : List ℕ) : Type 0 where
  pub utf8 : IsUtf8 second
  pub line : front is_in_line (chars bs) ≡ chars first
  pub rest : after is_in_line (chars bs) ≡ 10 ∷ chars second

pub broken : (bs first second : List ℕ) (i j : ℕ) → IsUtf8 bs → FindsChar 10 bs (Some (i, j)) → first ≡ take i bs → second ≡ drop j bs → Broken bs first second
broken bs first second i j u found f s =
    let at = found.1 in
    let size : len_utf8 10 ≡ 1 = refl in
    let drops : drop i bs ≡ 10 ∷ drop j bs = at.split ∙ ap (λ z. z ++ drop j bs) (encode_ascii 10 (lit< tt)) in
    let within : i < length bs = omega (arith, ap length drops, length-drop i bs) in
    let low : get_or bs i 0 < 128 = omega (arith, at.byte (lit< tt)) in
    let here : IsCharBoundary bs i = IsCharBoundary-before_ascii bs i within low in
    let next : IsCharBoundary bs j = subst (λ z. IsCharBoundary bs z) (sym at.ends) at.after in
    let taken : IsUtf8 (take i bs) = IsUtf8-take bs i u here in
    let same : found.0.0 ≡ chars (take i bs) = chars_from_encodes found.0.0 (take i bs) taken found.0.1 in
    let none : NonePass (λ c. c == 10) (chars (take i bs)) = subst (λ z. NonePass (λ c. c == 10) z) same found.0.2 in
    let all : chars bs ≡ chars (take i bs) ++ 10 ∷ chars (drop j bs) = ap chars (sym (take-append-drop i bs)) ∙ chars-append (take i bs) (drop i bs) taken ∙ ap (λ z. chars (take i bs) ++ z) (chars_past_char (drop i bs) (drop j bs) 10 (IsUtf8-drop bs i u here) at.split) in
    let w = front-line (chars (take i bs)) (chars (drop j bs)) none in
    record {
      utf8 = subst (λ z. IsUtf8 z) (sym s) (IsUtf8-drop bs j u next);
      line = ap (front is_in_line) all ∙ w.0 ∙ ap chars (sym f);
      rest = ap (after is_in_line) all ∙ w.1 ∙ ap (λ z. 10 ∷ chars z) (sym s);
    }

-- none was found
pub unbroken : (bs : List ℕ) → IsUtf8 bs → FindsChar 10 bs None → (front is_in_line (chars bs) ≡ chars bs) × (after is_in_line (chars bs) ≡ [])
unbroken bs u found =
    let w = front-whole found.0 found.2 in
    let same : found.0 ≡ chars bs = chars_from_encodes found.0 bs u found.1 in
    (ap (front is_in_line) (sym same) ∙ w.0 ∙ same, ap (after is_in_line) (sym same) ∙ w.1)

-- ---- carriage returns
returned : (xs : Text) → without_return (xs ++ 13 ∷ []) ≡ xs
returned [] = refl
returned (c ∷ []) = refl
returned (c ∷ d ∷ xs) = ap (λ t. c ∷ t) (returned (d ∷ xs))

unreturned : (xs : Text) → ((ys : Text) → xs ≡ ys ++ 13 ∷ [] → ⊥) → without_return xs ≡ xs
unreturned [] h = refl
unreturned (c ∷ []) h = go (c == 13) refl
  where
    go : (b : Bool) → (c == 13) ≡ b → cond b [] (c ∷ []) ≡ c ∷ []
    go true e = let same : c ≡ 13 = grind (arith, nat_tests) in absurd (h [] (ap (λ z. z ∷ []) same))
    go false e = refl
unreturned (c ∷ d ∷ xs) h = ap (λ t. c ∷ t) (unreturned (d ∷ xs) (λ ys e. h (c ∷ ys) (ap (λ t. c ∷ t) e)))

-- a line that ends with a carriage return
pub return_found : (bs xs : List ℕ) → IsUtf8 bs → bs ≡ xs ++ 13 ∷ [] → chars xs ≡ without_return (chars bs)
unfolding chars
return_found bs xs u e =
    let here : IsCharBoundary bs (length xs) = IsCharBoundary-before_ascii bs (length xs) (omega (arith, ap length e, length-append xs (13 ∷ []))) (omega (arith, ap (λ z. get_or z (length xs) 0) e, get_or-append_seam xs 13 [] 0)) in
    let front_is : take (length xs) bs ≡ xs = ap (take (length xs)) e ∙ take-append_seam xs (13 ∷ []) in
    let utf8 : IsUtf8 xs = subst (λ z. IsUtf8 z) front_is (IsUtf8-take bs (length xs) u here) in
    sym (ap without_return (ap chars e ∙ chars-append xs (13 ∷ []) utf8) ∙ returned (chars xs))

-- a line that does not
pub return_missed : (bs : List ℕ) → IsUtf8 bs → ((xs : List ℕ) → bs ≡ xs ++ 13 ∷ [] → ⊥) → chars bs ≡ without_return (chars bs)
unfolding encode_utf8
return_missed bs u h = sym (unreturned (chars bs) (λ ys e. h (encode_utf8_all ys) (sym (encodes-chars bs u) ∙ ap encode_utf8_all e ∙ encodes-append ys (13 ∷ []))))

-- ---- places
-- what is left of a text where lines are still to be passed
abbrev beyond : Text → Text → ℕ → ℕ → Parts
beyond text t k n = after_newline text t (λ rest. place_in rest k n)

module _ (text : Text) (lines line n : ℕ) (more : line < lines) where
  passing : place_in text (lines - line) n ≡ beyond text (after is_in_line text) (lines - (line + 1)) n
  passing = let one : lines - line ≡ suc (lines - (line + 1)) = omega arith in ap (λ m. place_in text m n) one

  pub next_line : (rest : Text) → after is_in_line text ≡ 10 ∷ rest → place_in text (lines - line) n ≡ place_in rest (lines - (line + 1)) n
  next_line rest e = passing ∙ ap (λ t. beyond text t (lines - (line + 1)) n) e

  pub last_line : after is_in_line text ≡ [] → place_in text (lines - line) n ≡ record { before = without_return text; rest = [] }
  last_line e = passing ∙ ap (λ t. beyond text t (lines - (line + 1)) n) e

pub in_line : (text line : Text) (m n : ℕ) → m ≡ 0 → without_return (front is_in_line text) ≡ line → place_in text m n ≡ record { before = take n line; rest = drop n line }
in_line text line m n c e = ap (λ m. place_in text m n) c ∙ ap (λ t. after_characters n t) e

-- the parts of a place that is known
pub in_place : (text : Text) (m n : ℕ) (parts : Parts) (first second : List ℕ) → place_in text m n ≡ parts → HasParts first second parts.before parts.rest → InPlace text m n first second
in_place text m n parts first second e h = subst (λ p. HasParts first second p.before p.rest) (sym e) h

-- the excerpt but for its caret, in bytes
pub lead-bytes : (bs : List ℕ) (line column : ℤ) (m n : ℕ) (first second : List ℕ) → m ≡ preceding line → n ≡ preceding column → InPlace (chars bs) m n first second
    → encode_utf8_all (left_of (chars first)) ++ (encode_utf8_all (right_of (chars second)) ++ (codes "\n" ++ blanks (left_of (chars first)))) ≡ lead_bytes bs line column
lead-bytes bs line column m n first second p q h =
    pointed-bytes (left_of (chars first)) (right_of (chars second))
    ∙ ap (λ t. encode_utf8_all (pointed (left_of t) (right_of (chars second)))) h.first_is
    ∙ ap (λ t. encode_utf8_all (pointed (left_of (place_in (chars bs) m n).before) (right_of t))) h.second_is
    ∙ ap (λ k. encode_utf8_all (lead_at (place_in (chars bs) k n))) p
    ∙ ap (λ k. encode_utf8_all (lead_at (place_in (chars bs) (preceding line) k))) q

-- ---- several lines
lines-append : (xs ys : Text) → shown_lines (xs ++ ys) ≡ shown_lines xs ++ shown_lines ys
lines-append [] ys = refl
lines-append (c ∷ xs) ys = ap (λ z. cond (c == 10) (c ∷ []) (shown_as c) ++ z) (lines-append xs ys) ∙ sym (append_assoc (cond (c == 10) (c ∷ []) (shown_as c)) (shown_lines xs) (shown_lines ys))

-- one character more, in bytes
pub lines-more : (xs : Text) (c : ℕ) → encode_utf8_all (shown_lines xs) ++ encode_utf8_all (shown_lines (c ∷ [])) ≡ encode_utf8_all (shown_lines (xs ++ (c ∷ [])))
lines-more xs c = sym (encodes-append (shown_lines xs) (shown_lines (c ∷ []))) ∙ ap encode_utf8_all (sym (lines-append xs (c ∷ [])))
