-- Where lines begin, and the line and the column of a place.
use Rattle.std.proofs.Common.{◌≡◌, ℕ, zero, suc, ◌+◌, ◌-◌, ◌*◌, ◌/◌, ◌<◌, ◌≤◌, Bool, true, false, cond, not, List, [], ◌∷◌, ◌++◌, length, get_or, take, drop, count_by, reverse, refl, sym, ◌∙◌, ap, arith, length-append, length-drop, append_assoc, ⊎_elim, eq-or-lt_of_le, le_of_suc-le-suc, subst, take-add, Some, None, ◌==◌}
use Rattle.std.proofs.lemmas.List.Sums.{sum_by-append, sum_by-cons, sum_by-take-drop, count_by-le-length, take_while-cons}
use Rattle.std.proofs.lemmas.List.{append-nil, reverse-append, get_or_append_left, take_all, length-take-le}
use Rattle.std.proofs.Math.Seq.{get_or-append_seam, drop-append_seam, take-append_seam}
use Rattle.std.proofs.lemmas.Bool.Decides.{nat_tests}
use Rattle.std.proofs.lemmas.Str.{encodes-append, encodes-chars}
use Rattle.std.specs.List.{take_while}
use Rattle.std.specs.Str.{encode_utf8_all, chars, IsUtf8}
use Rattle.memchr.specs.Find.{IsFirstByte, is_byte}
use Rattle.std.specs.Char.{encode_utf8}
use Rattle.irtext_stream.specs.Text.{Text, is_newline, line_after, column_after}
use Rattle.irtext_stream.specs.Index.{BeginsLine, AreStarts, AreBlocks, begins_character, entry_before}
use Rattle.irtext_stream.proofs.Encoded.{Split, encode_some, characters_begin, split_newline, no_newlines}

-- ---- tests of bytes
eqb-true : (b c : ℕ) → (b == c) ≡ true → b ≡ c
eqb-true b c e = grind (arith, nat_tests)

true-eqb : {b c : ℕ} → b ≡ c → (b == c) ≡ true
true-eqb {b} {c} e = grind (arith, nat_tests)

-- ---- newlines
pub newlines_of : (xs ys : Text) → count_by is_newline (xs ++ ys) ≡ count_by is_newline xs + count_by is_newline ys
newlines_of xs ys = sum_by-append (λ c. cond (is_newline c) 1 0) xs ys

newline_more : (c : ℕ) (ys : Text) → count_by is_newline (c ∷ ys) ≡ cond (is_newline c) 1 0 + count_by is_newline ys
newline_more c ys = sum_by-cons (λ c. cond (is_newline c) 1 0) c ys

-- ---- columns
column_step : (xs : Text) (c : ℕ) → column_after (xs ++ (c ∷ [])) ≡ 1 + length (cond (not (is_newline c)) (c ∷ take_while (λ c. not (is_newline c)) (reverse xs)) [])
column_step xs c = ap (λ t. 1 + length (take_while (λ c. not (is_newline c)) t)) (reverse-append xs (c ∷ [])) ∙ ap (λ t. 1 + length t) (take_while-cons (λ c. not (is_newline c)) c (reverse xs))

-- a character that is no newline goes one column on
pub column_more : (xs : Text) (c : ℕ) → is_newline c ≡ false → column_after (xs ++ (c ∷ [])) ≡ suc (column_after xs)
column_more xs c e =
    let h : column_after (xs ++ (c ∷ [])) ≡ 1 + suc (length (take_while (λ c. not (is_newline c)) (reverse xs))) = column_step xs c ∙ ap (λ b. 1 + length (cond (not b) (c ∷ take_while (λ c. not (is_newline c)) (reverse xs)) [])) e in
    omega (arith, h)

-- after a newline the column is 1
pub column_fresh : (xs : Text) → column_after (xs ++ (10 ∷ [])) ≡ 1
column_fresh xs = column_step xs 10

-- a text without newlines goes as many columns on as it has characters
pub columns : (xs ys : Text) → count_by is_newline ys ≡ 0 → column_after (xs ++ ys) ≡ column_after xs + length ys
columns xs [] e = ap column_after (append-nil xs) ∙ omega arith
columns xs (c ∷ ys) e = go (is_newline c) refl (columns (xs ++ (c ∷ [])) ys)
  where
    go : (b : Bool) → is_newline c ≡ b → (count_by is_newline ys ≡ 0 → column_after ((xs ++ (c ∷ [])) ++ ys) ≡ column_after (xs ++ (c ∷ [])) + length ys) → column_after (xs ++ (c ∷ ys)) ≡ column_after xs + length (c ∷ ys)
    go true h more = absurd (omega (arith, e, newline_more c ys ∙ ap (λ b. cond b 1 0 + count_by is_newline ys) h))
    go false h more =
        let q : count_by is_newline (c ∷ ys) ≡ 0 + count_by is_newline ys = newline_more c ys ∙ ap (λ b. cond b 1 0 + count_by is_newline ys) h in
        let r : count_by is_newline ys ≡ 0 = omega (arith, q, e) in
        ap column_after (sym (append_assoc xs (c ∷ []) ys)) ∙ (more r ∙ omega (arith, column_more xs c h))

-- ---- fronts of one text, by their bytes
pub front_between : (xs a ys b : Text) → xs ++ a ≡ ys ++ b → length (encode_utf8_all xs) ≤ length (encode_utf8_all ys) → (z : Text) × (ys ≡ xs ++ z)
front_between [] a ys b e h = (ys, refl)
front_between (c ∷ xs) a [] b e h = absurd (omega (arith, h, encode_some c, length-append (encode_utf8 c) (encode_utf8_all xs)))
front_between (c ∷ xs) a (d ∷ ys) b e h =
    let s : (c ≡ d) × (xs ++ a ≡ ys ++ b) = cons_same c d (xs ++ a) (ys ++ b) e in
    let l : length (encode_utf8_all xs) ≤ length (encode_utf8_all ys) = omega (arith, h, ap (λ c. length (encode_utf8 c)) s.0, length-append (encode_utf8 c) (encode_utf8_all xs), length-append (encode_utf8 d) (encode_utf8_all ys)) in
    let m = front_between xs a ys b s.1 l in
    (m.0, ap (λ c. c ∷ ys) (sym s.0) ∙ ap (λ t. c ∷ t) m.1)
  where
    cons_same : (c d : ℕ) (s t : Text) → c ∷ s ≡ d ∷ t → (c ≡ d) × (s ≡ t)
    cons_same c d s t e = (cc, cc)

-- ---- the lines' beginnings
pub no_line : (text : Text) → BeginsLine text 0 0
no_line text = record { before = []; following = text; same = refl; at = refl; counts = refl; fresh = refl }

newline_size : length (encode_utf8_all (10 ∷ [])) ≡ 1
unfolding lib.Utf8.encode
newline_size = refl

-- the next line begins after the next newline
pub next_line : (text : Text) (o n i : ℕ) (l : BeginsLine text o n) → Split l.following i → BeginsLine text (o + (i + 1)) (suc n)
next_line text o n i l s =
    let more : length (encode_utf8_all (s.line ++ (10 ∷ []))) ≡ length (encode_utf8_all s.line) + 1 = ap length (encodes-append s.line (10 ∷ [])) ∙ (length-append (encode_utf8_all s.line) (encode_utf8_all (10 ∷ [])) ∙ ap (λ n. length (encode_utf8_all s.line) + n) newline_size) in
    let all : length (encode_utf8_all (l.before ++ (s.line ++ (10 ∷ [])))) ≡ length (encode_utf8_all l.before) + length (encode_utf8_all (s.line ++ (10 ∷ []))) = ap length (encodes-append l.before (s.line ++ (10 ∷ []))) ∙ length-append (encode_utf8_all l.before) (encode_utf8_all (s.line ++ (10 ∷ []))) in
    record {
      before = l.before ++ (s.line ++ (10 ∷ []));
      following = s.rest;
      same = append_assoc l.before (s.line ++ (10 ∷ [])) s.rest ∙ (ap (λ t. l.before ++ t) (append_assoc s.line (10 ∷ []) s.rest ∙ sym s.is) ∙ l.same);
      at = omega (arith, l.at, s.at, more, all);
      counts = newlines_of l.before (s.line ++ (10 ∷ [])) ∙ omega (arith, l.counts, newlines_of s.line (10 ∷ []), s.none);
      fresh = ap column_after (sym (append_assoc l.before s.line (10 ∷ []))) ∙ column_fresh (l.before ++ s.line);
    }

-- ---- a place and the line that it is on
pub record OnLine (passed : Text) (start line : ℕ) : Type 0 where
  pub before : Text
  pub between : Text
  pub same : passed ≡ before ++ between
  pub begins : start ≡ length (encode_utf8_all before)
  pub is_line : line_after passed ≡ 1 + line
  pub is_column : column_after passed ≡ 1 + length between

-- after the beginning of a line, with as many newlines before
on_line : (text passed rest : Text) (start line : ℕ) → passed ++ rest ≡ text → (l : BeginsLine text start line) → start ≤ length (encode_utf8_all passed) → count_by is_newline passed ≤ line → OnLine passed start line
on_line text passed rest start line e l h c =
    let z = front_between l.before l.following passed rest (l.same ∙ sym e) (omega (arith, l.at)) in
    let n : count_by is_newline passed ≡ count_by is_newline l.before + count_by is_newline z.0 = ap (count_by is_newline) z.1 ∙ newlines_of l.before z.0 in
    let none : count_by is_newline z.0 ≡ 0 = omega (arith, n, c, l.counts) in
    record {
      before = l.before;
      between = z.0;
      same = z.1;
      begins = l.at;
      is_line = omega (arith, n, none, l.counts);
      is_column = ap column_after z.1 ∙ (columns l.before z.0 none ∙ omega (arith, l.fresh));
    }

-- fewer newlines are before a place that precedes a line's beginning
fewer : (text passed rest : Text) (start line : ℕ) → passed ++ rest ≡ text → (l : BeginsLine text start (suc line)) → length (encode_utf8_all passed) < start → count_by is_newline passed ≤ line
fewer text passed rest start line e l h =
    let z = front_between passed rest l.before l.following (e ∙ sym l.same) (omega (arith, l.at)) in
    let n : suc line ≡ count_by is_newline passed + count_by is_newline z.0 = sym l.counts ∙ (ap (count_by is_newline) z.1 ∙ newlines_of passed z.0) in
    let size : start ≡ length (encode_utf8_all passed) + length (encode_utf8_all z.0) = l.at ∙ (ap (λ t. length (encode_utf8_all t)) z.1 ∙ (ap length (encodes-append passed z.0) ∙ length-append (encode_utf8_all passed) (encode_utf8_all z.0))) in
    go z.0 (count_by is_newline z.0) refl n z.1 size
  where
    go : (t : Text) (k : ℕ) → count_by is_newline t ≡ k → suc line ≡ count_by is_newline passed + count_by is_newline t → l.before ≡ passed ++ t → start ≡ length (encode_utf8_all passed) + length (encode_utf8_all t) → count_by is_newline passed ≤ line
    go t (suc k) e n b s = omega (arith, e, n)
    go [] zero e n b s = absurd (omega (arith, s, h))
    go (c ∷ t) zero e n b s = absurd (omega (arith, sym l.fresh ∙ (ap column_after b ∙ columns passed (c ∷ t) e), l.fresh))

-- as few, if no line begins after it
last : (text passed rest : Text) (line : ℕ) → passed ++ rest ≡ text → count_by is_newline text ≡ line → count_by is_newline passed ≤ line
last text passed rest line e n = omega (arith, n, ap (count_by is_newline) e, newlines_of passed rest)

few : (text passed rest : Text) (starts : List ℕ) (k : ℕ) → AreStarts text starts → passed ++ rest ≡ text → k ≤ length starts → (k < length starts → length (encode_utf8_all passed) < get_or starts k 0) → count_by is_newline passed ≤ k
few text passed rest starts k a e w f = ⊎_elim (λ (h : k ≡ length starts). last text passed rest k e (a.all ∙ sym h)) (λ (h : k < length starts). fewer text passed rest (get_or starts k 0) k e (a.each k h) (f h)) (eq-or-lt_of_le w)

-- a place is on the line if it is between the beginning of the line and that of the next
pub is_on_line : (text passed rest : Text) (starts : List ℕ) (k : ℕ) → AreStarts text starts → passed ++ rest ≡ text → k ≤ length starts → (0 < k → get_or starts (k - 1) 0 ≤ length (encode_utf8_all passed)) → (k < length starts → length (encode_utf8_all passed) < get_or starts k 0) → OnLine passed (entry_before starts k) k
is_on_line text passed rest starts zero a e w b f = on_line text passed rest 0 0 e (no_line text) (omega arith) (few text passed rest starts zero a e w f)
is_on_line text passed rest starts (suc k) a e w b f =
    let h : get_or starts (suc k - 1) 0 ≡ get_or starts k 0 = ap (λ j. get_or starts j 0) (omega arith) in
    on_line text passed rest (get_or starts k 0) (suc k) e (a.each k (omega (arith, w))) (omega (arith, b (omega arith), h)) (few text passed rest starts (suc k) a e w f)

-- ---- the tables as they are made
-- what holds of each entry holds with one more
pub entries_more : (P : ℕ → ℕ → Type 0) (xs : List ℕ) (x : ℕ) → ((k : ℕ) → k < length xs → P (get_or xs k 0) k) → P x (length xs) → (k : ℕ) → k < length (xs ++ (x ∷ [])) → P (get_or (xs ++ (x ∷ [])) k 0) k
entries_more P xs x a p k h =
    ⊎_elim
    (λ (e : k ≡ length xs). subst (λ j. P (get_or (xs ++ (x ∷ [])) j 0) j) (sym e) (subst (λ y. P y (length xs)) (sym (get_or-append_seam xs x [] 0)) p))
    (λ (l : k < length xs). subst (λ y. P y k) (sym (get_or_append_left xs (x ∷ []) 0 k l)) (a k l))
    (eq-or-lt_of_le (le_of_suc-le-suc (omega (arith, h, length-append xs (x ∷ [])))))

-- the bytes after the beginning of a line
pub record Coming (bs : List ℕ) (o : ℕ) (following : Text) : Type 0 where
  pub within : o ≤ length bs
  pub bytes : drop o bs ≡ encode_utf8_all following

-- what follows the beginning of a line, in bytes
pub coming : (bs : List ℕ) (o n : ℕ) → IsUtf8 bs → (l : BeginsLine (chars bs) o n) → Coming bs o l.following
coming bs o n u l =
    let b : encode_utf8_all l.before ++ encode_utf8_all l.following ≡ bs = sym (encodes-append l.before l.following) ∙ (ap encode_utf8_all l.same ∙ encodes-chars bs u) in
    record {
      within = omega (arith, l.at, ap length b, length-append (encode_utf8_all l.before) (encode_utf8_all l.following));
      bytes = rw (l.at, ← b) (drop-append_seam (encode_utf8_all l.before) (encode_utf8_all l.following));
    }

-- after the first newline of what follows a line begins
pub line_found : (bs part : List ℕ) (o n i : ℕ) → IsUtf8 bs → (l : BeginsLine (chars bs) o n) → part ≡ drop o bs → IsFirstByte (is_byte 10) part (Some i) → BeginsLine (chars bs) (o + (i + 1)) (suc n)
line_found bs part o n i u l p f =
    let e : part ≡ encode_utf8_all l.following = p ∙ (coming bs o n u l).bytes in
    let g = subst (λ z. IsFirstByte (is_byte 10) z (Some i)) e f in
    next_line (chars bs) o n i l (split_newline l.following i g.0.high (eqb-true _ _ g.1) (λ j h q. g.0.before j (omega arith) h (true-eqb q)))

-- no line begins after the last newline
pub lines_end : (bs part starts : List ℕ) (o : ℕ) → IsUtf8 bs → (l : BeginsLine (chars bs) o (length starts)) → part ≡ drop o bs → IsFirstByte (is_byte 10) part None → ((k : ℕ) → k < length starts → BeginsLine (chars bs) (get_or starts k 0) (suc k)) → AreStarts (chars bs) starts
lines_end bs part starts o u l p f a =
    let e : part ≡ encode_utf8_all l.following = p ∙ (coming bs o (length starts) u l).bytes in
    let g = subst (λ z. IsFirstByte (is_byte 10) z None) e f in
    let none : count_by is_newline l.following ≡ 0 = no_newlines l.following (λ j h q. g j (omega arith) h (true-eqb q)) in
    record { each = a; all = ap (count_by is_newline) (sym l.same) ∙ (newlines_of l.before l.following ∙ omega (arith, none, l.counts)) }

-- ---- counting in pieces
pub counted_more : (bs : List ℕ) (o n : ℕ) → count_by begins_character (take (o + n) bs) ≡ count_by begins_character (take o bs) + count_by begins_character (take n (drop o bs))
counted_more bs o n = ap (count_by begins_character) (take-add o n bs) ∙ sum_by-append (λ b. cond (begins_character b) 1 0) (take o bs) (take n (drop o bs))

-- the slice from an offset to the end
pub rest_of : (bs cs : List ℕ) (o : ℕ) → cs ≡ bs → take (length cs - o) (drop o cs) ≡ drop o bs
rest_of bs cs o e = take_all (length cs - o) (drop o cs) (omega (arith, length-drop o cs)) ∙ ap (drop o) e

-- ---- characters before an offset
-- where each byte is a character
pub single_before : (bs : List ℕ) (o : ℕ) → count_by begins_character bs ≡ length bs → o ≤ length bs → o ≡ count_by begins_character (take o bs)
single_before bs o e h =
    let a = sum_by-take-drop (λ b. cond (begins_character b) 1 0) bs o in
    omega (arith, e, a, count_by-le-length begins_character (take o bs), count_by-le-length begins_character (drop o bs), length-take-le o bs h, length-drop o bs)

-- before a block
pub block_before : (bs blocks : List ℕ) (k : ℕ) → AreBlocks bs blocks → k ≤ length blocks → entry_before blocks k ≡ count_by begins_character (take (512 * k) bs)
block_before bs blocks zero a h = refl
block_before bs blocks (suc k) a h = a.each k (omega (arith, h))

-- the number of an offset's block
pub block_within : (bs blocks : List ℕ) (o : ℕ) → AreBlocks bs blocks → o ≤ length bs → o / 512 ≤ length blocks
block_within bs blocks o a h = omega (arith, a.all)

-- before an offset
pub offset_before : (bs blocks : List ℕ) (o p n : ℕ) → AreBlocks bs blocks → o ≤ length bs → p ≡ entry_before blocks (o / 512) → n ≡ count_by begins_character (take (o - (o / 512) * 512) (drop ((o / 512) * 512) bs)) → p + n ≡ count_by begins_character (take o bs)
offset_before bs blocks o p n a h e f =
    let b : entry_before blocks (o / 512) ≡ count_by begins_character (take (512 * (o / 512)) bs) = block_before bs blocks (o / 512) a (block_within bs blocks o a h) in
    let same : 512 * (o / 512) ≡ (o / 512) * 512 = omega arith in
    let d : count_by begins_character (take (512 * (o / 512)) bs) ≡ count_by begins_character (take ((o / 512) * 512) bs) = ap (λ k. count_by begins_character (take k bs)) same in
    let whole : (o / 512) * 512 + (o - (o / 512) * 512) ≡ o = omega arith in
    let m : count_by begins_character (take ((o / 512) * 512 + (o - (o / 512) * 512)) bs) ≡ count_by begins_character (take o bs) = ap (λ k. count_by begins_character (take k bs)) whole in
    omega (arith, e, b, d, f, m, counted_more bs ((o / 512) * 512) (o - (o / 512) * 512))

-- ---- the position
-- how many characters begin before a place
pub front_begins : (bs : List ℕ) (xs ys : Text) → IsUtf8 bs → xs ++ ys ≡ chars bs → count_by begins_character (take (length (encode_utf8_all xs)) bs) ≡ length xs
front_begins bs xs ys u e =
    let b : encode_utf8_all xs ++ encode_utf8_all ys ≡ bs = sym (encodes-append xs ys) ∙ (ap encode_utf8_all e ∙ encodes-chars bs u) in
    let t : take (length (encode_utf8_all xs)) bs ≡ encode_utf8_all xs = rw (← b) (take-append_seam (encode_utf8_all xs) (encode_utf8_all ys)) in
    ap (count_by begins_character) t ∙ characters_begin xs

-- the line and the column of a place, by its line's number and the characters that begin before
pub position_is : (bs : List ℕ) (passed rest : Text) (starts : List ℕ) (offset line : ℕ) → IsUtf8 bs → AreStarts (chars bs) starts → passed ++ rest ≡ chars bs → offset ≡ length (encode_utf8_all passed) → line ≤ length starts → (0 < line → get_or starts (line - 1) 0 ≤ offset) → (line < length starts → offset < get_or starts line 0)
    → (line_after passed ≡ 1 + line) × (column_after passed ≡ 1 + (count_by begins_character (take offset bs) - count_by begins_character (take (entry_before starts line) bs)))
position_is bs passed rest starts offset line u a e o w b f =
    let l = is_on_line (chars bs) passed rest starts line a e w (λ h. omega (arith, o, b h)) (λ h. omega (arith, o, f h)) in
    let x : count_by begins_character (take offset bs) ≡ length passed = ap (λ k. count_by begins_character (take k bs)) o ∙ front_begins bs passed rest u e in
    let split : l.before ++ (l.between ++ rest) ≡ chars bs = sym (append_assoc l.before l.between rest) ∙ (ap (λ t. t ++ rest) (sym l.same) ∙ e) in
    let y : count_by begins_character (take (entry_before starts line) bs) ≡ length l.before = ap (λ k. count_by begins_character (take k bs)) l.begins ∙ front_begins bs l.before (l.between ++ rest) u split in
    let z : length passed ≡ length l.before + length l.between = ap length l.same ∙ length-append l.before l.between in
    (l.is_line, omega (arith, l.is_column, x, y, z))

-- fewer characters begin before an earlier offset
pub counted_less : (bs : List ℕ) (m n : ℕ) → m ≤ n → count_by begins_character (take m bs) ≤ count_by begins_character (take n bs)
counted_less bs m n h =
    let e : m + (n - m) ≡ n = omega arith in
    let f : count_by begins_character (take (m + (n - m)) bs) ≡ count_by begins_character (take n bs) = ap (λ k. count_by begins_character (take k bs)) e in
    omega (arith, f, counted_more bs m (n - m))
