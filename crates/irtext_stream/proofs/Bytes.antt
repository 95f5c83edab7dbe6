-- A text in bytes, and its characters before and after a place of it.
use Rattle.std.proofs.Common.{◌≡◌, ℕ, ◌+◌, ◌-◌, ◌<◌, ◌≤◌, Bool, true, Some, None, List, [], ◌∷◌, ◌++◌, length, get_or, take, drop, refl, sym, ◌∙◌, ap, arith, length-drop, length-append, append_assoc}
use Rattle.std.proofs.lemmas.Str.{IsCharBoundary-from_drop, encodes-chars, encodes-append, scalars-chars, chars-nil, chars-append, chars-encodes, char_from_byte, IsUtf8-append}
use Rattle.std.proofs.Math.Seq.{take-append-add, drop-append_seam, take-append_seam}
use Rattle.std.proofs.lemmas.List.{drop_all, append-nil, take-append-drop, length-take-le, drop-drop, get_or-drop}
use Rattle.std.specs.Str.{IsCharBoundary, chars, IsUtf8, encode_utf8_all, all_scalars}
use Rattle.std.specs.Char.{encode_utf8}
use lib.Utf8.{scalar}
use Rattle.irtext_stream.specs.Text.{Text}
use Rattle.irtext_stream.specs.Stream.{StreamView, first_of, advanced_by}
use Rattle.irtext_stream.proofs.Ascii.{and_left, and_right}

-- a text whose first character is known is that character and another text
pub first_some : (text : Text) (c : ℕ) → Some c ≡ first_of text → (rest : Text) × (text ≡ c ∷ rest)
first_some [] c e = absurd (cc)
first_some (d ∷ text) c e = (text, cc)

-- two texts of scalar values make one
pub scalars_more : (xs ys : Text) → all_scalars xs ≡ true → all_scalars ys ≡ true → all_scalars (xs ++ ys) ≡ true
scalars_more [] ys e f = f
scalars_more (c ∷ xs) ys e f = rw (and_left (scalar c) (all_scalars xs) e, scalars_more xs ys (and_right (scalar c) (all_scalars xs) e) f) refl

-- the parts of a text are texts
scalars_parts : (xs ys : Text) → all_scalars (xs ++ ys) ≡ true → (all_scalars xs ≡ true) × (all_scalars ys ≡ true)
scalars_parts [] ys e = (refl, e)
scalars_parts (c ∷ xs) ys e =
    let q = scalars_parts xs ys (and_right (scalar c) (all_scalars (xs ++ ys)) e) in
    (rw (and_left (scalar c) (all_scalars (xs ++ ys)) e, q.0) refl, q.1)

-- the first character, where it is one byte
first_by_byte : (bs : List ℕ) → IsUtf8 bs → 0 < length bs → get_or bs 0 0 < 128 → Some (get_or bs 0 0) ≡ first_of (chars bs)
first_by_byte bs ([], (s, e)) l h = absurd (omega (arith, ap length e))
first_by_byte bs (c ∷ cs, (s, e)) l h =
    let k : chars bs ≡ c ∷ cs = ap chars (sym e) ∙ chars-encodes (c ∷ cs) s in
    rw k (ap Some (sym (char_from_byte bs (encode_utf8_all cs) c (sym e) h l)))

-- the next character, where it is one byte
pub next_by_byte : (bs : List ℕ) (o : ℕ) → IsUtf8 (drop o bs) → o < length bs → get_or bs o 0 < 128 → Some (get_or bs o 0) ≡ first_of (chars (drop o bs))
next_by_byte bs o u l h =
    let g : get_or (drop o bs) 0 0 ≡ get_or bs o 0 = get_or-drop o bs 0 0 ∙ ap (λ k. get_or bs k 0) (omega arith) in
    rw g at (first_by_byte (drop o bs) u (omega (arith, length-drop o bs)) (omega (arith, g)))

-- no character is left at the end
pub next_at_end : (bs : List ℕ) (o : ℕ) → length bs ≤ o → None ≡ first_of (chars (drop o bs))
next_at_end bs o l =
    let e : drop o bs ≡ [] = drop_all o bs l in
    rw (e, chars-nil) refl

-- the place after one more character, which takes this many bytes
pub record OneMore (bs : List ℕ) (o n c : ℕ) : Type 0 where
  pub within : o + n ≤ length bs
  pub passed_utf8 : IsUtf8 (take (o + n) bs)
  pub rest_utf8 : IsUtf8 (drop (o + n) bs)
  pub passed : chars (take (o + n) bs) ≡ chars (take o bs) ++ (c ∷ [])
  pub advances : (b : Bool) → ◌≡◌ {A = StreamView} (record { passed = chars (take (o + n) bs); rest = chars (drop (o + n) bs); failed = b }) (advanced_by (chars (take o bs)) (chars (drop o bs)) b)

-- the place after the next character
pub one_more : (bs : List ℕ) (o n c : ℕ) → o ≤ length bs → IsUtf8 (take o bs) → IsUtf8 (drop o bs) → Some c ≡ first_of (chars (drop o bs)) → n ≡ length (encode_utf8 c) → OneMore bs o n c
one_more bs o n c l f u e m =
    let s = first_some (chars (drop o bs)) c e in
    let zs = s.0 in
    let q : drop o bs ≡ encode_utf8 c ++ encode_utf8_all zs = sym (encodes-chars (drop o bs) u) ∙ ap encode_utf8_all s.1 in
    let left : drop (o + n) bs ≡ encode_utf8_all zs =
    sym (drop-drop n o bs) ∙ (ap (drop n) q ∙ (ap (λ z. drop z (encode_utf8 c ++ encode_utf8_all zs)) m ∙ drop-append_seam (encode_utf8 c) (encode_utf8_all zs))) in
    let j : length (take o bs) ≡ o = length-take-le o bs l in
    let a : take (length (take o bs) + n) (take o bs ++ drop o bs) ≡ take o bs ++ take n (drop o bs) = take-append-add (take o bs) (drop o bs) n in
    let b : take (o + n) bs ≡ take o bs ++ take n (drop o bs) = rw (j, take-append-drop o bs) at a in
    let t : take n (drop o bs) ≡ encode_utf8 c = ap (take n) q ∙ (ap (λ z. take z (encode_utf8 c ++ encode_utf8_all zs)) m ∙ take-append_seam (encode_utf8 c) (encode_utf8_all zs)) in
    let one : encode_utf8_all (c ∷ []) ≡ encode_utf8 c = append-nil (encode_utf8 c) in
    let taken : take (o + n) bs ≡ take o bs ++ encode_utf8_all (c ∷ []) = b ∙ ap (λ z. take o bs ++ z) (t ∙ sym one) in
    let v : all_scalars (c ∷ zs) ≡ true = rw s.1 at (scalars-chars (drop o bs) u) in
    let p = scalars_parts (c ∷ []) zs v in
    let passed : chars (take (o + n) bs) ≡ chars (take o bs) ++ (c ∷ []) = rw (taken, chars-append (take o bs) (encode_utf8_all (c ∷ [])) f, chars-encodes (c ∷ []) p.0) refl in
    let coming : chars (drop (o + n) bs) ≡ zs = rw left (chars-encodes zs p.1) in
    record {
      within = omega (arith, m, length-drop o bs, ap length q, length-append (encode_utf8 c) (encode_utf8_all zs));
      passed_utf8 = rw taken (IsUtf8-append (take o bs) (encode_utf8_all (c ∷ [])) f (c ∷ [], (p.0, refl)));
      rest_utf8 = rw left (zs, (p.1, refl));
      passed = passed;
      advances = λ b. rw (s.1, passed, coming) refl;
    }

-- a place of a text: the bytes on both sides of it are these characters
pub record Parts (bs : List ℕ) (n : ℕ) (passed rest : Text) : Type 0 where
  pub within : n ≤ length bs
  pub passed_utf8 : IsUtf8 (take n bs)
  pub rest_utf8 : IsUtf8 (drop n bs)
  pub rest_bytes : drop n bs ≡ encode_utf8_all rest
  pub passed_is : chars (take n bs) ≡ passed
  pub rest_is : chars (drop n bs) ≡ rest

-- the text of the bytes
whole : (bs : List ℕ) (o : ℕ) → IsUtf8 (take o bs) → IsUtf8 (drop o bs) → encode_utf8_all (chars (take o bs) ++ chars (drop o bs)) ≡ bs
whole bs o f u =
    encodes-append (chars (take o bs)) (chars (drop o bs)) ∙ (rw (encodes-chars (take o bs) f, encodes-chars (drop o bs) u) (take-append-drop o bs))

-- another place of the same text
pub parts_at : (bs : List ℕ) (o n : ℕ) (passed rest : Text) → IsUtf8 (take o bs) → IsUtf8 (drop o bs) → passed ++ rest ≡ chars (take o bs) ++ chars (drop o bs) → n ≡ length (encode_utf8_all passed) → Parts bs n passed rest
parts_at bs o n passed rest f u e m =
    let b : encode_utf8_all passed ++ encode_utf8_all rest ≡ bs = sym (encodes-append passed rest) ∙ (ap encode_utf8_all e ∙ whole bs o f u) in
    let s : all_scalars (passed ++ rest) ≡ true = rw e (scalars_more (chars (take o bs)) (chars (drop o bs)) (scalars-chars (take o bs) f) (scalars-chars (drop o bs) u)) in
    let p = scalars_parts passed rest s in
    let t : take n bs ≡ encode_utf8_all passed = rw (m, ← b) (take-append_seam (encode_utf8_all passed) (encode_utf8_all rest)) in
    let d : drop n bs ≡ encode_utf8_all rest = rw (m, ← b) (drop-append_seam (encode_utf8_all passed) (encode_utf8_all rest)) in
    record {
      within = omega (arith, m, ap length b, length-append (encode_utf8_all passed) (encode_utf8_all rest));
      passed_utf8 = rw t (passed, (p.0, refl));
      rest_utf8 = rw d (rest, (p.1, refl));
      rest_bytes = d;
      passed_is = ap chars t ∙ chars-encodes passed p.0;
      rest_is = ap chars d ∙ chars-encodes rest p.1;
    }

-- the text between an earlier place and this one
pub record Between (bs : List ℕ) (o n : ℕ) (taken : Text) : Type 0 where
  pub before : n ≤ o
  pub from : IsCharBoundary bs n
  pub to : IsCharBoundary bs o
  pub slice : take (o - n) (drop n bs) ≡ encode_utf8_all taken

-- the text between two places is a slice of the bytes
pub between : (bs : List ℕ) (o n : ℕ) (passed taken : Text) → o ≤ length bs → IsUtf8 (take o bs) → IsUtf8 (drop o bs) → passed ++ taken ≡ chars (take o bs) → n ≡ length (encode_utf8_all passed) → Between bs o n taken
between bs o n passed taken l f u e m =
    let later = chars (drop o bs) in
    let at = parts_at bs o n passed (taken ++ later) f u (sym (append_assoc passed taken later) ∙ ap (λ z. z ++ later) e) m in
    let front : encode_utf8_all passed ++ encode_utf8_all taken ≡ take o bs = sym (encodes-append passed taken) ∙ (ap encode_utf8_all e ∙ encodes-chars (take o bs) f) in
    let sizes : n + length (encode_utf8_all taken) ≡ o = omega (arith, m, ap length front, length-append (encode_utf8_all passed) (encode_utf8_all taken), length-take-le o bs l) in
    let size : o - n ≡ length (encode_utf8_all taken) = omega arith in
    record {
      before = omega arith;
      from = IsCharBoundary-from_drop bs n at.within at.rest_utf8;
      to = IsCharBoundary-from_drop bs o l u;
      slice = rw (size, at.rest_bytes, encodes-append taken later) (take-append_seam (encode_utf8_all taken) (encode_utf8_all later));
    }
