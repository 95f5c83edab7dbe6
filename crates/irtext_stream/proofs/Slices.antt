-- Fronts of characters of a kind, and texts that come next, among bytes.
use Rattle.std.proofs.Common.{◌≡◌, ℕ, ◌+◌, ◌-◌, ◌<◌, ◌≤◌, Bool, true, false, cond, Some, None, List, [], ◌∷◌, ◌++◌, length, get_or, take, drop, refl, sym, ◌∙◌, ap, arith, length-append, length-drop, append_assoc, take-add, ◌&&◌, nat_eq, true≢false}
use Rattle.std.specs.Prelude.{MatchBool}
use Rattle.std.proofs.lemmas.List.{append-nil, drop-drop, take-append-drop, get_or-drop}
use Rattle.std.proofs.lemmas.Str.{encodes-chars, scalars-chars, encodes-append, chars-append, encode_same, encode_ascii, IsUtf8-append}
use Rattle.std.proofs.Math.Seq.{take-append_seam}
use Rattle.std.specs.Str.{chars, IsUtf8, encode_utf8_all, all_scalars}
use Rattle.std.specs.Char.{encode_utf8}
use lib.Utf8.{scalar}
use Rattle.irtext_stream.specs.Text.{Text, front, after}
use Rattle.irtext_stream.specs.Stream.{first_of, advanced_by}
use Rattle.irtext_stream.specs.Index.{Ends, ComesAt, width_of}
use Rattle.std.specs.Cmp.Lexicographic.{pointwise}
use Rattle.std.proofs.lemmas.Slice.Eq.{starts_is}
use Rattle.std.proofs.lemmas.Bool.Decides.{Decides-eqb, nat_tests}
use lib.Dec.{eqb}
use Rattle.irtext_stream.proofs.Lines.{rest_of}
use Rattle.irtext_stream.proofs.Encoded.{encode_some}
use Rattle.irtext_stream.proofs.Bytes.{first_some, one_more, next_by_byte, next_at_end}

-- the front and what is left of it make the text
pub front_after : (p : ℕ → Bool) (text : Text) → front p text ++ after p text ≡ text
front_after p [] = refl
front_after p (c ∷ text) = elim (p c) as (λ b. cond b (c ∷ front p text) [] ++ cond b (after p text) (c ∷ text) ≡ c ∷ text) [ true ↦ ap (λ z. c ∷ z) (front_after p text) | false ↦ refl ]

-- the front of characters of a kind has come so far
pub record Ahead (bytes : List ℕ) (from : ℕ) (kind : ℕ → Bool) (at : ℕ) : Type 0 where
  pub within : at ≤ length bytes
  pub passed_utf8 : IsUtf8 (take at bytes)
  pub rest_utf8 : IsUtf8 (drop at bytes)
  pub taken : Text
  pub passed : chars (take at bytes) ≡ chars (take from bytes) ++ taken
  pub front_is : taken ++ front kind (chars (drop at bytes)) ≡ front kind (chars (drop from bytes))
  pub after_is : after kind (chars (drop at bytes)) ≡ after kind (chars (drop from bytes))

-- at first nothing was taken
pub ahead_none : (bytes : List ℕ) (from : ℕ) (kind : ℕ → Bool) → from ≤ length bytes → IsUtf8 (take from bytes) → IsUtf8 (drop from bytes) → Ahead bytes from kind from
ahead_none bytes from kind l f u = record { within = l; passed_utf8 = f; rest_utf8 = u; taken = []; passed = sym (append-nil (chars (take from bytes))); front_is = refl; after_is = refl }

-- a width that is not 0 is of a character of the kind
record Next (kind : ℕ → Bool) (text : Text) (width : ℕ) : Type 0 where
  pub c : ℕ
  pub rest : Text
  pub is : text ≡ c ∷ rest
  pub passes : kind c ≡ true
  pub size : width ≡ length (encode_utf8 c)

next_of : (kind : ℕ → Bool) (text : Text) (width : ℕ) → width ≡ width_of kind text → (width ≡ 0 → ⊥) → Next kind text width
next_of kind [] width e n = absurd (n e)
next_of kind (c ∷ text) width e n = go (kind c) refl
  where
    go : (b : Bool) → kind c ≡ b → Next kind (c ∷ text) width
    go true h = record { c = c; rest = text; is = refl; passes = h; size = e ∙ ap (λ b. cond b (length (encode_utf8 c)) 0) h }
    go false h = absurd (n (e ∙ ap (λ b. cond b (length (encode_utf8 c)) 0) h))

-- one more character of the kind
pub ahead_more : (bytes : List ℕ) (from : ℕ) (kind : ℕ → Bool) (at width : ℕ) → Ahead bytes from kind at → width ≡ width_of kind (chars (drop at bytes)) → (width ≡ 0 → ⊥) → Ahead bytes from kind (at + width)
ahead_more bytes from kind at width a e n =
    let x = next_of kind (chars (drop at bytes)) width e n in
    let m = one_more bytes at width x.c a.within a.passed_utf8 a.rest_utf8 (sym (ap first_of x.is)) x.size in
    let r : chars (drop (at + width) bytes) ≡ x.rest = ap (λ v. v.rest) (m.advances false) ∙ ap (λ t. (advanced_by (chars (take at bytes)) t false).rest) x.is in
    let f : front kind (chars (drop at bytes)) ≡ x.c ∷ front kind x.rest = ap (front kind) x.is ∙ ap (λ b. cond b (x.c ∷ front kind x.rest) []) x.passes in
    let g : after kind (chars (drop at bytes)) ≡ after kind x.rest = ap (after kind) x.is ∙ ap (λ b. cond b (after kind x.rest) (x.c ∷ x.rest)) x.passes in
    record {
      within = m.within;
      passed_utf8 = m.passed_utf8;
      rest_utf8 = m.rest_utf8;
      taken = a.taken ++ (x.c ∷ []);
      passed = m.passed ∙ (ap (λ t. t ++ (x.c ∷ [])) a.passed ∙ append_assoc (chars (take from bytes)) a.taken (x.c ∷ []));
      front_is = ap (λ t. (a.taken ++ (x.c ∷ [])) ++ front kind t) r ∙ (append_assoc a.taken (x.c ∷ []) (front kind x.rest) ∙ (ap (λ t. a.taken ++ t) (sym f) ∙ a.front_is));
      after_is = ap (after kind) r ∙ (sym g ∙ a.after_is);
    }

stops : (kind : ℕ → Bool) (text : Text) → 0 ≡ width_of kind text → (front kind text ≡ []) × (after kind text ≡ text)
stops kind [] e = (refl, refl)
stops kind (c ∷ text) e = go (kind c) refl
  where
    go : (b : Bool) → kind c ≡ b → (front kind (c ∷ text) ≡ []) × (after kind (c ∷ text) ≡ c ∷ text)
    go true h = absurd (omega (arith, e ∙ ap (λ b. cond b (length (encode_utf8 c)) 0) h, encode_some c))
    go false h = (ap (λ b. cond b (c ∷ front kind text) []) h, ap (λ b. cond b (after kind text) (c ∷ text)) h)

-- where no character of the kind comes the front ends
pub ahead_ends : (bytes : List ℕ) (from : ℕ) (kind : ℕ → Bool) (at : ℕ) → Ahead bytes from kind at → 0 ≡ width_of kind (chars (drop at bytes)) → Ends bytes from kind at
ahead_ends bytes from kind at a e =
    let s = stops kind (chars (drop at bytes)) e in
    record {
      within = a.within;
      passed_utf8 = a.passed_utf8;
      rest_utf8 = a.rest_utf8;
      passed = a.passed ∙ ap (λ t. chars (take from bytes) ++ t) (sym (append-nil a.taken) ∙ (ap (λ t. a.taken ++ t) (sym s.0) ∙ a.front_is));
      rest = sym s.1 ∙ a.after_is;
    }

-- the longest prefix, continued from a position inside it, ends where the whole does
pub ends_after : (bytes : List ℕ) (from : ℕ) (kind : ℕ → Bool) (at to : ℕ) → Ahead bytes from kind at → Ends bytes at kind to → Ends bytes from kind to
ends_after bytes from kind at to a e =
    let old = chars (take from bytes) in
    record {
      within = e.within;
      passed_utf8 = e.passed_utf8;
      rest_utf8 = e.rest_utf8;
      passed = e.passed ∙ (ap (λ t. t ++ front kind (chars (drop at bytes))) a.passed ∙ (append_assoc old a.taken (front kind (chars (drop at bytes))) ∙ ap (λ t. old ++ t) a.front_is));
      rest = e.rest ∙ a.after_is;
    }

-- the width of a character that is known
pub width_some : (kind : ℕ → Bool) (text : Text) (c : ℕ) → Some c ≡ first_of text → width_of kind text ≡ cond (kind c) (length (encode_utf8 c)) 0
width_some kind text c e = let s = first_some text c e in ap (width_of kind) s.1

-- there is none at the end
pub width_none : (kind : ℕ → Bool) (text : Text) → None ≡ first_of text → width_of kind text ≡ 0
width_none kind [] e = refl
width_none kind (c ∷ text) e = absurd (cc)

-- ---- a text that comes next
-- the rest of UTF-8 after UTF-8 is UTF-8
utf8_after : (xs : Text) (b : List ℕ) (zs : Text) → all_scalars zs ≡ true → encode_utf8_all xs ++ b ≡ encode_utf8_all zs → IsUtf8 b
utf8_after [] b zs s e = (zs, (s, sym e))
utf8_after (c ∷ xs) b [] s e = absurd (omega (arith, ap length e, encode_some c, length-append (encode_utf8 c ++ encode_utf8_all xs) b, length-append (encode_utf8 c) (encode_utf8_all xs)))
utf8_after (c ∷ xs) b (d ∷ zs) s e = utf8_after xs b zs (more (scalar d) (all_scalars zs) s) (encode_same c d (encode_utf8_all xs ++ b) (encode_utf8_all zs) (sym (append_assoc (encode_utf8 c) (encode_utf8_all xs) b) ∙ e)).1
  where
    more : (a b : Bool) → (a && b) ≡ true → b ≡ true
    more true b e = e
    more false b e = absurd (cc)

-- the place after a text whose bytes come next
pub after_bytes : (bytes : List ℕ) (o : ℕ) (text : List ℕ) → o ≤ length bytes → IsUtf8 (take o bytes) → IsUtf8 (drop o bytes) → IsUtf8 text → drop o bytes ≡ text ++ drop (length text) (drop o bytes) → ComesAt bytes o text
after_bytes bytes o text l f u t e =
    let d : drop (length text) (drop o bytes) ≡ drop (o + length text) bytes = drop-drop (length text) o bytes in
    let b : drop o bytes ≡ text ++ drop (o + length text) bytes = e ∙ ap (λ z. text ++ z) d in
    let p : take (o + length text) bytes ≡ take o bytes ++ text = take-add o (length text) bytes ∙ ap (λ z. take o bytes ++ z) (ap (take (length text)) b ∙ take-append_seam text (drop (o + length text) bytes)) in
    let z : encode_utf8_all (chars text) ++ drop (o + length text) bytes ≡ encode_utf8_all (chars (drop o bytes)) = ap (λ x. x ++ drop (o + length text) bytes) (encodes-chars text t) ∙ (sym b ∙ sym (encodes-chars (drop o bytes) u)) in
    record {
      within = omega (arith, l, length-drop o bytes, ap length b, length-append text (drop (o + length text) bytes));
      passed_utf8 = rw p (IsUtf8-append (take o bytes) text f t);
      rest_utf8 = utf8_after (chars text) (drop (o + length text) bytes) (chars (drop o bytes)) (scalars-chars (drop o bytes) u) z;
      passed = ap chars p ∙ chars-append (take o bytes) text f;
      rest = ap chars b ∙ chars-append text (drop (o + length text) bytes) t;
    }

-- a text that comes next in characters comes next in bytes
pub comes_next : (bytes : List ℕ) (o : ℕ) (text : List ℕ) (rest : Text) → IsUtf8 (drop o bytes) → IsUtf8 text → chars (drop o bytes) ≡ chars text ++ rest → drop o bytes ≡ text ++ encode_utf8_all rest
comes_next bytes o text rest u t e = sym (encodes-chars (drop o bytes) u) ∙ (ap encode_utf8_all e ∙ (encodes-append (chars text) rest ∙ ap (λ z. z ++ encode_utf8_all rest) (encodes-chars text t)))

-- the text's characters
pub all_chars : (bytes : List ℕ) (o : ℕ) → IsUtf8 (take o bytes) → chars (take o bytes) ++ chars (drop o bytes) ≡ chars bytes
all_chars bytes o f = sym (chars-append (take o bytes) (drop o bytes) f) ∙ ap chars (take-append-drop o bytes)

-- the width of a character of one byte
pub byte_width : (bs cs : List ℕ) (o b : ℕ) (kind : ℕ → Bool) → cs ≡ bs → IsUtf8 (drop o bs) → o < length cs → b ≡ get_or cs o 0 → b < 128 → width_of kind (chars (drop o bs)) ≡ cond (kind b) 1 0
byte_width bs cs o b kind same u l e h =
    let f : b ≡ get_or bs o 0 = e ∙ ap (λ z. get_or z o 0) same in
    let n : Some b ≡ first_of (chars (drop o bs)) = ap Some f ∙ next_by_byte bs o u (omega (arith, l, ap length same)) (omega (arith, f, h)) in
    width_some kind (chars (drop o bs)) b n ∙ ap (λ k. cond (kind b) (length k) 0) (encode_ascii b h)

-- no byte is left at the end
pub no_width : (bs cs : List ℕ) (o : ℕ) (kind : ℕ → Bool) → cs ≡ bs → length cs ≤ o → width_of kind (chars (drop o bs)) ≡ 0
no_width bs cs o kind same l = width_none kind (chars (drop o bs)) (next_at_end bs o (omega (arith, l, ap length same)))

-- the width of a byte that is a character of the kind
pub byte_of : (bs cs : List ℕ) (o b : ℕ) (kind : ℕ → Bool) → cs ≡ bs → IsUtf8 (drop o bs) → o < length cs → b ≡ get_or cs o 0 → (b < 128) × (kind b ≡ true) → 1 ≡ width_of kind (chars (drop o bs))
byte_of bs cs o b kind same u l e h = sym (byte_width bs cs o b kind same u l e h.0 ∙ ap (λ k. cond k 1 0) h.1)

-- the width of a byte that is another character
pub byte_not_of : (bs cs : List ℕ) (o b : ℕ) (kind : ℕ → Bool) → cs ≡ bs → IsUtf8 (drop o bs) → o < length cs → b ≡ get_or cs o 0 → b < 128 → (b < 128 → kind b ≡ false) → 0 ≡ width_of kind (chars (drop o bs))
byte_not_of bs cs o b kind same u l e h n = sym (byte_width bs cs o b kind same u l e h ∙ ap (λ k. cond k 1 0) (n h))

-- whether a text comes next, by its bytes
pub comes : (bs cs text word : List ℕ) (o : ℕ) (r : Bool) → cs ≡ bs → word ≡ text → r ≡ pointwise eqb word (take (length word) (take (length cs - o) (drop o cs))) → (r ≡ true → drop o bs ≡ text ++ drop (length text) (drop o bs)) × ((rest : List ℕ) → drop o bs ≡ text ++ rest → r ≡ true)
comes bs cs text word o r same w e =
    let f : r ≡ pointwise eqb text (take (length text) (drop o bs)) = e ∙ (ap (λ z. pointwise eqb z (take (length z) (take (length cs - o) (drop o cs)))) w ∙ ap (λ z. pointwise eqb text (take (length text) z)) (rest_of bs cs o same)) in
    starts_is (λ a b. Decides-eqb a b) (drop o bs) text r f

-- what a result about the bytes says of the text
pub comes_where : (bs word : List ℕ) (o : ℕ) (r : Bool) → o ≤ length bs → IsUtf8 (take o bs) → IsUtf8 (drop o bs) → IsUtf8 word → (r ≡ true → drop o bs ≡ word ++ drop (length word) (drop o bs)) × ((rest : List ℕ) → drop o bs ≡ word ++ rest → r ≡ true) → MatchBool r (ComesAt bs o word) ((rest : List ℕ) → chars (drop o bs) ≡ chars word ++ rest → ⊥)
comes_where bs word o true l f u t p = after_bytes bs o word l f u t (p.0 refl)
comes_where bs word o false l f u t p = λ rest e. true≢false (sym (p.1 (encode_utf8_all rest) (comes_next bs o word rest u t e)))

first_and_rest : (xs : List ℕ) → 0 < length xs → xs ≡ get_or xs 0 0 ∷ drop 1 xs
first_and_rest [] l = absurd (omega arith)
first_and_rest (x ∷ xs) l = refl

-- whether a text of one byte comes next
pub one_comes : (bs cs text word : List ℕ) (o b : ℕ) (r : Bool) → cs ≡ bs → word ≡ text → length word ≡ 1 → o < length cs → b ≡ get_or cs o 0 → r ≡ nat_eq b (get_or word 0 0) → (r ≡ true → drop o bs ≡ text ++ drop (length text) (drop o bs)) × ((rest : List ℕ) → drop o bs ≡ text ++ rest → r ≡ true)
one_comes bs cs [] word o b r same w n l e t = absurd (omega (arith, n, ap length w))
one_comes bs cs (x ∷ y ∷ text) word o b r same w n l e t = absurd (omega (arith, n, ap length w))
one_comes bs cs (x ∷ []) word o b r same w n l e t =
    let within : 0 < length (drop o bs) = omega (arith, length-drop o bs, l, ap length same) in
    let first : get_or (drop o bs) 0 0 ≡ b = get_or-drop o bs 0 0 ∙ (ap (λ k. get_or bs k 0) (omega arith) ∙ sym (e ∙ ap (λ z. get_or z o 0) same)) in
    let split : drop o bs ≡ b ∷ drop 1 (drop o bs) = first_and_rest (drop o bs) within ∙ ap (λ z. z ∷ drop 1 (drop o bs)) first in
    let test : r ≡ nat_eq b x = t ∙ ap (λ z. nat_eq b (get_or z 0 0)) w in
    (λ h. split ∙ ap (λ z. z ∷ drop 1 (drop o bs)) (same_number b x (sym test ∙ h)), λ rest h. test ∙ number_same b x (sym first ∙ ap (λ z. get_or z 0 0) h))
  where
    same_number : (a b : ℕ) → nat_eq a b ≡ true → a ≡ b
    same_number a b e = grind (arith, nat_tests)

    number_same : (a b : ℕ) → a ≡ b → nat_eq a b ≡ true
    number_same a b e = grind (arith, nat_tests)

-- at the end none does
pub none_comes : (bs cs text word : List ℕ) (o : ℕ) → cs ≡ bs → word ≡ text → length word ≡ 1 → length cs ≤ o → (false ≡ true → drop o bs ≡ text ++ drop (length text) (drop o bs)) × ((rest : List ℕ) → drop o bs ≡ text ++ rest → false ≡ true)
none_comes bs cs text word o same w n l = (λ h. absurd (true≢false (sym h)), λ rest h. absurd (omega (arith, ap length h, length-append text rest, length-drop o bs, l, ap length same, n, ap length w)))
