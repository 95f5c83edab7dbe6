-- The front of plain characters ends at the first byte that is a quotation mark or a backslash.
use Rattle.std.proofs.Common.{◌≡◌, ℕ, zero, suc, ◌+◌, ◌-◌, ◌<◌, ◌≤◌, Bool, true, false, cond, Some, None, List, [], ◌∷◌, ◌++◌, length, get_or, take, drop, refl, sym, ◌∙◌, ap, arith, length-append, length-drop, append_assoc, true≢false, ⊎_elim, subst}
use Rattle.std.proofs.lemmas.Bool.{cases_lt}
use Rattle.std.proofs.lemmas.Bool.Decides.{nat_tests}
use Rattle.std.proofs.lemmas.List.{get_or_append_left, get_or-append-add, length-take-le}
use Rattle.std.proofs.lemmas.Str.{encode_ascii, encodes-append, encodes-chars}
use Rattle.std.specs.Char.{encode_utf8}
use Rattle.std.specs.Str.{chars, encode_utf8_all, IsUtf8}
use Rattle.memchr.specs.Find.{IsFirstByte, is_byte2}
use Rattle.irtext_stream.specs.Text.{Text, front, after, is_plain}
use Rattle.irtext_stream.specs.Index.{Ends}
use Rattle.irtext_stream.proofs.Bytes.{parts_at}
use Rattle.irtext_stream.proofs.Encoded.{high_at, high_bytes}
use Rattle.irtext_stream.proofs.Slices.{front_after}

wide_plain : (c : ℕ) → 128 ≤ c → is_plain c ≡ true
wide_plain c h = grind (arith, nat_tests)

mark_low : (c : ℕ) → is_plain c ≡ false → c < 128
mark_low c e = grind (arith, nat_tests)

-- each byte of a plain character is plain
plain_byte : (c : ℕ) → is_plain c ≡ true → (j : ℕ) → j < length (encode_utf8 c) → is_plain (get_or (encode_utf8 c) j 0) ≡ true
plain_byte c e j l = ⊎_elim (λ (h : c < 128). rw (encode_ascii c h) (low j (rw (encode_ascii c h) at l))) (λ (h : 128 ≤ c). wide_plain _ (high_at (encode_utf8 c) (high_bytes c h) j l)) (cases_lt c 128)
  where
    low : (j : ℕ) → j < 1 → is_plain (get_or (c ∷ []) j 0) ≡ true
    low zero l = e
    low (suc j) l = absurd (omega arith)

-- the bytes before this one are plain, and it is not, where it is one
record FirstMark (bytes : List ℕ) (i : ℕ) : Type 0 where
  pub within : i ≤ length bytes
  pub before : (j : ℕ) → j < i → is_plain (get_or bytes j 0) ≡ true
  pub here : i < length bytes → is_plain (get_or bytes i 0) ≡ false

-- the first byte that is not plain is right after the longest prefix of plain characters
front_size : (cs : Text) (i : ℕ) → FirstMark (encode_utf8_all cs) i → i ≡ length (encode_utf8_all (front is_plain cs))
front_size [] i m = omega (arith, m.within)
front_size (c ∷ cs) i m = go (is_plain c) refl (front_size cs (i - length (encode_utf8 c)))
  where
    at_first : (j : ℕ) → j < length (encode_utf8 c) → get_or (encode_utf8 c ++ encode_utf8_all cs) j 0 ≡ get_or (encode_utf8 c) j 0
    at_first j l = get_or_append_left (encode_utf8 c) (encode_utf8_all cs) 0 j l

    none : (i : ℕ) → (0 < i → ⊥) → i ≡ 0
    none zero f = refl
    none (suc i) f = absurd (f (omega arith))

    go : (b : Bool) → is_plain c ≡ b → (FirstMark (encode_utf8_all cs) (i - length (encode_utf8 c)) → i - length (encode_utf8 c) ≡ length (encode_utf8_all (front is_plain cs))) → i ≡ length (encode_utf8_all (cond b (c ∷ front is_plain cs) []))
    go true h more = ⊎_elim (λ (l : i < length (encode_utf8 c)). absurd (true≢false (sym (sym (m.here (omega (arith, l, length-append (encode_utf8 c) (encode_utf8_all cs)))) ∙ (ap is_plain (at_first i l) ∙ plain_byte c h i l))))) (λ (l : length (encode_utf8 c) ≤ i). far l) (cases_lt i (length (encode_utf8 c)))
      where
        far : length (encode_utf8 c) ≤ i → i ≡ length (encode_utf8_all (c ∷ front is_plain cs))
        far l =
            let n = length (encode_utf8 c) in
            let at : n + (i - n) ≡ i = omega arith in
            let k : FirstMark (encode_utf8_all cs) (i - n) = record {
              within = omega (arith, m.within, length-append (encode_utf8 c) (encode_utf8_all cs));
              before = λ j s. ap is_plain (sym (get_or-append-add (encode_utf8 c) (encode_utf8_all cs) j 0)) ∙ m.before (n + j) (omega (arith, s));
              here = λ s. ap is_plain (sym (get_or-append-add (encode_utf8 c) (encode_utf8_all cs) (i - n) 0) ∙ ap (λ z. get_or (encode_utf8 c ++ encode_utf8_all cs) z 0) at) ∙ m.here (omega (arith, s, length-append (encode_utf8 c) (encode_utf8_all cs)));
            } in
            omega (arith, more k, length-append (encode_utf8 c) (encode_utf8_all (front is_plain cs)))
    go false h more = none i (λ s. true≢false (sym (m.before 0 s) ∙ (ap is_plain first ∙ h)))
      where
        first : get_or (encode_utf8 c ++ encode_utf8_all cs) 0 0 ≡ c
        first = rw (encode_ascii c (mark_low c h)) refl

-- the front of plain characters ends at the first byte that is not plain
plain_ends : (bytes : List ℕ) (from i : ℕ) → from ≤ length bytes → IsUtf8 (take from bytes) → IsUtf8 (drop from bytes) → FirstMark (drop from bytes) i → Ends bytes from is_plain (from + i)
plain_ends bytes from i l f u m =
    let old = chars (take from bytes) in
    let text = chars (drop from bytes) in
    let size : i ≡ length (encode_utf8_all (front is_plain text)) = front_size text i (subst (λ z. FirstMark z i) (sym (encodes-chars (drop from bytes) u)) m) in
    let begun : length (encode_utf8_all old) ≡ from = ap length (encodes-chars (take from bytes) f) ∙ length-take-le from bytes l in
    let whole : (old ++ front is_plain text) ++ after is_plain text ≡ old ++ text = append_assoc old (front is_plain text) (after is_plain text) ∙ ap (λ z. old ++ z) (front_after is_plain text) in
    let n : from + i ≡ length (encode_utf8_all (old ++ front is_plain text)) = omega (arith, size, begun, ap length (encodes-append old (front is_plain text)), length-append (encode_utf8_all old) (encode_utf8_all (front is_plain text))) in
    let p = parts_at bytes from (from + i) (old ++ front is_plain text) (after is_plain text) f u whole n in
    record { within = p.within; passed_utf8 = p.passed_utf8; rest_utf8 = p.rest_utf8; passed = p.passed_is; rest = p.rest_is }

mark_is : (b : ℕ) → is_byte2 34 92 b ≡ true → is_plain b ≡ false
mark_is b e = grind (arith, nat_tests)

plain_is : (b : ℕ) → (is_byte2 34 92 b ≡ true → ⊥) → is_plain b ≡ true
plain_is b e = grind (arith, nat_tests)

-- where a mark was found
pub plain_found : (bytes part : List ℕ) (from i : ℕ) → from ≤ length bytes → IsUtf8 (take from bytes) → IsUtf8 (drop from bytes) → part ≡ drop from bytes → IsFirstByte (is_byte2 34 92) part (Some i) → Ends bytes from is_plain (from + i)
plain_found bytes part from i l f u p first =
    let g = subst (λ z. IsFirstByte (is_byte2 34 92) z (Some i)) p first in
    plain_ends bytes from i l f u (record { within = omega (arith, g.0.high); before = λ j s. plain_is (get_or (drop from bytes) j 0) (g.0.before j (omega arith) s); here = λ s. mark_is (get_or (drop from bytes) i 0) g.1 })

-- if none was found
pub plain_to_end : (bytes part : List ℕ) (from : ℕ) → from ≤ length bytes → IsUtf8 (take from bytes) → IsUtf8 (drop from bytes) → part ≡ drop from bytes → IsFirstByte (is_byte2 34 92) part None → Ends bytes from is_plain (length bytes)
plain_to_end bytes part from l f u p first =
    let g = subst (λ z. IsFirstByte (is_byte2 34 92) z None) p first in
    let end : from + length (drop from bytes) ≡ length bytes = omega (arith, l, length-drop from bytes) in
    subst (λ z. Ends bytes from is_plain z) end (plain_ends bytes from (length (drop from bytes)) l f u (record { within = omega arith; before = λ j s. plain_is (get_or (drop from bytes) j 0) (g j (omega arith) s); here = λ s. absurd (omega (arith, s)) }))
