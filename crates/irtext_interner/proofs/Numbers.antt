-- A text that is interned is under its number, and no text has two numbers.
use Rattle.std.proofs.Common.{◌≡◌, ◌∙◌, ap, refl, sym, subst, ℕ, ◌<◌, ◌≤◌, Bool, true, false, cond, nat_lt, Option, Some, None, Result, Ok, Err, List, [], length, position, take, get_or, arith, true≢false, ltb-false, ⊎_elim}
use Rattle.std.proofs.lemmas.List.Quantifiers.{position-Some}
use Rattle.std.proofs.lemmas.List.Sums.{fails_before_first}
use Rattle.std.proofs.lemmas.Option.{slice_get-get_or}
use Rattle.std.proofs.lemmas.Slice.Eq.{bytes_eq-Decides}
use Rattle.std.specs.Prelude.{IfOk, OnOk, OnErr}
use Rattle.std.specs.List.{slice_get, position_or_len}
use Rattle.std.specs.Str.{bytes_eq}
use Rattle.irtext_interner.specs.Interned.{number_or_next, found_or_last, number_of, with_text, KeepsTexts, AreDistinct}
use Rattle.irtext_interner.proofs.Lists.{get_within, get_or_there, get_snoc, get_last, get_front, get_before}

-- a text that is not found is not in the list
absent : (texts : List (List ℕ)) (text : List ℕ) (i : ℕ) → position (bytes_eq text) texts ≡ None → slice_get texts i ≡ Some text → ⊥
absent texts text i e h =
    let l = get_within texts i text h in
    let far = far_off (nat_lt (position_or_len (bytes_eq text) texts) (length texts)) refl e in
    let f = fails_before_first (bytes_eq text) texts i [] (omega arith) in
    true≢false (sym ((bytes_eq-Decides text (get_or texts i [])).1 (sym (get_or_there texts i [] text h))) ∙ f)
  where
    far_off : (b : Bool) → nat_lt (position_or_len (bytes_eq text) texts) (length texts) ≡ b → cond b (Some (position_or_len (bytes_eq text) texts)) None ≡ None
        → length texts ≤ position_or_len (bytes_eq text) texts
    far_off true k m = cc
    far_off false k m = ltb-false (position_or_len (bytes_eq text) texts) (length texts) k

pub named : (texts : List (List ℕ)) (text : List ℕ) → slice_get (with_text texts text) (number_of texts text) ≡ Some text
named texts text = by (position (bytes_eq text) texts) refl
  where
    by : (o : Option ℕ) → position (bytes_eq text) texts ≡ o → slice_get (found_or_last o texts text) (number_or_next o texts) ≡ Some text
    by (Some i) e =
        let r = position-Some (bytes_eq text) texts i [] e in
        slice_get-get_or texts i [] r.0 ∙ ap Some (sym ((bytes_eq-Decides text (get_or texts i [])).0 r.1))
    by None e = get_last texts text

pub stays : (texts : List (List ℕ)) (text : List ℕ) → KeepsTexts texts (with_text texts text)
stays texts text = by (position (bytes_eq text) texts)
  where
    by : (o : Option ℕ) → KeepsTexts texts (found_or_last o texts text)
    by (Some i) = λ j t h. h
    by None = λ j t h. get_front texts text t j h

pub distinct : (texts : List (List ℕ)) (text : List ℕ) → AreDistinct texts → AreDistinct (with_text texts text)
distinct texts text d = by (position (bytes_eq text) texts) refl
  where
    by : (o : Option ℕ) → position (bytes_eq text) texts ≡ o → AreDistinct (found_or_last o texts text)
    by (Some k) e = d
    by None e = λ i j t hi hj. ⊎_elim
        (λ a. ⊎_elim (λ b. d i j t a.0 b.0) (λ b. absurd (absent texts text i e (a.0 ∙ ap Some (sym b.1)))) (get_snoc texts text j t hj))
        (λ a. ⊎_elim (λ b. absurd (absent texts text j e (b.0 ∙ ap Some (sym a.1)))) (λ b. a.0 ∙ sym b.0) (get_snoc texts text j t hj))
        (get_snoc texts text i t hi)

-- ---- the same for a call that interns a text, or is an error and changes nothing
module _ {E : Type 0} (old new : List (List ℕ)) (text : List ℕ) where
  pub named_after : (r : Result ℕ E) → IfOk r (λ i. i ≡ number_of old text) → OnOk r (new ≡ with_text old text) → IfOk r (λ i. slice_get new i ≡ Some text)
  named_after (Ok i) n k = (λ q. slice_get (k q) (n q)) ∙ named old text
  named_after (Err x) n k = tt

  pub within_after : (r : Result ℕ E) → IfOk r (λ i. slice_get new i ≡ Some text) → IfOk r (λ i. i < length new)
  within_after (Ok i) h = get_within new i text h
  within_after (Err x) h = tt

  pub stays_after : (r : Result ℕ E) → OnOk r (new ≡ with_text old text) → OnErr r (new ≡ old) → KeepsTexts old new
  stays_after (Ok i) k e = subst (λ z. KeepsTexts old z) (sym k) (stays old text)
  stays_after (Err x) k e = subst (λ z. KeepsTexts old z) (sym e) (λ i t h. h)

  pub distinct_after : (r : Result ℕ E) → OnOk r (new ≡ with_text old text) → OnErr r (new ≡ old) → AreDistinct old → AreDistinct new
  distinct_after (Ok i) k e d = subst (λ z. AreDistinct z) (sym k) (distinct old text d)
  distinct_after (Err x) k e d = subst (λ z. AreDistinct z) (sym e) d

-- the first of some distinct texts are distinct
pub distinct_first : (count : ℕ) (texts : List (List ℕ)) → AreDistinct texts → AreDistinct (take count texts)
distinct_first count texts d = λ i j text at_i at_j. d i j text (get_before count texts i text at_i) (get_before count texts j text at_j)
