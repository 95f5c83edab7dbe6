-- The bytes of lists of parts, piece by piece.
use Rattle.std.proofs.Common.{◌≡◌, ◌++◌, ◌∷◌, ◌∙◌, [], ℕ, List, sym, ap, append_assoc}
use Rattle.std.proofs.lemmas.Str.{encodes-append}
use Rattle.std.specs.Char.{encode_utf8}
use Rattle.std.specs.Str.{encode_utf8_all}
use Rattle.irtext_base.specs.Text.{Text}
use Rattle.irtext_syntax.specs.ListParts.{tail_text, joined_text}

module _ {X : Type 0} (separator : ℕ) (w : X → Text) where
  -- one more item after a separator
  pub next_written : (x : X) (xs left : List X) (f mid new all : Text) → left ≡ x ∷ xs → mid ≡ f ++ (encode_utf8 separator ++ 32 ∷ []) → new ≡ mid ++ encode_utf8_all (w x) → f ++ encode_utf8_all (tail_text separator w left) ≡ all
      → new ++ encode_utf8_all (tail_text separator w xs) ≡ all
  unfolding lib.Utf8.encode
  next_written x xs left f mid new all d m n h =
      let tail = encode_utf8_all (tail_text separator w xs) in
      let one = encode_utf8_all (w x) in
      let mark = encode_utf8 separator ++ 32 ∷ [] in
      ap (λ z. z ++ tail) (n ∙ ap (λ z. z ++ one) m)
      ∙ (append_assoc (f ++ mark) one tail
      ∙ (append_assoc f mark (one ++ tail)
      ∙ (ap (λ z. f ++ z) (append_assoc (encode_utf8 separator) (32 ∷ []) (one ++ tail) ∙ ap (λ z. encode_utf8 separator ++ (32 ∷ z)) (sym (encodes-append (w x) (tail_text separator w xs))))
      ∙ (ap (λ z. f ++ encode_utf8_all (tail_text separator w z)) (sym d) ∙ h))))

  -- the first item, and the others after separators
  pub first_written : (x : X) (xs items : List X) (f mid new : Text) → items ≡ x ∷ xs → mid ≡ f ++ encode_utf8_all (w x) → new ≡ mid ++ encode_utf8_all (tail_text separator w xs) → new ≡ f ++ encode_utf8_all (joined_text separator w items)
  first_written x xs items f mid new d m n =
      n ∙ (ap (λ z. z ++ encode_utf8_all (tail_text separator w xs)) m
      ∙ (append_assoc f (encode_utf8_all (w x)) (encode_utf8_all (tail_text separator w xs))
      ∙ (ap (λ z. f ++ z) (sym (encodes-append (w x) (tail_text separator w xs))) ∙ ap (λ z. f ++ encode_utf8_all (joined_text separator w z)) (sym d))))

-- a text between two ASCII texts
pub enclosed : (before text following f begun mid new : Text) → encode_utf8_all before ≡ before → encode_utf8_all following ≡ following → begun ≡ f ++ before → mid ≡ begun ++ encode_utf8_all text → new ≡ mid ++ following
    → new ≡ f ++ encode_utf8_all (before ++ (text ++ following))
enclosed before text following f begun mid new a b o m n =
    n ∙ (ap (λ z. z ++ following) (m ∙ ap (λ z. z ++ encode_utf8_all text) o)
    ∙ (append_assoc (f ++ before) (encode_utf8_all text) following
    ∙ (append_assoc f before (encode_utf8_all text ++ following)
    ∙ ap (λ z. f ++ z) (sym (encodes-append before (text ++ following) ∙ (ap (λ z. z ++ encode_utf8_all (text ++ following)) a ∙ ap (λ z. before ++ z) (encodes-append text following ∙ ap (λ z. encode_utf8_all text ++ z) b)))))))
