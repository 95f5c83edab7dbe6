-- The bytes of texts that are appended one after another.
use Rattle.std.proofs.Common.{◌≡◌, true, ◌++◌, ◌∙◌, sym, ap, append_assoc}
use Rattle.std.proofs.lemmas.Str.{encodes-append}
use Rattle.std.specs.Char.{is_ascii}
use Rattle.std.specs.List.{list_all}
use Rattle.std.specs.Str.{encode_utf8_all}
use Rattle.irtext_base.specs.Text.{Text}
use Rattle.irtext_syntax.specs.PartSteps.{ascii_bytes}

-- an ASCII text is appended as its bytes
pub ascii_piece : (f text bytes new : Text) → list_all is_ascii text ≡ true → bytes ≡ text → new ≡ f ++ bytes → new ≡ f ++ encode_utf8_all text
ascii_piece f text bytes new a e n = n ∙ ap (λ z. f ++ z) (e ∙ sym (ascii_bytes text a))

-- three texts, one after another
pub pieces : (f a b c m n new : Text) → m ≡ f ++ encode_utf8_all a → n ≡ m ++ encode_utf8_all b → new ≡ n ++ encode_utf8_all c → new ≡ f ++ encode_utf8_all (a ++ (b ++ c))
pieces f a b c m n new e g h =
    h ∙ (ap (λ z. z ++ encode_utf8_all c) (g ∙ ap (λ z. z ++ encode_utf8_all b) e)
    ∙ (append_assoc (f ++ encode_utf8_all a) (encode_utf8_all b) (encode_utf8_all c)
    ∙ (append_assoc f (encode_utf8_all a) (encode_utf8_all b ++ encode_utf8_all c)
    ∙ ap (λ z. f ++ z) (ap (λ z. encode_utf8_all a ++ z) (sym (encodes-append b c)) ∙ sym (encodes-append a (b ++ c))))))
