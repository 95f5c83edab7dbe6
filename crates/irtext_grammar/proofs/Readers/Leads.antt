-- A lead, and what follows it.
use Rattle.std.proofs.Common.{◌≡◌, ℕ, ◌<◌, arith, length-append, true, not, [], ◌∷◌, length, eqb, refl}
use Rattle.std.specs.Str.{encode_utf8_all}
use Rattle.std.specs.Char.{encode_utf8}
use Rattle.std.proofs.lemmas.Bool.Decides.{nat_tests}
use Rattle.std.proofs.lemmas.Str.{len_utf8_bounds, length-encode}
use Rattle.irtext_base.specs.Text.{Text}
use Rattle.irtext_grammar.specs.Readers.Parts.{is_led}

nonzero : (n : ℕ) → 0 < n → not (eqb n 0) ≡ true
nonzero n h = grind (arith, nat_tests)

-- a text without bytes is no lead
pub is_led-bytes : (lead : Text) → not (eqb (length (encode_utf8_all lead)) 0) ≡ is_led lead
is_led-bytes [] = refl
is_led-bytes (c ∷ lead) = nonzero (length (encode_utf8_all (c ∷ lead))) (omega (arith, length-append (encode_utf8 c) (encode_utf8_all lead), length-encode c, len_utf8_bounds c))
