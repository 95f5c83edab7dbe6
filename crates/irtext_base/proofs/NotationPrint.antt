-- The bytes of the notation of directives.
use Rattle.std.proofs.Common.{◌≡◌, List, [], ◌∷◌, ◌++◌, true, refl, ◌∙◌, ap, ap₂, flat_map, length, arith}
use Rattle.std.proofs.lemmas.Str.{encodes-append}
use Rattle.std.specs.Prelude.{codes}
use Rattle.std.specs.List.{list_all, join_by}
use Rattle.std.specs.Str.{encode_utf8_all}
use Rattle.std.proofs.lemmas.Str.{encode_ascii}
use Rattle.irtext_base.specs.Text.{Text, in_word, is_identifier}
use Rattle.irtext_base.specs.FormatViews.{directive_of, directives_of}
use Rattle.irtext_base.specs.Notation.{directive_text, spaced_bytes}
use Rattle.irtext_base.specs.declared.format.Directive as code
use Rattle.irtext_stream.proofs.NotationSteps.{encodes-ascii}
use Rattle.irtext_base.proofs.Characters.{and_left, and_right, in_word_small, identifier_every}

word_bytes : (s : Text) → list_all in_word s ≡ true → encode_utf8_all s ≡ s
word_bytes [] e = refl
word_bytes (c ∷ s) e =
    rw (encode_ascii c (in_word_small c (and_left (in_word c) (list_all in_word s) e))) (ap (λ z. c ∷ z) (word_bytes s (and_right (in_word c) (list_all in_word s) e)))

-- a key after a `$`
pub key_bytes : (k : Text) → is_identifier k ≡ true → encode_utf8_all (codes "$" ++ k) ≡ codes "$" ++ k
key_bytes k e = encodes-append (codes "$") k ∙ ap₂ (λ x y. x ++ y) (encodes-ascii (codes "$") refl) (word_bytes k (identifier_every k e))

more_bytes : (ds : List code.Directive) → encode_utf8_all (flat_map (λ y. codes " " ++ directive_text y) (directives_of ds)) ≡ flat_map spaced_bytes ds
more_bytes [] = refl
more_bytes (d ∷ ds) =
    let text = directive_text (directive_of d) in
    encodes-append (codes " " ++ text) (flat_map (λ y. codes " " ++ directive_text y) (directives_of ds))
    ∙ ap₂ (λ x y. x ++ y) (encodes-append (codes " ") text ∙ ap (λ z. z ++ encode_utf8_all text) (encodes-ascii (codes " ") refl)) (more_bytes ds)

-- directives with a space between them
pub directives_bytes : (d : code.Directive) (ds : List code.Directive) → encode_utf8_all (join_by directive_text (codes " ") (directives_of (d ∷ ds))) ≡ encode_utf8_all (directive_text (directive_of d)) ++ flat_map spaced_bytes ds
directives_bytes d ds = encodes-append (directive_text (directive_of d)) (flat_map (λ y. codes " " ++ directive_text y) (directives_of ds)) ∙ ap (λ z. encode_utf8_all (directive_text (directive_of d)) ++ z) (more_bytes ds)

-- no directives
pub none_bytes : (ds : List code.Directive) → length ds ≡ 0 → [] ≡ encode_utf8_all (join_by directive_text (codes " ") (directives_of ds))
none_bytes [] e = refl
none_bytes (d ∷ ds) e = absurd (omega (arith, e))
