-- Names of values and labels of blocks, appended piece by piece.
use Rattle.std.proofs.Common.{◌≡◌, ◌∙◌, ◌++◌, ℕ, List, refl, sym, ap, append_assoc, arith, Option, Some, None, IsTrue, codes}
use Rattle.std.specs.Fmt.{decimal}
use Rattle.std.proofs.lemmas.Fmt.{decimal_digit}
use Rattle.std.specs.Str.{encode_utf8_all}
use Rattle.irtext_base.specs.Text.{Text, is_identifier}
use Rattle.irtext_grammar.specs.Spelling.PrintedNames.{prefixed, value_name, block_name}
use Rattle.irtext_grammar.proofs.Lists.Ascii.{ascii-identifier, encodes-ascii}
use Rattle.irtext_print.proofs.Printers.Locations.{word, more, worded, ending}

-- an identifier was appended
identifier : (name text : Text) (old new : List ℕ) → IsTrue (is_identifier name) → text ≡ name → new ≡ old ++ text → new ≡ old ++ encode_utf8_all name
identifier name text old new i e p = p ∙ ap (λ z. old ++ z) (e ∙ sym (encodes-ascii name (ascii-identifier name i)))

-- a value with a given name
pub named_value : (name text : Text) (n : ℕ) (f0 f1 f2 f3 : List ℕ) → IsTrue (is_identifier name) → text ≡ name → f1 ≡ f0 ++ text → f2 ≡ f1 ++ codes "_v" → f3 ≡ f2 ++ encode_utf8_all (decimal n)
    → f3 ≡ f0 ++ encode_utf8_all (value_name (Some name) n)
named_value name text n f0 f1 f2 f3 i e p q r = more f0 f1 f3 name (codes "_v" ++ decimal n) (identifier name text f0 f1 i e p) (worded f1 f2 f3 (codes "_v") (decimal n) refl q r)

-- what precedes the place of a block without a label
pub plain_front : (f0 f1 : List ℕ) → f1 ≡ f0 ++ codes "^block" → f1 ≡ f0 ++ encode_utf8_all (codes "^" ++ prefixed None (codes "block"))
plain_front f0 f1 p = p ∙ ap (λ z. f0 ++ z) (word (codes "^block") refl)

-- the same of a block with a label
pub labelled_front : (name text : Text) (f0 f1 f2 f3 : List ℕ) → IsTrue (is_identifier name) → text ≡ name → f1 ≡ f0 ++ codes "^" → f2 ≡ f1 ++ text → f3 ≡ f2 ++ codes "_block"
    → f3 ≡ f0 ++ encode_utf8_all (codes "^" ++ prefixed (Some name) (codes "block"))
labelled_front name text f0 f1 f2 f3 i e p q r = worded f0 f1 f3 (codes "^") (name ++ codes "_block") refl p (ending f1 f2 f3 name (codes "_block") refl (identifier name text f1 f2 i e q) r)

-- what follows a name's word follows the whole name
prefixed_more : (label : Option Text) (word rest : Text) → prefixed label word ++ rest ≡ prefixed label (word ++ rest)
prefixed_more None word rest = refl
prefixed_more (Some name) word rest = append_assoc name (codes "_" ++ word) rest

-- a block
pub block_placed : (label : Option Text) (place generation : ℕ) (f0 f1 f2 f3 f4 : List ℕ) → f1 ≡ f0 ++ encode_utf8_all (codes "^" ++ prefixed label (codes "block")) → f2 ≡ f1 ++ encode_utf8_all (decimal place)
    → f3 ≡ f2 ++ codes "v" → f4 ≡ f3 ++ encode_utf8_all (decimal generation) → f4 ≡ f0 ++ encode_utf8_all (codes "^" ++ block_name label (place, generation))
block_placed label place generation f0 f1 f2 f3 f4 p q r s =
    let rest = decimal place ++ (codes "v" ++ decimal generation) in
    more f0 f1 f4 (codes "^" ++ prefixed label (codes "block")) rest p (more f1 f2 f4 (decimal place) (codes "v" ++ decimal generation) q (worded f2 f3 f4 (codes "v") (decimal generation) refl r s))
    ∙ ap (λ z. f0 ++ encode_utf8_all (codes "^" ++ z)) (prefixed_more label (codes "block") rest)

-- a block of the first generation
pub block_first : (label : Option Text) (place generation : ℕ) (f0 f1 f2 f3 : List ℕ) → generation ≡ 1 → f1 ≡ f0 ++ encode_utf8_all (codes "^" ++ prefixed label (codes "block")) → f2 ≡ f1 ++ encode_utf8_all (decimal place)
    → f3 ≡ f2 ++ codes "v1" → f3 ≡ f0 ++ encode_utf8_all (codes "^" ++ block_name label (place, generation))
block_first label place generation f0 f1 f2 f3 one p q r =
    let digit : decimal generation ≡ codes "1" = ap decimal one ∙ decimal_digit 1 (omega arith) in
    block_placed label place generation f0 f1 f2 (f2 ++ codes "v") f3 p q refl
    (r ∙ sym (append_assoc f2 (codes "v") (codes "1")) ∙ ap (λ z. (f2 ++ codes "v") ++ z) (word (codes "1") refl ∙ ap encode_utf8_all (sym digit)))
