-- Names are ASCII, so their bytes are their characters.
use Rattle.std.proofs.Common.{◌≡◌, ◌<◌, ◌++◌, ◌^◌, ◌∙◌, ℕ, List, Some, None, Result, Ok, Err, IfOk, IsTrue, ap, refl, codes, decimal}
use Rattle.std.specs.Str.{IsAscii, chars}
use Rattle.std.proofs.lemmas.Str.{IsAscii-append, chars-IsAscii}
use Rattle.std.proofs.lemmas.Fmt.{IsAscii-decimal}
use Rattle.irtext_base.specs.Text.{Text, is_identifier}
use Rattle.irtext_grammar.proofs.Lists.Ascii.{ascii-from, ascii-identifier}
use Rattle.irtext_grammar.specs.Spelling.PrintedNames.{prefixed, value_name, block_name}

-- a text after an identifier
ascii-prefixed : (name text : Text) → IsTrue (is_identifier name) → IsAscii text → IsAscii (prefixed (Some name) text)
ascii-prefixed name text word ascii = IsAscii-append name (codes "_" ++ text) (ascii-identifier name word) (IsAscii-append (codes "_") text (ascii-from (codes "_") refl) ascii)

-- a value without a given name
pub ascii-value : (n : ℕ) → n < 2 ^ 64 → IsAscii (value_name None n)
ascii-value n small = IsAscii-append (codes "v") (decimal n) (ascii-from (codes "v") refl) (IsAscii-decimal n small)

-- a block without a label
pub ascii-block : (place generation : ℕ) → place < 2 ^ 64 → generation < 2 ^ 64 → IsAscii (block_name None (place, generation))
ascii-block place generation first second =
    IsAscii-append (codes "block") (decimal place ++ (codes "v" ++ decimal generation)) (ascii-from (codes "block") refl)
    (IsAscii-append (decimal place) (codes "v" ++ decimal generation) (IsAscii-decimal place first)
    (ascii-value generation second))

-- a value with a given name
pub ascii-named : (name : Text) (n : ℕ) → IsTrue (is_identifier name) → n < 2 ^ 64 → IsAscii (value_name (Some name) n)
ascii-named name n word small = ascii-prefixed name (value_name None n) word (ascii-value n small)

-- a block with a label
pub ascii-labelled : (name : Text) (place generation : ℕ) → IsTrue (is_identifier name) → place < 2 ^ 64 → generation < 2 ^ 64 → IsAscii (block_name (Some name) (place, generation))
ascii-labelled name place generation word first second = ascii-prefixed name (block_name None (place, generation)) word (ascii-block place generation first second)

-- the characters of an ASCII text that was written in bytes
pub characters : {S E : Type 0} (bytes : S → List ℕ) (r : Result S E) (text : Text) → IsAscii text → IfOk r (λ s. bytes s ≡ text) → IfOk r (λ s. chars (bytes s) ≡ text)
characters bytes (Ok s) text ascii is = ap chars is ∙ chars-IsAscii text ascii
characters bytes (Err e) text ascii is = tt
