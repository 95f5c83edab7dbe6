-- What is around regions, blocks and operations, as it was appended.
use Rattle.std.proofs.Common.{◌≡◌, ◌+◌, ◌<◌, ◌++◌, ◌∷◌, ◌∙◌, [], Bool, true, false, cond, ℕ, List, Some, None, refl, sym, ap, codes}
use Rattle.std.proofs.lemmas.Str.{IsAscii-append}
use Rattle.std.specs.Str.{IsAscii, encode_utf8_all}
use Rattle.irtext_grammar.proofs.Lists.Ascii.{ascii-from, encodes-ascii}
use Rattle.irtext_grammar.specs.Spelling.Spell.{newline}
use Rattle.irtext_print.proofs.Printers.Appended.{newline-ascii, front-ascii}
use Rattle.irtext_print.specs.Printers.Printing.{lowered}
use Rattle.irtext_print.specs.declared.printable.state.RegionPrintDepthLimit.{RegionPrintDepthLimit}
use Rattle.irtext_print_ops.specs.Opened.{opening}
use Rattle.irtext_print_ops.specs.Steps.{region_front}

-- the bytes of a newline and spaces
pub newline_bytes : (i : ℕ) → encode_utf8_all (newline i) ≡ newline i
newline_bytes i = encodes-ascii (newline i) (newline-ascii i)

-- the same after a character
pub line_bytes : (c i : ℕ) → c < 128 → encode_utf8_all (c ∷ newline i) ≡ c ∷ newline i
line_bytes c i h = encodes-ascii (c ∷ newline i) (front-ascii c i h)

-- the bytes after a region's blocks
pub closing_bytes : (i : ℕ) → encode_utf8_all (newline i ++ codes "}") ≡ newline i ++ codes "}"
closing_bytes i = encodes-ascii (newline i ++ codes "}") (IsAscii-append (newline i) (codes "}") (newline-ascii i) (ascii-from (codes "}") refl))

-- the bytes before a region's blocks
pub opening_bytes : (joins : Bool) (i j : ℕ) → encode_utf8_all (cond joins [] (codes " ") ++ (newline i ++ (codes "{" ++ newline j))) ≡ cond joins [] (codes " ") ++ (newline i ++ (codes "{" ++ newline j))
opening_bytes joins i j = encodes-ascii (cond joins [] (codes " ") ++ (newline i ++ (codes "{" ++ newline j)))
    (IsAscii-append (cond joins [] (codes " ")) (newline i ++ (codes "{" ++ newline j)) (space joins)
    (IsAscii-append (newline i) (codes "{" ++ newline j) (newline-ascii i) (IsAscii-append (codes "{") (newline j) (ascii-from (codes "{") refl) (newline-ascii j))))
  where
    space : (b : Bool) → IsAscii (cond b [] (codes " "))
    space true = ascii-from [] refl
    space false = ascii-from (codes " ") refl

-- a region that is elided
pub region_elided : (joins : Bool) (width indent : ℕ) (limit : RegionPrintDepthLimit) (f0 f1 : List ℕ) → lowered limit ≡ None →
    f1 ≡ f0 ++ encode_utf8_all (cond joins [] (codes " ") ++ codes "{..}") → f1 ≡ f0 ++ encode_utf8_all (cond joins [] (codes " ") ++ region_front width indent limit)
region_elided joins width indent limit f0 f1 e p = p ∙ ap (λ o. f0 ++ encode_utf8_all (cond joins [] (codes " ") ++ elim o [ None ↦ codes "{..}" | Some _ ↦ opening width indent ])) (sym e)

-- what precedes a region's blocks
pub region_opened : (joins : Bool) (width indent inner : ℕ) (limit lower : RegionPrintDepthLimit) (f0 f1 : List ℕ) → lowered limit ≡ Some lower → inner ≡ indent + width →
    f1 ≡ f0 ++ encode_utf8_all (cond joins [] (codes " ") ++ (newline indent ++ (codes "{" ++ newline inner))) → f1 ≡ f0 ++ encode_utf8_all (cond joins [] (codes " ") ++ region_front width indent limit)
region_opened joins width indent inner limit lower f0 f1 e n p =
    p ∙ (ap (λ k. f0 ++ encode_utf8_all (cond joins [] (codes " ") ++ (newline indent ++ (codes "{" ++ newline k)))) n
    ∙ ap (λ o. f0 ++ encode_utf8_all (cond joins [] (codes " ") ++ elim o [ None ↦ codes "{..}" | Some _ ↦ opening width indent ])) (sym e))
