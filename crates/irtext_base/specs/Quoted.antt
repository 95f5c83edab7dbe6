-- Quoted texts: characters, with escapes, between quotation marks.
use Rattle.std.specs.Prelude.{ℕ, false, cond, ◌==◌, [], ◌∷◌, ◌++◌, codes}
use Rattle.std.specs.Char.{is_ascii_control}
use Rattle.std.specs.Fmt.{digits}
use Rattle.irtext_base.specs.Text.{Text}

-- the code of a character in lower-case hexadecimal, without leading zeros
abbrev pub hexadecimal : ℕ → Text
hexadecimal c = digits 16 false c

-- the image of a character in a quoted text: six have an escape of their own, other ASCII control characters are `\u{..}` with their code,
-- and any other character is its own image
abbrev pub image_of : ℕ → Text
image_of c = cond (c == 0) (codes "\\0") (cond (c == 9) (codes "\\t") (cond (c == 10) (codes "\\n") (cond (c == 13) (codes "\\r") (cond (c == 34) (codes "\\\"") (cond (c == 92) (codes "\\\\")
    (cond (is_ascii_control c) (codes "\\u{" ++ (hexadecimal c ++ codes "}")) (c ∷ [])))))))

-- the images of the characters, one after the other
abbrev pub images : Text → Text
images [] = []
images (c ∷ cs) = image_of c ++ images cs

-- the images of the characters between quotation marks
abbrev pub quoted : Text → Text
quoted text = codes "\"" ++ (images text ++ codes "\"")
