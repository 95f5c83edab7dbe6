-- Texts of Unicode scalar values.
use Rattle.std.proofs.Common.{◌≡◌, ℕ, ◌<◌, Bool, true, false, cond, ◌==◌, [], ◌∷◌, ◌++◌, refl, subst, arith}
use Rattle.std.proofs.lemmas.Bool.Decides.{nat_tests}
use Rattle.std.proofs.lemmas.Str.{IsUtf8-from_ascii, chars-IsAscii, scalars-chars}
use Rattle.std.specs.Prelude.{codes}
use Rattle.std.specs.Char.{is_ascii_control}
use Rattle.std.specs.Fmt.{digits}
use Rattle.std.specs.Str.{IsAscii, all_scalars}
use lib.Utf8.{scalar}
use Rattle.irtext_base.specs.Text.{Text}
pub use Rattle.irtext_stream.proofs.Bytes.{scalars_more}
use Rattle.irtext_base.specs.Quoted.{hexadecimal, image_of, images, quoted}
use Rattle.irtext_base.proofs.Characters.{ascii, and_left, and_right}

-- a text of Unicode scalar values
abbrev pub AreScalars : Text → Type 0
AreScalars text = all_scalars text ≡ true

-- so is ASCII
pub scalars_ascii : (text : Text) → IsAscii text → AreScalars text
scalars_ascii text a = subst AreScalars (chars-IsAscii text a) (scalars-chars text (IsUtf8-from_ascii text a))

-- ---- quoted texts
scalars_either : (b : Bool) (s t : Text) → AreScalars s → AreScalars t → AreScalars (cond b s t)
scalars_either true s t h k = h
scalars_either false s t h k = k

-- a control's number is written in digits
abbrev numbered : ℕ → Bool
numbered c = all_scalars (codes "\\u{" ++ (hexadecimal c ++ codes "}"))

numbered_all : (c : ℕ) → c < 128 → numbered c ≡ true
unfolding digits
numbered_all c h = ascii numbered refl c h

control_small : (c : ℕ) → is_ascii_control c ≡ true → c < 128
control_small c e = grind (arith, nat_tests)

controlled : (c : ℕ) → AreScalars (c ∷ []) → AreScalars (cond (is_ascii_control c) (codes "\\u{" ++ (hexadecimal c ++ codes "}")) (c ∷ []))
controlled c h = go (is_ascii_control c) refl
  where
    go : (b : Bool) → is_ascii_control c ≡ b → AreScalars (cond b (codes "\\u{" ++ (hexadecimal c ++ codes "}")) (c ∷ []))
    go true e = numbered_all c (control_small c e)
    go false e = h

image : (c : ℕ) → AreScalars (c ∷ []) → AreScalars (image_of c)
image c h =
    scalars_either (c == 0) _ _ refl (scalars_either (c == 9) _ _ refl (scalars_either (c == 10) _ _ refl (scalars_either (c == 13) _ _ refl (scalars_either (c == 34) _ _ refl (scalars_either (c == 92) _ _ refl (controlled c h))))))

all_images : (text : Text) → AreScalars text → AreScalars (images text)
all_images [] h = refl
all_images (c ∷ text) h =
    let one : AreScalars (c ∷ []) = rw (and_left (scalar c) (all_scalars text) h) refl in
    scalars_more (image_of c) (images text) (image c one) (all_images text (and_right (scalar c) (all_scalars text) h))

-- a quoted text of scalar values is one
pub scalars_quoted : (text : Text) → AreScalars text → AreScalars (quoted text)
scalars_quoted text h = scalars_more (codes "\"") (images text ++ codes "\"") refl (scalars_more (images text) (codes "\"") (all_images text h) refl)
