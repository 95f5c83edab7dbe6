-- What was printed between quotation marks is parsed back.
use Rattle.std.proofs.Common.{◌≡◌, ℕ, ◌<◌, Bool, true, false, ◌&&◌, ◌==◌, [], ◌∷◌, ◌++◌, codes, refl, sym, ◌∙◌, ap, subst, append_assoc, arith, ◌⊎◌, inl, inr}
use Rattle.std.proofs.lemmas.Bool.{eqb-true}
use Rattle.std.proofs.lemmas.Bool.Decides.{nat_tests}
use Rattle.std.specs.Char.{is_ascii_control, is_ascii_hexdigit}
use Rattle.std.specs.Str.Parse.{digits_value}
use Rattle.std.specs.Fmt.{digits}
use Rattle.std.specs.List.{list_all}
use lib.Utf8.{scalar}
use Rattle.irtext_base.specs.Text.{Text, begins, front, after}
use Rattle.irtext_base.specs.Reading.{the}
use Rattle.irtext_base.specs.Answers.{Outcome, Read, prefixed, mapped}
use Rattle.irtext_base.specs.Quoted.{hexadecimal, image_of, images, quoted}
use Rattle.irtext_base.proofs.Characters.{ascii, and_left, and_right, front_all, after_all}
use Rattle.irtext_tokens.specs.QuotedTexts.{named, unit_at, units_at, quoted_at}
use Rattle.irtext_tokens.proofs.QuotedUnits.{unit_and, units_more, braced_some}

tested : (a b : ℕ) → (a ≡ b) ⊎ ((a == b) ≡ false)
tested a b = let k : (v : Bool) → (a == b) ≡ v → (a ≡ b) ⊎ ((a == b) ≡ false) = elim [ true ↦ λ e. inl (eqb-true a b e) | false ↦ λ e. inr e ] in k (a == b) refl

control_small : (c : ℕ) → is_ascii_control c ≡ true → c < 128
control_small c e = grind (arith, nat_tests)

-- the number of a control character is written in hexadecimal digits, and is its own
abbrev numbered : ℕ → Bool
numbered c = begins is_ascii_hexdigit (hexadecimal c) && (list_all is_ascii_hexdigit (hexadecimal c) && (digits_value 16 (hexadecimal c) == c && scalar (digits_value 16 (hexadecimal c))))

numbered_all : (c : ℕ) → c < 128 → numbered c ≡ true
unfolding digits
numbered_all c h = ascii numbered refl c h

begins_append : (p : ℕ → Bool) (s rest : Text) → begins p s ≡ true → begins p (s ++ rest) ≡ true
begins_append p [] rest e = absurd (cc)
begins_append p (c ∷ s) rest e = e

-- digits in braces that write the number of a character
unit_numbered : (s rest : Text) (c : ℕ) → begins is_ascii_hexdigit s ≡ true → list_all is_ascii_hexdigit s ≡ true → digits_value 16 s ≡ c → scalar (digits_value 16 s) ≡ true → unit_at (codes "\\u{" ++ (s ++ (125 ∷ rest))) ≡ Read c (codes "\\u{" ++ (s ++ codes "}")) rest
unfolding unit_at
unit_numbered s rest c b a v k =
    let f : front is_ascii_hexdigit (s ++ (125 ∷ rest)) ≡ s = front_all is_ascii_hexdigit s (125 ∷ rest) a refl in
    let t : after is_ascii_hexdigit (s ++ (125 ∷ rest)) ≡ 125 ∷ rest = after_all is_ascii_hexdigit s (125 ∷ rest) a refl in
    let n : named s rest ≡ Read c (codes "\\u{" ++ (s ++ codes "}")) rest = rw k (ap (λ z. let o : Outcome ℕ = Read z (codes "\\u{" ++ (s ++ codes "}")) rest in o) v) in
    braced_some (s ++ (125 ∷ rest)) (begins_append is_ascii_hexdigit s (125 ∷ rest) b) ∙ (rw (f, t) n)

-- what is written of a character is one unit, which means the character
Fine : Text → ℕ → Type 0
Fine rest c = (begins (the 34) (image_of c ++ rest) ≡ false) × (unit_at (image_of c ++ rest) ≡ Read c (image_of c) rest)

module _ (rest : Text) where
  plain : (c : ℕ) → (c == 0) ≡ false → (c == 9) ≡ false → (c == 10) ≡ false → (c == 13) ≡ false → (c == 34) ≡ false → (c == 92) ≡ false → is_ascii_control c ≡ false → Fine rest c
  unfolding Fine unit_at
  plain c a b d e f g h = rw (a, b, d, e, f, g, h, f, g) (refl, refl)

  control : (c : ℕ) → (c == 0) ≡ false → (c == 9) ≡ false → (c == 10) ≡ false → (c == 13) ≡ false → (c == 34) ≡ false → (c == 92) ≡ false → is_ascii_control c ≡ true → Fine rest c
  unfolding Fine
  control c a b d e f g h =
      let n = numbered_all c (control_small c h) in
      let s = hexadecimal c in
      let n2 = and_right (begins is_ascii_hexdigit s) _ n in
      let n3 = and_right (list_all is_ascii_hexdigit s) _ n2 in
      let u : unit_at (codes "\\u{" ++ (s ++ (125 ∷ rest))) ≡ Read c (codes "\\u{" ++ (s ++ codes "}")) rest =
      unit_numbered s rest c (and_left (begins is_ascii_hexdigit s) _ n) (and_left (list_all is_ascii_hexdigit s) _ n2) (eqb-true (digits_value 16 s) c (and_left (digits_value 16 s == c) _ n3)) (and_right (digits_value 16 s == c) _ n3) in
      let q : (codes "\\u{" ++ (s ++ codes "}")) ++ rest ≡ codes "\\u{" ++ (s ++ (125 ∷ rest)) = ap (λ z. codes "\\u{" ++ z) (append_assoc s (125 ∷ []) rest) in
      rw (a, b, d, e, f, g, h) (refl, ap unit_at q ∙ u)

  same : (n : ℕ) (c : ℕ) → Fine rest n → c ≡ n → Fine rest c
  same n c h e = subst (Fine rest) (sym e) h

  fine_by : (c : ℕ) → (c ≡ 0) ⊎ ((c == 0) ≡ false) → (c ≡ 9) ⊎ ((c == 9) ≡ false) → (c ≡ 10) ⊎ ((c == 10) ≡ false) → (c ≡ 13) ⊎ ((c == 13) ≡ false) → (c ≡ 34) ⊎ ((c == 34) ≡ false) → (c ≡ 92) ⊎ ((c == 92) ≡ false) → (v : Bool) → is_ascii_control c ≡ v → Fine rest c
  unfolding Fine unit_at
  fine_by c (inl h) _ _ _ _ _ v k = same 0 c (refl, refl) h
  fine_by c (inr a) (inl h) _ _ _ _ v k = same 9 c (refl, refl) h
  fine_by c (inr a) (inr b) (inl h) _ _ _ v k = same 10 c (refl, refl) h
  fine_by c (inr a) (inr b) (inr d) (inl h) _ _ v k = same 13 c (refl, refl) h
  fine_by c (inr a) (inr b) (inr d) (inr e) (inl h) _ v k = same 34 c (refl, refl) h
  fine_by c (inr a) (inr b) (inr d) (inr e) (inr f) (inl h) v k = same 92 c (refl, refl) h
  fine_by c (inr a) (inr b) (inr d) (inr e) (inr f) (inr g) true k = control c a b d e f g k
  fine_by c (inr a) (inr b) (inr d) (inr e) (inr f) (inr g) false k = plain c a b d e f g k

  fine : (c : ℕ) → (begins (the 34) (image_of c ++ rest) ≡ false) × (unit_at (image_of c ++ rest) ≡ Read c (image_of c) rest)
  unfolding Fine
  fine c = fine_by c (tested c 0) (tested c 9) (tested c 10) (tested c 13) (tested c 34) (tested c 92) (is_ascii_control c) refl

units_back : (cs after : Text) → units_at [] (images cs ++ (34 ∷ after)) ≡ Read cs (images cs ++ (34 ∷ [])) after
units_back [] after = refl
units_back (c ∷ cs) after =
    let r : Text = images cs ++ (34 ∷ after) in
    let f = fine r c in
    let flat : (image_of c ++ images cs) ++ (34 ∷ after) ≡ image_of c ++ r = append_assoc (image_of c) (images cs) (34 ∷ after) in
    let again : (image_of c ++ images cs) ++ (34 ∷ []) ≡ image_of c ++ (images cs ++ (34 ∷ [])) = append_assoc (image_of c) (images cs) (34 ∷ []) in
    ap (units_at []) flat ∙ (units_more (image_of c ++ r) f.0 ∙ (ap unit_and f.1
    ∙ (ap (λ z. prefixed (image_of c) (mapped (λ more. c ∷ more) z)) (units_back cs after)
    ∙ ap (λ (z : Text). let o : Outcome Text = Read (c ∷ cs) z after in o) (sym again))))

-- whatever follows
pub quoted_back : (cs after : Text) → quoted_at (quoted cs ++ after) ≡ Read cs (quoted cs) after
unfolding quoted_at
quoted_back cs after =
    let flat : (images cs ++ (34 ∷ [])) ++ after ≡ images cs ++ (34 ∷ after) = append_assoc (images cs) (34 ∷ []) after in
    ap (λ z. prefixed (34 ∷ []) (units_at [] z)) flat ∙ ap (prefixed (34 ∷ [])) (units_back cs after)
