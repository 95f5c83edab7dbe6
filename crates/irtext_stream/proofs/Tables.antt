-- The table of classes says of each ASCII character what its classes are, and of no other byte that it has one.
use Rattle.std.proofs.Common.{◌≡◌, ◌∙◌, ℕ, ◌+◌, ◌-◌, ◌<◌, ◌≤◌, Bool, true, false, not, nat_eq, bit_and, get_or, refl, sym, ap, arith, true≢false, ⊎_elim}
use Rattle.std.proofs.lemmas.Bool.{cases_lt}
use Rattle.std.proofs.lemmas.Bool.Decides.{nat_tests}
use Rattle.std.specs.Prelude.{MatchBool}
use Rattle.irtext_stream.specs.Classes.{has, bit_of}
use Rattle.irtext_stream.specs.declared.class.Class.{Class}
use Rattle.irtext_stream.specs.declared.class.Class.TheVariants as class
use Rattle.irtext_stream.specs.declared.class.TheConstants.{CLASSES}
use Rattle.irtext_stream.proofs.Ascii.{ascii}

abbrev alike : Bool → Bool → Bool
alike true b = b
alike false b = not b

alike_is : (a b : Bool) → alike a b ≡ true → a ≡ b
alike_is true b e = sym e
alike_is false true e = absurd (true≢false (sym e))
alike_is false false e = refl

abbrev marked : Class → ℕ → Bool
marked class b = not (nat_eq (bit_and (get_or CLASSES b 0) (bit_of class)) 0)

-- the table has a class's bit where the character is of the class
pub table_has : (class : Class) (b : ℕ) → b < 128 → marked class b ≡ has class b
table_has class.WhiteSpace b h = alike_is _ _ (ascii (λ b. alike (marked class.WhiteSpace b) (has class.WhiteSpace b)) refl b h)
table_has class.Digit b h = alike_is _ _ (ascii (λ b. alike (marked class.Digit b) (has class.Digit b)) refl b h)
table_has class.HexadecimalDigit b h = alike_is _ _ (ascii (λ b. alike (marked class.HexadecimalDigit b) (has class.HexadecimalDigit b)) refl b h)
table_has class.Beginning b h = alike_is _ _ (ascii (λ b. alike (marked class.Beginning b) (has class.Beginning b)) refl b h)
table_has class.Word b h = alike_is _ _ (ascii (λ b. alike (marked class.Word b) (has class.Word b)) refl b h)
table_has class.Dotted b h = alike_is _ _ (ascii (λ b. alike (marked class.Dotted b) (has class.Dotted b)) refl b h)
table_has class.Plain b h = alike_is _ _ (ascii (λ b. alike (marked class.Plain b) (has class.Plain b)) refl b h)

zero_is : (n : ℕ) → nat_eq n 0 ≡ true → n ≡ 0
zero_is n e = grind (arith, nat_tests)

-- the table has nothing for the other bytes
wide_unmarked : (b : ℕ) → 128 ≤ b → b < 256 → get_or CLASSES b 0 ≡ 0
wide_unmarked b l h =
    let at : 128 + (b - 128) ≡ b = omega arith in
    ap (λ k. get_or CLASSES k 0) (sym at) ∙ zero_is _ (ascii (λ i. nat_eq (get_or CLASSES (128 + i) 0) 0) refl (b - 128) (omega arith))

nothing_marked : (k : Class) (n : ℕ) → n ≡ 0 → not (nat_eq (bit_and n (bit_of k)) 0) ≡ false
nothing_marked k n e = ap (λ n. not (nat_eq (bit_and n (bit_of k)) 0)) e ∙ none k
  where
    none : (k : Class) → not (nat_eq (bit_and 0 (bit_of k)) 0) ≡ false
    none class.WhiteSpace = refl
    none class.Digit = refl
    none class.HexadecimalDigit = refl
    none class.Beginning = refl
    none class.Word = refl
    none class.Dotted = refl
    none class.Plain = refl

-- what the table returns for a byte
pub table_answers : (k : Class) (b : ℕ) → b < 256 → MatchBool (marked k b) ((b < 128) × (has k b ≡ true)) (b < 128 → has k b ≡ false)
table_answers k b l = go (marked k b) refl
  where
    go : (r : Bool) → marked k b ≡ r → MatchBool r ((b < 128) × (has k b ≡ true)) (b < 128 → has k b ≡ false)
    go true e = ⊎_elim (λ (h : b < 128). (h, sym (table_has k b h) ∙ e)) (λ (h : 128 ≤ b). absurd (true≢false (sym e ∙ nothing_marked k _ (wide_unmarked b h l)))) (cases_lt b 128)
    go false e = λ h. sym (table_has k b h) ∙ e
