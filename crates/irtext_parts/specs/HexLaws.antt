-- The law of numbers in hexadecimal digits.
use Rattle.std.proofs.Common.{◌≡◌, ◌∙◌, ◌<◌, ◌≤◌, ◌^◌, ℕ, ℤ, pos, negsuc, suc, Bool, true, false, Option, ◌++◌, refl, ap, arith, nat_lt}
use Rattle.std.proofs.lemmas.Bool.Decides.{nat_tests}
use Rattle.std.proofs.lemmas.Str.{encodes-IsAscii}
use Rattle.std.specs.Char.{is_ascii_hexdigit}
use Rattle.std.specs.Prelude.{◌↔◌, IsTrue, not}
use Rattle.std.specs.Str.{IsAscii, encode_utf8_all}
use Rattle.irtext_base.specs.Text.{Text, begins}
use Rattle.irtext_base.specs.Answers.{Outcome, Read, Missing, Bad}
use Rattle.irtext_base.specs.Own.{can_follow, missing, verdict}
use Rattle.irtext_base.proofs.Characters.{and_left}
use Rattle.irtext_base.proofs.Scalars.{scalars_ascii}
use Rattle.irtext_base.proofs.Sincere.{sincere_of}
use Rattle.irtext_tokens.specs.Integers.{hex_int_at, ranged}
use Rattle.irtext_tokens.specs.declared.irfmt.parsers.from_str_radix.FromStrRadix as radix
use Rattle.irtext_syntax.specs.MappedLaws.{mapped_law, mapped_misses}
use Rattle.irtext_syntax.specs.NumberLaws.{of_narrowed, number_decides}
use Rattle.irtext_syntax.specs.NumberOf.{number_if, number_found}
use Rattle.irtext_syntax.specs.Numbers.{fits, natural, narrowed}
use Rattle.irtext_syntax.specs.PartLaws.{PartLaw, MissesClosers, EndsAnywhere}
use Rattle.irtext_syntax.specs.PartSteps.{not_true}
use Rattle.irtext_syntax.specs.ReadHere.{read_here}
use Rattle.irtext_syntax.specs.declared.number.Number.{Number}
use Rattle.irtext_parts.specs.HexBack.{follows_hex, no_hex, ascii-hex, hex-here, of_hex, closer_no_hex}
use Rattle.irtext_parts.specs.HexOf.{hex_of, hex_at, hex_written}
use Rattle.irtext_parts.specs.HexTexts.{hex_text, ends_hex, hex_number_at, hex_number_text}
use Rattle.irtext_parts.specs.declared.hex.Hex.{Hex}

narrowed_missing : {X Y : Type 0} (make : X → Option Y) (o : Outcome X) → verdict o ≡ missing → verdict (narrowed make o) ≡ missing
narrowed_missing make (Read x taken rest) e = absurd (cc)
narrowed_missing make (Missing cause) e = refl
narrowed_missing make (Bad cause upto) e = absurd (cc)

no_negative : (n bound : ℕ) → bound ≡ 0 → nat_lt (suc n) bound ≡ true → ⊥
no_negative n bound e f = grind (arith, nat_tests)

below_small : (n bound : ℕ) → nat_lt n bound ≡ true → bound ≤ 2 ^ 64 → n < 2 ^ 64
below_small n bound e l = grind (arith, nat_tests)

-- whatever can follow a value's text can follow these digits
pub hex_last : EndsAnywhere ends_hex
hex_last = record { anywhere = λ rest e. ap not (no_hex rest e) }

module _ {N : Type 0} (g : radix.Ghosts N) (of : ℤ → N) (narrow : (negative : Bool) → g.below negative ≤ 2 ^ 64) (back : (n : N) → of (g.number n) ≡ n) (unsigned : g.below true ≡ 0) where
  int-here : (z : ℤ) (rest : Text) → fits g.below z ≡ true → begins is_ascii_hexdigit rest ≡ false → hex_int_at g.below (hex_text (natural z) ++ rest) ≡ Read z (hex_text (natural z)) rest
  int-here (pos n) rest e stop = hex-here g.below (narrow false) n rest e stop
  int-here (negsuc n) rest e stop = absurd (no_negative n (g.below true) unsigned e)

  ascii : (z : ℤ) → fits g.below z ≡ true → IsAscii (hex_text (natural z))
  ascii (pos n) e = ascii-hex n (below_small n (g.below false) e (narrow false))
  ascii (negsuc n) e = absurd (no_negative n (g.below true) unsigned e)

  number-here : (n : Number N g) (rest : Text) → begins is_ascii_hexdigit rest ≡ false → hex_number_at g of (hex_number_text g n ++ rest) ≡ Read n (hex_number_text g n) rest
  number-here n rest stop =
      ap (narrowed (λ z. number_if g (of z))) (int-here (g.number n.value) rest n.in_range stop)
      ∙ (ap (λ m. ranged (hex_number_text g n) rest (number_if g m)) (back n.value) ∙ ap (ranged (hex_number_text g n) rest) (number_found g n))

  number_law : PartLaw (hex_number_at g of) (hex_number_text g) ends_hex
  number_law = record {
    back = λ n rest e. read_here (hex_number_at g of) n (hex_number_text g n ++ rest) (hex_number_text g n) rest refl (number-here n rest (not_true (begins is_ascii_hexdigit rest) e));
    closed = λ rest e. ap not (follows_hex rest (and_left (begins can_follow rest) _ e));
    scalars = λ n. scalars_ascii (hex_number_text g n) (ascii (g.number n.value) n.in_range);
    sincere = sincere_of (hex_number_at g of) (λ text. of_narrowed (λ z. number_if g (of z)) text (hex_int_at g.below text) (of_hex g.below text));
  }

  pub hex_law : PartLaw (hex_at g of) (hex_written g) ends_hex
  hex_law = mapped_law (hex_of g) (λ h. h.number) (λ h. refl) number_law

  -- the bytes of such a text are its characters
  pub encodes-hex : (h : Hex N g) → encode_utf8_all (hex_written g h) ≡ hex_written g h
  encodes-hex h = encodes-IsAscii (hex_written g h) (ascii (g.number h.number.value) h.number.in_range)

  pub hex_misses : MissesClosers (hex_at g of)
  hex_misses = mapped_misses (hex_of g) (record { misses = λ c rest e. narrowed_missing (λ z. number_if g (of z)) (hex_int_at g.below _) (closer_no_hex g.below c rest e) })

  pub hex_decides : (test : N → N → Bool) → ((x y : N) → IsTrue (test x y) ↔ (x ≡ y)) → (x y : Hex N g) → IsTrue (test x.number.value y.number.value) ↔ (x ≡ y)
  hex_decides test decides x y = (
    λ e. ap (hex_of g) ((number_decides g of narrow back test decides x.number y.number).0 e),
    λ e. (number_decides g of narrow back test decides x.number y.number).1 (ap (λ h. h.number) e),
  )
