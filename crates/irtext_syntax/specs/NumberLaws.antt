-- The law of numbers of an integer type, as parts of a text.
use Rattle.std.proofs.Common.{◌≡◌, ◌∙◌, ◌≤◌, ◌^◌, ℤ, Bool, false, Option, Some, ◌++◌, sym, ap}
use Rattle.std.specs.Prelude.{◌↔◌, IsTrue, not, unwrap_or}
use Rattle.std.specs.Char.{is_ascii_digit}
use Rattle.std.specs.Fmt.{signed_decimal}
use Rattle.std.specs.Str.{encode_utf8_all}
use Rattle.std.proofs.lemmas.Str.{encodes-IsAscii}
use Rattle.irtext_base.specs.Text.{Text, begins}
use Rattle.irtext_base.specs.Answers.{Outcome, Read, Missing, Bad}
use Rattle.irtext_base.specs.Own.{verdict, can_follow}
use Rattle.irtext_base.proofs.Characters.{and_left}
use Rattle.irtext_base.proofs.Scalars.{scalars_ascii}
use Rattle.irtext_base.proofs.Sincere.{Of, of_missing, of_bad, sincere_of}
use Rattle.irtext_tokens.specs.Integers.{int_at, ranged}
use Rattle.irtext_tokens.specs.declared.irfmt.parsers.from_str_radix.FromStrRadix as radix
use Rattle.irtext_tokens.proofs.SincereTokens.{of_int, of_ranged}
use Rattle.irtext_syntax.specs.PartLaws.{PartLaw, MissesClosers, EndsAnywhere}
use Rattle.irtext_syntax.specs.PartSteps.{not_true}
use Rattle.irtext_syntax.specs.ReadHere.{read_here}
use Rattle.irtext_syntax.specs.Numbers.{narrowed, ends_digits}
use Rattle.irtext_syntax.specs.NumberOf.{number_if, number_at, number_found}
use Rattle.irtext_syntax.specs.IntegersBack.{follows_digits, no_digit, closer_no_int, int-here, int_no_space, ascii-int}
use Rattle.irtext_syntax.specs.declared.number.Number.{Number}

-- a narrowed outcome is of the text that the outcome is of
pub of_narrowed : {X Y : Type 0} (make : X → Option Y) (text : Text) (o : Outcome X) → Of text o → Of text (narrowed make o)
of_narrowed make text (Read x taken rest) h = of_ranged text taken rest (make x) h.says
of_narrowed make text (Missing cause) h = of_missing text cause h.says
of_narrowed make text (Bad cause upto) h = of_bad text cause upto h.says.1.0 h.says.0 h.says.1.1

module _ {N : Type 0} (g : radix.Ghosts N) (of : ℤ → N) (narrow : (negative : Bool) → g.below negative ≤ 2 ^ 64) (back : (n : N) → of (g.number n) ≡ n) where
  -- the text of a number
  abbrev pub number_text : Number N g → Text
  number_text n = signed_decimal (g.number n.value)

  number-here : (n : Number N g) (rest : Text) → begins is_ascii_digit rest ≡ false → number_at g of (number_text n ++ rest) ≡ Read n (number_text n) rest
  number-here n rest e =
      ap (narrowed (λ z. number_if g (of z))) (int-here g.below narrow (g.number n.value) rest n.in_range e)
      ∙ (ap (λ m. ranged (number_text n) rest (number_if g m)) (back n.value) ∙ ap (ranged (number_text n) rest) (number_found g n))

  pub number_law : PartLaw (number_at g of) number_text ends_digits
  number_law = record {
    back = λ n rest e. read_here (number_at g of) n (number_text n ++ rest) (number_text n) rest (int_no_space g.below narrow (g.number n.value) rest n.in_range) (number-here n rest (not_true (begins is_ascii_digit rest) e));
    closed = λ rest e. ap not (follows_digits rest (and_left (begins can_follow rest) _ e));
    scalars = λ n. scalars_ascii (number_text n) (ascii-int g.below narrow (g.number n.value) n.in_range);
    sincere = sincere_of (number_at g of) (λ text. of_narrowed (λ z. number_if g (of z)) text (int_at g.below text) (of_int g.below text));
  }

  -- the bytes of a number's text are its characters
  pub encodes-number : (n : Number N g) → encode_utf8_all (number_text n) ≡ number_text n
  encodes-number n = encodes-IsAscii (number_text n) (ascii-int g.below narrow (g.number n.value) n.in_range)

  pub number_misses : MissesClosers (number_at g of)
  number_misses = record { misses = λ c rest e. ap (λ o. verdict (narrowed (λ z. number_if g (of z)) o)) (closer_no_int g.below c rest e) }

  pub number_decides : (test : N → N → Bool) → ((x y : N) → IsTrue (test x y) ↔ (x ≡ y)) → (x y : Number N g) → IsTrue (test x.value y.value) ↔ (x ≡ y)
  number_decides test decides x y = (λ e. let f : Some x ≡ Some y = sym (number_found g x) ∙ (ap (number_if g) ((decides x.value y.value).0 e) ∙ number_found g y) in ap (λ o. unwrap_or o x) f, λ e. (decides x.value y.value).1 (ap (λ n. n.value) e))

-- whatever can follow a value's text can follow digits
pub digits_last : EndsAnywhere ends_digits
digits_last = record { anywhere = λ rest e. ap not (no_digit rest e) }
