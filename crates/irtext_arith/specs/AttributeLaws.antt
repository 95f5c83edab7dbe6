-- For callers: the attributes of the dialect `arith` obey the laws of parsing and printing: a row for each.
use Rattle.std.proofs.Common.{◌≡◌, Bool, true, refl, sym, ◌∙◌, ap, subst, codes, true≢false}
use Rattle.std.specs.Prelude.{◌↔◌, IsTrue}
use Rattle.irtext_base.specs.Families.{BeginsWithWord}
use Rattle.irtext_base.specs.Faults.{AnAttribute}
use Rattle.irtext_base.specs.Own.{texts_of, Lawful, Sincere, Unreserved}
use Rattle.irtext_base.specs.Text.{Text}
use Rattle.irtext_tokens.specs.Infix.{Reader}
use Rattle.irtext_syntax.specs.IntegerKinds.{i64}
use Rattle.irtext_syntax.specs.NumberLaws.{digits_last}
use Rattle.irtext_syntax.specs.Sequences.{anything_ends}
use Rattle.irtext_syntax.specs.ShapeLaws.{Proved, angle_encloses, colon_joins, comma_joins, number_proved, quoted_proved, flag_proved, ranged_proved, own_proved, then_proved, within_proved}
use Rattle.irtext_syntax.specs.TableLaws.{part_row, part_sincere, table_lawful, table_led, table_sincere, table_unreserved}
use Rattle.irtext_syntax.specs.Tables.{Row}
use Rattle.irtext_arith.specs.Attributes.{value_shape, compares_shape, overflow_shape, align_shape, doc_shape, attr_words, attr_word, attr_text, attr_after, attr_at, attr_eq}
use Rattle.irtext_arith.specs.PredicateLaws.{predicate_proved, predicate_last}
use Rattle.irtext_arith.specs.contracts.fixed.BytesRange.TheImpl as bytes
use Rattle.irtext_arith.specs.declared.attributes.AttrWord.{AttrWord}
use Rattle.irtext_arith.specs.declared.attributes.AttrWord.TheVariants as word
use Rattle.irtext_arith.specs.declared.attributes.ArithAttr.{ArithAttr}
use Rattle.irtext_arith.specs.declared.attributes.ArithAttr.TheVariants as attr

module _ {T : Type 0} {type_at : Reader T} {type_text : T → Text} {type_eq : T → T → Bool}
    (lawful : Lawful T (texts_of type_at type_text)) (sincere : Sincere type_at) (decides : (x y : T) → IsTrue (type_eq x y) ↔ (x ≡ y)) where
  value_shape_proved : Proved (value_shape type_at type_text type_eq)
  value_shape_proved = within_proved angle_encloses (then_proved (number_proved i64) colon_joins (own_proved lawful sincere decides))

  compares_shape_proved : Proved (compares_shape type_at type_text type_eq)
  compares_shape_proved = predicate_proved

  overflow_shape_proved : Proved (overflow_shape type_at type_text type_eq)
  overflow_shape_proved = within_proved angle_encloses (then_proved (flag_proved (codes "nsw") refl) comma_joins (flag_proved (codes "nuw") refl))

  align_shape_proved : Proved (align_shape type_at type_text type_eq)
  align_shape_proved = ranged_proved bytes.ghosts

  doc_shape_proved : Proved (doc_shape type_at type_text type_eq)
  doc_shape_proved = quoted_proved

  -- how the text of each attribute is parsed back
  rows : (x : ArithAttr T) → Row attr_word (attr_after type_at type_text type_eq) attr_words (attr_text type_at type_text type_eq) x
  rows (attr.Value x) = part_row (codes "arith.value") word.Value attr.Value x value_shape_proved.law anything_ends refl refl refl (λ text. refl)
  rows (attr.Compares x) = part_row (codes "arith.predicate") word.Compares attr.Compares x compares_shape_proved.law predicate_last refl refl refl (λ text. refl)
  rows (attr.Overflow x) = part_row (codes "arith.overflow") word.Overflow attr.Overflow x overflow_shape_proved.law anything_ends refl refl refl (λ text. refl)
  rows (attr.Align x) = part_row (codes "arith.align") word.Align attr.Align x align_shape_proved.law digits_last refl refl refl (λ text. refl)
  rows (attr.Doc x) = part_row (codes "arith.doc") word.Doc attr.Doc x doc_shape_proved.law anything_ends refl refl refl (λ text. refl)

  -- what comes after each word is about the text
  after_sincere : (w : AttrWord) → Sincere (attr_after type_at type_text type_eq w)
  after_sincere word.Value = part_sincere attr.Value value_shape_proved.law
  after_sincere word.Compares = part_sincere attr.Compares compares_shape_proved.law
  after_sincere word.Overflow = part_sincere attr.Overflow overflow_shape_proved.law
  after_sincere word.Align = part_sincere attr.Align align_shape_proved.law
  after_sincere word.Doc = part_sincere attr.Doc doc_shape_proved.law

  pub attr_lawful : Lawful (ArithAttr T) (texts_of (attr_at type_at type_text type_eq) (attr_text type_at type_text type_eq))
  attr_lawful = table_lawful (codes "Unregistered attribute ") AnAttribute rows

  pub attr_led : BeginsWithWord attr_words (attr_text type_at type_text type_eq)
  attr_led = table_led rows

  pub attr_unreserved : Unreserved (ArithAttr T) (texts_of (attr_at type_at type_text type_eq) (attr_text type_at type_text type_eq))
  attr_unreserved = table_unreserved (attr_at type_at type_text type_eq) rows refl

  pub attr_sincere : Sincere (attr_at type_at type_text type_eq)
  attr_sincere = table_sincere attr_word (codes "Unregistered attribute ") AnAttribute after_sincere

  same : (x y : ArithAttr T) → attr_eq type_at type_text type_eq x y ≡ true → x ≡ y
  same (attr.Value x) (attr.Value y) e = ap attr.Value ((value_shape_proved.decides x y).0 e)
  same (attr.Compares x) (attr.Compares y) e = ap attr.Compares ((compares_shape_proved.decides x y).0 e)
  same (attr.Overflow x) (attr.Overflow y) e = ap attr.Overflow ((overflow_shape_proved.decides x y).0 e)
  same (attr.Align x) (attr.Align y) e = ap attr.Align ((align_shape_proved.decides x y).0 e)
  same (attr.Doc x) (attr.Doc y) e = ap attr.Doc ((doc_shape_proved.decides x y).0 e)
  same _ _ e = absurd (true≢false (sym e))

  own : (x : ArithAttr T) → attr_eq type_at type_text type_eq x x ≡ true
  own (attr.Value x) = (value_shape_proved.decides x x).1 refl
  own (attr.Compares x) = (compares_shape_proved.decides x x).1 refl
  own (attr.Overflow x) = (overflow_shape_proved.decides x x).1 refl
  own (attr.Align x) = (align_shape_proved.decides x x).1 refl
  own (attr.Doc x) = (doc_shape_proved.decides x x).1 refl

  -- attributes are equal exactly if they are the same values
  pub attr_decides : (eq : ArithAttr T → ArithAttr T → Bool) → ((x y : ArithAttr T) → eq x y ≡ attr_eq type_at type_text type_eq x y) → (x y : ArithAttr T) → IsTrue (eq x y) ↔ (x ≡ y)
  attr_decides eq is x y = (λ e. same x y (sym (is x y) ∙ e), λ e. subst (λ z. eq x z ≡ true) e (is x x ∙ own x))
