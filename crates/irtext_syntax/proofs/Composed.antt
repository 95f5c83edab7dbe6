-- Examples of composed parts, each with its law.
use Rattle.std.proofs.Common.{codes, refl}
use Rattle.std.specs.Prelude.{◌≡◌, ◌↔◌, Bool, IsTrue, ⊤}
use Rattle.irtext_base.specs.Own.{texts_of, Lawful, Sincere}
use Rattle.irtext_base.specs.Text.{Text}
use Rattle.irtext_tokens.specs.Infix.{Reader}
use Rattle.irtext_syntax.specs.IntegerKinds.{u8}
use Rattle.irtext_syntax.specs.OwnLaws.{own_last}
use Rattle.irtext_syntax.specs.ShapeLaws.{Proved, comma_joins, spaced_arrow_joins, round_encloses, square_encloses, curly_encloses, number_proved, quoted_proved, name_proved, keyword_proved, flag_proved, ranged_proved, own_proved, then_proved, within_proved, list_proved, maybe_proved, number_missing, quoted_missing, name_missing, keyword_missing, ranged_missing, own_missing, then_missing, within_missing, list_missing}
use Rattle.irtext_syntax.specs.Shapes.{round, square, curly, comma, spaced_arrow, number, quoted, name, keyword, flag, ranged, own, then_of, within, list_of, maybe}
use Rattle.irtext_syntax.specs.declared.range.Range as range

-- `{ [1, 2], a }`, and where the name is left out, `{ [1, 2],  }`
named : Proved (within {B = ⊤} curly (then_of {W = ⊤} (list_of square (number u8)) comma (maybe name)))
named = within_proved curly_encloses (then_proved (list_proved square_encloses (number_proved u8) (number_missing u8)) comma_joins (maybe_proved name_proved name_missing))

-- `[("a", "b"), ()]`
lists : Proved (list_of square (list_of round quoted))
lists = list_proved square_encloses (list_proved round_encloses quoted_proved quoted_missing) (list_missing round_encloses quoted_proved)

-- `(mut, to)`, and without the first word, `(, to)`
words : Proved (within {B = ⊤} round (then_of {W = ⊤} (flag (codes "mut")) comma (maybe (keyword (codes "to")))))
words = within_proved round_encloses (then_proved (flag_proved (codes "mut") refl) comma_joins (maybe_proved (keyword_proved (codes "to") refl) (keyword_missing (codes "to") refl)))

-- `[1, 2]`, of numbers of a range
numbers : {R : Type 0} (g : range.Ghosts R) → Proved (list_of square (ranged g))
numbers g = list_proved square_encloses (ranged_proved g) (ranged_missing g)

module _ {T : Type 0} {reading : Reader T} {written : T → Text} {test : T → T → Bool}
    (lawful : Lawful T (texts_of reading written)) (sincere : Sincere reading) (decides : (x y : T) → IsTrue (test x y) ↔ (x ≡ y)) where
  own_part : Proved (own reading written test)
  own_part = own_proved lawful sincere decides

  -- `[T, "a", ..]`, two parts for each item
  pairs : Proved (list_of square (then_of {W = ⊤} (own reading written test) comma quoted))
  pairs = list_proved square_encloses (then_proved own_part comma_joins quoted_proved) (then_missing (own_missing lawful sincere decides) comma_joins quoted_proved)

  arrow_part : Proved (then_of {W = ⊤} (own reading written test) spaced_arrow (own reading written test))
  arrow_part = then_proved own_part (spaced_arrow_joins own_last) own_part

  -- `[(T -> T), ..]`
  functions : Proved (list_of square (within {B = ⊤} round (then_of {W = ⊤} (own reading written test) spaced_arrow (own reading written test))))
  functions = list_proved square_encloses (within_proved round_encloses arrow_part) (within_missing round_encloses arrow_part)
