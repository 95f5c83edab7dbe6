-- For callers: the laws of parts, composed as the parts are.
use Rattle.std.proofs.Common.{◌≡◌, Bool, true, ◌++◌, codes, refl}
use Rattle.std.specs.Cmp.{booleans_Decides}
use Rattle.std.specs.Cmp.Lexicographic.{pointwise_decides}
use Rattle.std.specs.Prelude.{◌↔◌, IsTrue}
use Rattle.irtext_base.specs.Own.{texts_of, Lawful, Sincere}
use Rattle.irtext_base.specs.Text.{Text, is_identifier}
use Rattle.irtext_tokens.specs.Infix.{Reader}
use Rattle.irtext_syntax.specs.FixedTexts.{BetweenLaw, BracketsLaw}
use Rattle.irtext_syntax.specs.IntegerKinds.{Kind}
use Rattle.irtext_syntax.specs.KeywordLaws.{keyword_law, keyword_misses, keyword_decides, flag_law}
use Rattle.irtext_syntax.specs.ListLaws.{list_law, list_misses}
use Rattle.irtext_syntax.specs.ListParts.{SeparatorLaw, comma_in_angle, comma_in_round, comma_in_square, comma_in_curly}
use Rattle.irtext_syntax.specs.MaybeLaws.{maybe_law, maybe_decides}
use Rattle.irtext_syntax.specs.NameLaws.{name_law, name_misses, name_decides}
use Rattle.irtext_syntax.specs.NumberLaws.{number_law, number_misses, number_decides}
use Rattle.irtext_syntax.specs.OwnLaws.{own_law, own_misses, own_decides}
use Rattle.irtext_syntax.specs.PartLaws.{PartLaw, MissesClosers, EndsAnywhere}
use Rattle.irtext_syntax.specs.QuotedLaws.{characters_law, characters_misses, characters_decides}
use Rattle.irtext_syntax.specs.RangeLaws.{ranged_law, ranged_misses, ranged_decides}
use Rattle.irtext_syntax.specs.ReadyTexts.{colon_law, comma_law, arrow_law, spaced_arrow_law, angle_law, round_law, square_law, curly_law, closing_colon, closing_comma, ends_spaced}
use Rattle.irtext_syntax.specs.SequenceLaws.{then_law, then_misses, then_decides, within_law, within_misses, within_decides}
use Rattle.irtext_syntax.specs.Shapes.{Shape, Fixed, Around, colon, comma, arrow, spaced_arrow, angle, round, square, curly, number, quoted, name, keyword, flag, ranged, own, then_of, within, list_of, maybe, maybe_eq}
use Rattle.irtext_syntax.specs.declared.range.Range as range

-- a part obeys the law, and equal values are the same
pub record Proved {X : Type 0} (shape : Shape X) : Type 0 where
  pub law : PartLaw shape.reading shape.written shape.ends
  pub decides : (x y : X) → IsTrue (shape.test x y) ↔ (x ≡ y)

-- no value is found where a closing character comes: the part can be an item of a list, or be left out
pub record CanMiss {X : Type 0} (shape : Shape X) : Type 0 where
  pub law : MissesClosers shape.reading

-- the fixed text is parsed back, and can come right after the part
pub record Joins {X : Type 0} (first : Shape X) (between : Fixed) : Type 0 where
  pub law : BetweenLaw between.text between.printed
  pub after : (rest : Text) → first.ends (between.printed ++ rest) ≡ true

-- the brackets are parsed back, and a comma separates parts in them
pub record Encloses (around : Around) : Type 0 where
  pub law : BracketsLaw around.opener around.closer around.opener_printed around.closer_printed
  pub separates : SeparatorLaw 44 around.closer_printed

pub colon_joins : {X : Type 0} {first : Shape X} → Proved first → Joins first colon
colon_joins p = record { law = colon_law; after = λ rest. p.law.closed (codes ": " ++ rest) (closing_colon rest) }

pub comma_joins : {X : Type 0} {first : Shape X} → Proved first → Joins first comma
comma_joins p = record { law = comma_law; after = λ rest. p.law.closed (codes ", " ++ rest) (closing_comma rest) }

-- `->` can come after a part that any text can come after
pub arrow_joins : {X : Type 0} {first : Shape X} → ((rest : Text) → first.ends rest ≡ true) → Proved first → Joins first arrow
arrow_joins closed p = record { law = arrow_law; after = λ rest. closed (codes "->" ++ rest) }

-- ` -> ` can come after a part that can end a text
pub spaced_arrow_joins : {X : Type 0} {first : Shape X} → EndsAnywhere first.ends → Proved first → Joins first spaced_arrow
spaced_arrow_joins last p = record { law = spaced_arrow_law; after = λ rest. last.anywhere (codes " -> " ++ rest) (ends_spaced (codes "-> " ++ rest)) }

pub angle_encloses : Encloses angle
angle_encloses = record { law = angle_law; separates = comma_in_angle }

pub round_encloses : Encloses round
round_encloses = record { law = round_law; separates = comma_in_round }

pub square_encloses : Encloses square
square_encloses = record { law = square_law; separates = comma_in_square }

pub curly_encloses : Encloses curly
curly_encloses = record { law = curly_law; separates = comma_in_curly }

pub number_proved : {N : Type 0} (k : Kind N) → Proved (number k)
number_proved k = record { law = number_law k.radix k.of k.narrow k.back; decides = number_decides k.radix k.of k.narrow k.back k.test k.decides }

pub quoted_proved : Proved quoted
quoted_proved = record { law = characters_law; decides = characters_decides }

pub name_proved : Proved name
name_proved = record { law = name_law; decides = name_decides }

pub keyword_proved : (word : Text) → is_identifier word ≡ true → Proved (keyword word)
keyword_proved word is_word = record { law = keyword_law word is_word; decides = keyword_decides }

pub flag_proved : (word : Text) → is_identifier word ≡ true → Proved (flag word)
flag_proved word is_word = record { law = flag_law word is_word; decides = booleans_Decides }

pub ranged_proved : {R : Type 0} (g : range.Ghosts R) → Proved (ranged g)
ranged_proved g = record { law = ranged_law g; decides = ranged_decides g }

pub own_proved : {T : Type 0} {reading : Reader T} {written : T → Text} {test : T → T → Bool} → Lawful T (texts_of reading written) → Sincere reading → ((x y : T) → IsTrue (test x y) ↔ (x ≡ y)) → Proved (own reading written test)
own_proved {reading = reading} {written = written} {test = test} lawful sincere decides = record { law = own_law reading written lawful sincere; decides = own_decides test _ (λ x y. refl) decides }

pub then_proved : {P W Q : Type 0} {first : Shape P} {between : Fixed} {second : Shape Q} → Proved first → (Proved first → Joins first between) → Proved second → Proved (then_of {W = W} first between second)
then_proved {first = first} {between = between} {second = second} p joins q = let w = joins p in record {
  law = then_law first.reading first.written first.ends between.text between.printed second.reading second.written second.ends p.law w.law w.after q.law;
  decides = then_decides first.test second.test _ (λ x y. refl) p.decides q.decides;
}

pub within_proved : {B P : Type 0} {around : Around} {inside : Shape P} → Encloses around → Proved inside → Proved (within {B = B} around inside)
within_proved {around = around} {inside = inside} b p = record {
  law = within_law around.opener around.closer around.opener_printed around.closer_printed inside.reading inside.written inside.ends b.law p.law;
  decides = within_decides inside.test _ (λ x y. refl) p.decides;
}

pub list_proved : {P : Type 0} {around : Around} {item : Shape P} → Encloses around → Proved item → CanMiss item → Proved (list_of around item)
list_proved {around = around} {item = item} b p m = record {
  law = list_law around.opener around.closer around.opener_printed around.closer_printed 44 item.reading item.written item.ends b.law b.separates p.law m.law;
  decides = pointwise_decides p.decides;
}

pub maybe_proved : {P : Type 0} {inside : Shape P} → Proved inside → CanMiss inside → Proved (maybe inside)
maybe_proved {inside = inside} p m = record {
  law = maybe_law inside.reading inside.written inside.ends p.law m.law;
  decides = maybe_decides inside.test (maybe_eq inside.test) refl (λ x. refl) (λ x. refl) (λ x y. refl) p.decides;
}

pub number_missing : {N : Type 0} (k : Kind N) → CanMiss (number k)
number_missing k = record { law = number_misses k.radix k.of k.narrow k.back }

pub quoted_missing : CanMiss quoted
quoted_missing = record { law = characters_misses }

pub name_missing : CanMiss name
name_missing = record { law = name_misses }

pub keyword_missing : (word : Text) → is_identifier word ≡ true → CanMiss (keyword word)
keyword_missing word is_word = record { law = keyword_misses word is_word }

pub ranged_missing : {R : Type 0} (g : range.Ghosts R) → CanMiss (ranged g)
ranged_missing g = record { law = ranged_misses g }

pub own_missing : {T : Type 0} {reading : Reader T} {written : T → Text} {test : T → T → Bool} → Lawful T (texts_of reading written) → Sincere reading → ((x y : T) → IsTrue (test x y) ↔ (x ≡ y)) → CanMiss (own reading written test)
own_missing {reading = reading} {written = written} lawful sincere decides = record { law = own_misses reading written lawful }

pub then_missing : {P W Q : Type 0} {first : Shape P} {between : Fixed} {second : Shape Q} → CanMiss first → (Proved first → Joins first between) → Proved second → CanMiss (then_of {W = W} first between second)
then_missing {first = first} {between = between} {second = second} m joins q = record { law = then_misses first.reading between.text second.reading m.law }

pub within_missing : {B P : Type 0} {around : Around} {inside : Shape P} → Encloses around → Proved inside → CanMiss (within {B = B} around inside)
within_missing {around = around} {inside = inside} b p = record { law = within_misses around.opener around.closer around.opener_printed around.closer_printed inside.reading b.law }

pub list_missing : {P : Type 0} {around : Around} {item : Shape P} → Encloses around → Proved item → CanMiss (list_of around item)
list_missing {around = around} {item = item} b p = record { law = list_misses around.opener around.closer around.opener_printed around.closer_printed 44 item.reading b.law }
