-- Fixed texts between parts and around them.
use Rattle.std.specs.Prelude.{◌≡◌, true, not, ◌++◌}
use Rattle.std.specs.Char.{is_ascii}
use Rattle.std.specs.List.{list_all}
use Rattle.irtext_base.specs.Text.{Text, begins, after_space}
use Rattle.irtext_base.specs.Own.{found, verdict}
use Rattle.irtext_tokens.specs.Tokens.{space_at, word}
use Rattle.irtext_tokens.specs.Demanded.{spaced_at}
use Rattle.irtext_tokens.specs.Infix.{Reader, ◌▷◌}
use Rattle.irtext_syntax.specs.PartLaws.{is_closer, closes}

-- an opening bracket, and white space after it
abbrev pub open_at : Text → Reader Unit
open_at opener = word opener ▷ space_at

-- a closing bracket after white space
abbrev pub close_at : Text → Reader Unit
close_at closer = space_at ▷ word closer

-- a fixed text that was printed is parsed back, with the white space after it
pub record BetweenLaw (text printed : Text) : Type 0 where
  pub back : (rest : Text) → verdict (spaced_at text (printed ++ rest)) ≡ found tt (after_space rest)
  pub ascii : list_all is_ascii printed ≡ true

-- brackets that were printed are parsed back, the opening one with the white space after it; it does not begin with
-- a closing character, and the closing one ends every part
pub record BracketsLaw (opener closer opener_printed closer_printed : Text) : Type 0 where
  pub opens : (rest : Text) → verdict (open_at opener (after_space (opener_printed ++ rest))) ≡ found tt (after_space rest)
  pub shuts : (rest : Text) → verdict (close_at closer (closer_printed ++ rest)) ≡ found tt rest
  pub closing : (rest : Text) → closes (closer_printed ++ rest) ≡ true
  pub opening : begins (λ c. not (is_closer c)) opener ≡ true
  pub ascii_open : list_all is_ascii opener_printed ≡ true
  pub ascii_close : list_all is_ascii closer_printed ≡ true
