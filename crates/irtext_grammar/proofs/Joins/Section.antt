-- What the parser of a fixed text with white space around it returns, and the grammar's reading of it.
use Rattle.std.proofs.Common.{◌≡◌, ◌++◌, refl, ◌∙◌}
use Rattle.std.specs.Char.{is_whitespace}
use Rattle.irtext_base.specs.Text.{Text, front, after_space}
use Rattle.irtext_base.specs.Reading.{literal}
use Rattle.irtext_base.specs.Answers.{Outcome, Read, followed}
use Rattle.irtext_tokens.specs.Tokens.{text_at}
use Rattle.irtext_grammar.specs.Readers.Positions.{space_at, spaced_at}
use Rattle.irtext_grammar.proofs.Joins.Answers.{followed_read, followed-read}
use Rattle.irtext_grammar.proofs.Joins.Tokens.{text_read, text-literal}

abbrev space_after : Unit {0} → Text → Outcome (Unit {0})
space_after _ text = space_at text

abbrev word_at_end : Text → Unit {0} → Text → Outcome (Unit {0})
word_at_end word _ text = followed (text_at word text) space_after

-- a word that is parsed after white space is what follows the white space
pub spaced_read : (word text taken rest : Text) → spaced_at word text ≡ Read tt taken rest → (m : Text) × literal word (after_space text) m × (after_space m ≡ rest)
spaced_read word text taken rest e =
    let a = followed_read (space_at text) (word_at_end word) tt taken rest e in
    let b = followed_read (text_at word a.middle) space_after tt a.more rest a.second in
    let f : after_space text ≡ a.middle = cc a.first in
    let g : after_space b.middle ≡ rest = cc b.second in
    (b.middle, f ∙ text_read word a.middle b.front b.middle b.first, g)

-- a word that follows white space is parsed
pub spaced_found : (word text m : Text) → literal word (after_space text) m → (taken : Text) × (spaced_at word text ≡ Read tt taken (after_space m))
spaced_found word text m e = (
  front is_whitespace text ++ (word ++ front is_whitespace m),
  followed-read (space_at text) (word_at_end word) tt tt (front is_whitespace text) (after_space text) (word ++ front is_whitespace m) (after_space m) refl
      (followed-read (text_at word (after_space text)) space_after tt tt word m (front is_whitespace m) (after_space m) (text-literal word (after_space text) m e) refl),
)
