-- What holds of a caller's types and attributes, as the promise requires it.
use Rattle.std.proofs.Common.{◌≡◌, ◌≤◌, ap, arith, length, length-append}
use Rattle.irtext_base.specs.Text.{Text}
use Rattle.irtext_base.specs.Answers.{Outcome, Read}
use Rattle.irtext_base.specs.Own.{texts_of, Sincere, Lawful}
use Rattle.irtext_base.specs.declared.text.IrText as ir_text
use Rattle.irtext_grammar.specs.Exact.{NeedsWord}
use Rattle.irtext_grammar.proofs.Exact.Attributes.{lawful_needs_word}
use Rattle.irtext_grammar.proofs.Naming.Scripts.{shortens}
use Rattle.irtext_grammar.proofs.Naming.Shorter.{Shortens}
use Rattle.irtext_grammar.proofs.Joins.Answers.{Splits}

no_longer : {X : Type 0} (reading : Text → Outcome X) → Splits reading → (text : Text) (x : X) (taken rest : Text) → reading text ≡ Read x taken rest → length rest ≤ length text
no_longer reading h text x taken rest e = omega (arith, ap length (h text x taken rest e), length-append taken rest)

-- a parser that takes and leaves the text leaves no more
short : {X : Type 0} (reading : Text → Outcome X) (written : X → Text) → Splits reading → Shortens (texts_of reading written)
short reading written h = shortens reading written (no_longer reading h)

-- What the lemmas on parsers use of the laws of types and attributes: what is parsed is a part of the text, an attribute begins with a
-- word, and the rest of a text is no longer than the text.
pub record Laws {T A : Type 0} (types : ir_text.Ghosts T A) (owns : ir_text.Ghosts A A) : Type 0 where
  pub types_split : Splits types.reading
  pub splits : Splits owns.reading
  pub words : NeedsWord owns.reading
  pub short_types : Shortens (texts_of types.reading types.written)
  pub short_owns : Shortens (texts_of owns.reading owns.written)
  pub sincere : Sincere owns.reading
  pub lawful : Lawful A (texts_of owns.reading owns.written)

pub laws_of : {T A : Type 0} (types : ir_text.Ghosts T A) (owns : ir_text.Ghosts A A) → Sincere types.reading → Sincere owns.reading → Lawful A (texts_of owns.reading owns.written) → Laws types owns
laws_of types owns sincere_types sincere lawful = record {
  types_split = sincere_types.reads;
  splits = sincere.reads;
  words = lawful_needs_word owns.reading owns.written lawful;
  short_types = short types.reading types.written sincere_types.reads;
  short_owns = short owns.reading owns.written sincere.reads;
  sincere = sincere;
  lawful = lawful;
}
