use Rattle.std.proofs.Common.{None, sym, ◌∙◌}
use Rattle.irtext_tokens.specs.AttrTexts.{attr_at}
use Rattle.irtext_parse_pieces.proofs.Meanings.{must_fail}
use Rattle.irtext_parse_pieces.proofs.EntrySteps.{no_dictionary, dictionary_read}
use Rattle.irtext_parse_pieces.proofs.Lenses.{lens_of}
use Rattle.irtext_parse_pieces.proofs.entries.dictionary_if_parse.Goals as goal

pub returns-then-has_failed : goal.returns-then-has_failed
returns-then-has_failed g c = must_fail (lens_of g.world g.met.S.CharStream) None (sym c.has_failed.ensures ∙ c.if-has_failed.true) c.refuse.ensures

pub returns-then-not-next_is : goal.returns-then-not-next_is
returns-then-not-next_is g c = no_dictionary (lens_of g.world g.met.S.CharStream) (attr_at g.A.IrText.reading) (sym c.has_failed.ensures ∙ c.if-has_failed.false) (sym c.next_is.ensures ∙ c.if-not-next_is.true) tt

pub returns : goal.returns
returns g c = dictionary_read (lens_of g.world g.met.S.CharStream) (attr_at g.A.IrText.reading) (sym c.next_is.ensures ∙ c.if-not-next_is.false) c.dictionary_parse-answer.result c.present.ensures c.dictionary_parse-answer.ensures
