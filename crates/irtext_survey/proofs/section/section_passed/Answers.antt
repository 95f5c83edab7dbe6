use Rattle.irtext_tokens.specs.AttrTexts.{attr_at}
use Rattle.irtext_tokens.proofs.Exits.{propagated}
use Rattle.irtext_survey.proofs.Passing.{no_word_there, fine_after_word, section_ends}
use Rattle.irtext_survey.proofs.section.section_passed.Goals as goal

pub returns-in_err-spaced_text_demanded : goal.returns-in_err-spaced_text_demanded
returns-in_err-spaced_text_demanded g c = rw (propagated c.from_residual.result c.from_residual.ensures.1) (no_word_there (attr_at g.A.IrText.reading) c.in_err-spaced_text_demanded.ensures)

pub entries_passed-requires : goal.entries_passed-requires
entries_passed-requires g c = record { fine = fine_after_word (attr_at g.A.IrText.reading) c.in_ok-spaced_text_demanded.ensures }

pub returns : goal.returns
returns g c = section_ends (attr_at g.A.IrText.reading) c.in_ok-spaced_text_demanded.ensures c.entries_passed.ensures
