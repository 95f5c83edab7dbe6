use Rattle.std.proofs.Common.{sym, subst}
use Rattle.irtext_tokens.specs.AttrTexts.{attr_at}
use Rattle.irtext_grammar.specs.Contexts.Held.{whole}
use Rattle.irtext_grammar.specs.Parsed.{Each}
use Rattle.irtext_survey.specs.Notes.{first_definition}
use Rattle.irtext_survey.specs.Walk.{IsNote}
use Rattle.irtext_survey.proofs.Finding.{found_by}
use Rattle.irtext_survey.proofs.survey.first_definition.Goals as goal

pub returns-clause-first : goal.returns-clause-first
returns-clause-first g c = found_by g.T.IrText.reading (attr_at g.A.IrText.reading) c.args.ctx.now.dialects c.args.name.now c.args.stream.now c.tree_noted.new.book c.tree_noted.new.stream (λ text notes. first_definition text c.args.second notes) c.in-Ok.whole c.in-Ok.ensures c.definition_in-found.result
    (λ seen e. c.definition_in-found.ensures seen (subst (λ l. Each (IsNote (whole c.tree_noted.new.stream)) l seen) (sym c.deref.ensures.value) e)) c.located.result c.located.ensures
