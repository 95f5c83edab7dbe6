use Rattle.irtext_grammar.specs.Promises.ErrorCauses.{HasReason, had_failed, out_of_memory}
use Rattle.pliron_text.proofs.ErrorCauses.{any_fails, whole_fails, alone_fails, why}
use Rattle.pliron_text.proofs.laws.causes.causes_of_errors.Goals as goal

pub returns-clause-operation : goal.returns-clause-operation
returns-clause-operation g c look old new result p = why (HasReason old.state.ctx.now.dialects g.T.IrText.reading g.A.IrText.reading old.stream) old new (λ f e is. had_failed e is) (λ f is. out_of_memory is)
    (λ f m. any_fails g.T.IrText.reading g.A.IrText.reading g.met.T.IrText.sincere g.met.A.IrText.sincere old f look m) result p

pub returns-clause-whole_text : goal.returns-clause-whole_text
returns-clause-whole_text g c old new result p = why (HasReason old.state.ctx.now.dialects g.T.IrText.reading g.A.IrText.reading old.stream) old new (λ f e is. had_failed e is) (λ f is. out_of_memory is)
    (λ f m. whole_fails g.T.IrText.reading g.A.IrText.reading g.met.T.IrText.sincere g.met.A.IrText.sincere old f m) result p

pub returns-clause-region : goal.returns-clause-region
returns-clause-region g c op old new result p = why (HasReason old.state.ctx.now.dialects g.T.IrText.reading g.A.IrText.reading old.stream) old new (λ f e is. had_failed e is) (λ f is. out_of_memory is)
    (λ f m. alone_fails g.T.IrText.reading g.A.IrText.reading g.met.T.IrText.sincere g.met.A.IrText.sincere old f op m) result p
