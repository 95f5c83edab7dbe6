use Rattle.std.proofs.Common.{refl, subst}
use Rattle.irtext_grammar.specs.Contexts.Held.{whole}
use Rattle.irtext_grammar.specs.Promises.Root.{UnlessMemory}
use Rattle.irtext_tokens.specs.AttrTexts.{attr_at}
use Rattle.irtext_parse_nested.specs.Leaving.{IsUnresolved, TakesLeave}
use Rattle.irtext_parse_nested.proofs.Leaving.{unclosed, closed, unleft}
use Rattle.irtext_parse_nested.proofs.Marking.{on_both}
use Rattle.irtext_names.proofs.Outcomes.{if_err}
use Rattle.irtext_parse_nested.proofs.regions.region_end.Goals as goal

pub returns-in-Err-clause-refused : goal.returns-in-Err-clause-refused
returns-in-Err-clause-refused g c =
    (λ place r. unclosed g.T.IrText.reading (attr_at g.A.IrText.reading) c.args.names.now c.args.s.now c.args.region place _ _ c.requires.fine c.in-Err.ensures)

pub returns-clause-ends : goal.returns-clause-ends
returns-clause-ends g c = on_both c.leave.result (λ takes stream. λ place r. closed g.T.IrText.reading (attr_at g.A.IrText.reading) c.args.names.now c.args.s.now c.args.region place _ c.in_default.ensures
    c.leave.new.names _ refl stream (subst (λ k. TakesLeave c.args.region.isolated c.args.names.now c.leave.new.names k) c.graph_of.ensures takes)) c.leave.ensures.takes c.leave.ensures.stream

pub returns-clause-refused : goal.returns-clause-refused
returns-clause-refused g c = if_err c.leave.result (λ f u. λ place r. unleft g.T.IrText.reading (attr_at g.A.IrText.reading) c.args.names.now c.args.s.now c.args.region place _ c.in_default.ensures f r.placed
    (subst (λ k. UnlessMemory (IsUnresolved c.args.names.now k (whole c.text_demanded.new.stream) c.args.region) f) c.graph_of.ensures u)) c.leave.ensures.refused
