use Rattle.std.proofs.Common.{◌∙◌, sym}
use Rattle.irtext_parse_nested.specs.Beginning.{ran_out}
use Rattle.irtext_parse_nested.proofs.BeginRead.{bare_creates}
use Rattle.irtext_names.proofs.Ordering.{none_left}
use Rattle.irtext_names.proofs.Outcomes.{if_err}
use Rattle.irtext_parse_nested.proofs.Marking.{if_ok_two, if_ok_handed}
use Rattle.irtext_parse_nested.proofs.beginning.created.Goals as goal

pub returns-clause-creates : goal.returns-clause-creates
returns-clause-creates g c =
    let e = c.nothing-none.ensures in
    if_ok_handed _ c.make_bare-made.result c.or_memory.result c.or_memory.ensures.value
    (if_ok_two c.make_bare-made.result
    (λ made. bare_creates c.args.id.now c.args.pieces (none_left c.args.pieces (sym c.len.ensures ∙ c.if-len-ne0.false)) c.args.loc c.args.names.now c.args.s.now.state.ctx.now c.make_bare-made.new.ctx c.requires.can.tied
    c.nothing-none.result (record { operands = e.operands; successors = e.successors; types = e.types; attributes = e.attributes }) made.0 made.1)
    (rw c.attributes_of-attributes.ensures at c.make_bare-made.ensures.makes) c.make_bare-made.ensures.counts)

pub returns-clause-refused : goal.returns-clause-refused
returns-clause-refused g c = if_err c.or_memory.result (λ f s. ran_out s) c.or_memory.ensures.ran_out
