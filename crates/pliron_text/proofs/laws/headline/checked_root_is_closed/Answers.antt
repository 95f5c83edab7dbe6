use Rattle.irtext_grammar.specs.Contexts.Nested.{printing_over}
use Rattle.pliron_text.proofs.Closing.Root.{in_no_block, closed_as_seen}
use Rattle.pliron_text.proofs.laws.headline.checked_root_is_closed.Goals as goal

pub returns-clause-nowhere : goal.returns-clause-nowhere
returns-clause-nowhere g c = λ op shut. in_no_block c.args.ctx.now g.A.IrText.written (printing_over c.args.ctx.now g.A.AttrText.outlined g.A.AttrText.print_once g.A.PartialEq.eq) op c.keeps_parts.ensures.all.counters.nested shut

pub returns-clause-closed : goal.returns-clause-closed
returns-clause-closed g c = λ op x shut sees fits.
    closed_as_seen c.args.ctx.now g.A.IrText.written (printing_over c.args.ctx.now g.A.AttrText.outlined g.A.AttrText.print_once g.A.PartialEq.eq) op c.keeps_parts.ensures.all.counters.nested shut x sees (c.keeps_parts.ensures.kept op x sees).distinct fits
