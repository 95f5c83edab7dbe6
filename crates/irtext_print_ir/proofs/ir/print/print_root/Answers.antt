use Rattle.std.proofs.Common.{◌≡◌, ◌∙◌, ap, sym, subst, string_bytes, Some, None, option_map}
use Rattle.irtext_base.proofs.OnlyAppended.{appends_this, failed_after}
use Rattle.irtext_context.proofs.Parts.{seen_is_live}
use Rattle.irtext_graph.specs.Graph.{IsLive, children, parent}
use Rattle.irtext_graph.specs.Nested.{Nested}
use Rattle.irtext_graph.specs.declared.object.Object.TheVariants.{TheOperation, TheBlock}
use Rattle.irtext_print.proofs.Printers.Appended.{then}
use Rattle.irtext_print.specs.Printers.Printing.{gathered_of, with_gathered}
use Rattle.irtext_print_ir.specs.Printers.Printed.{block_round}
use Rattle.irtext_print_ir.proofs.Printers.Gathered.{same_block, in_block, defined, rests}
use Rattle.irtext_print_ir.proofs.Printers.Ends.{root_ends, both_end}
use Rattle.irtext_print_ir.proofs.ir.print.print_root.Goals as goal

pub block_of-requires : goal.block_of-requires
block_of-requires g c = subst (λ z. IsLive z (TheOperation c.args.op)) (sym c.graph-graph.ensures) (seen_is_live c.args.ctx.now c.args.op c.requires.live)

pub returns-in-Some-clause-prints : goal.returns-in-Some-clause-prints
returns-in-Some-clause-prints g c =
    let is = same_block (block_round c.args.ctx.now c.args.op) (Some c.in-Some._block) (subst (λ z. parent z (TheOperation c.args.op) ≡ option_map TheBlock c.block_of.result) c.graph-graph.ensures c.block_of.ensures ∙ ap (option_map TheBlock) c.in-Some.is) in
    then c.gather_operation.result (λ p. in_block g.T.IrText g.A.IrText g.A.AttrText g.A.PartialEq.eq c.args.ctx.now c.args.op c.args.state.now (string_bytes c.args.f.now) c.gather_operation.new.state (string_bytes c.gather_operation.new.f) c.in-Some._block is p.text p.state p.fits)
    c.gather_operation.ensures.prints

pub returns-in-Some-clause-text : goal.returns-in-Some-clause-text
returns-in-Some-clause-text g c = then c.gather_operation.result (λ p. record { text = p.text; state = p.state }) (returns-in-Some-clause-prints g c)

pub returns-in-Some-clause-defined : goal.returns-in-Some-clause-defined
returns-in-Some-clause-defined g c =
    then c.gather_operation.result (λ p. defined g.T.IrText g.A.IrText g.A.AttrText g.A.PartialEq.eq c.args.ctx.now c.args.op c.args.state.now (string_bytes c.args.f.now) c.gather_operation.new.state (string_bytes c.gather_operation.new.f) c.requires.live
    (subst (λ z. Nested (children z) (parent z)) c.graph-graph.ensures c.keeps_nesting.ensures.forest) p) (returns-in-Some-clause-prints g c)

pub returns-in_ok-gather_operation-in-None-clause-prints : goal.returns-in_ok-gather_operation-in-None-clause-prints
returns-in_ok-gather_operation-in-None-clause-prints g c =
    let is = same_block (block_round c.args.ctx.now c.args.op) None (subst (λ z. parent z (TheOperation c.args.op) ≡ option_map TheBlock c.block_of.result) c.graph-graph.ensures c.block_of.ensures ∙ ap (option_map TheBlock) c.in-None.is) in
    both_end c.fmt_end.result (λ v e. root_ends g.T.IrText g.A.IrText g.A.AttrText g.A.PartialEq.eq c.args.ctx.now c.args.op c.args.state.now (string_bytes c.args.f.now) (string_bytes c.gather_operation-in-None.new.f) (string_bytes c.fmt_end.new.f) c.gather_operation-in-None.new.state c.fmt_end.new.state is
    c.in_ok-gather_operation-in-None.ensures.prints.text c.in_ok-gather_operation-in-None.ensures.prints.state c.in_ok-gather_operation-in-None.ensures.prints.fits v e) c.fmt_end.ensures.text c.fmt_end.ensures.state

pub returns-in_ok-gather_operation-in-None-clause-text : goal.returns-in_ok-gather_operation-in-None-clause-text
returns-in_ok-gather_operation-in-None-clause-text g c = then c.fmt_end.result (λ p. record { text = p.text; state = p.state }) (returns-in_ok-gather_operation-in-None-clause-prints g c)

pub returns-in_ok-gather_operation-in-None-clause-defined : goal.returns-in_ok-gather_operation-in-None-clause-defined
returns-in_ok-gather_operation-in-None-clause-defined g c =
    then c.fmt_end.result (λ p. defined g.T.IrText g.A.IrText g.A.AttrText g.A.PartialEq.eq c.args.ctx.now c.args.op c.args.state.now (string_bytes c.args.f.now) c.fmt_end.new.state (string_bytes c.fmt_end.new.f) c.requires.live
    (subst (λ z. Nested (children z) (parent z)) c.graph-graph.ensures c.keeps_nesting.ensures.forest) p) (returns-in_ok-gather_operation-in-None-clause-prints g c)

pub returns-in_ok-gather_operation-in-None-clause-rest : goal.returns-in_ok-gather_operation-in-None-clause-rest
returns-in_ok-gather_operation-in-None-clause-rest g c = rests c.args.state.now c.fmt_end.new.state (gathered_of c.fmt_end.new.state) (c.fmt_end.ensures.rest ∙ ap (λ s. with_gathered s (gathered_of c.fmt_end.new.state)) c.gather_operation-in-None.ensures.rest)

pub returns-in_ok-gather_operation-in-None-clause-appended : goal.returns-in_ok-gather_operation-in-None-clause-appended
returns-in_ok-gather_operation-in-None-clause-appended g c =
    failed_after c.fmt_end.result c.fmt_end.new.f (appends_this {new = c.gather_operation-in-None.new.f} _ c.in_ok-gather_operation-in-None.ensures.prints.text) c.fmt_end.ensures.appended
