use Rattle.std.proofs.Common.{refl, subst}
use Rattle.irtext_context.specs.Context.{with_graph}
use Rattle.irtext_graph.specs.Back.{AllOlder}
use Rattle.irtext_grammar.specs.Contexts.Held.{whole}
use Rattle.irtext_parse_nested.specs.Beginning.{ran_out, refused, SaysGather}
use Rattle.irtext_names.specs.Gathering.{Gathers, RefusesGathering}
use Rattle.irtext_names.specs.Uses.{KeepsScopes}
use Rattle.irtext_parse_nested.proofs.BeginRead.{keeps_used, keeps_created, nothing_used_is_live, refusal_known}
use Rattle.irtext_names.proofs.Outcomes.{if_err}
use Rattle.irtext_parse_nested.proofs.Marking.{if_ok_two, if_ok_handed}
use Rattle.irtext_parse_nested.proofs.beginning.pieces_created.Goals as goal

-- ---- names were used
pub make_gathered-made-requires : goal.make_gathered-made-requires
make_gathered-made-requires g c =
    let n = c.gather.new in
    let e = c.nothing-gathered.ensures in
    c.in-Ok.ensures.gathers.there (nothing_used_is_live _ _ (record { operands = e.operands; successors = e.successors; types = e.types; attributes = e.attributes }))

pub returns-in-Ok-clause-creates : goal.returns-in-Ok-clause-creates
returns-in-Ok-clause-creates g c =
    let old = c.args.s.now.state.ctx.now in
    let names = c.args.names.now in
    let n = c.gather.new in
    let e = c.nothing-gathered.ensures in
    if_ok_handed _ c.make_gathered-made.result c.or_memory.result c.or_memory.ensures.value
    (if_ok_two c.make_gathered-made.result (λ made makes counts. record {
      none = c.nothing-gathered.result;
      is_none = record { operands = e.operands; successors = e.successors; types = e.types; attributes = e.attributes };
      gathered = n.gathered;
      used = with_graph old n.graph;
      gathers = subst (λ k. Gathers c.args.pieces names k c.nothing-gathered.result n.names n.graph n.gathered) c.graph_mut.ensures.value c.in-Ok.ensures.gathers;
      steady = subst (λ k. KeepsScopes names n.names k n.graph) c.graph_mut.ensures.value c.gather.ensures.steady;
      used_is = refl;
      makes = makes;
      counts = counts;
    }) c.make_gathered-made.ensures.makes c.make_gathered-made.ensures.counts)

pub returns-in-Ok-clause-refused : goal.returns-in-Ok-clause-refused
returns-in-Ok-clause-refused g c = if_err c.or_memory.result (λ f s. ran_out s) c.or_memory.ensures.ran_out

pub returns-in-Ok-clause-kept : goal.returns-in-Ok-clause-kept
returns-in-Ok-clause-kept g c = λ m le.
    let old = c.args.s.now.state.ctx.now in
    let n = c.gather.new in
    keeps_created {used = with_graph old n.graph} (subst (λ n. AllOlder n old.graph) c.made.ensures.made c.made.ensures.older)
    (subst (λ k. KeepsScopes c.args.names.now n.names k n.graph) c.graph_mut.ensures.value c.gather.ensures.steady) refl c.make_gathered-made.new.ctx m le (c.make_gathered-made.ensures.kept m)

-- ---- a name or a key is an error
pub gather_fault-requires : goal.gather_fault-requires
gather_fault-requires g c =
    refusal_known c.args.pieces c.args.names.now c.args.s.now.state.ctx.now.graph c.requires.can.text c.requires.can.parts c.requires.can.are c.gather.new.names.names c.gather.ensures.steady.names c.in-Err.refusal
    (subst (λ k. RefusesGathering c.args.pieces c.args.names.now k c.in-Err.refusal) c.graph_mut.ensures.value c.in-Err.ensures.refused)

pub returns-in-Err-clause-refused : goal.returns-in-Err-clause-refused
returns-in-Err-clause-refused g c =
    refused c.in-Err.refusal
    (subst (λ k. RefusesGathering c.args.pieces c.args.names.now k c.in-Err.refusal) c.graph_mut.ensures.value c.in-Err.ensures.refused)
    (subst (λ ns. SaysGather ns (whole c.args.s.now.stream) c.in-Err.refusal c.gather_fault.result) c.gather.ensures.steady.names c.gather_fault.ensures)

pub returns-in-Err-clause-kept : goal.returns-in-Err-clause-kept
returns-in-Err-clause-kept g c = λ m le.
    let old = c.args.s.now.state.ctx.now in
    let n = c.gather.new in
    keeps_used {used = with_graph old n.graph} (subst (λ n. AllOlder n old.graph) c.made.ensures.made c.made.ensures.older)
    (subst (λ k. KeepsScopes c.args.names.now n.names k n.graph) c.graph_mut.ensures.value c.gather.ensures.steady) refl m le
