use Rattle.std.proofs.Common.{rules, sym, subst}
use Rattle.irtext_graph.specs.declared.object.Object.TheVariants.{TheBlock, TheRegion}
use Rattle.irtext_graph.specs.Graph.{Appends, CanInsert, IsLive, children, parent}
use Rattle.irtext_graph.specs.Nested.{Nested}
use Rattle.irtext_names.proofs.Apart.{apart_of}
use Rattle.irtext_names.proofs.BlockKept.{kept_appended}
use Rattle.irtext_names.proofs.placing.place_block.Goals as goal

pub insert_at_back-requires-clause-holder : goal.insert_at_back-requires-clause-holder
insert_at_back-requires-clause-holder g c = subst (λ k. IsLive k (TheRegion c.args.region)) (sym c.graph_mut-graph.ensures.value) (search rules)

pub insert_at_back-requires-clause-alive : goal.insert_at_back-requires-clause-alive
insert_at_back-requires-clause-alive g c = subst (λ k. IsLive k (TheBlock c.in-Ok.block)) (sym c.graph_mut-graph.ensures.value) (search rules)

pub insert_at_back-requires-clause-can : goal.insert_at_back-requires-clause-can
insert_at_back-requires-clause-can g c = subst (λ k. CanInsert k (TheRegion c.args.region) (TheBlock c.in-Ok.block)) (sym c.graph_mut-graph.ensures.value) (record {
  free = search rules;
  apart = apart_of (subst (λ k. Nested (children k) (parent k)) c.graph.ensures c.keeps_nesting.ensures.forest) (TheBlock c.in-Ok.block) (TheRegion c.args.region) (search rules) (λ e. cc);
})

pub returns-in-Ok-insert_at_back-clause-places : goal.returns-in-Ok-insert_at_back-clause-places
returns-in-Ok-insert_at_back-clause-places g c =
    let made = c.in-Ok.ensures.made in
    record {
      between = c.make_block.new.self;
      makes = made;
      appends = subst (λ k. Appends k c.insert_at_back.new.self (TheRegion c.args.region) (TheBlock c.in-Ok.block)) c.graph_mut-graph.ensures.value c.in-Ok-insert_at_back.ensures.ok;
      paths = made.paths;
      dialects = made.dialects;
    }

pub returns-in-Err-insert_at_back-clause-kept : goal.returns-in-Err-insert_at_back-clause-kept
returns-in-Err-insert_at_back-clause-kept g c = kept_appended c.args.region c.in-Ok.block c.in-Ok.ensures.made c.graph_mut-graph.ensures.value c.make_block.ensures.kept c.insert_at_back.ensures.kept

pub returns-in-Ok-insert_at_back-clause-kept : goal.returns-in-Ok-insert_at_back-clause-kept
returns-in-Ok-insert_at_back-clause-kept g c = kept_appended c.args.region c.in-Ok.block c.in-Ok.ensures.made c.graph_mut-graph.ensures.value c.make_block.ensures.kept c.insert_at_back.ensures.kept
