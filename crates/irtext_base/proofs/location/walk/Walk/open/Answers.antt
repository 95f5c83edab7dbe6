use Rattle.irtext_base.proofs.Walks.{reached_one, name_opens, name_less, call_site_opens, call_site_less, unknown_taken, unknown_less, place_taken, place_less}
use Rattle.irtext_base.proofs.location.walk.Walk.open.Goals as goal

pub returns-in_ok-src-in-SrcPos : goal.returns-in_ok-src-in-SrcPos
returns-in_ok-src-in-SrcPos g c =
    let rule = g.M.NewSources.rule c.args.self.now.sources.now in
    let v = c.in-SrcPos in
    let ok = c.in_ok-src-in-SrcPos in
    record {
      on = place_taken c.args.location.now v.src v.pos v.is rule c.args.state.now c.new_source.new.state ok.src c.requires ok.ensures.ok ok.ensures.kept;
      reached = reached_one rule v.src c.args.state.now c.new_source.new.state ok.ensures.kept;
      less = place_less c.args.location.now v.src v.pos v.is;
    }

pub returns-in-Named-clause-on : goal.returns-in-Named-clause-on
returns-in-Named-clause-on g c =
    let v = c.in-Named in
    name_opens c.args.location.now v.name v.child_loc v.is c.deref-in-Named.result c.deref-in-Named.ensures c.deref-in-Named-2.result c.deref-in-Named-2.ensures
    (g.M.NewSources.rule c.args.self.now.sources.now) c.args.state.now

pub returns-in-Named-clause-less : goal.returns-in-Named-clause-less
returns-in-Named-clause-less g c =
    let v = c.in-Named in
    name_less c.args.location.now v.name v.child_loc v.is c.deref-in-Named.result c.deref-in-Named.ensures c.deref-in-Named-2.result c.deref-in-Named-2.ensures

pub returns-in-CallSite-clause-on : goal.returns-in-CallSite-clause-on
returns-in-CallSite-clause-on g c =
    let v = c.in-CallSite in
    call_site_opens c.args.location.now v.callee v.caller v.is c.deref-in-CallSite-2.result c.deref-in-CallSite-2.ensures c.deref-in-CallSite.result c.deref-in-CallSite.ensures
    (g.M.NewSources.rule c.args.self.now.sources.now) c.args.state.now

pub returns-in-CallSite-clause-less : goal.returns-in-CallSite-clause-less
returns-in-CallSite-clause-less g c =
    let v = c.in-CallSite in
    call_site_less c.args.location.now v.callee v.caller v.is c.deref-in-CallSite-2.result c.deref-in-CallSite-2.ensures c.deref-in-CallSite.result c.deref-in-CallSite.ensures

pub returns-in-Unknown-clause-on : goal.returns-in-Unknown-clause-on
returns-in-Unknown-clause-on g c = unknown_taken (g.M.NewSources.rule c.args.self.now.sources.now) c.args.state.now c.args.location.now c.in-Unknown.is

pub returns-in-Unknown-clause-less : goal.returns-in-Unknown-clause-less
returns-in-Unknown-clause-less g c = unknown_less c.args.location.now c.in-Unknown.is
