use Rattle.irtext_names.proofs.Steady.{takes_name, use_steady}
use Rattle.irtext_names.proofs.uses.name_used.Goals as goal

pub returns-clause-takes : goal.returns-clause-takes
returns-clause-takes g c = let e = c.use_name.ensures in
    takes_name g.K.Referent.kind (g.K.Referent.blank c.blank-with.result) c.args.names.now c.use_name.new.names c.args.graph.now c.use_name.new.graph c.args.name c.use_name.result e.uses e.there e.follows

pub returns-clause-steady : goal.returns-clause-steady
returns-clause-steady g c = let e = c.use_name.ensures in
    use_steady g.K.Referent.kind (g.K.Referent.blank c.blank-with.result) c.args.names.now c.use_name.new.names c.args.graph.now c.use_name.new.graph c.args.name c.use_name.result e.uses e.there e.scopes e.objects e.rest e.ties
