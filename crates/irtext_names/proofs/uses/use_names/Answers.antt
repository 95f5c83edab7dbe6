use Rattle.std.proofs.Common.{◌<◌, ◌∷◌, ◌++◌, ◌∙◌, [], length, map, take, sym, ap, subst, arith}
use Rattle.irtext_names.specs.Kinds.{scopes_of, Makes}
use Rattle.irtext_names.proofs.Lists.{known_at, number_more}
use Rattle.irtext_names.proofs.NamesInRow.{use_open}
use Rattle.irtext_names.proofs.UsedRows.{ties_both, used_none, used_more}
use Rattle.irtext_names.proofs.uses.use_names.Goals as goal

pub loop-name-init : goal.loop-name-init
loop-name-init g c = used_none g.K.Referent.kind c.args.names.now c.args.graph.now c.args.referents.now.items c.requires.open c.requires.tied

pub use_name-requires-clause-known : goal.use_name-requires-clause-known
use_name-requires-clause-known g c =
    let f = g.N.Named.numbered in
    let k = known_at f (length c.args.names.now.names) c.args.used.now c.loop-name.name-index c.name-item.result (omega arith) c.requires.known in
    rw (c.number.ensures, c.loop-name.invariant.rest.0) (subst (λ x. f x < length c.args.names.now.names) (sym c.name-item.is) k)

pub returns-in_err-referent-clause-ties : goal.returns-in_err-referent-clause-ties
returns-in_err-referent-clause-ties g c = ties_both c.loop-name.invariant.ties c.use_name.ensures.ties

pub returns-in_err-push-clause-open : goal.returns-in_err-push-clause-open
returns-in_err-push-clause-open g c =
    let kind = g.K.Referent.kind in
    use_open (Makes kind (g.K.Referent.blank c.blank-with.result)) (scopes_of kind c.loop-name.names) (scopes_of kind c.use_name.new.names) c.loop-name.graph c.use_name.new.graph c.number.result c.in_ok-referent.referent c.in_ok-referent.ensures.uses c.loop-name.invariant.scope

pub returns-in_err-push-clause-ties : goal.returns-in_err-push-clause-ties
returns-in_err-push-clause-ties g c = ties_both c.loop-name.invariant.ties c.use_name.ensures.ties

pub loop-name-preserved : goal.loop-name-preserved
loop-name-preserved g c =
    let f = g.N.Named.numbered in
    let s = c.in_ok-referent.ensures in
    used_more g.K.Referent.kind (g.K.Referent.blank c.blank-with.result) (map f (take c.loop-name.name-index c.args.used.now)) _ c.number.result c.args.names.now c.loop-name.names c.use_name.new.names c.args.graph.now c.loop-name.graph c.use_name.new.graph c.args.referents.now.items c.loop-name.referents.items _ c.in_ok-referent.referent
    (number_more f c.args.used.now c.loop-name.name-index c.name-item.result (omega arith) ∙ ap (λ n. map f (take c.loop-name.name-index c.args.used.now) ++ n ∷ []) (sym (c.number.ensures ∙ ap f c.name-item.is))) c.in_ok-push.ensures.items c.loop-name.invariant s.uses s.there s.follows s.rest s.ties
