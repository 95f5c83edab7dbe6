use Rattle.std.proofs.Common.{◌∙◌, refl, sym, ap, inl, Some}
use Rattle.irtext_graph.proofs.Redirected.{replacing_goes_on, replacing_ends, can_name}
use Rattle.irtext_graph.proofs.objects.Objects.replace_uses.Goals as goal

pub loop-u-init : goal.loop-u-init
loop-u-init g c = record {
  linked = c.requires.linked;
  all_used = c.requires.all_used;
  alive = c.requires.alive;
  alive_too = c.requires.alive_too;
  rest = refl;
  vals = λ u. inl refl;
}

pub redirect-requires-clause-near : goal.redirect-requires-clause-near
redirect-requires-clause-near g c = rw c.in-Some.is at c.site.ensures.near

pub redirect-requires-clause-used : goal.redirect-requires-clause-used
redirect-requires-clause-used g c =
    let is = c.loop-u.invariant.linked.head_ok c.args.d c.in-Some.u (c.head_of.ensures ∙ ap Some (sym c.site.ensures.value ∙ c.in-Some.is)) in
    rw is.0 refl

pub redirect-requires-clause-names : goal.redirect-requires-clause-names
redirect-requires-clause-names g c =
    let is = c.loop-u.invariant.linked.head_ok c.args.d c.in-Some.u (c.head_of.ensures ∙ ap Some (sym c.site.ensures.value ∙ c.in-Some.is)) in
    can_name c.loop-u.self c.in-Some.u c.args.d c.args.e c.requires.alike is.0

pub loop-u-smaller : goal.loop-u-smaller
loop-u-smaller g c =
    let is = c.loop-u.invariant.linked.head_ok c.args.d c.in-Some.u (c.head_of.ensures ∙ ap Some (sym c.site.ensures.value ∙ c.in-Some.is)) in
    c.redirect.ensures.fewer c.args.d is.0 c.requires.differ

pub loop-u-preserved : goal.loop-u-preserved
loop-u-preserved g c =
    let s = c.redirect.ensures in
    let inv = c.loop-u.invariant in
    let is = inv.linked.head_ok c.args.d c.in-Some.u (c.head_of.ensures ∙ ap Some (sym c.site.ensures.value ∙ c.in-Some.is)) in
    replacing_goes_on c.args.self.now c.loop-u.self c.redirect.new.self c.args.d c.args.e c.in-Some.u c.requires.differ inv is.0 s.linked s.all_used s.here s.others s.bare

pub returns-clause-uses : goal.returns-clause-uses
returns-clause-uses g c = replacing_ends c.args.self.now c.loop-u.self c.args.d c.args.e c.loop-u.invariant (c.head_of.ensures ∙ ap Some (sym c.site.ensures.value ∙ c.in_default.is))
