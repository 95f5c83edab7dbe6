use Rattle.std.proofs.Common.{◌∙◌, sym, refl, subst}
use Rattle.irtext_graph.specs.Erasing.{owner}
use Rattle.irtext_graph.specs.Graph.{IsNew}
use Rattle.irtext_scopes.specs.Scopes.{find, innermost}
use Rattle.irtext_scopes.specs.declared.scopes.DefineFault.TheVariants.{MultipleDefinitions}
use Rattle.irtext_names.specs.Kinds.{scopes_of, defined_as}
use Rattle.irtext_names.proofs.ByKind.{one_of, alike_of, same_scopes, ties, waits, definition_ties}
use Rattle.irtext_names.proofs.Lists.{older_itself}
use Rattle.irtext_names.proofs.Linked.Definitions.{takes_definition, fails_twice}
use Rattle.irtext_names.proofs.Pairs.{held_here, waits_here, not_itself, settles_some, settles_none, waits_free, accepted_free, propagated, same_refusal}
use Rattle.irtext_names.proofs.definitions.define_name.Goals as goal

pub settle-requires-clause-placeholder : goal.settle-requires-clause-placeholder
settle-requires-clause-placeholder g c =
    let kind = g.K.Referent.kind in
    rw c.as_defined.ensures (held_here (defined_as kind) c.args.name (scopes_of kind c.args.names.now) (ties kind c.args.names.now c.args.graph.now c.requires.tied) c.in-Some.placeholder (sym c.in_ok-placeholder.ensures.placeholder ∙ c.in-Some.is))

pub settle-requires-clause-alive : goal.settle-requires-clause-alive
settle-requires-clause-alive g c = rw c.as_defined-in-Some.ensures c.requires.there

pub settle-requires-clause-alike : goal.settle-requires-clause-alike
settle-requires-clause-alike g c = rw (c.as_defined.ensures, c.as_defined-in-Some.ensures) (alike_of g.K.Referent.kind c.in-Some.placeholder c.args.def)

pub settle-requires-clause-differ : goal.settle-requires-clause-differ
settle-requires-clause-differ g c =
    let kind = g.K.Referent.kind in
    rw (c.as_defined.ensures, c.as_defined-in-Some.ensures) (not_itself (defined_as kind) c.args.name (scopes_of kind c.args.names.now) (ties kind c.args.names.now c.args.graph.now c.requires.tied) c.in-Some.placeholder c.args.def (one_of kind) (sym c.in_ok-placeholder.ensures.placeholder ∙ c.in-Some.is) c.requires.no_placeholder)

pub returns-in-Some-clause-defines : goal.returns-in-Some-clause-defines
returns-in-Some-clause-defines g c = record {
  scopes_are = c.in_ok-placeholder.ensures.ok;
  settles = settles_some (defined_as g.K.Referent.kind) c.args.graph.now c.settle.new.graph c.args.def c.in-Some.placeholder (sym c.in_ok-placeholder.ensures.placeholder ∙ c.in-Some.is) (rw (← c.as_defined.ensures, ← c.as_defined-in-Some.ensures) c.settle.ensures.settles);
}

pub returns-in-Some-clause-ties : goal.returns-in-Some-clause-ties
returns-in-Some-clause-ties g c =
    let kind = g.K.Referent.kind in
    let waits_with = waits_here (defined_as kind) c.args.name (scopes_of kind c.args.names.now) (ties kind c.args.names.now c.args.graph.now c.requires.tied) c.in-Some.placeholder (sym c.in_ok-placeholder.ensures.placeholder ∙ c.in-Some.is) in
    definition_ties kind c.args.names.now c.define.new.names c.define.ensures.rest.1 c.requires.tied c.args.name c.args.def (returns-in-Some-clause-defines g c) c.requires.there c.requires.no_placeholder
    (λ m own closed w. c.settle.ensures.kept m closed (subst (λ d. IsNew m c.args.graph.now (owner d)) (sym c.as_defined.ensures) ((waits kind c.args.names.now c.args.graph.now m own w).late 0 c.args.name c.in-Some.placeholder waits_with)))

pub returns-in_default-clause-defines : goal.returns-in_default-clause-defines
returns-in_default-clause-defines g c = record {
  scopes_are = c.in_ok-placeholder.ensures.ok;
  settles = settles_none (defined_as g.K.Referent.kind) c.args.graph.now c.args.graph.now c.args.def c.in_ok-placeholder.field-0 c.in_default.not-Some c.in_ok-placeholder.ensures.placeholder refl;
}

pub returns-in_default-clause-ties : goal.returns-in_default-clause-ties
returns-in_default-clause-ties g c =
    definition_ties g.K.Referent.kind c.args.names.now c.define.new.names c.define.ensures.rest.1 c.requires.tied c.args.name c.args.def (returns-in_default-clause-defines g c) c.requires.there c.requires.no_placeholder
    (λ m own closed w. older_itself m c.args.graph.now)

pub returns-in-Some-clause-follows : goal.returns-in-Some-clause-follows
returns-in-Some-clause-follows g c = λ w p is.
    let kind = g.K.Referent.kind in
    takes_definition kind c.args.names.now c.args.graph.now c.args.name w p is c.define.new.names c.args.def c.define.ensures.rest.0 c.define.ensures.rest.1 (returns-in-Some-clause-ties g c).tied c.requires.open
    (waits_free (find c.args.name (innermost (scopes_of kind c.args.names.now))) c.in-Some.placeholder (sym c.in_ok-placeholder.ensures.placeholder ∙ c.in-Some.is))
    (returns-in-Some-clause-defines g c)

pub returns-in_default-clause-follows : goal.returns-in_default-clause-follows
returns-in_default-clause-follows g c = λ w p is.
    let kind = g.K.Referent.kind in
    takes_definition kind c.args.names.now c.args.graph.now c.args.name w p is c.define.new.names c.args.def c.define.ensures.rest.0 c.define.ensures.rest.1 (returns-in_default-clause-ties g c).tied c.requires.open
    (accepted_free c.define.result MultipleDefinitions c.in_ok-placeholder.field-0 (find c.args.name (innermost (scopes_of kind c.args.names.now))) c.in_ok-placeholder.was c.define.ensures.twice.1)
    (returns-in_default-clause-defines g c)

pub returns-in_err-placeholder-clause-fails : goal.returns-in_err-placeholder-clause-fails
returns-in_err-placeholder-clause-fails g c = λ e w p is. fails_twice g.K.Referent.kind c.args.names.now c.args.graph.now c.args.name w p is c.requires.open
    (c.define.ensures.twice.0 (same_refusal c.define.result c.from_residual.result c.in_err-placeholder.field-0.0 MultipleDefinitions c.in_err-placeholder.was (propagated c.from_residual.result c.from_residual.ensures.1) e))

pub returns-in_err-placeholder-clause-ties : goal.returns-in_err-placeholder-clause-ties
returns-in_err-placeholder-clause-ties g c =
    let same = same_scopes g.K.Referent.kind c.args.names.now c.define.new.names c.in_err-placeholder.ensures.err c.define.ensures.rest.1 in
    record { tied = rw (same.0, same.1) c.requires.tied; waiting = λ m own w. rw (same.0, same.1) w; kept = λ m own closed w. older_itself m c.args.graph.now }
