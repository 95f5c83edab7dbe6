use Rattle.std.proofs.Common.{◌∙◌, arith}
use Rattle.irtext_names.proofs.Ordering.{none_left, split_more, split_all}
use Rattle.irtext_names.proofs.dictionary.many_split.Goals as goal

pub loop-argument-preserved : goal.loop-argument-preserved
loop-argument-preserved g c =
    let l = c.loop-argument in
    let e = c.in_default.ensures in
    let s = c.in-Some.ensures.steps.0 in
    record {
      names = split_more (λ a. a.0) l.names.items _ _ c.in-Some.argument _ _ e.names s l.invariant.names;
      types = split_more (λ a. a.1) l.types.items _ _ c.in-Some.argument _ _ e.types s l.invariant.types;
    }

pub returns : goal.returns
returns g c =
    let l = c.loop-argument in
    let none = none_left l.argument-iterator.rest.items (omega (arith, c.in-None.ensures.steps.0, l.argument-iterator.rest.ok.0)) in
    (c.from_vec.ensures ∙ split_all (λ a. a.0) _ _ _ none l.invariant.names, c.from_vec-2.ensures ∙ split_all (λ a. a.1) _ _ _ none l.invariant.types)
