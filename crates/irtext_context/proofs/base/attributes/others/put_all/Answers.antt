use Rattle.std.proofs.Common.{◌∙◌, ap, sym, arith}
use Rattle.std.specs.Str.{bytes_eq}
use Rattle.indexmap.specs.IndexMap.{insert_all}
use Rattle.irtext_context.proofs.Drops.{nothing}
use Rattle.irtext_context.proofs.base.attributes.others.put_all.Goals as goal

pub returns-clause-entries : goal.returns-clause-entries
returns-clause-entries g c =
    let l = c.loop-key in
    let none = nothing l.key-iterator.rest.items (omega (arith, c.in-None.ensures.steps.0, l.key-iterator.rest.ok.0)) in
    ap (insert_all bytes_eq l.map.entries) (sym none) ∙ l.invariant.0
