use Rattle.std.proofs.Common.{◌≤◌, length, sym, subst, arith}
use Rattle.std.specs.Str.{bytes_eq}
use Rattle.irtext_context.proofs.FewEntries.{length-removed}
use Rattle.irtext_context.specs.Others.{IsFew}
use Rattle.irtext_context.proofs.base.attributes.others.take.Goals as goal

pub returns-in-Few-clause-few : goal.returns-in-Few-clause-few
returns-in-Few-clause-few g c few =
    let listed = c.deref_mut.result.now.entries.items in
    let less = length-removed (bytes_eq c.as_str.result.now) listed in
    let before : length listed ≤ 8 = subst (λ v. length v.entries.items ≤ 8) (sym c.deref_mut.ensures.value) (subst IsFew c.in-Few.is few) in
    subst (λ es. length es ≤ 8) (sym c.take_out.ensures.entries) (omega (arith, less, before))
