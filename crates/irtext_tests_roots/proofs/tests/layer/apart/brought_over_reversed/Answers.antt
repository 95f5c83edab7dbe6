use Rattle.std.proofs.Common.{◌≡◌, [], true, false, sym, ap, subst, codes}
use Rattle.std.specs.Str.{bytes_eq}
use Rattle.irtext_base.specs.declared.base.identifier.OpId.{OpId}
use Rattle.irtext_alike.specs.Alike.{KnowAlike}
use Rattle.irtext_tests_roots.specs.Apart.{lab_format, lab_id, other_id, reversed_dialects}
use Rattle.irtext_tests_roots.proofs.tests.layer.apart.brought_over_reversed.Goals as goal

apart : other_id ≡ lab_id → ⊥
apart e = let differs : true ≡ false = ap (λ (z : OpId). bytes_eq (codes "e") z.name) e in absurd (cc)

pub brought_over-requires : goal.brought_over-requires
brought_over-requires g c =
    subst (λ d. KnowAlike d c.args.ctx.now.dialects) (sym c.requires.two)
    (subst (λ d. KnowAlike reversed_dialects d) (sym c.requires.one) (c.registered_in_any_order.ensures [] other_id lab_id lab_format lab_format false true apart))
