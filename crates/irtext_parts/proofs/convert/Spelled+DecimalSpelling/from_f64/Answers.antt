use Rattle.std.proofs.Common.{◌≡◌, true, sym, subst}
use Rattle.irtext_parts.specs.Spellings.{is_spelled}
use Rattle.irtext_parts.specs.Literals.{decimal_rules}
use Rattle.irtext_parts.proofs.Floats.{plain_is_spelled}
use Rattle.irtext_parts.proofs.convert.Spelled+DecimalSpelling.from_f64.Goals as goal

pub kept-requires : goal.kept-requires
kept-requires c = subst (λ t. is_spelled decimal_rules t ≡ true) (sym c.in_ok-text.ensures.ok) (plain_is_spelled _ c.format_finite.ensures.plain)
