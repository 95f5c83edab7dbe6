-- Truth values, as parts of a text.
use Rattle.std.specs.Prelude.{Bool, cond, codes}
use Rattle.irtext_base.specs.Text.{Text}
use Rattle.irtext_tokens.specs.Infix.{Reader, ◌⇒◌}
use Rattle.irtext_tokens.specs.Integers.{bool_at}
use Rattle.irtext_parts.specs.declared.truth.Truth.{Truth}

-- the part of a truth value
abbrev pub truth_of : Bool → Truth
truth_of b = record { value = b }

-- `true` or `false`
abbrev pub truth_at : Reader Truth
truth_at = bool_at ⇒ truth_of

-- the word of a truth value
abbrev pub truth_text : Truth → Text
truth_text t = cond t.value (codes "true") (codes "false")
