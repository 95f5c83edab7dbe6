-- The part with a default value.
use Rattle.std.specs.Prelude.{Bool}
use Rattle.irtext_base.specs.Text.{Text}
use Rattle.irtext_tokens.specs.Infix.{Reader, ◌⇒◌}
use Rattle.irtext_parts.specs.Defaults.{value_or_at, value_or_text}
use Rattle.irtext_parts.specs.declared.defaulted.Defaulted.{Defaulted}

-- the part of a value
abbrev pub defaulted_with : {P D : Type 0} → P → Defaulted P D
defaulted_with x = record { value = x; kind = record {} }

-- a part, or nothing for the default value
abbrev pub defaulted_at : {P D : Type 0} → P → Reader P → Reader (Defaulted P D)
defaulted_at value reading = value_or_at value reading ⇒ defaulted_with

-- the text of a value: nothing for the default one
abbrev pub defaulted_text : {P D : Type 0} → (P → P → Bool) → P → (P → Text) → Defaulted P D → Text
defaulted_text test value written x = value_or_text test value written x.value
