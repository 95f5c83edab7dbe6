-- Parts with a default value, which is not printed.
use Rattle.std.specs.Prelude.{Bool, cond, Option, Some, None}
use Rattle.irtext_base.specs.Text.{Text}
use Rattle.irtext_tokens.specs.Infix.{Reader, ◌⇒◌}
use Rattle.irtext_syntax.specs.Maybes.{maybe_at, maybe_text}

-- the value, or the default one where none is written
abbrev pub or_default : {P : Type 0} → P → Option P → P
or_default value None = value
or_default value (Some x) = x

-- nothing for the default value
abbrev pub unless_default : {P : Type 0} → (P → P → Bool) → P → P → Option P
unless_default test value x = cond (test x value) None (Some x)

-- a part, or nothing for the default value
abbrev pub value_or_at : {P : Type 0} → P → Reader P → Reader P
value_or_at value reading = maybe_at reading ⇒ or_default value

-- the text of a value: nothing for the default one
abbrev pub value_or_text : {P : Type 0} → (P → P → Bool) → P → (P → Text) → P → Text
value_or_text test value written x = maybe_text written (unless_default test value x)
