-- For callers: what the dialects of a context say of operations, in the form that the grammar and printing use.
use Rattle.std.specs.Prelude.{Bool, false, List, Option, Some, None, IfSome}
use Rattle.std.specs.Option.{option_map}
use Rattle.irtext_base.specs.Text.{Text}
use Rattle.irtext_base.specs.Format.{Id, Format, Accepted}
use Rattle.irtext_context.specs.Dialects.{Table}
use Rattle.irtext_context.specs.DialectTable.{registered}
use Rattle.irtext_base.specs.declared.base.identifier.OpId.{OpId}

-- the id, in the type of the code
abbrev pub op_id : Id → OpId
op_id id = record { dialect = id.dialect; name = id.name }

-- the format of each registered operation
abbrev pub format_of : List (Text × Table) → Id → Option Format
format_of dialects id = option_map (λ known. known.format) (registered dialects (op_id id))

-- whether an operation is registered as isolated from above
abbrev pub isolated : List (Text × Table) → Id → Bool
isolated dialects id = elim (registered dialects (op_id id)) [ Some known ↦ known.isolated | None ↦ false ]

-- the format of an operation, if it has one, meets all its conditions
abbrev pub IsAccepted : List (Text × Table) → Id → Type 0
IsAccepted dialects id = IfSome (format_of dialects id) Accepted
