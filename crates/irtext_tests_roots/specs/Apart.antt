-- A dialect with one operation, as it is in a context in which nothing else is registered.
use Rattle.std.specs.Prelude.{true, false, List, [], ◌∷◌, codes}
use Rattle.irtext_base.specs.Format.{Format, custom, word, region}
use Rattle.irtext_base.specs.Text.{Text}
use Rattle.irtext_base.specs.declared.base.identifier.OpId.{OpId}
use Rattle.irtext_context.specs.Dialects.{Table}
use Rattle.irtext_context.specs.DialectTable.{with_operation}

-- lab.d
abbrev pub lab_id : OpId
lab_id = record { dialect = codes "lab"; name = codes "d" }

-- a word and a region
abbrev pub lab_format : Format
lab_format = custom (word (codes "here") ∷ region 0 ∷ [])

-- lab.d is registered with that format, and is isolated
abbrev pub lab_dialects : List (Text × Table)
lab_dialects = (codes "lab", record { name = codes "lab"; entries = (lab_id, record { format = lab_format; isolated = true }) ∷ [] }) ∷ []

-- lab.e
abbrev pub other_id : OpId
other_id = record { dialect = codes "lab"; name = codes "e" }

-- lab.d, and then lab.e, which is not isolated
abbrev pub two_dialects : List (Text × Table)
two_dialects = with_operation (with_operation [] lab_id lab_format true) other_id lab_format false

-- both in the other order
abbrev pub reversed_dialects : List (Text × Table)
reversed_dialects = with_operation (with_operation [] other_id lab_format false) lab_id lab_format true
