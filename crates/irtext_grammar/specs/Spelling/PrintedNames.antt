-- For callers: the names that are printed. The number or the place at their end makes the names of distinct values and blocks distinct.
use Rattle.std.specs.Prelude.{ℕ, ◌++◌, Option, Some, None, codes, decimal}
use Rattle.irtext_base.specs.Text.{Text}

-- the name that is given, `_`, and the text; or the text alone
abbrev pub prefixed : Option Text → Text → Text
prefixed None text = text
prefixed (Some name) text = name ++ (codes "_" ++ text)

-- the name of a value, by its given name, if any, and its number
abbrev pub value_name : Option Text → ℕ → Text
value_name given number = prefixed given (codes "v" ++ decimal number)

-- the name of a block, by its label, if any, and its place and generation
abbrev pub block_name : Option Text → ℕ × ℕ → Text
block_name label place = prefixed label (codes "block" ++ (decimal place.0 ++ (codes "v" ++ decimal place.1)))
