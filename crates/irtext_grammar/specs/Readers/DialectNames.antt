-- For callers: what a text is to the parser of a dialect's name.
use Rattle.std.specs.Prelude.{cond, is_some, List, []}
use Rattle.irtext_base.specs.Text.{Text}
use Rattle.irtext_base.specs.Faults.{UnregisteredDialect}
use Rattle.irtext_base.specs.Answers.{Outcome, Read, Missing, Bad}
use Rattle.irtext_context.specs.Dialects.{Table}
use Rattle.irtext_context.specs.DialectTable.{dialect_of}
use Rattle.irtext_tokens.specs.Tokens.{identifier_at}

-- the name, if a dialect of that name is registered; otherwise it is bad at its beginning
abbrev pub known_name : List (Text × Table) → Outcome Text → Outcome Text
known_name dialects (Read name taken rest) = cond (is_some (dialect_of dialects name)) (Read name taken rest) (Bad (UnregisteredDialect name) [])
known_name dialects (Missing cause) = Missing cause
known_name dialects (Bad cause upto) = Bad cause upto

-- the name of a dialect: an identifier under which a dialect is registered
abbrev pub dialect_name_at : List (Text × Table) → Text → Outcome Text
dialect_name_at dialects text = known_name dialects (identifier_at text)
