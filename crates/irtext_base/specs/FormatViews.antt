-- What the code's formats and directives are in the definitions.
use Rattle.std.specs.Prelude.{List, map, string_bytes}
use Rattle.std.specs.Str.{chars}
use Rattle.irtext_base.specs.Format as format
use Rattle.irtext_base.specs.Format.{Format, Directive}
use Rattle.irtext_base.specs.declared.format.Directive as code
use Rattle.irtext_base.specs.declared.format.Directive.TheVariants as step
use Rattle.irtext_base.specs.declared.format.OpFormat.{OpFormat}
use Rattle.irtext_base.specs.declared.format.OpFormat.TheVariants.{Canonical, Custom}

-- the directive in the definitions: a literal is the list of its characters
abbrev pub directive_of : code.Directive → Directive
directive_of (step.Literal s) = format.word (chars (string_bytes s))
directive_of (step.Operand i) = format.operand i
directive_of step.Operands = format.operands
directive_of (step.Successor i) = format.successor i
directive_of step.Successors = format.successors
directive_of (step.Attr k) = format.attribute k
directive_of step.AttrDict = format.dictionary
directive_of (step.ResultType i) = format.result_type i
directive_of (step.Region i) = format.region i
directive_of step.Regions = format.regions
directive_of step.SymbolHeader = format.header

-- the directives in the definitions, in order
abbrev pub directives_of : List code.Directive → List Directive
directives_of = map directive_of

-- the format in the definitions
abbrev pub format_of : OpFormat → Format
format_of Canonical = format.canonical
format_of (Custom ds) = format.custom (directives_of ds.items)
