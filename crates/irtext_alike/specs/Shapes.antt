-- A directive in two parts: its shape, and its text.
use Rattle.std.specs.Prelude.{ℕ, List, [], string_bytes}
use Rattle.irtext_base.specs.declared.format.Directive as code
use Rattle.irtext_base.specs.declared.format.Directive.TheVariants as step
use Rattle.irtext_alike.specs.declared.format.Shape.{Shape}
use Rattle.irtext_alike.specs.declared.format.Shape.TheVariants as shape

-- the directive without a text
abbrev pub shape_of : code.Directive → Shape
shape_of (step.Literal s) = shape.Literal
shape_of (step.Operand i) = shape.Operand i
shape_of step.Operands = shape.Operands
shape_of (step.Successor i) = shape.Successor i
shape_of step.Successors = shape.Successors
shape_of (step.Attr k) = shape.Attr
shape_of step.AttrDict = shape.AttrDict
shape_of (step.ResultType i) = shape.ResultType i
shape_of (step.Region i) = shape.Region i
shape_of step.Regions = shape.Regions
shape_of step.SymbolHeader = shape.SymbolHeader

-- the text of a literal or the key of an attribute, in bytes; empty if there is none
abbrev pub text_of : code.Directive → List ℕ
text_of (step.Literal s) = string_bytes s
text_of (step.Attr k) = k
text_of _ = []
