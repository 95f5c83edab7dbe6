-- For callers: the style of errors.
use Rattle.std.specs.Prelude.{Bool, true, false}
use Rattle.irtext_diagnostics.specs.declared.messages.Style.{Style}
use Rattle.irtext_diagnostics.specs.declared.messages.Style.TheVariants.{Plain, Coloured}

-- coloured or not
abbrev pub style_of : Bool → Style
style_of true = Coloured
style_of false = Plain
