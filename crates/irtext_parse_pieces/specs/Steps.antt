-- Between functions: the steps of the code in the form of the definitions.
use Rattle.std.specs.Prelude.{List, map}
use Rattle.irtext_base.specs.Format as format
use Rattle.irtext_base.specs.declared.format.Directive as code
use Rattle.irtext_base.specs.Faults.{characters}
use Rattle.irtext_base.specs.FormatViews.{directive_of, directives_of}
use Rattle.irtext_grammar.specs.Heads.{Step, flat, types, all, step_of}
use Rattle.irtext_parse_pieces.specs.declared.steps.FormatStep.{FormatStep}
use Rattle.irtext_parse_pieces.specs.declared.steps.FormatStep.TheVariants as step

-- the steps of these directives
abbrev pub custom_steps : List code.Directive → List Step
custom_steps ds = map step_of (directives_of ds)

-- the step in the form of the definitions
abbrev pub seen_step : FormatStep → Step
seen_step (step.Directive d) = step_of (directive_of d.now)
seen_step (step.Word w) = flat (format.word (characters w.now))
seen_step step.Operands = flat format.operands
seen_step step.Successors = flat format.successors
seen_step step.Dictionary = flat format.dictionary
seen_step step.Types = types
seen_step step.Regions = all
