-- Between functions: what is wrong with a name.
use Rattle.irtext_base.specs.Text.{Text}
use Rattle.irtext_base.specs.Faults as causes
use Rattle.irtext_base.specs.Faults.{Fault}
use Rattle.irtext_names.specs.declared.name_errors.NameFault.{NameFault}
use Rattle.irtext_names.specs.declared.name_errors.NameFault.TheVariants as wrong

-- what is wrong with a name, as the cause of the error
abbrev pub fault_named : NameFault → Text → Fault
fault_named wrong.NoActiveScope = causes.NoActiveScope
fault_named wrong.MultipleDefinitions = causes.MultipleDefinitions
fault_named wrong.Unresolved = causes.Unresolved
