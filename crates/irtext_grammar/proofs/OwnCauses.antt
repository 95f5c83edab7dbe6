-- The cause that parsers return for a failure of names: it is the failure's own, and a fault of names.
use Rattle.std.proofs.Common.{◌≡◌, true, refl}
use Rattle.irtext_base.specs.Text.{Text}
use Rattle.irtext_grammar.specs.Names.Script as script
use Rattle.irtext_grammar.specs.Names.Script.{Cause}
use Rattle.irtext_grammar.specs.Entries.{fault_for}
use Rattle.irtext_grammar.specs.Promises.ErrorCauses.{is_name_fault}
use Rattle.irtext_grammar.specs.Promises.Root.{IsCause}

pub own_and_named : (c : Cause Text) → IsCause c (fault_for c) × (is_name_fault (fault_for c) ≡ true)
own_and_named (script.ResultCount types names) = (refl, refl)
own_and_named (script.NoActiveScope n) = (refl, refl)
own_and_named (script.UnresolvedReference n) = (refl, refl)
own_and_named (script.MultipleDefinitions n) = (refl, refl)
own_and_named script.NotIsolated = (refl, refl)
own_and_named (script.DuplicateIndex i) = (refl, refl)
own_and_named (script.UnknownIndex i) = (refl, refl)
own_and_named (script.UnknownPrintOnce i) = (refl, refl)
own_and_named (script.ReservedKey k) = (refl, refl)
