-- What the cause of a name's failure says of an error.
use Rattle.std.proofs.Common.{◌≡◌}
use Rattle.irtext_base.specs.Text.{Text}
use Rattle.irtext_base.specs.Faults.{Fault, Failed}
use Rattle.irtext_grammar.specs.Names.Script as script
use Rattle.irtext_grammar.specs.Names.Script.{Cause}
use Rattle.irtext_grammar.specs.Promises.Root.{IsCause}

-- no failure says that the stream had failed
pub no_cause : (c : Cause Text) (cause : Fault) → IsCause c cause → cause ≡ Failed → ⊥
no_cause (script.ResultCount types names) cause h e = cc (h, e)
no_cause (script.NoActiveScope n) cause h e = cc (h, e)
no_cause (script.UnresolvedReference n) cause h e = cc (h, e)
no_cause (script.MultipleDefinitions n) cause h e = cc (h, e)
no_cause script.NotIsolated cause h e = cc (h, e)
no_cause (script.DuplicateIndex i) cause h e = cc (h, e)
no_cause (script.UnknownIndex i) cause h e = cc (h, e)
no_cause (script.UnknownPrintOnce i) cause h e = cc (h, e)
no_cause (script.ReservedKey k) cause h e = cc (h, e)
