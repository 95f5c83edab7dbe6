use Rattle.std.specs.Prelude.{drop}
use Rattle.irtext_context.specs.Dialects.{AllAccepted}
use Rattle.irtext_context.proofs.base.context.Context.keeps_formats.Given as goal

-- once it is known of the dialects that are left, it is known of all
abbrev pub invariant-loop-index : goal.invariant-loop-index
invariant-loop-index g l = AllAccepted (drop l.index l.self.dialects) → AllAccepted l.self.dialects
