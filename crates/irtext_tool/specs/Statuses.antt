-- For callers: exit statuses.
use Rattle.std.specs.Prelude.{◌≤◌, ℕ, Result, Ok, Err, ⊤}
use Rattle.irtext_formatter.specs.declared.fault.Failure.{Failure}
use Rattle.irtext_formatter.specs.declared.fault.Failure.TheVariants as failure
use Rattle.irtext_formatter.specs.declared.fault.Fault.{Fault}
use Rattle.irtext_formatter.specs.declared.fault.Fault.TheVariants as fault
use Rattle.irtext_formatter.specs.declared.input.InputFault.{InputFault}
use Rattle.irtext_formatter.specs.declared.input.InputFault.TheVariants as input
use Rattle.irtext_tool.specs.declared.run.Done.{Done}
use Rattle.irtext_tool.specs.declared.run.Done.TheVariants.{Ended, Closed}

-- for an input that was not read: 1 if its bytes are not UTF-8, and else 3
abbrev pub input_status : InputFault → ℕ
input_status (input.NotUtf8 bytes) = 1
input_status input.Memory = 3
input_status (input.Unreadable error) = 3

-- for a text whose roots were not printed: 3 if memory ran out, and else 1
abbrev pub text_status : {A : Type 0} → Fault A → ℕ
text_status fault.Memory = 3
text_status (fault.Rejected why) = 1
text_status (fault.Misfit misfit) = 1
text_status fault.TooDeep = 1

-- for an input that was not formatted
abbrev pub failure_status : {A : Type 0} → Failure A → ℕ
failure_status (failure.Input why) = input_status why
failure_status (failure.Dialects error) = 3
failure_status (failure.Text why) = text_status why
failure_status (failure.Unwritable error) = 3

-- for an answer: 0 if all went well
abbrev pub answer_status : {A : Type 0} → Result ⊤ (Failure A) → ℕ
answer_status (Ok done) = 0
answer_status (Err why) = failure_status why

-- what became of a file has one of the statuses
abbrev pub IsStatus : Done → Type 0
IsStatus (Ended ended) = ended.status ≤ 3
IsStatus (Closed took) = ⊤
