use Rattle.irtext_formatter.proofs.input.read_text.Goals as goal

pub returns-in-Err-clause-fault : goal.returns-in-Err-clause-fault
returns-in-Err-clause-fault g c = c.unread.ensures _ _
