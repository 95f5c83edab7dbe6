use Rattle.irtext_arith.proofs.types.ArithTypeIrText.write_text.Goals as goal

pub returns-in-Int-clause-text : goal.returns-in-Int-clause-text
returns-in-Int-clause-text g c = rw c.in-Int.is c.write_row.ensures.text
