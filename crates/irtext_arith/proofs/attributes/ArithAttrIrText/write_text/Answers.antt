use Rattle.irtext_arith.proofs.attributes.ArithAttrIrText.write_text.Goals as goal

pub returns-in-Value-clause-text : goal.returns-in-Value-clause-text
returns-in-Value-clause-text g c = rw c.in-Value.is c.write_row.ensures.text

pub returns-in-Compares-clause-text : goal.returns-in-Compares-clause-text
returns-in-Compares-clause-text g c = rw c.in-Compares.is c.write_row-in-Compares.ensures.text

pub returns-in-Overflow-clause-text : goal.returns-in-Overflow-clause-text
returns-in-Overflow-clause-text g c = rw c.in-Overflow.is c.write_row-in-Overflow.ensures.text

pub returns-in-Align-clause-text : goal.returns-in-Align-clause-text
returns-in-Align-clause-text g c = rw c.in-Align.is c.write_row-in-Align.ensures.text

pub returns-in-Doc-clause-text : goal.returns-in-Doc-clause-text
returns-in-Doc-clause-text g c = rw c.in-Doc.is c.write_row-in-Doc.ensures.text
