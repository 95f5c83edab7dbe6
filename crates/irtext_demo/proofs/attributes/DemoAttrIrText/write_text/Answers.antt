use Rattle.irtext_demo.proofs.attributes.DemoAttrIrText.write_text.Goals as goal

pub returns-in-String-clause-text : goal.returns-in-String-clause-text
returns-in-String-clause-text g c = rw c.in-String.is c.write_row-in-String.ensures.text

pub returns-in-Debug-clause-text : goal.returns-in-Debug-clause-text
returns-in-Debug-clause-text g c = rw c.in-Debug.is c.write_row-in-Debug.ensures.text
