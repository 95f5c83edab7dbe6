use Rattle.irtext_base.specs.Own.{texts_of}
use Rattle.irtext_grammar.specs.Contexts.Formats.{format_of}
use Rattle.irtext_grammar.proofs.Lawful.{section_read, section_found}
use Rattle.pliron_text.proofs.laws.entries.section_text_is_a_section.Goals as goal

pub returns-clause-read : goal.returns-clause-read
returns-clause-read g c dialects marks rules es text taken rest e =
    let k = section_read (texts_of g.T.IrText.reading g.T.IrText.written) g.A.IrText.reading g.A.IrText.written (format_of dialects) g.met.A.IrText.sincere g.met.A.IrText.lawful marks rules text es taken rest e in
    (k.0, k.2)

pub returns-clause-found : goal.returns-clause-found
returns-clause-found g c dialects marks rules es text rest r =
    section_found (texts_of g.T.IrText.reading g.T.IrText.written) g.A.IrText.reading g.A.IrText.written (format_of dialects) g.met.A.IrText.sincere g.met.A.IrText.lawful marks rules text es rest r
