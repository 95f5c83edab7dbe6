use Rattle.std.specs.Prelude.{None, ◌++◌, length, refl}
use Rattle.std.proofs.Common.{sym, subst, append_assoc}
use Rattle.irtext_base.specs.Own.{texts_of, unplaced, language}
use Rattle.irtext_grammar.specs.Spelling.Spell.{spelled}
use Rattle.irtext_grammar.specs.Graphs.Graph.{written, entries_of}
use Rattle.irtext_grammar.specs.Spelling.Section.{section}
use Rattle.irtext_grammar.specs.Grammar.Reads.{reads}
use Rattle.irtext_grammar.proofs.Grammar.BackTree as back
use Rattle.irtext_grammar.proofs.Grammar.Placed as placed
use Rattle.irtext_grammar.proofs.Graphs.WrittenSpellable.{written_fine}
use Rattle.irtext_grammar.proofs.Sections.AfterRoot.{section_after}
use Rattle.pliron_text.proofs.laws.root_before_section.Goals as goal

pub returns : goal.returns
returns g c C isolated x width n f w fit s h =
    let types = texts_of g.T.IrText.reading g.T.IrText.written in
    let owns = texts_of g.A.IrText.reading g.A.IrText.written in
    let l = unplaced types owns C.format_of in
    let t = written C None x in
    let fine = written_fine C isolated types owns x w fit s in
    let e = section l C (entries_of C None x) in
    let r = back.root_reads_back l g.met.T.IrText.lawful g.met.A.IrText.lawful g.met.A.AttrText.unreserved (λ p t. tt) width n t (e ++ f) fine (section_after C isolated l (λ i. refl) None x f fit h) in
    let q = placed.placed (language types owns C.format_of) length (λ t. refl) t (spelled l width n t ++ (e ++ f)) r.0 r.1 in
    (q.0, r.0, subst (λ z. reads (language types owns C.format_of) q.0 z r.0) (sym (append_assoc (spelled l width n t) e f)) q.1, q.2, r.2)
