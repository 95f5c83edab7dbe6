use Rattle.std.specs.Prelude.{◌++◌, length, refl}
use Rattle.std.proofs.Common.{inr, ap, sym, subst, ◌∙◌, append_assoc}
use Rattle.irtext_base.specs.Own.{texts_of, unplaced, language}
use Rattle.irtext_grammar.specs.Spelling.Spell.{spelled}
use Rattle.irtext_grammar.specs.Graphs.Graph.{written, entries_of}
use Rattle.irtext_grammar.specs.Spelling.Section.{section}
use Rattle.irtext_grammar.specs.Grammar.Reads.{reads}
use Rattle.irtext_grammar.specs.Grammar.Bare.{bare}
use Rattle.irtext_grammar.specs.Grammar.Marked.{AllShown}
use Rattle.irtext_grammar.proofs.Grammar.BackTree as back
use Rattle.irtext_grammar.proofs.Grammar.Placed as placed
use Rattle.irtext_grammar.proofs.Grammar.Unique as unique
use Rattle.irtext_grammar.proofs.Grammar.Lenient.{lenient, lenient_reads, bare_all_shown}
use Rattle.irtext_grammar.proofs.Graphs.WrittenSpellable.{written_fine_under}
use Rattle.irtext_grammar.proofs.Sections.AfterRoot.{section_after}
use Rattle.pliron_text.proofs.laws.left_out_is_refused.Goals as goal

pub returns : goal.returns
returns g c C isolated x limit width n f t u w fit s h left a =
    let types = texts_of g.T.IrText.reading g.T.IrText.written in
    let owns = texts_of g.A.IrText.reading g.A.IrText.written in
    let strict = language types owns C.format_of in
    let l = unplaced types owns C.format_of in
    let y = written C limit x in
    let e = section l C (entries_of C limit x) in
    let z = spelled l width n y ++ (e ++ f) in
    let fine = written_fine_under C isolated (lenient l) (λ i. refl) limit (inr (λ f. refl)) x w fit s in
    let r = back.root_reads_back (lenient l) g.met.T.IrText.lawful g.met.A.IrText.lawful g.met.A.AttrText.unreserved (λ p t. tt) width n y (e ++ f) fine (section_after C isolated (lenient l) (λ i. refl) limit x f fit h) in
    let q = placed.placed (lenient strict) length (λ t. refl) y z r.0 r.1 in
    let b = lenient_reads strict (λ t u k. k) t z u (subst (λ v. reads strict t v u) (append_assoc (spelled l width n y) e f) a) in
    let same = unique.one_tree (lenient strict) g.met.T.IrText.lawful g.met.A.IrText.lawful (λ p q t e f. e ∙ sym f) (λ t u k. k) t q.0 z u r.0 b.0 q.1 in
    left (subst AllShown (ap bare same.0 ∙ q.2) (bare_all_shown t b.1))
