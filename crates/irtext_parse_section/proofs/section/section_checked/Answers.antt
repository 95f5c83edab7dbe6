use Rattle.std.proofs.Common.{ℕ, List, Ok, sym, subst}
use Rattle.irtext_base.specs.Own.{texts_of}
use Rattle.irtext_base.specs.Paths.{Written}
use Rattle.irtext_base.specs.Text.{Text}
use Rattle.irtext_context.specs.declared.base.item.Item.{Item}
use Rattle.irtext_grammar.specs.Grammar.Section.{Entry}
use Rattle.irtext_tokens.specs.AttrTexts.{attr_at}
use Rattle.irtext_tokens.proofs.Exits.{propagated}
use Rattle.irtext_parse_state.specs.States.{marks_of}
use Rattle.irtext_grammar.specs.Promises.Section.{indices_of}
use Rattle.irtext_grammar.specs.Readers.Streams.{itself, replaced}
use Rattle.irtext_grammar.proofs.Readers.Answered.{answered}
use Rattle.irtext_parse_locations.specs.Checked.{items_wrong}
use Rattle.irtext_parse_section.specs.Said.{rules_of}
use Rattle.irtext_parse_pieces.specs.Named.{whole, MustMean}
use Rattle.irtext_grammar.specs.Parsed.{Each}
use Rattle.irtext_grammar.specs.Entries.{wrong_references, section_at}
use Rattle.irtext_parse_section.specs.Entries.{AreEntriesOver, items_of, once_of}
use Rattle.irtext_parse_locations.specs.declared.said.Entries.{Entries}
use Rattle.irtext_parse_section.proofs.References.{IsWrong, references_same, references_near, section_unread, section_right, section_wrong}
use Rattle.irtext_parse_section.proofs.section.section_checked.Goals as goal

-- what the check finds wrong is what is wrong with the references of the section
wrong_there : {A : Type 0} (marks : List (ℕ × Item)) (old paths : List (List ℕ)) (text : Text) (entries : Entries A) (es : List (Entry ℕ A (Written A))) → AreEntriesOver marks old paths text entries es
    → Each (IsWrong text) (items_wrong (once_of entries) (items_of entries)) (wrong_references (rules_of marks) es)
wrong_there marks old paths text entries es h = references_same text (once_of entries) es h.are.once marks paths (items_of entries) h.are.items

pub returns-in_err-entries-clause-read : goal.returns-in_err-entries-clause-read
returns-in_err-entries-clause-read g c =
    let marks = marks_of c.args.s.now.state in
    rw (propagated c.from_residual.result c.from_residual.ensures.1) (section_unread (attr_at g.A.IrText.reading) (indices_of marks) (rules_of marks) c.in_err-entries.ensures.read)

pub returns-in_err-entries_checked-clause-read : goal.returns-in_err-entries_checked-clause-read
returns-in_err-entries_checked-clause-read g c =
    let marks = marks_of c.args.s.now.state in
    let k = c.in_ok-entries.ensures.read in
    let entries = c.in_ok-entries.entries in
    let a = answered k.read in
    let near = references_near (texts_of g.T.IrText.reading g.T.IrText.written) g.A.IrText.reading g.A.IrText.written g.met.A.IrText.sincere g.met.A.IrText.lawful (indices_of marks) (rules_of marks) c.args.s.now.stream.rest (k.meant entries) a.taken _ a.is in
    let same = wrong_there marks c.args.s.now.state.ctx.now.paths c.all_parse.new.s.state.ctx.now.paths (whole c.args.s.now.stream) entries (k.meant entries) k.means in
    rw (propagated c.from_residual-in_err-entries_checked.result c.from_residual-in_err-entries_checked.ensures.1) (section_wrong (attr_at g.A.IrText.reading) (indices_of marks) (rules_of marks) k (items_wrong (once_of entries) (items_of entries)) near same c.in_err-entries_checked.ensures)

pub returns-clause-read : goal.returns-clause-read
returns-clause-read g c =
    let old = c.args.s.now in
    let marks = marks_of old.state in
    let entries = c.in_ok-entries.entries in
    let k = c.in_ok-entries.ensures.read in
    let attr = attr_at g.A.IrText.reading in
    let paths = c.all_parse.new.s.state.ctx.now.paths in
    let same = wrong_there marks old.state.ctx.now.paths paths (whole old.stream) entries (k.meant entries) k.means in
    let fine = c.in_ok-entries_checked.ensures in
    subst (λ v. MustMean {A = g.row.A.Denot} itself replaced (AreEntriesOver marks old.state.ctx.now.paths paths (whole old.stream)) (section_at attr (indices_of marks) (rules_of marks)) old.stream (Ok entries) v) (sym fine.1)
    (section_right attr (indices_of marks) (rules_of marks) k (subst (λ ws. Each (IsWrong (whole old.stream)) ws (wrong_references (rules_of marks) (k.meant entries))) fine.0 same))
