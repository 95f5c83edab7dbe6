use Rattle.std.proofs.Common.{[], subst}
use Rattle.irtext_tokens.specs.AttrTexts.{attr_at}
use Rattle.irtext_grammar.proofs.Knot.Formats.{each_accepted}
use Rattle.irtext_parse_root.proofs.Laws.{Laws, laws_of}
use Rattle.irtext_survey.specs.Root.{NotesTree}
use Rattle.irtext_survey.proofs.Finding.{noted_there}
use Rattle.irtext_survey.proofs.Skipping.{skips_plain, skips_marked_ok, skips_none, same_after, still_fine}
use Rattle.irtext_survey.proofs.survey.skip_root.Given as given
use Rattle.irtext_survey.proofs.survey.skip_root.Goals as goal

laws : (g : given.Over) → Laws g.T.IrText g.A.IrText
laws g = laws_of g.T.IrText g.A.IrText g.met.T.IrText.sincere g.met.A.IrText.sincere g.met.A.IrText.lawful

pub returns-then-not-whole-clause-skips : goal.returns-then-not-whole-clause-skips
returns-then-not-whole-clause-skips g c =
    let dialects = c.args.ctx.now.dialects in
    let old = c.args.stream.now in
    let noted = subst (λ w. NotesTree g.T.IrText.reading (attr_at g.A.IrText.reading) dialects [] old w c.tree_noted.new.book c.tree_noted.new.stream) c.if-not-whole.true c.in-Ok.ensures in
    skips_none (laws g) dialects (each_accepted dialects c.keeps_formats.ensures) old c.tree_noted.new.book c.tree_noted.new.stream noted

pub returns-then-not-whole-clause-same : goal.returns-then-not-whole-clause-same
returns-then-not-whole-clause-same g c =
    (noted_there g.T.IrText.reading (attr_at g.A.IrText.reading) c.args.ctx.now.dialects [] c.args.stream.now c.tree_noted.new.book c.tree_noted.new.stream c.in-Ok.whole c.in-Ok.ensures).1

pub returns-then-not-book-clause-skips : goal.returns-then-not-book-clause-skips
returns-then-not-book-clause-skips g c =
    let dialects = c.args.ctx.now.dialects in
    let old = c.args.stream.now in
    let noted = subst (λ w. NotesTree g.T.IrText.reading (attr_at g.A.IrText.reading) dialects [] old w c.tree_noted.new.book c.tree_noted.new.stream) c.if-not-whole.false c.in-Ok.ensures in
    skips_plain (laws g) dialects (each_accepted dialects c.keeps_formats.ensures) old c.tree_noted.new.book c.tree_noted.new.stream noted c.if-not-book.true

pub returns-then-not-book-clause-same : goal.returns-then-not-book-clause-same
returns-then-not-book-clause-same g c =
    (noted_there g.T.IrText.reading (attr_at g.A.IrText.reading) c.args.ctx.now.dialects [] c.args.stream.now c.tree_noted.new.book c.tree_noted.new.stream c.in-Ok.whole c.in-Ok.ensures).1

pub returns-clause-skips : goal.returns-clause-skips
returns-clause-skips g c =
    let dialects = c.args.ctx.now.dialects in
    let old = c.args.stream.now in
    let noted = subst (λ w. NotesTree g.T.IrText.reading (attr_at g.A.IrText.reading) dialects [] old w c.tree_noted.new.book c.tree_noted.new.stream) c.if-not-whole.false c.in-Ok.ensures in
    skips_marked_ok (laws g) dialects (each_accepted dialects c.keeps_formats.ensures) old c.tree_noted.new.book c.tree_noted.new.stream noted c.if-not-book.false c.section_skipped.result c.section_skipped.new.stream c.section_skipped.ensures

pub returns-clause-same : goal.returns-clause-same
returns-clause-same g c =
    let dialects = c.args.ctx.now.dialects in
    let old = c.args.stream.now in
    let noted = subst (λ w. NotesTree g.T.IrText.reading (attr_at g.A.IrText.reading) dialects [] old w c.tree_noted.new.book c.tree_noted.new.stream) c.if-not-whole.false c.in-Ok.ensures in
    same_after (laws g) dialects (each_accepted dialects c.keeps_formats.ensures) old c.tree_noted.new.book c.tree_noted.new.stream noted c.section_skipped.result c.section_skipped.new.stream c.section_skipped.ensures

pub section_skipped-requires : goal.section_skipped-requires
section_skipped-requires g c =
    let dialects = c.args.ctx.now.dialects in
    let old = c.args.stream.now in
    let noted = subst (λ w. NotesTree g.T.IrText.reading (attr_at g.A.IrText.reading) dialects [] old w c.tree_noted.new.book c.tree_noted.new.stream) c.if-not-whole.false c.in-Ok.ensures in
    record { fine = still_fine (laws g) dialects (each_accepted dialects c.keeps_formats.ensures) old c.tree_noted.new.book c.tree_noted.new.stream noted c.requires.fine }
