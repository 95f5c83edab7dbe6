use Rattle.std.proofs.Common.{◌∙◌, ap}
use Rattle.irtext_base.specs.Own.{texts_of}
use Rattle.irtext_grammar.specs.Contexts.Formats.{format_of, isolated}
use Rattle.irtext_grammar.specs.Reached.{Advanced}
use Rattle.irtext_grammar.proofs.Exact.Attributes.{lawful_needs_word}
use Rattle.irtext_grammar.proofs.Knot.Whole as whole
use Rattle.irtext_grammar.specs.Building.{building, nothing_open}
use Rattle.irtext_grammar.proofs.Built.{tree_builds, tree_finished}
use Rattle.irtext_grammar.proofs.Whole.{whole_read}
use Rattle.pliron_text.proofs.laws.actions.what_is_built_is_the_tree.Goals as goal

pub returns-clause-read : goal.returns-clause-read
returns-clause-read g c dialects text rest b accepted e =
    let types = texts_of g.T.IrText.reading g.T.IrText.written in
    let owns = texts_of g.A.IrText.reading g.A.IrText.written in
    let x = whole.tree_read g.T.IrText.reading g.T.IrText.written g.A.IrText.reading g.A.IrText.written dialects g.met.T.IrText.sincere.reads g.met.A.IrText.sincere.reads (building (format_of dialects)) accepted text nothing_open b rest e in
    (x.0, x.1, x.2 ∙ tree_finished (format_of dialects) (isolated dialects) x.0 (whole_read types owns (format_of dialects) x.0 text rest x.1))

pub returns-clause-found : goal.returns-clause-found
returns-clause-found g c dialects x text rest r =
    let types = texts_of g.T.IrText.reading g.T.IrText.written in
    let owns = texts_of g.A.IrText.reading g.A.IrText.written in
    whole.tree_found g.T.IrText.reading g.T.IrText.written g.A.IrText.reading g.A.IrText.written dialects g.met.T.IrText.sincere.reads g.met.A.IrText.sincere.reads (building (format_of dialects)) (lawful_needs_word g.A.IrText.reading g.A.IrText.written g.met.A.IrText.lawful) x text rest nothing_open r
    ∙ ap (λ z. Advanced tt z rest) (tree_finished (format_of dialects) (isolated dialects) x (whole_read types owns (format_of dialects) x text rest r))

pub returns-clause-added : goal.returns-clause-added
returns-clause-added g c dialects x text rest b r =
    let types = texts_of g.T.IrText.reading g.T.IrText.written in
    let owns = texts_of g.A.IrText.reading g.A.IrText.written in
    whole.tree_found g.T.IrText.reading g.T.IrText.written g.A.IrText.reading g.A.IrText.written dialects g.met.T.IrText.sincere.reads g.met.A.IrText.sincere.reads (building (format_of dialects)) (lawful_needs_word g.A.IrText.reading g.A.IrText.written g.met.A.IrText.lawful) x text rest b r
    ∙ ap (λ z. Advanced tt z rest) (tree_builds (format_of dialects) (isolated dialects) x (whole_read types owns (format_of dialects) x text rest r) b)

pub returns-clause-done : goal.returns-clause-done
returns-clause-done g c dialects x text rest r =
    tree_finished (format_of dialects) (isolated dialects) x (whole_read (texts_of g.T.IrText.reading g.T.IrText.written) (texts_of g.A.IrText.reading g.A.IrText.written) (format_of dialects) x text rest r)
