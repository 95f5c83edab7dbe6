use Rattle.std.proofs.Common.{◌≡◌, ◌∙◌, ◌≤◌, ap, arith, length, length-append}
use Rattle.irtext_base.specs.Text.{Text}
use Rattle.irtext_base.specs.Answers.{Outcome, Read}
use Rattle.irtext_base.specs.Own.{texts_of}
use Rattle.irtext_grammar.specs.Contexts.Formats.{format_of, isolated}
use Rattle.irtext_grammar.specs.Naming.{naming}
use Rattle.irtext_grammar.specs.Reached.{Advanced}
use Rattle.irtext_grammar.proofs.Exact.Attributes.{lawful_needs_word}
use Rattle.irtext_grammar.proofs.Knot.Whole as whole
use Rattle.irtext_grammar.proofs.Naming.Places.{names_exist}
use Rattle.irtext_grammar.proofs.Naming.Scripts.{read_runs, shortens}
use Rattle.irtext_grammar.proofs.Joins.Answers.{Splits}
use Rattle.pliron_text.proofs.laws.nested.names_run_the_machine.Goals as goal

no_longer : {X : Type 0} (reading : Text → Outcome X) → Splits reading → (text : Text) (x : X) (taken rest : Text) → reading text ≡ Read x taken rest → length rest ≤ length text
no_longer reading h text x taken rest e = omega (arith, ap length (h text x taken rest e), length-append taken rest)

pub returns : goal.returns
returns g c dialects x text rest r =
    let types = texts_of g.T.IrText.reading g.T.IrText.written in
    let owns = texts_of g.A.IrText.reading g.A.IrText.written in
    let short_types = shortens g.T.IrText.reading g.T.IrText.written (no_longer g.T.IrText.reading g.met.T.IrText.sincere.reads) in
    let short_owns = shortens g.A.IrText.reading g.A.IrText.written (no_longer g.A.IrText.reading g.met.A.IrText.sincere.reads) in
    let p = names_exist types owns (format_of dialects) short_types short_owns x text rest r in (
      p.0,
      p.1,
      λ o. whole.tree_found g.T.IrText.reading g.T.IrText.written g.A.IrText.reading g.A.IrText.written dialects g.met.T.IrText.sincere.reads g.met.A.IrText.sincere.reads (naming (format_of dialects) p.0) (lawful_needs_word g.A.IrText.reading g.A.IrText.written g.met.A.IrText.lawful) x text rest o r
          ∙ ap (λ z. Advanced tt z rest) (read_runs types owns (format_of dialects) p.0 (isolated dialects) x text rest p.1 r o),
    )
