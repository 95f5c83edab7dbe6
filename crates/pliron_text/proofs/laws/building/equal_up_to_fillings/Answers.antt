use Rattle.std.specs.Prelude.{refl}
use Rattle.irtext_base.specs.Own.{language, texts_of}
use Rattle.irtext_grammar.specs.Names.Script.{done, does_all}
use Rattle.irtext_grammar.specs.Names.Acts.{section_acts, rule_of}
use Rattle.irtext_grammar.proofs.Grammar.PartsOfFormats.{formed_read}
use Rattle.irtext_grammar.proofs.Graphs.WrittenAs.{accepted_written}
use Rattle.irtext_grammar.proofs.Graphs.Fillings.{fillings}
use Rattle.pliron_text.proofs.laws.building.equal_up_to_fillings.Goals as goal

pub returns : goal.returns
returns g c C isolated K first es x t text rest position fit small keys differ e r resolves says =
    let l = language (texts_of g.T.IrText.reading g.T.IrText.written) (texts_of g.A.IrText.reading g.A.IrText.written) C.format_of in
    let formed = formed_read l (λ p q h. h) t text rest (accepted_written C isolated l (λ i. refl) x t fit e) r in
    fillings C isolated K first position es x t (does_all (section_acts (rule_of t) es) done) fit small keys differ e formed resolves says
