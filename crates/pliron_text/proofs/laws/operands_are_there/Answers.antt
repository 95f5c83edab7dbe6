use Rattle.irtext_base.specs.Own.{language, texts_of}
use Rattle.irtext_grammar.specs.Names.Acts.{section_acts, rule_of}
use Rattle.irtext_grammar.specs.Names.Script.{does_all, done}
use Rattle.irtext_grammar.proofs.Grammar.PartsOfFormats.{each_accepted, formed_read}
use Rattle.irtext_grammar.proofs.Graphs.Links.{all_there}
use Rattle.pliron_text.proofs.laws.operands_are_there.Goals as goal

pub returns : goal.returns
returns g c formats isolated first es t text rest accepted r e =
    let l = language (texts_of g.T.IrText.reading g.T.IrText.written) (texts_of g.A.IrText.reading g.A.IrText.written) formats in
    all_there isolated first es t (formed_read l (λ p q h. h) t text rest (each_accepted l accepted t) r) (does_all (section_acts (rule_of t) es) done) e
