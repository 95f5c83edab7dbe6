use Rattle.std.proofs.Common.{refl, subst}
use Rattle.irtext_base.specs.Format as format
use Rattle.irtext_tokens.specs.AttrTexts.{attr_at}
use Rattle.irtext_grammar.specs.Grammar.Tree as tree
use Rattle.irtext_grammar.specs.Heads.{flat, dictionary_by}
use Rattle.irtext_grammar.specs.declared.parsed.ReadPiece.TheVariants as read
use Rattle.irtext_parse_pieces.proofs.CanonicalSteps.{step_read, spaced_mean}
use Rattle.irtext_grammar.specs.Parsed.{AreEntries}
use Rattle.irtext_parse_pieces.specs.Named.{whole}
use Rattle.irtext_parse_pieces.proofs.Lenses.{lens_of}
use Rattle.irtext_parse_pieces.proofs.canonical.entries_parse.Goals as goal

pub returns : goal.returns
returns g c = λ names fine.
    let l = lens_of g.world g.met.S.CharStream in
    let text = whole (l.view c.args.stream.now) in
    step_read l g.T.IrText.reading (attr_at g.A.IrText.reading) c.args.setting (dictionary_by (attr_at g.A.IrText.reading) c.args.setting.any_key) tree.dictionary (flat format.dictionary) (λ u. refl) (λ es ds. AreEntries text es ds) read.Dictionary names (λ y x m. (x, refl, m))
    (spaced_mean l fine c.skip_white_space.ensures (λ e y x m. subst (λ t. AreEntries t y x) e m) c.dictionary_parse.ensures)
