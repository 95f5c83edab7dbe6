use Rattle.std.proofs.Common.{sym, ◌∙◌}
use Rattle.irtext_tokens.specs.AttrTexts.{attr_at}
use Rattle.irtext_parse_pieces.proofs.EntrySteps.{no_entries}
use Rattle.irtext_parse_pieces.proofs.Lenses.{lens_of}
use Rattle.irtext_parse_pieces.proofs.entries.dictionary_parse.Goals as goal

pub returns-then-accept : goal.returns-then-accept
returns-then-accept g c =
    no_entries (lens_of g.world g.met.S.CharStream) (attr_at g.A.IrText.reading) c.args.any_key (sym c.has_failed.ensures ∙ c.if-has_failed.false) c.new.result c.new.ensures.items c.if-accept.ensures
