use Rattle.irtext_tokens.specs.AttrTexts.{attr_at}
use Rattle.irtext_grammar.specs.Heads.{argument_at}
use Rattle.irtext_parse_pieces.proofs.Meanings.{names_more, names_none}
use Rattle.irtext_grammar.specs.declared.parsed.NameKind.TheVariants as kind
use Rattle.irtext_parse_pieces.proofs.Absences.{missing_followed, no_name_begins, list_unbegun}
use Rattle.irtext_parse_pieces.proofs.Listings.{list_unread, list_arguments}
use Rattle.irtext_parse_pieces.proofs.Lenses.{lens_of}
use Rattle.irtext_parse_pieces.proofs.arguments.arguments_parse.Goals as goal

pub returns-then-none_named-clause-read : goal.returns-then-none_named-clause-read
returns-then-none_named-clause-read g c =
    list_unbegun (lens_of g.world g.met.S.CharStream) (argument_at g.T.IrText.reading (attr_at g.A.IrText.reading)) kind.Value (λ text b. missing_followed _ (no_name_begins text b)) c.none_named.ensures c.if-none_named.true c.none.result (rw c.none.ensures tt)

pub returns-in-Ok-clause-read : goal.returns-in-Ok-clause-read
returns-in-Ok-clause-read g c = list_arguments (lens_of g.world g.met.S.CharStream) (argument_at g.T.IrText.reading (attr_at g.A.IrText.reading)) c.argument_parse.new.names.names c.more_arguments.new.names.names c.in-Ok.ensures.read c.skip_white_space.ensures c.more_arguments.ensures.read

pub returns-in-Ok-clause-names : goal.returns-in-Ok-clause-names
returns-in-Ok-clause-names g c = names_more _ _ _ c.in-Ok.ensures.names c.more_arguments.ensures.names

pub returns-in-Err-clause-read : goal.returns-in-Err-clause-read
returns-in-Err-clause-read g c =
    list_unread (lens_of g.world g.met.S.CharStream) (argument_at g.T.IrText.reading (attr_at g.A.IrText.reading)) c.none-in-Err.result c.unless_committed.result (rw c.none-in-Err.ensures tt) c.in-Err.ensures.read c.unless_committed.ensures

pub returns-then-none_named-clause-names : goal.returns-then-none_named-clause-names
returns-then-none_named-clause-names g c = names_none c.args.names.now

pub returns-in-Err-clause-names : goal.returns-in-Err-clause-names
returns-in-Err-clause-names g c = c.in-Err.ensures.names
