use Rattle.irtext_tokens.specs.AttrTexts.{attr_at}
use Rattle.irtext_grammar.specs.Heads.{entry_by}
use Rattle.irtext_grammar.specs.declared.parsed.NameKind.TheVariants as kind
use Rattle.irtext_parse_pieces.proofs.Absences.{list_unbegun}
use Rattle.irtext_parse_pieces.proofs.Listings.{list_unread}
use Rattle.irtext_parse_pieces.proofs.EntrySteps.{list_entries}
use Rattle.irtext_parse_pieces.proofs.AllowedSteps.{no_entry_begins}
use Rattle.irtext_parse_pieces.proofs.Lenses.{lens_of}
use Rattle.irtext_parse_pieces.proofs.entries.entries_parse.Goals as goal

pub returns-then-none_named : goal.returns-then-none_named
returns-then-none_named g c =
    list_unbegun (lens_of g.world g.met.S.CharStream) (entry_by (attr_at g.A.IrText.reading) c.args.any_key) kind.Value (λ text b. no_entry_begins (attr_at g.A.IrText.reading) c.args.any_key text b) c.none_named.ensures c.if-none_named.true c.new.result (rw c.new.ensures.items tt)

pub returns-in-Ok : goal.returns-in-Ok
returns-in-Ok g c = list_entries (lens_of g.world g.met.S.CharStream) (entry_by (attr_at g.A.IrText.reading) c.args.any_key) c.in-Ok.ensures c.skip_white_space.ensures c.more_entries.ensures

pub returns-in-Err : goal.returns-in-Err
returns-in-Err g c =
    list_unread (lens_of g.world g.met.S.CharStream) (entry_by (attr_at g.A.IrText.reading) c.args.any_key) c.new-in-Err.result c.unless_committed.result (rw c.new-in-Err.ensures.items tt) c.in-Err.ensures c.unless_committed.ensures
