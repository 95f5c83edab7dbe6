use Rattle.std.proofs.Common.{refl, sym, ◌∙◌}
use Rattle.irtext_parse_pieces.proofs.Listings.{only_first, list_unread}
use Rattle.irtext_parse_pieces.proofs.PieceSteps.{list_types}
use Rattle.irtext_parse_pieces.proofs.Lenses.{lens_of}
use Rattle.irtext_parse_pieces.proofs.types.types_parse.Goals as goal

pub returns-then-not-next_is : goal.returns-then-not-next_is
returns-then-not-next_is g c =
    let l = lens_of g.world g.met.S.CharStream in
    list_types l g.T.IrText.reading c.in-Ok.ensures c.skip_white_space.ensures (λ fine. only_first l g.T.IrText.reading c.in-Ok.first c.in-Ok.first c.one.ensures (sym c.next_is.ensures ∙ c.if-not-next_is.true) fine refl)

pub returns-else-not-next_is : goal.returns-else-not-next_is
returns-else-not-next_is g c = list_types (lens_of g.world g.met.S.CharStream) g.T.IrText.reading c.in-Ok.ensures c.skip_white_space.ensures c.more_types.ensures

pub returns-in-Err : goal.returns-in-Err
returns-in-Err g c = list_unread (lens_of g.world g.met.S.CharStream) g.T.IrText.reading c.none.result c.unless_committed.result (rw c.none.ensures tt) c.in-Err.ensures c.unless_committed.ensures
