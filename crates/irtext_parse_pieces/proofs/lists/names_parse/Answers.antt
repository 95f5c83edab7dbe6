use Rattle.std.proofs.Common.{sym, ◌∙◌}
use Rattle.irtext_parse_pieces.specs.Kinds.{named_at}
use Rattle.irtext_parse_pieces.proofs.Meanings.{names_more, names_none}
use Rattle.irtext_parse_pieces.proofs.Absences.{none_begins, list_unbegun}
use Rattle.irtext_parse_pieces.proofs.Listings.{only_first, list_unread, list_names}
use Rattle.irtext_parse_pieces.proofs.Lenses.{lens_of}
use Rattle.irtext_parse_pieces.proofs.lists.names_parse.Goals as goal

pub returns-then-none_named : goal.returns-then-none_named
returns-then-none_named g c = record {
  read = list_unbegun (lens_of g.world g.met.S.CharStream) (named_at c.args.kind c.args.inside) c.args.kind (none_begins c.args.kind c.args.inside) c.none_named.ensures c.if-none_named.true c.none.result (rw c.none.ensures tt);
  names = names_none c.args.names.now;
}

pub returns-then-not-next_is : goal.returns-then-not-next_is
returns-then-not-next_is g c =
    let l = lens_of g.world g.met.S.CharStream in
    let item = named_at c.args.kind c.args.inside in
    let names = c.named_parse.new.names.names in
    record {
      read = list_names l item names names c.in-Ok.ensures.read c.skip_white_space.ensures (λ name means fine. only_first l item name c.in-Ok.first c.one.ensures (sym c.next_is.ensures ∙ c.if-not-next_is.true) fine means);
      names = c.in-Ok.ensures.names;
    }

pub returns-else-not-next_is : goal.returns-else-not-next_is
returns-else-not-next_is g c = record {
  read = list_names (lens_of g.world g.met.S.CharStream) (named_at c.args.kind c.args.inside) c.named_parse.new.names.names c.more_names.new.names.names c.in-Ok.ensures.read c.skip_white_space.ensures c.more_names.ensures.read;
  names = names_more _ _ _ c.in-Ok.ensures.names c.more_names.ensures.names;
}

pub returns-in-Err : goal.returns-in-Err
returns-in-Err g c = record {
  read = list_unread (lens_of g.world g.met.S.CharStream) (named_at c.args.kind c.args.inside) c.none-in-Err.result c.unless_committed.result (rw c.none-in-Err.ensures tt) c.in-Err.ensures.read c.unless_committed.ensures;
  names = c.in-Err.ensures.names;
}
