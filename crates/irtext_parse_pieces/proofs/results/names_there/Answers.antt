use Rattle.std.proofs.Common.{Ok, Some, sym, ◌∙◌}
use Rattle.irtext_grammar.specs.Heads.{name_at}
use Rattle.irtext_parse_pieces.proofs.Meanings.{names_more}
use Rattle.irtext_parse_pieces.proofs.Listings.{only_first}
use Rattle.irtext_parse_pieces.proofs.Looks.{list_looks, first_unlooked}
use Rattle.irtext_parse_pieces.proofs.Lenses.{lens_of}
use Rattle.irtext_parse_pieces.proofs.results.names_there.Goals as goal

pub returns-then-not-next_is-clause-looks : goal.returns-then-not-next_is-clause-looks
returns-then-not-next_is-clause-looks g c = λ fine.
    let l = lens_of g.world g.met.S.CharStream in
    let names = c.name_parse.new.names.names in
    list_looks l names names c.skip_white_space.new.stream (Ok (Some c.one.result)) c.in-Ok.ensures.read c.skip_white_space.ensures
    (λ name means ok. only_first l name_at name c.in-Ok.first c.one.ensures (sym c.next_is.ensures ∙ c.if-not-next_is.true) ok means)

pub returns-else-not-next_is-clause-looks : goal.returns-else-not-next_is-clause-looks
returns-else-not-next_is-clause-looks g c = λ fine. list_looks (lens_of g.world g.met.S.CharStream) c.name_parse.new.names.names c.more_results.new.names.names c.more_results.new.stream c.more_results.result c.in-Ok.ensures.read c.skip_white_space.ensures c.more_results.ensures.looks

pub returns-else-not-next_is-clause-names : goal.returns-else-not-next_is-clause-names
returns-else-not-next_is-clause-names g c = names_more _ _ _ c.in-Ok.ensures.names c.more_results.ensures.names

pub returns-in-Err-clause-looks : goal.returns-in-Err-clause-looks
returns-in-Err-clause-looks g c = λ fine. first_unlooked (lens_of g.world g.met.S.CharStream) c.name_parse.new.names.names c.none.result c.unless_committed.result c.none.ensures fine c.in-Err.ensures.read c.unless_committed.ensures
