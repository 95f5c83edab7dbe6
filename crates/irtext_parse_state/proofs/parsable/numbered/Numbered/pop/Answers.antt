use Rattle.std.proofs.Common.{◌≡◌, ◌∙◌, ap, sym, refl, arith, length}
use Rattle.irtext_parse_state.proofs.NumberedPlaces.{dense_more}
use Rattle.irtext_parse_state.specs.Numbered.{all_numbered}
use Rattle.irtext_parse_state.proofs.parsable.numbered.Numbered.pop.Goals as goal

pub returns-clause-entries : goal.returns-clause-entries
returns-clause-entries g c =
    let others = c.self.inside.others.entries in
    let last : c.len.result ≡ length c.pop-2.new.self.items = omega (arith, c.len.ensures) in
    sym c.self.view_is
    ∙ ap (λ dense. all_numbered dense others) c.in_ok-item.ensures.items
    ∙ dense_more c.len.result c.pop-2.new.self.items c.in_ok-item.item others (c.if-not-is_empty.ensures.0 refl) last
