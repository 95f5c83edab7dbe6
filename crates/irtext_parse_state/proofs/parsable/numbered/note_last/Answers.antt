use Rattle.std.proofs.Common.{◌≡◌, ◌∷◌, [], ◌∙◌, ap, refl, arith, length, nat_eq}
use Rattle.indexmap.proofs.CallerLemmas.{insert_entry-new}
use Rattle.irtext_parse_state.proofs.NumberedPlaces.{dense_more, others_more}
use Rattle.irtext_parse_state.specs.Numbered.{all_numbered}
use Rattle.irtext_parse_state.proofs.parsable.numbered.note_last.Goals as goal

pub returns-then-index-len-clause-ok : goal.returns-then-index-len-clause-ok
returns-then-index-len-clause-ok g c =
    let next : c.args.index ≡ length c.args.dense.now.items = omega (arith, c.if-index-len.true, c.len.ensures) in
    ap (λ d. all_numbered d c.args.others.now.entries) c.in_ok-push.ensures.items
    ∙ dense_more c.args.index c.args.dense.now.items c.args.item c.args.others.now.entries (c.if-is_empty.ensures.0 refl) next

pub returns-clause-ok : goal.returns-clause-ok
returns-clause-ok g c =
    ap (all_numbered c.args.dense.now.items) (c.in_ok-insert.ensures.entries ∙ insert_entry-new nat_eq c.args.others.now c.args.index c.args.item c.requires)
    ∙ others_more c.args.dense.now.items c.args.others.now.entries ((c.args.index, c.args.item) ∷ [])
