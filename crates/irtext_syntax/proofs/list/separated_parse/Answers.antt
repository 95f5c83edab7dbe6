use Rattle.std.proofs.Common.{of_calls, map-id, sym, subst}
use Rattle.irtext_tokens.specs.MustRead.{MayRead}
use Rattle.irtext_tokens.proofs.ListReads.{list_reads}
use Rattle.irtext_tokens.proofs.Steps.{alone}
use Rattle.irtext_syntax.proofs.list.separated_parse.Goals as goal

pub returns : goal.returns
returns g c =
    let item = g.P.Part.text.reading in
    list_reads alone (λ x. x) c.args.separator item (λ r. r) _ (λ items. items.items) (λ v. sym (map-id v.items)) _ c.args.stream.now c.list_parser.result c.list_parser.new.stream (λ f s answer k t e.
    let h : MayRead (λ s. s) (λ s v. v) (λ x. x) item e.shown.now answer e.left.now = search of_calls in
    subst (λ z. MayRead (λ s. s) (λ s v. v) (λ x. x) item z answer t) e.shows (subst (λ z. MayRead (λ s. s) (λ s v. v) (λ x. x) item e.shown.now answer z) e.leaves h)) c.list_parser.ensures.answers
