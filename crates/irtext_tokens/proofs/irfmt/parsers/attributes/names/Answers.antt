use Rattle.std.proofs.Common.{of_calls, map-id, sym, subst}
use Rattle.irtext_base.specs.Answers.{unless_failed}
use Rattle.irtext_tokens.specs.AttrTexts.{given_name_at}
use Rattle.irtext_tokens.specs.MustRead.{MayRead}
use Rattle.irtext_tokens.proofs.ListReads.{list_reads}
use Rattle.irtext_tokens.proofs.ListRules.{answers_keep}
use Rattle.irtext_tokens.proofs.Steps.{lens}
use Rattle.irtext_tokens.proofs.irfmt.parsers.attributes.names.Goals as goal

pub returns : goal.returns
returns g c =
    let m = g.met.S.CharStream in
    let l = lens g.S.CharStream.view g.S.CharStream.at m.view_at m.at_view m.at_at in
    list_reads l (λ name. name) 44 given_name_at (λ r. r) _ (λ names. names.items) (λ v. sym (map-id v.items)) _ c.args.stream.now c.list_parser.result c.list_parser.new.stream (λ f s answer k t e.
    let h : MayRead g.S.CharStream.view g.S.CharStream.at (λ name. name) given_name_at e.shown.now answer e.left.now = search of_calls in
    subst (λ z. MayRead l.view l.at (λ name. name) given_name_at z answer t) e.shows (subst (λ z. MayRead l.view l.at (λ name. name) given_name_at e.shown.now answer z) e.leaves h)) c.list_parser.ensures.answers

pub list_parser-requires-clause-rules : goal.list_parser-requires-clause-rules
list_parser-requires-clause-rules g c = λ f s answer k t e.
    let view = g.S.CharStream.view in
    let at = g.S.CharStream.at in
    let h : MayRead view at (λ name. name) given_name_at e.shown.now answer e.left.now = search of_calls in
    let r = subst (λ z. MayRead view at (λ name. name) given_name_at z answer t) e.shows (subst (λ z. MayRead view at (λ name. name) given_name_at e.shown.now answer z) e.leaves h) in
    answers_keep view at g.met.S.CharStream.view_at (λ name. name) (unless_failed (view s).failed (given_name_at (view s).rest)) s answer t r.answers
