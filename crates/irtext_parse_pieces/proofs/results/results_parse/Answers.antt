use Rattle.std.proofs.Common.{◌≡◌, false, sym, ◌∙◌, ap, subst}
use Rattle.irtext_base.specs.Answers.{SameStream}
use Rattle.irtext_grammar.specs.Heads.{results_at}
use Rattle.irtext_parse_pieces.specs.Results.{is_read}
use Rattle.irtext_tokens.proofs.SetBack.{set_back, set_within}
use Rattle.irtext_parse_pieces.proofs.Looks.{results_none, results_run_out, results_fail}
use Rattle.irtext_parse_pieces.proofs.Lenses.{lens_of}
use Rattle.irtext_parse_pieces.proofs.results.results_parse.Goals as goal

pub returns-then-has_failed-clause-read : goal.returns-then-has_failed-clause-read
returns-then-has_failed-clause-read g c = results_fail (lens_of g.world g.met.S.CharStream) (sym c.has_failed.ensures ∙ c.if-has_failed.true) c.refuse.ensures

pub returns-then-begins_id-clause-read : goal.returns-then-begins_id-clause-read
returns-then-begins_id-clause-read g c = results_none (lens_of g.world g.met.S.CharStream) c.none.result c.none.ensures (sym c.has_failed.ensures ∙ c.if-has_failed.false) (c.begins_id.ensures.no_results c.if-begins_id.true) c.begins_id.ensures.still

pub returns-in-Err-clause-read : goal.returns-in-Err-clause-read
returns-in-Err-clause-read g c =
    let l = lens_of g.world g.met.S.CharStream in
    let still = c.begins_id.ensures.still in
    let fine = ap (λ s. (l.view s).failed) still ∙ (sym c.has_failed.ensures ∙ c.if-has_failed.false) in
    results_run_out l still (c.in-Err.ensures.looks fine)

pub returns-in-None-clause-read : goal.returns-in-None-clause-read
returns-in-None-clause-read g c =
    let l = lens_of g.world g.met.S.CharStream in
    let start = c.begins_id.new.stream in
    let mid = c.results_there.new.stream in
    let still = c.begins_id.ensures.still in
    let fine : (l.view c.args.stream.now).failed ≡ false = sym c.has_failed.ensures ∙ c.if-has_failed.false in
    let begun : (l.view start).failed ≡ false = ap (λ s. (l.view s).failed) still ∙ fine in
    let k = (rw c.in-None.is at c.in-Ok.ensures.looks) begun in
    let s = subst (λ b. SameStream l.view l.at b start mid) (sym begun) k.1 in
    let e = set_back l start mid c.reset.new.self s (c.reset.ensures (l.view start).passed (l.view start).rest (set_within l start mid s) c.position-place.ensures) in
    results_none l c.none-in-None.result c.none-in-None.ensures fine (subst (λ t. is_read (results_at (l.view t).rest) ≡ false) still k.0) (e ∙ still)
