use Rattle.std.proofs.Common.{◌++◌, ◌∷◌, ◌+◌, [], length, sym, ◌∙◌, ap}
use Rattle.irtext_grammar.specs.Found.{with_words}
use Rattle.irtext_grammar.proofs.Founds.{piece_more, one_longer}
use Rattle.irtext_grammar.proofs.found.CustomPieces.push.Goals as goal

pub invariant_of-self : goal.invariant_of-self
invariant_of-self g c = c.self.invariant ∙ ap (λ l. length (with_words l c.self.inside.words)) (sym c.in-Err.ensures.err)

pub invariant_of-self-2 : goal.invariant_of-self-2
invariant_of-self-2 g c =
    let p = c.self.inside in
    ap (λ n. n + 1) c.self.invariant ∙ sym (one_longer (with_words p.found.items p.words) _ c.args.piece (ap (λ l. with_words l 0) c.in_default.ensures.items ∙ piece_more p.found.items p.words c.args.piece))

pub returns : goal.returns
returns g c =
    let p = c.self.inside in
    ap (λ l. with_words l 0) c.in_default.ensures.items ∙ piece_more p.found.items p.words c.args.piece ∙ ap (λ l. l ++ (c.args.piece ∷ [])) c.self.view_is
