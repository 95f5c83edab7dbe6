use Rattle.std.proofs.Common.{◌≡◌, ◌++◌, ◌∷◌, ◌+◌, [], length, sym, ◌∙◌, ap, arith}
use Rattle.irtext_grammar.specs.declared.parsed.ReadPiece.TheVariants as read
use Rattle.irtext_grammar.specs.Found.{with_words}
use Rattle.irtext_grammar.proofs.Founds.{word_more, words_within, one_longer, next_number}
use Rattle.irtext_grammar.proofs.found.CustomPieces.push_word.Goals as goal

pub overflow_add-self : goal.overflow_add-self
overflow_add-self g c =
    let p = c.self.inside in
    let all : length (with_words p.found.items p.words) ≡ length c.args.self.now = ap length c.self.view_is in
    omega (arith, words_within p.found.items p.words, all, c.requires)

pub invariant_of-self : goal.invariant_of-self
invariant_of-self g c =
    let p = c.self.inside in
    ap (λ n. n + 1) c.self.invariant ∙ sym (one_longer (with_words p.found.items p.words) _ read.Word (ap (with_words p.found.items) (next_number p.words) ∙ word_more p.found.items p.words))

pub returns : goal.returns
returns g c =
    let p = c.self.inside in
    ap (with_words p.found.items) (next_number p.words) ∙ word_more p.found.items p.words ∙ ap (λ l. l ++ (read.Word ∷ [])) c.self.view_is
