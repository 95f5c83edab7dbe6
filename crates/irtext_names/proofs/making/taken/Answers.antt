use Rattle.std.proofs.Common.{◌∙◌, ◌==◌, ℕ, Bool, sym, ap, Some}
use Rattle.irtext_context.proofs.FewEntries.{absent_from_place, lookup-first, remove-first}
use Rattle.irtext_context.proofs.Spliced.{lookup-absent, first_at}
use Rattle.irtext_grammar.specs.Grammar.Tree.{at_place}
use Rattle.irtext_names.proofs.Ordering.{place_looked_up, others_stay}
use Rattle.irtext_names.proofs.making.taken.Goals as goal

pub returns-in_err-index-clause-value : goal.returns-in_err-index-clause-value
returns-in_err-index-clause-value g c =
    let test : ℕ → Bool = λ i. i == c.args.place in
    c.from_residual.ensures ∙ sym (place_looked_up c.args.place c.args.items.now.items ∙ lookup-absent test c.args.items.now.items (absent_from_place test c.args.items.now.items (sym c.in_err-index.ensures)))

pub returns-clause-value : goal.returns-clause-value
returns-clause-value g c =
    let test : ℕ → Bool = λ i. i == c.args.place in
    ap (λ e. Some e.1) c.remove-item.ensures.value
    ∙ sym (place_looked_up c.args.place c.args.items.now.items ∙ lookup-first test c.args.items.now.items c.in_ok-index.index c.remove-item.result (first_at test c.args.items.now.items c.in_ok-index.index (sym c.in_ok-index.ensures)))

pub returns-clause-others : goal.returns-clause-others
returns-clause-others g c = λ other n.
    let test : ℕ → Bool = λ i. i == c.args.place in
    ap (at_place other) (c.remove-item.ensures.items ∙ sym (remove-first test c.args.items.now.items c.in_ok-index.index (first_at test c.args.items.now.items c.in_ok-index.index (sym c.in_ok-index.ensures))))
    ∙ others_stay c.args.place other c.args.items.now.items n
