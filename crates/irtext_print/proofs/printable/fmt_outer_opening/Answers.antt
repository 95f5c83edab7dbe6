use Rattle.std.proofs.Common.{◌+◌, ◌≤◌, ◌∷◌, [], ◌++◌, ◌∙◌, string_bytes, arith, replicate, sym, ap, codes, cond}
use Rattle.irtext_grammar.specs.Spelling.Spell.{newline}
use Rattle.std.proofs.lemmas.Str.{IsCharBoundary-from_ascii}
use Rattle.irtext_print.proofs.Printers.Appended.{opening-whole, opening-following, opening-ascii}
use Rattle.irtext_print.proofs.printable.fmt_outer_opening.Goals as goal

pub range-requires-clause-end_boundary : goal.range-requires-clause-end_boundary
range-requires-clause-end_boundary c =
    let few : 4 + c.args.inner ≤ 68 = omega (arith, c.requires) in
    IsCharBoundary-from_ascii (32 ∷ 10 ∷ 123 ∷ 10 ∷ replicate 64 32) (4 + c.args.inner) (opening-ascii 64) few

pub range-requires-2-clause-end_boundary : goal.range-requires-2-clause-end_boundary
range-requires-2-clause-end_boundary c =
    let few : 4 + c.args.inner ≤ 68 = omega (arith, c.requires) in
    IsCharBoundary-from_ascii (32 ∷ 10 ∷ 123 ∷ 10 ∷ replicate 64 32) (4 + c.args.inner) (opening-ascii 64) few

pub returns-then-joins-clause-text : goal.returns-then-joins-clause-text
returns-then-joins-clause-text c = c.in_ok-push_str.ensures.bytes ∙ ap (λ z. string_bytes c.args.f.now ++ z) (c.range.ensures.value ∙ opening-following c.args.inner c.requires ∙ ap (λ b. cond b [] (codes " ") ++ (newline 0 ++ (codes "{" ++ newline c.args.inner))) (sym c.if-joins.true))

pub returns-clause-text : goal.returns-clause-text
returns-clause-text c = c.in_ok-push_str-2.ensures.bytes ∙ ap (λ z. string_bytes c.args.f.now ++ z) (c.range-2.ensures.value ∙ opening-whole c.args.inner c.requires ∙ ap (λ b. cond b [] (codes " ") ++ (newline 0 ++ (codes "{" ++ newline c.args.inner))) (sym c.if-joins.false))
