use Rattle.std.proofs.Common.{◌+◌, ◌%◌, ◌*◌, ◌≡◌, ◌≤◌, ◌∷◌, ◌++◌, string_bytes, arith, replicate, ◌∙◌, ap}
use Rattle.std.proofs.lemmas.Str.{IsCharBoundary-from_ascii}
use Rattle.irtext_print.proofs.Printers.Appended.{newline-more, newline-slice, newline-ascii}
use Rattle.irtext_print.proofs.printable.fmt_newline.Goals as goal

pub range-requires-clause-end_boundary : goal.range-requires-clause-end_boundary
range-requires-clause-end_boundary c =
    let few : 1 + c.args.indent % 256 ≤ 257 = omega arith in
    IsCharBoundary-from_ascii (10 ∷ replicate 256 32) (1 + c.args.indent % 256) (newline-ascii 256) few

pub loop-block-init : goal.loop-block-init
loop-block-init c =
    let few : c.args.indent % 256 ≤ 256 = omega arith in
    let none : c.args.indent % 256 ≡ c.args.indent % 256 + 256 * 0 = omega arith in
    c.in_ok-push_str.ensures.bytes ∙ ap (λ z. string_bytes c.args.f.now ++ z) (c.range.ensures.value ∙ newline-slice (c.args.indent % 256) few ∙ ap (λ n. 10 ∷ replicate n 32) none)

pub loop-block-preserved : goal.loop-block-preserved
loop-block-preserved c =
    newline-more (c.args.indent % 256) c.loop-block._block (string_bytes c.args.f.now) (string_bytes c.loop-block.f) (string_bytes c.push_str-in-loop-block.new.text) c.loop-block.invariant c.in_ok-push_str-2.ensures.bytes

pub returns-clause-text : goal.returns-clause-text
returns-clause-text c =
    let blocks : c.args.indent % 256 + 256 * c.loop-block._block ≡ c.args.indent = omega (arith, c.loop-block-test.false, c.loop-block.auto._block-end) in
    c.loop-block.invariant ∙ ap (λ n. string_bytes c.args.f.now ++ 10 ∷ replicate n 32) blocks
