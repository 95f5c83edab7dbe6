use Rattle.std.proofs.Common.{[], ◌∷◌, ◌++◌, ◌∙◌, ◌≤◌, ap, arith, codes, cond, replicate, string_bytes}
use Rattle.irtext_print.proofs.Printers.Appended.{then}
use Rattle.irtext_print.proofs.Printers.Indented.{brace-ascii, brace-slice, indented-ascii, line-joined}
use Rattle.irtext_print.proofs.printable.fmt_opening.Goals as goal

pub fmt_indented-requires-clause-ascii : goal.fmt_indented-requires-clause-ascii
fmt_indented-requires-clause-ascii c = indented-ascii 256 (123 ∷ 10 ∷ replicate 256 32) (brace-ascii 256)

pub returns-clause-text : goal.returns-clause-text
returns-clause-text c =
    let few : c.args.inner ≤ 256 = omega (arith, c.if-inner-gt256.false) in
    then c.fmt_indented.result (λ w. line-joined (string_bytes c.args.f.now) (string_bytes c.fmt_line_end.new.f) (string_bytes c.fmt_indented.new.f) (cond c.args.joins [] (codes " ")) _ c.in_ok-fmt_line_end.ensures.text
    (w ∙ ap (λ z. string_bytes c.fmt_line_end.new.f ++ (replicate c.args.indent 32 ++ z)) (brace-slice c.args.inner few))) c.fmt_indented.ensures.text
