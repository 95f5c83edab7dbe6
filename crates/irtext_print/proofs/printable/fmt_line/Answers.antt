use Rattle.std.proofs.Common.{◌++◌, ◌+◌, ◌≤◌, ◌∙◌, ap, arith, length, string_bytes, append_assoc}
use Rattle.std.specs.List.{slice_range}
use Rattle.irtext_grammar.specs.Spelling.Spell.{newline}
use Rattle.irtext_print.proofs.Printers.Appended.{then, line-slice}
use Rattle.irtext_print.proofs.printable.fmt_line.Goals as goal

pub returns-then-indent-gt256-clause-text : goal.returns-then-indent-gt256-clause-text
returns-then-indent-gt256-clause-text c =
    then c.fmt_newline.result (λ w. w ∙ (ap (λ z. z ++ newline c.args.indent) c.in_ok-push_str.ensures.bytes ∙ append_assoc (string_bytes c.args.f.now) c.args.front.now (newline c.args.indent))) c.fmt_newline.ensures.text

pub returns-clause-text : goal.returns-clause-text
returns-clause-text c =
    let few : c.args.indent ≤ 256 = omega (arith, c.if-indent-gt256.false) in
    c.in_ok-push_str-2.ensures.bytes ∙ ap (λ z. string_bytes c.args.f.now ++ z)
    (c.range.ensures.value ∙ (ap (λ z. slice_range z 0 (length c.args.front.now + 1 + c.args.indent)) c.requires.line ∙ line-slice c.args.front.now c.args.indent few))
