use Rattle.std.proofs.Common.{◌++◌, ◌-◌, ◌≤◌, ◌∙◌, ap, arith, length, drop, string_bytes}
use Rattle.std.proofs.lemmas.Str.{IsCharBoundary-from_ascii}
use Rattle.std.specs.List.{slice_range}
use Rattle.irtext_print.proofs.Printers.Indented.{indented-slice}
use Rattle.irtext_print.proofs.printable.fmt_indented.Goals as goal

pub range-requires-clause-start_boundary : goal.range-requires-clause-start_boundary
range-requires-clause-start_boundary c =
    let ends = c.requires.ends in
    let within : 256 - c.args.indent ≤ length c.args.line.now = omega (arith, ends.0, ends.1) in
    λ _. IsCharBoundary-from_ascii c.args.line.now (256 - c.args.indent) c.requires.ascii within

pub range-requires-clause-end_boundary : goal.range-requires-clause-end_boundary
range-requires-clause-end_boundary c = IsCharBoundary-from_ascii c.args.line.now c.args.end c.requires.ascii c.requires.ends.1

pub returns-clause-text : goal.returns-clause-text
returns-clause-text c =
    c.in_ok-push_str.ensures.bytes ∙ ap (λ z. string_bytes c.args.f.now ++ z)
    (c.range.ensures.value ∙ (ap (λ z. slice_range z (256 - c.args.indent) c.args.end) c.requires.line ∙ indented-slice 256 c.args.indent c.args.end (drop 256 c.args.line.now) c.requires.few c.requires.ends.0))
