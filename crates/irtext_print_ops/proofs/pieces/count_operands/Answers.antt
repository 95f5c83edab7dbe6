use Rattle.std.proofs.Common.{◌≡◌, ◌∙◌, Some, None, is_some, rules}
use Rattle.std.specs.List.{count_by}
use Rattle.irtext_base.specs.FormatViews.{directive_of}
use Rattle.irtext_base.specs.Format as format
use Rattle.irtext_format_check.proofs.Formats.{named_count}
use Rattle.irtext_print_ops.proofs.pieces.count_operands.Goals as goal

pub returns : goal.returns
returns c =
    let e : c.count.result ≡ count_by (λ d. is_some (elim (directive_of d) [ format.operand i ↦ Some i | _ ↦ None ])) c.args.directives.now = search rules in
    e ∙ named_count (λ d. elim d [ format.operand i ↦ Some i | _ ↦ None ]) directive_of c.args.directives.now
