use Rattle.std.proofs.Common.{◌∙◌, sym, string_bytes}
use Rattle.irtext_print_ops.proofs.Lines.{region_elided, region_opened}
use Rattle.irtext_print_ops.proofs.opening.begin_region.Goals as goal

pub returns-in_default-clause-text : goal.returns-in_default-clause-text
returns-in_default-clause-text c =
    region_elided c.args.joins c.args.width c.args.indent c.args.limit (string_bytes c.args.f.now) (string_bytes c.fmt_elided.new.f) (sym c.inside.ensures ∙ c.in_default.is) c.in_ok-fmt_elided.ensures.text

pub returns-clause-text : goal.returns-clause-text
returns-clause-text c =
    region_opened c.args.joins c.args.width c.args.indent c.in_ok-inner.inner c.args.limit c.in-Some.limit (string_bytes c.args.f.now) (string_bytes c.fmt_begun.new.f)
    (sym c.inside.ensures ∙ c.in-Some.is) c.in_ok-inner.ensures.ok c.in_ok-fmt_begun.ensures.text
