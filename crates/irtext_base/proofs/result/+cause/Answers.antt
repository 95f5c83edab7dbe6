use Rattle.std.proofs.Common.{◌++◌, codes, ◌∙◌, ap, sym, true, refl, append_assoc}
use Rattle.std.proofs.Output.{has_written_append, has_written_of_eq}
use Rattle.irtext_base.specs.Causes.{kind_text, cause_text, position_text}
use Rattle.irtext_base.proofs.result.+cause.Goals as goal

pub CauseDisplay::fmt-returns-in_ok-fmt-in-Parse-clause-writes :
    goal.CauseDisplay::fmt-returns-in_ok-fmt-in-Parse-clause-writes
CauseDisplay::fmt-returns-in_ok-fmt-in-Parse-clause-writes g t c = λ plain ok.
    let v = c.in-Parse in
    let inner = c.deref-in-Parse.result.now in
    let place = c.in_ok-write-in-Parse.ensures.writes plain (refl {a = true}) in
    let cause = c.in_ok-fmt-in-Parse.ensures.writes place.plain (refl {a = true}) in
    let end = c.write_str.ensures.writes cause.plain ok in
    let whole = ap (λ z. codes "Parse error at " ++ z) (append_assoc (position_text v.at) (codes "\n") (cause_text inner ++ codes "\n")) in
    let same = ap (λ k. codes "Parse error at " ++ (position_text v.at ++ (codes "\n" ++ (cause_text k ++ codes "\n")))) c.deref-in-Parse.ensures in
    has_written_of_eq _ _ _ _ _ (whole ∙ (same ∙ ap cause_text (sym v.is))) (has_written_append _ _ _ _ _ _ place (has_written_append _ _ _ _ _ _ cause end))

pub ErrorDisplay::fmt-returns-clause-writes : goal.ErrorDisplay::fmt-returns-clause-writes
ErrorDisplay::fmt-returns-clause-writes g t c = λ plain ok.
    let error = c.args.self.now in
    let line = c.in_ok-heading.ensures plain (refl {a = true}) in
    let cause = c.fmt.ensures.writes line.plain ok in
    let whole = ap (λ z. codes "Compilation error: " ++ z) (append_assoc (kind_text error.kind) (codes ".\n") (cause_text error.err)) in
    has_written_of_eq _ _ _ _ _ whole (has_written_append _ _ _ _ _ _ line cause)
