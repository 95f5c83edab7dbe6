use Rattle.std.proofs.Common.{◌∙◌, inl, inr, sym}
use Rattle.irtext_parse_root.specs.Results.{outside}
use Rattle.irtext_parse_root.proofs.results.process_parsed_ssa_defs.Goals as goal

pub returns-in-Some-clause-missed : goal.returns-in-Some-clause-missed
returns-in-Some-clause-missed g c = λ fine.
    let first = c.in-Some.first.now in
    elim c.no_scope_error.ensures.says [
      | inl ran_out ↦ inl ran_out
      | inr (because, flag, place) ↦ inr (outside first.0 first.1 c.in-Some.field-0-1.now c.in-Some.ensures.cases.0 (sym c.result_count-count.ensures ∙ c.if-count-results.false) because flag place)
    ]
