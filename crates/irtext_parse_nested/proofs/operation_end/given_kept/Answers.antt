use Rattle.std.proofs.Common.{◌∙◌, map, option_map, sym, ap}
use Rattle.irtext_grammar.specs.Contexts.Held.{entries_of}
use Rattle.irtext_grammar.specs.Graphs.Build.{put_all, read_names}
use Rattle.irtext_parse_nested.proofs.Faults.{some_same}
use Rattle.irtext_names.proofs.Outcomes.{on_ok}
use Rattle.irtext_parse_nested.proofs.operation_end.given_kept.Goals as goal

pub returns-clause-writes : goal.returns-clause-writes
returns-clause-writes g c = record { left = c.names_shared.new.attributes; edits = c.operation_attributes_mut-attributes.ensures.edits c.names_shared.new.attributes }

pub returns-clause-gives : goal.returns-clause-gives
returns-clause-gives g c = on_ok c.names_shared.result (λ stored. record {
  left = c.names_shared.new.attributes;
  edits = c.operation_attributes_mut-attributes.ensures.edits c.names_shared.new.attributes;
  stored = λ view is ws named. stored ws named ∙ ap (λ es. put_all (entries_of es) (read_names (map (λ w. w.text) ws))) (some_same (sym c.operation_attributes_mut-attributes.ensures.value ∙ ap (option_map (λ op. op.attributes)) is));
}) c.names_shared.ensures
