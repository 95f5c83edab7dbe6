use Rattle.std.proofs.Common.{◌∙◌, option_map, sym, ap}
use Rattle.irtext_grammar.specs.Contexts.Held.{entries_of}
use Rattle.irtext_grammar.specs.Graphs.Build.{put_all}
use Rattle.irtext_names.specs.Gathering.{stored_of}
use Rattle.irtext_parse_nested.proofs.Faults.{some_same}
use Rattle.irtext_parse_nested.proofs.Marking.{on_both}
use Rattle.irtext_parse_nested.proofs.later.piece_kept.Goals as goal

pub returns-clause-writes : goal.returns-clause-writes
returns-clause-writes g c = record { left = c.piece_stored.new.attributes; edits = c.operation_attributes_mut-attributes.ensures.edits c.piece_stored.new.attributes }

pub returns-clause-stores : goal.returns-clause-stores
returns-clause-stores g c = on_both c.piece_stored.result (λ stored may. record {
  left = c.piece_stored.new.attributes;
  edits = c.operation_attributes_mut-attributes.ensures.edits c.piece_stored.new.attributes;
  stored = λ view is. stored ∙ ap (λ es. put_all (entries_of es) (stored_of c.args.piece)) (some_same (sym c.operation_attributes_mut-attributes.ensures.value ∙ ap (option_map (λ op. op.attributes)) is));
  may = may;
}) c.piece_stored.ensures.stored c.piece_stored.ensures.may
