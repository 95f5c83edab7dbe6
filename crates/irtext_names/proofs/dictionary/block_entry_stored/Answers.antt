use Rattle.std.proofs.Common.{◌∙◌}
use Rattle.irtext_names.proofs.BlockEntries.{label_key, label_forbidden, entry_allowed, entry_forbidden}
use Rattle.irtext_names.proofs.Outcomes.{on_ok, if_err}
use Rattle.irtext_names.proofs.dictionary.block_entry_stored.Goals as goal

pub returns-then-is_label_key-clause-refused : goal.returns-then-is_label_key-clause-refused
returns-then-is_label_key-clause-refused g c = label_forbidden c.args.entry (label_key c.args.entry.0.name c.is_label_key.result c.is_label_key.ensures ∙ c.if-is_label_key.true)

pub returns-clause-allowed : goal.returns-clause-allowed
returns-clause-allowed g c = on_ok c.entry_stored.result (λ h. entry_allowed c.args.entry (label_key c.args.entry.0.name c.is_label_key.result c.is_label_key.ensures ∙ c.if-is_label_key.false) h) c.entry_stored.ensures.holds

pub returns-clause-refused : goal.returns-clause-refused
returns-clause-refused g c = if_err c.entry_stored.result (λ r h. entry_forbidden c.args.entry r h) c.entry_stored.ensures.refused
