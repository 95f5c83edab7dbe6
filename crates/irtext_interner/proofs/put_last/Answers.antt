use Rattle.std.proofs.Common.{ap, ◌∙◌}
use Rattle.indexmap.specs.IndexSet.{insert_key}
use Rattle.std.specs.Str.{bytes_eq}
use Rattle.irtext_interner.proofs.Kept.{put_last}
use Rattle.irtext_interner.proofs.put_last.Goals as goal

pub returns-clause-ok : goal.returns-clause-ok
returns-clause-ok c =
    c.in_ok-insert.ensures.keys ∙ (ap (insert_key bytes_eq c.args.texts.now.keys) c.in_ok-text.ensures ∙ put_last c.args.texts.now.keys c.args.text.now c.requires)
