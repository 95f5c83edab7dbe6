use Rattle.std.proofs.Common.{◌∙◌, ap}
use Rattle.indexmap.specs.IndexMap.{insert_entry}
use Rattle.irtext_context.specs.Dialects.{known_entries, same_id}
use Rattle.irtext_context.proofs.Dialects.{known_put, keyed_put}
use Rattle.irtext_context.proofs.dialect.put_accepted.Goals as goal

pub returns-in-Ok-put-clause-ok : goal.returns-in-Ok-put-clause-ok
returns-in-Ok-put-clause-ok g c =
    let old = c.args.ops.now.entries in
    ap known_entries c.in-Ok-put.ensures.ok ∙ known_put old c.args.id.now c.in-Ok.info ∙ ap (insert_entry same_id (known_entries old) c.args.id.now) c.in-Ok.ensures.ok

pub returns-in-Err-clause-refused : goal.returns-in-Err-clause-refused
returns-in-Err-clause-refused g c = c.in-Err.ensures.refused c.args.name.now c.args.id.now c.requires

pub returns-in-Ok-put-clause-keyed : goal.returns-in-Ok-put-clause-keyed
returns-in-Ok-put-clause-keyed g c = let e = c.put.ensures in keyed_put c.put.result c.args.ops.now.entries c.put.new.ops.entries c.args.id.now c.in-Ok.info e.ok e.err c.in-Ok.ensures.keyed
