use Rattle.std.proofs.Common.{◌≡◌, None, sym, rules, arith}
use Rattle.std.proofs.lemmas.Grind.{common_steps}
use Rattle.std.specs.Map.{lookup}
use Rattle.std.specs.Str.{bytes_eq}
use Rattle.irtext_context.proofs.DialectTables.{kept_there, kept_last}
use Rattle.irtext_context.proofs.dialect.table.keep.Goals as goal

pub returns-in-Some-clause-index : goal.returns-in-Some-clause-index
returns-in-Some-clause-index c = kept_there c.args.dialects.now.entries c.args.name.now c.in-Some.index (sym c.in-Some.ensures.index)

pub returns-clause-index : goal.returns-clause-index
returns-clause-index c =
    let none : lookup (bytes_eq c.args.name.now) c.args.dialects.now.entries ≡ None = first_of (search rules, grind (arith, common_steps)) in
    rw (c.in_ok-put_last.ensures.ok, c.in_ok-key.ensures, c.len-index.ensures.len) (kept_last c.args.dialects.now.entries c.args.name.now none)
