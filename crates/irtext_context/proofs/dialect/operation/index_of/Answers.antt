use Rattle.std.proofs.Common.{◌≡◌, ℕ, List, Option, Some, None, sym, position}
use Rattle.std.specs.Prelude.{IfSome}
use Rattle.std.specs.Map.{keys_of}
use Rattle.std.specs.Str.{bytes_eq}
use Rattle.irtext_base.specs.Text.{Text}
use Rattle.irtext_context.specs.Dialects.{Table}
use Rattle.irtext_context.specs.DialectTable.{IsKeptAt}
use Rattle.irtext_context.proofs.DialectTables.{kept_there}
use Rattle.irtext_context.proofs.dialect.operation.index_of.Goals as goal

-- what is known of an index that a look-up returns
there : (es : List (Text × Table)) (name : Text) (o : Option ℕ) → o ≡ position (bytes_eq name) (keys_of es) → IfSome o (λ i. IsKeptAt es name i es)
there es name None e = tt
there es name (Some i) e = kept_there es name i (sym e)

pub returns-clause-found : goal.returns-clause-found
returns-clause-found c = there c.args.dialects.now.entries c.args.name.now c.get_index_of.result c.get_index_of.ensures.index
