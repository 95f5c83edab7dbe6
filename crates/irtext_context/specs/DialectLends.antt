-- The context after a dialect of it was borrowed as `&mut`.
use Rattle.std.specs.Prelude.{ℕ, Result}
use Rattle.std.specs.Borrow.{Lends, LendsIfOk, Fml, RattleType, MutBor}
use Rattle.indexmap.specs.Layout.{set_value_at}
use Rattle.irtext_base.specs.Text.{Text}
use Rattle.irtext_context.specs.Context.{ContextView}
use Rattle.irtext_context.specs.Dialects.{Table}
use Rattle.irtext_context.specs.DialectTable.{with_dialect}
use Rattle.irtext_context.specs.contracts.base.context.Context as context
use Rattle.irtext_context.specs.contracts.dialect.Dialect as dialect

module _ (T A : RattleType) (c : MutBor (ContextView T.Denot A.Denot)) where
  -- when the borrow ends, the dialect at this index is the reference's last value; all else in the context is unchanged
  abbrev pub LendsDialectAt : ℕ → MutBor Table → Fml
  LendsDialectAt i r = Lends (context.the_row T A) dialect.the_row c r (λ w. record c.now { dialects = set_value_at c.now.dialects i w })

  -- when the borrow ends, the dialect with this name is the reference's last value; all else, and on an error everything, is unchanged
  abbrev pub LendsDialect : {E : Type 0} → Text → Result (MutBor Table) E → Fml
  LendsDialect name r = LendsIfOk (context.the_row T A) dialect.the_row c r (λ w. record c.now { dialects = with_dialect c.now.dialects name w }) c.now
