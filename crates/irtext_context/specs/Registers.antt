-- Registering an operation with a context.
use Rattle.std.specs.Prelude.{◌≡◌, Bool, Result, OnOk, OnErr, IfErr}
use Rattle.irtext_base.specs.FormatViews.{format_of}
use Rattle.irtext_base.specs.declared.base.identifier.OpId.{OpId}
use Rattle.irtext_base.specs.declared.format.OpFormat.{OpFormat}
use Rattle.irtext_base.specs.declared.location.Location.{Unknown}
use Rattle.irtext_base.specs.declared.result.Error.{Error}
use Rattle.irtext_base.specs.declared.result.ErrorKind.TheVariants.{InvalidArgument}
use Rattle.irtext_context.specs.Context.{ContextView}
use Rattle.irtext_context.specs.DialectTable.{dialect_or_new, with_operation}
use Rattle.irtext_context.specs.Dialects.{IsRefusedBy}

-- a call has registered the operation, and its dialect if that was not registered yet; or its error says why not, and the context is
-- unchanged
pub record Registers {T A R : Type 0} (id : OpId) (format : OpFormat) (isolated : Bool) (result : Result R (Error A)) (old new : ContextView T A) : Type 0 where
  pub ok : OnOk result (new.dialects ≡ with_operation old.dialects id (format_of format) isolated)
  pub rest : new ≡ record old { dialects = new.dialects }
  pub err : OnErr result (new ≡ old)
  pub refused : IfErr result (λ e. IsRefusedBy (dialect_or_new old.dialects id.dialect).name id format e.err)
  pub kind : IfErr result (λ e. (e.kind ≡ InvalidArgument) × (e.loc ≡ Unknown))
