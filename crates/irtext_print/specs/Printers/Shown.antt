-- For callers: the value of a printing state.
use Rattle.std.specs.Prelude.{ℕ, List}
use Rattle.irtext_context.specs.declared.base.item.Item.{Item}
use Rattle.irtext_print.specs.declared.printable.state.RegionPrintDepthLimit.{RegionPrintDepthLimit}

-- width of an indentation step, indentation, limit, gathered items, the caller's data
pub record Shown (U : Type 0) : Type 0 where
  pub width : ℕ
  pub indent : ℕ
  pub limit : RegionPrintDepthLimit
  pub gathered : List Item
  pub aux : U
