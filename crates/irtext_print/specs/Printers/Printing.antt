-- For callers: words for the printing state and its guards.
use Rattle.std.specs.Prelude.{ℕ, zero, suc, List, Option, Some, None}
use Rattle.std.specs.Borrow.{GName}
use Rattle.irtext_context.specs.declared.base.item.Item.{Item}
use Rattle.irtext_print.specs.Printers.Shown.{Shown}
use Rattle.irtext_print.specs.declared.printable.guards.IndentGuard.{IndentGuard}
use Rattle.irtext_print.specs.declared.printable.guards.RegionDepthGuard.{RegionDepthGuard}
use Rattle.irtext_print.specs.declared.printable.state.RegionPrintDepthLimit.{RegionPrintDepthLimit}
use Rattle.irtext_print.specs.declared.printable.state.RegionPrintDepthLimit.TheVariants.{Unlimited, Max}

-- the limit inside a region, unless this limit elides it
abbrev pub lowered : RegionPrintDepthLimit → Option RegionPrintDepthLimit
lowered Unlimited = Some Unlimited
lowered (Max zero) = None
lowered (Max (suc n)) = Some (Max n)

module _ {U : Type 0} where
  -- the number of spaces of one indentation step
  abbrev pub width_of : Shown U → ℕ
  width_of s = s.width

  -- the indentation, in spaces
  abbrev pub indent_of : Shown U → ℕ
  indent_of s = s.indent

  -- how many levels of regions are printed
  abbrev pub limit_of : Shown U → RegionPrintDepthLimit
  limit_of s = s.limit

  -- the gathered items, in their order
  abbrev pub gathered_of : Shown U → List Item
  gathered_of s = s.gathered

  -- the caller's data
  abbrev pub data_of : Shown U → U
  data_of s = s.aux

  -- the state with another indentation
  abbrev pub with_indent : Shown U → ℕ → Shown U
  with_indent s n = record s { indent = n }

  -- the state with another limit
  abbrev pub with_limit : Shown U → RegionPrintDepthLimit → Shown U
  with_limit s l = record s { limit = l }

  -- the state with other data of the caller
  abbrev pub with_data : Shown U → U → Shown U
  with_data s u = record s { aux = u }

  -- the state with other gathered items
  abbrev pub with_gathered : Shown U → List Item → Shown U
  with_gathered s xs = record s { gathered = xs }

  -- the name of the reference in an indentation guard
  abbrev pub guard_name : IndentGuard U → GName
  guard_name g = g.state.ghost_name

  -- the name of the reference in a region guard
  abbrev pub depth_name : RegionDepthGuard U → GName
  depth_name g = g.state.ghost_name
