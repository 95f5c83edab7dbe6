use Rattle.std.proofs.Common.{true}
use Rattle.std.specs.List.{FoldsTo}
use Rattle.irtext_print_ir.specs.Printers.Items.{WritesItem, PrintsItem}
use Rattle.irtext_print_ir.proofs.printable.items.fmt_iter.Given as goal

-- the items so far are written
abbrev pub invariant-loop-item : goal.invariant-loop-item
invariant-loop-item g l =
    FoldsTo (WritesItem (PrintsItem g.I.Item.Printable.prints g.I.Item.Printable.gives l.ctx) l.sep) (record { first = true; state = l.fn.state; text = l.fn.f }) l.yielded (record { first = l.first; state = l.state; text = l.f })
