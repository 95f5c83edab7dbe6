use Rattle.std.proofs.Common.{true, Ok}
use Rattle.std.specs.List.{FoldsTo}
use Rattle.irtext_print_ir.specs.Printers.Calls.{FnWritesItem}
use Rattle.irtext_print_ir.specs.Printers.Items.{WritesItem}
use Rattle.irtext_print_ir.proofs.irfmt.printers.lists.IterWithSepByPrintable.fmt.Given as goal

-- the items so far are written
abbrev pub invariant-loop-item : goal.invariant-loop-item
invariant-loop-item g l =
    FoldsTo (WritesItem (FnWritesItem g.F.Fn l.self.print_item (Ok tt) l.ctx) l.self.separator) (record { first = true; state = l.fn.state; text = l.fn.f }) l.yielded (record { first = l.first; state = l.state; text = l.f })
