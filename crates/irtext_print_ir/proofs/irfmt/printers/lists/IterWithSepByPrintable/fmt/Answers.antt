use Rattle.std.proofs.Common.{inr, refl}
use Rattle.std.proofs.lemmas.Fn.{FoldsTo-push}
use Rattle.irtext_print_ir.proofs.Printers.Calls.{FnWritesItem-at, FnRefusesItem-at}
use Rattle.irtext_print_ir.proofs.Printers.Refused.{always, at_separator, at_item}
use Rattle.irtext_print_ir.proofs.irfmt.printers.lists.IterWithSepByPrintable.fmt.Goals as goal

pub loop-item-preserved : goal.loop-item-preserved
loop-item-preserved g c =
    FoldsTo-push _ _ _ _ _ _ c.loop-item.invariant (record {
      between = c.fmt_between.new.f;
      separated = c.in_ok-fmt_between.ensures.text;
      called = FnWritesItem-at g.F.Fn _ _ _ _ _ _ _ _ _ _ c.print_item.ensures c.in_ok-print_item.was c.fmt_between.ensures.state;
      next = refl;
    })

pub returns-in_err-fmt_between-clause-refused : goal.returns-in_err-fmt_between-clause-refused
returns-in_err-fmt_between-clause-refused g c =
    always c.from_residual-in_err-fmt_between.result (inr (
      c.in_ok-items.items,
      c.in_ok-items.ensures.cases,
      at_separator g.I.Iterator.next_gives _ _ _
          c.loop-item.yielded _ c.into_iter-item-iterator.ensures.into_iter_gives c.loop-item.yielded_by c.in-Some.ensures.steps c.loop-item.invariant c.in_err-fmt_between.ensures.refused,
    ))

pub returns-in_err-print_item-clause-refused : goal.returns-in_err-print_item-clause-refused
returns-in_err-print_item-clause-refused g c =
    always c.from_residual-in_err-print_item.result (inr (
      c.in_ok-items.items,
      c.in_ok-items.ensures.cases,
      at_item g.I.Iterator.next_gives _ _ _
          c.loop-item.yielded _ c.into_iter-item-iterator.ensures.into_iter_gives c.loop-item.yielded_by c.in-Some.ensures.steps c.loop-item.invariant c.in_ok-fmt_between.ensures.text c.fmt_between.ensures.state
          (FnRefusesItem-at g.F.Fn _ _ _ _ _ _ _ _ _ _ c.print_item.ensures c.in_err-print_item.was refl),
    ))
