use Rattle.std.proofs.Common.{[], ◌∷◌, ◌++◌, Some, refl, subst}
use Rattle.std.proofs.iter.Next.{Yields-more}
use Rattle.std.proofs.lemmas.Fn.{FoldsTo-push}
use Rattle.std.proofs.lemmas.List.Elements.{All-pop}
use Rattle.std.specs.Iterator.{Yields}
use Rattle.irtext_print_ir.specs.Printers.Items.{PrintsItem}
use Rattle.irtext_print_ir.proofs.Printers.Refused.{always, at_separator, at_item}
use Rattle.irtext_print_ir.proofs.printable.items.fmt_iter.Goals as goal

pub fmt-requires : goal.fmt-requires
fmt-requires g c =
    let xs = c.loop-item.yielded in
    let x = c.in-Some.item in
    let given = Yields-more g.I.Iterator.next_gives c.into_iter-item-iterator.result xs c.loop-item.item-iterator x c.next.new.self c.loop-item.yielded_by c.in-Some.ensures.steps in
    let more = subst (λ i. Yields g.I.Iterator.next_gives i (xs ++ x ∷ []) c.next.new.self) c.into_iter-item-iterator.ensures.into_iter_gives given in
    (All-pop (λ x. g.I.Item.Printable.can_print x c.args.ctx.now) (xs ++ x ∷ []) xs (Some x) refl (c.requires.printable (xs ++ x ∷ []) c.next.new.self more)).1

pub loop-item-preserved : goal.loop-item-preserved
loop-item-preserved g c =
    FoldsTo-push _ _ _ _ _ _ c.loop-item.invariant (record {
      between = c.fmt_between.new.f;
      separated = c.in_ok-fmt_between.ensures.text;
      called = subst (λ s. PrintsItem g.I.Item.Printable.prints g.I.Item.Printable.gives c.args.ctx.now c.in-Some.item s c.fmt_between.new.f c.fmt.new.state c.fmt.new.f) c.fmt_between.ensures.state (record { printed = c.in_ok-fmt.ensures.prints; written = c.in_ok-fmt.ensures.text });
      next = refl;
    })

pub returns-in_err-fmt_between-clause-refused : goal.returns-in_err-fmt_between-clause-refused
returns-in_err-fmt_between-clause-refused g c =
    always c.from_residual.result (at_separator g.I.Iterator.next_gives (PrintsItem g.I.Item.Printable.prints g.I.Item.Printable.gives c.args.ctx.now) (λ x. g.I.Item.Printable.refuses x c.args.ctx.now) c.args.sep
    c.loop-item.yielded _ c.into_iter-item-iterator.ensures.into_iter_gives c.loop-item.yielded_by c.in-Some.ensures.steps c.loop-item.invariant c.in_err-fmt_between.ensures.refused)

pub returns-in_err-fmt-clause-refused : goal.returns-in_err-fmt-clause-refused
returns-in_err-fmt-clause-refused g c =
    always c.from_residual-in_err-fmt.result (at_item g.I.Iterator.next_gives (PrintsItem g.I.Item.Printable.prints g.I.Item.Printable.gives c.args.ctx.now) (λ x. g.I.Item.Printable.refuses x c.args.ctx.now) c.args.sep
    c.loop-item.yielded _ c.into_iter-item-iterator.ensures.into_iter_gives c.loop-item.yielded_by c.in-Some.ensures.steps c.loop-item.invariant c.in_ok-fmt_between.ensures.text c.fmt_between.ensures.state c.in_err-fmt.ensures.refused)
