use Rattle.std.proofs.Common.{◌-◌, inl, inr, sym, subst}
use Rattle.irtext_graph.specs.declared.object.Object.TheVariants.{TheBlock}
use Rattle.irtext_closed.specs.Closed.{isolated_data}
use Rattle.irtext_closed.specs.Closing.{IsScope}
use Rattle.irtext_closed.proofs.Noted.{put_at}
use Rattle.irtext_closed.proofs.scope.note.Goals as goal

pub returns-then-make_place : goal.returns-then-make_place
returns-then-make_place g c = λ i n e.
    let now = c.args.ctx.now in
    elim (put_at c.make_place.new.noted.items (c.place.result - 1) i (record { block = c.in-TheBlock.block; scope = c.scope_of-scope.result }) n e) [
      | inl same ↦ subst (λ z. IsScope (isolated_data now.dialects) now.graph (TheBlock z.block) z.scope) (sym same) c.scope_of-scope.ensures
      | inr before ↦ c.requires.known i n (c.make_place.ensures.kept i n before)
    ]
