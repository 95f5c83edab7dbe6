use Rattle.std.proofs.Common.{◌++◌, ◌∷◌, ◌∙◌, sym, ap, arith, [], Some, append_assoc, append-nil}
use Rattle.irtext_context.specs.Context.{known}
use Rattle.irtext_context.proofs.Drops.{nothing}
use Rattle.irtext_context.proofs.base.types.many_known_types.Goals as goal

pub loop-of_type-preserved : goal.loop-of_type-preserved
loop-of_type-preserved g c =
    let all = c.loop-of_type.all.items in
    let left = c.next.new.self.rest.items in
    record {
      types = ap (λ xs. xs ++ known left) c.in_ok-push.ensures.items ∙ append_assoc all (Some c.in-Some.of_type ∷ []) (known left)
          ∙ ap (λ ts. all ++ known ts) (sym c.in-Some.ensures.steps.0) ∙ c.loop-of_type.invariant.types;
    }

pub returns : goal.returns
returns g c =
    let l = c.loop-of_type in
    let none = nothing l.of_type-iterator.rest.items (omega (arith, c.in-None.ensures.steps.0, l.of_type-iterator.rest.ok.0)) in
    sym (append-nil l.all.items) ∙ ap (λ ts. l.all.items ++ known ts) (sym none) ∙ l.invariant.types
