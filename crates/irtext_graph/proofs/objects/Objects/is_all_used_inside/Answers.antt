use Rattle.std.proofs.Common.{refl, sym, subst}
use Rattle.irtext_graph.specs.declared.object.Defined.TheVariants.{OfValue, OfBlock}
use Rattle.irtext_graph.specs.declared.object.Value.TheVariants.{Result, Argument}
use Rattle.irtext_graph.specs.Objects.{Lives}
use Rattle.irtext_graph.specs.Erasing.{IsAllUsedInside}
use Rattle.irtext_graph.proofs.Sites.{all_results, all_arguments, all_none, block_head}
use Rattle.irtext_graph.proofs.objects.Objects.is_all_used_inside.Goals as goal

pub are_values_used_inside-requires-clause-alive : goal.are_values_used_inside-requires-clause-alive
are_values_used_inside-requires-clause-alive g c = subst (Lives c.args.self.now) c.in-TheOperation.is c.requires.lives

pub is_used_inside-requires-clause-alive : goal.is_used_inside-requires-clause-alive
is_used_inside-requires-clause-alive g c = block_head c.args.self.now c.in-TheBlock.b (subst (Lives c.args.self.now) c.in-TheBlock.is c.requires.lives)

pub are_values_used_inside-requires-in-TheBlock-clause-alive : goal.are_values_used_inside-requires-in-TheBlock-clause-alive
are_values_used_inside-requires-in-TheBlock-clause-alive g c = subst (Lives c.args.self.now) c.in-TheBlock.is c.requires.lives

pub returns-in-TheOperation : goal.returns-in-TheOperation
returns-in-TheOperation g c =
    let x = c.args.self.now in
    let e = c.are_values_used_inside.ensures in (
      λ t. subst (IsAllUsedInside x c.args.o) (sym c.in-TheOperation.is) (all_results x c.args.o c.in-TheOperation.p (e.0 t)),
      λ all. e.1 (λ i. all.all (OfValue (Result c.in-TheOperation.p i)) (sym c.in-TheOperation.is)),
    )

pub returns-then-not-is_used_inside : goal.returns-then-not-is_used_inside
returns-then-not-is_used_inside g c = (
  λ t. absurd (cc),
  λ all. absurd (let yes = c.is_used_inside.ensures.1 (all.all (OfBlock c.in-TheBlock.b) (sym c.in-TheBlock.is)) in let no = c.if-not-is_used_inside.true in cc),
)

pub returns-else-not-is_used_inside : goal.returns-else-not-is_used_inside
returns-else-not-is_used_inside g c =
    let x = c.args.self.now in
    let e = c.are_values_used_inside-in-TheBlock.ensures in (
      λ t. subst (IsAllUsedInside x c.args.o) (sym c.in-TheBlock.is)
          (all_arguments x c.args.o c.in-TheBlock.b (c.is_used_inside.ensures.0 c.if-not-is_used_inside.false) (e.0 t)),
      λ all. e.1 (λ i. all.all (OfValue (Argument c.in-TheBlock.b i)) (sym c.in-TheBlock.is)),
    )

pub returns-in-TheRegion : goal.returns-in-TheRegion
returns-in-TheRegion g c = (λ _. subst (IsAllUsedInside c.args.self.now c.args.o) (sym c.in-TheRegion.is) (all_none c.args.self.now c.args.o _), λ _. refl)
