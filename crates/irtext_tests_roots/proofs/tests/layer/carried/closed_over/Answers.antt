use Rattle.std.proofs.Common.{◌≡◌, Option, Some, None, option_map, IsSome, Result, Ok, Err, refl, sym, subst}
use Rattle.std.specs.Prelude.{IfOk}
use Rattle.irtext_context.specs.Context.{operation}
use Rattle.irtext_graph.specs.declared.object.Object.TheVariants.{TheOperation}
use Rattle.irtext_grammar.specs.Contexts.Nested.{printing_over}
use Rattle.irtext_grammar.specs.Grammar.Marked.{AllShown}
use Rattle.irtext_grammar.specs.Graphs.Graph.{written}
use Rattle.irtext_print.specs.Printers.PrintedOperation.{levels}
use Rattle.irtext_tests_roots.proofs.tests.layer.carried.closed_over.Goals as goal

-- what is seen of an operation that is there
there : {X Y : Type 0} (f : X → Y) (o : Option X) → IsSome o → (y : Y) × (option_map f o ≡ Some y)
there f None h = absurd (cc)
there f (Some x) h = (f x, refl)

-- what follows of a success
ok_as : {X E : Type 0} (P Q : X → Type 0) → ((x : X) → P x → Q x) → (r : Result X E) → IfOk r P → IfOk r Q
ok_as P Q as-q (Ok x) h = as-q x h
ok_as P Q as-q (Err e) h = tt

pub printed_and_read-requires-clause-live : goal.printed_and_read-requires-clause-live
printed_and_read-requires-clause-live g c = c.requires.closed.plain (TheOperation c.args.op) (0, refl)

pub returns-clause-over : goal.returns-clause-over
returns-clause-over g c =
    let C = printing_over c.args.ctx.now g.A.AttrText.outlined g.A.AttrText.print_once g.A.PartialEq.eq in
    let seen = there _ (operation c.args.ctx.now c.args.op) (c.requires.closed.plain (TheOperation c.args.op) (0, refl)) in
    let shown : AllShown (written C (levels c.args.layout.now.limit) seen.0) = subst (λ l. AllShown (written C (levels l) seen.0)) (sym c.requires.unlimited) (c.limit_that_shows_all.ensures.unlimited C seen.0) in
    ok_as _ _ (λ q back. record { graph = seen.0; sees = seen.1; back = back }) c.printed_and_read.result (c.printed_and_read.ensures.back c.requires.closed seen.0 seen.1 shown)

pub returns-clause-behind : goal.returns-clause-behind
returns-clause-behind g c =
    let C = printing_over c.args.ctx.now g.A.AttrText.outlined g.A.AttrText.print_once g.A.PartialEq.eq in
    let seen = there _ (operation c.args.ctx.now c.args.op) (c.requires.closed.plain (TheOperation c.args.op) (0, refl)) in
    let shown : AllShown (written C (levels c.args.layout.now.limit) seen.0) = subst (λ l. AllShown (written C (levels l) seen.0)) (sym c.requires.unlimited) (c.limit_that_shows_all.ensures.unlimited C seen.0) in
    c.printed_and_read.ensures.refused c.requires.closed seen.0 seen.1 shown
