use Rattle.std.proofs.Common.{◌∙◌, sym, ap, subst, length, slice_get}
use Rattle.std.specs.Prelude.{IfSome}
use Rattle.irtext_grammar.specs.Contexts.Formats.{isolated}
use Rattle.irtext_grammar.specs.Contexts.Held.{whole}
use Rattle.irtext_grammar.specs.Reached.{steps_in}
use Rattle.irtext_parse_pieces.specs.Coming.{IsStep}
use Rattle.irtext_parse_root.proofs.Stopping.{operation_there}
use Rattle.irtext_parse_root.proofs.steps.operation_step.Goals as goal

pub coming_here-next-requires : goal.coming_here-next-requires
coming_here-next-requires g c =
    let there = operation_there (whole c.args.s.now.stream) c.args.s.now.state.ctx.now c.args.names.now c.args.frames.now c.args.begun c.requires.ready.here in
    let dialects = c.args.s.now.state.ctx.now.dialects in
    record {
      counted = there.1.counted ∙ ap (λ i. length (steps_in dialects i)) (sym there.1.id);
      coming = subst (λ i. IfSome c.args.begun.coming (λ next. IsStep next (slice_get (steps_in dialects i) c.args.begun.step))) (sym there.1.id) there.1.coming;
      isolated = there.1.is_isolated ∙ ap (isolated dialects) (sym there.1.id);
    }
