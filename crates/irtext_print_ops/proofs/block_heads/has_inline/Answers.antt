use Rattle.std.proofs.Common.{◌∙◌, not, sym, ap}
use Rattle.irtext_context.specs.Entries.{entries_left}
use Rattle.irtext_grammar.specs.Contexts.Held.{entries_of}
use Rattle.irtext_grammar.specs.Graphs.Graph.{outlined}
use Rattle.irtext_print.specs.Printers.PieceText.{outlining}
use Rattle.irtext_print_ops.specs.Inline.{has_inline}
use Rattle.irtext_print_ops.proofs.BlockTexts.{any_found, any_later}
use Rattle.irtext_print_ops.proofs.block_heads.has_inline.Goals as goal

pub returns-then-not-is_outlined : goal.returns-then-not-is_outlined
returns-then-not-is_outlined g c =
    any_found (λ e. not (outlined (outlining g.A.AttrText.outlined) e.1)) c.in-Some._key.now c.in-Some.attr.now (entries_left c.next.new.self) (entries_left c.loop-key._key-iterator)
    (has_inline g.A.AttrText.outlined (entries_of c.args.attributes.now)) c.in-Some.ensures.steps c.loop-key.invariant (ap not (sym c.is_outlined.ensures ∙ c.if-not-is_outlined.true))

pub loop-key-preserved : goal.loop-key-preserved
loop-key-preserved g c =
    any_later (λ e. not (outlined (outlining g.A.AttrText.outlined) e.1)) c.in-Some._key.now c.in-Some.attr.now (entries_left c.next.new.self) (entries_left c.loop-key._key-iterator)
    (has_inline g.A.AttrText.outlined (entries_of c.args.attributes.now)) c.in-Some.ensures.steps c.loop-key.invariant (ap not (sym c.is_outlined.ensures ∙ c.if-not-is_outlined.false))
