use Rattle.std.proofs.Common.{◌∙◌, sym, rules}
use Rattle.irtext_context.specs.Entries.{entries_left}
use Rattle.irtext_print.proofs.Givens.{outlined_found, outlined_passed}
use Rattle.irtext_print.proofs.given.next_outlined.Goals as goal

pub returns-then-is_outlined : goal.returns-then-is_outlined
returns-then-is_outlined g c =
    c.loop-key.invariant.same
    ∙ outlined_found g.A.AttrText.outlined c.in-Some.key.now c.in-Some.attr.now (entries_left c.next.new.self) (entries_left c.loop-key.entries) c.in-Some.ensures.steps (sym c.is_outlined.ensures ∙ c.if-is_outlined.true)

pub loop-key-preserved : goal.loop-key-preserved
loop-key-preserved g c = record {
  can = search rules;
  ends = search rules;
  same = c.loop-key.invariant.same
      ∙ outlined_passed g.A.AttrText.outlined c.in-Some.key.now c.in-Some.attr.now (entries_left c.next.new.self) (entries_left c.loop-key.entries) c.in-Some.ensures.steps (sym c.is_outlined.ensures ∙ c.if-is_outlined.false);
}
