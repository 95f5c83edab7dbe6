use Rattle.std.proofs.Common.{true, sym, ap, ◌∙◌}
use Rattle.irtext_parse_state.specs.States.{marks_of}
use Rattle.irtext_tokens.specs.AttrTexts.{attr_at}
use Rattle.irtext_parse_section.specs.OnlyPaths.{may_follow}
use Rattle.irtext_parse_section.proofs.OnlyPaths.{only_none, only_more}
use Rattle.irtext_parse_section.specs.Entries.{noted}
use Rattle.irtext_parse_section.specs.Said.{rules_of}
use Rattle.irtext_parse_locations.proofs.ApplySteps.{unless_err}
use Rattle.irtext_parse_section.proofs.LoopSteps.{all_entries, entries_refused, entries_ran_out, entries_shorter, entries_more, ran_out_so_far}
use Rattle.irtext_parse_section.proofs.entries.more_parse.Goals as goal

pub loop-s-init : goal.loop-s-init
loop-s-init g c = (only_none c.args.s.now.state, λ old h. h)

pub loop-s-preserved : goal.loop-s-preserved
loop-s-preserved g c =
    let i = c.loop-s.invariant in
    let e = c.in-Ok.ensures in (
      only_more i.0 e.only,
      λ old h. entries_more (attr_at g.A.IrText.reading) old c.loop-s.s (noted c.loop-s.entries) (i.1 old h) (sym c.next_is.ensures ∙ c.loop-s-test.true) c.entry_parse.new.s c.in-Ok.entry e.read c.skip_white_space.new.stream c.skip_white_space.ensures
          (noted c.entry_noted.new.entries) e.only.rest e.only.marks e.only.adds e.paths (unless_err c.entry_noted.result (sym c.is_err.ensures.value ∙ c.if-is_err.false) c.entry_noted.ensures),
    )

pub loop-s-smaller : goal.loop-s-smaller
loop-s-smaller g c =
    let marks = marks_of c.loop-s.s.state in
    entries_shorter (attr_at g.A.IrText.reading) (may_follow marks c.loop-s.entries.seen) (rules_of marks) c.in-Ok.ensures.read c.skip_white_space.ensures

pub returns-in-Err-clause-only : goal.returns-in-Err-clause-only
returns-in-Err-clause-only g c = only_more c.loop-s.invariant.0 c.in-Err.ensures.only

pub returns-in-Err-clause-read : goal.returns-in-Err-clause-read
returns-in-Err-clause-read g c = λ old h.
    entries_refused (attr_at g.A.IrText.reading) old c.loop-s.s (noted c.loop-s.entries) (c.loop-s.invariant.1 old h) (sym c.next_is.ensures ∙ c.loop-s-test.true) c.entry_parse.new.s.state.ctx.now.paths c.in-Err.ensures.read

pub returns-then-is_err-clause-only : goal.returns-then-is_err-clause-only
returns-then-is_err-clause-only g c = only_more c.loop-s.invariant.0 c.in-Ok.ensures.only

pub returns-then-is_err-clause-read : goal.returns-then-is_err-clause-read
returns-then-is_err-clause-read g c = λ old h.
    entries_ran_out (attr_at g.A.IrText.reading) old c.loop-s.s (noted c.loop-s.entries) (c.loop-s.invariant.1 old h) (sym c.next_is.ensures ∙ c.loop-s-test.true) c.entry_parse.new.s c.in-Ok.entry c.in-Ok.ensures.read c.out_of_memory.ensures

pub returns-in-Ok-new-clause-only : goal.returns-in-Ok-new-clause-only
returns-in-Ok-new-clause-only g c = c.loop-s.invariant.0

pub returns-in-Ok-new-clause-read : goal.returns-in-Ok-new-clause-read
returns-in-Ok-new-clause-read g c = λ old h.
    all_entries (attr_at g.A.IrText.reading) old c.loop-s.s (noted c.loop-s.entries) (c.loop-s.invariant.1 old h) _ (ap (λ n. n.items.items) c.in-Ok-new.ensures.ok) (ap (λ n. n.once.entries) c.in-Ok-new.ensures.ok) (sym c.next_is.ensures ∙ c.loop-s-test.false)

pub returns-clause-only : goal.returns-clause-only
returns-clause-only g c = c.loop-s.invariant.0

pub returns-clause-read : goal.returns-clause-read
returns-clause-read g c = λ old h.
    ran_out_so_far (attr_at g.A.IrText.reading) old c.loop-s.s (noted c.loop-s.entries) (c.loop-s.invariant.1 old h) c.out_of_memory-in-Err-new.ensures
