use Rattle.std.proofs.Common.{true, sym, subst, ◌∙◌, refl}
use Rattle.irtext_tokens.specs.AttrTexts.{attr_at}
use Rattle.irtext_tokens.proofs.Exits.{propagated}
use Rattle.irtext_parse_section.proofs.OnlyPaths.{only_none, only_more}
use Rattle.irtext_parse_section.specs.Entries.{nothing, one_noted, EntriesSoFar}
use Rattle.irtext_parse_section.proofs.LoopSteps.{so_far_none, all_entries, entries_refused, first_so_far, only_entry}
use Rattle.irtext_parse_section.proofs.entries.entries_parse.Goals as goal

pub returns-then-not-next_is-clause-only : goal.returns-then-not-next_is-clause-only
returns-then-not-next_is-clause-only g c = only_none c.args.s.now.state

pub returns-then-not-next_is-clause-read : goal.returns-then-not-next_is-clause-read
returns-then-not-next_is-clause-read g c =
    let s = c.args.s.now in
    all_entries (attr_at g.A.IrText.reading) s s nothing (so_far_none (attr_at g.A.IrText.reading) s c.requires.fine) _ refl refl (sym c.next_is.ensures ∙ c.if-not-next_is.true)

pub returns-in_err-first-clause-read : goal.returns-in_err-first-clause-read
returns-in_err-first-clause-read g c =
    let s = c.args.s.now in
    rw (propagated c.from_residual.result c.from_residual.ensures.1) (entries_refused (attr_at g.A.IrText.reading) s s nothing (so_far_none (attr_at g.A.IrText.reading) s c.requires.fine) (sym c.next_is.ensures ∙ c.if-not-next_is.false) c.entry_parse.new.s.state.ctx.now.paths c.in_err-first.ensures.read)

pub returns-then-next_is-clause-only : goal.returns-then-next_is-clause-only
returns-then-next_is-clause-only g c = only_more c.in_ok-first.ensures.only c.first_and_more.ensures.only

pub returns-then-next_is-clause-read : goal.returns-then-next_is-clause-read
returns-then-next_is-clause-read g c =
    let s = c.args.s.now in
    let e = c.in_ok-first.ensures in
    c.first_and_more.ensures.read s (first_so_far (attr_at g.A.IrText.reading) s c.entry_parse.new.s c.in_ok-first.first c.skip_white_space.new.stream c.requires.fine (sym c.next_is.ensures ∙ c.if-not-next_is.false) e.read c.skip_white_space.ensures e.only.rest e.only.marks e.only.adds e.paths)

pub returns-in-OfItem-clause-read : goal.returns-in-OfItem-clause-read
returns-in-OfItem-clause-read g c =
    let s = c.args.s.now in
    let e = c.in_ok-first.ensures in
    only_entry (attr_at g.A.IrText.reading) s _ c.in_ok-first.first _ _ c.in-OfItem.is
    (first_so_far (attr_at g.A.IrText.reading) s c.entry_parse.new.s c.in_ok-first.first c.skip_white_space.new.stream c.requires.fine (sym c.next_is.ensures ∙ c.if-not-next_is.false) e.read c.skip_white_space.ensures e.only.rest e.only.marks e.only.adds e.paths)
    (sym c.next_is-2.ensures ∙ c.if-next_is.false)

pub returns-in-OfOnce-clause-only : goal.returns-in-OfOnce-clause-only
returns-in-OfOnce-clause-only g c = only_more c.in_ok-first.ensures.only c.first_and_more-in-OfOnce.ensures.only

pub returns-in-OfOnce-clause-read : goal.returns-in-OfOnce-clause-read
returns-in-OfOnce-clause-read g c =
    let s = c.args.s.now in
    let e = c.in_ok-first.ensures in
    c.first_and_more-in-OfOnce.ensures.read s (subst (λ f. EntriesSoFar (attr_at g.A.IrText.reading) s (record c.entry_parse.new.s { stream = c.skip_white_space.new.stream }) (one_noted f)) c.in-OfOnce.is
    (first_so_far (attr_at g.A.IrText.reading) s c.entry_parse.new.s c.in_ok-first.first c.skip_white_space.new.stream c.requires.fine (sym c.next_is.ensures ∙ c.if-not-next_is.false) e.read c.skip_white_space.ensures e.only.rest e.only.marks e.only.adds e.paths))
