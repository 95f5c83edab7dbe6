use Rattle.std.proofs.Common.{◌≡◌, ◌∙◌, sym, ap, subst}
use Rattle.std.specs.Prelude.{is_some, option_copied}
use Rattle.irtext_tokens.specs.AttrTexts.{attr_at}
use Rattle.irtext_parse_state.specs.States.{marks_of}
use Rattle.irtext_parse_state.specs.declared.parsable.state.State.{State}
use Rattle.irtext_tokens.proofs.Exits.{propagated}
use Rattle.irtext_parse_section.specs.OnlyPaths.{AddsOnlyPaths, may_follow}
use Rattle.irtext_parse_section.proofs.OnlyPaths.{only_none}
use Rattle.irtext_parse_section.specs.Entries.{earlier_indices}
use Rattle.irtext_parse_section.proofs.EntrySteps.{entry_unread, once_there, once_refused, item_there, item_refused}
use Rattle.irtext_parse_section.proofs.entry.entry_parse.Goals as goal

-- no path was added before the attribute or the location
unchanged : {T A U : Type 0} {old new : State T A U} → new ≡ old → AddsOnlyPaths old new
unchanged {old = old} e = subst (λ s. AddsOnlyPaths old s) (sym e) (only_none old)

pub returns-in_err-head-clause-only : goal.returns-in_err-head-clause-only
returns-in_err-head-clause-only g c = unchanged c.in_err-head.ensures.state

pub returns-in_err-head-clause-read : goal.returns-in_err-head-clause-read
returns-in_err-head-clause-read g c =
    let marks = marks_of c.args.s.now.state in
    rw (propagated c.from_residual.result c.from_residual.ensures.1) (entry_unread (attr_at g.A.IrText.reading) (may_follow marks (earlier_indices (option_copied c.args.seen))) marks c.in_err-head.ensures.read)

pub returns-in_err-attr-clause-only : goal.returns-in_err-attr-clause-only
returns-in_err-attr-clause-only g c = unchanged c.in_ok-head.ensures.state

pub returns-in_err-attr-clause-read : goal.returns-in_err-attr-clause-read
returns-in_err-attr-clause-read g c =
    let marks = marks_of c.args.s.now.state in
    let h = c.in_ok-head.ensures in
    rw (propagated c.from_residual-in_err-attr.result c.from_residual-in_err-attr.ensures.1) (once_refused (attr_at g.A.IrText.reading) (may_follow marks (earlier_indices (option_copied c.args.seen))) marks h.read (sym h.on.known ∙ ap is_some c.in_default.is) c.in_err-attr.ensures)

pub returns-in_default-clause-only : goal.returns-in_default-clause-only
returns-in_default-clause-only g c = unchanged c.in_ok-head.ensures.state

pub returns-in_default-clause-read : goal.returns-in_default-clause-read
returns-in_default-clause-read g c =
    let marks = marks_of c.args.s.now.state in
    let h = c.in_ok-head.ensures in
    once_there (attr_at g.A.IrText.reading) (may_follow marks (earlier_indices (option_copied c.args.seen))) marks h.read c.head_parse.new.s.state.ctx.now.paths c.in_ok-attr.attr (sym h.on.known ∙ ap is_some c.in_default.is) c.in_ok-attr.ensures

pub returns-in_err-given-clause-read : goal.returns-in_err-given-clause-read
returns-in_err-given-clause-read g c =
    let marks = marks_of c.args.s.now.state in
    let h = c.in_ok-head.ensures in
    let e = ap is_some c.in-Some.is in
    rw (propagated c.from_residual-in_err-given.result c.from_residual-in_err-given.ensures.1) (item_refused (attr_at g.A.IrText.reading) (may_follow marks (earlier_indices (option_copied c.args.seen))) marks h.read c.in-Some.item (h.on.carries e ∙ c.in-Some.is) c.given_parse.new.ctx.paths (sym h.on.known ∙ e) (rw c.is_block.ensures at c.in_err-given.ensures.read))

pub returns-clause-read : goal.returns-clause-read
returns-clause-read g c =
    let marks = marks_of c.args.s.now.state in
    let h = c.in_ok-head.ensures in
    let e = ap is_some c.in-Some.is in
    item_there (attr_at g.A.IrText.reading) (may_follow marks (earlier_indices (option_copied c.args.seen))) marks h.read c.in-Some.item (h.on.carries e ∙ c.in-Some.is) c.given_parse.new.ctx.paths c.in_ok-given.given (sym h.on.known ∙ e) (rw c.is_block.ensures at c.in_ok-given.ensures.read)
