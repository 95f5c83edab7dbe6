use Rattle.std.proofs.Common.{Ok, sym, ◌∙◌}
use Rattle.irtext_tokens.specs.Lists.{Calls, Delimited, no_left, bad_inside, no_right, closed, Opens}
use Rattle.irtext_tokens.proofs.Exits.{propagated}
use Rattle.irtext_tokens.proofs.ListSteps.{unless_met}
use Rattle.irtext_tokens.proofs.ListRules.{delimited_list_keeps, commits_keeps, passes_keeps}
use Rattle.irtext_tokens.proofs.irfmt.parsers.lists.delimited_list_parser.Goals as goal

pub returns-then-not-next_is-clause-answers : goal.returns-then-not-next_is-clause-answers
returns-then-not-next_is-clause-answers g c = unless_met g.S.CharStream.view g.S.CharStream.at (Delimited g.S.CharStream.view g.S.CharStream.at (Calls (λ r. r) g.F.FnMut) c.args.left c.args.right c.args.sep c.args.item) (g.S.CharStream.view c.args.stream.now).failed c.args.stream.now _ _ (sym c.has_failed.ensures ∙ c.if-has_failed.false) (no_left _ _ _ _ (sym c.next_is.ensures ∙ c.if-not-next_is.true) c.unexpected.ensures)

pub returns-in_err-found-clause-answers : goal.returns-in_err-found-clause-answers
returns-in_err-found-clause-answers g c =
    let opens : Opens g.S.CharStream.view g.S.CharStream.at c.args.left c.args.stream.now c.skip_white_space.new.stream = record { mid = c.take.new.self; begins_so = sym c.next_is.ensures ∙ c.if-not-next_is.false; taken = c.take.ensures.after; skips = c.skip_white_space.ensures.is } in
    rw (propagated c.from_residual.result c.from_residual.ensures.1) (unless_met g.S.CharStream.view g.S.CharStream.at (Delimited g.S.CharStream.view g.S.CharStream.at (Calls (λ r. r) g.F.FnMut) c.args.left c.args.right c.args.sep c.args.item) (g.S.CharStream.view c.args.stream.now).failed c.args.stream.now _ _ (sym c.has_failed.ensures ∙ c.if-has_failed.false) (bad_inside _ _ _ _ _ opens c.in_err-found.ensures))

pub returns-in_err-found-clause-kept : goal.returns-in_err-found-clause-kept
returns-in_err-found-clause-kept g c =
    let opens : Opens g.S.CharStream.view g.S.CharStream.at c.args.left c.args.stream.now c.skip_white_space.new.stream = record { mid = c.take.new.self; begins_so = sym c.next_is.ensures ∙ c.if-not-next_is.false; taken = c.take.ensures.after; skips = c.skip_white_space.ensures.is } in
    delimited_list_keeps g.S.CharStream.view g.S.CharStream.at g.met.S.CharStream.view_at (λ r. r) g.F.FnMut c.requires.rules c.args.left c.args.right c.args.sep c.args.item c.args.stream.now c.from_residual.result c.separated.new.stream (rw (propagated c.from_residual.result c.from_residual.ensures.1) (bad_inside _ _ _ _ _ opens c.in_err-found.ensures))

pub returns-then-not-next_is-2-clause-answers : goal.returns-then-not-next_is-2-clause-answers
returns-then-not-next_is-2-clause-answers g c =
    let opens : Opens g.S.CharStream.view g.S.CharStream.at c.args.left c.args.stream.now c.skip_white_space.new.stream = record { mid = c.take.new.self; begins_so = sym c.next_is.ensures ∙ c.if-not-next_is.false; taken = c.take.ensures.after; skips = c.skip_white_space.ensures.is } in
    unless_met g.S.CharStream.view g.S.CharStream.at (Delimited g.S.CharStream.view g.S.CharStream.at (Calls (λ r. r) g.F.FnMut) c.args.left c.args.right c.args.sep c.args.item) (g.S.CharStream.view c.args.stream.now).failed c.args.stream.now _ _ (sym c.has_failed.ensures ∙ c.if-has_failed.false) (no_right _ _ _ _ _ _ _ opens c.in_ok-found.ensures (sym c.next_is-2.ensures ∙ c.if-not-next_is-2.true) c.commit_unexpected.ensures)

pub returns-clause-answers : goal.returns-clause-answers
returns-clause-answers g c =
    let opens : Opens g.S.CharStream.view g.S.CharStream.at c.args.left c.args.stream.now c.skip_white_space.new.stream = record { mid = c.take.new.self; begins_so = sym c.next_is.ensures ∙ c.if-not-next_is.false; taken = c.take.ensures.after; skips = c.skip_white_space.ensures.is } in
    unless_met g.S.CharStream.view g.S.CharStream.at (Delimited g.S.CharStream.view g.S.CharStream.at (Calls (λ r. r) g.F.FnMut) c.args.left c.args.right c.args.sep c.args.item) (g.S.CharStream.view c.args.stream.now).failed c.args.stream.now _ _ (sym c.has_failed.ensures ∙ c.if-has_failed.false) (closed _ _ _ _ _ _ opens c.in_ok-found.ensures (sym c.next_is-2.ensures ∙ c.if-not-next_is-2.false) c.take-2.ensures.after)

pub returns-clause-kept : goal.returns-clause-kept
returns-clause-kept g c =
    let opens : Opens g.S.CharStream.view g.S.CharStream.at c.args.left c.args.stream.now c.skip_white_space.new.stream = record { mid = c.take.new.self; begins_so = sym c.next_is.ensures ∙ c.if-not-next_is.false; taken = c.take.ensures.after; skips = c.skip_white_space.ensures.is } in
    delimited_list_keeps g.S.CharStream.view g.S.CharStream.at g.met.S.CharStream.view_at (λ r. r) g.F.FnMut c.requires.rules c.args.left c.args.right c.args.sep c.args.item c.args.stream.now (Ok c.in_ok-found.found) c.take-2.new.self (closed _ _ _ _ _ _ opens c.in_ok-found.ensures (sym c.next_is-2.ensures ∙ c.if-not-next_is-2.false) c.take-2.ensures.after)

pub returns-then-has_failed-clause-kept : goal.returns-then-has_failed-clause-kept
returns-then-has_failed-clause-kept g c = commits_keeps g.S.CharStream.view g.S.CharStream.at g.met.S.CharStream.view_at (Unit {0}) _ _ c.args.stream.now c.args.stream.now c.refuse.result c.refuse.new.stream c.refuse.ensures

pub returns-then-not-next_is-clause-kept : goal.returns-then-not-next_is-clause-kept
returns-then-not-next_is-clause-kept g c = passes_keeps g.S.CharStream.view g.S.CharStream.at g.met.S.CharStream.view_at (Unit {0}) _ c.args.stream.now c.unexpected.result c.args.stream.now c.unexpected.ensures

pub returns-then-not-next_is-2-clause-kept : goal.returns-then-not-next_is-2-clause-kept
returns-then-not-next_is-2-clause-kept g c = commits_keeps g.S.CharStream.view g.S.CharStream.at g.met.S.CharStream.view_at (Unit {0}) _ _ c.args.stream.now c.separated.new.stream c.commit_unexpected.result c.commit_unexpected.new.stream c.commit_unexpected.ensures
