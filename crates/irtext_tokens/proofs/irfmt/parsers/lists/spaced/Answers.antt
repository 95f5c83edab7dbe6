use Rattle.std.proofs.Common.{refl, Ok, Err, sym, ◌∙◌, subst}
use Rattle.irtext_tokens.specs.Lists.{Calls, Spaced, read, refused, refused_after}
use Rattle.irtext_tokens.proofs.ListSteps.{called_at, commits_item, rules_at, unless_met, no_space}
use Rattle.irtext_tokens.proofs.ListRules.{spaced_item_keeps, commits_keeps}
use Rattle.irtext_tokens.proofs.irfmt.parsers.lists.spaced.Goals as goal

pub returns-in-Ok-clause-answers : goal.returns-in-Ok-clause-answers
returns-in-Ok-clause-answers g c =
    let called : Calls (λ r. r) g.F.FnMut c.args.item c.skip_white_space.new.stream (Ok c.in-Ok.x) c.item.new.self c.item.new.arg2 = called_at c.in-Ok.ensures refl in
    unless_met g.S.CharStream.view g.S.CharStream.at (Spaced g.S.CharStream.view g.S.CharStream.at (Calls (λ r. r) g.F.FnMut) c.args.item) (g.S.CharStream.view c.args.stream.now).failed c.args.stream.now _ _ (sym c.has_failed.ensures ∙ c.if-has_failed.false) (read _ _ _ _ _ c.skip_white_space.ensures.is called c.skip_white_space-in-Ok.ensures.is)

pub returns-in-Ok-clause-kept : goal.returns-in-Ok-clause-kept
returns-in-Ok-clause-kept g c =
    let called : Calls (λ r. r) g.F.FnMut c.args.item c.skip_white_space.new.stream (Ok c.in-Ok.x) c.item.new.self c.item.new.arg2 = called_at c.in-Ok.ensures refl in
    spaced_item_keeps g.S.CharStream.view g.S.CharStream.at g.met.S.CharStream.view_at (λ r. r) g.F.FnMut c.requires.rules c.args.item c.args.stream.now (Ok c.in-Ok.x) c.skip_white_space-in-Ok.new.stream (read _ _ _ _ _ c.skip_white_space.ensures.is called c.skip_white_space-in-Ok.ensures.is)

pub returns-then-begun-clause-answers : goal.returns-then-begun-clause-answers
returns-then-begun-clause-answers g c =
    let called : Calls (λ r. r) g.F.FnMut c.args.item c.skip_white_space.new.stream (Err c.in-Err.fault) c.item.new.self c.item.new.arg2 = called_at c.in-Err.ensures refl in
    unless_met g.S.CharStream.view g.S.CharStream.at (Spaced g.S.CharStream.view g.S.CharStream.at (Calls (λ r. r) g.F.FnMut) c.args.item) (g.S.CharStream.view c.args.stream.now).failed c.args.stream.now _ _ (sym c.has_failed.ensures ∙ c.if-has_failed.false) (refused_after _ _ _ _ _ _ (sym c.begins-begun.ensures ∙ c.if-begun.true) c.skip_white_space.ensures.is called (commits_item g.S.CharStream.view g.S.CharStream.at g.met.S.CharStream.at_view (rules_at g.S.CharStream.view g.S.CharStream.at c.requires.rules _ _ _ _ _ called).1 c.commit.ensures))

pub returns-then-begun-clause-kept : goal.returns-then-begun-clause-kept
returns-then-begun-clause-kept g c =
    let called : Calls (λ r. r) g.F.FnMut c.args.item c.skip_white_space.new.stream (Err c.in-Err.fault) c.item.new.self c.item.new.arg2 = called_at c.in-Err.ensures refl in
    spaced_item_keeps g.S.CharStream.view g.S.CharStream.at g.met.S.CharStream.view_at (λ r. r) g.F.FnMut c.requires.rules c.args.item c.args.stream.now (Err c.commit.result) c.commit.new.stream (refused_after _ _ _ _ _ _ (sym c.begins-begun.ensures ∙ c.if-begun.true) c.skip_white_space.ensures.is called (commits_item g.S.CharStream.view g.S.CharStream.at g.met.S.CharStream.at_view (rules_at g.S.CharStream.view g.S.CharStream.at c.requires.rules _ _ _ _ _ called).1 c.commit.ensures))

pub returns-clause-answers : goal.returns-clause-answers
returns-clause-answers g c =
    let m = g.met.S.CharStream in
    let called : Calls (λ r. r) g.F.FnMut c.args.item c.skip_white_space.new.stream (Err c.in-Err.fault) c.item.new.self c.item.new.arg2 = called_at c.in-Err.ensures refl in
    let stays = no_space g.S.CharStream.view g.S.CharStream.at m.view_at m.at_view m.at_at c.args.stream.now c.skip_white_space.new.stream (sym c.begins-begun.ensures ∙ c.if-begun.false) c.skip_white_space.ensures in
    unless_met g.S.CharStream.view g.S.CharStream.at (Spaced g.S.CharStream.view g.S.CharStream.at (Calls (λ r. r) g.F.FnMut) c.args.item) (g.S.CharStream.view c.args.stream.now).failed c.args.stream.now _ _ (sym c.has_failed.ensures ∙ c.if-has_failed.false) (refused _ _ _ (sym c.begins-begun.ensures ∙ c.if-begun.false) (subst (λ z. Calls (λ r. r) g.F.FnMut c.args.item z (Err c.in-Err.fault) c.item.new.self c.item.new.arg2) stays called))

pub returns-clause-kept : goal.returns-clause-kept
returns-clause-kept g c =
    let m = g.met.S.CharStream in
    let called : Calls (λ r. r) g.F.FnMut c.args.item c.skip_white_space.new.stream (Err c.in-Err.fault) c.item.new.self c.item.new.arg2 = called_at c.in-Err.ensures refl in
    let stays = no_space g.S.CharStream.view g.S.CharStream.at m.view_at m.at_view m.at_at c.args.stream.now c.skip_white_space.new.stream (sym c.begins-begun.ensures ∙ c.if-begun.false) c.skip_white_space.ensures in
    spaced_item_keeps g.S.CharStream.view g.S.CharStream.at g.met.S.CharStream.view_at (λ r. r) g.F.FnMut c.requires.rules c.args.item c.args.stream.now (Err c.in-Err.fault) c.item.new.arg2 (refused _ _ _ (sym c.begins-begun.ensures ∙ c.if-begun.false) (subst (λ z. Calls (λ r. r) g.F.FnMut c.args.item z (Err c.in-Err.fault) c.item.new.self c.item.new.arg2) stays called))

pub returns-then-has_failed-clause-kept : goal.returns-then-has_failed-clause-kept
returns-then-has_failed-clause-kept g c = commits_keeps g.S.CharStream.view g.S.CharStream.at g.met.S.CharStream.view_at (Unit {0}) _ _ c.args.stream.now c.args.stream.now c.refuse.result c.refuse.new.stream c.refuse.ensures
