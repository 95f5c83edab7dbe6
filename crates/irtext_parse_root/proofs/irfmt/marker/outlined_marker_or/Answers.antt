use Rattle.std.proofs.Common.{refl, Ok, Err, sym, ◌∙◌, subst}
use Rattle.irtext_tokens.specs.Lists.{Calls}
use Rattle.irtext_tokens.proofs.ListSteps.{called_at, rules_at, unless_met}
use Rattle.irtext_grammar.specs.Readers.Marker.{MarkerOr, marked, unmarked, refused, marker}
use Rattle.irtext_grammar.proofs.Readers.MarkerSteps.{marker_hands, marker_none, marker_whole}
use Rattle.irtext_parse_root.proofs.irfmt.marker.outlined_marker_or.Goals as goal

pub returns-then-take_text-clause-answers : goal.returns-then-take_text-clause-answers
returns-then-take_text-clause-answers g c =
    let m = g.met.S.CharStream in
    let w = marker_whole g.S.CharStream.view g.S.CharStream.at m.view_at m.at_view m.at_at marker c.args.stream.now c.take_text.new.stream c.take_text.result c.take_text.ensures c.if-take_text.true in
    unless_met g.S.CharStream.view g.S.CharStream.at (MarkerOr g.S.CharStream.view g.S.CharStream.at (Calls (λ r. r) g.F.FnMut) c.args.item) (g.S.CharStream.view c.args.stream.now).failed c.args.stream.now _ _ (sym c.has_failed.ensures ∙ c.if-has_failed.false) (marked _ _ w.1 w.2 w.3)

pub returns-then-take_text-clause-kept : goal.returns-then-take_text-clause-kept
returns-then-take_text-clause-kept g c =
    let m = g.met.S.CharStream in
    let w = marker_whole g.S.CharStream.view g.S.CharStream.at m.view_at m.at_view m.at_at marker c.args.stream.now c.take_text.new.stream c.take_text.result c.take_text.ensures c.if-take_text.true in
    marker_hands g.S.CharStream.view g.S.CharStream.at m.view_at m.at_view m.at_at marker c.args.stream.now w.0 c.take_text.new.stream w.1 w.3

pub returns-in-Ok-clause-answers : goal.returns-in-Ok-clause-answers
returns-in-Ok-clause-answers g c =
    let m = g.met.S.CharStream in
    let none = marker_none g.S.CharStream.view g.S.CharStream.at m.view_at m.at_view m.at_at marker c.args.stream.now c.take_text.new.stream c.take_text.result c.take_text.ensures c.if-take_text.false in
    let called : Calls (λ r. r) g.F.FnMut c.args.item c.args.stream.now (Ok c.in-Ok.x) c.item.new.self c.item.new.arg2 = subst (λ z. Calls (λ r. r) g.F.FnMut c.args.item z (Ok c.in-Ok.x) c.item.new.self c.item.new.arg2) none.1 (called_at c.in-Ok.ensures refl) in
    unless_met g.S.CharStream.view g.S.CharStream.at (MarkerOr g.S.CharStream.view g.S.CharStream.at (Calls (λ r. r) g.F.FnMut) c.args.item) (g.S.CharStream.view c.args.stream.now).failed c.args.stream.now _ _ (sym c.has_failed.ensures ∙ c.if-has_failed.false) (unmarked _ _ _ none.0 called)

pub returns-in-Ok-clause-kept : goal.returns-in-Ok-clause-kept
returns-in-Ok-clause-kept g c =
    let m = g.met.S.CharStream in
    let none = marker_none g.S.CharStream.view g.S.CharStream.at m.view_at m.at_view m.at_at marker c.args.stream.now c.take_text.new.stream c.take_text.result c.take_text.ensures c.if-take_text.false in
    let called : Calls (λ r. r) g.F.FnMut c.args.item c.args.stream.now (Ok c.in-Ok.x) c.item.new.self c.item.new.arg2 = subst (λ z. Calls (λ r. r) g.F.FnMut c.args.item z (Ok c.in-Ok.x) c.item.new.self c.item.new.arg2) none.1 (called_at c.in-Ok.ensures refl) in
    rules_at g.S.CharStream.view g.S.CharStream.at c.requires.rules _ _ _ _ _ called

pub returns-clause-answers : goal.returns-clause-answers
returns-clause-answers g c =
    let m = g.met.S.CharStream in
    let none = marker_none g.S.CharStream.view g.S.CharStream.at m.view_at m.at_view m.at_at marker c.args.stream.now c.take_text.new.stream c.take_text.result c.take_text.ensures c.if-take_text.false in
    let called : Calls (λ r. r) g.F.FnMut c.args.item c.args.stream.now (Err c.in-Err.fault) c.item.new.self c.item.new.arg2 = subst (λ z. Calls (λ r. r) g.F.FnMut c.args.item z (Err c.in-Err.fault) c.item.new.self c.item.new.arg2) none.1 (called_at c.in-Err.ensures refl) in
    unless_met g.S.CharStream.view g.S.CharStream.at (MarkerOr g.S.CharStream.view g.S.CharStream.at (Calls (λ r. r) g.F.FnMut) c.args.item) (g.S.CharStream.view c.args.stream.now).failed c.args.stream.now _ _ (sym c.has_failed.ensures ∙ c.if-has_failed.false) (refused _ _ _ none.0 called)

pub returns-clause-kept : goal.returns-clause-kept
returns-clause-kept g c =
    let m = g.met.S.CharStream in
    let none = marker_none g.S.CharStream.view g.S.CharStream.at m.view_at m.at_view m.at_at marker c.args.stream.now c.take_text.new.stream c.take_text.result c.take_text.ensures c.if-take_text.false in
    let called : Calls (λ r. r) g.F.FnMut c.args.item c.args.stream.now (Err c.in-Err.fault) c.item.new.self c.item.new.arg2 = subst (λ z. Calls (λ r. r) g.F.FnMut c.args.item z (Err c.in-Err.fault) c.item.new.self c.item.new.arg2) none.1 (called_at c.in-Err.ensures refl) in
    rules_at g.S.CharStream.view g.S.CharStream.at c.requires.rules _ _ _ _ _ called
