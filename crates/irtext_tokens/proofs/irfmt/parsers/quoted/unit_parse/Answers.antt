use Rattle.std.proofs.Common.{◌∙◌, sym, ap, subst, ◌∷◌, []}
use Rattle.irtext_base.specs.Answers.{Takes}
use Rattle.irtext_base.specs.Faults.{fault_of}
use Rattle.irtext_base.proofs.Compose.{takes_fine, takes_same_stream}
use Rattle.irtext_tokens.proofs.QuotedSteps.{two_taken, plain_read, escape_read, no_unit, unescaped, unknown_escape}
use Rattle.irtext_tokens.proofs.SetBack.{set_within}
use Rattle.irtext_tokens.proofs.Steps.{lens}
use Rattle.irtext_tokens.proofs.irfmt.parsers.quoted.unit_parse.Goals as goal

pub returns-in_default-take : goal.returns-in_default-take
returns-in_default-take g c =
    let m = g.met.S.CharStream in
    unescaped g.S.CharStream.view g.S.CharStream.at m.view_at m.at_view m.at_at c.args.stream.now c.take.new.self c.take-2.new.self c.commit_unexpected-in_default-take.new.stream c.in-Some.c c.commit_unexpected-in_default-take.result
    c.if-c-ne92.false c.in-Some.ensures.value c.take.ensures.after (sym c.in_default-take.is ∙ c.take-2.ensures.value) c.take-2.ensures.after c.commit_unexpected-in_default-take.ensures

pub unicode_parse-requires : goal.unicode_parse-requires
unicode_parse-requires g c =
    let m = g.met.S.CharStream in
    let k = two_taken g.S.CharStream.view g.S.CharStream.at m.view_at m.at_view m.at_at c.args.stream.now c.take.new.self c.take-2.new.self c.in-Some.c c.in-Some-take.c c.if-c-ne92.false c.in-Some.ensures.value c.take.ensures.after c.in-Some-take.ensures.value c.take-2.ensures.after in
    takes_fine g.S.CharStream.view g.S.CharStream.at m.view_at m.at_at c.args.stream.now c.take-2.new.self _ _ k c.requires

pub returns-then-c-eq117 : goal.returns-then-c-eq117
returns-then-c-eq117 g c =
    let m = g.met.S.CharStream in
    let k = two_taken g.S.CharStream.view g.S.CharStream.at m.view_at m.at_view m.at_at c.args.stream.now c.take.new.self c.take-2.new.self c.in-Some.c c.in-Some-take.c c.if-c-ne92.false c.in-Some.ensures.value c.take.ensures.after c.in-Some-take.ensures.value c.take-2.ensures.after in
    c.unicode_parse.ensures c.args.stream.now (subst (λ z. Takes g.S.CharStream.view g.S.CharStream.at (92 ∷ z ∷ []) (g.S.CharStream.view c.take-2.new.self).rest c.args.stream.now c.take-2.new.self) c.if-c-eq117.true k) c.position-place.ensures

pub returns-in-None : goal.returns-in-None
returns-in-None g c =
    let m = g.met.S.CharStream in
    let r = c.refuse_at.ensures in
    let k = two_taken g.S.CharStream.view g.S.CharStream.at m.view_at m.at_view m.at_at c.args.stream.now c.take.new.self c.take-2.new.self c.in-Some.c c.in-Some-take.c c.if-c-ne92.false c.in-Some.ensures.value c.take.ensures.after c.in-Some-take.ensures.value c.take-2.ensures.after in
    let s = set_within (lens g.S.CharStream.view g.S.CharStream.at m.view_at m.at_view m.at_at) c.args.stream.now c.take-2.new.self (takes_same_stream g.S.CharStream.view g.S.CharStream.at m.view_at m.at_at _ _ _ _ k) in
    unknown_escape g.S.CharStream.view g.S.CharStream.at m.view_at m.at_view m.at_at c.args.stream.now c.take.new.self c.take-2.new.self c.refuse_at.new.stream c.in-Some.c c.in-Some-take.c c.refuse_at.result
    c.if-c-ne92.false c.in-Some.ensures.value c.take.ensures.after c.in-Some-take.ensures.value c.take-2.ensures.after c.if-c-eq117.false c.in-None.ensures c.requires (record { because = ap fault_of r.cause; committed = r.committed; place = r.at (g.S.CharStream.view c.args.stream.now).passed (g.S.CharStream.view c.args.stream.now).rest s c.position-place.ensures; left = r.left })

pub returns-in_default : goal.returns-in_default
returns-in_default g c =
    let m = g.met.S.CharStream in
    no_unit g.S.CharStream.view g.S.CharStream.at m.view_at m.at_view m.at_at c.args.stream.now c.take.new.self c.commit_unexpected.new.stream c.commit_unexpected.result
    (sym c.in_default.is ∙ c.take.ensures.value) c.take.ensures.after c.commit_unexpected.ensures

pub returns-then-c-ne92 : goal.returns-then-c-ne92
returns-then-c-ne92 g c =
    let m = g.met.S.CharStream in
    plain_read g.S.CharStream.view g.S.CharStream.at m.view_at m.at_view m.at_at c.args.stream.now c.take.new.self c.in-Some.c c.if-c-ne92.true c.in-Some.ensures.value c.take.ensures.after

pub returns-in-Some-escaped : goal.returns-in-Some-escaped
returns-in-Some-escaped g c =
    let m = g.met.S.CharStream in
    escape_read g.S.CharStream.view g.S.CharStream.at m.view_at m.at_view m.at_at c.args.stream.now c.take.new.self c.take-2.new.self c.in-Some.c c.in-Some-take.c c.in-Some-escaped.c
    c.if-c-ne92.false c.in-Some.ensures.value c.take.ensures.after c.in-Some-take.ensures.value c.take-2.ensures.after c.if-c-eq117.false c.in-Some-escaped.ensures
