use Rattle.std.proofs.Common.{None, Some, sym, ◌∙◌, ap}
use Rattle.std.specs.Prelude.{option_copied}
use Rattle.irtext_base.specs.Faults.{fault_of}
use Rattle.irtext_parse_state.specs.States.{marks_of}
use Rattle.irtext_tokens.proofs.Exits.{propagated}
use Rattle.irtext_parse_section.specs.OnlyPaths.{may_follow}
use Rattle.irtext_parse_section.specs.Entries.{earlier_indices}
use Rattle.irtext_parse_section.proofs.HeadSteps.{next_found, none_found, head_short, head_passes, head_fails, head_unread}
use Rattle.irtext_parse_section.proofs.entry.head_parse.Goals as goal

pub returns-in_err-mark-clause-read : goal.returns-in_err-mark-clause-read
returns-in_err-mark-clause-read g c =
    rw (propagated c.from_residual.result c.from_residual.ensures.1) (head_unread (may_follow (marks_of c.args.s.now.state) (earlier_indices (option_copied c.args.seen))) c.in_err-mark.ensures.read)

pub returns-then-not-begins_given-clause-read : goal.returns-then-not-begins_given-clause-read
returns-then-not-begins_given-clause-read g c =
    head_short (may_follow (marks_of c.args.s.now.state) (earlier_indices (option_copied c.args.seen))) None c.in_ok-mark.ensures.read (sym c.begins_given.ensures ∙ c.if-not-begins_given.true)

pub returns-then-not-begins_given-clause-on : goal.returns-then-not-begins_given-clause-on
returns-then-not-begins_given-clause-on g c =
    record { known = sym (sym c.begins_given.ensures ∙ c.if-not-begins_given.true); carries = λ e. absurd (cc e) }

pub returns-in-Some-clause-read : goal.returns-in-Some-clause-read
returns-in-Some-clause-read g c =
    let f = next_found (marks_of c.args.s.now.state) (earlier_indices (option_copied c.args.seen)) c.in_ok-mark.mark.index c.in-Some.item (sym c.in-Some.ensures) in
    head_passes (may_follow (marks_of c.args.s.now.state) (earlier_indices (option_copied c.args.seen))) (Some c.in-Some.item) c.in_ok-mark.ensures.read (sym c.begins_given.ensures ∙ c.if-not-begins_given.false) f.0

pub returns-in-Some-clause-on : goal.returns-in-Some-clause-on
returns-in-Some-clause-on g c =
    let f = next_found (marks_of c.args.s.now.state) (earlier_indices (option_copied c.args.seen)) c.in_ok-mark.mark.index c.in-Some.item (sym c.in-Some.ensures) in
    record { known = sym (sym c.begins_given.ensures ∙ c.if-not-begins_given.false); carries = λ _. f.1 }

pub returns-in-None-clause-read : goal.returns-in-None-clause-read
returns-in-None-clause-read g c =
    let f = none_found (marks_of c.args.s.now.state) (earlier_indices (option_copied c.args.seen)) c.in_ok-mark.mark.index (sym c.in-None.ensures) in
    let r = c.refuse_at.ensures in
    head_fails (may_follow (marks_of c.args.s.now.state) (earlier_indices (option_copied c.args.seen))) c.in_ok-mark.ensures.read (sym c.begins_given.ensures ∙ c.if-not-begins_given.false) f c.in_ok-mark.ensures.at (record { because = ap fault_of r.cause; committed = r.committed; position = λ passed rest e p. r.at passed rest e p; left = r.left })
