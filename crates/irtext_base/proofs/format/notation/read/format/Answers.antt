use Rattle.std.proofs.Common.{sym, ◌∙◌}
use Rattle.irtext_base.specs.FormatViews.{format_of}
use Rattle.irtext_base.specs.Notation.{canonical_at, notation_at}
use Rattle.irtext_stream.specs.NotationFaults.{whole}
use Rattle.irtext_stream.specs.declared.notation.fault.NotationPart.TheVariants as part
use Rattle.irtext_stream.proofs.NotationSteps.{handed, unmet_so}
use Rattle.irtext_base.proofs.NotationDirectives.{faults_as, format_listed, format_canonical, canonical_ends, canonical_goes_on}
use Rattle.irtext_base.proofs.format.notation.read.format.Goals as goal

pub returns-in_err-directives : goal.returns-in_err-directives
returns-in_err-directives c =
    let old = c.args.stream.now in
    let now = c.past.new.stream in
    let k = format_listed old c.skip.new.self now c.skip.ensures c.if-not-past.ensures.0 c.if-not-past.ensures.1 in
    let f = faults_as (whole now) (whole old) _ (notation_at old.rest) c.in_err-directives.field-0.0 k.0 k.1 c.in_err-directives.ensures in
    handed format_of (whole old) (notation_at old.rest) c.directives.new.stream c.from_residual.result c.in_err-directives.field-0.0 c.from_residual.ensures.1 f

pub returns-then-not-past : goal.returns-then-not-past
returns-then-not-past c =
    let k = format_listed c.args.stream.now c.skip.new.self c.past.new.stream c.skip.ensures c.if-not-past.ensures.0 c.if-not-past.ensures.1 in
    (k.0 ∙ c.in_ok-directives.ensures.0, c.in_ok-directives.ensures.1 ∙ k.1)

pub returns-then-not-ended : goal.returns-then-not-ended
returns-then-not-ended c =
    let old = c.args.stream.now in
    let end = c.skip-2.new.self in
    let k = format_canonical old c.skip.new.self c.past.new.stream c.skip.ensures end c.if-not-past.ensures.0 c.if-not-past.ensures.1 c.skip-2.ensures in
    let q = canonical_goes_on end.rest (sym c.ended.ensures ∙ c.if-not-ended.true) in
    faults_as (whole end) (whole old) (canonical_at end.rest) (notation_at old.rest) c.lack.result k.0 k.1 (unmet_so (whole end) end.rest part.End (canonical_at end.rest) c.lack.result q c.lack.ensures)

pub returns : goal.returns
returns c =
    let end = c.skip-2.new.self in
    let k = format_canonical c.args.stream.now c.skip.new.self c.past.new.stream c.skip.ensures end c.if-not-past.ensures.0 c.if-not-past.ensures.1 c.skip-2.ensures in
    (k.0 ∙ canonical_ends end.rest (sym c.ended.ensures ∙ c.if-not-ended.false), k.1)
