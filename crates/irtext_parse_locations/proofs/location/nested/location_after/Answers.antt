use Rattle.std.proofs.Common.{ap, refl, codes, string_bytes}
use Rattle.irtext_base.specs.Locations.{named, call_site, location_view}
use Rattle.irtext_tokens.specs.Tokens.{text_at}
use Rattle.irtext_tokens.proofs.Exits.{propagated}
use Rattle.irtext_grammar.specs.Readers.Positions.{spaced_at}
use Rattle.irtext_parse_locations.specs.declared.location.frame.Frame.TheVariants as frame
use Rattle.irtext_parse_locations.specs.declared.location.frame.Progress.TheVariants as progress
use Rattle.irtext_parse_locations.specs.Frames.{for_caller, whole, inside, frame_view, after_at}
use Rattle.irtext_parse_locations.proofs.AfterSteps.{refused, parsed, made}
use Rattle.irtext_parse_locations.proofs.location.nested.location_after.Goals as goal

pub returns-in_err-text_demanded-in-Named : goal.returns-in_err-text_demanded-in-Named
returns-in_err-text_demanded-in-Named g c =
    let l = location_view c.args.location in
    rw (propagated c.from_residual.result c.from_residual.ensures.1) (refused (frame_view c.args.frame) l (text_at (codes ")")) (whole (named (string_bytes c.in-Named.name) l)) (ap (λ f. after_at (frame_view f) l) c.in-Named.is) c.in_err-text_demanded-in-Named.ensures)

pub returns-in_ok-text_demanded-in-Named : goal.returns-in_ok-text_demanded-in-Named
returns-in_ok-text_demanded-in-Named g c =
    let l = location_view c.args.location in
    made (frame_view c.args.frame) l (text_at (codes ")")) (named (string_bytes c.in-Named.name) l) (ap (λ f. after_at (frame_view f) l) c.in-Named.is) c.in_ok-text_demanded-in-Named.ensures c.named_made.result c.whole.ensures c.named_made.ensures

pub returns-in_err-spaced_text_demanded-in-Callee : goal.returns-in_err-spaced_text_demanded-in-Callee
returns-in_err-spaced_text_demanded-in-Callee g c =
    let l = location_view c.args.location in
    rw (propagated c.from_residual-in_err-spaced_text_demanded-in-Callee.result c.from_residual-in_err-spaced_text_demanded-in-Callee.ensures.1) (refused (frame_view c.args.frame) l (spaced_at (codes "at")) (inside (for_caller l)) (ap (λ f. after_at (frame_view f) l) c.in-Callee.is) c.in_err-spaced_text_demanded-in-Callee.ensures)

pub returns-in_ok-spaced_text_demanded-in-Callee : goal.returns-in_ok-spaced_text_demanded-in-Callee
returns-in_ok-spaced_text_demanded-in-Callee g c =
    let l = location_view c.args.location in
    parsed (frame_view c.args.frame) l (spaced_at (codes "at")) (inside (for_caller l)) (ap (λ f. after_at (frame_view f) l) c.in-Callee.is) (progress.Inside (frame.Caller c.args.location)) refl c.in_ok-spaced_text_demanded-in-Callee.ensures

pub returns-in_err-spaced_text_demanded-in-Caller : goal.returns-in_err-spaced_text_demanded-in-Caller
returns-in_err-spaced_text_demanded-in-Caller g c =
    let l = location_view c.args.location in
    rw (propagated c.from_residual-in_err-spaced_text_demanded-in-Caller.result c.from_residual-in_err-spaced_text_demanded-in-Caller.ensures.1) (refused (frame_view c.args.frame) l (spaced_at (codes ")")) (whole (call_site (location_view c.in-Caller.callee) l)) (ap (λ f. after_at (frame_view f) l) c.in-Caller.is) c.in_err-spaced_text_demanded-in-Caller.ensures)

pub returns-in_ok-spaced_text_demanded-in-Caller : goal.returns-in_ok-spaced_text_demanded-in-Caller
returns-in_ok-spaced_text_demanded-in-Caller g c =
    let l = location_view c.args.location in
    made (frame_view c.args.frame) l (spaced_at (codes ")")) (call_site (location_view c.in-Caller.callee) l) (ap (λ f. after_at (frame_view f) l) c.in-Caller.is) c.in_ok-spaced_text_demanded-in-Caller.ensures c.call_site_made.result c.whole-in-Caller.ensures c.call_site_made.ensures

pub returns-in-Fused : goal.returns-in-Fused
returns-in-Fused g c = rw c.in-Fused.is c.row_after.ensures
