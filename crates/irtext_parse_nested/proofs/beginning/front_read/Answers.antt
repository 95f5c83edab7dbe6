use Rattle.std.proofs.Common.{false, sym, ap, ◌∙◌, subst, length, slice_get, true≢false}
use Rattle.irtext_base.specs.FormatViews.{format_of}
use Rattle.irtext_grammar.specs.Heads.{steps_of, setting}
use Rattle.irtext_parse_pieces.proofs.Meanings.{names_more}
use Rattle.irtext_parse_pieces.specs.Coming.{IsStep}
use Rattle.irtext_parse_nested.proofs.FrontRead.{lead_misses, lead_unread, piece_misses, piece_commits, front_comes, steps_are, isolated_is}
use Rattle.irtext_parse_nested.proofs.beginning.front_read.Goals as goal

pub returns-in-Err-clause-unmet : goal.returns-in-Err-clause-unmet
returns-in-Err-clause-unmet g c =
    lead_misses g.T.IrText.reading g.A.IrText.reading c.args.ctx.now.dialects c.args.inside c.args.stream.now c.requires.fine c.in-Err.ensures.read c.commit_if.result c.commit_if.new.stream c.commit_if.ensures

pub returns-in-Err-clause-unread : goal.returns-in-Err-clause-unread
returns-in-Err-clause-unread g c =
    lead_unread g.T.IrText.reading g.A.IrText.reading c.args.ctx.now.dialects c.args.inside c.args.stream.now c.requires.fine c.in-Err.ensures.read c.commit_if.result c.commit_if.new.stream c.commit_if.ensures

pub returns-in-Err-front_parse-clause-unread : goal.returns-in-Err-front_parse-clause-unread
returns-in-Err-front_parse-clause-unread g c =
    let commits = piece_commits g.T.IrText.reading g.A.IrText.reading c.args.ctx.now.dialects c.args.inside c.args.stream.now c.requires.fine c.in-Ok.led c.in-Ok.led.2.now c.in-Ok.ensures.read c.in-Ok.ensures.known c.front_parse.new.names.names c.in-Err-front_parse.ensures.read in
    (λ e. absurd (true≢false (sym commits ∙ e)))

pub returns-in-Err-front_parse-clause-unmet : goal.returns-in-Err-front_parse-clause-unmet
returns-in-Err-front_parse-clause-unmet g c =
    piece_misses g.T.IrText.reading g.A.IrText.reading c.args.ctx.now.dialects c.args.inside c.args.stream.now c.requires.fine c.in-Ok.led c.in-Ok.led.2.now c.in-Ok.ensures.read c.in-Ok.ensures.known c.front_parse.new.names.names
    g.met.T.IrText.sincere g.met.A.IrText.sincere c.in-Err-front_parse.ensures.read

pub returns-in-Err-front_parse-clause-names : goal.returns-in-Err-front_parse-clause-names
returns-in-Err-front_parse-clause-names g c = names_more c.args.names.now c.results_and_id_parse.new.names c.front_parse.new.names c.results_and_id_parse.ensures.names c.front_parse.ensures.names

pub returns-clause-alive : goal.returns-clause-alive
returns-clause-alive g c =
    front_comes g.T.IrText.reading g.A.IrText.reading c.args.ctx.now.dialects c.args.inside c.args.stream.now c.requires.fine c.in-Ok.led c.in-Ok.led.2.now c.in-Ok.ensures.read c.in-Ok.ensures.known (setting c.args.inside false) c.front_parse.new.names.names
    c.front_parse.ensures.names.kept c.in-Ok-front_parse.pieces c.front_parse.new.stream c.in-Ok-front_parse.ensures.read c.in-Ok-front_parse.ensures.count

pub returns-clause-counted : goal.returns-clause-counted
returns-clause-counted g c =
    c.step_count.ensures ∙ ap length (sym (steps_are g.T.IrText.reading g.A.IrText.reading c.args.ctx.now.dialects c.args.inside c.args.stream.now c.requires.fine c.in-Ok.led c.in-Ok.led.2.now c.in-Ok.ensures.read c.in-Ok.ensures.known))

pub returns-clause-names : goal.returns-clause-names
returns-clause-names g c = names_more c.args.names.now c.results_and_id_parse.new.names c.front_parse.new.names c.results_and_id_parse.ensures.names c.front_parse.ensures.names

pub returns-clause-coming : goal.returns-clause-coming
returns-clause-coming g c =
    let same = steps_are g.T.IrText.reading g.A.IrText.reading c.args.ctx.now.dialects c.args.inside c.args.stream.now c.requires.fine c.in-Ok.led c.in-Ok.led.2.now c.in-Ok.ensures.read c.in-Ok.ensures.known in
    subst (λ ss. IsStep c.coming_at.result (slice_get ss (length c.in-Ok-front_parse.pieces))) (sym same) (subst (λ n. IsStep c.coming_at.result (slice_get (steps_of (format_of c.in-Ok.led.2.now.format)) n)) c.len.ensures c.coming_at.ensures)

pub returns-clause-isolated : goal.returns-clause-isolated
returns-clause-isolated g c =
    sym (isolated_is g.T.IrText.reading g.A.IrText.reading c.args.ctx.now.dialects c.args.inside c.args.stream.now c.requires.fine c.in-Ok.led c.in-Ok.led.2.now c.in-Ok.ensures.read c.in-Ok.ensures.known)
