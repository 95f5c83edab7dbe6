use Rattle.std.proofs.Common.{◌≡◌, ◌∙◌, Some, None, slice_get, drop, length, suc, ap, sym, subst, arith}
use Rattle.irtext_tokens.specs.AttrTexts.{attr_at}
use Rattle.irtext_parse_pieces.proofs.Meanings.{names_none, names_more}
use Rattle.irtext_parse_pieces.proofs.FormatSteps.{Counts, next_left, none_left, count_none, count_all, count_more, fewer_left, left_more, front_over, front_ended}
use Rattle.irtext_parse_pieces.proofs.FrontSteps.{Fronting, front_begins, front_more, front_refused, front_ends}
use Rattle.irtext_parse_pieces.specs.Steps.{custom_steps, seen_step}
use Rattle.irtext_parse_pieces.proofs.Lenses.{lens_of}
use Rattle.irtext_parse_pieces.proofs.fronts.pieces_parse.Goals as goal

pub loop-step-init : goal.loop-step-init
loop-step-init g c =
    let l = lens_of g.world g.met.S.CharStream in
    let old = c.args.stream.now in
    let names = c.args.names.now.names in
    let steps = custom_steps c.args.directives.now in (
      names_none c.args.names.now,
      subst (λ z. Counts (length z) steps (drop (length z) steps)) (sym c.none-found.ensures) (count_none steps),
      λ fine. subst (λ z. Fronting l g.T.IrText.reading (attr_at g.A.IrText.reading) c.args.setting names steps (drop (length z) steps) old old z) (sym c.none-found.ensures) (front_begins l g.T.IrText.reading (attr_at g.A.IrText.reading) c.args.setting names steps old fine),
    )

pub returns-then-not-reads_piece-clause-read : goal.returns-then-not-reads_piece-clause-read
returns-then-not-reads_piece-clause-read g c = λ fine.
    let steps = custom_steps c.args.directives.now in
    let step = seen_step c.in-Some.step in
    let n = length c.loop-step.found in
    let there : slice_get steps n ≡ Some step = rw c.len.ensures at (sym c.in-Some.ensures.step) in
    let over = front_ended (drop n steps) (drop (suc n) steps) step (next_left steps n step there) (sym c.reads_piece.ensures ∙ c.if-not-reads_piece.true) in
    front_ends (lens_of g.world g.met.S.CharStream) g.T.IrText.reading (attr_at g.A.IrText.reading) c.args.setting over (c.loop-step.invariant.2 fine)

pub returns-then-not-reads_piece-clause-count : goal.returns-then-not-reads_piece-clause-count
returns-then-not-reads_piece-clause-count g c =
    let steps = custom_steps c.args.directives.now in
    let step = seen_step c.in-Some.step in
    let n = length c.loop-step.found in
    let there : slice_get steps n ≡ Some step = rw c.len.ensures at (sym c.in-Some.ensures.step) in
    let over = front_ended (drop n steps) (drop (suc n) steps) step (next_left steps n step there) (sym c.reads_piece.ensures ∙ c.if-not-reads_piece.true) in
    count_all steps (drop n steps) n over c.loop-step.invariant.1

pub returns-in-Err-clause-read : goal.returns-in-Err-clause-read
returns-in-Err-clause-read g c = λ fine.
    let steps = custom_steps c.args.directives.now in
    let step = seen_step c.in-Some.step in
    let n = length c.loop-step.found in
    let there : slice_get steps n ≡ Some step = rw c.len.ensures at (sym c.in-Some.ensures.step) in
    rw c.failed.ensures
    (front_refused (lens_of g.world g.met.S.CharStream) g.T.IrText.reading (attr_at g.A.IrText.reading) c.args.setting (drop (suc n) steps) step (next_left steps n step there) (sym c.reads_piece.ensures ∙ c.if-not-reads_piece.false) (c.loop-step.invariant.2 fine) c.skip_white_space.ensures c.in-Err.ensures.read)

pub returns-in-Err-clause-names : goal.returns-in-Err-clause-names
returns-in-Err-clause-names g c = names_more _ _ _ c.loop-step.invariant.0 c.in-Err.ensures.names

pub loop-step-preserved : goal.loop-step-preserved
loop-step-preserved g c =
    let l = lens_of g.world g.met.S.CharStream in
    let steps = custom_steps c.args.directives.now in
    let step = seen_step c.in-Some.step in
    let found = c.loop-step.found in
    let new = c.piece_found.new in
    let read = c.in_default-piece_found.ensures.read in
    let n = length found in
    let names = new.names.names in
    let there : slice_get steps n ≡ Some step = rw c.len.ensures at (sym c.in-Some.ensures.step) in
    let flat = sym c.reads_piece.ensures ∙ c.if-not-reads_piece.false in (
      names_more _ _ _ c.loop-step.invariant.0 c.in_default-piece_found.ensures.names,
      subst (λ z. Counts (length z) steps (drop (length z) steps)) (sym read.means.1) (count_more steps found read.means.0 step there flat c.loop-step.invariant.1),
      λ fine.
          subst (λ left. Fronting l g.T.IrText.reading (attr_at g.A.IrText.reading) c.args.setting names steps left c.args.stream.now new.stream new.found)
          (left_more steps found read.means.0 ∙ ap (λ z. drop (length z) steps) (sym read.means.1))
          (front_more l g.T.IrText.reading (attr_at g.A.IrText.reading) c.args.setting (drop (suc n) steps) step names (next_left steps n step there) flat (c.loop-step.invariant.2 fine) c.skip_white_space.ensures c.in_default-piece_found.ensures.names.kept read),
    )

pub loop-step-smaller : goal.loop-step-smaller
loop-step-smaller g c =
    let steps = custom_steps c.args.directives.now in
    let step = seen_step c.in-Some.step in
    let there : slice_get steps (length c.loop-step.found) ≡ Some step = rw c.len.ensures at (sym c.in-Some.ensures.step) in
    let read = c.in_default-piece_found.ensures.read in
    let fewer = fewer_left steps c.loop-step.found read.means.0 step there _ read.means.1 in
    omega (arith, fewer)

pub returns-clause-read : goal.returns-clause-read
returns-clause-read g c = λ fine.
    let steps = custom_steps c.args.directives.now in
    let n = length c.loop-step.found in
    let none : slice_get steps n ≡ None = rw c.len.ensures at (sym c.in_default.ensures.step) in
    front_ends (lens_of g.world g.met.S.CharStream) g.T.IrText.reading (attr_at g.A.IrText.reading) c.args.setting (front_over (drop n steps) (none_left steps n none)) (c.loop-step.invariant.2 fine)

pub returns-clause-count : goal.returns-clause-count
returns-clause-count g c =
    let steps = custom_steps c.args.directives.now in
    let n = length c.loop-step.found in
    let none : slice_get steps n ≡ None = rw c.len.ensures at (sym c.in_default.ensures.step) in
    count_all steps (drop n steps) n (front_over (drop n steps) (none_left steps n none)) c.loop-step.invariant.1
