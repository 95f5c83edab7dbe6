use Rattle.std.proofs.Common.{[], ◌∷◌, ◌++◌, ◌<◌, length, ap, sym, subst, ◌∙◌, Ok, Err}
use Rattle.irtext_tokens.specs.AttrTexts.{attr_at}
use Rattle.irtext_grammar.specs.Heads.{entry_by}
use Rattle.irtext_grammar.specs.Parsed.{IsEntry, AreEntries}
use Rattle.irtext_parse_pieces.specs.Named.{whole}
use Rattle.irtext_parse_pieces.proofs.Meanings.{insisted_mean, must_refuse}
use Rattle.irtext_parse_pieces.proofs.Listings.{Listing, listing_first, listing_starts, item_falls, listing_ran_out, turn_refused, turn_keeps, turn_ran_out, turn_ends}
use Rattle.irtext_parse_pieces.proofs.Lenses.{lens_of}
use Rattle.irtext_parse_pieces.proofs.entries.more_entries.Goals as goal

pub loop-stream-init : goal.loop-stream-init
loop-stream-init g c = λ entry means fine.
    let l = lens_of g.world g.met.S.CharStream in
    let old = c.args.stream.now in
    subst (λ s. Listing l (entry_by (attr_at g.A.IrText.reading) c.args.any_key) (IsEntry (whole (l.view old))) (entry ∷ []) old s c.in-Ok.only.items) (sym c.in-Ok.ensures.stream)
    (listing_starts l (entry_by (attr_at g.A.IrText.reading) c.args.any_key) entry c.args.first old (c.in-Ok.ensures.more ∙ ap (λ z. z ++ c.args.first ∷ []) c.new-none.ensures.items) fine means)

pub returns-in-Err : goal.returns-in-Err
returns-in-Err g c = λ entry means fine.
    let l = lens_of g.world g.met.S.CharStream in
    let old = c.args.stream.now in
    let item = entry_by (attr_at g.A.IrText.reading) c.args.any_key in
    let p : Listing l item (IsEntry (whole (l.view old))) (entry ∷ []) old old (c.args.first ∷ []) = listing_first l item entry c.args.first old fine means in
    must_refuse l (listing_ran_out l item (λ _. []) p c.in-Err.ensures.ran_out)

pub returns-in-Err-committed : goal.returns-in-Err-committed
returns-in-Err-committed g c = λ entry means fine.
    let l = lens_of g.world g.met.S.CharStream in
    rw c.failed.ensures
    (turn_refused l (entry_by (attr_at g.A.IrText.reading) c.args.any_key) c.loop-stream-test.ensures (c.loop-stream.invariant entry means fine)
    (insisted_mean l c.entry_parse-answer.result (Err _) c.entry_parse-answer.ensures c.in-Err-committed.ensures))

pub loop-stream-preserved : goal.loop-stream-preserved
loop-stream-preserved g c = λ entry means fine.
    let l = lens_of g.world g.met.S.CharStream in
    let m = insisted_mean l c.entry_parse-answer.result (Ok c.in-Ok-committed.next) c.entry_parse-answer.ensures c.in-Ok-committed.ensures in
    turn_keeps {A = g.row.A.Denot} l (entry_by (attr_at g.A.IrText.reading) c.args.any_key) c.loop-stream-test.ensures IsEntry IsEntry (λ y x k. k) m (c.loop-stream.invariant entry means fine)
    (record { mid = _; spaced = c.skip_white_space.ensures; appended = (c.in-Ok-with_last.ensures.more, c.in-Ok-with_last.ensures.stream) })

pub loop-stream-smaller : goal.loop-stream-smaller
loop-stream-smaller g c =
    let l = lens_of g.world g.met.S.CharStream in
    let m = insisted_mean l c.entry_parse-answer.result (Ok c.in-Ok-committed.next) c.entry_parse-answer.ensures c.in-Ok-committed.ensures in
    let test = c.loop-stream-test.ensures in
    subst (λ s. length (l.view s).rest < length (l.view c.loop-stream.stream).rest) (sym c.in-Ok-with_last.ensures.stream) (item_falls l (entry_by (attr_at g.A.IrText.reading) c.args.any_key) {A = g.row.A.Denot} test.comes test.taken test.spaced m.read c.skip_white_space.ensures)

pub returns-in-Err-with_last : goal.returns-in-Err-with_last
returns-in-Err-with_last g c = λ entry means fine.
    let l = lens_of g.world g.met.S.CharStream in
    let m = insisted_mean l c.entry_parse-answer.result (Ok c.in-Ok-committed.next) c.entry_parse-answer.ensures c.in-Ok-committed.ensures in
    turn_ran_out l (entry_by (attr_at g.A.IrText.reading) c.args.any_key) c.loop-stream-test.ensures IsEntry IsEntry (λ y x k. k) m (c.loop-stream.invariant entry means fine)
    (record { mid = _; spaced = c.skip_white_space.ensures; appended = c.in-Err-with_last.ensures.ran_out })

pub returns : goal.returns
returns g c = λ entry means fine.
    let l = lens_of g.world g.met.S.CharStream in
    let p = c.loop-stream.invariant entry means fine in
    turn_ends l (entry_by (attr_at g.A.IrText.reading) c.args.any_key) (AreEntries (whole (l.view c.args.stream.now))) c.loop-stream.found c.loop-stream-test.ensures p p.each
