use Rattle.std.proofs.Common.{◌∙◌, ap, refl, sym, true≢false}
use Rattle.irtext_tokens.specs.AttrTexts.{attr_at}
use Rattle.irtext_parse_state.specs.States.{marks_of}
use Rattle.irtext_grammar.specs.Promises.Section.{indices_of}
use Rattle.irtext_parse_root.proofs.BlockHeads.{no_words, head_read, read_missed, read_refusal, unread_missed, unread_refusal, misses_fresh}
use Rattle.irtext_parse_root.proofs.block.BasicBlockParsable.parse.Goals as goal

-- ---- the header is parsed
pub header_fault-requires-clause-words : goal.header_fault-requires-clause-words
header_fault-requires-clause-words g c = c.header_parse.ensures.names.words (no_words c.with_seed-names.ensures.names)

pub header_fault-requires-clause-read : goal.header_fault-requires-clause-read
header_fault-requires-clause-read g c =
    let old = c.args.stream.now.stream in
    let h = head_read g.T.IrText.reading (attr_at g.A.IrText.reading) c.header_parse.new.names.names old (sym c.has_failed.ensures ∙ c.if-has_failed.false) c.in-Ok.head c.header_parse.new.stream c.in-Ok.ensures.read in
    record { head = h.head; is = h.is }

pub returns-in-Ok : goal.returns-in-Ok
returns-in-Ok g c =
    let old = c.args.stream.now.stream in
    let new = c.header_fault.new.stream in
    let names = c.header_parse.new.names.names in
    let marks = indices_of (marks_of c.args.stream.now.state) in
    let attr = attr_at g.A.IrText.reading in
    let fine = sym c.has_failed.ensures ∙ c.if-has_failed.false in
    let h = head_read g.T.IrText.reading attr names old fine c.in-Ok.head c.header_parse.new.stream c.in-Ok.ensures.read in
    let said = c.header_fault.ensures.first h.head h.is in
    let missed = read_missed g.T.IrText.reading attr old new c.header_fault.result names fine c.in-Ok.head c.header_parse.new.stream h c.header_fault.ensures.fails marks said in
    rw c.ended.ensures (record {
      state = refl;
      refused = read_refusal g.T.IrText.reading attr old new c.header_fault.result names fine c.in-Ok.head c.header_parse.new.stream h c.header_fault.ensures.fails marks said;
      failed = λ e. absurd (true≢false (sym e ∙ fine));
      none = tt;
      missed = λ _. missed;
      unresolved = λ fresh. misses_fresh g.T.IrText.reading attr old new c.header_fault.result marks (ap indices_of fresh.marks) missed;
    })

-- ---- it is not
pub returns-in-Err-clause-refused : goal.returns-in-Err-clause-refused
returns-in-Err-clause-refused g c = rw c.ended-in-Err.ensures (unread_refusal g.T.IrText.reading g.A.IrText.reading g.met.T.IrText.sincere g.met.A.IrText.sincere c.in-Err.ensures.read)

pub returns-in-Err-clause-none : goal.returns-in-Err-clause-none
returns-in-Err-clause-none g c = rw c.ended-in-Err.ensures tt

pub returns-in-Err-clause-failed : goal.returns-in-Err-clause-failed
returns-in-Err-clause-failed g c = λ e. absurd (true≢false (sym e ∙ sym c.has_failed.ensures ∙ c.if-has_failed.false))

pub returns-in-Err-clause-missed : goal.returns-in-Err-clause-missed
returns-in-Err-clause-missed g c = λ fine.
    rw c.ended-in-Err.ensures (unread_missed g.T.IrText.reading (attr_at g.A.IrText.reading) c.args.stream.now.stream c.header_parse.new.stream c.in-Err.fault (indices_of (marks_of c.args.stream.now.state)) fine c.in-Err.ensures.read)

pub returns-in-Err-clause-unresolved : goal.returns-in-Err-clause-unresolved
returns-in-Err-clause-unresolved g c = λ fresh.
    let attr = attr_at g.A.IrText.reading in
    let old = c.args.stream.now.stream in
    let marks = indices_of (marks_of c.args.stream.now.state) in
    rw c.ended-in-Err.ensures (misses_fresh g.T.IrText.reading attr old c.header_parse.new.stream c.in-Err.fault marks (ap indices_of fresh.marks)
    (unread_missed g.T.IrText.reading attr old c.header_parse.new.stream c.in-Err.fault marks fresh.fine c.in-Err.ensures.read))
