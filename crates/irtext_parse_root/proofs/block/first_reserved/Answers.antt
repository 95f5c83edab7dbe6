use Rattle.std.proofs.Common.{◌∙◌, sym, arith}
use Rattle.irtext_names.proofs.Numbered.{item_there}
use Rattle.irtext_parse_root.proofs.BlockHeads.{passes_entry, stops_entry, none_left}
use Rattle.irtext_parse_root.proofs.block.first_reserved.Goals as goal

pub returns-then-not-block_may_hold : goal.returns-then-not-block_may_hold
returns-then-not-block_may_hold g c =
    let es = c.args.entries.now in
    let i = c.loop-index.index in
    let e = c.index-entries-index.result in
    sym (stops_entry es i e (item_there es i e (omega (arith, c.loop-index-test.true)) c.index-entries-index.is) (sym c.block_may_hold.ensures ∙ c.if-not-block_may_hold.true)) ∙ c.loop-index.invariant

pub loop-index-preserved : goal.loop-index-preserved
loop-index-preserved g c =
    let es = c.args.entries.now in
    let i = c.loop-index.index in
    let e = c.index-entries-index.result in
    passes_entry es i e (item_there es i e (omega (arith, c.loop-index-test.true)) c.index-entries-index.is) (sym c.block_may_hold.ensures ∙ c.if-not-block_may_hold.false) ∙ c.loop-index.invariant

pub returns : goal.returns
returns g c = sym (none_left c.args.entries.now c.loop-index.index (omega (arith, c.loop-index-test.false))) ∙ c.loop-index.invariant
