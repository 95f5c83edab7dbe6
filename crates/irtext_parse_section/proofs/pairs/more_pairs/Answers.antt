use Rattle.std.proofs.Common.{[], ◌∷◌, ◌++◌, ap, sym, ◌∙◌, subst, Ok, Err}
use Rattle.irtext_tokens.proofs.Exits.{propagated}
use Rattle.irtext_tokens.proofs.Steps.{alone}
use Rattle.irtext_tokens.specs.AttrTexts.{attr_at}
use Rattle.irtext_parse_pieces.specs.Named.{whole, MustMean}
use Rattle.irtext_grammar.specs.Parsed.{Each}
use Rattle.irtext_parse_pieces.proofs.Meanings.{insisted_mean, must_refuse}
use Rattle.irtext_parse_pieces.proofs.Listings.{Listing, listing_first, listing_all, listing_refused, listing_more, listing_whole, item_falls, listing_ran_out}
use Rattle.irtext_grammar.specs.Readers.Streams.{itself, replaced}
use Rattle.irtext_parse_locations.specs.Rules.{rule_for}
use Rattle.irtext_parse_section.specs.Said.{IsPair}
use Rattle.irtext_parse_section.proofs.PairSteps.{kept_at}
use Rattle.irtext_parse_section.proofs.pairs.more_pairs.Goals as goal

pub loop-stream-init : goal.loop-stream-init
loop-stream-init g c =
    let old = c.args.stream.now in
    let item = kept_at (attr_at g.A.IrText.reading) (rule_for c.args.of_block) in
    λ pair means fine. subst (λ z. Listing alone item (IsPair (whole old)) (pair ∷ []) old old z) (sym (c.in-Ok.ensures ∙ ap (λ z. z ++ c.args.first ∷ []) c.new.ensures.items)) (listing_first alone item pair c.args.first old fine means)

pub returns-in_err-next : goal.returns-in_err-next
returns-in_err-next g c = λ pair means fine.
    let m = insisted_mean alone c.kept_parse-answer.result (Err _) c.kept_parse-answer.ensures c.in_err-next.ensures in
    let p = c.loop-stream.invariant pair means fine in
    let q = listing_refused alone (kept_at (attr_at g.A.IrText.reading) (rule_for c.args.of_block)) (sym c.next_is.ensures ∙ c.loop-stream-test.true) c.take.ensures.after c.skip_white_space.ensures p (λ _. []) m.read in
    rw (propagated c.from_residual.result c.from_residual.ensures.1) (must_refuse alone q)

pub loop-stream-preserved : goal.loop-stream-preserved
loop-stream-preserved g c = λ pair means fine.
    let item = kept_at (attr_at g.A.IrText.reading) (rule_for c.args.of_block) in
    let text = whole c.args.stream.now in
    let p = c.loop-stream.invariant pair means fine in
    let b = sym c.next_is.ensures ∙ c.loop-stream-test.true in
    let m = insisted_mean alone c.kept_parse-answer.result (Ok c.in_ok-next.next) c.kept_parse-answer.ensures c.in_ok-next.ensures in
    let w = listing_whole alone item b c.take.ensures.after c.skip_white_space.ensures p in
    let h = subst (λ t. MustMean {A = g.row.A.Denot} itself replaced (IsPair t) item c.skip_white_space.new.stream (Ok c.in_ok-next.next) c.committed.new.stream) w m in
    let q = listing_more alone item b c.take.ensures.after c.skip_white_space.ensures p (λ y x k. k) h c.skip_white_space-in-loop-stream.ensures in
    subst (λ z. Listing alone item (IsPair text) (pair ∷ []) c.args.stream.now c.skip_white_space-in-loop-stream.new.stream z) (sym c.in-Ok-pushed.ensures) q

pub loop-stream-smaller : goal.loop-stream-smaller
loop-stream-smaller g c =
    let m = insisted_mean alone c.kept_parse-answer.result (Ok c.in_ok-next.next) c.kept_parse-answer.ensures c.in_ok-next.ensures in
    item_falls alone (kept_at (attr_at g.A.IrText.reading) (rule_for c.args.of_block)) {A = g.row.A.Denot} (sym c.next_is.ensures ∙ c.loop-stream-test.true) c.take.ensures.after c.skip_white_space.ensures m.read c.skip_white_space-in-loop-stream.ensures

pub returns : goal.returns
returns g c = λ pair means fine.
    let p = c.loop-stream.invariant pair means fine in
    listing_all alone (kept_at (attr_at g.A.IrText.reading) (rule_for c.args.of_block)) (λ v ps. Each (IsPair (whole c.args.stream.now)) v.items ps) c.loop-stream.found (sym c.next_is.ensures ∙ c.loop-stream-test.false) p p.each

pub returns-in-Err : goal.returns-in-Err
returns-in-Err g c = λ pair means fine.
    let old = c.args.stream.now in
    let item = kept_at (attr_at g.A.IrText.reading) (rule_for c.args.of_block) in
    let p : Listing alone item (IsPair (whole old)) (pair ∷ []) old old (c.args.first ∷ []) = listing_first alone item pair c.args.first old fine means in
    must_refuse alone (listing_ran_out alone item (λ _. []) p c.out_of_memory.ensures)

pub returns-in-Err-pushed : goal.returns-in-Err-pushed
returns-in-Err-pushed g c = λ pair means fine.
    let b = sym c.next_is.ensures ∙ c.loop-stream-test.true in
    let item = kept_at (attr_at g.A.IrText.reading) (rule_for c.args.of_block) in
    let p = c.loop-stream.invariant pair means fine in
    let m = insisted_mean alone c.kept_parse-answer.result (Ok c.in_ok-next.next) c.kept_parse-answer.ensures c.in_ok-next.ensures in
    let w = listing_whole alone item b c.take.ensures.after c.skip_white_space.ensures p in
    let h = subst (λ t. MustMean {A = g.row.A.Denot} itself replaced (IsPair t) item c.skip_white_space.new.stream (Ok c.in_ok-next.next) c.committed.new.stream) w m in
    let q = listing_more alone item b c.take.ensures.after c.skip_white_space.ensures p (λ y x k. k) h c.skip_white_space-in-loop-stream.ensures in
    must_refuse alone (listing_ran_out alone item (λ _. []) q c.out_of_memory-in-Err-pushed.ensures)
