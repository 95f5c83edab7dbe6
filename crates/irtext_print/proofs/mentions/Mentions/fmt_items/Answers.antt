use Rattle.std.proofs.Common.{◌∙◌, ◌+◌, [], refl, string_bytes, subst, sym}
use Rattle.irtext_base.proofs.OnlyAppended.{appends_nothing, appends_next}
use Rattle.irtext_print.specs.Given.{printing_of, given_at}
use Rattle.irtext_print.specs.Items.{language_of}
use Rattle.irtext_print.specs.Mentions as mentions
use Rattle.irtext_print.proofs.Written.{ItemsSoFar, items_none, items_more, items_known, items_written}
use Rattle.irtext_print.proofs.mentions.Mentions.fmt_items.Goals as goal

pub loop-index-init : goal.loop-index-init
loop-index-init g c = (
  refl,
  items_none (language_of g.T.IrText g.A.IrText g.A.AttrText g.A.PartialEq.eq c.args.ctx.now) (printing_of g.T.IrText g.A.IrText g.A.AttrText g.A.PartialEq.eq c.args.ctx.now)
      (given_at g.T.IrText g.A.IrText g.A.AttrText g.A.PartialEq.eq c.args.ctx.now) c.args.self.now.items c.args.items.now (mentions.known_in c.args.self.now.known) (string_bytes c.args.f.now),
  appends_nothing refl,
)

pub loop-index-preserved : goal.loop-index-preserved
loop-index-preserved g c =
    let L = language_of g.T.IrText g.A.IrText g.A.AttrText g.A.PartialEq.eq c.args.ctx.now in
    let C = printing_of g.T.IrText g.A.IrText g.A.AttrText g.A.PartialEq.eq c.args.ctx.now in
    let gives = given_at g.T.IrText g.A.IrText g.A.AttrText g.A.PartialEq.eq c.args.ctx.now in
    let all = c.args.items.now in
    let before = mentions.known_in c.args.self.now.known in
    let known = mentions.known_in c.loop-index.self.known in
    let next = mentions.known_in c.fmt_item.new.self.known in
    let so = subst (λ n. ItemsSoFar L C gives n all before known c.loop-index.index (string_bytes c.args.f.now) (string_bytes c.loop-index.f)) (sym c.loop-index.invariant.0) c.loop-index.invariant.1 in (
      c.in_ok-fmt_item.ensures.writes.items ∙ c.loop-index.invariant.0,
      subst (λ n. ItemsSoFar L C gives n all before next (c.loop-index.index + 1) (string_bytes c.args.f.now) (string_bytes c.fmt_item.new.f)) c.loop-index.invariant.0
          (items_more L C gives c.loop-index.self.items all before known next c.loop-index.index _ (string_bytes c.args.f.now) (string_bytes c.loop-index.f) (string_bytes c.fmt_item.new.f)
          c.loop-index-test.true c.in_ok-fmt_item.ensures.writes.known c.in_ok-fmt_item.ensures.writes.text so),
      appends_next c.loop-index.invariant.2 _ (c.in_ok-fmt_item.ensures.writes.text []),
    )

pub returns-clause-writes : goal.returns-clause-writes
returns-clause-writes g c =
    let L = language_of g.T.IrText g.A.IrText g.A.AttrText g.A.PartialEq.eq c.args.ctx.now in
    let C = printing_of g.T.IrText g.A.IrText g.A.AttrText g.A.PartialEq.eq c.args.ctx.now in
    let gives = given_at g.T.IrText g.A.IrText g.A.AttrText g.A.PartialEq.eq c.args.ctx.now in
    let before = mentions.known_in c.args.self.now.known in
    let known = mentions.known_in c.loop-index.self.known in
    record {
      items = c.loop-index.invariant.0;
      known = items_known L C gives c.args.self.now.items c.args.items.now before known c.loop-index.index (string_bytes c.args.f.now) (string_bytes c.loop-index.f) c.loop-index-test.false c.loop-index.invariant.1;
      text = items_written L C gives c.args.self.now.items c.args.items.now before known c.loop-index.index (string_bytes c.args.f.now) (string_bytes c.loop-index.f) c.loop-index-test.false c.loop-index.invariant.1;
    }
