use Rattle.std.proofs.Common.{◌∙◌, ap, string_bytes, refl, subst, [], ◌++◌, List}
use Rattle.irtext_base.proofs.OnlyAppended.{appends_nothing, appends_next}
use Rattle.irtext_print.specs.Entries as texts
use Rattle.irtext_print.specs.Printers.Appended.{AppendsText}
use Rattle.irtext_print.specs.Printers.PieceText.{words}
use Rattle.irtext_print.specs.Given.{given_pair, attributes_of, attributes_left}
use Rattle.irtext_print.specs.Mentions as mentions
use Rattle.irtext_print.proofs.Written.{pairs_none, pairs_more, pairs_known, pairs_written}
use Rattle.irtext_print.proofs.mentions.Mentions.fmt_pairs.Goals as goal

pub loop-pair-init : goal.loop-pair-init
loop-pair-init g c = (
  refl,
  pairs_none (words g.A.IrText.written) (mentions.asking g.A.AttrText.print_once g.A.PartialEq.eq) c.args.self.now.items (attributes_of g.A.AttrText.outlined c.args.given.now) (mentions.known_in c.args.self.now.known)
      (attributes_left g.A.AttrText.outlined c.into_iter-pair-iterator.result) (string_bytes c.args.f.now)
      (ap (attributes_left g.A.AttrText.outlined) c.into_iter-pair-iterator.ensures.into_iter_gives ∙ c.attributes-pair-items.ensures),
  appends_nothing refl,
)

pub loop-pair-preserved : goal.loop-pair-preserved
loop-pair-preserved g c =
    let C = mentions.asking g.A.AttrText.print_once g.A.PartialEq.eq in
    let W = words g.A.IrText.written in
    let known = mentions.known_in c.fmt_pair.new.self.known in
    let written = subst (λ n. (more : List g.row.A.Denot) → AppendsText c.fmt_comma.new.f (texts.pair_text C n (known ++ more) W (given_pair c.in-Some.pair)) c.fmt_pair.new.f) c.loop-pair.invariant.0 c.in_ok-fmt_pair.ensures.writes.text in (
      c.in_ok-fmt_pair.ensures.writes.items ∙ c.loop-pair.invariant.0,
      pairs_more W C c.args.self.now.items (attributes_of g.A.AttrText.outlined c.args.given.now) (mentions.known_in c.args.self.now.known)
          (mentions.known_in c.loop-pair.self.known) known (given_pair c.in-Some.pair) (attributes_left g.A.AttrText.outlined c.loop-pair.pair-iterator) (attributes_left g.A.AttrText.outlined c.next.new.self)
          c.loop-pair.first (string_bytes c.args.f.now) (string_bytes c.loop-pair.f) (string_bytes c.fmt_comma.new.f) (string_bytes c.fmt_pair.new.f)
          c.in-Some.ensures.steps c.in_ok-fmt_comma.ensures.text c.in_ok-fmt_pair.ensures.writes.known written c.loop-pair.invariant.1,
      appends_next (appends_next {new = c.fmt_comma.new.f} c.loop-pair.invariant.2 _ c.in_ok-fmt_comma.ensures.text) _ (written []),
    )

pub returns-clause-writes : goal.returns-clause-writes
returns-clause-writes g c =
    let C = mentions.asking g.A.AttrText.print_once g.A.PartialEq.eq in
    let W = words g.A.IrText.written in
    let es = attributes_of g.A.AttrText.outlined c.args.given.now in
    let left = attributes_left g.A.AttrText.outlined c.loop-pair.pair-iterator in
    record {
      items = c.loop-pair.invariant.0;
      known = pairs_known W C c.args.self.now.items es (mentions.known_in c.args.self.now.known) (mentions.known_in c.loop-pair.self.known) left c.loop-pair.first (string_bytes c.args.f.now) (string_bytes c.loop-pair.f) c.in-None.ensures.steps.0 c.loop-pair.invariant.1;
      text = pairs_written W C c.args.self.now.items es (mentions.known_in c.args.self.now.known) (mentions.known_in c.loop-pair.self.known) left c.loop-pair.first (string_bytes c.args.f.now) (string_bytes c.loop-pair.f) c.in-None.ensures.steps.0 c.loop-pair.invariant.1;
    }
