use Rattle.std.proofs.Common.{◌∙◌, [], ◌++◌, codes, refl, string_bytes}
use Rattle.std.proofs.lemmas.List.{append_assoc}
use Rattle.std.specs.Fmt.{decimal}
use Rattle.std.specs.Str.{encode_utf8_all}
use Rattle.irtext_base.proofs.OnlyAppended.{appends_next, appends_still, appends_this, if_failed}
use Rattle.irtext_base.specs.Appending.{OnlyAppends}
use Rattle.irtext_grammar.specs.Spelling.Locations.{known_text}
use Rattle.irtext_print.specs.Printers.PieceText.{words}
use Rattle.irtext_print.specs.Given.{attributes_of}
use Rattle.irtext_print.specs.Mentions as mentions
use Rattle.irtext_print.proofs.Printers.Locations.{unworded}
use Rattle.irtext_print.proofs.Texts.{entry_put}
use Rattle.irtext_print.proofs.mentions.Mentions.fmt_entry.Goals as goal

pub returns-clause-writes : goal.returns-clause-writes
returns-clause-writes g c =
    let marked = string_bytes c.args.f.now ++ encode_utf8_all (codes "!" ++ decimal c.args.index) in
    record {
      items = c.in_ok-fmt_pairs.ensures.writes.items;
      known = c.in_ok-fmt_pairs.ensures.writes.known;
      text = λ more.
          entry_put (words g.A.IrText.written) (mentions.asking g.A.AttrText.print_once g.A.PartialEq.eq) c.args.self.now.items (mentions.known_in c.fmt_pairs.new.self.known ++ more) c.args.index
          (known_text g.A.IrText.written c.args.ctx.now.paths c.args.given.now.location.now) (attributes_of g.A.AttrText.outlined c.args.given.now)
          (string_bytes c.args.f.now) (string_bytes c.args.f.now ++ codes "!") marked (string_bytes c.fmt_front.new.f) (string_bytes c.fmt_pairs.new.f) (string_bytes c.push_str.new.text)
          refl (unworded (string_bytes c.args.f.now) marked (codes "!") (decimal c.args.index) refl refl) c.in_ok-fmt_front.ensures.text (c.in_ok-fmt_pairs.ensures.writes.text more) c.in_ok-push_str.ensures.bytes;
    }

pub returns-in_err-push_str-clause-appended : goal.returns-in_err-push_str-clause-appended
returns-in_err-push_str-clause-appended g c =
    let front : OnlyAppends c.args.f.now c.fmt_front.new.f = appends_this _ (c.in_ok-fmt_front.ensures.text ∙ append_assoc (string_bytes c.args.f.now) _ _) in
    if_failed _ (appends_still (appends_next {new = c.fmt_pairs.new.f} front _ (c.in_ok-fmt_pairs.ensures.writes.text [])) c.in_err-push_str.ensures.bytes)
