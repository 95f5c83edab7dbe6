use Rattle.std.proofs.Common.{◌∙◌, ◌++◌, ap, sym, string_bytes}
use Rattle.std.specs.Str.{encode_utf8_all}
use Rattle.irtext_grammar.specs.Contexts.Held.{attribute_of}
use Rattle.irtext_print.proofs.Printers.Appended.{then}
use Rattle.irtext_print.proofs.Printers.PieceTexts.{identifier_appended}
use Rattle.irtext_print.specs.Printers.PieceText.{words}
use Rattle.irtext_print.specs.Entries as texts
use Rattle.irtext_print.specs.Given.{given_pair}
use Rattle.irtext_print.specs.Mentions as mentions
use Rattle.irtext_print.proofs.Texts.{pair_appended}
use Rattle.irtext_print.proofs.mentions.Mentions.fmt_pair.Goals as goal

pub returns-in_ok-push_str-in-Outlined-2-clause-writes : goal.returns-in_ok-push_str-in-Outlined-2-clause-writes
returns-in_ok-push_str-in-Outlined-2-clause-writes g c =
    let C = mentions.asking g.A.AttrText.print_once g.A.PartialEq.eq in
    let W = words g.A.IrText.written in
    let items = c.args.self.now.items in
    let key = c.in-Outlined.key.now in
    let named = identifier_appended key c.as_str.result.now (string_bytes c.args.f.now) (string_bytes c.push_str.new.text) c.as_str.ensures.fits c.as_str.ensures.text c.in_ok-push_str-in-Outlined.ensures.bytes in
    then c.fmt_attribute.result
    (λ r. record {
      items = r.items;
      known = r.known ∙ ap (λ p. mentions.noted C (mentions.known_in c.args.self.now.known) (given_pair p).1) (sym c.in-Outlined.is);
      text = λ more.
          let once = mentions.known_in c.fmt_attribute.new.self.known ++ more in
          pair_appended W C items once (key, attribute_of c.in-Outlined.attr.now)
          (string_bytes c.args.f.now) (string_bytes c.push_str.new.text) (string_bytes c.push_str-in-Outlined.new.text) (string_bytes c.fmt_attribute.new.f) named c.in_ok-push_str-in-Outlined-2.ensures.bytes (r.text more)
          ∙ ap (λ p. string_bytes c.args.f.now ++ encode_utf8_all (texts.pair_text C items once W (given_pair p))) (sym c.in-Outlined.is);
    })
    c.fmt_attribute.ensures.writes
