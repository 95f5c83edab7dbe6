use Rattle.std.proofs.Common.{◌+◌, ◌++◌, ◌∙◌, ap, codes, refl, string_bytes}
use Rattle.std.specs.Fmt.{decimal}
use Rattle.irtext_print.proofs.Printers.Appended.{then}
use Rattle.irtext_print.proofs.Printers.Locations.{unworded}
use Rattle.irtext_grammar.specs.Graphs.Graph.{place_in}
use Rattle.irtext_print.specs.Mentions as mentions
use Rattle.irtext_print.proofs.Texts.{reference_appended}
use Rattle.irtext_print.proofs.mentions.Mentions.fmt_reference.Goals as goal

pub returns-clause-writes : goal.returns-clause-writes
returns-clause-writes g c =
    let C = mentions.asking g.A.AttrText.print_once g.A.PartialEq.eq in
    let old = string_bytes c.args.f.now in
    let new = string_bytes c.fmt_index.new.f in
    let index = c.note.new.self.items + c.in_ok-place.place in
    then c.fmt_index.result (λ q. record {
      items = c.in_ok-place.ensures.items;
      known = c.in_ok-place.ensures.known;
      text = λ more.
          let wanted = c.args.self.now.items + place_in C (mentions.known_in c.note.new.self.known ++ more) c.args.attr.now in
          reference_appended index wanted old (old ++ codes "!") new (ap (λ n. n + c.in_ok-place.place) c.in_ok-place.ensures.items ∙ ap (λ p. c.args.self.now.items + p) (c.in_ok-place.ensures.place more)) refl
          (unworded old new (codes "!") (decimal index) refl q);
    }) c.fmt_index.ensures.text
