use Rattle.std.proofs.Common.{◌∙◌, ◌++◌, ap, sym, refl, string_bytes}
use Rattle.std.proofs.lemmas.List.{append-nil}
use Rattle.std.specs.Str.{encode_utf8_all}
use Rattle.irtext_print.proofs.Printers.Appended.{then}
use Rattle.irtext_print.specs.Given.{printing_of, entry_of}
use Rattle.irtext_print.specs.Items.{language_of, given_text}
use Rattle.irtext_print.specs.Mentions as mentions
use Rattle.irtext_print.proofs.Written.{all_alone, entry_alone}
use Rattle.irtext_print.proofs.mentions.Mentions.fmt_item.Goals as goal

pub returns-in-Some-clause-writes : goal.returns-in-Some-clause-writes
returns-in-Some-clause-writes g c =
    let C = printing_of g.T.IrText g.A.IrText g.A.AttrText g.A.PartialEq.eq c.args.ctx.now in
    let L = language_of g.T.IrText g.A.IrText g.A.AttrText g.A.PartialEq.eq c.args.ctx.now in
    let e = entry_of C g.A.IrText.written c.args.ctx.now g.A.AttrText.outlined c.in-Some.given in
    let before = mentions.known_in c.args.self.now.known in
    let known = mentions.known_in c.fmt_entry.new.self.known in
    let old = string_bytes c.args.f.now in
    let count = c.args.self.now.items in
    then c.fmt_entry.result
    (λ r. record {
      items = r.items;
      known = r.known ∙ all_alone L C before e.attributes ∙ ap (mentions.one_noted C before) c.in-Some.ensures;
      text = λ more.
          r.text more ∙ ap (λ z. old ++ encode_utf8_all z) (entry_alone L C count (known ++ more) c.args.index e)
          ∙ ap (λ o. old ++ encode_utf8_all (given_text C L count (known ++ more) c.args.index o)) c.in-Some.ensures;
    })
    c.fmt_entry.ensures.writes

pub returns-in-None-clause-writes : goal.returns-in-None-clause-writes
returns-in-None-clause-writes g c =
    let C = printing_of g.T.IrText g.A.IrText g.A.AttrText g.A.PartialEq.eq c.args.ctx.now in
    let L = language_of g.T.IrText g.A.IrText g.A.AttrText g.A.PartialEq.eq c.args.ctx.now in
    let before = mentions.known_in c.args.self.now.known in
    let old = string_bytes c.args.f.now in
    record {
      items = refl;
      known = ap (mentions.one_noted C before) c.in-None.ensures;
      text = λ more. sym (append-nil old) ∙ ap (λ o. old ++ encode_utf8_all (given_text C L c.args.self.now.items (before ++ more) c.args.index o)) c.in-None.ensures;
    }
