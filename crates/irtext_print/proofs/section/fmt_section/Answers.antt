use Rattle.std.proofs.Common.{◌<◌, [], ◌++◌, ◌∙◌, ap, length, map, string_bytes}
use Rattle.std.specs.Str.{encode_utf8_all}
use Rattle.irtext_base.proofs.OnlyAppended.{appends_next, appends_this, failed_after}
use Rattle.irtext_grammar.specs.Spelling.Section.{once_texts}
use Rattle.irtext_print.specs.Printers.PieceText.{words}
use Rattle.irtext_print.proofs.Printers.Appended.{then}
use Rattle.irtext_print.specs.Given.{printing_of, given_at}
use Rattle.irtext_print.specs.Items.{language_of}
use Rattle.irtext_print.specs.Mentions as mentions
use Rattle.irtext_print.proofs.Written.{not_empty, section_written}
use Rattle.irtext_print.proofs.section.fmt_section.Goals as goal

pub returns-clause-text : goal.returns-clause-text
returns-clause-text g c =
    let C = printing_of g.T.IrText g.A.IrText g.A.AttrText g.A.PartialEq.eq c.args.ctx.now in
    let L = language_of g.T.IrText g.A.IrText g.A.AttrText g.A.PartialEq.eq c.args.ctx.now in
    let gives = given_at g.T.IrText g.A.IrText g.A.AttrText g.A.PartialEq.eq c.args.ctx.now in
    let some : 0 < length c.args.items.now = not_empty (length c.args.items.now) c.if-is_empty.ensures in
    then c.fmt_all_once.result
    (λ r. section_written L C gives c.args.items.now (mentions.known_in c.fmt_items.new.self.known) (string_bytes c.args.f.now) (string_bytes c.push_str.new.text) (string_bytes c.fmt_items.new.f) (string_bytes c.fmt_all_once.new.f)
    some c.in_ok-push_str.ensures.bytes
    (c.in_ok-fmt_items.ensures.writes.known ∙ ap (λ ks. mentions.items_noted C (map (λ r. r.now) ks) (map gives c.args.items.now)) c.with_hasher.ensures.empty)
    c.in_ok-fmt_items.ensures.writes.text (r ∙ ap (λ n. string_bytes c.fmt_items.new.f ++ encode_utf8_all (once_texts (words g.A.IrText.written) (mentions.asking g.A.AttrText.print_once g.A.PartialEq.eq) n (mentions.known_in c.fmt_items.new.self.known))) c.in_ok-fmt_items.ensures.writes.items))
    c.fmt_all_once.ensures.text

pub returns-clause-appended : goal.returns-clause-appended
returns-clause-appended g c =
    failed_after c.fmt_all_once.result c.fmt_all_once.new.f (appends_next {now = c.push_str.new.text} {new = c.fmt_items.new.f} (appends_this _ c.in_ok-push_str.ensures.bytes) _ (c.in_ok-fmt_items.ensures.writes.text [])) c.fmt_all_once.ensures.appended
