use Rattle.std.proofs.Common.{◌≡◌, ◌∙◌, ◌+◌, sym, ap, arith, rules, take, count_by}
use Rattle.irtext_stream.specs.Text.{line_after, column_after}
use Rattle.irtext_stream.specs.Stream.{cut}
use Rattle.irtext_stream.specs.Index.{begins_character, entry_before}
use Rattle.irtext_stream.proofs.Lines.{position_is}
use Rattle.irtext_stream.proofs.index.TextIndex.position.Goals as goal

pub returns : goal.returns
returns c = λ passed rest e o.
    let bs = c.args.text.now in
    let starts = c.args.self.now.starts.items in
    let line = c.line_at-line.result in
    let start = c.entry_before-start.result in
    let n = c.characters_between-characters.result in
    let up = rw c.deref.ensures.value at c.line_at-line.ensures.up_to in
    let p = position_is bs passed rest starts c.args.offset line c.utf8.text c.requires.indexed.lines e o up.within up.before (rw c.deref.ensures.value at c.line_at-line.ensures.following) in
    let s : start ≡ entry_before starts line = c.entry_before-start.ensures ∙ ap (λ t. entry_before t line) c.deref-2.ensures.value in
    let x : count_by begins_character (take start bs) + n ≡ count_by begins_character (take c.args.offset bs) = rw c.as_bytes.ensures.value at c.characters_between-characters.ensures in
    let y : count_by begins_character (take start bs) ≡ count_by begins_character (take (entry_before starts line) bs) = ap (λ k. count_by begins_character (take k bs)) s in
    let l : c.shown.result ≡ cut (line_after passed) = c.shown.ensures ∙ ap cut (sym p.0) in
    let m : c.shown-2.result ≡ cut (column_after passed) = c.shown-2.ensures ∙ ap cut (omega (arith, x, y, p.1)) in
    (search (rules, l), search (rules, m))
