use Rattle.std.proofs.Common.{◌≡◌, ◌++◌, ◌∙◌, [], cond, sym, ap, codes, string_bytes}
use Rattle.std.proofs.lemmas.List.{append-nil}
use Rattle.irtext_print.proofs.Printers.PieceTexts.{word_appended}
use Rattle.irtext_print.proofs.ir.print.pieces.fmt_word.Goals as goal
use Rattle.irtext_print.proofs.ir.print.pieces.fmt_word.Goals.{then-not-word_joins_left+in_ok-push_str, else-not-word_joins_left}

pub returns-clause-text : goal.returns-clause-text
returns-clause-text c =
    let old = string_bytes c.args.f.now in
    let before : string_bytes c.if-not-word_joins_left.f ≡ old ++ cond c.word_joins_left.result [] (codes " ") = elim c.if-not-word_joins_left.branch [
      | then-not-word_joins_left+in_ok-push_str w ↦ ap string_bytes w.f-is ∙ w.in_ok-push_str.ensures.bytes ∙ ap (λ b. old ++ cond b [] (codes " ")) (sym w.if-not-word_joins_left.true)
      | else-not-word_joins_left w ↦ ap string_bytes w.f-is ∙ sym (append-nil old) ∙ ap (λ b. old ++ cond b [] (codes " ")) (sym w.if-not-word_joins_left.false)
    ] in
    word_appended c.args.word.now c.word_joins_left.result old (string_bytes c.if-not-word_joins_left.f) (string_bytes c.push_str-2.new.text) c.utf8.word c.word_joins_left.ensures before c.in_ok-push_str-2.ensures.bytes
