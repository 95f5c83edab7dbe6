use Rattle.std.proofs.Common.{◌≡◌, ◌+◌, ◌++◌, drop, string_bytes}
use Rattle.std.specs.Str.{encode_utf8_all}
use Rattle.irtext_base.specs.Appending.{OnlyAppends}
use Rattle.irtext_grammar.specs.Spelling.Section.{once_texts}
use Rattle.irtext_print.specs.Printers.PieceText.{words}
use Rattle.irtext_print.specs.Mentions as mentions
use Rattle.irtext_print.proofs.Texts.{referred}
use Rattle.irtext_print.proofs.mentions.Mentions.fmt_all_once.Given as goal

-- what is written, and then the rest, is all; the text was only appended to
abbrev pub invariant-loop-place : goal.invariant-loop-place
invariant-loop-place g l =
    (string_bytes l.f ++ encode_utf8_all (once_texts (words g.A.IrText.written) (mentions.asking g.A.AttrText.print_once g.A.PartialEq.eq) (l.self.items + l.place) (referred (drop l.place l.attrs)))
    ≡ string_bytes l.fn.f ++ encode_utf8_all (once_texts (words g.A.IrText.written) (mentions.asking g.A.AttrText.print_once g.A.PartialEq.eq) l.self.items (referred l.attrs)))
    × OnlyAppends l.fn.f l.f
