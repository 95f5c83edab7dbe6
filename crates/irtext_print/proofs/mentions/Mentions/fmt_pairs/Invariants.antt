use Rattle.std.proofs.Common.{◌≡◌, string_bytes}
use Rattle.irtext_base.specs.Appending.{OnlyAppends}
use Rattle.irtext_print.specs.Printers.PieceText.{words}
use Rattle.irtext_print.specs.Given.{attributes_of, attributes_left}
use Rattle.irtext_print.specs.Mentions as mentions
use Rattle.irtext_print.proofs.Written.{PairsSoFar}
use Rattle.irtext_print.proofs.mentions.Mentions.fmt_pairs.Given as goal

-- there are as many items, what was written and what is left are all, and the text was only appended to
abbrev pub invariant-loop-pair : goal.invariant-loop-pair
invariant-loop-pair g l =
    (l.self.items ≡ l.fn.self.items)
    × PairsSoFar (words g.A.IrText.written) (mentions.asking g.A.AttrText.print_once g.A.PartialEq.eq) l.fn.self.items (attributes_of g.A.AttrText.outlined l.given) (mentions.known_in l.fn.self.known)
    (mentions.known_in l.self.known) (attributes_left g.A.AttrText.outlined l.pair-iterator) l.first (string_bytes l.fn.f) (string_bytes l.f)
    × OnlyAppends l.fn.f l.f
