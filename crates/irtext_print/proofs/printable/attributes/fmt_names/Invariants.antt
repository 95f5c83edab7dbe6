use Rattle.std.proofs.Common.{◌≡◌, ◌++◌, drop, map, string_bytes}
use Rattle.std.specs.Str.{encode_utf8_all}
use Rattle.irtext_base.specs.Appending.{OnlyAppends}
use Rattle.irtext_grammar.specs.Spelling.Spell.{joined, joined_from, comma, or_question}
use Rattle.irtext_print.proofs.printable.attributes.fmt_names.Given as goal

-- what is written, and then the rest, is all; the text was only appended to
abbrev pub invariant-loop-name : goal.invariant-loop-name
invariant-loop-name l =
    (string_bytes l.f ++ encode_utf8_all (joined_from comma (map or_question (drop l.name-index l.rest))) ≡ string_bytes l.fn.f ++ encode_utf8_all (joined comma (map or_question l.names)))
    × OnlyAppends l.fn.f l.f
