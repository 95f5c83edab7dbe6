use Rattle.std.proofs.Common.{◌≡◌}
use Rattle.std.specs.Str.{encode_utf8_all}
use Rattle.irtext_base.specs.Text.{Text}
use Rattle.irtext_tokens.specs.Spelled.{Spelling}
use Rattle.irtext_tokens.proofs.irfmt.parsers.fixed_text.spell.Given as goal

abbrev pub invariant-loop-c : goal.invariant-loop-c
invariant-loop-c g l =
    (goal.iterator-loop-c g).can_next l.c-iterator ×
    (goal.iterator-loop-c g).is_finite l.c-iterator ×
    ((word : Text) → encode_utf8_all word ≡ l.text →
    (taken : Text) × (left : Text) × (encode_utf8_all left ≡ l.c-iterator.rest.now)
    × Spelling g.S.CharStream.view g.S.CharStream.at word l.fn.stream l.stream l.begun taken left)
