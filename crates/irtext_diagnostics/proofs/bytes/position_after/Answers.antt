use Rattle.std.proofs.Common.{◌∙◌, not, length, reverse, sym, ap, to_z, of_z, w32}
use Rattle.std.specs.Prelude.{count_by}
use Rattle.std.proofs.lemmas.Iterator.{YieldsList-from_chars}
use Rattle.std.proofs.lemmas.Iterator.Consumers.{YieldsList-end}
use Rattle.std.proofs.lemmas.List.{map-id}
use Rattle.std.specs.List.{take_while}
use Rattle.irtext_stream.specs.Stream.{cut}
use Rattle.irtext_stream.specs.Text.{is_newline, line_after, column_after}
use Rattle.irtext_diagnostics.proofs.Places.{stored}
use Rattle.irtext_diagnostics.proofs.bytes.position_after.Goals as goal

pub returns : goal.returns
returns c =
    let all = YieldsList-end (YieldsList-from_chars c.args.text.now c.utf8.text cc) c.loop-c.yielded _ c.loop-c.yielded_by _ _ c.in-None.is c.next.ensures.steps in
    let same = sym (map-id c.loop-c.yielded) ∙ all.0 in (
      ap (λ z. to_z w32 (of_z w32 z)) c.number.ensures ∙ stored c.loop-c.lines (count_by is_newline c.loop-c.yielded) c.loop-c.invariant.0 ∙ ap (λ t. cut (line_after t)) same,
      ap (λ z. to_z w32 (of_z w32 z)) c.number-2.ensures ∙ stored c.loop-c.characters (length (take_while (λ c. not (is_newline c)) (reverse c.loop-c.yielded))) c.loop-c.invariant.1 ∙ ap (λ t. cut (column_after t)) same,
    )
