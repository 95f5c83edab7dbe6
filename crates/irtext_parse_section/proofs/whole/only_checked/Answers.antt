use Rattle.std.proofs.Common.{refl, sym, ◌∙◌, subst, arith}
use Rattle.std.specs.Vec.{vec_len}
use Rattle.irtext_parse_locations.specs.Checked.{Checks}
use Rattle.irtext_parse_locations.proofs.AllOrNone.{none_left}
use Rattle.irtext_parse_locations.proofs.ApplySteps.{no_length}
use Rattle.irtext_parse_section.proofs.OnlyEntry.{only_right, only_wrong}
use Rattle.irtext_parse_section.proofs.whole.only_checked.Goals as goal

pub returns-then-is_empty : goal.returns-then-is_empty
returns-then-is_empty g c =
    let pairs = c.args.entry.now.pairs in
    let none = no_length (vec_len pairs) (sym c.is_empty.ensures ∙ c.if-is_empty.true) in
    (only_right c.args.entry.now (none_left pairs.items (omega (arith, none, pairs.ok.0))), refl)

pub returns : goal.returns
returns g c =
    subst (λ ws. Checks ws c.args.stream.now c.pairs_checked.result c.pairs_checked.new.stream) (only_wrong c.with_hasher-once.result.entries c.args.entry.now c.with_hasher-once.ensures.empty)
    (rw (c.is_block.ensures, c.as_slice.ensures.value) at c.pairs_checked.ensures)
