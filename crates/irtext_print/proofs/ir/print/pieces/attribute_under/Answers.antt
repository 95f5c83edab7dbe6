use Rattle.std.proofs.Common.{◌≡◌, ◌∙◌, true, Some, ap, sym, option_map, slice_get}
use Rattle.std.specs.Map.Iter.{deref_pair}
use Rattle.std.specs.Str.{bytes_eq}
use Rattle.irtext_print.proofs.Printers.PieceTexts.{first_under}
use Rattle.irtext_print.proofs.ir.print.pieces.attribute_under.Goals as goal

pub returns-then-eq : goal.returns-then-eq
returns-then-eq g c =
    let is : slice_get c.args.attributes.now 0 ≡ Some (c.in-Some.first.now, c.in-Some.attr.now) = sym c.get_index.ensures ∙ ap (option_map deref_pair) c.in-Some.is in
    let same : bytes_eq c.args.key.now c.in-Some.first.now ≡ true = ap (bytes_eq c.args.key.now) (sym c.as_str.ensures.text) ∙ sym c.eq.ensures ∙ c.if-eq.true in
    first_under c.args.key.now c.in-Some.first.now c.in-Some.attr.now c.args.attributes.now is same
