use Rattle.std.proofs.Common.{refl, sym, ◌∙◌}
use Rattle.irtext_parse_pieces.proofs.lists.comma_taken.Goals as goal

pub returns-then-not-next_is : goal.returns-then-not-next_is
returns-then-not-next_is g c = (sym c.next_is.ensures ∙ c.if-not-next_is.true, refl)

pub returns : goal.returns
returns g c = record { comes = sym c.next_is.ensures ∙ c.if-not-next_is.false; mid = c.take.new.self; taken = c.take.ensures.after; spaced = c.skip_white_space.ensures }
