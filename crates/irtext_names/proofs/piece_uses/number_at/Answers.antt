use Rattle.std.proofs.Common.{◌∙◌, ap, sym, Some}
use Rattle.irtext_names.proofs.Steady.{number_here}
use Rattle.irtext_names.proofs.piece_uses.number_at.Goals as goal

pub returns : goal.returns
returns c = number_here (λ n. n.name) c.args.names.now c.args.index c.index.result.now c.requires ∙ ap (λ n. Some n.name) (sym c.index.ensures)
