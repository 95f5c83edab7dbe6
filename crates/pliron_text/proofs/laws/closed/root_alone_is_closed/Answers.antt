use Rattle.irtext_grammar.proofs.Graphs.RepresentsClosed.{found_closed}
use Rattle.pliron_text.proofs.laws.closed.root_alone_is_closed.Goals as goal

pub returns : goal.returns
returns g c C isolated x h d = record { closed = found_closed C isolated x h.found d h.results h.operands h.successors h.alone; fits = h.fits; unlabelled = h.unlabelled }
