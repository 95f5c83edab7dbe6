use Rattle.std.proofs.Common.{map, take}
use Rattle.irtext_names.proofs.UsedRows.{UsedSoFar}
use Rattle.irtext_names.proofs.uses.use_names.Given as goal

abbrev pub invariant-loop-name : goal.invariant-loop-name
invariant-loop-name g l = UsedSoFar g.K.Referent.kind (map g.N.Named.numbered (take l.name-index l.used)) l.fn.names l.names l.fn.graph l.graph l.fn.referents.items l.referents.items
