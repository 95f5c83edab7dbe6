use Rattle.irtext_grammar.specs.Graphs.Graph.{entries_of}
use Rattle.irtext_grammar.proofs.RoundTrips.RootResolves.{marks_in_order}
use Rattle.irtext_grammar.proofs.Sections.Indices.{section_indices}
use Rattle.irtext_grammar.proofs.Sections.SharedOnce.{distinct_shared}
use Rattle.pliron_text.proofs.laws.section.indices_in_order.Goals as goal

pub returns-clause-marks : goal.returns-clause-marks
returns-clause-marks g c C isolated l x w f = marks_in_order C isolated l x w f

pub returns-clause-entries : goal.returns-clause-entries
returns-clause-entries g c C l x = section_indices C (entries_of C l x)

pub returns-clause-once : goal.returns-clause-once
returns-clause-once g c C l x sound reflexive = distinct_shared C sound reflexive (entries_of C l x)
