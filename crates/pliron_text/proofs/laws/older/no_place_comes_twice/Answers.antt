use Rattle.irtext_graph.proofs.Marks.{counts_on}
use Rattle.pliron_text.proofs.KeptRoots.{gone_for_good, place_is_new}
use Rattle.pliron_text.proofs.laws.older.no_place_comes_twice.Goals as goal

pub returns-clause-gone : goal.returns-clause-gone
returns-clause-gone g c = λ q first old new a b l h. gone_for_good first old new a b q l h

pub returns-clause-places : goal.returns-clause-places
returns-clause-places g c = λ b d first old new x y l h fresh same. place_is_new first old new x y b d l h fresh same

pub returns-clause-on : goal.returns-clause-on
returns-clause-on g c = λ first old new a b. counts_on first.graph old.graph new.graph a b
