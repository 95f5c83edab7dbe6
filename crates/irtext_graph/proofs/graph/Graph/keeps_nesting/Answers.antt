use Rattle.std.proofs.Common.{◌∙◌, sym, subst, Some}
use Rattle.irtext_graph.specs.Chained.{Among}
use Rattle.irtext_graph.specs.Graph.{IsInside}
use Rattle.irtext_graph.specs.Throughout.{all_from}
use Rattle.irtext_graph.specs.declared.object.Object.{Object}
use Rattle.irtext_graph.proofs.Nesting.{child_fits, holder_is_live, forest_seen}
use Rattle.irtext_graph.proofs.Throughout.{all_come}
use Rattle.irtext_graph.proofs.Views.{up_seen}
use Rattle.irtext_graph.proofs.UsesSeen.{use_is_defined}
use Rattle.irtext_graph.proofs.graph.Graph.keeps_nesting.Goals as goal

pub returns-clause-forest : goal.returns-clause-forest
returns-clause-forest g c = rw (← c.self.view_is) (forest_seen c.self.inside.made c.self.inside.counters c.self.inside.objects c.self.invariant.sound.forest)

pub returns-clause-holders : goal.returns-clause-holders
returns-clause-holders g c = rw (← c.self.view_is) (λ o k e. holder_is_live c.self.inside.made c.self.inside.counters c.self.inside.objects o c.self.invariant.sound.forest (Some k) (sym e ∙ up_seen c.self.inside.made c.self.inside.counters c.self.inside.objects o))

pub returns-clause-kinds : goal.returns-clause-kinds
returns-clause-kinds g c = λ k d i e. child_fits c.args.self.now k d i e

pub returns-clause-uses : goal.returns-clause-uses
returns-clause-uses g c = rw (← c.self.view_is) (λ u d e. use_is_defined c.self.inside.made c.self.inside.counters c.self.inside.objects c.self.invariant.sound u d e)

pub returns-clause-all : goal.returns-clause-all
returns-clause-all g c = subst (λ v. (o q : Object) → IsInside v o q → Among q (all_from v o (Some o))) c.self.view_is (λ o q w. all_come c.self.inside.made c.self.inside.counters c.self.inside.objects o q c.self.invariant.sound.forest w)
