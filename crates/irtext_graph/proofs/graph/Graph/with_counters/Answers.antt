use Rattle.irtext_graph.proofs.Sounds.{sound_empty}
use Rattle.irtext_graph.proofs.Logs.{logged_empty}
use Rattle.irtext_graph.specs.declared.objects.Objects.{Objects}
use Rattle.irtext_graph.proofs.Numbers.{numbered_empty}
use Rattle.irtext_graph.proofs.graph.Graph.with_counters.Goals as goal

pub invariant_of-result : goal.invariant_of-result
invariant_of-result g c =
    let x : Objects _ _ _ = record { operations = c.new.result; blocks = c.new-2.result; regions = c.new-3.result } in
    record {
      sound = sound_empty x c.new.ensures c.new-2.ensures c.new-3.ensures;
      logged = logged_empty x c.new.ensures c.new-2.ensures c.new-3.ensures c.new-4.result.items c.new-4.ensures.items;
      numbered = numbered_empty 0 _ x c.new.ensures c.new-2.ensures;
    }
