use Rattle.std.proofs.Common.{◌≡◌, ◌≤◌, ℕ, List, Ok, Some, []}
use Rattle.irtext_tokens.specs.AttrTexts.{attr_at}
use Rattle.irtext_grammar.specs.Contexts.Held.{whole}
use Rattle.irtext_parse_root.specs.Here.{Base, IsHere}
use Rattle.irtext_parse_root.specs.Levels.{Level, AreAllNew, left_to_do}
use Rattle.irtext_parse_root.specs.Turned.{Carries, Arrives, Spares}
use Rattle.irtext_parse_root.proofs.items.items_parse.Given as goal

-- the frames that were open at the start led to those that are open now, and older objects are unchanged
abbrev pub invariant-loop-next : goal.invariant-loop-next
invariant-loop-next g l = record {
  lent : l.s.state.ctx.ghost_name ≡ l.fn.s.state.ctx.ghost_name;
  carries : Carries l.fn.names l.fn.s l.names l.s;
  arrives : (base : Base) (v k : ℕ) (ls : List (Level g.row.T.Denot g.row.A.Denot)) → IsHere base v k ls l.fn.names (whole l.fn.s.stream) l.fn.s.state.ctx.now (Some l.fn.first) []
      → Arrives g.T.IrText.reading (attr_at g.A.IrText.reading) base v k ls l.fn.names l.fn.s l.names l.s l.next l.frames;
  spares : Spares {A = g.row.A.Denot} {X = Unit {0}} (λ m. AreAllNew m l.fn.s.state.ctx.now.graph (Some l.fn.first) []) l.fn.names l.fn.s.state (Ok tt) l.names l.s.state;
  fresh : (m : ℕ) → m ≤ l.fn.s.state.ctx.now.graph.made → AreAllNew m l.fn.s.state.ctx.now.graph (Some l.fn.first) [] → AreAllNew m l.s.state.ctx.now.graph l.next l.frames;
}

abbrev pub decreases-loop-next : goal.decreases-loop-next
decreases-loop-next g l = left_to_do g.row.T.Denot g.row.A.Denot l.fn.s.state.ctx.now.dialects l.next l.frames l.s.stream.rest
