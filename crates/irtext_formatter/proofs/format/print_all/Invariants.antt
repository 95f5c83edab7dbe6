use Rattle.std.proofs.Common.{◌≡◌, ℕ, true, List, [], length}
use Rattle.std.specs.Prelude.{string_bytes}
use Rattle.irtext_parse_state.specs.FromText.{at_beginning}
use Rattle.irtext_formatter.specs.Stands.{place_of, held_by, IsKept, IsReady, Stands}
use Rattle.irtext_formatter.proofs.format.print_all.Given as goal

abbrev pub invariant-loop-left : goal.invariant-loop-left
invariant-loop-left g l = record {
  lent : l.roots.stream.state.ctx.ghost_name ≡ l.fn.roots.stream.state.ctx.ghost_name;
  ready : l.left ≡ true → IsReady l.roots;
  stands : (text : List ℕ) → place_of l.fn.roots ≡ at_beginning text → string_bytes l.fn.out ≡ []
      → (printed : List ℕ) × Stands g.T.IrText g.A.IrText g.A.AttrText g.A.PartialEq.eq l.layout text (held_by l.fn.roots) printed l.left l.roots × IsKept l.kept printed (string_bytes l.out);
}

abbrev pub decreases-loop-left : goal.decreases-loop-left
decreases-loop-left g l = length (place_of l.roots).rest
