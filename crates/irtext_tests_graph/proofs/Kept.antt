-- Calls in a row keep what was made before any mark.
use Rattle.std.proofs.Common.{◌≡◌, ◌≤◌, ℕ, arith, subst, Result, Ok, IfOk}
use Rattle.irtext_graph.specs.Graph.{GraphView, KeepsOlder}
use Rattle.irtext_graph.proofs.Closed.{older_on}

-- what holds of the value of a result that is `Ok`
pub got : {X E : Type 0} (P : X → Type 0) (r : Result X E) (x : X) → r ≡ Ok x → IfOk r P → P x
got P r x e k = subst (λ r. IfOk r P) e k

module _ {O B T : Type 0} where
  -- what was made before any mark so far is unchanged
  abbrev pub Keeps : GraphView O B T → GraphView O B T → Type 0
  Keeps old new = (m : ℕ) → m ≤ old.made → KeepsOlder m old new

  pub keeps_on : (a b c : GraphView O B T) → Keeps a b → Keeps b c → Keeps a c
  keeps_on a b c f g m up =
      let first = f m up in
      older_on m a b c first (g m (let e = first.made in omega (arith, up, e)))

  pub keeps_thrice : (a b c d : GraphView O B T) → Keeps a b → Keeps b c → Keeps c d → Keeps a d
  keeps_thrice a b c d f g h = keeps_on a c d (keeps_on a b c f g) h
