-- A fact that a parameter holds truncated may be taken from the walk of a function: an entailment is a proposition.
use Prim.Native.Nat.{ℕ}
use mathlib.Core.List.{List}
use mathlib.Core.Logic.{∥∥₁_elim}
use seplogic.Ra.Ura.{Ura}
use seplogic.Bi.Basic.{Entails-prop}
use base.Logic.{via, mono_r}
use types.Logic.{Logic}
use contract.Lifetimes.{Lfts}
use contract.Monad.{Fun, fact_mono}
use denote.Triple.Entry.{on_entry}
use denote.Triple.Statement.{Triple}
use borrow.Fn.Kind.{ParamKind, ResultKind}
use borrow.Fn.Kinds.{In, Out, Dens, sig_of}
use borrow.Fn.Function.{plain_of}

pub asks_more : {M : Type 1} (𝓤 : Ura M) (𝓛 : Logic 𝓤) (n : ℕ) (ps : List (ParamKind n)) (r : ResultKind n) (run : Fun 𝓤) (P Q : In n ps) (Post : Out n ps r)
    → ((κs : Lfts n) (a : Dens κs ps) → ∥ Q κs a ∥₁) → Triple 𝓤 run (plain_of 𝓛 n ps r Q Post) → Triple 𝓤 run (plain_of 𝓛 n ps r P Post)
asks_more 𝓤 𝓛 n ps r run P Q Post holds t y =
    ∥∥₁_elim (holds y.0.0 y.0.3) (Entails-prop 𝓤.op _ _) (λ held.
    via 𝓤 _ (mono_r 𝓤 (on_entry 𝓛 (sig_of n ps r) y.0.0 y.0.1 y.0.3 y.0.4) (fact_mono 𝓤 (P y.0.0 y.0.3) (Q y.0.0 y.0.3) (λ _. held))) (t y))
