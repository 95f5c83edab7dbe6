-- If each call of an item returns what a relation says of a text, so does the list of items.
use Rattle.std.proofs.Common.{◌≡◌, Result, Ok, Err, sym, ap, ◌⊎◌, subst}
use Rattle.irtext_base.specs.Text.{Text}
use Rattle.irtext_base.specs.Stream.{StreamView}
use Rattle.irtext_base.specs.Faults.{Fault}
use Rattle.irtext_base.specs.Answers.{Outcome, Read, Missing, Bad, Takes, RunsOut, Commits, Passes}
use Rattle.irtext_base.specs.declared.parsable.fault.ParseFault.{ParseFault}
use Rattle.irtext_base.proofs.Compose.{seen_after}

module _ {S X Y A : Type 0} (view : S → StreamView) (at : S → StreamView → S) (see : X → Y) (R : Text → Outcome Y → Type 0) where
  -- what a call on a stream that has not failed returns
  abbrev pub Each : S → Result X (ParseFault A) → S → Type 0
  Each s (Ok x) t = (k : Text) × (q : Text) × R (view s).rest (Read (see x) k q) × Takes view at k q s t
  Each s (Err f) t = RunsOut view at s f t ⊎ (((c : Fault) × R (view s).rest (Missing c) × Passes view at c s f t) ⊎ ((c : Fault) × (u : Text) × R (view s).rest (Bad c u) × Commits view at c u s f t))

module _ {S F X Y A : Type 0} (view : S → StreamView) (at : S → StreamView → S) (view_at : (s : S) (v : StreamView) → view (at s v) ≡ v) (at_view : (s : S) → at s (view s) ≡ s) (at_at : (s : S) (v w : StreamView) → at (at s v) w ≡ at s w)
    (calls : F → S → Result X (ParseFault A) → F → S → Type 0) (see : X → Y) (R : Text → Outcome Y → Type 0) where
  -- a value with the rest as the stream has it
  pub settled : (s t : S) (x : X) → Each {A = A} view at see R s (Ok x) t → (k : Text) × R (view s).rest (Read (see x) k (view t).rest) × Takes view at k (view t).rest s t
  settled s t x e =
      let seen : (view t).rest ≡ e.1 = ap (λ v. v.rest) (seen_after view at view_at at_at s t e.0 e.1 e.3) in
      (e.0, subst (λ z. R (view s).rest (Read (see x) e.0 z)) (sym seen) e.2, subst (λ z. Takes view at e.0 z s t) (sym seen) e.3)
