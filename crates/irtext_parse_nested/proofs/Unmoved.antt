-- A context that is as it was keeps all that is older.
use Rattle.std.proofs.Common.{◌≡◌, ℕ, refl, sym, subst}
use Rattle.irtext_context.specs.Context.{ContextView, KeepsOlder}
use Rattle.irtext_names.proofs.Lists.{older_itself}

pub keeps_unmoved : {T A : Type 0} {old new : ContextView T A} → new ≡ old → (m : ℕ) → KeepsOlder m old new
keeps_unmoved {old = old} e m = subst (λ x. KeepsOlder m old x) (sym e) (record { graph = older_itself m old.graph; paths = λ i p h. h; dialects = refl })
