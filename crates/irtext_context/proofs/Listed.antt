-- The operation at an index: its format was accepted, and its key is kept exactly if it has a symbol's name.
use Rattle.std.proofs.Common.{◌≡◌, ℕ, zero, suc, List, [], ◌∷◌, slice_get, Option, Some, None, subst, sym}
use Rattle.std.specs.Prelude.{IfSome, option_map}
use Rattle.std.specs.Map.Iter.{deref_pair}
use denote.Ref.{Bor}
use Rattle.irtext_base.specs.Text.{Text}
use Rattle.irtext_base.specs.Format.{Accepted}
use Rattle.irtext_base.specs.FormatViews.{format_of}
use Rattle.irtext_base.specs.declared.base.identifier.OpId.{OpId}
use Rattle.irtext_context.specs.Dialects.{AreAccepted, AreKeyed, IsKeyed, known_entries}
use Rattle.irtext_context.specs.declared.dialect.OpInfo.{OpInfo}

-- what holds of each entry holds of the one at an index
at_index : (Q : OpId × OpInfo → Type 0) (r : Option (Bor OpId × Bor OpInfo)) (o : Option (OpId × OpInfo)) → option_map deref_pair r ≡ o → IfSome o Q → IfSome r (λ e. Q (deref_pair e))
at_index Q None o e h = tt
at_index Q (Some p) o e h = subst (λ z. IfSome z Q) (sym e) h

accepted_here : (name : Text) (es : List (OpId × OpInfo)) (i : ℕ) → AreAccepted name (known_entries es) → IfSome (slice_get es i) (λ e. Accepted (format_of e.1.format))
accepted_here name [] i a = tt
accepted_here name (e ∷ es) zero a = a.1
accepted_here name (e ∷ es) (suc i) a = accepted_here name es i a.2

keyed_here : (es : List (OpId × OpInfo)) (i : ℕ) → AreKeyed es → IfSome (slice_get es i) (λ e. IsKeyed e.1)
keyed_here [] i a = tt
keyed_here (e ∷ es) zero a = a.0
keyed_here (e ∷ es) (suc i) a = keyed_here es i a.1

pub accepted_at : (name : Text) (r : Option (Bor OpId × Bor OpInfo)) (es : List (OpId × OpInfo)) (i : ℕ) → option_map deref_pair r ≡ slice_get es i → AreAccepted name (known_entries es) → IfSome r (λ e. Accepted (format_of e.1.now.format))
accepted_at name r es i e a = at_index (λ x. Accepted (format_of x.1.format)) r (slice_get es i) e (accepted_here name es i a)

pub keyed_at : (r : Option (Bor OpId × Bor OpInfo)) (es : List (OpId × OpInfo)) (i : ℕ) → option_map deref_pair r ≡ slice_get es i → AreKeyed es → IfSome r (λ e. IsKeyed e.1.now)
keyed_at r es i e a = at_index (λ x. IsKeyed x.1) r (slice_get es i) e (keyed_here es i a)
