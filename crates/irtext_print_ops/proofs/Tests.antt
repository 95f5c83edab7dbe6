-- Whether an operation is there, by the test of it.
use Rattle.std.specs.Prelude.{IfOk, IfNone}
use Rattle.irtext_print_ops.specs.declared.frame.Frame.{Frame}
use Rattle.std.proofs.Common.{◌≡◌, ◌↔◌, Bool, false, Option, Some, None, IsSome, IsTrue, refl, sym, true≢false, ◌∙◌, Result, Ok, Err, OnOk, ℕ, zero, suc, List, [], ◌∷◌, drop, slice_get}

-- where the test fails there is none
pub not_there : {X : Type 0} (o : Option X) (b : Bool) → (IsTrue b ↔ IsSome o) → b ≡ false → o ≡ None
not_there None b t e = refl
not_there (Some x) b t e = absurd (true≢false (sym (t.1 refl) ∙ e))

-- the value, if it is present
pub is_there : {X : Type 0} (o : Option X) → IsSome o → (x : X) × (o ≡ Some x)
is_there None h = absurd (true≢false (sym h))
is_there (Some x) h = (x, refl)

-- what follows from two clauses of a call that succeeded, if the second and what follows are about what it returns
pub both_in : {X E P : Type 0} {Q R : X → Type 0} (r : Result X E) → ((x : X) → P → Q x → R x) → OnOk r P → IfOk r Q → IfOk r R
both_in (Ok x) f p q = f x p q
both_in (Err e) f p q = tt

-- what follows of a clause of a call that succeeded, where both speak of what it returns
pub in_ok : {X E : Type 0} {P Q : X → Type 0} (r : Result X E) → ((x : X) → P x → Q x) → IfOk r P → IfOk r Q
in_ok (Ok x) f p = f x p
in_ok (Err e) f p = tt

-- no frame is open where none was closed
pub no_frame : (closed : Option Frame) (frames : List Frame) → closed ≡ None → IfNone closed (frames ≡ []) → frames ≡ []
no_frame None frames e h = h
no_frame (Some f) frames e h = absurd (cc)

-- what is known is known where there is nothing
pub if_none : {X P : Type 0} (o : Option X) → P → IfNone o P
if_none None p = p
if_none (Some x) p = tt

-- after the last nothing is left
pub none_left : {X : Type 0} (xs : List X) (i : ℕ) → slice_get xs i ≡ None → drop i xs ≡ []
none_left [] zero e = refl
none_left [] (suc i) e = refl
none_left (x ∷ xs) zero e = cc
none_left (x ∷ xs) (suc i) e = none_left xs i e
