-- The law of a part with a default value, from the law of the part.
use Rattle.std.proofs.Common.{◌≡◌, Bool, true, false, cond, Some, None, refl, sym, ◌∙◌, ap, subst}
use Rattle.std.specs.Prelude.{◌↔◌, IsTrue}
use Rattle.irtext_base.specs.Text.{Text}
use Rattle.irtext_tokens.specs.Infix.{Reader}
use Rattle.irtext_syntax.specs.MappedLaws.{mapped_law}
use Rattle.irtext_syntax.specs.MaybeLaws.{maybe_law}
use Rattle.irtext_syntax.specs.Maybes.{maybe_ends}
use Rattle.irtext_syntax.specs.PartLaws.{PartLaw, MissesClosers}
use Rattle.irtext_parts.specs.Defaults.{or_default, unless_default, value_or_at, value_or_text}
use Rattle.irtext_parts.specs.Defaulteds.{defaulted_with, defaulted_at, defaulted_text}
use Rattle.irtext_parts.specs.declared.defaulted.Defaulted.{Defaulted}

module _ {P : Type 0} (test : P → P → Bool) (value : P) (decides : (x y : P) → IsTrue (test x y) ↔ (x ≡ y)) where
  by : (x : P) (b : Bool) → test x value ≡ b → or_default value (cond b None (Some x)) ≡ x
  by x true e = sym ((decides x value).0 e)
  by x false e = refl

  -- what is not written is the default value
  back_again : (x : P) → or_default value (unless_default test value x) ≡ x
  back_again x = by x (test x value) refl

  module _ (reading : Reader P) (written : P → Text) (ends : Text → Bool) where
    value_or_law : PartLaw reading written ends → MissesClosers reading → PartLaw (value_or_at value reading) (value_or_text test value written) (maybe_ends ends)
    value_or_law law m = mapped_law (or_default value) (unless_default test value) back_again (maybe_law reading written ends law m)

    pub defaulted_law : {D : Type 0} → PartLaw reading written ends → MissesClosers reading → PartLaw (defaulted_at {D = D} value reading) (defaulted_text test value written) (maybe_ends ends)
    defaulted_law law m = mapped_law defaulted_with (λ x. x.value) (λ x. refl) (value_or_law law m)

pub defaulted_decides : {P D : Type 0} (test : P → P → Bool) (eq : Defaulted P D → Defaulted P D → Bool) → ((x y : Defaulted P D) → eq x y ≡ test x.value y.value) → ((x y : P) → IsTrue (test x y) ↔ (x ≡ y)) → (x y : Defaulted P D) → IsTrue (eq x y) ↔ (x ≡ y)
defaulted_decides test eq is decides x y = (
  λ e. ap defaulted_with ((decides x.value y.value).0 (sym (is x y) ∙ e)),
  λ e. subst (λ z. eq x z ≡ true) e (is x x ∙ (decides x.value x.value).1 refl),
)
