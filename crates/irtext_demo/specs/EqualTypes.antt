-- Integer types compare equal exactly if they are the same values.
use Rattle.std.proofs.Common.{◌≡◌, true, Some, refl, sym, ◌∙◌, ap, ap₂, true≢false}
use Rattle.std.specs.Prelude.{unwrap_or}
use Rattle.std.proofs.lemmas.Bool.{eqb-true}
use Rattle.irtext_base.proofs.Characters.{and_left, and_right}
use Rattle.irtext_demo.specs.IntegerTypes.{integer_type_with}
use Rattle.irtext_demo.specs.WidthOf.{width_of}
use Rattle.irtext_demo.specs.WidthLaws.{width_found}
use Rattle.irtext_demo.specs.declared.width.Width.{Width}
use Rattle.irtext_demo.specs.declared.integer_type.Signedness.{Signedness}
use Rattle.irtext_demo.specs.declared.integer_type.Signedness.TheVariants.{Signed, Unsigned, Signless}
use Rattle.irtext_demo.specs.declared.integer_type.IntegerType.{IntegerType}
use Rattle.irtext_demo.specs.contracts.width.WidthPartialEq.TheImpl as width_test
use Rattle.irtext_demo.specs.contracts.integer_type.SignednessPartialEq.TheImpl as signedness_test
use Rattle.irtext_demo.specs.contracts.integer_type.IntegerTypePartialEq.TheImpl as integer_test

width_same : (v w : Width) → width_test.ghosts.eq v w ≡ true → v ≡ w
width_same v w e =
    let f : Some v ≡ Some w = sym (width_found v) ∙ (ap width_of (eqb-true v.bits w.bits e) ∙ width_found w) in
    ap (λ o. unwrap_or o v) f

signedness_same : (k l : Signedness) → signedness_test.ghosts.eq k l ≡ true → k ≡ l
signedness_same Signed Signed e = refl
signedness_same Signed Unsigned e = absurd (true≢false (sym e))
signedness_same Signed Signless e = absurd (true≢false (sym e))
signedness_same Unsigned Signed e = absurd (true≢false (sym e))
signedness_same Unsigned Unsigned e = refl
signedness_same Unsigned Signless e = absurd (true≢false (sym e))
signedness_same Signless Signed e = absurd (true≢false (sym e))
signedness_same Signless Unsigned e = absurd (true≢false (sym e))
signedness_same Signless Signless e = refl

pub integer_same : (s t : IntegerType) → integer_test.ghosts.eq s t ≡ true → s ≡ t
integer_same s t e = ap₂ integer_type_with (signedness_same s.kind t.kind (and_left _ _ e)) (width_same s.width t.width (and_right _ _ e))
