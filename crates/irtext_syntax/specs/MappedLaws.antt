-- The law of a part that is seen as another value, such as a struct of the author's with names of its own for what the part holds.
use Rattle.std.proofs.Common.{◌≡◌, true, Bool, ◌++◌, refl, sym, ◌∙◌, ap, subst}
use Rattle.std.specs.Prelude.{◌↔◌, IsTrue}
use Rattle.irtext_base.specs.Text.{Text, after_space}
use Rattle.irtext_base.specs.Own.{found}
use Rattle.irtext_base.proofs.Sincere.{of_mapped, of_sincere, sincere_of}
use Rattle.irtext_tokens.specs.Infix.{Reader, ◌⇒◌}
use Rattle.irtext_syntax.specs.PartLaws.{PartLaw, MissesClosers}
use Rattle.irtext_syntax.specs.PartSteps.{mapped_found, mapped_missing}

-- `from` makes the author's value of the part's, and `to` is its inverse
pub mapped_law : {X Y : Type 0} {reading : Reader X} {written : X → Text} {ends : Text → Bool} (from : X → Y) (to : Y → X) → ((y : Y) → from (to y) ≡ y) → PartLaw reading written ends → PartLaw (reading ⇒ from) (λ y. written (to y)) ends
mapped_law {reading = reading} {written = written} from to same law = record {
  back = λ y rest e. let k = law.back (to y) rest e in
      let text = after_space (written (to y) ++ rest) in
      (k.0, mapped_found from (reading text) (to y) k.0 k.1 ∙ ap (λ z. found z k.0) (same y), k.2);
  closed = law.closed;
  scalars = λ y. law.scalars (to y);
  sincere = sincere_of (reading ⇒ from) (λ t. of_mapped t from (reading t) (of_sincere reading law.sincere t));
}

pub mapped_misses : {X Y : Type 0} {reading : Reader X} (from : X → Y) → MissesClosers reading → MissesClosers (reading ⇒ from)
mapped_misses {reading = reading} from m = record { misses = λ c rest e. mapped_missing from (reading _) (m.misses c rest e) }

pub mapped_decides : {X Y : Type 0} (part_eq : X → X → Bool) (eq : Y → Y → Bool) (from : X → Y) (to : Y → X) → ((y : Y) → from (to y) ≡ y) → ((y z : Y) → eq y z ≡ part_eq (to y) (to z)) → ((x y : X) → IsTrue (part_eq x y) ↔ (x ≡ y)) → (y z : Y) → IsTrue (eq y z) ↔ (y ≡ z)
mapped_decides part_eq eq from to same is d y z = (
  λ e. sym (same y) ∙ (ap from ((d (to y) (to z)).0 (sym (is y z) ∙ e)) ∙ same z),
  λ e. subst (λ w. eq y w ≡ true) e (is y y ∙ (d (to y) (to y)).1 refl),
)
