-- The law of two parts with a fixed text between them, and of a part in brackets, from the laws of the parts.
use Rattle.std.proofs.Common.{◌≡◌, Bool, true, ◌++◌, refl, sym, ◌∙◌, ap, ap₂, append_assoc, subst}
use Rattle.std.specs.Prelude.{◌↔◌, IsTrue, ◌&&◌}
use Rattle.irtext_base.specs.Text.{Text, after_space}
use Rattle.irtext_base.specs.Answers.{mapped}
use Rattle.irtext_base.specs.Own.{found, verdict}
use Rattle.irtext_base.proofs.Characters.{and_left, and_right}
use Rattle.irtext_base.proofs.Scalars.{scalars_more}
use Rattle.irtext_base.proofs.Sincere.{of_followed, of_mapped, of_sincere, sincere_of}
use Rattle.irtext_tokens.proofs.SincereTokens.{of_text, of_space, of_spaced}
use Rattle.irtext_tokens.specs.Demanded.{spaced_at}
use Rattle.irtext_tokens.specs.Infix.{Reader, ◌▷◌}
use Rattle.irtext_tokens.specs.Tokens.{space_at, word}
use Rattle.irtext_syntax.specs.FixedTexts.{BetweenLaw, BracketsLaw, open_at, close_at}
use Rattle.irtext_syntax.specs.PartLaws.{IsRead, PartLaw, MissesClosers}
use Rattle.irtext_syntax.specs.PartSteps.{then_found, mapped_found, then_missing, spaced_same, word_misses, ascii_scalars}
use Rattle.irtext_syntax.specs.Sequences.{then_with, second_at, then_at, of_then, within_with, shut_at, inside_at, within_at, of_within, anything}
use Rattle.irtext_syntax.specs.declared.sequence.Then.{Then}
use Rattle.irtext_syntax.specs.declared.sequence.Within.{Within}

-- a fixed text that comes after white space is parsed, whatever white space it is
between_found : (text printed left rest : Text) → BetweenLaw text printed → after_space left ≡ after_space (printed ++ rest) → verdict (spaced_at text left) ≡ found tt (after_space rest)
between_found text printed left rest w e = spaced_same (word text ▷ space_at) left (printed ++ rest) e ∙ w.back rest

module _ {P W Q : Type 0} (first : Reader P) (first_text : P → Text) (first_ends : Text → Bool) (text printed : Text) (second : Reader Q) (second_text : Q → Text) (second_ends : Text → Bool) where
  abbrev at : Reader (Then P W Q)
  at = then_at first text second

  abbrev text_of : Then P W Q → Text
  text_of = of_then first_text printed second_text

  then_back : PartLaw first first_text first_ends → BetweenLaw text printed → ((rest : Text) → first_ends (printed ++ rest) ≡ true) → PartLaw second second_text second_ends
      → (x : Then P W Q) (rest : Text) → second_ends rest ≡ true → IsRead at x (text_of x ++ rest) rest
  then_back p w after q x rest e =
      let tail = second_text x.second ++ rest in
      let one = p.back x.first (printed ++ tail) (after tail) in
      let two = q.back x.second rest e in
      let last = then_found (spaced_at text one.0) (λ _ t. mapped (then_with x.first) (second t)) tt x (after_space tail) two.0 (between_found text printed one.0 tail w one.2) (mapped_found (then_with x.first) (second (after_space tail)) x.second two.0 two.1) in
      let flat = append_assoc (first_text x.first) (printed ++ second_text x.second) rest ∙ ap (λ z. first_text x.first ++ z) (append_assoc printed (second_text x.second) rest) in (
        two.0,
        ap (λ z. verdict (at (after_space z))) flat ∙ then_found (first (after_space (first_text x.first ++ (printed ++ tail)))) (λ y t. second_at text second y t) x.first x one.0 two.0 one.1 last,
        two.2,
      )

  pub then_law : PartLaw first first_text first_ends → BetweenLaw text printed → ((rest : Text) → first_ends (printed ++ rest) ≡ true) → PartLaw second second_text second_ends → PartLaw at text_of second_ends
  then_law p w after q = record {
    back = then_back p w after q;
    closed = q.closed;
    scalars = λ x. scalars_more (first_text x.first) (printed ++ second_text x.second) (p.scalars x.first) (scalars_more printed (second_text x.second) (ascii_scalars printed w.ascii) (q.scalars x.second));
    sincere = sincere_of at (λ t. of_followed t _ _ (of_sincere first p.sincere t) (λ x u. of_followed u _ _ (of_spaced text u) (λ _ v. of_mapped v (then_with x) (second v) (of_sincere second q.sincere v))));
  }

pub then_misses : {P W Q : Type 0} (first : Reader P) (text : Text) (second : Reader Q) → MissesClosers first → MissesClosers (then_at {W = W} first text second)
then_misses first text second m = record { misses = λ c rest e. then_missing (first _) _ (m.misses c rest e) }

-- equality of both parts is equality of the whole
pub then_decides : {P W Q : Type 0} (first_eq : P → P → Bool) (second_eq : Q → Q → Bool) (eq : Then P W Q → Then P W Q → Bool) → ((x y : Then P W Q) → eq x y ≡ (first_eq x.first y.first && second_eq x.second y.second))
    → ((x y : P) → IsTrue (first_eq x y) ↔ (x ≡ y)) → ((x y : Q) → IsTrue (second_eq x y) ↔ (x ≡ y)) → (x y : Then P W Q) → IsTrue (eq x y) ↔ (x ≡ y)
then_decides first_eq second_eq eq is p q x y = (
  λ e. let b = sym (is x y) ∙ e in ap₂ then_with ((p x.first y.first).0 (and_left _ _ b)) ((q x.second y.second).0 (and_right _ _ b)),
  λ e. subst (λ z. eq x z ≡ true) e (is x x ∙ ap₂ (λ a b. a && b) ((p x.first x.first).1 refl) ((q x.second x.second).1 refl)),
)

module _ {B P : Type 0} (opener closer opener_printed closer_printed : Text) (inside : Reader P) (inside_text : P → Text) (inside_ends : Text → Bool) where
  abbrev within : Reader (Within B P)
  within = within_at opener closer inside

  abbrev within_of : Within B P → Text
  within_of = of_within opener_printed inside_text closer_printed

  within_back : BracketsLaw opener closer opener_printed closer_printed → PartLaw inside inside_text inside_ends → (x : Within B P) (rest : Text) → anything rest ≡ true → IsRead within x (within_of x ++ rest) rest
  within_back b p x rest e =
      let following = closer_printed ++ rest in
      let tail = inside_text x.inside ++ following in
      let one = p.back x.inside following (p.closed following (b.closing rest)) in
      let shut = mapped_found (λ _. within_with x.inside) (close_at closer one.0) tt rest (spaced_same (word closer) one.0 following one.2 ∙ b.shuts rest) in
      let last = then_found (inside (after_space tail)) (λ y t. shut_at closer y t) x.inside x one.0 rest one.1 shut in
      let flat = append_assoc opener_printed (inside_text x.inside ++ closer_printed) rest ∙ ap (λ z. opener_printed ++ z) (append_assoc (inside_text x.inside) closer_printed rest) in (
        rest,
        ap (λ z. verdict (within (after_space z))) flat ∙ then_found (open_at opener (after_space (opener_printed ++ tail))) (λ _ t. inside_at closer inside t) tt x (after_space tail) rest (b.opens tail) last,
        refl,
      )

  pub within_law : BracketsLaw opener closer opener_printed closer_printed → PartLaw inside inside_text inside_ends → PartLaw within within_of anything
  within_law b p = record {
    back = within_back b p;
    closed = λ rest e. refl;
    scalars = λ x. scalars_more opener_printed (inside_text x.inside ++ closer_printed) (ascii_scalars opener_printed b.ascii_open) (scalars_more (inside_text x.inside) closer_printed (p.scalars x.inside) (ascii_scalars closer_printed b.ascii_close));
    sincere = sincere_of within (λ t. of_followed t _ _ (of_followed t _ _ (of_text opener t) (λ _ u. of_space u)) (λ _ u. of_followed u _ _ (of_sincere inside p.sincere u) (λ x v. of_mapped v (λ _. within_with x) (close_at closer v) (of_followed v _ _ (of_space v) (λ _ w. of_text closer w)))));
  }

pub within_misses : {B P : Type 0} (opener closer opener_printed closer_printed : Text) (inside : Reader P) → BracketsLaw opener closer opener_printed closer_printed → MissesClosers (within_at {B = B} opener closer inside)
within_misses opener closer opener_printed closer_printed inside b = record { misses = λ c rest e. then_missing (open_at opener _) _ (then_missing (word opener _) _ (word_misses opener b.opening c rest e)) }

pub within_decides : {B P : Type 0} (inside_eq : P → P → Bool) (eq : Within B P → Within B P → Bool) → ((x y : Within B P) → eq x y ≡ inside_eq x.inside y.inside) → ((x y : P) → IsTrue (inside_eq x y) ↔ (x ≡ y)) → (x y : Within B P) → IsTrue (eq x y) ↔ (x ≡ y)
within_decides inside_eq eq is p x y = (
  λ e. ap within_with ((p x.inside y.inside).0 (sym (is x y) ∙ e)),
  λ e. subst (λ z. eq x z ≡ true) e (is x x ∙ (p x.inside x.inside).1 refl),
)
