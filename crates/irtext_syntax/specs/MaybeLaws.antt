-- The law of a part that may be left out, from the law of the part.
use Rattle.std.proofs.Common.{◌≡◌, Bool, true, false, ◌&&◌, Option, Some, None, [], ◌∷◌, ◌++◌, refl, sym, ◌∙◌, ap, subst, true≢false}
use Rattle.std.specs.Prelude.{◌↔◌, IsTrue}
use Rattle.irtext_base.specs.Text.{Text, begins, after_space}
use Rattle.irtext_base.specs.Answers.{Outcome, Read, Missing, Bad}
use Rattle.irtext_base.specs.Own.{found, missing, verdict, can_follow}
use Rattle.irtext_base.proofs.Characters.{and_left, and_right, after_twice}
use Rattle.irtext_base.proofs.Sincere.{Of, of_read, of_bad, of_sincere, sincere_of}
use Rattle.std.specs.Char.{is_whitespace}
use Rattle.std.specs.Str.{all_scalars}
use Rattle.irtext_tokens.specs.Infix.{Reader}
use Rattle.irtext_syntax.specs.Maybes.{or_none, maybe_at, maybe_text, maybe_ends}
use Rattle.irtext_syntax.specs.PartLaws.{is_closer, IsRead, PartLaw, MissesClosers}

-- what is found is found, and where it is missing nothing is consumed
or_none_found : {X : Type 0} (o : Outcome X) (text : Text) (x : X) (rest : Text) → verdict o ≡ found x rest → verdict (or_none o text) ≡ found (Some x) rest
or_none_found (Read y taken r) text x rest e = cc
or_none_found (Missing cause) text x rest e = absurd (cc)
or_none_found (Bad cause upto) text x rest e = absurd (cc)

or_none_missing : {X : Type 0} (o : Outcome X) (text : Text) → verdict o ≡ missing → verdict (or_none o text) ≡ found None text
or_none_missing (Read y taken r) text e = absurd (cc)
or_none_missing (Missing cause) text e = refl
or_none_missing (Bad cause upto) text e = absurd (cc)

both : (a b : Bool) → a ≡ true → b ≡ true → (a && b) ≡ true
both true b e f = f
both false b e f = absurd (true≢false (sym e))

module _ {X : Type 0} (reading : Reader X) (written : X → Text) (ends : Text → Bool) where
  -- it is missing where a closing character comes
  missed : MissesClosers reading → (text : Text) → begins is_closer text ≡ true → verdict (maybe_at reading text) ≡ found None text
  missed m [] e = absurd (true≢false (sym e))
  missed m (c ∷ rest) e = or_none_missing (reading (c ∷ rest)) (c ∷ rest) (m.misses c rest e)

  back : PartLaw reading written ends → MissesClosers reading → (x : Option X) (rest : Text) → maybe_ends ends rest ≡ true → IsRead (maybe_at reading) x (maybe_text written x ++ rest) rest
  back law m (Some x) rest e =
      let k = law.back x rest (and_left (ends rest) _ e) in
      let text = after_space (written x ++ rest) in
      (k.0, or_none_found (reading text) text x k.0 k.1, k.2)
  back law m None rest e = (after_space rest, missed m (after_space rest) (and_right (ends rest) _ e), after_twice is_whitespace rest)

  of_or_none : (text : Text) (o : Outcome X) → Of text o → Of text (or_none o text)
  of_or_none text (Read x taken left) h = of_read text (Some x) taken left h.says
  of_or_none text (Missing cause) h = of_read text None [] text refl
  of_or_none text (Bad cause upto) h = of_bad text cause upto h.says.1.0 h.says.0 h.says.1.1

  scalars : PartLaw reading written ends → (x : Option X) → all_scalars (maybe_text written x) ≡ true
  scalars law (Some x) = law.scalars x
  scalars law None = refl

  pub maybe_law : PartLaw reading written ends → MissesClosers reading → PartLaw (maybe_at reading) (maybe_text written) (maybe_ends ends)
  maybe_law law m = record {
    back = back law m;
    closed = λ rest e. both (ends rest) (begins is_closer (after_space rest)) (law.closed rest e) (and_right (begins can_follow rest) _ e);
    scalars = scalars law;
    sincere = sincere_of (maybe_at reading) (λ t. of_or_none t (reading t) (of_sincere reading law.sincere t));
  }

pub maybe_decides : {X : Type 0} (value_eq : X → X → Bool) (eq : Option X → Option X → Bool) → eq None None ≡ true → ((x : X) → eq (Some x) None ≡ false) → ((x : X) → eq None (Some x) ≡ false) → ((x y : X) → eq (Some x) (Some y) ≡ value_eq x y)
    → ((x y : X) → IsTrue (value_eq x y) ↔ (x ≡ y)) → (x y : Option X) → IsTrue (eq x y) ↔ (x ≡ y)
maybe_decides {X} value_eq eq nn sn ns ss d x y = (same x y, λ e. subst (λ z. eq x z ≡ true) e (own x))
  where
    own : (x : Option X) → eq x x ≡ true
    own (Some x) = ss x x ∙ (d x x).1 refl
    own None = nn

    same : (x y : Option X) → eq x y ≡ true → x ≡ y
    same (Some x) (Some y) e = ap Some ((d x y).0 (sym (ss x y) ∙ e))
    same (Some x) None e = absurd (true≢false (sym e ∙ sn x))
    same None (Some y) e = absurd (true≢false (sym e ∙ ns y))
    same None None e = refl
