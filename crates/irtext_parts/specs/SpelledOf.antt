-- The part of a text that is kept as it is spelled.
use Rattle.std.proofs.Common.{◌≡◌, ◌∙◌, Bool, true, false, cond, Option, Some, None, refl, sym, ap, true≢false}
use Rattle.std.proofs.Math.Bool.{Bool-set}
use Rattle.std.specs.Prelude.{unwrap_or}
use Rattle.irtext_base.specs.Text.{Text, begins, front, after}
use Rattle.irtext_base.specs.Stream.{first_of}
use Rattle.irtext_base.specs.Faults.{Unexpected}
use Rattle.irtext_base.specs.Answers.{Outcome, Missing}
use Rattle.irtext_syntax.specs.ScalarTexts.{ScalarText, scalar_text}
use Rattle.irtext_syntax.specs.Words.{chosen}
use Rattle.irtext_parts.specs.Spellings.{is_spelled}
use Rattle.irtext_parts.specs.declared.spelling.Spelling as spelling
use Rattle.irtext_parts.specs.declared.spelled.Spelled.{Spelled}

-- the part of a text, given whether it is spelled by the rules
abbrev pub spelled_by : {K : Type 0} (g : spelling.Ghosts K) (t : ScalarText) (b : Bool) → is_spelled g.rules t.characters ≡ b → Option (Spelled K g)
spelled_by g t true e = Some (record { text = t; kind = record {}; spelled = e })
spelled_by g t false e = None

-- the part of a text that is spelled by the rules
abbrev pub spelled_of : {K : Type 0} (g : spelling.Ghosts K) → ScalarText → Option (Spelled K g)
spelled_of g t = spelled_by g t (is_spelled g.rules t.characters) refl

-- the longest run of characters of the rules, which is a text by them; if none begins there, the demand, and if the characters are no such
-- text, an error with them, at their beginning
abbrev pub spelled_at : {K : Type 0} (g : spelling.Ghosts K) → Text → Outcome (Spelled K g)
spelled_at g text = cond (begins g.rules.first text)
    (chosen g.rules.refusal (front g.rules.later text) (after g.rules.later text) (spelled_of g (scalar_text (front g.rules.later text))))
    (Missing (Unexpected (first_of text) g.rules.demand))

module _ {K : Type 0} (g : spelling.Ghosts K) where
  found_by : (x : Spelled K g) (b : Bool) (e : is_spelled g.rules x.text.characters ≡ b) → spelled_by g x.text b e ≡ Some x
  found_by x true e = ap (λ (p : is_spelled g.rules x.text.characters ≡ true). let y : Option (Spelled K g) = Some (record { text = x.text; kind = record {}; spelled = p }) in y) (Bool-set (is_spelled g.rules x.text.characters) true e x.spelled)
  found_by x false e = absurd (true≢false (sym x.spelled ∙ e))

  -- the part of the text of a part is that part
  pub spelled_found : (x : Spelled K g) → spelled_of g x.text ≡ Some x
  spelled_found x = found_by x (is_spelled g.rules x.text.characters) refl

  -- two parts with one text are one
  pub spelled_same : (x y : Spelled K g) → x.text ≡ y.text → x ≡ y
  spelled_same x y e = let f : Some x ≡ Some y = sym (spelled_found x) ∙ (ap (spelled_of g) e ∙ spelled_found y) in ap (λ o. unwrap_or o x) f
