-- A text that was parsed, and is spelled by the rules or not.
use Rattle.std.proofs.Common.{◌≡◌, ◌∙◌, Bool, true, false, ◌&&◌, Some, None, [], ◌∷◌, ◌++◌, refl, sym, ap, subst, true≢false}
use Rattle.std.specs.List.{list_all}
use Rattle.std.specs.Str.{IsUtf8, chars}
use Rattle.std.proofs.lemmas.Str.{encodes-IsAscii, chars_from_encodes, encodes-chars}
use Rattle.irtext_base.specs.Text.{Text, begins, front, after}
use Rattle.irtext_base.specs.Stream.{StreamView}
use Rattle.irtext_base.specs.Faults.{OwnText}
use Rattle.irtext_base.specs.Answers.{Read, Bad, Gives, Takes, unless_failed}
use Rattle.irtext_base.proofs.Characters.{and_left, and_right}
use Rattle.irtext_base.proofs.Scalars.{scalars_ascii}
use Rattle.irtext_tokens.proofs.Words.{list_all-front}
use Rattle.irtext_syntax.specs.CloserTests.{both}
use Rattle.irtext_syntax.specs.ScalarTexts.{ScalarText, scalar_text, scalar_text_found, scalar_text_is}
use Rattle.irtext_parts.specs.Spellings.{Rules, RulesLaw, is_spelled}
use Rattle.irtext_parts.specs.SpelledOf.{spelled_by, spelled_of, spelled_at, spelled_found}
use Rattle.irtext_parts.specs.SpelledLaws.{ascii_spelled}
use Rattle.irtext_parts.specs.declared.spelling.Spelling as spelling
use Rattle.irtext_parts.specs.declared.spelled.Spelled.{Spelled}

module _ (rules : Rules) (law : RulesLaw rules) where
  front_begins : (text : Text) → begins rules.first text ≡ true → begins rules.first (front rules.later text) ≡ true
  front_begins [] e = e
  front_begins (c ∷ text) e = rw (law.within c e) e

  -- the characters that come next are spelled by the rules if they pass the test
  pub front_spelled : (text : Text) → begins rules.first text ≡ true → rules.test (front rules.later text) ≡ true → is_spelled rules (front rules.later text) ≡ true
  front_spelled text e t = both (begins rules.first (front rules.later text)) _ (front_begins text e) (both (list_all rules.later (front rules.later text)) _ (list_all-front rules.later text) t)

  front_refused : (text : Text) → rules.test (front rules.later text) ≡ false → is_spelled rules (front rules.later text) ≡ false
  front_refused text t = rw (list_all-front rules.later text, t) (none (begins rules.first (front rules.later text)))
    where
      none : (b : Bool) → (b && false) ≡ false
      none true = refl
      none false = refl

  -- the bytes of a text that passes are its characters
  pub made_bytes : (bytes : Text) → IsUtf8 bytes → list_all rules.later (chars bytes) ≡ true → bytes ≡ chars bytes
  made_bytes bytes u e = sym (encodes-chars bytes u) ∙ encodes-IsAscii (chars bytes) (ascii_spelled rules law (chars bytes) e)

  -- the characters of bytes that pass are the bytes
  pub spelled_chars : (bytes : Text) → IsUtf8 bytes → is_spelled rules bytes ≡ true → chars bytes ≡ bytes
  spelled_chars bytes u e = sym (chars_from_encodes bytes bytes u (encodes-IsAscii bytes (ascii_spelled rules law bytes (and_left (list_all rules.later bytes) _ (and_right (begins rules.first bytes) _ e)))))

module _ {K : Type 0} (g : spelling.Ghosts K) where
  none_by : (t : ScalarText) (b : Bool) (e : is_spelled g.rules t.characters ≡ b) → b ≡ false → spelled_by g t b e ≡ None
  none_by t true e f = absurd (true≢false (f))
  none_by t false e f = refl

  -- a text that is not spelled by the rules is no part
  pub spelled_none : (t : ScalarText) → is_spelled g.rules t.characters ≡ false → spelled_of g t ≡ None
  spelled_none t e = none_by t (is_spelled g.rules t.characters) refl e

  read_is : (x : Spelled K g) (text : Text) (b : Bool) → b ≡ false → begins g.rules.first text ≡ true → spelled_of g (scalar_text (front g.rules.later text)) ≡ Some x
      → unless_failed b (spelled_at g text) ≡ Read x (front g.rules.later text) (after g.rules.later text)
  read_is x text b f e o = rw (f, e, o) refl

  refused_is : (text : Text) (b : Bool) → b ≡ false → begins g.rules.first text ≡ true → spelled_of g (scalar_text (front g.rules.later text)) ≡ None
      → unless_failed b (spelled_at g text) ≡ Bad (OwnText (g.rules.refusal ++ front g.rules.later text)) []
  refused_is text b f e o = rw (f, e, o) refl

  -- the part that has the characters that come next is parsed
  pub spelled_read : (x : Spelled K g) (old new : StreamView) → old.failed ≡ false → begins g.rules.first old.rest ≡ true → x.text.characters ≡ front g.rules.later old.rest → Takes (λ s. s) (λ s v. v) (front g.rules.later old.rest) (after g.rules.later old.rest) old new
      → Gives (λ s. s) (λ s v. v) (unless_failed old.failed (spelled_at g old.rest)) old x new
  spelled_read x old new f e is t =
      let o = ap (λ z. spelled_of g (scalar_text z)) (sym is) ∙ (ap (spelled_of g) (scalar_text_found x.text) ∙ spelled_found g x) in
      subst (λ o. Gives (λ s. s) (λ s v. v) o old x new) (sym (read_is x old.rest old.failed f e o)) (refl, t)

  -- characters that do not pass the test are refused
  pub spelled_refused : RulesLaw g.rules → (text : Text) (b : Bool) → b ≡ false → begins g.rules.first text ≡ true → g.rules.test (front g.rules.later text) ≡ false
      → unless_failed b (spelled_at g text) ≡ Bad (OwnText (g.rules.refusal ++ front g.rules.later text)) []
  spelled_refused law text b f e t =
      let taken = front g.rules.later text in
      let same = scalar_text_is taken (scalars_ascii taken (ascii_spelled g.rules law taken (list_all-front g.rules.later text))) in
      refused_is text b f e (spelled_none (scalar_text taken) (ap (is_spelled g.rules) same ∙ front_refused g.rules law text t))
