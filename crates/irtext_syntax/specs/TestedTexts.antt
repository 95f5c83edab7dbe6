-- Texts that pass a test.
use Rattle.std.proofs.Common.{◌≡◌, Bool, true, false, refl, sym, ◌∙◌, ap, true≢false}
use Rattle.std.proofs.Math.Bool.{Bool-set}
use Rattle.std.specs.Coded.{Coded, code_by, coded_list, coded_ℕ}
use Rattle.irtext_base.specs.Text.{Text}

-- a text that passes the test
pub record TestedText (test : Text → Bool) : Type 0 where
  pub characters : Text
  pub passes : test characters ≡ true

module _ (test : Text → Bool) (other : TestedText test) where
  -- the text of these characters, given whether they pass the test
  abbrev pub tested_by : (characters : Text) (b : Bool) → test characters ≡ b → TestedText test
  tested_by characters true e = record { characters = characters; passes = e }
  tested_by characters false e = other

  -- the text of these characters; another one if they do not pass the test
  abbrev pub tested : Text → TestedText test
  tested characters = tested_by characters (test characters) refl

  by_characters : (s : TestedText test) (b : Bool) (e : test s.characters ≡ b) → tested_by s.characters b e ≡ s
  by_characters s true e = ap (λ (p : test s.characters ≡ true). let t : TestedText test = record { characters = s.characters; passes = p } in t) (Bool-set (test s.characters) true e s.passes)
  by_characters s false e = absurd (true≢false (sym s.passes ∙ e))

  -- a text is the one with its characters
  pub tested_found : (s : TestedText test) → tested s.characters ≡ s
  tested_found s = by_characters s (test s.characters) refl

  by_test : (characters : Text) (b : Bool) (e : test characters ≡ b) → b ≡ true → (tested_by characters b e).characters ≡ characters
  by_test characters true e f = refl
  by_test characters false e f = absurd (true≢false (sym f))

  -- the text of these characters has these characters, if they pass the test
  pub tested_is : (characters : Text) → test characters ≡ true → (tested characters).characters ≡ characters
  tested_is characters e = by_test characters (test characters) refl e

  -- two texts with the same characters are equal
  pub tested_same : (s t : TestedText test) → s.characters ≡ t.characters → s ≡ t
  tested_same s t e = sym (tested_found s) ∙ (ap tested e ∙ tested_found t)

  -- a text is coded as its characters
  abbrev pub tested_code : Coded (TestedText test)
  tested_code = code_by Text (coded_list coded_ℕ) (λ s. s.characters) tested tested_found
