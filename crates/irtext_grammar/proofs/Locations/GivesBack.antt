-- Parsers that return a given value, one after another, and those of tokens.
use Rattle.std.proofs.Common.{◌≡◌, ℕ, suc, ◌≤◌, false, [], ◌∷◌, ◌++◌, length, refl, sym, ◌∙◌, ap, subst, append_assoc, length-append, arith}
use Rattle.std.specs.Char.{is_whitespace}
use Rattle.irtext_base.specs.Text.{Text, begins, front, after_space}
use Rattle.irtext_base.specs.Answers.{Outcome, Read, followed, mapped}
use Rattle.irtext_base.proofs.Characters.{after_stops}
use Rattle.irtext_tokens.specs.Tokens.{text_at}
use Rattle.irtext_grammar.specs.Readers.Positions.{space_at, spaced_at}
use Rattle.irtext_grammar.specs.Promises.LocationsBack.{GivesBack}
use Rattle.irtext_grammar.proofs.Joins.Answers.{followed-read}
use Rattle.irtext_grammar.proofs.Joins.Tokens.{front-after, text-literal}

module _ {X Y : Type 0} where
  -- one parser after another
  pub gives_followed : (o : Outcome X) (next : X → Text → Outcome Y) (x : X) (y : Y) (text mid left : Text) → GivesBack o x text mid → GivesBack (next x mid) y mid left
      → GivesBack (followed o next) y text left
  gives_followed o next x y text mid left h k = record {
    taken = h.taken ++ k.taken;
    is = followed-read o next x y h.taken mid k.taken left h.is k.is;
    whole = append_assoc h.taken k.taken left ∙ (ap (λ t. h.taken ++ t) k.whole ∙ h.whole);
  }

  -- a parse whose value is seen by a function
  pub gives_mapped : (see : X → Y) (o : Outcome X) (x : X) (text left : Text) → GivesBack o x text left → GivesBack (mapped see o) (see x) text left
  gives_mapped see o x text left h = record { taken = h.taken; is = ap (mapped see) h.is; whole = h.whole }

module _ {X : Type 0} where
  -- nothing is taken
  pub gives_nothing : (x : X) (text : Text) → GivesBack (Read x [] text) x text text
  gives_nothing x text = record { taken = []; is = refl; whole = refl }

  -- what is left is an equal text
  pub gives_left : (o : Outcome X) (x : X) (text left rest : Text) → left ≡ rest → GivesBack o x text left → GivesBack o x text rest
  gives_left o x text left rest e h = record { taken = h.taken; is = h.is ∙ ap (Read x h.taken) e; whole = ap (λ t. h.taken ++ t) (sym e) ∙ h.whole }

  -- a parse at an equal text
  pub gives_at : (at : Text → Outcome X) (x : X) (text other left : Text) → text ≡ other → GivesBack (at other) x other left → GivesBack (at text) x text left
  gives_at at x text other left e h = subst (λ t. GivesBack (at t) x t left) (sym e) h

-- ---- tokens
-- a fixed text
pub gives_text : (word rest : Text) → GivesBack (text_at word (word ++ rest)) tt (word ++ rest) rest
gives_text word rest = record { taken = word; is = text-literal word (word ++ rest) rest refl; whole = refl }

-- white space
pub gives_space : (text rest : Text) → after_space text ≡ rest → GivesBack (space_at text) tt text rest
gives_space text rest e = record { taken = front is_whitespace text; is = ap (Read tt (front is_whitespace text)) e; whole = ap (λ t. front is_whitespace text ++ t) (sym e) ∙ front-after is_whitespace text }

-- a fixed text with white space around it
pub gives_spaced : (word text mid rest : Text) → after_space text ≡ word ++ mid → after_space mid ≡ rest → GivesBack (spaced_at word text) tt text rest
gives_spaced word text mid rest e f =
    gives_followed (space_at text) (λ _ t. followed (text_at word t) (λ _ u. space_at u)) tt tt text (word ++ mid) rest (gives_space text (word ++ mid) e)
    (gives_followed (text_at word (word ++ mid)) (λ _ u. space_at u) tt tt (word ++ mid) mid rest (gives_text word mid) (gives_space mid rest f))

-- a text that begins with no white space has none to lose
pub tight : (text : Text) → begins is_whitespace text ≡ false → after_space text ≡ text
tight [] e = refl
tight (c ∷ text) e = after_stops is_whitespace c text e

-- what follows a prefix is no longer than the bound of the whole
pub fits_after : (a b text : Text) (n : ℕ) → text ≡ a ++ b → length text ≤ n → length b ≤ n
fits_after a b text n e small = let k : length text ≡ length (a ++ b) = ap length e in let j = length-append a b in omega (arith, k, j, small)

-- after a prefix of at least one character the bound is one less
pub shorter_after : (c : ℕ) (a b text : Text) (n : ℕ) → text ≡ c ∷ (a ++ b) → length text ≤ suc n → length b ≤ n
shorter_after c a b text n e small = let k : length text ≡ suc (length (a ++ b)) = ap length e in let j = length-append a b in omega (arith, k, j, small)
