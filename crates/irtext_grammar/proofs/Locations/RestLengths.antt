-- How much of its text a parser leaves, and that what follows it depends on its result only for texts of that length.
use Rattle.std.proofs.Common.{◌≡◌, ℕ, suc, ◌≤◌, Bool, true, false, cond, ◌∷◌, ◌++◌, length, refl, ap, length-append, arith}
use Rattle.std.specs.Char.{is_whitespace}
use Rattle.irtext_base.specs.Text.{Text, front, after, after_space}
use Rattle.irtext_base.specs.Faults.{Fault}
use Rattle.irtext_base.specs.Answers.{Outcome, Read, Missing, Bad, followed, prefixed, mapped}
use Rattle.irtext_tokens.specs.Infix.{Reader, ◌▷◌, ◌▶◌, ◌⇒◌, either}
use Rattle.irtext_tokens.specs.Tokens.{text_at}
use Rattle.irtext_tokens.proofs.Honest.{Honest, honest_space, leaves_no_more}
use Rattle.irtext_grammar.specs.Readers.RestLengths.{Leaves, LeavesNoMore}
use Rattle.irtext_grammar.proofs.Joins.Tokens.{text_read}

-- ---- outcomes
module _ {X : Type 0} where
  -- what is parsed leaves no more than this
  pub leaves_read : (b : ℕ) (x : X) (taken rest : Text) → length rest ≤ b → Leaves b (Read x taken rest)
  leaves_read b x taken rest h = record { by = λ y t r e. let f : rest ≡ r = cc e in let j : length rest ≡ length r = ap length f in omega (arith, h, j) }

  -- where nothing is parsed, nothing is left
  pub leaves_missing : (b : ℕ) (cause : Fault) → Leaves {X = X} b (Missing cause)
  leaves_missing b cause = record { by = λ x taken rest e. absurd (cc e) }

  -- what is bad leaves nothing
  pub leaves_bad : (b : ℕ) (cause : Fault) (upto : Text) → Leaves {X = X} b (Bad cause upto)
  leaves_bad b cause upto = record { by = λ x taken rest e. absurd (cc e) }

  leaves_either : (b : ℕ) (test : Bool) (o p : Outcome X) → Leaves b o → Leaves b p → Leaves b (cond test o p)
  leaves_either b true o p h k = h
  leaves_either b false o p h k = k

  -- the same after a prefix that was taken
  pub leaves_prefixed : (b : ℕ) (front : Text) (o : Outcome X) → Leaves b o → Leaves b (prefixed front o)
  leaves_prefixed b front (Read x taken rest) h = leaves_read b x (front ++ taken) rest (h.by x taken rest refl)
  leaves_prefixed b front (Missing cause) h = leaves_bad b cause front
  leaves_prefixed b front (Bad cause upto) h = leaves_bad b cause (front ++ upto)

module _ {X Y : Type 0} where
  -- one parser after another
  pub leaves_followed : (b : ℕ) (o : Outcome X) (next : X → Text → Outcome Y) → Leaves b o → ((x : X) (rest : Text) → length rest ≤ b → Leaves b (next x rest)) → Leaves b (followed o next)
  leaves_followed b (Read x taken rest) next h k = leaves_prefixed b taken (next x rest) (k x rest (h.by x taken rest refl))
  leaves_followed b (Missing cause) next h k = leaves_missing b cause
  leaves_followed b (Bad cause upto) next h k = leaves_bad b cause upto

  leaves_mapped : (b : ℕ) (see : X → Y) (o : Outcome X) → Leaves b o → Leaves b (mapped see o)
  leaves_mapped b see (Read x taken rest) h = leaves_read b (see x) taken rest (h.by x taken rest refl)
  leaves_mapped b see (Missing cause) h = leaves_missing b cause
  leaves_mapped b see (Bad cause upto) h = leaves_bad b cause upto

  -- two continuations that agree on texts within the bound give the same result after a parser
  pub followed_same : (b : ℕ) (o : Outcome X) (next other : X → Text → Outcome Y) → Leaves b o → ((x : X) (rest : Text) → length rest ≤ b → next x rest ≡ other x rest) → followed o next ≡ followed o other
  followed_same b (Read x taken rest) next other h k = ap (prefixed taken) (k x rest (h.by x taken rest refl))
  followed_same b (Missing cause) next other h k = refl
  followed_same b (Bad cause upto) next other h k = refl

  -- the first parse may be replaced by an equal one
  pub first_same : (o p : Outcome X) (next : X → Text → Outcome Y) → o ≡ p → followed o next ≡ followed p next
  first_same o p next e = ap (λ o. followed o next) e

-- ---- parsers
-- of a text no longer than the bound, no more than the bound is left
pub record Within {X : Type 0} (b : ℕ) (f : Reader X) : Type 0 where
  pub leaves : (text : Text) → length text ≤ b → Leaves b (f text)

module _ {b : ℕ} where
  -- a parser whose outcomes are of their texts
  pub within_honest : {X : Type 0} {f : Reader X} → Honest f → Within b f
  within_honest h = record {
    leaves = λ text i. record {
      by = λ x taken rest e. let j = leaves_no_more h text x taken rest e in omega (arith, i, j);
    };
  }

  -- a parser that leaves no more than its text
  pub within_no_more : {X : Type 0} {f : Reader X} → LeavesNoMore f → Within b f
  within_no_more h = record {
    leaves = λ text i. record {
      by = λ x taken rest e. let j = (h.by text).by x taken rest e in omega (arith, i, j);
    };
  }

  -- either of two parsers
  pub within_either : {X : Type 0} {f g : Reader X} (test : Text → Bool)
      → Within b f → Within b g → Within b (either test f g)
  within_either test h k = record {
    leaves = λ text i. leaves_either b (test text) _ _ (h.leaves text i) (k.leaves text i);
  }

  module _ {X Y : Type 0} where
    -- ---- each operator
    pub ◌so◌ : {f : Reader X} {k : X → Reader Y} → Within b f → ((x : X) → Within b (k x)) → Within b (f ▶ k)
    ◌so◌ h g = record { leaves = λ text i. leaves_followed b _ _ (h.leaves text i) (λ x. (g x).leaves) }

    pub ◌then◌ : {f : Reader X} {g : Reader Y} → Within b f → Within b g → Within b (f ▷ g)
    ◌then◌ h k = record { leaves = λ text i. leaves_followed b _ _ (h.leaves text i) (λ _. k.leaves) }

    pub seen : {f : Reader X} (see : X → Y) → Within b f → Within b (f ⇒ see)
    seen see h = record { leaves = λ text i. leaves_mapped b see _ (h.leaves text i) }

-- a parser whose outcomes are of their texts leaves no more than a bound on its text
pub leaves_honest : {X : Type 0} {f : Reader X} → Honest f
    → (b : ℕ) (text : Text) → length text ≤ b → Leaves b (f text)
leaves_honest h b = (within_honest h).leaves

-- a fixed text, which is not empty: one less is left
pub leaves_word : (b c : ℕ) (word text : Text) → length text ≤ suc b → Leaves b (text_at (c ∷ word) text)
leaves_word b c word text h = record {
  by = λ u taken rest e. let j : length text ≡ suc (length (word ++ rest)) = ap length (text_read (c ∷ word) text taken rest e) in let k = length-append word rest in omega (arith, h, j, k);
}

-- white space passed leaves no more than the text
pub space_bound : (b : ℕ) (text : Text) → length text ≤ b → length (after_space text) ≤ b
space_bound b text h =
    (leaves_honest honest_space b text h).by tt (front is_whitespace text) (after is_whitespace text) refl
