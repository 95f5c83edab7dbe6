-- A dotted word that was parsed, and is in a table or not.
use Rattle.std.proofs.Common.{◌≡◌, ◌++◌, ℕ, ◌<◌, Bool, Option, Some, None, [], true, false, refl, sym, subst, arith}
use Rattle.std.proofs.lemmas.Bool.Decides.{nat_tests}
use Rattle.irtext_base.specs.Text.{Text, begins, front, after, begins_word}
use Rattle.irtext_base.specs.Stream.{StreamView}
use Rattle.irtext_base.specs.Answers.{Read, Bad, Takes, Gives, unless_failed}
use Rattle.irtext_base.specs.Faults.{Demand, OwnText}
use Rattle.irtext_syntax.specs.Words.{in_dotted, dotted_at}

pub in_dotted_ascii : (c : ℕ) → in_dotted c ≡ true → c < 128
in_dotted_ascii c e = grind (arith, nat_tests)

module _ {X : Type 0} (word : Text → Option X) (refusal : Text) (demand : Demand) where
  word_read : (x : X) (text : Text) (b : Bool) → b ≡ false → begins begins_word text ≡ true → word (front in_dotted text) ≡ Some x
      → unless_failed b (dotted_at word refusal demand text) ≡ Read x (front in_dotted text) (after in_dotted text)
  word_read x text b f e q = rw (f, e, q) refl

  -- the table has it
  pub dotted_read : (x : X) (old new : StreamView) → old.failed ≡ false → begins begins_word old.rest ≡ true → word (front in_dotted old.rest) ≡ Some x → Takes (λ s. s) (λ s v. v) (front in_dotted old.rest) (after in_dotted old.rest) old new
      → Gives (λ s. s) (λ s v. v) (unless_failed old.failed (dotted_at word refusal demand old.rest)) old x new
  dotted_read x old new f e q t = subst (λ o. Gives (λ s. s) (λ s v. v) o old x new) (sym (word_read x old.rest old.failed f e q)) (refl, t)

  -- the table does not have it
  pub dotted_refused : (text : Text) (b : Bool) → b ≡ false → begins begins_word text ≡ true → word (front in_dotted text) ≡ None
      → unless_failed b (dotted_at word refusal demand text) ≡ Bad (OwnText (refusal ++ front in_dotted text)) []
  dotted_refused text b f e q = rw (f, e, q) refl
