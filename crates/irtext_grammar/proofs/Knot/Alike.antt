-- Two parses of nested text with the same result, which leave no more than a bound: each way to combine parses preserves this.
use Rattle.std.proofs.Common.{◌≡◌, ℕ, zero, suc, ◌≤◌, Bool, true, false, cond, [], ◌∷◌, length, refl, ap, subst, arith}
use Rattle.irtext_base.specs.Text.{Text, after_space}
use Rattle.irtext_base.specs.Answers.{Outcome, Read, Missing, Bad}
use Rattle.irtext_grammar.specs.Readers.RestLengths.{Leaves}
use Rattle.irtext_grammar.proofs.Locations.RestLengths.{space_bound}
use Rattle.irtext_grammar.specs.Reached.{Reached, Advanced, Stopped, came, tells, Reads}

-- if a parse came to an end, at most this many characters are left
pub record LeavesBy {X S : Type 0} (bound : ℕ) (o : Reached X S) : Type 0 where
  pub by : (x : X) (s : S) (rest : Text) → o ≡ Advanced x s rest → length rest ≤ bound

-- both parses are the same, and leave no more than the bound
pub record Alike {X S : Type 0} (bound : ℕ) (o p : Reached X S) : Type 0 where
  pub leaves : LeavesBy bound o
  pub same : o ≡ p

module _ {X S : Type 0} where
  leaves_came : (b : ℕ) (x : X) (s : S) (rest : Text) → length rest ≤ b → LeavesBy b (Advanced x s rest)
  leaves_came b x s rest h = record { by = λ y t r e. let f : rest ≡ r = cc e in let j : length rest ≡ length r = ap length f in omega (arith, h, j) }

  -- a parse that came to an end is like itself
  pub alike_came : (b : ℕ) (x : X) (s : S) (rest : Text) → length rest ≤ b → Alike b (Advanced x s rest) (Advanced x s rest)
  alike_came b x s rest h = record { leaves = leaves_came b x s rest h; same = refl }

  -- and so is one that is stuck
  pub alike_stuck : (b : ℕ) (o : Reached X S) → ((x : X) (s : S) (rest : Text) → o ≡ Advanced x s rest → ⊥) → Alike b o o
  alike_stuck b o h = record { leaves = record { by = λ x s rest e. absurd (h x s rest e) }; same = refl }

  -- what leaves no more than one bound leaves no more than a larger one
  pub weaker : (c b : ℕ) (o p : Reached X S) → c ≤ b → Alike c o p → Alike b o p
  weaker c b o p i h = record { leaves = record { by = λ x s rest e. let j = h.leaves.by x s rest e in omega (arith, i, j) }; same = h.same }

  -- either of two pairs
  pub alike_either : (b : ℕ) (test : Bool) (o p q r : Reached X S) → Alike b o q → Alike b p r → Alike b (cond test o p) (cond test q r)
  alike_either b true o p q r h k = h
  alike_either b false o p q r h k = k

module _ {X Y S : Type 0} where
  -- what follows two parses that are alike
  pub alike_after : (c b : ℕ) (o p : Reached X S) (next other : X → S → Text → Reached Y S) → Alike c o p
      → ((x : X) (s : S) (rest : Text) → length rest ≤ c → Alike b (next x s rest) (other x s rest)) → Alike b (came o next) (came p other)
  alike_after c b (Advanced x s rest) p next other h k =
      subst (λ p. Alike b (next x s rest) (came p other)) h.same (k x s rest (h.leaves.by x s rest refl))
  alike_after c b (Stopped s cause place) p next other h k =
      subst (λ p. Alike b (Stopped s cause place) (came p other)) h.same (alike_stuck b (Stopped s cause place) (λ x s rest e. cc e))

  -- what follows something that is required
  pub alike_tells : (c b : ℕ) (o : Outcome X) (text : Text) (s : S) (next other : X → Text → Reached Y S) → Leaves c o
      → ((x : X) (rest : Text) → length rest ≤ c → Alike b (next x rest) (other x rest)) → Alike b (tells o text s next) (tells o text s other)
  alike_tells c b (Read x taken rest) text s next other h k = k x rest (h.by x taken rest refl)
  alike_tells c b (Missing cause) text s next other h k = alike_stuck b (Stopped s cause (length text)) (λ x s rest e. cc e)
  alike_tells c b (Bad cause upto) text s next other h k = alike_stuck b _ (λ x s rest e. cc e)

  -- what follows a parse is the same if it is the same on texts within the bound
  pub came_same : (c : ℕ) (o : Reached X S) (next other : X → S → Text → Reached Y S) → LeavesBy c o
      → ((x : X) (s : S) (rest : Text) → length rest ≤ c → next x s rest ≡ other x s rest) → came o next ≡ came o other
  came_same c (Advanced x s rest) next other h k = k x s rest (h.by x s rest refl)
  came_same c (Stopped s cause place) next other h k = refl

-- ---- parsers
-- two parsers that are alike at each text no longer than the bound
pub record Agree {S : Type 0} (b : ℕ) (f g : Reads S) : Type 0 where
  pub alike : (text : Text) (s : S) → length text ≤ b → Alike b (f text s) (g text s)

-- the same, and less than the text is left
pub record Shrink {S : Type 0} (b : ℕ) (f g : Reads S) : Type 0 where
  pub alike : (text : Text) (s : S) → length text ≤ suc b → Alike b (f text s) (g text s)

-- items as long as the text passes a test, with white space after each, by a number of items that is allowed
pub record IsLoop {S : Type 0} (test : Text → Bool) (item : Reads S) (loop : ℕ → Reads S) : Type 0 where
  pub none : (text : Text) (s : S) → loop zero text s ≡ Advanced tt s text
  pub more : (n : ℕ) (text : Text) (s : S)
      → loop (suc n) text s ≡ cond (test text) (came (item text s) (λ _ t rest. loop n (after_space rest) t)) (Advanced tt s text)

module _ {S : Type 0} {test : Text → Bool} {f g : Reads S} {l m : ℕ → Reads S} (i : IsLoop test f l) (j : IsLoop test g m) where
  -- loops over items that agree
  pub loops_agree : (b : ℕ) → Agree b f g → (n : ℕ) → Agree b (l n) (m n)
  loops_agree b h zero = record { alike = λ text s k. rw (i.none text s, j.none text s) (alike_came b tt s text k) }
  loops_agree b h (suc n) = record {
    alike = λ text s k. let again = loops_agree b h n in rw (i.more n text s, j.more n text s) (alike_either b (test text) _ _ _ _
        (alike_after b b (f text s) (g text s) _ _ (h.alike text s k) (λ _ t rest e. again.alike (after_space rest) t (space_bound b rest e)))
        (alike_came b tt s text k));
  }

module _ {S : Type 0} {test : Text → Bool} {f : Reads S} {l : ℕ → Reads S} (i : IsLoop test f l) (ends : test [] ≡ false) (shrink : (b : ℕ) → Shrink b f f) where
  at_end : (n : ℕ) (s : S) → l n [] s ≡ Advanced tt s []
  at_end zero s = i.none [] s
  at_end (suc n) s = rw (i.more n [] s, ends) refl

  -- each number of items that is no less than the length of the text is enough
  pub loop_enough : (n m : ℕ) (text : Text) (s : S) → length text ≤ n → length text ≤ m → l n text s ≡ l m text s
  loop_enough n m [] s h k = rw (at_end n s, at_end m s) refl
  loop_enough zero m (c ∷ text) s h k = absurd (omega (arith, h))
  loop_enough (suc n) zero (c ∷ text) s h k = absurd (omega (arith, k))
  loop_enough (suc n) (suc m) (c ∷ text) s h k =
      let again = loop_enough n m in
      let step = (shrink (length text)).alike (c ∷ text) s (omega arith) in
      let same = came_same (length text) (f (c ∷ text) s) (λ _ t rest. l n (after_space rest) t) (λ _ t rest. l m (after_space rest) t) step.leaves
      (λ _ t rest e. let j = space_bound (length text) rest e in again (after_space rest) t (omega (arith, h, j)) (omega (arith, k, j))) in
      rw (i.more n (c ∷ text) s, i.more m (c ∷ text) s) (ap (λ o. cond (test (c ∷ text)) o (Advanced tt s (c ∷ text))) same)
