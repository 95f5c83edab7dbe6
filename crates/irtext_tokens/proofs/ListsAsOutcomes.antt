-- Where a function says what a text is to the item, another says what it is to the list.
use Rattle.std.proofs.Common.{◌≡◌, ℕ, zero, suc, ◌≤◌, true, List, [], ◌∷◌, ◌++◌, length, length-append, refl, sym, ◌∙◌, ap, subst, append_assoc, append-nil, arith}
use Rattle.std.proofs.lemmas.Bool.Decides.{nat_tests}
use Rattle.std.specs.Char.{is_whitespace}
use Rattle.irtext_base.specs.Text.{Text, after_space, front}
use Rattle.irtext_base.specs.Reading.{the}
use Rattle.irtext_base.specs.Answers.{Outcome, Read, Missing, Bad, demanded, prefixed, followed}
use Rattle.irtext_base.proofs.Along.{front_after}
use Rattle.irtext_tokens.specs.Lists.{spaces}
use Rattle.irtext_tokens.specs.ListTexts.{item_before, TailAt, ended, none_follows, bad_after, one_after, SeparatedAt, none_first, bad_first, one_first}
use Rattle.irtext_tokens.specs.ListOutcomes.{item_after, items_after, or_empty, separated_at}

-- the items found before
abbrev found_before : {X : Type 0} → List X → Outcome (List X) → Outcome (List X)
found_before found (Read xs taken rest) = Read (found ++ xs) taken rest
found_before found (Missing cause) = Missing cause
found_before found (Bad cause upto) = Bad cause upto

shift : (a k b t : Text) → a ++ ((k ++ b) ++ t) ≡ ((a ++ k) ++ b) ++ t
shift a k b t = ap (λ z. a ++ z) (append_assoc k b t) ∙ (sym (append_assoc a k (b ++ t)) ∙ sym (append_assoc (a ++ k) b t))

-- what was parsed after the items found is put after them
moved : {X : Type 0} (found : List X) (x : X) (sep : ℕ) (a k b : Text) (o : Outcome (List X)) → demanded o ≡ o
    → prefixed (sep ∷ []) (prefixed a (prefixed (k ++ b) (found_before (found ++ (x ∷ [])) o))) ≡ found_before found (item_before x (((sep ∷ a) ++ k) ++ b) o)
moved found x sep a k b (Read xs taken rest) e = ap (λ z. Read z (sep ∷ (a ++ ((k ++ b) ++ taken))) rest) (append_assoc found (x ∷ []) xs) ∙ ap (λ z. Read (found ++ (x ∷ xs)) (sep ∷ z) rest) (shift a k b taken)
moved found x sep a k b (Missing cause) e = absurd (cc)
moved found x sep a k b (Bad cause upto) e = ap (λ z. Bad cause (sep ∷ z)) (shift a k b upto)

first_moved : {X : Type 0} (text : Text) (x : X) (k b : Text) (o : Outcome (List X)) → demanded o ≡ o → item_before x (k ++ b) o ≡ or_empty (prefixed (k ++ b) (found_before (x ∷ []) o)) text
first_moved text x k b (Read xs taken rest) e = refl
first_moved text x k b (Missing cause) e = absurd (cc)
first_moved text x k b (Bad cause upto) e = refl

before_demanded : {X : Type 0} (x : X) (k : Text) (o : Outcome (List X)) → demanded o ≡ o → demanded (item_before x k o) ≡ item_before x k o
before_demanded x k (Read xs taken rest) e = refl
before_demanded x k (Missing cause) e = absurd (cc)
before_demanded x k (Bad cause upto) e = refl

-- a character is itself
the-same : (c : ℕ) → the c c ≡ true
the-same c = grind (arith, nat_tests)

module _ {X : Type 0} (sep : ℕ) (item : Text → Outcome X) where
  -- what is parsed is a front of the text
  abbrev pub Fits : Text → Outcome X → Type 0
  Fits text (Read x taken rest) = taken ++ rest ≡ text
  Fits text (Missing cause) = Unit {0}
  Fits text (Bad cause upto) = Unit {0}

  -- what the item's function says of the text
  pub record Says (text : Text) (o : Outcome X) : Type 0 where
    pub is : item text ≡ o
    pub fits : Fits text o

  stays_demanded : (text : Text) (o : Outcome (List X)) → TailAt Says sep text o → demanded o ≡ o
  stays_demanded _ _ (ended text e) = refl
  stays_demanded _ _ (none_follows text left cause e h) = refl
  stays_demanded _ _ (bad_after text left cause upto e h) = refl
  stays_demanded _ _ (one_after text left x taken rest o q e h t s) = subst (λ z. demanded z ≡ z) (sym s) (before_demanded x (((sep ∷ spaces left) ++ taken) ++ spaces rest) o (stays_demanded (after_space rest) o t))

  go_on : (n : ℕ) (found : List X) (left : Text)
      → items_after sep item (suc n) found (sep ∷ left) ≡ prefixed (sep ∷ []) (prefixed (spaces left) (followed (item_after sep item found (after_space left)) (λ more v. items_after sep item n more v)))
  go_on n found left = rw (the-same sep) refl

  less : (n : ℕ) (left taken rest : Text) → length (sep ∷ left) ≤ suc n → taken ++ rest ≡ after_space left → length (after_space rest) ≤ n
  less n left taken rest h e = omega (arith, h, ap length e, length-append taken rest, ap length (front_after is_whitespace left), length-append (front is_whitespace left) (after_space left), ap length (front_after is_whitespace rest), length-append (front is_whitespace rest) (after_space rest))

  tail_is : (n : ℕ) (found : List X) (text : Text) (o : Outcome (List X)) → length text ≤ n → TailAt Says sep text o → items_after sep item n found text ≡ found_before found o
  tail_is zero found _ _ h (ended text e) = ap (λ z. Read z [] text) (sym (append-nil found))
  tail_is (suc n) found _ _ h (ended text e) = rw (e, append-nil found) refl
  tail_is zero found _ _ h (none_follows text left cause e r) = absurd (omega (arith, h, ap length e))
  tail_is (suc n) found _ _ h (none_follows text left cause e r) = rw e (go_on n found left ∙ rw r.is refl)
  tail_is zero found _ _ h (bad_after text left cause upto e r) = absurd (omega (arith, h, ap length e))
  tail_is (suc n) found _ _ h (bad_after text left cause upto e r) = rw e (go_on n found left ∙ rw r.is refl)
  tail_is zero found _ _ h (one_after text left x taken rest o q e r t s) = absurd (omega (arith, h, ap length e))
  tail_is (suc n) found _ _ h (one_after text left x taken rest o q e r t s) =
      let l = less n left taken rest (subst (λ z. length z ≤ suc n) e h) r.fits in
      let i = tail_is n (found ++ (x ∷ [])) (after_space rest) o l t in
      rw (e, s) (go_on n found left ∙ (rw r.is (ap (λ z. prefixed (sep ∷ []) (prefixed (spaces left) (prefixed (taken ++ spaces rest) z))) i) ∙ moved found x sep (spaces left) taken (spaces rest) o (stays_demanded (after_space rest) o t)))

  -- a list of the relation is the one that the function gives
  pub separated_is : (text : Text) (o : Outcome (List X)) → SeparatedAt Says sep text o → o ≡ separated_at sep item text
  separated_is _ _ (none_first text cause r) = rw r.is refl
  separated_is _ _ (bad_first text cause upto r) = rw r.is refl
  separated_is _ _ (one_first text x taken rest o q r t s) =
      let i = tail_is (length (after_space rest)) (x ∷ []) (after_space rest) o (omega arith) t in
      rw (s, r.is) (first_moved text x taken (spaces rest) o (stays_demanded (after_space rest) o t) ∙ ap (λ z. or_empty (prefixed (taken ++ spaces rest) z) text) (sym i))
