-- What the parsers of tokens return, and the grammar's readings of them.
use Rattle.std.proofs.Common.{◌≡◌, ℕ, ◌<◌, ◌^◌, Bool, true, false, cond, ◌||◌, Some, None, [], ◌∷◌, ◌++◌, refl, sym, ◌∙◌, ap, ap₂, inl, inr, true≢false, arith, subst}
use Rattle.std.proofs.lemmas.Bool.Decides.{nat_tests}
use Rattle.std.specs.Prelude.{codes, nat_lt}
use Rattle.std.specs.Char.{is_ascii_digit, is_whitespace}
use Rattle.std.specs.Str.Parse.{digits_value}
use Rattle.irtext_base.specs.Text.{Text, begins, front, after, begins_word, in_word}
use Rattle.irtext_base.specs.Reading.{the, literal, identifier, digits, number}
use Rattle.irtext_base.specs.Faults.{Demand, Unexpected, Word, NumberRange}
use Rattle.irtext_base.specs.Stream.{first_of}
use Rattle.irtext_base.specs.Format.{Id}
use Rattle.irtext_base.specs.Answers.{Outcome, Read, Missing, Bad, prefixed, mapped}
use Rattle.irtext_base.proofs.Numbers.{same_character}
use Rattle.irtext_tokens.specs.Tokens.{word_at, identifier_at, spelled_at, text_at, is_sign, sign_of, after_sign, fitting, value_of, numbered, no_digit, digits_at, number_at, id_with, id_at}
use Rattle.irtext_grammar.specs.Grammar.Reads as reads
use Rattle.irtext_grammar.specs.Readers.Positions.{space_at}
use Rattle.irtext_grammar.proofs.Joins.Answers.{followed_read, followed-read, mapped_read, Splits, splits_followed, splits_mapped}

-- a front and what is left are the text
pub front-after : (test : ℕ → Bool) (text : Text) → front test text ++ after test text ≡ text
front-after test [] = refl
front-after test (c ∷ text) = go (test c) (front-after test text)
  where
    go : (b : Bool) → front test text ++ after test text ≡ text → cond b (c ∷ front test text) [] ++ cond b (after test text) (c ∷ text) ≡ c ∷ text
    go true h = ap (λ t. c ∷ t) h
    go false h = refl

the_same : (c : ℕ) → the c c ≡ true
the_same c = grind (arith, nat_tests)

-- ---- a fixed text
-- one more character of a fixed text was parsed
spelled_more : (c d : ℕ) (word text taken rest : Text) (o : Outcome Unit) → ((a : Text) → o ≡ Read tt a rest → (a ≡ word) × (text ≡ word ++ rest)) → d ≡ c
    → prefixed (d ∷ []) o ≡ Read tt taken rest → (taken ≡ c ∷ word) × (d ∷ text ≡ c ∷ (word ++ rest))
spelled_more c d word text taken rest (Read u a r) h same e =
    let g : r ≡ rest = cc e in
    let f : d ∷ a ≡ taken = cc e in
    let k = h a (ap (Read tt a) g) in
    (sym f ∙ ap₂ ◌∷◌ same k.0, ap₂ ◌∷◌ same k.1)
spelled_more c d word text taken rest (Missing x) h same e = absurd (cc e)
spelled_more c d word text taken rest (Bad x u) h same e = absurd (cc e)

spelled_read : (whole word text taken rest : Text) → spelled_at whole word text ≡ Read tt taken rest → (taken ≡ word) × (text ≡ word ++ rest)
spelled_read whole [] text taken rest e = (cc e, cc e)
spelled_read whole (c ∷ word) [] taken rest e = absurd (cc e)
spelled_read whole (c ∷ word) (d ∷ text) taken rest e = go (the c d) refl (λ a. spelled_read whole word text a rest) e
  where
    go : (b : Bool) → the c d ≡ b → ((a : Text) → spelled_at whole word text ≡ Read tt a rest → (a ≡ word) × (text ≡ word ++ rest))
        → cond b (prefixed (d ∷ []) (spelled_at whole word text)) (Missing (Unexpected (Some d) (Word whole))) ≡ Read tt taken rest → (taken ≡ c ∷ word) × (d ∷ text ≡ c ∷ (word ++ rest))
    go true same h e = spelled_more c d word text taken rest (spelled_at whole word text) h (same_character d c same) e
    go false same h e = absurd (cc e)

spelled-literal : (whole word rest : Text) → spelled_at whole word (word ++ rest) ≡ Read tt word rest
spelled-literal whole [] rest = refl
spelled-literal whole (c ∷ word) rest = rw (the_same c) (ap (prefixed (c ∷ [])) (spelled-literal whole word rest))

-- a fixed word that is accepted is one that the grammar parses
pub text_read : (word text taken rest : Text) → text_at word text ≡ Read tt taken rest → literal word text rest
text_read word text taken rest e = (spelled_read word word text taken rest e).1

-- a fixed word that the grammar parses is accepted
pub text-literal : (word text rest : Text) → literal word text rest → text_at word text ≡ Read tt word rest
text-literal word text rest e = ap (text_at word) e ∙ spelled-literal word word rest

-- what is taken of a fixed word and what is left make up the text
pub splits_text : (word : Text) → Splits (text_at word)
splits_text word text u taken rest e = let k = spelled_read word word text taken rest e in ap (λ t. t ++ rest) k.0 ∙ sym k.1

-- ---- white space
pub splits_space : Splits space_at
splits_space text u taken rest e =
    let f : front is_whitespace text ≡ taken = cc e in
    let g : after is_whitespace text ≡ rest = cc e in
    ap₂ ◌++◌ (sym f) (sym g) ∙ front-after is_whitespace text

-- ---- a word
word_go : (demand : Demand) (text x taken rest : Text) (b : Bool) → begins begins_word text ≡ b
    → cond b (Read (front in_word text) (front in_word text) (after in_word text)) (Missing (Unexpected (first_of text) demand)) ≡ Read x taken rest → identifier x text rest × (x ≡ taken)
word_go demand text x taken rest true f e = ((f, cc e, cc e), cc e)
word_go demand text x taken rest false f e = absurd (cc e)

-- an identifier that is accepted is one that the grammar parses
pub word_read : (demand : Demand) (text x taken rest : Text) → word_at demand text ≡ Read x taken rest → identifier x text rest × (x ≡ taken)
unfolding word_at
word_read demand text x taken rest e = word_go demand text x taken rest (begins begins_word text) refl e

-- an identifier that the grammar parses is accepted
pub word-identifier : (demand : Demand) (text x rest : Text) → identifier x text rest → word_at demand text ≡ Read x x rest
unfolding word_at
word-identifier demand text x rest (f, g, h) = rw f (ap₂ (λ w r. Read w w r) (sym g) (sym h))

-- what is taken of an identifier and what is left make up the text
pub splits_word : (demand : Demand) → Splits (word_at demand)
splits_word demand text x taken rest e =
    let r = word_read demand text x taken rest e in
    ap (λ t. t ++ rest) (sym r.1 ∙ r.0.1) ∙ (ap (λ t. front in_word text ++ t) r.0.2 ∙ front-after in_word text)

-- ---- a number
-- a number was parsed: it fits, and its sign isn't a minus
fitting_go : (sign ds left : Text) (v n : ℕ) (taken rest : Text) (b c : Bool) → nat_lt v (2 ^ 64) ≡ b → begins (the 45) sign ≡ c
    → numbered sign ds left (cond b (Some v) None) ≡ Read n taken rest → (v < 2 ^ 64) × (n ≡ v) × (begins (the 45) sign ≡ false) × (taken ≡ sign ++ ds) × (rest ≡ left)
fitting_go sign ds left v n taken rest false c f g e = absurd (cc e)
fitting_go sign ds left v n taken rest true c f g e = go c g (rw g at e)
  where
    small : v < 2 ^ 64
    small = grind (arith, nat_tests)

    go : (c : Bool) → begins (the 45) sign ≡ c → cond c (Bad (NumberRange (sign ++ ds)) []) (Read v (sign ++ ds) left) ≡ Read n taken rest
        → (v < 2 ^ 64) × (n ≡ v) × (begins (the 45) sign ≡ false) × (taken ≡ sign ++ ds) × (rest ≡ left)
    go true g e = absurd (cc e)
    go false g e = (small, cc e, g, cc e, cc e)

no_digit_read : {Z : Type 0} (sign text taken rest : Text) (n : ℕ) → no_digit sign text ≡ Read n taken rest → Z
no_digit_read [] text taken rest n e = absurd (cc e)
no_digit_read (c ∷ sign) text taken rest n e = absurd (cc e)

record DigitsRead (sign text : Text) (n : ℕ) (taken rest : Text) : Type 0 where
  pub reads : digits n text rest
  pub plus : begins (the 45) sign ≡ false
  pub whole : taken ≡ sign ++ front is_ascii_digit text

digits_go : (sign text : Text) (n : ℕ) (taken rest : Text) (b : Bool) → begins is_ascii_digit text ≡ b
    → cond b (numbered sign (front is_ascii_digit text) (after is_ascii_digit text) (value_of (front is_ascii_digit text))) (no_digit sign text) ≡ Read n taken rest → DigitsRead sign text n taken rest
digits_go sign text n taken rest true f e =
    let v = digits_value 10 (front is_ascii_digit text) in
    let k = fitting_go sign (front is_ascii_digit text) (after is_ascii_digit text) v n taken rest (nat_lt v (2 ^ 64)) (begins (the 45) sign) refl refl e in
    record { reads = (f, k.1, subst (λ n. n < 2 ^ 64) (sym k.1) k.0, k.4); plus = k.2; whole = k.3 }
digits_go sign text n taken rest false f e = no_digit_read sign text taken rest n e

digits_read : (sign text : Text) (n : ℕ) (taken rest : Text) → digits_at sign text ≡ Read n taken rest → DigitsRead sign text n taken rest
digits_read sign text n taken rest e = digits_go sign text n taken rest (begins is_ascii_digit text) refl e

digits-found : (sign text : Text) (n : ℕ) (rest : Text) → digits n text rest → begins (the 45) sign ≡ false → digits_at sign text ≡ Read n (sign ++ front is_ascii_digit text) rest
digits-found sign text n rest (f, v, small, r) plus =
    rw f (ap (λ v. numbered sign (front is_ascii_digit text) (after is_ascii_digit text) (fitting v)) (sym v) ∙ (fits ∙ ap (Read n (sign ++ front is_ascii_digit text)) (sym r)))
  where
    fits : numbered sign (front is_ascii_digit text) (after is_ascii_digit text) (fitting n) ≡ Read n (sign ++ front is_ascii_digit text) (after is_ascii_digit text)
    fits = let e : nat_lt n (2 ^ 64) ≡ true = grind (arith, nat_tests) in rw (e, plus) refl

or_false : (a b : Bool) → (a || b) ≡ false → (a ≡ false) × (b ≡ false)
or_false true b e = absurd (true≢false e)
or_false false b e = (refl, e)

or_first : (a b : Bool) → (a || b) ≡ true → b ≡ false → a ≡ true
or_first true b e f = refl
or_first false b e f = absurd (true≢false (sym e ∙ f))

number_go : (c : ℕ) (text : Text) (n : ℕ) (taken rest : Text) (b : Bool) → is_sign c ≡ b
    → digits_at (cond b (c ∷ []) []) (cond b text (c ∷ text)) ≡ Read n taken rest → number n (c ∷ text) rest × (taken ++ rest ≡ c ∷ text)
number_go c text n taken rest true f e =
    let k = digits_read (c ∷ []) text n taken rest e in
    let same : c ≡ 43 = same_character c 43 (or_first (the 43 c) (the 45 c) f k.plus) in (
      inr (text, ap (λ c. c ∷ text) same, k.reads),
      ap (λ t. t ++ rest) k.whole ∙ ap (λ t. c ∷ t) (ap (λ r. front is_ascii_digit text ++ r) k.reads.3 ∙ front-after is_ascii_digit text),
    )
number_go c text n taken rest false f e =
    let k = digits_read [] (c ∷ text) n taken rest e in (
      inl ((or_false (the 43 c) (the 45 c) f).0, k.reads),
      ap (λ t. t ++ rest) k.whole ∙ (ap (λ r. front is_ascii_digit (c ∷ text) ++ r) k.reads.3 ∙ front-after is_ascii_digit (c ∷ text)),
    )

number_reads : (text : Text) (n : ℕ) (taken rest : Text) → number_at text ≡ Read n taken rest → number n text rest × (taken ++ rest ≡ text)
unfolding number_at
number_reads [] n taken rest e = absurd (cc e)
number_reads (c ∷ text) n taken rest e = number_go c text n taken rest (is_sign c) refl e

-- a number that is accepted is one that the grammar parses
pub number_read : (text : Text) (n : ℕ) (taken rest : Text) → number_at text ≡ Read n taken rest → number n text rest
number_read text n taken rest e = (number_reads text n taken rest e).0

-- what is taken of a number and what is left make up the text
pub splits_number : Splits number_at
splits_number text n taken rest e = (number_reads text n taken rest e).1

-- a digit is no sign
no_sign : (c : ℕ) → is_ascii_digit c ≡ true → is_sign c ≡ false
no_sign c e = grind (arith, nat_tests)

-- a number that the grammar parses is accepted
pub number_found : (text : Text) (n : ℕ) (rest : Text) → number n text rest → (taken : Text) × (number_at text ≡ Read n taken rest)
unfolding number_at
number_found [] n rest (inl a) = absurd (true≢false (sym a.1.0))
number_found (c ∷ text) n rest (inl a) =
    (front is_ascii_digit (c ∷ text), rw (no_sign c a.1.0) (digits-found [] (c ∷ text) n rest a.1 refl))
number_found text n rest (inr (m, e, d)) = (43 ∷ front is_ascii_digit m, ap (λ t. digits_at (sign_of t) (after_sign t)) e ∙ digits-found (43 ∷ []) m n rest d refl)

-- ---- an id
pub id_read : (text : Text) (i : Id) (taken rest : Text) → id_at text ≡ Read i taken rest → reads.id i text rest
unfolding id_at
id_read text i taken rest e =
    let a = followed_read _ _ i taken rest e in
    let b = followed_read _ _ i a.more rest a.second in
    let c = mapped_read (id_with a.value) _ i b.more rest b.second in
    let dialect : a.value ≡ i.dialect = ap (λ i. i.dialect) c.2 in
    let name : c.0 ≡ i.name = ap (λ i. i.name) c.2 in (
      a.middle,
      subst (λ d. identifier d text a.middle) dialect (word_read _ text a.value a.front a.middle a.first).0,
      (
        b.middle,
        text_read (codes ".") a.middle b.front b.middle b.first,
        subst (λ d. identifier d b.middle rest) name (word_read _ b.middle c.0 b.more rest c.1).0,
      ),
    )

-- an id that the grammar parses is accepted
pub id_found : (text : Text) (i : Id) (rest : Text) → reads.id i text rest → (taken : Text) × (id_at text ≡ Read i taken rest)
unfolding id_at
id_found text i rest (m, a, (n, b, c)) = (
  _,
  followed-read _ _ i.dialect i i.dialect m _ rest (word-identifier _ text i.dialect m a)
      (followed-read _ _ tt i (codes ".") n i.name rest (text-literal (codes ".") m n b) (ap (mapped (id_with i.dialect)) (word-identifier _ n i.name rest c))),
)

-- what is taken of an id and what is left make up the text
pub splits_id : Splits id_at
unfolding id_at
splits_id = splits_followed (word_at _) _ (splits_word _) (λ d. splits_followed (text_at (codes ".")) _ (splits_text (codes ".")) (λ u. splits_mapped (id_with d) identifier_at (splits_word _)))
