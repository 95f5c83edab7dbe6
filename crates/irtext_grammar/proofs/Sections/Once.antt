-- What is written once: each mention has its entry in the section, and the index that is written is that entry's.
use Rattle.std.proofs.Common.{◌≡◌, ℕ, suc, ◌+◌, ◌<◌, Bool, true, false, cond, ◌||◌, ◌==◌, List, [], ◌∷◌, ◌++◌, length, Some, None, refl, sym, ap, ap₂, ◌∙◌, true≢false, arith}
use Rattle.std.specs.Prelude.{⊤, flat_map}
use Rattle.std.proofs.lemmas.Bool.Decides.{nat_tests}
use Rattle.irtext_base.specs.Text.{Text}
use Rattle.irtext_base.specs.Format.{has}
use Rattle.irtext_grammar.specs.Grammar.Tree.{Attribute, given_names, ident, own}
use Rattle.irtext_grammar.specs.Spelling.Spellable.{Each}
use Rattle.irtext_grammar.specs.Graphs.Graph as graph
use Rattle.irtext_grammar.specs.Graphs.Graph.{Printing, once, firsts, shared, place_in}
use Rattle.irtext_grammar.specs.Grammar.Section.{Entry}
use Rattle.irtext_grammar.specs.Names.Acts.{shared_attribute}
use Rattle.irtext_grammar.specs.Spelling.SectionEntries.{written_items, written_once, written_section}

module _ {X : Type 0} (same : X → X → Bool) (x : X) where
  has_left : (xs ys : List X) → has same x xs ≡ true → has same x (xs ++ ys) ≡ true
  has_left [] ys e = absurd (true≢false (sym e))
  has_left (y ∷ xs) ys e = go (same x y) e (has_left xs ys)
    where
      go : (b : Bool) → (b || has same x xs) ≡ true → (has same x xs ≡ true → has same x (xs ++ ys) ≡ true) → (b || has same x (xs ++ ys)) ≡ true
      go true e more = refl
      go false e more = more e

  has_right : (xs ys : List X) → has same x ys ≡ true → has same x (xs ++ ys) ≡ true
  has_right [] ys e = e
  has_right (y ∷ xs) ys e = or_right (same x y) (has same x (xs ++ ys)) (has_right xs ys e)
    where
      or_right : (a b : Bool) → b ≡ true → (a || b) ≡ true
      or_right true b e = refl
      or_right false b e = e

module _ {T A : Type 0} (C : Printing T A) (sound : (a b : A) → C.same_own a b ≡ true → a ≡ b) where
  -- what is mentioned, and was not known, is among the first mentions
  firsts_has : (a : A) (known ms : List A) → has C.same_own a ms ≡ true → (has C.same_own a known || has C.same_own a (firsts C known ms)) ≡ true
  firsts_has a known [] e = absurd (true≢false (sym e))
  firsts_has a known (b ∷ rest) e = go (C.same_own a b) (has C.same_own b known) refl refl e (firsts_has a known rest) (firsts_has a (b ∷ known) rest)
    where
      or_true : (b : Bool) → (b || true) ≡ true
      or_true true = refl
      or_true false = refl

      go : (p q : Bool) → C.same_own a b ≡ p → has C.same_own b known ≡ q → (p || has C.same_own a rest) ≡ true
          → (has C.same_own a rest ≡ true → (has C.same_own a known || has C.same_own a (firsts C known rest)) ≡ true)
          → (has C.same_own a rest ≡ true → ((C.same_own a b || has C.same_own a known) || has C.same_own a (firsts C (b ∷ known) rest)) ≡ true)
          → (has C.same_own a known || has C.same_own a (cond q (firsts C known rest) (b ∷ firsts C (b ∷ known) rest))) ≡ true
      go true true s k h less more = ap (λ z. z || has C.same_own a (firsts C known rest)) (ap (λ z. has C.same_own z known) (sound a b s) ∙ k)
      go true false s k h less more = ap (λ z. has C.same_own a known || (z || has C.same_own a (firsts C (b ∷ known) rest))) s ∙ or_true (has C.same_own a known)
      go false true s k h less more = less h
      go false false s k h less more =
          ap (λ z. has C.same_own a known || (z || has C.same_own a (firsts C (b ∷ known) rest))) s
          ∙ (ap (λ z. (z || has C.same_own a known) || has C.same_own a (firsts C (b ∷ known) rest)) (sym s) ∙ more h)

  -- the place of an element that is present is below the length
  pub place_below : (a : A) (xs : List A) → has C.same_own a xs ≡ true → place_in C xs a < length xs
  place_below a [] e = absurd (true≢false (sym e))
  place_below a (b ∷ xs) e = go (C.same_own a b) e (place_below a xs)
    where
      go : (p : Bool) → (p || has C.same_own a xs) ≡ true → (has C.same_own a xs ≡ true → place_in C xs a < length xs) → cond p 0 (suc (place_in C xs a)) < suc (length xs)
      go true h more = omega arith
      go false h more = let l = more h in omega arith

  once_before : (i n : ℕ) (xs : List A) → i < n → shared_attribute i (written_once n xs) ≡ None
  once_before i n [] h = refl
  once_before i n (a ∷ xs) h = ap₂ (λ o b. elim o [ Some z ↦ Some z | None ↦ cond b (Some (own a)) None ]) (once_before i (suc n) xs (omega arith)) (apart n i h)
    where
      apart : (n i : ℕ) → i < n → (n == i) ≡ false
      apart n i h = grind (arith, nat_tests)

  once_place : (a : A) (n : ℕ) (xs : List A) → has C.same_own a xs ≡ true → shared_attribute (n + place_in C xs a) (written_once n xs) ≡ Some (own a)
  once_place a n [] e = absurd (true≢false (sym e))
  once_place a n (b ∷ xs) e = go (C.same_own a b) refl e (once_place a (suc n) xs)
    where
      alike : (n i : ℕ) → i ≡ n → (n == i) ≡ true
      alike n i h = grind (arith, nat_tests)

      apart : (n i : ℕ) → n < i → (n == i) ≡ false
      apart n i h = grind (arith, nat_tests)

      go : (p : Bool) → C.same_own a b ≡ p → (p || has C.same_own a xs) ≡ true → (has C.same_own a xs ≡ true → shared_attribute (suc n + place_in C xs a) (written_once (suc n) xs) ≡ Some (own a))
          → shared_attribute (n + cond p 0 (suc (place_in C xs a))) (written_once n (b ∷ xs)) ≡ Some (own a)
      go true s h more = ap₂ (λ o c. elim o [ Some z ↦ Some z | None ↦ cond c (Some (own b)) None ]) (once_before (n + 0) (suc n) xs (omega arith)) (alike n (n + 0) (omega arith)) ∙ ap (λ z. Some (own z)) (sym (sound a b s))
      go false s h more =
          let k : n + suc (place_in C xs a) ≡ suc n + place_in C xs a = omega arith in
          ap (λ o. elim o [ Some z ↦ Some z | None ↦ cond (n == (n + suc (place_in C xs a))) (Some (own b)) None ]) (ap (λ i. shared_attribute i (written_once (suc n) xs)) k ∙ more h)

  once_after : (i items : ℕ) (ones : List A) (n : ℕ) (es : List (graph.Entry C)) (last : List (Entry ⊤ A Text)) → shared_attribute i (written_items C items ones n es ++ last) ≡ shared_attribute i last
  once_after i items ones n [] last = refl
  once_after i items ones n (e ∷ es) last = once_after i items ones (suc n) es last

  -- mentions
  abbrev pub mentions : List (graph.Entry C) → List A
  mentions es = flat_map (λ e. flat_map (λ a. once C a.1) e.attributes) es

  -- an attribute, where it is one that is written once, is in the list
  abbrev pub Mention : List A → Attribute A → Type 0
  Mention ms (own a) = C.own_once a ≡ true → has C.same_own a ms ≡ true
  Mention ms _ = ⊤

  mention_after : (ns ms : List A) (a : Attribute A) → Mention ms a → Mention (ns ++ ms) a
  mention_after ns ms (given_names xs) h = tt
  mention_after ns ms (ident n) h = tt
  mention_after ns ms (own a) h = λ e. has_right C.same_own a ns ms (h e)

  mention_before : (ms ns : List A) (a : Attribute A) → Mention ms a → Mention (ms ++ ns) a
  mention_before ms ns (given_names xs) h = tt
  mention_before ms ns (ident n) h = tt
  mention_before ms ns (own a) h = λ e. has_left C.same_own a ms ns (h e)

  each_of : {X : Type 0} (Q R : X → Type 0) → ((x : X) → Q x → R x) → (xs : List X) → Each Q xs → Each R xs
  each_of Q R h [] e = tt
  each_of Q R h (x ∷ xs) e = (h x e.0, each_of Q R h xs e.1)

  -- so is each attribute of an entry
  abbrev pub Mentions : List A → graph.Entry C → Type 0
  Mentions ms e = Each (λ x. Mention ms x.1) e.attributes

  module _ (reflexive : (a : A) → C.same_own a a ≡ true) where
    mention_once : (a : Attribute A) → Mention (once C a) a
    mention_once (given_names xs) = tt
    mention_once (ident n) = tt
    mention_once (own a) = λ e. ap (λ b. has C.same_own a (cond b (a ∷ []) [])) e ∙ ap (λ b. b || false) (reflexive a)

    each_attribute : (es : List (Text × Attribute A)) → Each (λ x. Mention (flat_map (λ a. once C a.1) es) x.1) es
    each_attribute [] = tt
    each_attribute (e ∷ es) =
        let ms = flat_map (λ (a : Text × Attribute A). once C a.1) es in
        (mention_before (once C e.1) ms e.1 (mention_once e.1), each_of (λ x. Mention ms x.1) (λ x. Mention (once C e.1 ++ ms) x.1) (λ x h. mention_after (once C e.1) ms x.1 h) es (each_attribute es))

    -- each attribute of each entry that is written once is mentioned
    each_mentions : (es : List (graph.Entry C)) → Each (Mentions (mentions es)) es
    each_mentions [] = tt
    each_mentions (e ∷ es) =
        let own_ms = flat_map (λ (a : Text × Attribute A). once C a.1) e.attributes in (
          each_of (λ x. Mention own_ms x.1) (λ x. Mention (own_ms ++ mentions es) x.1) (λ x h. mention_before own_ms (mentions es) x.1 h) e.attributes (each_attribute e.attributes),
          each_of (Mentions (mentions es)) (Mentions (own_ms ++ mentions es))
              (λ y h. each_of (λ x. Mention (mentions es) x.1) (λ x. Mention (own_ms ++ mentions es) x.1) (λ x k. mention_after own_ms (mentions es) x.1 k) y.attributes h) es (each_mentions es),
        )

    shared_mention : (es : List (graph.Entry C)) (a : Attribute A) → Mention (mentions es) a → Mention (shared C es) a
    shared_mention es (given_names xs) h = tt
    shared_mention es (ident n) h = tt
    shared_mention es (own a) h = λ e. firsts_has a [] (mentions es) (h e)

    -- and is among those of the section
    pub each_shared : (es : List (graph.Entry C)) → Each (Mentions (shared C es)) es
    each_shared es =
        each_of (Mentions (mentions es)) (Mentions (shared C es)) (λ y h. each_of (λ x. Mention (mentions es) x.1) (λ x. Mention (shared C es) x.1) (λ x k. shared_mention es x.1 k) y.attributes h) es (each_mentions es)

  -- the index that is written of an attribute is that of its entry
  pub once_written : (es : List (graph.Entry C)) (a : A) → has C.same_own a (shared C es) ≡ true → shared_attribute (length es + place_in C (shared C es) a) (written_section C es) ≡ Some (own a)
  once_written es a h = once_after (length es + place_in C (shared C es) a) (length es) (shared C es) 0 es (written_once (length es) (shared C es)) ∙ once_place a (length es) (shared C es) h
