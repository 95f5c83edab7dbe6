-- The attributes that a section writes once: those that are recorded while items are written are those that printing shares, and the place
-- of each stays as more are recorded.
use Rattle.std.proofs.Common.{◌≡◌, ℕ, suc, Bool, true, false, true≢false, not, cond, ◌||◌, List, [], ◌∷◌, ◌++◌, map, flat_map, Option, Some, None, ◌+◌, arith, refl, sym, ap, ◌∙◌}
use Rattle.std.proofs.lemmas.List.{append_assoc, append-nil}
use Rattle.std.specs.Borrow.{Bor}
use Rattle.std.specs.List.{list_any, position_or_len}
use Rattle.indexmap.specs.IndexSet.{insert_key}
use Rattle.irtext_base.specs.Format.{has}
use Rattle.irtext_base.specs.Text.{Text}
use Rattle.irtext_grammar.specs.Grammar.Tree.{Attribute, given_names, ident, own}
use Rattle.irtext_grammar.specs.Graphs.Graph.{Printing, Entry, once, firsts, shared, place_in}
use Rattle.irtext_print.specs.Items.{there}
use Rattle.irtext_print.specs.Mentions.{with_mention, noted, all_noted, one_noted, items_noted}

-- a list is a prefix of the other
abbrev pub GoesOn : {X : Type 0} → List X → List X → Type 0
GoesOn {X} xs ys = (more : List X) × (ys ≡ xs ++ more)

pub same_on : {X : Type 0} (xs : List X) → GoesOn xs xs
same_on xs = ([], sym (append-nil xs))

pub then_on : {X : Type 0} (xs ys zs : List X) → GoesOn xs ys → GoesOn ys zs → GoesOn xs zs
then_on xs ys zs p q = (p.0 ++ q.0, q.1 ∙ ap (λ z. z ++ q.0) p.1 ∙ append_assoc xs p.0 q.0)

-- with more after it
pub on_with : {X : Type 0} (xs ys more : List X) (p : GoesOn xs ys) → ys ++ more ≡ xs ++ (p.0 ++ more)
on_with xs ys more p = ap (λ z. z ++ more) p.1 ∙ append_assoc xs p.0 more

one_more : (n : ℕ) → 1 + n ≡ suc n
one_more n = omega arith

or_true : (b : Bool) → (b || true) ≡ true
or_true true = refl
or_true false = refl

or_swap : (a b : Bool) → (a || b) ≡ (b || (a || false))
or_swap true true = refl
or_swap true false = refl
or_swap false true = refl
or_swap false false = refl

module _ {X : Type 0} (same : X → X → Bool) (x : X) where
  -- a member of a row is one of the first part or of the rest
  has_either : (xs ys : List X) → has same x (xs ++ ys) ≡ (has same x xs || has same x ys)
  has_either [] ys = refl
  has_either (y ∷ xs) ys = go (same x y) (has_either xs ys)
    where
      go : (b : Bool) → has same x (xs ++ ys) ≡ (has same x xs || has same x ys) → (b || has same x (xs ++ ys)) ≡ ((b || has same x xs) || has same x ys)
      go true h = refl
      go false h = h

-- what is among the values of references
pub any_now : {X : Type 0} (same : X → X → Bool) (k : Bor X) (ks : List (Bor X)) → list_any (λ y. same k.now y.now) ks ≡ has same k.now (map (λ r. r.now) ks)
any_now same k [] = refl
any_now same k (y ∷ ks) = ap (λ b. same k.now y.now || b) (any_now same k ks)

module _ {T A : Type 0} (C : Printing T A) where
  -- what a set of references holds when one was inserted
  pub inserted : (k : Bor A) (ks : List (Bor A)) → map (λ r. r.now) (insert_key (λ x y. C.same_own x.now y.now) ks k) ≡ with_mention C (map (λ r. r.now) ks) k.now
  inserted k ks = go (list_any (λ y. C.same_own k.now y.now) ks) ∙ ap (λ b. cond b (map (λ r. r.now) ks) (map (λ r. r.now) ks ++ k.now ∷ [])) (any_now C.same_own k ks)
    where
      following : (ks : List (Bor A)) → map (λ r. r.now) (ks ++ k ∷ []) ≡ map (λ r. r.now) ks ++ k.now ∷ []
      following [] = refl
      following (x ∷ xs) = ap (λ z. x.now ∷ z) (following xs)

      go : (b : Bool) → map (λ r. r.now) (cond b ks (ks ++ k ∷ [])) ≡ cond b (map (λ r. r.now) ks) (map (λ r. r.now) ks ++ k.now ∷ [])
      go true = refl
      go false = following ks

  -- the place of an element that is present is unchanged, whatever follows
  pub place_stays : (a : A) (ks more : List A) → has C.same_own a ks ≡ true → place_in C (ks ++ more) a ≡ place_in C ks a
  place_stays a [] more h = absurd (true≢false (sym h))
  place_stays a (k ∷ ks) more h = go (C.same_own a k) h (place_stays a ks more)
    where
      go : (b : Bool) → (b || has C.same_own a ks) ≡ true → (has C.same_own a ks ≡ true → place_in C (ks ++ more) a ≡ place_in C ks a) → cond b 0 (suc (place_in C (ks ++ more) a)) ≡ cond b 0 (suc (place_in C ks a))
      go true h rest = refl
      go false h rest = ap suc (rest h)

  -- the place that a set gives to a reference
  pub place_given : (reflexive : (a : A) → C.same_own a a ≡ true) (k : Bor A) (ks : List (Bor A))
      → position_or_len (λ y. C.same_own k.now y.now) ks ≡ place_in C (with_mention C (map (λ r. r.now) ks) k.now) k.now
  place_given reflexive k ks = go (has C.same_own k.now (map (λ r. r.now) ks)) refl
    where
      there_already : (ks : List (Bor A)) → has C.same_own k.now (map (λ r. r.now) ks) ≡ true → position_or_len (λ y. C.same_own k.now y.now) ks ≡ place_in C (map (λ r. r.now) ks) k.now
      there_already [] h = absurd (true≢false (sym h))
      there_already (y ∷ ys) h = by (C.same_own k.now y.now) h (there_already ys)
        where
          by : (b : Bool) → (b || has C.same_own k.now (map (λ r. r.now) ys)) ≡ true → (has C.same_own k.now (map (λ r. r.now) ys) ≡ true → position_or_len (λ y. C.same_own k.now y.now) ys ≡ place_in C (map (λ r. r.now) ys) k.now)
              → cond (not b) (1 + position_or_len (λ y. C.same_own k.now y.now) ys) 0 ≡ cond b 0 (suc (place_in C (map (λ r. r.now) ys) k.now))
          by true h rest = refl
          by false h rest = one_more (position_or_len (λ y. C.same_own k.now y.now) ys) ∙ ap suc (rest h)

      last : (ks : List (Bor A)) → has C.same_own k.now (map (λ r. r.now) ks) ≡ false → position_or_len (λ y. C.same_own k.now y.now) ks ≡ place_in C (map (λ r. r.now) ks ++ k.now ∷ []) k.now
      last [] h = sym (ap (λ b. cond b 0 1) (reflexive k.now))
      last (y ∷ ys) h = by (C.same_own k.now y.now) h (last ys)
        where
          by : (b : Bool) → (b || has C.same_own k.now (map (λ r. r.now) ys)) ≡ false → (has C.same_own k.now (map (λ r. r.now) ys) ≡ false → position_or_len (λ y. C.same_own k.now y.now) ys ≡ place_in C (map (λ r. r.now) ys ++ k.now ∷ []) k.now)
              → cond (not b) (1 + position_or_len (λ y. C.same_own k.now y.now) ys) 0 ≡ cond b 0 (suc (place_in C (map (λ r. r.now) ys ++ k.now ∷ []) k.now))
          by true h rest = absurd (true≢false h)
          by false h rest = one_more (position_or_len (λ y. C.same_own k.now y.now) ys) ∙ ap suc (rest h)

      go : (b : Bool) → has C.same_own k.now (map (λ r. r.now) ks) ≡ b
          → position_or_len (λ y. C.same_own k.now y.now) ks ≡ place_in C (with_mention C (map (λ r. r.now) ks) k.now) k.now
      go true h = there_already ks h ∙ ap (λ b. place_in C (cond b (map (λ r. r.now) ks) (map (λ r. r.now) ks ++ k.now ∷ [])) k.now) (sym h)
      go false h = last ks h ∙ ap (λ b. place_in C (cond b (map (λ r. r.now) ks) (map (λ r. r.now) ks ++ k.now ∷ [])) k.now) (sym h)

  -- what is mentioned is known from then on
  pub mentioned : (reflexive : (a : A) → C.same_own a a ≡ true) (known : List A) (a : A) → has C.same_own a (with_mention C known a) ≡ true
  mentioned reflexive known a = go (has C.same_own a known) refl
    where
      go : (b : Bool) → has C.same_own a known ≡ b → has C.same_own a (cond b known (known ++ a ∷ [])) ≡ true
      go true h = h
      go false h = has_either C.same_own a known (a ∷ []) ∙ ap (λ b. has C.same_own a known || (b || false)) (reflexive a) ∙ or_true (has C.same_own a known)

  -- the place that a set gives to a reference is unchanged when more are added after those in the set
  pub noted_place : (reflexive : (a : A) → C.same_own a a ≡ true) (k : Bor A) (ks new : List (Bor A)) (place : ℕ) → new ≡ insert_key (λ x y. C.same_own x.now y.now) ks k
      → place ≡ position_or_len (λ y. C.same_own k.now y.now) ks → (more : List A) → place ≡ place_in C (map (λ r. r.now) new ++ more) k.now
  noted_place reflexive k ks new place e p more =
      let known : map (λ r. r.now) new ≡ with_mention C (map (λ r. r.now) ks) k.now = ap (map (λ r. r.now)) e ∙ inserted k ks in
      p ∙ place_given reflexive k ks ∙ sym (place_stays k.now (with_mention C (map (λ r. r.now) ks) k.now) more (mentioned reflexive (map (λ r. r.now) ks) k.now))
      ∙ ap (λ z. place_in C (z ++ more) k.now) (sym known)

  -- what is known stays, and more is added after it
  pub mention_on : (known : List A) (a : A) → GoesOn known (with_mention C known a)
  mention_on known a = go (has C.same_own a known)
    where
      go : (b : Bool) → GoesOn known (cond b known (known ++ a ∷ []))
      go true = same_on known
      go false = (a ∷ [], refl)

  pub noted_on : (known : List A) (a : Attribute A) → GoesOn known (noted C known a)
  noted_on known (given_names ns) = same_on known
  noted_on known (ident n) = same_on known
  noted_on known (own a) = go (C.own_once a)
    where
      go : (b : Bool) → GoesOn known (cond b (with_mention C known a) known)
      go true = mention_on known a
      go false = same_on known

  pub all_on : (known : List A) (es : List (Text × Attribute A)) → GoesOn known (all_noted C known es)
  all_on known [] = same_on known
  all_on known (e ∷ es) = then_on known (noted C known e.1) (all_noted C (noted C known e.1) es) (noted_on known e.1) (all_on (noted C known e.1) es)

  pub one_on : (known : List A) (g : Option (Entry C)) → GoesOn known (one_noted C known g)
  one_on known None = same_on known
  one_on known (Some e) = all_on known e.attributes

  pub items_on : (known : List A) (gs : List (Option (Entry C))) → GoesOn known (items_noted C known gs)
  items_on known [] = same_on known
  items_on known (g ∷ gs) = then_on known (one_noted C known g) (items_noted C (one_noted C known g) gs) (one_on known g) (items_on (one_noted C known g) gs)

  -- the attributes that are known after mentions
  abbrev after_mentions : List A → List A → List A
  after_mentions known [] = known
  after_mentions known (m ∷ ms) = after_mentions (with_mention C known m) ms

  after_both : (known ms ns : List A) → after_mentions known (ms ++ ns) ≡ after_mentions (after_mentions known ms) ns
  after_both known [] ns = refl
  after_both known (m ∷ ms) ns = after_both (with_mention C known m) ms ns

  -- they are those that are known, and then each that is new at its first mention
  after_firsts : (known seen ms : List A) → ((a : A) → has C.same_own a seen ≡ has C.same_own a known) → after_mentions known ms ≡ known ++ firsts C seen ms
  after_firsts known seen [] alike = sym (append-nil known)
  after_firsts known seen (m ∷ ms) alike = go (has C.same_own m known) refl (after_firsts known seen ms alike) (after_firsts (known ++ m ∷ []) (m ∷ seen) ms wider)
    where
      wider : (a : A) → has C.same_own a (m ∷ seen) ≡ has C.same_own a (known ++ m ∷ [])
      wider a = ap (λ b. C.same_own a m || b) (alike a) ∙ or_swap (C.same_own a m) (has C.same_own a known) ∙ sym (has_either C.same_own a known (m ∷ []))

      go : (b : Bool) → has C.same_own m known ≡ b → after_mentions known ms ≡ known ++ firsts C seen ms → after_mentions (known ++ m ∷ []) ms ≡ (known ++ m ∷ []) ++ firsts C (m ∷ seen) ms
          → after_mentions (with_mention C known m) ms ≡ known ++ cond (has C.same_own m seen) (firsts C seen ms) (m ∷ firsts C (m ∷ seen) ms)
      go true h less more =
          ap (λ b. after_mentions (cond b known (known ++ m ∷ [])) ms) h ∙ less
          ∙ ap (λ b. known ++ cond b (firsts C seen ms) (m ∷ firsts C (m ∷ seen) ms)) (sym (alike m ∙ h))
      go false h less more =
          ap (λ b. after_mentions (cond b known (known ++ m ∷ [])) ms) h ∙ more
          ∙ append_assoc known (m ∷ []) (firsts C (m ∷ seen) ms)
          ∙ ap (λ b. known ++ cond b (firsts C seen ms) (m ∷ firsts C (m ∷ seen) ms)) (sym (alike m ∙ h))

  noted_after : (known : List A) (a : Attribute A) → noted C known a ≡ after_mentions known (once C a)
  noted_after known (given_names ns) = refl
  noted_after known (ident n) = refl
  noted_after known (own a) = go (C.own_once a)
    where
      go : (b : Bool) → cond b (with_mention C known a) known ≡ after_mentions known (cond b (a ∷ []) [])
      go true = refl
      go false = refl

  all_after : (known : List A) (es : List (Text × Attribute A)) → all_noted C known es ≡ after_mentions known (flat_map (λ e. once C e.1) es)
  all_after known [] = refl
  all_after known (e ∷ es) =
      let ms = flat_map (λ (e : Text × Attribute A). once C e.1) es in
      all_after (noted C known e.1) es ∙ ap (λ k. after_mentions k ms) (noted_after known e.1) ∙ sym (after_both known (once C e.1) ms)

  -- what the entries mention
  abbrev mentions : List (Entry C) → List A
  mentions es = flat_map (λ e. flat_map (λ a. once C a.1) e.attributes) es

  items_noted_after : (known : List A) (gs : List (Option (Entry C))) → items_noted C known gs ≡ after_mentions known (mentions (there C gs))
  items_noted_after known [] = refl
  items_noted_after known (None ∷ gs) = items_noted_after known gs
  items_noted_after known (Some e ∷ gs) =
      let own_ms = flat_map (λ (a : Text × Attribute A). once C a.1) e.attributes in
      let ms = mentions (there C gs) in
      items_noted_after (all_noted C known e.attributes) gs ∙ ap (λ k. after_mentions k ms) (all_after known e.attributes) ∙ sym (after_both known own_ms ms)

  -- the attributes that are recorded while all items are written are those that the section writes once
  pub noted_shared : (gs : List (Option (Entry C))) → items_noted C [] gs ≡ shared C (there C gs)
  noted_shared gs = items_noted_after [] gs ∙ after_firsts [] [] (mentions (there C gs)) (λ a. refl)
