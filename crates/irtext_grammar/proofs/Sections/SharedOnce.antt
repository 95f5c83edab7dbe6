-- A section has each attribute that is written once in one place alone.
use Rattle.std.proofs.Common.{◌≡◌, Bool, true, false, cond, not, ◌&&◌, ◌||◌, List, [], ◌∷◌, refl, sym, ap, ap₂, ◌∙◌, true≢false}
use Rattle.irtext_base.specs.Format.{has, distinct}
use Rattle.irtext_grammar.specs.Graphs.Graph as graph
use Rattle.irtext_grammar.specs.Graphs.Graph.{Printing, firsts, shared}
use Rattle.irtext_grammar.proofs.Sections.Once.{mentions}

module _ {T A : Type 0} (C : Printing T A) (sound : (a b : A) → C.same_own a b ≡ true → a ≡ b) where
  -- what is known is not among the first mentions
  known_apart : (a : A) (known ms : List A) → has C.same_own a known ≡ true → has C.same_own a (firsts C known ms) ≡ false
  known_apart a known [] e = refl
  known_apart a known (b ∷ rest) e = go (has C.same_own b known) refl (known_apart a known rest e) (known_apart a (b ∷ known) rest (following (C.same_own a b) e))
    where
      following : (p : Bool) → has C.same_own a known ≡ true → (p || has C.same_own a known) ≡ true
      following true h = refl
      following false h = h

      apart : (p : Bool) → C.same_own a b ≡ p → has C.same_own b known ≡ false → p ≡ false
      apart true s k = absurd (true≢false (sym e ∙ (ap (λ z. has C.same_own z known) (sound a b s) ∙ k)))
      apart false s k = refl

      go : (q : Bool) → has C.same_own b known ≡ q → has C.same_own a (firsts C known rest) ≡ false → has C.same_own a (firsts C (b ∷ known) rest) ≡ false
          → has C.same_own a (cond q (firsts C known rest) (b ∷ firsts C (b ∷ known) rest)) ≡ false
      go true k less more = less
      go false k less more = ap₂ ◌||◌ (apart (C.same_own a b) refl k) more

  module _ (reflexive : (a : A) → C.same_own a a ≡ true) where
    distinct_firsts : (known ms : List A) → distinct C.same_own (firsts C known ms) ≡ true
    distinct_firsts known [] = refl
    distinct_firsts known (b ∷ rest) = go (has C.same_own b known) (distinct_firsts known rest) (distinct_firsts (b ∷ known) rest) (known_apart b (b ∷ known) rest (ap (λ p. p || has C.same_own b known) (reflexive b)))
      where
        go : (q : Bool) → distinct C.same_own (firsts C known rest) ≡ true → distinct C.same_own (firsts C (b ∷ known) rest) ≡ true → has C.same_own b (firsts C (b ∷ known) rest) ≡ false
            → distinct C.same_own (cond q (firsts C known rest) (b ∷ firsts C (b ∷ known) rest)) ≡ true
        go true less more new = less
        go false less more new = ap₂ (λ p q. not p && q) new more

    -- no attribute is written once in two places
    pub distinct_shared : (es : List (graph.Entry C)) → distinct C.same_own (shared C es) ≡ true
    distinct_shared es = distinct_firsts [] (mentions C sound es)
