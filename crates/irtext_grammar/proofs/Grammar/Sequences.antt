-- Readings through a text up to what follows it, one after another.
use Rattle.std.specs.Prelude.{◌≡◌, ℕ, Bool, false, List, [], ◌∷◌, ◌++◌, map, refl}
use Rattle.std.proofs.Common.{inr, sym, ap, subst, append_assoc}
use Rattle.std.specs.Char.{is_whitespace}
use Rattle.irtext_base.specs.Text.{Text, begins, after_space, in_word}
use Rattle.irtext_base.specs.Reading.{Reading, ◌▹◌, white, ends, the, literal, identifier, separated, more}
use Rattle.irtext_base.specs.Own.{Ends}
use Rattle.irtext_grammar.specs.Spelling.Spellable.{Each, IsIdentifier}
use Rattle.irtext_grammar.specs.Spelling.Spell.{joined, joined_from, comma}
use Rattle.irtext_base.proofs.Characters.{after_stops, after_twice, front_all, after_all, ends_word, identifier_every, identifier_begins, word_tight}

-- The text, white space first, parses as R up to f, white space aside.
pub record Reaches (R : Reading) (t f : Text) : Type 0 where
  pub left : Text
  pub reading : R (after_space t) left
  pub same : after_space left ≡ after_space f

-- white space at the beginning of the text makes no difference
pub reaches_from : {R : Reading} {t t' f : Text} → after_space t ≡ after_space t' → Reaches R t' f → Reaches R t f
reaches_from {R} e r = record { left = r.left; reading = subst (λ s. R s r.left) (sym e) r.reading; same = r.same }

-- one reading up to where another begins, and then the other
pub reaches_then : {R S : Reading} {t g f : Text} → Reaches R t g → Reaches S g f → Reaches (R ▹ S) t f
reaches_then {R} {S} r s = record { left = s.left; reading = (r.left, r.reading, subst (λ w. S w s.left) (sym r.same) s.reading); same = s.same }

-- a fixed word is parsed if the text begins with it
pub reaches_literal : (c : ℕ) (w f : Text) → is_whitespace c ≡ false → Reaches (literal (c ∷ w)) (c ∷ (w ++ f)) f
reaches_literal c w f e = record { left = f; reading = after_stops is_whitespace c (w ++ f) e; same = refl }

-- an identifier is parsed if no character after it continues it
pub identifier_stops : (s f : Text) → IsIdentifier s → begins in_word f ≡ false → identifier s (s ++ f) f
identifier_stops s f e h = (identifier_begins s f e, sym (front_all in_word s f (identifier_every s e) h), sym (after_all in_word s f (identifier_every s e) h))

-- an identifier parses before what ends a word
pub identifier_here : (s f : Text) → IsIdentifier s → Ends f → identifier s (s ++ f) f
identifier_here s f e h = identifier_stops s f e (ends_word f h)

-- the same, through the text
pub reaches_identifier : (s f : Text) → IsIdentifier s → Ends f → Reaches (identifier s) (s ++ f) f
reaches_identifier s f e h = record { left = f; reading = subst (λ t. identifier s t f) (sym (word_tight (s ++ f) (identifier_begins s f e))) (identifier_here s f e h); same = refl }

-- the end of a list is seen where no further item begins
pub reaches_ends : (test : ℕ → Bool) (f : Text) → begins test (after_space f) ≡ false → Reaches (ends test) f f
reaches_ends test f e = record { left = after_space f; reading = (e, refl); same = after_twice is_whitespace f }

-- lists
module _ {X : Type 0} (F : X → Reading) (s : X → Text) (Good : X → Type 0) (back : (x : X) (f : Text) → Good x → Ends f → Reaches (F x) (s x ++ f) f) where
  ends_joined : (xs : List X) (f : Text) → Ends f → Ends (joined_from comma (map s xs) ++ f)
  ends_joined [] f h = h
  ends_joined (x ∷ xs) f h = inr refl

  back_more : (xs : List X) (f : Text) → Each Good xs → Ends f → begins (the 44) (after_space f) ≡ false
      → Reaches (more 44 (map F xs)) (joined_from comma (map s xs) ++ f) f
  back_more [] f g h e = reaches_ends (the 44) f e
  back_more (x ∷ xs) f g h e =
      let j = joined_from comma (map s xs) in
      reaches_then (reaches_literal 44 [] (32 ∷ ((s x ++ j) ++ f)) refl)
      (reaches_then (reaches_from (ap after_space (append_assoc (s x) j f)) (back x (j ++ f) g.0 (ends_joined xs f h))) (back_more xs f g.1 h e))

  list_first : (absent : Text → Type 0) (x : X) (xs : List X) (f : Text) → Reaches (F x ▹ more 44 (map F xs)) ((s x ++ joined_from comma (map s xs)) ++ f) f
      → Reaches (separated 44 absent (F x ∷ map F xs)) ((s x ++ joined_from comma (map s xs)) ++ f) f
  list_first absent x xs f r = record { left = r.left; reading = r.reading; same = r.same }

  -- a list is parsed back where each of its items does
  pub back_list : (absent : Text → Type 0) (xs : List X) (f : Text) → Each Good xs → Ends f → begins (the 44) (after_space f) ≡ false → absent (after_space f)
      → Reaches (separated 44 absent (map F xs)) (joined comma (map s xs) ++ f) f
  back_list absent [] f g h e n = record { left = after_space f; reading = (n, refl); same = after_twice is_whitespace f }
  back_list absent (x ∷ xs) f g h e n =
      let j = joined_from comma (map s xs) in
      list_first absent x xs f (reaches_then (reaches_from (ap after_space (append_assoc (s x) j f)) (back x (j ++ f) g.0 (ends_joined xs f h))) (back_more xs f g.1 h e))

-- a reading after white space reaches the position that the reading reaches
pub reaches_white : {R : Reading} {t f : Text} → Reaches R t f → Reaches (white R) t f
reaches_white {R} {t} r = record { left = r.left; reading = subst (λ s. R s r.left) (sym (after_twice is_whitespace t)) r.reading; same = r.same }
