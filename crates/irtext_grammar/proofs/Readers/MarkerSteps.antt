-- A fixed text that is taken whole or not at all, and the rest if it is not whole.
use Rattle.std.proofs.Common.{◌≡◌, ℕ, Bool, true, false, cond, MatchBool, [], ◌∷◌, ◌++◌, refl, sym, ◌∙◌, ap, append_assoc, arith}
use Rattle.std.specs.Char.{is_whitespace}
use Rattle.std.proofs.lemmas.Bool.Decides.{nat_tests}
use Rattle.irtext_base.specs.Text.{Text, front, after_space}
use Rattle.irtext_base.specs.Reading.{the}
use Rattle.irtext_base.specs.Stream.{StreamView, after_taken}
use Rattle.irtext_base.specs.Answers.{Takes}
use Rattle.irtext_base.proofs.Along.{front_after}
use Rattle.irtext_base.proofs.Compose.{seen_after}
use Rattle.irtext_stream.specs.Text.{BeginsOtherwise}
use Rattle.irtext_stream.specs.Classes.{after_spaces}
use Rattle.irtext_stream.specs.Stream.{Comes}
use Rattle.irtext_tokens.specs.Lists.{MovesOn, Skips}
use Rattle.irtext_grammar.specs.Readers.Marker.{starts_with, TakesWord}

same_the : (c d : ℕ) → the c d ≡ true → d ≡ c
same_the c d e = grind (arith, nat_tests)

the-same : (c : ℕ) → the c c ≡ true
the-same c = grind (arith, nat_tests)

-- a text with the word as its prefix begins with the word
pub starts_whole : (word rest : Text) → starts_with word (word ++ rest) ≡ true
starts_whole [] rest = refl
starts_whole (c ∷ word) rest = rw (the-same c) (starts_whole word rest)

-- if a text begins with the word, it is the word and a rest
starts_rest : (word text : Text) → starts_with word text ≡ true → (rest : Text) × (text ≡ word ++ rest)
starts_rest [] text e = (text, refl)
starts_rest (c ∷ word) [] e = absurd (cc)
starts_rest (c ∷ word) (d ∷ text) e = go (the c d) refl e (starts_rest word text)
  where
    go : (b : Bool) → the c d ≡ b → cond b (starts_with word text) false ≡ true → (starts_with word text ≡ true → (rest : Text) × (text ≡ word ++ rest)) → (rest : Text) × (d ∷ text ≡ c ∷ (word ++ rest))
    go true b q h = let r = h q in (r.0, ap (λ z. z ∷ text) (same_the c d b) ∙ ap (λ z. c ∷ z) r.1)
    go false b q h = absurd (cc)

pub starts_not : (word text : Text) → ((rest : Text) → text ≡ word ++ rest → ⊥) → starts_with word text ≡ false
starts_not word text h =
    elim (starts_with word text) as (λ b. starts_with word text ≡ b → b ≡ false) [ true ↦ (λ e. let r = starts_rest word text e in absurd (h r.0 r.1)) | false ↦ (λ e. refl) ] refl

module _ {S : Type 0} (view : S → StreamView) (at : S → StreamView → S) where
  module _ (view_at : (s : S) (v : StreamView) → view (at s v) ≡ v) (at_view : (s : S) → at s (view s) ≡ s) (at_at : (s : S) (v w : StreamView) → at (at s v) w ≡ at s w) where
    -- the word was accepted after white space, or the stream is unchanged
    pub word_accepted : (word : Text) (old new : S) (b : Bool) → MatchBool b (Comes word (after_spaces (view old)) (λ v. new ≡ at old v)) (BeginsOtherwise word (after_spaces (view old)).rest × (new ≡ old)) → TakesWord view at word old b new
    word_accepted word old new true h =
        let v = after_spaces (view old) in
        let mid = at old v in
        let seen = view_at old v in
        let there : new ≡ at mid (after_taken (view mid) word h.0) = h.2 ∙ (sym (at_at old v (after_taken v word h.0)) ∙ ap (λ w. at mid (after_taken w word h.0)) (sym seen)) in
        let k : Takes view at word h.0 mid new = record { is = there; same = sym h.1 ∙ sym (ap (λ w. w.rest) seen) } in
        let r : (view new).rest ≡ h.0 = ap (λ v. v.rest) (seen_after view at view_at at_at mid new word h.0 k) in
        record { tells = sym (ap (starts_with word) h.1 ∙ starts_whole word h.0); left = (mid, refl, rw r k) }
    word_accepted word old new false h = record { tells = sym (starts_not word (after_space (view old).rest) h.0); left = h.1 }

    -- the whole word does not follow the white space, and the stream is unchanged
    pub marker_none : (word : Text) (old new : S) (b : Bool) → TakesWord view at word old b new → b ≡ false → (starts_with word (after_space (view old).rest) ≡ false) × (new ≡ old)
    marker_none word old new true w e = absurd (cc)
    marker_none word old new false w e = (sym w.tells, w.left)

    -- the whole word follows, and was taken
    pub marker_whole : (word : Text) (old new : S) (b : Bool) → TakesWord view at word old b new → b ≡ true
        → (mid : S) × Skips view at old mid × (starts_with word (view mid).rest ≡ true) × Takes view at word (view new).rest mid new
    marker_whole word old new true w e =
        let k = w.left in
        (k.0, k.1, ap (λ z. starts_with word (view z).rest) k.1 ∙ (ap (λ v. starts_with word v.rest) (view_at old (after_spaces (view old))) ∙ sym w.tells), k.2)
    marker_whole word old new false w e = absurd (cc)

    -- white space and the word were taken, and nothing else changed
    pub marker_hands : (word : Text) (old mid new : S) → Skips view at old mid → Takes view at word (view new).rest mid new → MovesOn view at old new
    marker_hands word old mid new k t =
        let space = front is_whitespace (view old).rest in
        let seen : view mid ≡ after_spaces (view old) = ap view k ∙ view_at old (after_spaces (view old)) in
        let then_seen : view new ≡ after_taken (view mid) word (view new).rest = seen_after view at view_at at_at mid new word (view new).rest t in
        record {
          taken = space ++ word;
          same = append_assoc space word (view new).rest ∙ (ap (λ z. space ++ z) (t.same ∙ ap (λ v. v.rest) seen) ∙ front_after is_whitespace (view old).rest);
          passed = ap (λ v. v.passed) then_seen ∙ (ap (λ v. v.passed ++ word) seen ∙ append_assoc (view old).passed space word);
          fails = ap (λ v. v.failed) then_seen ∙ ap (λ v. v.failed) seen;
        }
