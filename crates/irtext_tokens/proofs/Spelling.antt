-- How far a parser of a fixed text has come.
use Rattle.std.proofs.Common.{◌≡◌, ℕ, Bool, true, false, Err, [], ◌∷◌, ◌++◌, refl, sym, ◌∙◌, ap, subst, append_assoc, append-nil, inr, ◌⊎◌, arith}
use Rattle.irtext_base.specs.Text.{Text, begins}
use Rattle.irtext_base.specs.Reading.{the}
use Rattle.irtext_base.specs.Stream.{StreamView, first_of, advanced, advanced_by, after_taken}
use Rattle.irtext_base.specs.Faults.{Unexpected, Word}
use Rattle.irtext_base.specs.Answers.{Outcome, Read, Missing, Bad, Takes, Passes, RunsOut, RunsOutHere, Gives, Refuses, NeedsNoMemory, prefixed}
use Rattle.irtext_base.specs.declared.parsable.fault.ParseFault.{ParseFault}
use Rattle.irtext_base.proofs.Compose.{answers_after, runs_out_after, takes_none, seen_after, takes_more}
use Rattle.std.proofs.lemmas.Bool.Decides.{nat_tests}
use Rattle.irtext_tokens.specs.Spelled.{begun_by, Spelling, Differs, Misses}
use Rattle.irtext_tokens.specs.Tokens.{spelled_at, text_at}
use Rattle.irtext_tokens.proofs.Grammar.{text_at-literal}

-- two fronts of an outcome are one
pub prefixed-prefixed : {X : Type 0} (t u : Text) (o : Outcome X) → prefixed t (prefixed u o) ≡ prefixed (t ++ u) o
prefixed-prefixed t u (Read x more rest) = ap (λ z. Read x z rest) (sym (append_assoc t u more))
prefixed-prefixed t u (Missing cause) = refl
prefixed-prefixed t u (Bad cause upto) = ap (Bad cause) (sym (append_assoc t u upto))

-- where the next character of the word doesn't come, it is what the word misses
spelled-misses : (whole word text : Text) (c : ℕ) → begins (the c) text ≡ false → spelled_at whole (c ∷ word) text ≡ Missing (Unexpected (first_of text) (Word whole))
spelled-misses whole word [] c e = refl
spelled-misses whole word (d ∷ text) c e = rw e refl

-- where it comes, the rest of the word follows
spelled-more : (whole word text : Text) (c : ℕ) → the c c ≡ true → spelled_at whole (c ∷ word) (c ∷ text) ≡ prefixed (c ∷ []) (spelled_at whole word text)
spelled-more whole word text c e = rw e refl

-- the next character is this one
pub begins_the : (c : ℕ) (text : Text) → begins (the c) text ≡ true → (rest : Text) × (text ≡ c ∷ rest)
begins_the c [] e = absurd (cc)
begins_the c (d ∷ text) e = let q : d ≡ c = grind (arith, nat_tests) in (text, ap (λ z. z ∷ text) q)

the-same : (c : ℕ) → the c c ≡ true
the-same c = grind (arith, nat_tests)

module _ {S : Type 0} (view : S → StreamView) (at : S → StreamView → S) where
  module _ (view_at : (s : S) (v : StreamView) → view (at s v) ≡ v) (at_view : (s : S) → at s (view s) ≡ s) (at_at : (s : S) (v w : StreamView) → at (at s v) w ≡ at s w) where
    -- if nothing is taken, the stream is unchanged
    pub takes_none_is : (old now : S) (rest : Text) → Takes view at [] rest old now → now ≡ old
    takes_none_is old now rest k =
        k.is ∙ (ap (λ (p : Text). at old (let v : StreamView = record { passed = p; rest = rest; failed = (view old).failed } in v)) (append-nil (view old).passed)
        ∙ (ap (λ (r : Text). at old (let v : StreamView = record { passed = (view old).passed; rest = r; failed = (view old).failed } in v)) k.same ∙ at_view old))

    -- the next character is taken
    pub takes_next : (now next : S) (c : ℕ) (rest : Text) → (view now).rest ≡ c ∷ rest → next ≡ at now (advanced (view now)) → Takes view at (c ∷ []) rest now next
    takes_next now next c rest e n =
        record { is = n ∙ ap (λ z. at now (advanced_by (view now).passed z (view now).failed)) e; same = sym e }

    pub spelling_start : (word : Text) (old : S) → Spelling view at word old old false [] word
    spelling_start word old = record { takes = takes_none view at view_at at_at at_view old; untaken = λ e. refl; so_far = refl }

    begun_more : {X : Type 0} (begun : Bool) (taken : Text) (c : ℕ) (o : Outcome X) → (begun ≡ false → taken ≡ []) → begun_by begun taken (prefixed (c ∷ []) o) ≡ prefixed (taken ++ (c ∷ [])) o
    begun_more true taken c o u = prefixed-prefixed taken (c ∷ []) o
    begun_more false taken c o u = ap (λ z. prefixed (z ++ (c ∷ [])) o) (sym (u refl))

    pub spelling_more : (word : Text) (old now next : S) (begun : Bool) (taken left : Text) (c : ℕ) → Spelling view at word old now begun taken (c ∷ left) → begins (the c) (view now).rest ≡ true → next ≡ at now (advanced (view now)) → Spelling view at word old next true (taken ++ (c ∷ [])) left
    spelling_more word old now next begun taken left c s e n =
        let f = begins_the c (view now).rest e in
        let k = takes_next now next c f.0 f.1 n in
        let v : view next ≡ after_taken (view now) (c ∷ []) f.0 = seen_after view at view_at at_at now next (c ∷ []) f.0 k in
        let r : (view next).rest ≡ f.0 = ap (λ z. z.rest) v in
        let t = takes_more view at view_at at_at old now next taken (view now).rest (c ∷ []) f.0 s.takes k in
        let more : spelled_at word (c ∷ left) (view now).rest ≡ prefixed (c ∷ []) (spelled_at word left f.0) = ap (spelled_at word (c ∷ left)) f.1 ∙ spelled-more word left f.0 c (the-same c) in
        record {
          takes = rw r t;
          untaken = λ e. absurd (cc);
          so_far = s.so_far ∙ (ap (begun_by begun taken) more ∙ (begun_more begun taken c (spelled_at word left f.0) s.untaken ∙ ap (λ z. prefixed (taken ++ (c ∷ [])) (spelled_at word left z)) (sym r)));
        }

    -- all of the word was parsed
    pub spelling_all : (word : Text) (old now : S) (begun : Bool) (taken : Text) → Spelling view at word old now begun taken [] → Gives view at (text_at word (view old).rest) old tt now
    spelling_all word old now true taken s = rw s.so_far (refl, rw (append-nil taken) s.takes)
    spelling_all word old now false taken s = rw s.so_far (refl, rw (sym (s.untaken refl)) s.takes)

    -- a text that was passed whole was parsed
    pub whole_gives : (word rest : Text) (old new : S) → (view old).rest ≡ word ++ rest → new ≡ at old (after_taken (view old) word rest) → Gives view at (text_at word (view old).rest) old tt new
    whole_gives word rest old new s n = rw (text_at-literal word (view old).rest rest s) (refl, record { is = n; same = sym s })

    module _ {A : Type 0} where
      -- the next character of the word doesn't come
      pub spelling_refused : (word : Text) (old now new : S) (begun : Bool) (fault : ParseFault A) → Differs view at word old begun now → Misses view at begun (Unexpected (first_of (view now).rest) (Word word)) now fault new → RunsOut view at old fault new ⊎ Refuses view at (text_at word (view old).rest) old fault new
      spelling_refused word old now new true fault h m =
          let o : Outcome Unit = Missing (Unexpected (first_of (view now).rest) (Word word)) in
          let q : text_at word (view old).rest ≡ prefixed h.taken o = h.spelling.so_far ∙ ap (prefixed h.taken) (spelled-misses word h.left (view now).rest h.next h.other) in
          rw q (answers_after view at view_at at_at (λ u. u) o old now new h.taken (view now).rest (Err fault) h.spelling.takes (inr m))
      spelling_refused word old now new false fault h m =
          let q : text_at word (view old).rest ≡ Missing (Unexpected (first_of (view now).rest) (Word word)) = h.spelling.so_far ∙ spelled-misses word h.left (view now).rest h.next h.other in
          let n : now ≡ old = takes_none_is old now (view now).rest (subst (λ z. Takes view at z (view now).rest old now) (h.spelling.untaken refl) h.spelling.takes) in
          rw q (inr (subst (λ z. Passes view at (Unexpected (first_of (view now).rest) (Word word)) z fault new) n m))

      -- a text that differs is not parsed
      pub differs_spares : (Y : Type 0) (word : Text) (old now : S) (begun : Bool) (fault : ParseFault A) → Differs view at word old begun now → NeedsNoMemory {Y = Y} (text_at word (view old).rest) (Err fault)
      differs_spares Y word old now true fault h =
          let q : text_at word (view old).rest ≡ prefixed h.taken (Missing (Unexpected (first_of (view now).rest) (Word word))) = h.spelling.so_far ∙ ap (prefixed h.taken) (spelled-misses word h.left (view now).rest h.next h.other) in
          rw q tt
      differs_spares Y word old now false fault h =
          let q : text_at word (view old).rest ≡ Missing (Unexpected (first_of (view now).rest) (Word word)) = h.spelling.so_far ∙ spelled-misses word h.left (view now).rest h.next h.other in
          rw q tt

      -- out of memory after the characters that were taken
      pub spelling_ran_out : (word : Text) (old now new : S) (begun : Bool) (fault : ParseFault A) → (view old).failed ≡ false → Differs view at word old begun now → RunsOutHere view at now fault new → RunsOut view at old fault new
      spelling_ran_out word old now new begun fault f h s = runs_out_after view at view_at at_at old now new h.taken (view now).rest fault f h.spelling.takes s
