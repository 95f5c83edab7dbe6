-- A fixed word that was parsed, or is missing.
use Rattle.std.proofs.Common.{◌≡◌, ◌∙◌, Bool, true, false, [], refl, sym, ap, subst, inl, inr, ◌⊎◌}
use Rattle.std.specs.Bool.{MatchBool}
use Rattle.irtext_base.specs.Text.{Text, front, after, in_word}
use Rattle.irtext_base.specs.Stream.{StreamView, first_of}
use Rattle.irtext_base.specs.Faults.{Demand, Word, Unexpected, characters}
use Rattle.irtext_base.specs.Answers.{Read, Missing, Gives, Takes, Passes, RunsOut, RunsOutHere, Refuses, unless_failed}
use Rattle.irtext_base.specs.declared.parsable.fault.ParseFault.{ParseFault}
use Rattle.irtext_base.proofs.Compose.{takes_none, runs_out_after}
use Rattle.irtext_syntax.specs.KeywordTexts.{is_next, keyword_at, flag_at}

next_read : (word text : Text) (b : Bool) → b ≡ false → is_next word text ≡ true → unless_failed b (keyword_at word text) ≡ Read tt (front in_word text) (after in_word text)
next_read word text b f e = rw (f, e) refl

next_missed : (word text : Text) (b : Bool) → b ≡ false → is_next word text ≡ false → unless_failed b (keyword_at word text) ≡ Missing (Unexpected (first_of text) (Word (characters word)))
next_missed word text b f e = rw (f, e) refl

flag_read : (word text : Text) (b : Bool) → b ≡ false → is_next word text ≡ true → unless_failed b (flag_at word text) ≡ Read true (front in_word text) (after in_word text)
flag_read word text b f e = rw (f, e) refl

flag_missed : (word text : Text) (b : Bool) → b ≡ false → is_next word text ≡ false → unless_failed b (flag_at word text) ≡ Read false [] text
flag_missed word text b f e = rw (f, e) refl

none : (old : StreamView) → Takes (λ s. s) (λ s v. v) [] old.rest old old
none old = takes_none (λ s. s) (λ s v. v) (λ s v. refl) (λ s v w. refl) (λ s. refl) old

-- the word is there
pub word_there : (word given : Text) (old new : StreamView) → old.failed ≡ false → given ≡ word → is_next given old.rest ≡ true → Takes (λ s. s) (λ s v. v) (front in_word old.rest) (after in_word old.rest) old new
    → Gives (λ s. s) (λ s v. v) (unless_failed old.failed (keyword_at word old.rest)) old tt new
word_there word given old new f g e t = subst (λ o. Gives (λ s. s) (λ s v. v) o old tt new) (sym (next_read word old.rest old.failed f (subst (λ w. is_next w old.rest ≡ true) g e))) (refl, t)

-- the word is there or not
pub flag_gives : (word given : Text) (old new : StreamView) (b : Bool) → old.failed ≡ false → given ≡ word → MatchBool b ((is_next given old.rest ≡ true) × Takes (λ s. s) (λ s v. v) (front in_word old.rest) (after in_word old.rest) old new) ((is_next given old.rest ≡ false) × (new ≡ old))
    → Gives (λ s. s) (λ s v. v) (unless_failed old.failed (flag_at word old.rest)) old b new
flag_gives word given old new true f g (e, t) = subst (λ o. Gives (λ s. s) (λ s v. v) o old true new) (sym (flag_read word old.rest old.failed f (subst (λ w. is_next w old.rest ≡ true) g e))) (refl, t)
flag_gives word given old new false f g (e, t) =
    subst (λ o. Gives (λ s. s) (λ s v. v) o old false new) (sym (flag_missed word old.rest old.failed f (subst (λ w. is_next w old.rest ≡ false) g e))) (refl, subst (λ s. Takes (λ s. s) (λ s v. v) [] old.rest old s) (sym t) (none old))

module _ {A : Type 0} (word given : Text) (old mid : StreamView) (fine : old.failed ≡ false) (is : given ≡ word) (e : is_next given old.rest ≡ false) (same : mid ≡ old) where
  -- the word is missing
  pub word_missing : (fault : ParseFault A) (d : Demand) (other : Text) → other ≡ word → d ≡ Word (characters other) → Passes (λ s. s) (λ s v. v) (Unexpected (first_of mid.rest) d) mid fault mid
      → RunsOut (λ s. s) (λ s v. v) old fault mid ⊎ Refuses (λ s. s) (λ s v. v) (unless_failed old.failed (keyword_at word old.rest)) old fault mid
  word_missing fault d other o q h =
      let h1 = subst (λ d. Passes (λ s. s) (λ s v. v) (Unexpected (first_of mid.rest) d) mid fault mid) (q ∙ ap (λ w. Word (characters w)) o) h in
      let h2 = subst (λ s. Passes (λ s. s) (λ s v. v) (Unexpected (first_of s.rest) (Word (characters word))) s fault mid) same h1 in
      inr (subst (λ o. Refuses (λ s. s) (λ s v. v) o old fault mid) (sym (next_missed word old.rest old.failed fine (subst (λ w. is_next w old.rest ≡ false) is e))) h2)

  -- out of memory for the error
  pub word_runs_out : (fault : ParseFault A) (new : StreamView) → RunsOutHere (λ s. s) (λ s v. v) mid fault new
      → RunsOut (λ s. s) (λ s v. v) old fault new ⊎ Refuses (λ s. s) (λ s v. v) (unless_failed old.failed (keyword_at word old.rest)) old fault new
  word_runs_out fault new h = inl (runs_out_after (λ s. s) (λ s v. v) (λ s v. refl) (λ s v w. refl) old old new [] old.rest fault fine (none old) (subst (λ s. RunsOutHere (λ s. s) (λ s v. v) s fault new) same h))
