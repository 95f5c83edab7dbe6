-- A parser that takes characters one by one is at a position of the text.
use Rattle.std.proofs.Common.{◌≡◌, ℕ, ◌<◌, Bool, true, Some, [], ◌∷◌, ◌++◌, length, refl, sym, ◌∙◌, ap, append_assoc, arith}
use Rattle.irtext_base.specs.Text.{Text, front, after}
use Rattle.irtext_base.specs.Stream.{StreamView, first_of, advanced, advanced_by, after_taken}
use Rattle.irtext_stream.proofs.Bytes.{first_some}
pub use Rattle.irtext_stream.proofs.Slices.{front_after}

-- one more character after those taken
advanced_after : (v w : StreamView) (taken rest : Text) (c : ℕ) → w.rest ≡ c ∷ rest → w ≡ after_taken v taken w.rest → advanced w ≡ after_taken v (taken ++ (c ∷ [])) rest
advanced_after v w taken rest c e b =
    let full : w ≡ after_taken v taken (c ∷ rest) = b ∙ ap (after_taken v taken) e in
    let flat : (v.passed ++ taken) ++ (c ∷ []) ≡ v.passed ++ (taken ++ (c ∷ [])) = append_assoc v.passed taken (c ∷ []) in
    ap advanced full ∙ ap (λ (p : Text). let r : StreamView = record { passed = p; rest = rest; failed = v.failed } in r) flat

pub ruleset fronts = front_after

module _ {S : Type 0} (view : S → StreamView) (at : S → StreamView → S) where
  -- what was taken since the parser began, all of it passing the test
  pub record Along (p : ℕ → Bool) (old now : S) (taken : Text) : Type 0 where
    pub is : now ≡ at old (after_taken (view old) taken (view now).rest)
    pub same : taken ++ (view now).rest ≡ (view old).rest
    pub front_is : taken ++ front p (view now).rest ≡ front p (view old).rest
    pub after_is : after p (view now).rest ≡ after p (view old).rest

  module _ (view_at : (s : S) (v : StreamView) → view (at s v) ≡ v) (at_at : (s : S) (v w : StreamView) → at (at s v) w ≡ at s w) where
    -- one more character that passes
    pub along_more : (p : ℕ → Bool) (old now next : S) (taken : Text) (c : ℕ) → Along p old now taken → Some c ≡ first_of (view now).rest → p c ≡ true → next ≡ at now (advanced (view now)) → Along p old next (taken ++ (c ∷ []))
    along_more p old now next taken c a e t n =
        let f = first_some (view now).rest c e in
        let seen : view now ≡ after_taken (view old) taken (view now).rest = ap view a.is ∙ view_at old (after_taken (view old) taken (view now).rest) in
        let adv : advanced (view now) ≡ after_taken (view old) (taken ++ (c ∷ [])) f.0 = advanced_after (view old) (view now) taken f.0 c f.1 seen in
        let whole : next ≡ at old (after_taken (view old) (taken ++ (c ∷ [])) f.0) =
        n ∙ (ap (λ z. at z (advanced (view now))) a.is ∙ (at_at old (after_taken (view old) taken (view now).rest) (advanced (view now)) ∙ ap (at old) adv)) in
        let r : (view next).rest ≡ f.0 = ap (λ z. (view z).rest) whole ∙ ap (λ v. v.rest) (view_at old (after_taken (view old) (taken ++ (c ∷ [])) f.0)) in
        let before : front p (view now).rest ≡ c ∷ front p f.0 = ap (front p) f.1 ∙ rw t refl in
        let beyond : after p (view now).rest ≡ after p f.0 = ap (after p) f.1 ∙ rw t refl in
        record {
          is = whole ∙ ap (λ z. at old (after_taken (view old) (taken ++ (c ∷ [])) z)) (sym r);
          same = rw (r, append_assoc) (ap (λ z. taken ++ z) (sym f.1) ∙ a.same);
          front_is = rw (r, append_assoc) (ap (λ z. taken ++ z) (sym before) ∙ a.front_is);
          after_is = rw r (sym beyond ∙ a.after_is);
        }

    -- less of the text is left after a character
    pub falls : (now next : S) (c : ℕ) → Some c ≡ first_of (view now).rest → next ≡ at now (advanced (view now)) → length (view next).rest < length (view now).rest
    falls now next c e n =
        let f = first_some (view now).rest c e in
        let r : (view next).rest ≡ f.0 = ap (λ z. (view z).rest) n ∙ (ap (λ v. v.rest) (view_at now (advanced (view now))) ∙ ap (λ z. (advanced_by (view now).passed z (view now).failed).rest) f.1) in
        omega (arith, ap length r, ap length f.1)
