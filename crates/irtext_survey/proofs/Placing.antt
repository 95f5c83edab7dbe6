-- How far a stream is moved to a position of its text.
use Rattle.std.proofs.Common.{◌≡◌, ◌∙◌, ◌⊎◌, inl, inr, ℕ, true, false, not, ◌&&◌, Some, [], ◌∷◌, ◌++◌, refl, sym, ap, ap₂, subst, true≢false, append_assoc}
use Rattle.std.proofs.lemmas.Cmp.{int_eq_equiv}
use Rattle.std.specs.Ordering.{int_eq}
use Rattle.irtext_stream.specs.Text.{Text}
use Rattle.irtext_stream.specs.Stream.{StreamView, IsAt, first_of, advanced_by}
use Rattle.irtext_stream.specs.declared.position.SourcePosition.{SourcePosition}

-- a beginning of a text with one more character is the text, or one of the text alone
snoc : (before more passed : Text) (c d : ℕ) → before ++ (c ∷ more) ≡ passed ++ (d ∷ []) → (before ≡ passed) ⊎ ((left : Text) × (before ++ (c ∷ left) ≡ passed))
snoc [] more [] c d e = inl refl
snoc [] more (p ∷ ps) c d e = let h : c ≡ p = cc in inr (ps, ap (λ x. x ∷ ps) h)
snoc (b ∷ []) more [] c d e = absurd (cc e)
snoc (b ∷ x ∷ bs) more [] c d e = absurd (cc e)
snoc (b ∷ bs) more (p ∷ ps) c d e =
    let h : b ≡ p = cc in
    let k : bs ++ (c ∷ more) ≡ ps ++ (d ∷ []) = cc in
    elim (snoc bs more ps c d k) [ inl same ↦ inl (ap₂ ◌∷◌ h same) | inr w ↦ inr (w.0, ap₂ ◌∷◌ h w.1) ]

-- The stream has not failed, is over this text and at the position that was counted, and did not pass the wanted one.
pub record Comes (text : Text) (at here : SourcePosition) (v : StreamView) : Type 0 where
  pub fine : v.failed ≡ false
  pub same : v.passed ++ v.rest ≡ text
  pub here_is : IsAt here.line here.column v.passed
  pub first : (before : Text) (c : ℕ) (more : Text) → before ++ (c ∷ more) ≡ v.passed → IsAt at.line at.column before → ⊥

-- it is not at the wanted one
elsewhere : (at here : SourcePosition) (text : Text) → true ≡ not (int_eq here.line at.line && int_eq here.column at.column) → IsAt here.line here.column text → IsAt at.line at.column text → ⊥
elsewhere at here text d h a =
    let line : int_eq here.line at.line ≡ true = ap (int_eq here.line) (a.0 ∙ sym h.0) ∙ int_eq_equiv.refl here.line in
    let column : int_eq here.column at.column ≡ true = ap (int_eq here.column) (a.1 ∙ sym h.1) ∙ int_eq_equiv.refl here.column in
    true≢false (d ∙ ap₂ (λ a b. not (a && b)) line column)

-- one more character is passed
pub comes_on : (text : Text) (at here next : SourcePosition) (v new : StreamView) (c : ℕ) → Comes text at here v → true ≡ not (int_eq here.line at.line && int_eq here.column at.column) → first_of v.rest ≡ Some c → new ≡ advanced_by v.passed v.rest v.failed
    → ((passed : Text) → IsAt here.line here.column passed → IsAt next.line next.column (passed ++ (c ∷ []))) → Comes text at next new
comes_on text at here next v new c i d f n past = go v.rest refl f n
  where
    go : (rest : Text) → v.rest ≡ rest → first_of rest ≡ Some c → new ≡ advanced_by v.passed rest v.failed → Comes text at next new
    go [] r f n = absurd (cc f)
    go (x ∷ rest) r f n =
        let h : x ≡ c = cc f in
        rw (n, h) (record {
          fine = i.fine;
          same = append_assoc v.passed (c ∷ []) rest ∙ (ap (λ z. v.passed ++ z) (sym (r ∙ ap (λ y. y ∷ rest) h)) ∙ i.same);
          here_is = past v.passed i.here_is;
          first = λ before b more e a. elim (snoc before more v.passed b c e) [
            | inl same ↦ elsewhere at here v.passed d i.here_is (subst (IsAt at.line at.column) same a)
            | inr w ↦ i.first before b w.0 w.1 a
          ];
        })
