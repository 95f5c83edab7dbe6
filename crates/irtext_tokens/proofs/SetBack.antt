-- A stream set back to an earlier position.
use Rattle.std.proofs.Common.{◌≡◌, Bool, ◌++◌, sym, ◌∙◌, ap}
use Rattle.irtext_base.specs.Stream.{StreamView}
use Rattle.irtext_base.specs.Answers.{SameStream}
use Rattle.irtext_tokens.proofs.Steps.{Lens}

module _ {S : Type 0} (l : Lens S) where
  -- set back to an earlier position, the stream is what it was there
  pub set_back : (old mid new : S) → SameStream l.view l.at (l.view old).failed old mid → new ≡ l.at mid (let v : StreamView = record { passed = (l.view old).passed; rest = (l.view old).rest; failed = (l.view mid).failed } in v) → new ≡ old
  set_back old mid new k e =
      let f : (l.view mid).failed ≡ (l.view old).failed = ap (λ z. (l.view z).failed) k.is ∙ (ap (λ w. w.failed) (l.view_at old k.seen) ∙ k.fails) in
      e ∙ (ap (λ (b : Bool). l.at mid (let v : StreamView = record { passed = (l.view old).passed; rest = (l.view old).rest; failed = b } in v)) f
      ∙ (ap (λ z. l.at z (l.view old)) k.is ∙ (l.at_at old k.seen (l.view old) ∙ l.at_view old)))

  -- it is at a position of the same text
  pub set_within : (old mid : S) → SameStream l.view l.at (l.view old).failed old mid → (l.view old).passed ++ (l.view old).rest ≡ (l.view mid).passed ++ (l.view mid).rest
  set_within old mid k =
      let v : l.view mid ≡ k.seen = ap l.view k.is ∙ l.view_at old k.seen in
      sym (ap (λ w. w.passed ++ w.rest) v ∙ k.same)
