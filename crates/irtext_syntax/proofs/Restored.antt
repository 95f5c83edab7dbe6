-- A stream that is set back to an earlier position is what it was there.
use Rattle.std.proofs.Common.{◌≡◌, ◌++◌, sym, ◌∙◌, ap, append_assoc}
use Rattle.irtext_base.specs.Text.{Text}
use Rattle.irtext_base.specs.Stream.{StreamView}
use Rattle.irtext_base.specs.Answers.{Takes}
use Rattle.irtext_stream.specs.declared.position.Place.{Place}
use Rattle.irtext_stream.specs.Places.{IsPlaceAfter, IsPlaceOf, AtPlace}
use Rattle.irtext_stream.specs.Stream.{moved}

module _ (place : Place) (taken rest : Text) (old mid : StreamView) (k : Takes (λ s. s) (λ s v. v) taken rest old mid) (positioned : IsPlaceAfter place old.passed) where
  same_text : old.passed ++ old.rest ≡ mid.passed ++ mid.rest
  same_text = sym (ap (λ v. v.passed ++ v.rest) k.is ∙ (append_assoc old.passed taken rest ∙ ap (λ z. old.passed ++ z) k.same))

  -- the position is one of the stream further on
  pub earlier : IsPlaceOf place mid
  earlier = record { passed = old.passed; rest = old.rest; same = same_text; positioned = positioned }

  -- set back to it, the stream is what it was
  pub restored : (new : StreamView) → AtPlace place mid (λ passed rest. new ≡ moved mid passed rest) → new ≡ old
  restored new h = h old.passed old.rest same_text positioned ∙ ap (λ v. moved v old.passed old.rest) k.is
