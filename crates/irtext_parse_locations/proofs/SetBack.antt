-- A stream that is set back to the place where a look began that found nothing.
use Rattle.std.proofs.Common.{◌≡◌}
use Rattle.irtext_base.specs.Answers.{SameStream}
use Rattle.irtext_base.specs.Stream.{StreamView}
use Rattle.irtext_stream.specs.declared.position.Place.{Place}
use Rattle.irtext_stream.specs.Places.{IsPlaceAfter, IsPlaceOf, AtPlace}
use Rattle.irtext_stream.specs.Stream.{moved}
use Rattle.irtext_tokens.proofs.SetBack.{set_back, set_within}
use Rattle.irtext_tokens.proofs.Steps.{alone}
use Rattle.irtext_grammar.specs.Readers.Streams.{itself, replaced}

module _ (place : Place) (old mid : StreamView) (k : SameStream itself replaced old.failed old mid) (positioned : IsPlaceAfter place old.passed) where
  -- the place is one of the stream
  pub earlier : IsPlaceOf place mid
  earlier = record { passed = old.passed; rest = old.rest; same = set_within alone old mid k; positioned = positioned }

  -- set back to it, the stream is what it was
  pub restored : (new : StreamView) → AtPlace place mid (λ passed rest. new ≡ moved mid passed rest) → new ≡ old
  restored new h = set_back alone old mid new k (h old.passed old.rest (set_within alone old mid k) positioned)
