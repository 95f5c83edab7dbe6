-- A stream alone.
use Rattle.std.proofs.Common.{refl}
use Rattle.irtext_base.specs.Stream.{StreamView}
use Rattle.irtext_grammar.specs.Readers.Streams.{itself, replaced}
use Rattle.irtext_grammar.proofs.Readers.Steps.{Lens, lens}

-- a stream alone, as a lens
abbrev pub alone : Lens StreamView
alone = lens itself replaced (λ s v. refl) (λ s. refl) (λ s v w. refl)
