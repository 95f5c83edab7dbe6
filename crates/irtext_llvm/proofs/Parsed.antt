-- What comes after a word is parsed as the value of the word's variant.
use Rattle.std.proofs.Common.{Ok, Err, refl}
use Rattle.irtext_base.specs.Answers.{Outcome, mapped}
use Rattle.irtext_base.specs.Stream.{StreamView}
use Rattle.irtext_base.specs.Text.{Text}
use Rattle.irtext_base.specs.declared.parsable.fault.ParseFault.{ParseFault}
use Rattle.irtext_base.proofs.Compose.{refuses_mapped_demanded}
use Rattle.irtext_tokens.specs.MustRead.{MustRead}
use Rattle.irtext_tokens.proofs.Steps.{alone, seen_alone}

pub parsed : {V W A : Type 0} {f : Text → Outcome V} {old new : StreamView} {v : V} (k : V → W) → MustRead {A = A} (λ s. s) (λ s v. v) (λ x. x) f old (Ok v) new → MustRead {A = A} (λ s. s) (λ s v. v) (λ x. x) (λ t. mapped k (f t)) old (Ok (k v)) new
parsed k h = seen_alone alone (λ x. x) k _ refl h

pub failed : {V W A : Type 0} {f : Text → Outcome V} {old new : StreamView} {fault : ParseFault A} (k : V → W) → MustRead {Y = V} (λ s. s) (λ s v. v) (λ x. x) f old (Err fault) new → MustRead {Y = W} (λ s. s) (λ s v. v) (λ x. x) (λ t. mapped k (f t)) old (Err fault) new
failed {f = f} {old = old} {new = new} {fault = fault} k h = record { answers = refuses_mapped_demanded (λ s. s) (λ s v. v) (λ s v. refl) (λ s v w. refl) k old.failed (f old.rest) old new fault h.answers }
