-- The operations of two dialects, registered one after the other.
use Rattle.std.proofs.Common.{◌≡◌, ◌∙◌, ap, List}
use Rattle.irtext_base.specs.Text.{Text}
use Rattle.irtext_context.specs.Dialects.{Table}
use Rattle.irtext_llvm.specs.Operations.{Operation, with_all}

-- stated for any operations, since those of `llvm` are too many to be computed here
pub one_after_the_other : (ops : List Operation) (old mid new first : List (Text × Table)) → mid ≡ first → new ≡ with_all mid ops → new ≡ with_all first ops
one_after_the_other ops old mid new first a b = b ∙ ap (λ d. with_all d ops) a
