use Rattle.std.proofs.Common.{◌++◌, ◌∙◌, ◌∷◌, [], sym, refl}
use Rattle.irtext_base.proofs.Along.{along_more}
use Rattle.irtext_parts.proofs.spelling.skip_spelled.Goals as goal

pub loop-c-preserved : goal.loop-c-preserved
loop-c-preserved g c =
    let h = c.loop-c.invariant in
    (h.0 ++ (c.in-Some.c ∷ []), along_more (λ s. s) (λ s v. v) (λ s v. refl) (λ s v w. refl) _ _ _ _ _ _ h.1 c.in-Some.ensures (sym c.has.ensures ∙ c.if-not-has.false) c.take.ensures.after)
