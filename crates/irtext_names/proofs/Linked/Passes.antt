-- The outcome of the machine over the events of a whole script is what the two passes state of it.
use Rattle.std.proofs.Common.{◌≡◌, ◌∙◌, refl, sym, ap, List, [], ◌∷◌}
use Rattle.irtext_grammar.specs.Names.Scopes.{no_scope}
use Rattle.irtext_grammar.specs.Names.TextScopes.{Failure, Script, facts, failures}
use Rattle.irtext_grammar.specs.Names.History.{State, scopes_of, after, going, failed, outcome, run, start, events}
use Rattle.irtext_grammar.proofs.Names.OnePass.{one_pass, one_pass_from}

went_on : (us : List Failure) (st last : State) → going st ≡ outcome us last → (us ≡ []) × (st ≡ last)
went_on [] st last e = (refl, cc)
went_on (u ∷ us) st last e = absurd (cc)

went_wrong : (us : List Failure) (f : Failure) (last : State) → failed f ≡ outcome us last → (rest : List Failure) × (us ≡ f ∷ rest)
went_wrong [] f last e = absurd (cc)
went_wrong (u ∷ us) f last e = let same : f ≡ u = cc in (us, ap (λ x. x ∷ us) (sym same))

-- if it runs from a state without failure, there are no failures, and its state is the one after all facts of the script
pub ran_from : (begun : State) (x : Script) (st : State) → run (going begun) (events x) ≡ going st → (failures (scopes_of begun) x ≡ []) × (st ≡ after begun (facts x))
ran_from begun x st e = went_on (failures (scopes_of begun) x) st (after begun (facts x)) (sym e ∙ one_pass_from begun x)

-- at the start no scope is open
pub ran_through : (x : Script) (st : State) → run (going start) (events x) ≡ going st → (failures no_scope x ≡ []) × (st ≡ after start (facts x))
ran_through x st e = ran_from start x st e

-- where it fails, it fails as the first failure
pub ran_into : (x : Script) (f : Failure) → run (going start) (events x) ≡ failed f → (rest : List Failure) × (failures no_scope x ≡ f ∷ rest)
ran_into x f e = went_wrong (failures no_scope x) f (after start (facts x)) (sym e ∙ one_pass x)
