use Rattle.std.proofs.Common.{◌≡◌, ◌∙◌, ap, subst, Result, Ok, Err}
use Rattle.std.proofs.lemmas.Result.{IfOk-weaker}
use Rattle.std.specs.Prelude.{IfOk}
use Rattle.irtext_parse_state.specs.FromText.{at_beginning}
use Rattle.irtext_parse_state.proofs.parsable.text.stream_of.Goals as goal

-- what holds of a sealed result on success holds of the same with another type of error
unsealed : {X E F : Type 0} (Q : X → Type 0) (r : Result X E) (s : Result X F) → IfOk r (λ x. s ≡ Ok x) → IfOk s Q → IfOk r Q
unsealed Q (Ok x) s e h = subst (λ z. IfOk z Q) e h
unsealed Q (Err f) s e h = tt

pub returns : goal.returns
returns g c =
    let ran = c.in_ok-text.ensures.ran in
    let drained = ran.1 in
    let last = drained.2 tt in
    unsealed _ c.unsealed.result c.from_string.result c.unsealed.ensures.ok
    (IfOk-weaker c.from_string.result _ _ (λ stream is. (ran.0, (last.0, (drained.0, drained.1, last.1)), is ∙ ap at_beginning ran.2)) c.from_string.ensures)
