use Rattle.std.proofs.Common.{◌∙◌, ap}
use Rattle.std.proofs.lemmas.Result.{IfOk-weaker}
use Rattle.irtext_base.specs.Locations.{location_view}
use Rattle.irtext_base.proofs.Walks.{same_taken}
use Rattle.irtext_base.proofs.location.copy.copy_nested.Goals as goal

pub copy-requires : goal.copy-requires
copy-requires g c = ap (λ t. t.known) (same_taken tt (location_view c.args.location.now))

pub returns : goal.returns
returns g c = IfOk-weaker c.copy.result _ _ (λ l h. ap (λ t. t.value) (h ∙ same_taken tt (location_view c.args.location.now))) c.copy.ensures.ok
