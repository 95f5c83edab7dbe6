use Rattle.std.proofs.Common.{◌∙◌, ap}
use Rattle.std.proofs.lemmas.Result.{IfOk-weaker}
use Rattle.irtext_base.specs.Locations.{location_view}
use Rattle.irtext_base.proofs.Moves.{moving_taken, reached_keeps}
use Rattle.irtext_base.proofs.location.into_context.move_nested.Goals as goal

pub copy-requires : goal.copy-requires
copy-requires g c = ap (λ t. t.known) (moving_taken c.args.from.now c.args.to.now (location_view c.args.location.now)) ∙ c.requires

pub returns : goal.returns
returns g c =
    let l = c.args.location.now in
    let same = moving_taken c.args.from.now c.args.to.now (location_view l) in
    record {
      ok = IfOk-weaker c.copy.result _ _ (λ x h. ap (λ t. t.value) (h ∙ same)) c.copy.ensures.ok;
      kept = IfOk-weaker c.copy.result _ _ (λ x h. ap (λ t. t.after) (h ∙ same)) c.copy.ensures.ok;
      more = reached_keeps c.args.from.now c.args.to.now c.copy.new.state c.copy.ensures.reached;
    }
