use Rattle.std.proofs.Common.{◌∙◌, ap, ap₂}
use Rattle.irtext_base.specs.Locations.{location_view}
use Rattle.irtext_base.specs.Moves.{all_under, all_kept}
use Rattle.irtext_base.specs.Paths.{written_with}
use Rattle.irtext_base.proofs.location.Location.clone_into_context.Goals as goal

pub returns-in-Ok-clause-text : goal.returns-in-Ok-clause-text
returns-in-Ok-clause-text g c =
    ap (λ paths. written_with paths (location_view c.in-Ok.location)) (g.met.C.HasPaths.paths_with c.args.dst_ctx.now c.moved.new.to)
    ∙ (c.in-Ok.ensures.text ∙ ap (λ paths. written_with paths (location_view c.args.self.now)) c.paths.ensures)

pub returns-in-Ok-clause-ok : goal.returns-in-Ok-clause-ok
returns-in-Ok-clause-ok g c = c.in-Ok.ensures.ok ∙ ap₂ (λ x y. all_under x (written_with y (location_view c.args.self.now))) c.paths_mut.ensures.value c.paths.ensures

pub returns-in-Ok-clause-kept : goal.returns-in-Ok-clause-kept
returns-in-Ok-clause-kept g c =
    ap (g.C.HasPaths.with_paths c.args.dst_ctx.now) (c.in-Ok.ensures.kept ∙ ap₂ (λ x y. all_kept x (written_with y (location_view c.args.self.now))) c.paths_mut.ensures.value c.paths.ensures)
