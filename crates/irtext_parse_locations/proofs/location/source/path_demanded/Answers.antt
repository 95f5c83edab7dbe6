use Rattle.std.proofs.Common.{ℕ, List, ap, sym, ◌∙◌, subst, Some}
use Rattle.irtext_base.specs.Moves.{path_kept}
use Rattle.irtext_base.specs.Paths.{KeepsPaths, path_of}
use Rattle.irtext_base.specs.declared.location.Source.TheVariants.{File}
use Rattle.irtext_base.proofs.PathKeys.{path_found, path_known, paths_stay}
use Rattle.irtext_context.specs.Context.{with_paths}
use Rattle.irtext_grammar.specs.Readers.NewPaths.{AddsPaths}
use Rattle.irtext_grammar.proofs.Readers.PlainStream.{alone}
use Rattle.irtext_tokens.proofs.Exits.{propagated}
use Rattle.irtext_grammar.proofs.Readers.NewPaths.{adds_none}
use Rattle.irtext_grammar.proofs.Readers.PartSteps.{part_refused, part_ran_out}
use Rattle.irtext_grammar.proofs.Readers.Steps.{seen_alone}
use Rattle.irtext_parse_locations.proofs.location.source.path_demanded.Goals as goal

pub returns : goal.returns
returns g c =
    let key = c.in-Ok.key in
    let old = c.args.ctx.now.paths in
    let paths = c.keep_path.new.self.paths in
    let kept = ap (λ x. x.paths) c.in-Ok.ensures.kept in
    let found = path_found old paths c.deref.result.now key c.in-Ok.ensures.key kept in
    record {
      adds = record { kept = subst (λ (ps : List (List ℕ)). KeepsPaths old ps) (sym kept) (paths_stay old c.deref.result.now); rest = c.in-Ok.ensures.kept ∙ ap (with_paths c.args.ctx.now) (sym kept) };
      read = record {
        known = path_known old paths c.deref.result.now key c.in-Ok.ensures.key kept;
        read = seen_alone alone (path_of paths) Some (File key) (found ∙ ap Some c.deref.ensures) c.in_ok-path.ensures;
      };
      paths = kept ∙ sym (ap (path_kept old) found);
    }

pub returns-in_err-path : goal.returns-in_err-path
returns-in_err-path g c =
    rw (propagated c.from_residual.result c.from_residual.ensures.1) (record { adds = adds_none c.args.ctx.now; read = record { known = tt; read = part_refused Some c.in_err-path.ensures }; paths = tt })

pub returns-in_default : goal.returns-in_default
returns-in_default g c = record {
  adds = subst (λ ctx. AddsPaths c.args.ctx.now ctx) (sym c.in_default.ensures.err) (adds_none c.args.ctx.now);
  read = record { known = tt; read = part_ran_out Some c.in_ok-path.ensures c.out_of_memory.ensures };
  paths = tt;
}
