use Rattle.std.proofs.Common.{◌∙◌, ap, sym, codes}
use Rattle.irtext_base.specs.Answers.{followed, mapped}
use Rattle.irtext_base.specs.Locations.{src_pos}
use Rattle.irtext_base.specs.Moves.{all_kept}
use Rattle.irtext_base.specs.Paths.{path_of, written_with}
use Rattle.irtext_base.specs.declared.location.Location.{SrcPos}
use Rattle.irtext_grammar.specs.Contexts.Held.{location_over}
use Rattle.irtext_base.proofs.LocationViews.{seen-src_pos}
use Rattle.irtext_tokens.proofs.Exits.{propagated}
use Rattle.irtext_grammar.specs.Readers.Positions.{spaced_at, position_at}
use Rattle.irtext_grammar.proofs.Readers.PlainStream.{alone}
use Rattle.irtext_grammar.proofs.Readers.Steps.{refuses_seen, last_seen}
use Rattle.irtext_parse_locations.proofs.Places.{source_passed}
use Rattle.irtext_parse_locations.proofs.Refusals.{first_fails}
use Rattle.irtext_parse_locations.proofs.location.source.place_parse.Goals as goal

pub returns-in_err-src : goal.returns-in_err-src
returns-in_err-src g c =
    let r = c.in_err-src.ensures in
    rw (propagated c.from_residual.result c.from_residual.ensures.1) (record { adds = r.adds; read = record { known = tt; read = first_fails (location_over c.source_demanded.new.ctx.paths) (λ s t. followed (spaced_at (codes ":") t) (λ _ u. mapped (src_pos s) (position_at u))) r.read.read }; paths = tt })

pub returns-in_err-pos : goal.returns-in_err-pos
returns-in_err-pos g c =
    let r = c.in_ok-src.ensures in
    rw (propagated c.from_residual-in_err-pos.result c.from_residual-in_err-pos.ensures.1) (record { adds = r.adds; read = record { known = tt; read = refuses_seen alone _ (source_passed r.read.read) c.in_err-pos.ensures }; paths = tt })

pub returns : goal.returns
returns g c =
    let r = c.in_ok-src.ensures in
    let paths = c.source_demanded.new.ctx.paths in
    let seen = seen-src_pos {A = g.row.A.Denot} c.in_ok-src.src c.in_ok-pos.pos in
    record {
      adds = r.adds;
      read = record {
        known = rw seen r.read.known;
        read = last_seen alone (location_over paths) (src_pos (path_of paths c.in_ok-src.src)) (SrcPos c.in_ok-src.src c.in_ok-pos.pos) (ap (written_with paths) seen) (source_passed r.read.read) c.in_ok-pos.ensures;
      };
      paths = r.paths ∙ sym (ap (λ v. all_kept c.args.ctx.now.paths (written_with paths v)) seen);
    }
