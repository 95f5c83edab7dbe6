use Rattle.std.proofs.Common.{ap, refl, sym, ◌∙◌, rules}
use Rattle.irtext_base.specs.Locations.{src_pos}
use Rattle.irtext_base.specs.Paths.{path_of, written_with}
use Rattle.irtext_base.specs.declared.location.Location.{SrcPos}
use Rattle.irtext_base.specs.declared.location.Source.TheVariants.{InMemory}
use Rattle.irtext_grammar.specs.Contexts.Held.{location_over}
use Rattle.irtext_base.proofs.LocationViews.{seen-src_pos}
use Rattle.irtext_tokens.proofs.Exits.{propagated}
use Rattle.irtext_grammar.proofs.Readers.PlainStream.{alone}
use Rattle.irtext_grammar.proofs.Readers.Steps.{refuses_seen, last_seen}
use Rattle.irtext_parse_locations.proofs.Places.{memory_comes, source_passed}
use Rattle.irtext_parse_locations.proofs.location.source.place_demanded.Goals as goal

pub returns-in_err-pos : goal.returns-in_err-pos
returns-in_err-pos g c =
    let s = memory_comes {A = g.row.A.Denot} c.args.stream.now c.accept.new.self (sym c.has_failed.ensures ∙ c.if-has_failed.false) c.if-accept.ensures in
    rw (propagated c.from_residual.result c.from_residual.ensures.1) (record { adds = search rules; read = record { known = tt; read = refuses_seen alone _ (source_passed s) c.in_err-pos.ensures }; paths = tt })

pub returns-then-accept : goal.returns-then-accept
returns-then-accept g c =
    let s = memory_comes {A = g.row.A.Denot} c.args.stream.now c.accept.new.self (sym c.has_failed.ensures ∙ c.if-has_failed.false) c.if-accept.ensures in
    let paths = c.args.ctx.now.paths in
    let seen = seen-src_pos {A = g.row.A.Denot} InMemory c.in_ok-pos.pos in
    record {
      adds = search rules;
      read = record {
        known = rw seen refl;
        read = last_seen alone (location_over paths) (src_pos (path_of paths InMemory)) (SrcPos InMemory c.in_ok-pos.pos) (ap (written_with paths) seen) (source_passed s) c.in_ok-pos.ensures;
      };
      paths = rw seen refl;
    }
