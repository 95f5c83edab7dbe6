use Rattle.std.proofs.Common.{refl, sym, ◌∙◌}
use Rattle.irtext_base.specs.Paths.{path_of}
use Rattle.irtext_tokens.proofs.Exits.{propagated}
use Rattle.irtext_grammar.specs.Readers.Locations.{source_at}
use Rattle.irtext_grammar.proofs.Readers.NewPaths.{adds_none}
use Rattle.irtext_parse_locations.proofs.Refusals.{had_failed}
use Rattle.irtext_parse_locations.proofs.SourceSteps.{path_is_source, memory_refused, memory_read, no_source}
use Rattle.irtext_parse_locations.proofs.location.source.source_demanded.Goals as goal

pub returns-then-has_failed : goal.returns-then-has_failed
returns-then-has_failed g c = record {
  adds = adds_none c.args.ctx.now;
  read = record { known = tt; read = had_failed (path_of c.args.ctx.now.paths) source_at (sym c.has_failed.ensures ∙ c.if-has_failed.true) c.refuse.ensures };
  paths = tt;
}

pub returns-then-next_is : goal.returns-then-next_is
returns-then-next_is g c =
    let r = c.path_demanded.ensures in
    record { adds = r.adds; read = path_is_source c.path_demanded.new.ctx.paths (sym c.next_is.ensures ∙ c.if-next_is.true) r.read; paths = r.paths }

pub returns-in_err-text_demanded : goal.returns-in_err-text_demanded
returns-in_err-text_demanded g c =
    rw (propagated c.from_residual.result c.from_residual.ensures.1) (record {
      adds = adds_none c.args.ctx.now;
      read = memory_refused c.args.ctx.now.paths (sym c.next_is.ensures ∙ c.if-next_is.false) (sym c.next_is-2.ensures ∙ c.if-next_is-2.true) c.in_err-text_demanded.ensures;
      paths = tt;
    })

pub returns-then-next_is-2 : goal.returns-then-next_is-2
returns-then-next_is-2 g c = record {
  adds = adds_none c.args.ctx.now;
  read = memory_read c.args.ctx.now.paths (sym c.next_is.ensures ∙ c.if-next_is.false) (sym c.next_is-2.ensures ∙ c.if-next_is-2.true) c.in_ok-text_demanded.ensures;
  paths = refl;
}

pub returns : goal.returns
returns g c = record {
  adds = adds_none c.args.ctx.now;
  read = no_source c.args.ctx.now.paths (sym c.next_is.ensures ∙ c.if-next_is.false) (sym c.has_failed.ensures ∙ c.if-has_failed.false) (sym c.next_is-2.ensures ∙ c.if-next_is-2.false) c.unexpected-fault.ensures c.commit.ensures;
  paths = tt;
}
