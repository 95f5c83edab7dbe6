use Rattle.std.proofs.Common.{refl, sym, ◌∙◌}
use Rattle.irtext_base.specs.Text.{Text}
use Rattle.irtext_base.specs.Answers.{Outcome}
use Rattle.irtext_base.specs.Locations.{AttrView}
use Rattle.irtext_base.specs.declared.location.Location.TheVariants.{Unknown}
use Rattle.irtext_tokens.specs.AttrTexts.{attr_at}
use Rattle.irtext_tokens.proofs.Exits.{propagated}
use Rattle.irtext_grammar.proofs.Readers.NewPaths.{adds_none}
use Rattle.irtext_parse_locations.proofs.FrameSteps.{fused_opens, fused_keeps, place_opens, place_refused}
use Rattle.irtext_parse_locations.proofs.OpeningSteps.{failed_opens, name_refused, name_opens, call_site_refused, call_site_opens, unknown_refused, unknown_opens, unknown_keeps, nothing_opens}
use Rattle.irtext_parse_locations.proofs.location.nested.location_opened.Given as given
use Rattle.irtext_parse_locations.proofs.location.nested.location_opened.Goals as goal

-- the parser of a caller's attributes
abbrev attr : (g : given.Over) → Text → Outcome (AttrView g.row.A.Denot)
attr g = attr_at g.A.IrText.reading

pub returns-then-has_failed : goal.returns-then-has_failed
returns-then-has_failed g c = record {
  adds = adds_none c.args.ctx.now;
  read = failed_opens (attr g) c.args.ctx.now.paths (sym c.has_failed.ensures ∙ c.if-has_failed.true) c.refuse.ensures;
  paths = tt;
}

pub returns-in_err-place : goal.returns-in_err-place
returns-in_err-place g c =
    let r = c.in_err-place.ensures in
    rw (propagated c.from_residual.result c.from_residual.ensures.1) (record { adds = r.adds; read = place_refused (attr g) (sym c.begins_source.ensures ∙ c.if-begins_source.true) r.read; paths = tt })

pub returns-then-begins_source : goal.returns-then-begins_source
returns-then-begins_source g c =
    let r = c.in_ok-place.ensures in
    record { adds = r.adds; read = place_opens (attr g) (sym c.begins_source.ensures ∙ c.if-begins_source.true) r.read; paths = r.paths }

pub returns-then-next_is : goal.returns-then-next_is
returns-then-next_is g c =
    let paths = c.args.ctx.now.paths in
    record {
      adds = adds_none c.args.ctx.now;
      read = fused_opens (attr g) paths (sym c.begins_source.ensures ∙ c.if-begins_source.false) (sym c.next_is.ensures ∙ c.if-next_is.true) c.fused_opened.ensures;
      paths = fused_keeps (attr g) paths c.fused_opened.result c.fused_opened.ensures;
    }

pub returns-in_err-name : goal.returns-in_err-name
returns-in_err-name g c =
    rw (propagated c.from_residual-in_err-name.result c.from_residual-in_err-name.ensures.1) (record {
      adds = adds_none c.args.ctx.now;
      read = name_refused (attr g) c.args.ctx.now.paths (sym c.begins_source.ensures ∙ c.if-begins_source.false) (sym c.next_is.ensures ∙ c.if-next_is.false) (sym c.next_is-2.ensures ∙ c.if-next_is-2.true) c.in_err-name.ensures;
      paths = tt;
    })

pub returns-then-next_is-2 : goal.returns-then-next_is-2
returns-then-next_is-2 g c = record {
  adds = adds_none c.args.ctx.now;
  read = name_opens (attr g) c.args.ctx.now.paths (sym c.begins_source.ensures ∙ c.if-begins_source.false) (sym c.next_is.ensures ∙ c.if-next_is.false) c.in_ok-name.name (sym c.next_is-2.ensures ∙ c.if-next_is-2.true) c.in_ok-name.ensures;
  paths = refl;
}

pub returns-in_err-call_site_head : goal.returns-in_err-call_site_head
returns-in_err-call_site_head g c =
    rw (propagated c.from_residual-in_err-call_site_head.result c.from_residual-in_err-call_site_head.ensures.1) (record {
      adds = adds_none c.args.ctx.now;
      read = call_site_refused (attr g) c.args.ctx.now.paths (sym c.begins_source.ensures ∙ c.if-begins_source.false) (sym c.next_is.ensures ∙ c.if-next_is.false) (sym c.next_is-2.ensures ∙ c.if-next_is-2.false) (sym c.next_is-3.ensures ∙ c.if-next_is-3.true) c.in_err-call_site_head.ensures;
      paths = tt;
    })

pub returns-then-next_is-3 : goal.returns-then-next_is-3
returns-then-next_is-3 g c = record {
  adds = adds_none c.args.ctx.now;
  read = call_site_opens (attr g) c.args.ctx.now.paths (sym c.begins_source.ensures ∙ c.if-begins_source.false) (sym c.next_is.ensures ∙ c.if-next_is.false) (sym c.next_is-2.ensures ∙ c.if-next_is-2.false) (sym c.next_is-3.ensures ∙ c.if-next_is-3.true) c.in_ok-call_site_head.ensures;
  paths = refl;
}

pub returns-in_err-text_demanded : goal.returns-in_err-text_demanded
returns-in_err-text_demanded g c =
    rw (propagated c.from_residual-in_err-text_demanded.result c.from_residual-in_err-text_demanded.ensures.1) (record {
      adds = adds_none c.args.ctx.now;
      read = unknown_refused (attr g) c.args.ctx.now.paths (sym c.begins_source.ensures ∙ c.if-begins_source.false) (sym c.next_is.ensures ∙ c.if-next_is.false) (sym c.next_is-2.ensures ∙ c.if-next_is-2.false) (sym c.next_is-3.ensures ∙ c.if-next_is-3.false) (sym c.next_is-4.ensures ∙ c.if-next_is-4.true) c.in_err-text_demanded.ensures;
      paths = tt;
    })

pub returns-then-next_is-4 : goal.returns-then-next_is-4
returns-then-next_is-4 g c = record {
  adds = adds_none c.args.ctx.now;
  read = unknown_opens (attr g) c.args.ctx.now.paths (sym c.begins_source.ensures ∙ c.if-begins_source.false) (sym c.next_is.ensures ∙ c.if-next_is.false) (sym c.next_is-2.ensures ∙ c.if-next_is-2.false) (sym c.next_is-3.ensures ∙ c.if-next_is-3.false) (sym c.next_is-4.ensures ∙ c.if-next_is-4.true) c.in_ok-text_demanded.ensures;
  paths = unknown_keeps c.args.ctx.now.paths Unknown refl;
}

pub returns : goal.returns
returns g c = record {
  adds = adds_none c.args.ctx.now;
  read = nothing_opens (attr g) c.args.ctx.now.paths (sym c.begins_source.ensures ∙ c.if-begins_source.false) (sym c.next_is.ensures ∙ c.if-next_is.false) (sym c.next_is-2.ensures ∙ c.if-next_is-2.false) (sym c.next_is-3.ensures ∙ c.if-next_is-3.false) (sym c.has_failed.ensures ∙ c.if-has_failed.false) (sym c.next_is-4.ensures ∙ c.if-next_is-4.false) c.unexpected-fault.ensures c.commit.ensures;
  paths = tt;
}
