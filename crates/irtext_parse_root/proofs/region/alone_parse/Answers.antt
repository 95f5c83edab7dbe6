use Rattle.std.proofs.Common.{◌≡◌, None, refl, sym, ap, subst, le_refl, inr}
use Rattle.irtext_graph.proofs.Made.{same_keeps}
use Rattle.irtext_names.specs.Alone as alone
use Rattle.irtext_names.specs.Alone.{BuildsRegion}
use Rattle.irtext_tokens.specs.AttrTexts.{attr_at}
use Rattle.irtext_grammar.specs.Readers.Refusals.{Refusal}
use Rattle.irtext_parse_nested.proofs.Marking.{gains_nothing}
use Rattle.irtext_parse_root.specs.AnyRegion as any
use Rattle.irtext_parse_root.specs.Parses.{texts}
use Rattle.irtext_parse_root.specs.Region.{unisolated}
use Rattle.irtext_parse_root.proofs.Laws.{Laws, laws_of}
use Rattle.irtext_parse_root.proofs.Fresh.{fresh_sound, keeps_all}
use Rattle.irtext_parse_root.proofs.Refused.{refusal_by}
use Rattle.irtext_parse_root.proofs.RegionReads.{builds_region}
use Rattle.irtext_parse_root.proofs.RegionRefused.{reported, unreported, refused_unisolated, closed_as, closed_id, says_region, region_came, misses_region, refuses_region}
use Rattle.irtext_parse_root.proofs.region.alone_parse.Given as given
use Rattle.irtext_parse_root.proofs.region.alone_parse.Goals as goal

laws : (g : given.Over) → Laws g.T.IrText g.A.IrText
laws g = laws_of g.T.IrText g.A.IrText g.met.T.IrText.sincere g.met.A.IrText.sincere g.met.A.IrText.lawful

-- ---- the operation is not isolated
pub returns-in-Some-clause-undone : goal.returns-in-Some-clause-undone
returns-in-Some-clause-undone g c =
    let ctx = c.args.s.now.state.ctx.now in
    let e = c.not_isolated.ensures in
    record {
      rest = record { src = refl; aux_data = refl };
      refused = refused_unisolated c.args.s.now.stream c.not_isolated.new.stream c.not_isolated.result e.cause e.committed (ap (λ v. v.failed) e.fails);
      noted = gains_nothing refl;
      kept = record { graph = same_keeps ctx.graph.made ctx.graph ctx.graph refl; paths = λ i path e. e; dialects = refl };
    }

pub returns-in-Some-clause-answers : goal.returns-in-Some-clause-answers
returns-in-Some-clause-answers g c =
    let e = c.not_isolated.ensures in
    let said = reported _ c.in-Some.at c.in-Some.ensures c.not_isolated.result e.cause e.committed e.place in
    record { read = tt; missed = λ fine. inr (any.not_isolated said); builds = λ fresh. tt; unresolved = λ fresh. inr (alone.not_isolated said) }

-- ---- it is
pub region_parse-requires-clause-sound : goal.region_parse-requires-clause-sound
region_parse-requires-clause-sound g c = fresh_sound c.with_seed-names.result c.args.s.now.state c.with_seed-names.ensures.names c.with_seed-names.ensures.values c.with_seed-names.ensures.labels c.context_keeps.ensures.older

pub returns-in-Err-clause-undone : goal.returns-in-Err-clause-undone
returns-in-Err-clause-undone g c =
    let e = c.with_seed-names.ensures in
    let f = c.in-Err.ensures in
    let says = says_region g.T.IrText.reading g.A.IrText.reading g.met.T.IrText.sincere g.met.A.IrText.sincere c.with_seed-names.result c.args.s.now e.names e.values e.labels c.args.parent c.in-Err.fault f.refused in
    rw c.refused.ensures.same (record {
      rest = f.rest;
      refused = subst (Refusal c.args.s.now.stream c.in-Err.fault) (sym c.refused.ensures.fails) (refusal_by c.args.s.now.stream c.region_parse.new.s.stream c.in-Err.fault says f.unread);
      noted = f.unnoted;
      kept = keeps_all c.with_seed-names.result c.args.s.now.state e.names e.values e.labels c.context_keeps.ensures.older c.context_keeps.ensures.closed f.kept;
    })

pub returns-in-Err-clause-answers : goal.returns-in-Err-clause-answers
returns-in-Err-clause-answers g c =
    let e = c.with_seed-names.ensures in
    let l = laws g in
    let missed = misses_region g.T.IrText.reading (attr_at g.A.IrText.reading) c.with_seed-names.result c.args.s.now e.names e.values e.labels c.args.parent c.requires.alive (unreported _ c.in_default.ensures) c.in-Err.fault c.in-Err.ensures.refused in
    rw c.refused.ensures.same (record {
      read = tt;
      missed = λ fine. missed;
      builds = λ fresh. tt;
      unresolved = λ fresh. refuses_region g.T.IrText.reading g.T.IrText.written g.A.IrText.reading g.A.IrText.written l.types_split l.splits l.words l.short_types l.short_owns c.args.parent c.args.s.now fresh c.in-Err.fault missed;
    })

pub returns-in-Ok-clause-undone : goal.returns-in-Ok-clause-undone
returns-in-Ok-clause-undone g c = rw c.ended.ensures (record { rest = c.in-Ok.ensures.rest; refused = tt; noted = tt; kept = tt })

pub returns-in-Ok-clause-answers : goal.returns-in-Ok-clause-answers
returns-in-Ok-clause-answers g c =
    let l = laws g in
    let e = c.with_seed-names.ensures in
    let before = c.context_keeps.ensures in
    let old = c.args.s.now in
    let new = c.region_parse.new.s in
    let m = old.state.ctx.now.graph.made in
    let u = c.in-Ok.ensures.read in
    let here = c.requires.alive in
    let none : unisolated old.state.ctx.now c.args.parent ≡ None = unreported _ c.in_default.ensures in
    let begun = fresh_sound c.with_seed-names.result old.state e.names e.values e.labels before.older in
    let kept = u.older m (le_refl m) before.closed begun in
    let id = closed_id old.state.ctx.now c.args.parent here none in
    let parsed = builds_region g.T.IrText.reading g.T.IrText.written g.A.IrText.reading g.A.IrText.written l.types_split l.splits l.words l.short_types l.short_owns
    c.with_seed-names.result c.region_parse.new.names old new e.names e.values e.labels c.args.parent c.in-Ok.region u before.accepted (closed_as old.state.ctx.now c.args.parent here none u.iso u.isolation)
    id.0 id.1 here before.older kept (u.sound m (le_refl m) begun) c.context_keeps-in-Ok.ensures.nest before.holders in
    rw c.ended.ensures (record {
      read = record {
        isolated = none;
        came = region_came g.T.IrText.reading (attr_at g.A.IrText.reading) c.with_seed-names.result old e.names e.values e.labels c.args.parent here none c.in-Ok.region c.region_parse.new.names new u;
        parsed = parsed;
      };
      missed = λ fine. tt;
      builds = λ fresh. subst (λ ms. BuildsRegion (texts g.T.IrText) (texts g.A.IrText) ms c.args.parent c.in-Ok.region old new) fresh.marks parsed;
      unresolved = λ fresh. tt;
    })
