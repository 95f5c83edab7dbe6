use Rattle.std.proofs.Common.{◌∙◌, arith, le_refl, sym, subst, inl}
use Rattle.irtext_context.specs.Context.{KeepsOlder}
use Rattle.irtext_context.proofs.Kept.{kept_closed}
use Rattle.irtext_context.proofs.Parts.{seen_is_live}
use Rattle.irtext_graph.specs.Back.{AllOlder, IsClosedBelow}
use Rattle.irtext_graph.specs.declared.object.Object.TheVariants.{TheRegion}
use Rattle.irtext_tokens.specs.AttrTexts.{attr_at}
use Rattle.irtext_tokens.proofs.Exits.{propagated}
use Rattle.irtext_parse_state.specs.States.{marks_of}
use Rattle.irtext_parse_nested.proofs.Marking.{gains_nothing}
use Rattle.irtext_names.specs.Alone.{IsOutermost}
use Rattle.irtext_parse_root.proofs.Chains.{never_open, gains_both, rest_both}
use Rattle.irtext_parse_root.proofs.Under.{region_is_here, unentered_refused, unbegun_refused, entry_refused, under_stops, still_alone, can_place, reads_under}
use Rattle.irtext_parse_root.proofs.Sparing.{fine_after, alone_kept}
use Rattle.irtext_parse_nested.proofs.Unplaced.{alone_lasts, alone_new, alone_there}
use Rattle.irtext_parse_root.proofs.one_region.region_parse.Goals as goal

pub returns-then-not-can_enter-clause-refused : goal.returns-then-not-can_enter-clause-refused
returns-then-not-can_enter-clause-refused g c =
    unentered_refused g.T.IrText.reading (attr_at g.A.IrText.reading) c.args.names.now c.args.s.now c.isolated_here-closed.result c.args.op c.isolated_here-closed.ensures (sym c.can_enter.ensures ∙ c.if-not-can_enter.true) c.not_isolated.result c.not_isolated.ensures.cause
    c.not_isolated.ensures.committed (λ view is. subst (IsOutermost view.loc) (sym c.not_isolated.ensures.place) (c.position_here-at.ensures view is))

pub returns-then-not-next_is-clause-refused : goal.returns-then-not-next_is-clause-refused
returns-then-not-next_is-clause-refused g c =
    unbegun_refused g.T.IrText.reading (attr_at g.A.IrText.reading) c.args.names.now c.args.s.now c.isolated_here-closed.result c.args.op c.isolated_here-closed.ensures (sym c.can_enter.ensures ∙ c.if-not-can_enter.false)
    (sym c.next_is.ensures ∙ c.if-not-next_is.true) c.unexpected.result c.args.s.now.stream c.unexpected.ensures

pub region_begin-requires-clause-tied : goal.region_begin-requires-clause-tied
region_begin-requires-clause-tied g c = c.requires.sound.tied

pub returns-in_err-begun-clause-refused : goal.returns-in_err-begun-clause-refused
returns-in_err-begun-clause-refused g c =
    rw (propagated c.from_residual.result c.from_residual.ensures.1)
    (entry_refused g.T.IrText.reading g.A.IrText.reading g.met.T.IrText.sincere.reads g.met.A.IrText.sincere.reads c.args.names.now c.args.s.now c.isolated_here-closed.result c.args.op c.isolated_here-closed.ensures
    (sym c.can_enter.ensures ∙ c.if-not-can_enter.false) (sym c.next_is.ensures ∙ c.if-not-next_is.false) _ c.in_err-begun.ensures.committed c.in_err-begun.ensures.refused)

pub returns-in_err-begun-clause-unread : goal.returns-in_err-begun-clause-unread
returns-in_err-begun-clause-unread g c = rw (propagated c.from_residual.result c.from_residual.ensures.1) (never_open _ c.in_err-begun.ensures.committed)

pub returns-in_err-begun-clause-unnoted : goal.returns-in_err-begun-clause-unnoted
returns-in_err-begun-clause-unnoted g c = rw (propagated c.from_residual.result c.from_residual.ensures.1) (gains_nothing c.region_begin.ensures.marks)

pub returns-in_err-begun-clause-names : goal.returns-in_err-begun-clause-names
returns-in_err-begun-clause-names g c i text e = rw c.region_begin.ensures.names e

pub returns-in_err-begun-clause-kept : goal.returns-in_err-begun-clause-kept
returns-in_err-begun-clause-kept g c = rw (propagated c.from_residual.result c.from_residual.ensures.1) (λ m le closed sound. c.region_begin.ensures.kept m le tt)

pub items_parse-requires : goal.items_parse-requires
items_parse-requires g c =
    let made = c.args.s.now.state.ctx.now.graph.made in
    let e = c.in_ok-begun.ensures in
    let w = c.region_begin.ensures in
    let more = e.creates.0.made in
    record {
      ready = record {
        steady = record {
          fine = fine_after c.requires.fine e.begins.moves;
          sound = record { since = made; past = omega (arith, more); sound = e.sound made (le_refl made) c.requires.sound };
        };
        here = region_is_here g.T.IrText.reading g.A.IrText.reading g.met.T.IrText.sincere.reads g.met.A.IrText.sincere.reads c.args.names.now c.args.s.now c.in_ok-begun.begun c.isolated_here-closed.result c.region_begin.new.names c.region_begin.new.s
            e.begins e.creates.0 e.creates.1 e.values e.labels e.open w.marks w.rest;
      };
    }

pub returns-in_err-items_parse-clause-refused : goal.returns-in_err-items_parse-clause-refused
returns-in_err-items_parse-clause-refused g c =
    let e = c.in_ok-begun.ensures in
    let w = c.region_begin.ensures in
    rw (propagated c.from_residual-in_err-items_parse.result c.from_residual-in_err-items_parse.ensures.1)
    (under_stops g.T.IrText.reading g.A.IrText.reading g.met.T.IrText.sincere.reads g.met.A.IrText.sincere.reads c.args.names.now c.args.s.now c.in_ok-begun.begun c.isolated_here-closed.result c.region_begin.new.names c.region_begin.new.s
    e.begins e.creates.0 e.creates.1 e.values e.labels e.open w.marks w.rest _ c.in_err-items_parse.ensures.stops c.args.op c.isolated_here-closed.ensures (sym c.can_enter.ensures ∙ c.if-not-can_enter.false) (sym c.next_is.ensures ∙ c.if-not-next_is.false))

pub returns-in_err-items_parse-clause-unread : goal.returns-in_err-items_parse-clause-unread
returns-in_err-items_parse-clause-unread g c = rw (propagated c.from_residual-in_err-items_parse.result c.from_residual-in_err-items_parse.ensures.1) (never_open _ c.in_err-items_parse.ensures.stops.committed)

pub returns-in_err-items_parse-clause-rest : goal.returns-in_err-items_parse-clause-rest
returns-in_err-items_parse-clause-rest g c = rest_both c.region_begin.ensures.rest c.in_err-items_parse.ensures.spares.remains.rest

pub returns-in_err-items_parse-clause-unnoted : goal.returns-in_err-items_parse-clause-unnoted
returns-in_err-items_parse-clause-unnoted g c =
    rw (propagated c.from_residual-in_err-items_parse.result c.from_residual-in_err-items_parse.ensures.1)
    (gains_both (marks_of c.args.s.now.state) (marks_of c.region_begin.new.s.state) (marks_of c.items_parse.new.s.state) (gains_nothing c.region_begin.ensures.marks) c.in_err-items_parse.ensures.spares.remains.gains)

pub returns-in_err-items_parse-clause-names : goal.returns-in_err-items_parse-clause-names
returns-in_err-items_parse-clause-names g c i text e = c.in_err-items_parse.ensures.spares.names i text (rw c.region_begin.ensures.names e)

pub returns-in_err-items_parse-clause-kept : goal.returns-in_err-items_parse-clause-kept
returns-in_err-items_parse-clause-kept g c =
    rw (propagated c.from_residual-in_err-items_parse.result c.from_residual-in_err-items_parse.ensures.1) (alone_kept c.args.s.now c.region_begin.new.s c.in_ok-begun.begun c.in_ok-begun.ensures.creates.0 c.in_ok-begun.ensures.creates.1 (λ m le. c.region_begin.ensures.kept m le tt) c.in_ok-begun.ensures.sound c.in_err-items_parse.ensures.spares)

pub region_placed-requires-clause-op : goal.region_placed-requires-clause-op
region_placed-requires-clause-op g c =
    let alone = alone_lasts c.args.s.now.state.ctx.now c.region_begin.new.s.state.ctx.now c.in_ok-begun.begun.region c.in_ok-begun.ensures.creates.0 c.in_ok-begun.ensures.creates.1 in
    seen_is_live c.items_parse.new.s.state.ctx.now c.args.op (c.in_ok-items_parse.ensures.finishes.carries.lasts.operations c.args.op (alone.operations c.args.op c.requires.alive))

pub region_placed-requires-clause-region : goal.region_placed-requires-clause-region
region_placed-requires-clause-region g c =
    c.in_ok-items_parse.ensures.finishes.carries.lasts.regions c.in_ok-begun.begun.region
    (alone_there c.args.s.now.state.ctx.now c.region_begin.new.s.state.ctx.now c.in_ok-begun.begun.region c.in_ok-begun.ensures.creates.0 c.in_ok-begun.ensures.creates.1)

pub region_placed-requires-clause-can : goal.region_placed-requires-clause-can
region_placed-requires-clause-can g c =
    let old = c.args.s.now.state.ctx.now in
    let made = old.graph.made in
    let e = c.in_ok-begun.ensures in
    let w = c.region_begin.ensures in
    let older = subst (λ n. AllOlder n old.graph) c.made.ensures.made c.made.ensures.older in
    let closed = subst (λ n. IsClosedBelow n old.graph) c.made.ensures.made c.made.ensures.closed in
    let more = e.creates.0.made in
    let is_new = alone_new old c.region_begin.new.s.state.ctx.now c.in_ok-begun.begun.region e.creates.0 e.creates.1 made (le_refl made) in
    let both = alone_kept c.args.s.now c.region_begin.new.s c.in_ok-begun.begun c.in_ok-begun.ensures.creates.0 c.in_ok-begun.ensures.creates.1 (λ m le. c.region_begin.ensures.kept m le tt) c.in_ok-begun.ensures.sound c.in_ok-items_parse.ensures.spares made (le_refl made) closed c.requires.sound in
    let v = still_alone g.T.IrText.reading g.A.IrText.reading g.met.T.IrText.sincere.reads g.met.A.IrText.sincere.reads c.args.names.now c.args.s.now c.in_ok-begun.begun c.isolated_here-closed.result c.region_begin.new.names c.region_begin.new.s
    e.begins e.creates.0 e.creates.1 e.values e.labels e.open w.marks w.rest c.items_parse.new.names c.items_parse.new.s c.in_ok-items_parse.ensures.finishes in
    can_place made old c.items_parse.new.s.state.ctx.now older both (kept_closed closed both) c.in_ok-begun.begun.region
    (c.in_ok-items_parse.ensures.finishes.carries.lasts.newer made (TheRegion c.in_ok-begun.begun.region) (omega (arith, more)) is_new) v.0 v.1 v.2 c.args.op c.requires.alive

pub returns-in_err-region_placed-clause-refused : goal.returns-in_err-region_placed-clause-refused
returns-in_err-region_placed-clause-refused g c = rw (propagated c.from_residual-in_err-region_placed.result c.from_residual-in_err-region_placed.ensures.1) (inl c.in_err-region_placed.ensures.ran_out)

pub returns-in_err-region_placed-clause-unread : goal.returns-in_err-region_placed-clause-unread
returns-in_err-region_placed-clause-unread g c = rw (propagated c.from_residual-in_err-region_placed.result c.from_residual-in_err-region_placed.ensures.1) (never_open _ c.in_err-region_placed.ensures.ran_out.flag)

pub returns-in_err-region_placed-clause-rest : goal.returns-in_err-region_placed-clause-rest
returns-in_err-region_placed-clause-rest g c = rest_both (rest_both c.region_begin.ensures.rest c.in_ok-items_parse.ensures.finishes.carries.rest) c.region_placed.ensures.rest

pub returns-in_err-region_placed-clause-unnoted : goal.returns-in_err-region_placed-clause-unnoted
returns-in_err-region_placed-clause-unnoted g c =
    rw (propagated c.from_residual-in_err-region_placed.result c.from_residual-in_err-region_placed.ensures.1)
    (gains_both (marks_of c.args.s.now.state) (marks_of c.items_parse.new.s.state) (marks_of c.region_placed.new.s.state)
    (gains_both (marks_of c.args.s.now.state) (marks_of c.region_begin.new.s.state) (marks_of c.items_parse.new.s.state) (gains_nothing c.region_begin.ensures.marks) c.in_ok-items_parse.ensures.finishes.carries.gains) (gains_nothing c.region_placed.ensures.marks))

pub returns-in_err-region_placed-clause-names : goal.returns-in_err-region_placed-clause-names
returns-in_err-region_placed-clause-names g c i text e = c.in_ok-items_parse.ensures.spares.names i text (rw c.region_begin.ensures.names e)

pub returns-in_err-region_placed-clause-kept : goal.returns-in_err-region_placed-clause-kept
returns-in_err-region_placed-clause-kept g c =
    rw (propagated c.from_residual-in_err-region_placed.result c.from_residual-in_err-region_placed.ensures.1)
    (λ m le closed sound. subst (KeepsOlder m c.args.s.now.state.ctx.now) (sym c.in_err-region_placed.ensures.unchanged) (alone_kept c.args.s.now c.region_begin.new.s c.in_ok-begun.begun c.in_ok-begun.ensures.creates.0 c.in_ok-begun.ensures.creates.1 (λ m le. c.region_begin.ensures.kept m le tt) c.in_ok-begun.ensures.sound c.in_ok-items_parse.ensures.spares m le closed sound))

pub returns-clause-read : goal.returns-clause-read
returns-clause-read g c =
    let e = c.in_ok-begun.ensures in
    let w = c.region_begin.ensures in
    let p = c.in_ok-region_placed.ensures in
    reads_under g.T.IrText.reading g.A.IrText.reading g.met.T.IrText.sincere.reads g.met.A.IrText.sincere.reads c.args.names.now c.args.s.now c.in_ok-begun.begun c.isolated_here-closed.result c.region_begin.new.names c.region_begin.new.s
    e.begins e.creates.0 e.creates.1 e.values e.labels e.open w.marks w.rest c.items_parse.new.names c.items_parse.new.s c.in_ok-items_parse.ensures.finishes c.args.op c.region_placed.new.s c.isolated_here-closed.ensures p.stream p.marks
    (λ m le sound. let more = e.creates.0.made in c.in_ok-items_parse.ensures.finishes.carries.sound m (omega (arith, le, more)) (e.sound m le sound))
    (alone_kept c.args.s.now c.region_begin.new.s c.in_ok-begun.begun c.in_ok-begun.ensures.creates.0 c.in_ok-begun.ensures.creates.1 (λ m le. c.region_begin.ensures.kept m le tt) c.in_ok-begun.ensures.sound c.in_ok-items_parse.ensures.spares) p.places p.with_it

pub returns-clause-rest : goal.returns-clause-rest
returns-clause-rest g c = rest_both (rest_both c.region_begin.ensures.rest c.in_ok-items_parse.ensures.finishes.carries.rest) c.region_placed.ensures.rest

pub returns-clause-names : goal.returns-clause-names
returns-clause-names g c i text e = c.in_ok-items_parse.ensures.spares.names i text (rw c.region_begin.ensures.names e)
