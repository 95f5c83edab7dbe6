use Rattle.std.proofs.Common.{rules, ◌≡◌, ◌++◌, ◌∷◌, ◌∙◌, ◌+◌, drop, refl, sym, ap, arith, string_bytes, option_map, false}
use Rattle.std.proofs.lemmas.List.{drop_more}
use Rattle.std.specs.Str.{encode_utf8_all}
use Rattle.irtext_base.proofs.OnlyAppended.{appends_next}
use Rattle.irtext_base.specs.Format.{is_any_region}
use Rattle.irtext_base.specs.FormatViews.{directive_of, directives_of}
use Rattle.irtext_grammar.specs.Contexts.Formats.{isolated}
use Rattle.irtext_grammar.specs.Grammar.Tree as tree
use Rattle.irtext_grammar.specs.Graphs.Graph.{part_of}
use Rattle.irtext_print_ops.specs.Heads as heads
use Rattle.irtext_print_ops.specs.Walk.{part_at, parts_left}
use Rattle.irtext_print_ops.specs.Written.{part_text}
use Rattle.irtext_print_ops.proofs.Fronts.{piece_written}
use Rattle.irtext_print_ops.proofs.Parts.{next_piece, next_after}
use Rattle.irtext_print_ops.proofs.Seen.{own_holds}
use Rattle.irtext_print_ops.proofs.Stops.{found, next_part, stops_at}
use Rattle.irtext_print_ops.proofs.step.fmt_pieces.Goals as goal

pub returns-in-Region : goal.returns-in-Region
returns-in-Region g c =
    let C = heads.printing_of g.T.IrText g.A.IrText g.A.AttrText g.A.PartialEq.eq c.args.ctx.now in
    let o = heads.operation_at g.T.IrText g.A.IrText g.A.AttrText g.A.PartialEq.eq c.args.ctx.now c.args.op in
    let s = stops_at C (heads.language_of g.T.IrText g.A.IrText g.A.AttrText g.A.PartialEq.eq c.args.ctx.now) o c.in-Some.directives.now c.loop-at.at c.index-directives-at.result (sym (ap (option_map (λ ds. directives_of ds.now)) c.in-Some.is) ∙ c.requires.format)
    (drop_more c.in-Some.directives.now c.loop-at.at c.index-directives-at.result c.loop-at-test.true ∙ ap (λ z. z ∷ drop (c.loop-at.at + 1) c.in-Some.directives.now) (sym c.index-directives-at.is))
    c.args.from (tree.region c.in-Region.field-0) (string_bytes c.loop-at.f) _ c.loop-at-test.true (ap (λ y. part_at C o (directive_of y)) c.in-Region.is) refl refl c.loop-at.invariant.text c.loop-at.invariant.following c.loop-at.invariant.past in
    record { text = s.text; stop = ((c.in-Region.field-0, s.left), (s.past, s.within)); refused = tt; appended = tt }

pub returns-in-Regions : goal.returns-in-Regions
returns-in-Regions g c =
    let C = heads.printing_of g.T.IrText g.A.IrText g.A.AttrText g.A.PartialEq.eq c.args.ctx.now in
    let o = heads.operation_at g.T.IrText g.A.IrText g.A.AttrText g.A.PartialEq.eq c.args.ctx.now c.args.op in
    let s = stops_at C (heads.language_of g.T.IrText g.A.IrText g.A.AttrText g.A.PartialEq.eq c.args.ctx.now) o c.in-Some.directives.now c.loop-at.at c.index-directives-at.result (sym (ap (option_map (λ ds. directives_of ds.now)) c.in-Some.is) ∙ c.requires.format)
    (drop_more c.in-Some.directives.now c.loop-at.at c.index-directives-at.result c.loop-at-test.true ∙ ap (λ z. z ∷ drop (c.loop-at.at + 1) c.in-Some.directives.now) (sym c.index-directives-at.is)) c.args.from tree.regions (string_bytes c.loop-at.f) _ c.loop-at-test.true (ap (λ y. part_at C o (directive_of y)) c.in-Regions.is) refl refl c.loop-at.invariant.text c.loop-at.invariant.following c.loop-at.invariant.past in
    record { text = s.text; stop = (s.left, (s.past, s.within)); refused = tt; appended = tt }

pub loop-at-preserved : goal.loop-at-preserved
loop-at-preserved g c =
    let ctx = c.args.ctx.now in
    let C = heads.printing_of g.T.IrText g.A.IrText g.A.AttrText g.A.PartialEq.eq ctx in
    let L = heads.language_of g.T.IrText g.A.IrText g.A.AttrText g.A.PartialEq.eq ctx in
    let o = heads.operation_at g.T.IrText g.A.IrText g.A.AttrText g.A.PartialEq.eq ctx c.args.op in
    let d = directive_of c.index-directives-at.result in
    let known = sym (ap (option_map (λ ds. directives_of ds.now)) c.in-Some.is) ∙ c.requires.format in
    let read = drop_more c.in-Some.directives.now c.loop-at.at c.index-directives-at.result c.loop-at-test.true ∙ ap (λ z. z ∷ drop (c.loop-at.at + 1) c.in-Some.directives.now) (sym c.index-directives-at.is) in
    let step = next_part C L o c.in-Some.directives.now c.loop-at.at c.index-directives-at.result known read in
    let piece : is_any_region d ≡ false = search rules in
    let ds = heads.directives_at g.T.IrText g.A.IrText g.A.AttrText g.A.PartialEq.eq ctx c.args.op in
    let written = own_holds g.A.IrText.written ctx c.args.op (λ o. string_bytes c.fmt_piece.new.f ≡ string_bytes c.loop-at.f ++ encode_utf8_all (part_text L (part_of C (directives_of c.in-Some.directives.now) o d))) c.requires.live c.in_ok-fmt_piece-in_default-directive.ensures.text in
    record {
      appends = appends_next {new = c.fmt_piece.new.f} c.loop-at.invariant.appends _ written;
      text = next_piece C (isolated ctx.dialects) ds o L d (parts_left C o c.loop-at.at) (parts_left C o (c.loop-at.at + 1)) (string_bytes c.loop-at.f) (string_bytes c.fmt_piece.new.f) _ piece step
          (piece_written L C o (directives_of c.in-Some.directives.now) d (string_bytes c.loop-at.f) (string_bytes c.fmt_piece.new.f) (found C L o c.in-Some.directives.now c.loop-at.at c.index-directives-at.result known read)
          written)
          c.loop-at.invariant.text;
      following = next_after C (isolated ctx.dialects) ds o d (parts_left C o c.loop-at.at) (parts_left C o (c.loop-at.at + 1)) _ piece step c.loop-at.invariant.following;
      past = omega (arith, c.loop-at.invariant.past);
    }
