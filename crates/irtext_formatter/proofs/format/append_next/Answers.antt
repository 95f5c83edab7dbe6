use Rattle.std.proofs.Common.{◌∙◌, subst}
use Rattle.irtext_print_ops.specs.Heads as heads
use Rattle.pliron_text.specs.Calls.{IsPrinted}
use Rattle.pliron_text.specs.Unprinted.{plain}
use Rattle.irtext_formatter.specs.Stands.{place_of, held_by}
use Rattle.irtext_formatter.specs.Unprinted.{IsReason}
use Rattle.irtext_formatter.proofs.Stepping.{stopped_here, has_root, goes_on, shorter_still}
use Rattle.irtext_formatter.proofs.format.append_next.Goals as goal

pub returns-in-Err-append_lines-clause-fails : goal.returns-in-Err-append_lines-clause-fails
returns-in-Err-append_lines-clause-fails g c =
    let old = c.args.roots.now in
    let root = c.in-Ok.root in
    let parsed = c.parse_root.new.self in
    let spaced = c.is_left-followed.new.self in
    let laid = c.lay_out.new.self in
    let begins = c.is_left-followed.ensures.begin (place_of old).passed (c.in-Ok.ensures.begin c.requires.ready) in
    stopped_here g.T.IrText g.A.IrText g.A.AttrText g.A.PartialEq.eq c.args.layout (place_of old) (held_by old) root (place_of parsed) (held_by laid)
    (has_root g.T.IrText g.A.IrText g.A.AttrText g.A.PartialEq.eq c.args.layout old parsed spaced laid root c.is_left-followed.result (c.in-Ok.ensures.reads c.requires.ready) c.is_left-followed.ensures.state c.is_left-followed.ensures.left
    (c.lay_out.ensures.laid (place_of old).passed begins))
    c.in-Err-append_lines.refusal
    (subst (λ x. heads.RefusesUnder g.T.IrText g.A.IrText g.A.AttrText g.A.PartialEq.eq x root plain c.in-Err-append_lines.refusal) c.context.ensures c.in-Err-append_lines.ensures.refused)
    c.unprinted.result
    (subst (λ x. IsReason g.T.IrText g.A.IrText g.A.AttrText g.A.PartialEq.eq x root c.in-Err-append_lines.refusal c.unprinted.result) c.context-in-Err-append_lines.ensures c.unprinted.ensures)

pub erase_followed-requires : goal.erase_followed-requires
erase_followed-requires g c =
    let old = c.args.roots.now in
    let can = c.lay_out.ensures.back (c.is_left-followed.ensures.inside c.in-Ok.root (c.in-Ok.ensures.inside c.requires.ready)) (held_by old) (c.is_left-followed.ensures.back (held_by old) (c.in-Ok.ensures.back c.requires.ready)) in
    record { closed = can.closed }

pub returns-clause-goes_on : goal.returns-clause-goes_on
returns-clause-goes_on g c =
    let old = c.args.roots.now in
    let root = c.in-Ok.root in
    let ready = c.requires.ready in
    let spaced = c.is_left-followed in
    let begins = spaced.ensures.begin (place_of old).passed (c.in-Ok.ensures.begin ready) in
    let can = c.lay_out.ensures.back (spaced.ensures.inside root (c.in-Ok.ensures.inside ready)) (held_by old) (spaced.ensures.back (held_by old) (c.in-Ok.ensures.back ready)) in
    let text = c.in-Ok-append_lines.ensures.text in (
      text.root,
      goes_on g.T.IrText g.A.IrText g.A.AttrText g.A.PartialEq.eq c.args.layout old c.parse_root.new.self spaced.new.self c.lay_out.new.self c.erase_followed.new.self root spaced.result text.root (c.in-Ok.ensures.reads ready) spaced.ensures.place spaced.ensures.state spaced.ensures.left
          (c.lay_out.ensures.laid (place_of old).passed begins) c.lay_out.ensures.place
          (subst (λ x. IsPrinted g.T.IrText g.A.IrText g.A.AttrText g.A.PartialEq.eq x root plain text.root) c.context.ensures text.prints)
          (λ e. (c.erase_followed.ensures.back e (held_by old) can, c.erase_followed.ensures.ready (c.lay_out.ensures.ready (spaced.ensures.ready (c.in-Ok.ensures.ready ready))))) c.erase_followed.ensures.last c.erase_followed.ensures.place,
      text.is,
    )

pub returns-clause-shorter : goal.returns-clause-shorter
returns-clause-shorter g c =
    shorter_still c.args.roots.now c.parse_root.new.self c.erase_followed.new.self (c.erase_followed.ensures.place ∙ (c.lay_out.ensures.place ∙ c.is_left-followed.ensures.place)) (c.in-Ok.ensures.shorter c.requires.ready)
