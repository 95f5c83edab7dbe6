use Rattle.std.proofs.Common.{◌∙◌, ◌++◌, ◌+◌, ◌*◌, ap, sym, refl, codes, chars, arith, true, string_bytes}
use Rattle.std.specs.Str.{encode_utf8_all}
use Rattle.irtext_base.specs.Causes.{position_text}
use Rattle.irtext_base.specs.Locations.{attr_view_in}
use Rattle.irtext_base.specs.Paths.{path_of}
use Rattle.irtext_base.specs.Quoted.{quoted}
use Rattle.irtext_base.specs.Weights.{weight_of, weight_all}
use Rattle.irtext_base.proofs.LocationViews.{seen-src_pos, seen-fused, seen-named, seen-call_site, seen-unknown}
use Rattle.irtext_grammar.specs.Spelling.Locations.{location_text, metadata_text, source_text}
use Rattle.irtext_print.specs.Printers.LocationParts.{row_text}
use Rattle.irtext_print.specs.declared.location.parts.Part.TheVariants.{Whole, Row, Caller, Closing}
use Rattle.irtext_print.proofs.Printers.LocationParts.{ended, entered, in_front, turned}
use Rattle.irtext_print.proofs.Printers.Locations.{enclosed, word}
use Rattle.irtext_print.proofs.location.parts.fmt_whole.Goals as goal

pub returns-in_ok-fmt_place-in-SrcPos-clause-text : goal.returns-in_ok-fmt_place-in-SrcPos-clause-text
returns-in_ok-fmt_place-in-SrcPos-clause-text g c =
    let text = source_text (path_of c.args.ctx.now.paths c.in-SrcPos.src) ++ (codes ": " ++ position_text c.in-SrcPos.pos) in
    rw (c.in-SrcPos.is, seen-src_pos {A = g.row.A.Denot} c.in-SrcPos.src c.in-SrcPos.pos)
    (ended g.A.IrText.written c.args.ctx.now.paths c.args.f.now c.fmt_place.new.f text text 1 c.args.waiting.now c.pop.new.self.items c.pop.result c.in_ok-fmt_place-in-SrcPos.ensures.text refl (omega arith) c.pop.ensures.items c.pop.ensures.variant)

pub returns-in_ok-push_str-in-Fused-2-clause-text : goal.returns-in_ok-push_str-in-Fused-2-clause-text
returns-in_ok-push_str-in-Fused-2-clause-text g c =
    let metadata = metadata_text g.A.IrText.written (attr_view_in c.in-Fused.metadata.value) in
    let items = c.in-Fused.locations.value.items in
    let row = row_text g.A.IrText.written c.args.ctx.now.paths true in
    let same = c.deref-in-Fused-2.ensures.value ∙ ap (λ z. z.items) c.deref-in-Fused.ensures in
    rw (c.in-Fused.is, seen-fused c.in-Fused.metadata c.in-Fused.locations)
    (turned g.A.IrText.written c.args.ctx.now.paths c.args.f.now c.push_str-in-Fused.new.text (codes "fused" ++ (metadata ++ codes "["))
    (codes "fused" ++ (metadata ++ (codes "[" ++ row items))) (1 + 2 * (1 + weight_all items)) c.args.waiting.now.items (Row c.deref-in-Fused-2.result true)
    (enclosed (codes "fused") metadata (codes "[") (string_bytes c.args.f.now) (string_bytes c.push_str.new.text) (string_bytes c.fmt_metadata.new.f) (string_bytes c.push_str-in-Fused.new.text) refl refl
    c.in_ok-push_str-in-Fused.ensures.bytes (c.in_ok-fmt_metadata-in-Fused.ensures.text ∙ ap (λ z. string_bytes c.push_str.new.text ++ encode_utf8_all (metadata_text g.A.IrText.written (attr_view_in z))) c.deref.ensures) c.in_ok-push_str-in-Fused-2.ensures.bytes)
    (ap (λ z. codes "fused" ++ (metadata ++ (codes "[" ++ row z))) (sym same) ∙ in_front (codes "fused") metadata (codes "[") (row c.deref-in-Fused-2.result.now))
    (omega (arith, ap weight_all same)))

pub returns-in_ok-push_str-in-Named-2-clause-text : goal.returns-in_ok-push_str-in-Named-2-clause-text
returns-in_ok-push_str-in-Named-2-clause-text g c =
    let name = quoted (chars (string_bytes c.in-Named.name.value)) in
    let text = location_text g.A.IrText.written c.args.ctx.now.paths in
    let child = c.in-Named.child_loc.value in
    rw (c.in-Named.is, seen-named c.in-Named.name c.in-Named.child_loc)
    (entered g.A.IrText.written c.args.ctx.now.paths c.inside.result c.args.f.now c.push_str-in-Named-2.new.text (codes "name: " ++ (name ++ codes ", loc: ("))
    (codes "name: " ++ (name ++ (codes ", loc: (" ++ (text child ++ codes ")")))) (1 + 2 * (1 + weight_of child)) c.args.waiting.now.items c.inside.new.waiting.items (Whole c.deref-in-Named-2.result) Closing
    (enclosed (codes "name: ") name (codes ", loc: (") (string_bytes c.args.f.now) (string_bytes c.push_str-in-Named.new.text) (string_bytes c.fmt_quoted.new.f) (string_bytes c.push_str-in-Named-2.new.text) refl refl
    c.in_ok-push_str-in-Named.ensures.bytes (c.in_ok-fmt_quoted-in-Named.ensures.text ∙ ap (λ z. string_bytes c.push_str-in-Named.new.text ++ encode_utf8_all (quoted (chars z))) (c.as_str.ensures.value ∙ ap string_bytes c.deref-in-Named.ensures)) c.in_ok-push_str-in-Named-2.ensures.bytes)
    (ap (λ z. codes "name: " ++ (name ++ (codes ", loc: (" ++ (text z ++ codes ")")))) (sym c.deref-in-Named-2.ensures) ∙ in_front (codes "name: ") name (codes ", loc: (") (text c.deref-in-Named-2.result.now ++ codes ")"))
    (omega (arith, ap weight_of c.deref-in-Named-2.ensures)) c.inside.ensures.next c.inside.ensures.waiting)

pub returns-in_ok-push_str-in-CallSite-clause-text : goal.returns-in_ok-push_str-in-CallSite-clause-text
returns-in_ok-push_str-in-CallSite-clause-text g c =
    let text = location_text g.A.IrText.written c.args.ctx.now.paths in
    let callee = c.in-CallSite.callee.value in
    let caller = c.in-CallSite.caller.value in
    rw (c.in-CallSite.is, seen-call_site c.in-CallSite.callee c.in-CallSite.caller)
    (entered g.A.IrText.written c.args.ctx.now.paths c.inside-in-CallSite.result c.args.f.now c.push_str-in-CallSite.new.text (codes "callsite(")
    (codes "callsite(" ++ (text callee ++ (codes " at " ++ (text caller ++ codes ")")))) (1 + 2 * (2 + (weight_of callee + weight_of caller))) c.args.waiting.now.items c.inside-in-CallSite.new.waiting.items (Whole c.deref-in-CallSite.result) (Caller c.deref-in-CallSite-2.result)
    (c.in_ok-push_str-in-CallSite.ensures.bytes ∙ ap (λ z. string_bytes c.args.f.now ++ z) (word (codes "callsite(") refl))
    (ap (λ z. codes "callsite(" ++ (text z ++ (codes " at " ++ (text caller ++ codes ")")))) (sym c.deref-in-CallSite.ensures) ∙ ap (λ z. codes "callsite(" ++ (text c.deref-in-CallSite.result.now ++ (codes " at " ++ (text z ++ codes ")")))) (sym c.deref-in-CallSite-2.ensures))
    (omega (arith, ap weight_of c.deref-in-CallSite.ensures, ap weight_of c.deref-in-CallSite-2.ensures)) c.inside-in-CallSite.ensures.next c.inside-in-CallSite.ensures.waiting)

pub returns-in_ok-push_str-in-Unknown-clause-text : goal.returns-in_ok-push_str-in-Unknown-clause-text
returns-in_ok-push_str-in-Unknown-clause-text g c =
    rw (c.in-Unknown.is, seen-unknown {A = g.row.A.Denot})
    (ended g.A.IrText.written c.args.ctx.now.paths c.args.f.now c.push_str-in-Unknown.new.text (codes "?") (codes "?") 1 c.args.waiting.now c.pop-in-Unknown.new.self.items c.pop-in-Unknown.result
    (c.in_ok-push_str-in-Unknown.ensures.bytes ∙ ap (λ z. string_bytes c.args.f.now ++ z) (word (codes "?") refl)) refl (omega arith) c.pop-in-Unknown.ensures.items c.pop-in-Unknown.ensures.variant)
