use Rattle.std.proofs.Common.{◌∙◌, ◌++◌, [], ◌∷◌, map, sym, ap}
use Rattle.std.proofs.lemmas.List.{map-append}
use Rattle.irtext_base.specs.FormatViews.{directives_of}
use Rattle.irtext_context.specs.Entries.{entries_left}
use Rattle.irtext_print.specs.Printers.PieceText.{is_key_written}
use Rattle.irtext_formatter.specs.Keys.{unwritten_keys}
use Rattle.irtext_formatter.proofs.Keying.{with_key, without_key}
use Rattle.irtext_formatter.proofs.keys.unwritten_keys.Goals as goal

pub loop-key-preserved-in-Continue-1 : goal.loop-key-preserved-in-Continue-1
loop-key-preserved-in-Continue-1 g c =
    let ds = directives_of c.args.directives.now in
    let so_far = map (λ key. key.now) c.loop-key.found.items in
    ap (λ found. found ++ unwritten_keys ds (entries_left c.next.new.self))
    (ap (map (λ key. key.now)) c.in_ok-push.ensures.items ∙ (map-append (λ key. key.now) c.loop-key.found.items (c.as_str-then-not-is_key_written.result ∷ []) ∙ ap (λ key. so_far ++ key ∷ []) c.as_str-then-not-is_key_written.ensures.text))
    ∙ with_key ds c.in-Some.key.now c.in-Some._attr.now so_far (unwritten_keys ds c.args.attributes.now) (entries_left c.loop-key.key-iterator) (entries_left c.next.new.self) c.in-Some.ensures.steps c.loop-key.invariant
    (ap (λ key. is_key_written key ds) (sym c.as_str.ensures.text) ∙ (sym c.is_key_written.ensures ∙ c.if-not-is_key_written.true))

pub loop-key-preserved : goal.loop-key-preserved
loop-key-preserved g c =
    let ds = directives_of c.args.directives.now in
    without_key ds c.in-Some.key.now c.in-Some._attr.now (map (λ key. key.now) c.loop-key.found.items) (unwritten_keys ds c.args.attributes.now) (entries_left c.loop-key.key-iterator) (entries_left c.next.new.self) c.in-Some.ensures.steps c.loop-key.invariant
    (ap (λ key. is_key_written key ds) (sym c.as_str.ensures.text) ∙ (sym c.is_key_written.ensures ∙ c.if-not-is_key_written.false))
