use Rattle.std.proofs.Common.{◌∙◌, sym}
use Rattle.irtext_alike.proofs.Directives.{put_together, taken_apart}
use Rattle.irtext_alike.proofs.format.is_same_directive.Goals as goal

pub returns : goal.returns
returns c =
    let a = c.args.a.now in
    let b = c.args.b.now in (
      λ t. put_together a b (sym c.shape_of.ensures ∙ c.is_same_shape.ensures.0 c.if-not-is_same_shape.false ∙ c.shape_of-2.ensures) (sym c.text_of.ensures ∙ c.is_same_text.ensures.0 t ∙ c.text_of-2.ensures),
      λ e. c.is_same_text.ensures.1 (c.text_of.ensures ∙ (taken_apart a b e).1 ∙ sym c.text_of-2.ensures),
    )
