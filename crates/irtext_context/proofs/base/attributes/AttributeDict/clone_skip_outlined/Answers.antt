use Rattle.std.proofs.Common.{◌≡◌, sym, subst}
use Rattle.std.specs.Str.{bytes_eq}
use Rattle.irtext_base.specs.Format.{given_names_key}
use Rattle.irtext_context.proofs.Copies
use Rattle.irtext_context.specs.Dictionary.{IsAbsent, without_outlined}
use Rattle.irtext_context.specs.Entries.{entries_left}
use Rattle.irtext_context.proofs.base.attributes.AttributeDict.clone_skip_outlined.Goals as goal

pub invariant_of-result : goal.invariant_of-result
invariant_of-result g c =
    let all : c.loop-key.others ≡ without_outlined g.A.AttrText.outlined c.args.self.now =
    Copies.all_copied g.A.AttrText.outlined c.args.self.now (entries_left c.loop-key.key-iterator) c.loop-key.others c.in-None.ensures.steps.0 c.keeps_keys.ensures.differ c.loop-key.invariant in
    subst (IsAbsent (bytes_eq given_names_key)) (sym all) (Copies.none_reserved g.A.AttrText.outlined c.args.self.now c.keeps_keys.ensures.reserved)

pub returns : goal.returns
returns g c =
    Copies.all_copied g.A.AttrText.outlined c.args.self.now (entries_left c.loop-key.key-iterator) c.loop-key.others c.in-None.ensures.steps.0 c.keeps_keys.ensures.differ c.loop-key.invariant
