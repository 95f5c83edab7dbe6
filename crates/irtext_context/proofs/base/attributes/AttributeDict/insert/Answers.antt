use Rattle.std.proofs.Common.{sym, ◌∙◌, ap, subst, Some}
use Rattle.std.specs.Str.{bytes_eq}
use Rattle.irtext_context.specs.Dictionary.{IsSound, whole, placed}
use Rattle.irtext_context.proofs.Dictionaries
use Rattle.indexmap.specs.IndexMap.{insert_entry}
use Rattle.irtext_context.proofs.base.attributes.AttributeDict.insert.Goals as goal

pub invariant_of-self : goal.invariant_of-self
invariant_of-self g c =
    (Dictionaries.tried c.put_other.result c.args.key c.args.attr c.self.inside.given c.self.inside.others c.put_other.new.others c.self.invariant (sym c.is_reserved.ensures ∙ c.if-not-is_reserved.true) c.put_other.ensures.ok c.put_other.ensures.err).sound

pub returns-then-not-is_reserved-clause-entries : goal.returns-then-not-is_reserved-clause-entries
returns-then-not-is_reserved-clause-entries g c =
    rw (← c.self.view_is)
    (Dictionaries.tried c.put_other.result c.args.key c.args.attr c.self.inside.given c.self.inside.others c.put_other.new.others c.self.invariant (sym c.is_reserved.ensures ∙ c.if-not-is_reserved.true) c.put_other.ensures.ok c.put_other.ensures.err).ok

pub returns-then-not-is_reserved-clause-err : goal.returns-then-not-is_reserved-clause-err
returns-then-not-is_reserved-clause-err g c =
    rw (← c.self.view_is)
    (Dictionaries.tried c.put_other.result c.args.key c.args.attr c.self.inside.given c.self.inside.others c.put_other.new.others c.self.invariant (sym c.is_reserved.ensures ∙ c.if-not-is_reserved.true) c.put_other.ensures.ok c.put_other.ensures.err).err

pub invariant_of-self-2 : goal.invariant_of-self-2
invariant_of-self-2 g c =
    rw c.put_given.ensures
    (subst (λ n. IsSound (Some (placed c.self.inside.given n c.args.key c.args.attr)) c.self.inside.others) (sym c.len-at.ensures.len)
    (Dictionaries.put-sound c.args.key c.args.attr c.self.inside.given c.self.inside.others c.self.invariant (sym c.is_reserved.ensures ∙ c.if-not-is_reserved.false) (sym c.are_given_names.ensures ∙ c.if-not-are_given_names.false)))

pub returns-clause-entries : goal.returns-clause-entries
returns-clause-entries g c =
    ap (λ o. whole o c.self.inside.others) c.put_given.ensures
    ∙ ap (λ n. whole (Some (placed c.self.inside.given n c.args.key c.args.attr)) c.self.inside.others) c.len-at.ensures.len
    ∙ Dictionaries.put c.args.key c.args.attr c.self.inside.given c.self.inside.others c.self.invariant (sym c.is_reserved.ensures ∙ c.if-not-is_reserved.false)
    ∙ ap (λ es. insert_entry bytes_eq es c.args.key c.args.attr) c.self.view_is
