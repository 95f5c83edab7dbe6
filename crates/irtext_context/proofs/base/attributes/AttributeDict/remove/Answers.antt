use Rattle.std.proofs.Common.{subst, sym, ◌∙◌, ap}
use Rattle.std.specs.Map.{lookup, remove_entry}
use Rattle.std.specs.Str.{bytes_eq}
use Rattle.irtext_context.specs.Dictionary.{IsSound, whole, moved_up}
use Rattle.irtext_context.proofs.Dictionaries
use Rattle.irtext_context.proofs.Spliced
use Rattle.irtext_context.proofs.base.attributes.AttributeDict.remove.Goals as goal

pub returns-then-is_reserved-clause-value : goal.returns-then-is_reserved-clause-value
returns-then-is_reserved-clause-value g c =
    c.take_given.ensures.value
    ∙ Dictionaries.get-hit c.args.key.now c.self.inside.given c.self.inside.others c.self.invariant (sym c.is_reserved.ensures ∙ c.if-is_reserved.true)
    ∙ ap (lookup (bytes_eq c.args.key.now)) c.self.view_is

pub returns-then-is_reserved-clause-entries : goal.returns-then-is_reserved-clause-entries
returns-then-is_reserved-clause-entries g c =
    ap (λ o. whole o c.self.inside.others) c.take_given.ensures.taken
    ∙ Dictionaries.take c.args.key.now c.self.inside.given c.self.inside.others c.self.invariant (sym c.is_reserved.ensures ∙ c.if-is_reserved.true)
    ∙ ap (remove_entry (bytes_eq c.args.key.now)) c.self.view_is

pub returns-in_err-index-clause-value : goal.returns-in_err-index-clause-value
returns-in_err-index-clause-value g c =
    c.from_residual.ensures
    ∙ c.in_err-index.ensures.value
    ∙ sym (Dictionaries.get-miss c.args.key.now c.self.inside.given c.self.inside.others c.self.invariant (sym c.is_reserved.ensures ∙ c.if-is_reserved.false))
    ∙ ap (lookup (bytes_eq c.args.key.now)) c.self.view_is

pub returns-in_err-index-clause-entries : goal.returns-in_err-index-clause-entries
returns-in_err-index-clause-entries g c =
    ap (whole c.self.inside.given) c.in_err-index.ensures.entries
    ∙ Dictionaries.remove-absent c.args.key.now c.self.inside.given c.self.inside.others c.self.invariant (sym c.is_reserved.ensures ∙ c.if-is_reserved.false) (sym c.in_err-index.ensures.value)
    ∙ ap (remove_entry (bytes_eq c.args.key.now)) c.self.view_is

pub invariant_of-self-2 : goal.invariant_of-self-2
invariant_of-self-2 g c =
    rw (c.move_up.ensures, c.in_ok-index.ensures.entries)
    (Dictionaries.remove-sound c.args.key.now c.in_ok-index.index c.self.inside.given c.self.inside.others c.self.invariant
    (Spliced.first_at (bytes_eq c.args.key.now) c.self.inside.others c.in_ok-index.index c.in_ok-index.ensures.index))

pub returns-clause-value : goal.returns-clause-value
returns-clause-value g c =
    c.in_ok-index.ensures.value
    ∙ sym (Dictionaries.get-miss c.args.key.now c.self.inside.given c.self.inside.others c.self.invariant (sym c.is_reserved.ensures ∙ c.if-is_reserved.false))
    ∙ ap (lookup (bytes_eq c.args.key.now)) c.self.view_is

pub returns-clause-entries : goal.returns-clause-entries
returns-clause-entries g c =
    ap (λ o. whole o c.take.new.self) c.move_up.ensures
    ∙ ap (whole (moved_up c.self.inside.given c.in_ok-index.index)) c.in_ok-index.ensures.entries
    ∙ Dictionaries.remove-at c.args.key.now c.in_ok-index.index c.self.inside.given c.self.inside.others c.self.invariant (sym c.is_reserved.ensures ∙ c.if-is_reserved.false)
    (Spliced.first_at (bytes_eq c.args.key.now) c.self.inside.others c.in_ok-index.index c.in_ok-index.ensures.index)
    ∙ ap (remove_entry (bytes_eq c.args.key.now)) c.self.view_is

pub invariant_of-self-in_err-index : goal.invariant_of-self-in_err-index
invariant_of-self-in_err-index g c =
    subst (IsSound c.self.inside.given)
    (sym (c.in_err-index.ensures.entries ∙ Spliced.remove-absent (bytes_eq c.args.key.now) c.self.inside.others (Spliced.absent_from_none (bytes_eq c.args.key.now) c.self.inside.others (sym c.in_err-index.ensures.value))))
    c.self.invariant
