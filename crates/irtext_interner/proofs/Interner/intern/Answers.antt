use Rattle.std.proofs.Common.{subst}
use Rattle.irtext_interner.specs.Interned.{texts_of, KeepsTexts}
use Rattle.irtext_interner.proofs.Numbers.{named_after, within_after, stays_after, distinct_after}
use Rattle.irtext_interner.proofs.Interner.intern.Goals as goal

pub invariant_of-self : goal.invariant_of-self
invariant_of-self c =
    distinct_after (texts_of c.self.inside.texts) (texts_of c.keep.new.texts) c.args.text.now c.keep.result c.keep.ensures.kept c.keep.ensures.err c.self.invariant

pub returns-clause-named : goal.returns-clause-named
returns-clause-named c =
    named_after (texts_of c.self.inside.texts) (texts_of c.keep.new.texts) c.args.text.now c.keep.result c.keep.ensures.number c.keep.ensures.kept

pub returns-clause-stays : goal.returns-clause-stays
returns-clause-stays c =
    subst (λ z. KeepsTexts z (texts_of c.keep.new.texts)) c.self.view_is
    (stays_after (texts_of c.self.inside.texts) (texts_of c.keep.new.texts) c.args.text.now c.keep.result c.keep.ensures.kept c.keep.ensures.err)

pub returns-clause-distinct : goal.returns-clause-distinct
returns-clause-distinct c =
    distinct_after (texts_of c.self.inside.texts) (texts_of c.keep.new.texts) c.args.text.now c.keep.result c.keep.ensures.kept c.keep.ensures.err c.self.invariant

pub returns-clause-within : goal.returns-clause-within
returns-clause-within c =
    let old = texts_of c.self.inside.texts in
    let new = texts_of c.keep.new.texts in
    within_after old new c.args.text.now c.keep.result (named_after old new c.args.text.now c.keep.result c.keep.ensures.number c.keep.ensures.kept)
