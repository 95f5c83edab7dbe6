use Rattle.std.proofs.Common.{ℕ, List, Ok, refl}
use Rattle.irtext_base.specs.Stream.{StreamView}
use Rattle.irtext_base.specs.Answers.{Outcome, Gives, unless_failed}
use Rattle.irtext_tokens.specs.Infix.{◌⇒◌}
use Rattle.irtext_tokens.proofs.Steps.{alone, Passed, may_read, begins_with, begun_by, insisted, last_seen}
use Rattle.irtext_syntax.proofs.Restored.{earlier, restored}
use Rattle.irtext_demo.specs.IntegerTypes.{signedness_at, width_at, integer_type_with, integer_type_at}
use Rattle.irtext_demo.specs.declared.integer_type.Signedness.{Signedness}
use Rattle.irtext_demo.specs.declared.integer_type.IntegerType.{IntegerType}
use Rattle.irtext_demo.specs.declared.width.Width.{Width}
use Rattle.irtext_demo.proofs.integer_type.integer_type_there.Goals as goal

-- what is parsed after a sign
abbrev following : Signedness → List ℕ → Outcome IntegerType
following kind = width_at ⇒ integer_type_with kind

-- a sign was parsed
signed : (kind : Signedness) (old mid : StreamView) → Gives (λ s. s) (λ s v. v) (unless_failed old.failed (signedness_at old.rest)) old kind mid → Passed alone integer_type_at (following kind) old mid
signed kind old mid h = begins_with alone {A = Unit {0}} following (may_read alone (λ k. k) signedness_at old mid (Ok kind) h)

-- and then a width
both : (kind : Signedness) (width : Width) (old mid new : StreamView) → Gives (λ s. s) (λ s v. v) (unless_failed old.failed (signedness_at old.rest)) old kind mid
    → Gives (λ s. s) (λ s v. v) (unless_failed mid.failed (width_at mid.rest)) mid width new
    → Gives (λ s. s) (λ s v. v) (unless_failed old.failed (integer_type_at old.rest)) old (integer_type_with kind width) new
both kind width old mid new h k =
    let m = insisted alone {A = Unit {0}} (may_read alone (λ w. w) width_at mid new (Ok width) k) (refl, refl) in
    let p = last_seen alone (λ t. t) (integer_type_with kind) (integer_type_with kind width) refl (signed kind old mid h) m in
    let r = begun_by alone following (may_read alone {A = Unit {0}} (λ k. k) signedness_at old mid (Ok kind) h) p in r.answers

pub returns-in-Some-width_there : goal.returns-in-Some-width_there
returns-in-Some-width_there c = both c.in-Some.kind c.in-Some-width_there.width c.args.stream.now c.sign_there.new.stream c.width_there.new.stream c.in-Some.ensures c.in-Some-width_there.ensures

pub reset-requires : goal.reset-requires
reset-requires c =
    let old = c.args.stream.now in
    let mid = c.sign_there.new.stream in
    let p = signed c.in-Some.kind old mid c.in-Some.ensures in
    rw c.in_default-width_there.ensures (earlier c.position-place.result p.taken mid.rest old mid p.takes c.position-place.ensures)

pub returns : goal.returns
returns c =
    let old = c.args.stream.now in
    let mid = c.sign_there.new.stream in
    let p = signed c.in-Some.kind old mid c.in-Some.ensures in
    let h = rw c.in_default-width_there.ensures at c.reset.ensures in
    restored c.position-place.result p.taken mid.rest old mid p.takes c.position-place.ensures c.reset.new.self h
