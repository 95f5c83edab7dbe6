use Rattle.std.proofs.Common.{◌≡◌, ◌∙◌, sym, ap, refl, subst, Some, None, IsSome, IfSome}
use Rattle.irtext_graph.specs.Near.{IsNear}
use Rattle.irtext_graph.specs.Uses.{val, prv, nxt, prev_of, next_of}
use Rattle.irtext_graph.proofs.Linked.{used_def, there}
use Rattle.irtext_graph.proofs.objects.Objects.stored.Goals as goal

pub use_of-requires : goal.use_of-requires
use_of-requires g c =
    let read = c.use_of-o.ensures in
    let used : val c.args.self.now c.args.u ≡ Some c.use_of-o.result.def = used_def _ _ read c.requires.used in
    let prev : prv c.args.self.now c.args.u ≡ Some c.in-Some.w = ap prev_of read ∙ sym c.site.ensures.value ∙ c.in-Some.is in
    let k = c.requires.linked.prev_ok c.args.u c.in-Some.w c.use_of-o.result.def used prev in
    there _ _ k.0

pub head_of-requires : goal.head_of-requires
head_of-requires g c =
    let read = c.use_of-o.ensures in
    let used : val c.args.self.now c.args.u ≡ Some c.use_of-o.result.def = used_def _ _ read c.requires.used in
    let st = c.requires.linked.alive c.args.u c.use_of-o.result.def used in
    rw st.1 refl

pub returns-in-Some-clause-value : goal.returns-in-Some-clause-value
returns-in-Some-clause-value g c =
    let read = c.use_of-o.ensures in
    let used : val c.args.self.now c.args.u ≡ Some c.use_of-o.result.def = used_def _ _ read c.requires.used in
    let prev : prv c.args.self.now c.args.u ≡ Some c.in-Some.w = ap prev_of read ∙ sym c.site.ensures.value ∙ c.in-Some.is in
    let k = c.requires.linked.prev_ok c.args.u c.in-Some.w c.use_of-o.result.def used prev in
    c.site-in-Some.ensures.value ∙ sym (ap next_of c.use_of.ensures) ∙ k.1

pub returns-in-None-clause-value : goal.returns-in-None-clause-value
returns-in-None-clause-value g c =
    let read = c.use_of-o.ensures in
    let used : val c.args.self.now c.args.u ≡ Some c.use_of-o.result.def = used_def _ _ read c.requires.used in
    let prev : prv c.args.self.now c.args.u ≡ None = ap prev_of read ∙ sym c.site.ensures.value ∙ c.in-None.is in
    let k = c.requires.linked.first_ok c.args.u c.use_of-o.result.def used prev in
    let h = sym c.head_of.ensures ∙ k in
    c.site-in-None.ensures.value ∙ (let e : c.head_of.result ≡ Some c.args.u = cc in e)

pub returns-in-Some-clause-near : goal.returns-in-Some-clause-near
returns-in-Some-clause-near g c = subst (λ s. IfSome s IsNear) (returns-in-Some-clause-value g c) c.site-in-Some.ensures.near

pub returns-in-None-clause-near : goal.returns-in-None-clause-near
returns-in-None-clause-near g c = subst (λ s. IfSome s IsNear) (returns-in-None-clause-value g c) c.site-in-None.ensures.near
