use Rattle.std.proofs.Common.{◌≡◌, ◌∙◌, refl, sym, ap, subst, arith, inl, inr, Some}
use Rattle.irtext_graph.specs.Nested.{Within}
use Rattle.irtext_graph.specs.Objects.{up, Lives}
use Rattle.irtext_graph.specs.Uses.{use_at, val, prv, nxt, next_of}
use Rattle.irtext_graph.specs.Erasing.{user}
use Rattle.irtext_graph.proofs.Linked.{there}
use Rattle.irtext_graph.proofs.Chains.{Path}
use Rattle.irtext_graph.proofs.Sites.{to_end, nearer, user_lives, list_of, stepped, first_used, none_rest}
use Rattle.irtext_graph.proofs.objects.Objects.is_used_inside.Goals as goal

pub loop-at-init : goal.loop-at-init
loop-at-init g c =
    let k = list_of c.args.self.now c.args.d c.requires.linked c.site-at.result (c.head_of.ensures ∙ ap Some (sym c.site-at.ensures.value)) in
    record { rest = k.0; path = k.1; looked = λ u e. inr (k.2 u e) }

pub is_inside-requires-clause-lives : goal.is_inside-requires-clause-lives
is_inside-requires-clause-lives g c =
    let i = c.loop-at.invariant in
    let used = first_used c.args.self.now c.args.d c.loop-at.at c.in-Some.u i.rest i.path c.in-Some.is in
    subst (Lives c.args.self.now) (sym c.user_of.ensures) (user_lives c.args.self.now c.in-Some.u (there _ _ used))

pub use_of-requires : goal.use_of-requires
use_of-requires g c = let i = c.loop-at.invariant in there _ _ (first_used c.args.self.now c.args.d c.loop-at.at c.in-Some.u i.rest i.path c.in-Some.is)

pub loop-at-smaller : goal.loop-at-smaller
loop-at-smaller g c =
    let x = c.args.self.now in
    let n = nearer x c.in-Some.u c.requires.linked c.requires.used in
    let a : to_end x c.loop-at.at ≡ to_end x (Some c.in-Some.u) = ap (to_end x) c.in-Some.is in
    let b : to_end x c.site-at-in-Some.result ≡ to_end x (next_of (use_at x c.in-Some.u)) = ap (to_end x) (c.site-at-in-Some.ensures.value ∙ ap next_of (sym c.use_of.ensures)) in
    omega (arith, n, a, b)

pub loop-at-preserved : goal.loop-at-preserved
loop-at-preserved g c =
    let x = c.args.self.now in
    let u = c.in-Some.u in
    let i = c.loop-at.invariant in
    let k = stepped x c.args.d c.loop-at.at u i.rest i.path c.in-Some.is in
    let here : Within (up x) c.args.o (user u) = subst (Within (up x) c.args.o) c.user_of.ensures (c.is_inside.ensures.0 c.if-not-is_inside.false) in
    record {
      rest = k.0;
      path = subst (λ z. Path (val x) (prv x) (nxt x) c.args.d z k.0) (ap next_of c.use_of.ensures ∙ sym c.site-at-in-Some.ensures.value) k.1;
      looked = λ w e. elim (i.looked w e) [
        | inl inside ↦ inl inside
        | inr m ↦ elim (k.2 w m) [ inl same ↦ inl (subst (λ z. Within (up x) c.args.o (user z)) (sym same) here) | inr later ↦ inr later ]
      ];
    }

pub returns-then-not-is_inside : goal.returns-then-not-is_inside
returns-then-not-is_inside g c =
    let x = c.args.self.now in
    let i = c.loop-at.invariant in
    let used = first_used x c.args.d c.loop-at.at c.in-Some.u i.rest i.path c.in-Some.is in
    (λ t. absurd (cc), λ w. absurd (let yes = c.is_inside.ensures.1 (subst (Within (up x) c.args.o) (sym c.user_of.ensures) (w.uses c.in-Some.u used)) in let no = c.if-not-is_inside.true in cc))

pub returns : goal.returns
returns g c =
    let x = c.args.self.now in
    let i = c.loop-at.invariant in
    (λ _. record { uses = λ u e. elim (i.looked u e) [ inl inside ↦ inside | inr m ↦ absurd (none_rest x c.args.d c.loop-at.at i.rest i.path c.in_default.is u m) ] }, λ _. refl)
