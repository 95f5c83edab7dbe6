use Rattle.std.proofs.Common.{◌≡◌, ◌≢◌, ◌+◌, ◌++◌, ◌∷◌, ◌∙◌, ℕ, zero, suc, refl, sym, ap, arith, List, [], None, Some, map, length, slice_get}
use Rattle.irtext_graph.specs.declared.objects.Definition.{Definition}
use Rattle.irtext_graph.specs.declared.object.Site.{Site}
use Rattle.irtext_graph.specs.Content.{Typed, typed}
use Rattle.irtext_graph.specs.Graph.{numbered}
use Rattle.irtext_graph.specs.Uses.{first_of}
use Rattle.irtext_graph.proofs.making.many_definitions.Goals as goal

appended : {T : Type 0} (ds : List (Definition T)) (d : Definition T) (ys : List (Typed T)) → map typed (ds ++ d ∷ []) ++ ys ≡ map typed ds ++ typed d ∷ ys
appended [] d ys = refl
appended (x ∷ ds) d ys = ap (λ zs. typed x ∷ zs) (appended ds d ys)

unused_on : {T : Type 0} (ds : List (Definition T)) (d : Definition T) → d.first ≡ None → ((i : ℕ) (u : Site) → first_of (slice_get ds i) ≢ Some (Some u)) → (i : ℕ) (u : Site) → first_of (slice_get (ds ++ d ∷ []) i) ≢ Some (Some u)
unused_on [] d n h zero u e = cc
unused_on [] d n h (suc i) u e = cc
unused_on (x ∷ ds) d n h zero u e = h zero u e
unused_on (x ∷ ds) d n h (suc i) u e = unused_on ds d n (λ j v. h (suc j) v) i u e

nothing_left : {T : Type 0} (ds : List (Definition T)) → map typed ds ++ [] ≡ map typed ds
nothing_left [] = refl
nothing_left (d ∷ ds) = ap (λ zs. typed d ∷ zs) (nothing_left ds)

all_left : {T : Type 0} (ds : List (Definition T)) (n : ℕ) (ts : List T) (all : List (Typed T)) → length ts ≡ 0 → map typed ds ++ numbered n ts ≡ all → map typed ds ≡ all
all_left ds n [] all e same = sym (nothing_left ds) ∙ same
all_left ds n (t ∷ ts) all e same = absurd (cc)

pub loop-of_type-preserved : goal.loop-of_type-preserved
loop-of_type-preserved g c =
    let inv = c.loop-of_type.invariant in
    let n = c.loop-of_type.number in
    let left = c.next.new.self.rest.items in
    let ds = c.loop-of_type.defined.items in
    let d : Definition _ = record { of_type = c.in-Some.of_type; number = n; first = None } in
    let steps = c.in-Some.ensures.steps.0 in
    let e = c.in_ok-push.ensures.items ∙ ap (λ x. ds ++ x ∷ []) c.definition.ensures in
    let count = ap length steps in
    record {
      values = ap (λ xs. map typed xs ++ numbered (n + 1) left) e ∙ appended ds d (numbered (n + 1) left) ∙ ap (λ ts. map typed ds ++ numbered n ts) (sym steps) ∙ inv.values;
      unused = λ i u f. unused_on ds d refl inv.unused i u (ap (λ xs. first_of (slice_get xs i)) (sym e) ∙ f);
      room = let r = inv.room in omega (arith, r, count);
    }

pub returns : goal.returns
returns g c =
    let inv = c.loop-of_type.invariant in
    let rest = c.loop-of_type.of_type-iterator.rest in
    record {
      values = all_left c.loop-of_type.defined.items c.loop-of_type.number rest.items _ (omega (arith, c.in-None.ensures.steps.0, rest.ok.0)) inv.values;
      unused = inv.unused;
    }
