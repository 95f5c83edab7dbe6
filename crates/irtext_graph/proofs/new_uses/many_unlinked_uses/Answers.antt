use Rattle.std.proofs.Common.{◌≡◌, ◌<◌, ◌+◌, ◌++◌, ◌∷◌, ◌∙◌, ℕ, ap, sym, List, [], map, take, length, get_or}
use Rattle.std.proofs.lemmas.List.{take_all, take_more, map-append}
use Rattle.irtext_graph.specs.Linking.{unlinked}
use Rattle.irtext_graph.proofs.new_uses.many_unlinked_uses.Goals as goal

one_more : {X Y : Type 0} (f : X → Y) (xs : List X) (i : ℕ) (d : X) (ys new : List Y) (y : Y) → new ≡ ys ++ y ∷ [] → ys ≡ map f (take i xs) → y ≡ f d → d ≡ get_or xs i d → i < length xs
    → new ≡ map f (take (i + 1) xs)
one_more f xs i d ys new y n m e r low =
    n ∙ ap (λ zs. zs ++ y ∷ []) m ∙ ap (λ v. map f (take i xs) ++ v ∷ []) e
    ∙ sym (ap (λ zs. map f zs) (take_more xs i d low ∙ ap (λ v. take i xs ++ v ∷ []) (sym r)) ∙ map-append f (take i xs) (d ∷ []))

pub loop-def-preserved : goal.loop-def-preserved
loop-def-preserved g c =
    record { made = one_more unlinked c.args.defs.now c.loop-def.def-index c.def-item.result c.loop-def.uses.items c.push.new.items.items c.unlinked_use.result c.in_ok-push.ensures.items c.loop-def.invariant.made c.unlinked_use.ensures c.def-item.is c.loop-def-test.true }

pub returns : goal.returns
returns g c = c.loop-def.invariant.made ∙ ap (λ ds. map unlinked ds) (take_all c.loop-def.def-index c.args.defs.now c.loop-def-test.false)
