-- What each use means in the order of the script is what the scopes bind as they end.
use Rattle.std.proofs.Common.{◌≡◌, Bool, true, false, cond, List, [], ◌∷◌, ◌++◌, refl, sym, ap, ◌∙◌, append_assoc, append-nil}
use Rattle.irtext_base.specs.Format.{same_text}
use Rattle.irtext_grammar.specs.Names.Script.{Place, User, use_value, use_label, done, does, within}
use Rattle.irtext_grammar.specs.Names.Scopes as scopes
use Rattle.irtext_grammar.specs.Names.Scopes.{uses, defines, link, nothing, ◌⊕◌, fact_of, bound_by}
use Rattle.irtext_grammar.specs.Names.TextScopes.{Fact, Facts, Act, Script, lookup, bound_in, outward, facts}
use Rattle.irtext_grammar.proofs.Lists.Sets.{Same, same_refl, same_path, same_then, same_both, same_swap}

abbrev means : List Fact → List Fact → Script → List (User × Place)
means = scopes.bound same_text

-- what facts bind, if the scopes around them are v and l
abbrev pub spread : List Fact → List Fact → Facts → List (User × Place)
spread v l f = bound_in v f.values ++ (bound_in l f.labels ++ f.bound)

record Spreads (xs : List (User × Place)) (v l : List Fact) (f : Facts) : Type 0 where
  so : Same xs (spread v l f)

bound-append : (v f g : List Fact) → bound_in v (f ++ g) ≡ bound_in v f ++ bound_in v g
bound-append v [] g = refl
bound-append v (uses n u ∷ f) g = ap (λ z. link u (lookup n v) ++ z) (bound-append v f g) ∙ sym (append_assoc (link u (lookup n v)) (bound_in v f) (bound_in v g))
bound-append v (defines n p ∷ f) g = bound-append v f g

crossed : {A : Type 0} (a b c d e f : List A) → Same ((a ++ (b ++ c)) ++ (d ++ (e ++ f))) ((a ++ d) ++ ((b ++ e) ++ (c ++ f)))
crossed a b c d e f =
    same_then (same_path _ (a ++ (((b ++ c) ++ d) ++ (e ++ f))) (append_assoc a (b ++ c) (d ++ (e ++ f)) ∙ ap (λ z. a ++ z) (sym (append_assoc (b ++ c) d (e ++ f)))))
    (same_then (same_both (same_refl a) (same_both (same_swap (b ++ c) d) (same_refl (e ++ f))))
    (same_then (same_path (a ++ ((d ++ (b ++ c)) ++ (e ++ f))) ((a ++ d) ++ (b ++ ((c ++ e) ++ f))) (ap (λ z. a ++ z) (append_assoc d (b ++ c) (e ++ f) ∙ ap (λ z. d ++ z) (append_assoc b c (e ++ f) ∙ ap (λ z. b ++ z) (sym (append_assoc c e f)))) ∙ sym (append_assoc a d (b ++ ((c ++ e) ++ f)))))
    (same_then (same_both (same_refl (a ++ d)) (same_both (same_refl b) (same_both (same_swap c e) (same_refl f))))
    (same_path ((a ++ d) ++ (b ++ ((e ++ c) ++ f))) _ (ap (λ z. (a ++ d) ++ z) (ap (λ z. b ++ z) (append_assoc e c f) ∙ sym (append_assoc b e (c ++ f))))))))

both : {xs ys : List (User × Place)} {v l : List Fact} {f g : Facts} → Spreads xs v l f → Spreads ys v l g → Spreads (xs ++ ys) v l (f ⊕ g)
both {xs = xs} {ys = ys} {v = v} {l = l} {f = f} {g = g} p q = record {
  so = same_then (same_both p.so q.so)
      (same_then (crossed (bound_in v f.values) (bound_in l f.labels) f.bound (bound_in v g.values) (bound_in l g.labels) g.bound)
      (same_path _ _ (ap (λ z. z ++ ((bound_in l f.labels ++ bound_in l g.labels) ++ (f.bound ++ g.bound))) (sym (bound-append v f.values g.values)) ∙ ap (λ z. bound_in v (f.values ++ g.values) ++ (z ++ (f.bound ++ g.bound))) (sym (bound-append l f.labels g.labels)))));
}

none : (v l : List Fact) → Spreads [] v l nothing
none v l = record { so = same_refl [] }

act_spread : (v l : List Fact) (a : Act) → Spreads (bound_by same_text v l a) v l (fact_of a)
act_spread v l (use_value w u) = record { so = same_path _ _ (sym (append-nil (link u (lookup w.name v))) ∙ sym (append-nil (link u (lookup w.name v) ++ []))) }
act_spread v l (use_label w u) = record { so = same_path _ _ (sym (append-nil (link u (lookup w.name l))) ∙ sym (append-nil (link u (lookup w.name l) ++ []))) }
act_spread v l _ = record { so = same_refl [] }

region_spread : (xs : List (User × Place)) (v : List Fact) (iso : Bool) (f : Facts) → Spreads xs (cond iso f.values v) f.labels f → (l : List Fact) → Spreads xs v l (outward iso f)
region_spread xs v true f p l = record {
  so = same_then p.so (same_then (same_path (spread f.values f.labels f) ((bound_in f.values f.values ++ bound_in f.labels f.labels) ++ f.bound) (sym (append_assoc (bound_in f.values f.values) (bound_in f.labels f.labels) f.bound)))
      (same_swap (bound_in f.values f.values ++ bound_in f.labels f.labels) f.bound));
}
region_spread xs v false f p l = record { so = same_then p.so (same_both (same_refl (bound_in v f.values)) (same_swap (bound_in f.labels f.labels) f.bound)) }

script_spread : (x : Script) (v l : List Fact) → Spreads (means v l x) v l (facts x)
script_spread done v l = none v l
script_spread (does a k) v l = both (act_spread v l a) (script_spread k v l)
script_spread (within iso a body k) v l =
    let f = facts body in
    both (region_spread (means (cond iso f.values v) f.labels body) v iso f (script_spread body (cond iso f.values v) f.labels) l) (script_spread k v l)

bound-none : (f : List Fact) → bound_in [] f ≡ []
bound-none [] = refl
bound-none (uses n u ∷ f) = bound-none f
bound-none (defines n p ∷ f) = bound-none f

-- what each use means in the order of the script has the members of what the scopes bind
pub bound_same : (x : Script) → Same (means [] [] x) (facts x).bound
bound_same x =
    let f = facts x in
    same_then (script_spread x [] []).so (same_path _ _ (ap (λ z. z ++ (bound_in [] f.labels ++ f.bound)) (bound-none f.values) ∙ ap (λ z. z ++ f.bound) (bound-none f.labels)))
