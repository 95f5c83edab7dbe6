-- What is still to be looked through of a location, with one more on top of it.
use Rattle.std.proofs.Common.{◌≡◌, ◌∙◌, ℕ, ◌+◌, ◌<◌, List, [], ◌∷◌, ◌++◌, map, Bor, ap, sym, refl, arith}
use Rattle.irtext_base.specs.declared.location.Source.{Source}
use Rattle.irtext_base.specs.declared.location.sources.Waits.{Waits}
use Rattle.irtext_base.specs.declared.location.Location.{Location}
use Rattle.irtext_base.specs.declared.location.sources.Waits.TheVariants.{Row}
use Rattle.irtext_base.specs.Locations.{LocationView, location_view, in_row, all_noted, row_noted}
use Rattle.irtext_base.specs.Weights.{weight_of, weight_all}
use Rattle.irtext_base.specs.Waits.{wait_noted, left_noted, wait_weight, left_weight}

module _ {A : Type 0} where
  pub noted_first : (found : List Source) (waits : List (Waits A)) (w : Waits A) → left_noted found (waits ++ w ∷ []) ≡ left_noted (wait_noted found w) waits
  noted_first found [] w = refl
  noted_first found (v ∷ waits) w = ap (λ f. wait_noted f v) (noted_first found waits w)

  pub weight_first : (waits : List (Waits A)) (w : Waits A) → left_weight (waits ++ w ∷ []) ≡ left_weight waits + wait_weight w
  weight_first [] w = refl
  weight_first (v ∷ waits) w = omega (arith, weight_first waits w)

  -- one more is put on top of what waits
  pub put : (found : List Source) (waits now : List (Waits A)) (w : Waits A) (l : LocationView A) → now ≡ waits ++ w ∷ [] → wait_noted found w ≡ all_noted found l → left_noted found now ≡ left_noted (all_noted found l) waits
  put found waits now w l e h = ap (left_noted found) e ∙ (noted_first found waits w ∙ ap (λ f. left_noted f waits) h)

  pub put_weight : (waits now : List (Waits A)) (w : Waits A) (n : ℕ) → now ≡ waits ++ w ∷ [] → wait_weight w ≡ n → left_weight now ≡ left_weight waits + n
  put_weight waits now w n e h = omega (arith, ap left_weight e, weight_first waits w, h)

  -- of several in a row the first is looked through, and the others wait
  pub next_noted : (found after : List Source) (waits put now : List (Waits A)) (w next : Waits A) (ls others : Bor (List (Location A))) (first : Location A) → next ≡ Row ls → ls.now ≡ first ∷ others.now → w ≡ Row others → put ≡ waits ++ w ∷ []
      → left_noted after now ≡ left_noted (all_noted found (location_view first)) put → left_noted after now ≡ left_noted (wait_noted found next) waits
  next_noted found after waits put now w next ls others first e f h p n =
      n ∙ (ap (left_noted (all_noted found (location_view first))) p ∙ (noted_first (all_noted found (location_view first)) waits w
      ∙ (ap (λ v. left_noted (wait_noted (all_noted found (location_view first)) v) waits) h
      ∙ (sym (ap (λ all. left_noted (row_noted found (in_row (map location_view all))) waits) f) ∙ sym (ap (λ v. left_noted (wait_noted found v) waits) e)))))

  pub next_less : (waits put now : List (Waits A)) (w next : Waits A) (ls others : Bor (List (Location A))) (first : Location A) → next ≡ Row ls → ls.now ≡ first ∷ others.now → w ≡ Row others → put ≡ waits ++ w ∷ []
      → left_weight now ≡ left_weight put + weight_of first → left_weight now < left_weight waits + wait_weight next
  next_less waits put now w next ls others first e f h p n =
      omega (arith, n, ap left_weight p, weight_first waits w, ap wait_weight h, ap wait_weight e, ap weight_all f)
