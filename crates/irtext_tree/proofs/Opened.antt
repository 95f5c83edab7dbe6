-- The places that wait after a row of heads to which more are added.
use Rattle.std.proofs.Common.{◌≡◌, Bool, true, false, cond, Option, Some, None, List, [], ◌∷◌, ◌++◌, refl, sym, ◌∙◌, ap, true≢false}
use Rattle.std.specs.Prelude.{◌&&◌}
use Rattle.irtext_base.proofs.Characters.{and_left, and_right}
use Rattle.irtext_tree.specs.Growths.{Growth, waiting, fills, is_tree}
use Rattle.irtext_tree.specs.Rows.{open_after, open_places, next_place, can_come, after_tree, after_head}
use Rattle.irtext_tree.specs.declared.waits.Waits.{Waits}
use Rattle.irtext_tree.specs.declared.waits.Waits.TheVariants as waits

-- what waits before those that were waiting already
waiting_more : {S : Type 0} (w : Waits S) (left more : List S) → waiting w left ++ more ≡ waiting w (left ++ more)
waiting_more waits.Nothing left more = refl
waiting_more (waits.One s) left more = refl
waiting_more (waits.Two s t) left more = refl

module _ {S H : Type 0} (g : Growth S H) where
  -- the heads of a row, and then others
  abbrev then : Option (List S) → List H → Option (List S)
  then None more = None
  then (Some left) more = open_after g left more

  opens_by : (b : Bool) (o : Option (List S)) (more : List H) (p : Option (List S)) → then o more ≡ p → then (cond b o None) more ≡ cond b p None
  opens_by true o more p e = e
  opens_by false o more p e = refl

  opens_more : (left : List S) (hs more : List H) → open_after g left (hs ++ more) ≡ then (open_after g left hs) more
  opens_more left [] more = refl
  opens_more [] (h ∷ hs) more = refl
  opens_more (s ∷ left) (h ∷ hs) more =
      let on = waiting (g.waits h) left in
      sym (opens_by (g.same s (g.place h)) (open_after g on hs) more (open_after g on (hs ++ more)) (sym (opens_more on hs more)))

  -- heads that fill some places leave those after them
  opens_after : (left more : List S) (hs : List H) → fills g left hs ≡ true → open_after g (left ++ more) hs ≡ Some more
  opens_after [] more [] e = refl
  opens_after [] more (h ∷ hs) e = absurd (true≢false (sym e))
  opens_after (s ∷ left) more [] e = absurd (true≢false (sym e))
  opens_after (s ∷ left) more (h ∷ hs) e =
      let on = waiting (g.waits h) left in
      let here = and_left (g.same s (g.place h)) (fills g on hs) e in
      let there = and_right (g.same s (g.place h)) (fills g on hs) e in
      ap (λ b. cond b (open_after g (waiting (g.waits h) (left ++ more)) hs) None) here
      ∙ (ap (λ z. open_after g z hs) (sym (waiting_more (g.waits h) left more)) ∙ opens_after on more hs there)

  -- where no place is left, they are filled
  opens_fill : (left : List S) (hs : List H) → open_after g left hs ≡ Some [] → fills g left hs ≡ true
  opens_fill [] [] e = refl
  opens_fill [] (h ∷ hs) e = absurd (cc)
  opens_fill (s ∷ left) [] e = absurd (cc)
  opens_fill (s ∷ left) (h ∷ hs) e = by (g.same s (g.place h)) e (λ f. opens_fill (waiting (g.waits h) left) hs f)
    where
      by : (b : Bool) → cond b (open_after g (waiting (g.waits h) left) hs) None ≡ Some [] → (open_after g (waiting (g.waits h) left) hs ≡ Some [] → fills g (waiting (g.waits h) left) hs ≡ true) → (b && fills g (waiting (g.waits h) left) hs) ≡ true
      by true e f = f e
      by false e f = absurd (cc)

  -- no place waits after the heads of a tree
  pub open_none : (hs : List H) → open_places g hs ≡ Some [] → is_tree g hs ≡ true
  open_none hs e = opens_fill (g.start ∷ []) hs e

  next_tree : (o : Option (List S)) (ts : List H) → next_place o ≡ Some g.start → is_tree g ts ≡ true → then o ts ≡ after_tree o
  next_tree None ts e f = absurd (cc)
  next_tree (Some []) ts e f = absurd (cc)
  next_tree (Some (s ∷ left)) ts e f =
      let p : s ≡ g.start = cc in
      ap (λ z. open_after g (z ∷ left) ts) p ∙ opens_after (g.start ∷ []) left ts f

  -- a tree at the place that waits next
  pub open_tree : (hs ts all : List H) → all ≡ hs ++ ts → next_place (open_places g hs) ≡ Some g.start → is_tree g ts ≡ true → open_places g all ≡ after_tree (open_places g hs)
  open_tree hs ts all q e f = ap (open_places g) q ∙ (opens_more (g.start ∷ []) hs ts ∙ next_tree (open_places g hs) ts e f)

  next_head : (o : Option (List S)) (h : H) → can_come g h o ≡ true → then o (h ∷ []) ≡ after_head g h o
  next_head None h e = absurd (true≢false (sym e))
  next_head (Some []) h e = absurd (true≢false (sym e))
  next_head (Some (s ∷ left)) h e = ap (λ b. cond b (Some (waiting (g.waits h) left)) None) e

  -- a head at the place that waits next
  pub open_head : (hs : List H) (h : H) (all : List H) → all ≡ hs ++ (h ∷ []) → can_come g h (open_places g hs) ≡ true → open_places g all ≡ after_head g h (open_places g hs)
  open_head hs h all q e = ap (open_places g) q ∙ (opens_more (g.start ∷ []) hs (h ∷ []) ∙ next_head (open_places g hs) h e)
