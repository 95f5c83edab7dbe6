-- The places that wait after a row of heads, and the trees in a row.
use Rattle.std.specs.Prelude.{◌≡◌, ℕ, zero, suc, Bool, true, false, ◌+◌, cond, Option, Some, None, List, [], ◌∷◌, length}
use Rattle.irtext_tree.specs.Growths.{Growth, waiting, fills}
use Rattle.irtext_tree.specs.declared.waits.Waits.{Waits}
use Rattle.irtext_tree.specs.declared.waits.Waits.TheVariants as waits

-- ---- a tree that is being built
-- the places that wait after these heads, if each of the heads came at the place that waited next
abbrev pub open_after : {S H : Type 0} → Growth S H → List S → List H → Option (List S)
open_after g left [] = Some left
open_after g [] (h ∷ hs) = None
open_after g (s ∷ left) (h ∷ hs) = cond (g.same s (g.place h)) (open_after g (waiting (g.waits h) left) hs) None

-- the places that wait after the first heads of a tree
abbrev pub open_places : {S H : Type 0} → Growth S H → List H → Option (List S)
open_places g hs = open_after g (g.start ∷ []) hs

-- the place that waits next
abbrev pub next_place : {S : Type 0} → Option (List S) → Option S
next_place None = None
next_place (Some []) = None
next_place (Some (s ∷ left)) = Some s

-- the head can come at the place that waits next
abbrev pub can_come : {S H : Type 0} → Growth S H → H → Option (List S) → Bool
can_come g h None = false
can_come g h (Some []) = false
can_come g h (Some (s ∷ left)) = g.same s (g.place h)

-- the places that wait once a tree has come at the next one
abbrev pub after_tree : {S : Type 0} → Option (List S) → Option (List S)
after_tree None = None
after_tree (Some []) = None
after_tree (Some (s ∷ left)) = Some left

-- the places that wait once the head has come at the next one
abbrev pub after_head : {S H : Type 0} → Growth S H → H → Option (List S) → Option (List S)
after_head g h None = None
after_head g h (Some []) = None
after_head g h (Some (s ∷ left)) = Some (waiting (g.waits h) left)

-- ---- the trees that a tree holds
-- how many places wait after a head
abbrev pub count : {S : Type 0} → Waits S → ℕ
count waits.Nothing = 0
count (waits.One s) = 1
count (waits.Two s t) = 2

-- the heads that fill so many places
abbrev pub front_of : {S H : Type 0} → Growth S H → ℕ → List H → List H
front_of g zero hs = []
front_of g (suc n) [] = []
front_of g (suc n) (h ∷ hs) = h ∷ front_of g (n + count (g.waits h)) hs

-- the heads after those
abbrev pub after_front : {S H : Type 0} → Growth S H → ℕ → List H → List H
after_front g zero hs = hs
after_front g (suc n) [] = []
after_front g (suc n) (h ∷ hs) = after_front g (n + count (g.waits h)) hs

-- the trees in a row, up to n of them: each head at which a tree can begin begins one, with the heads that fill the places after it, and the
-- others, as `, ` and `>`, are between them
abbrev pub trees_in : {S H : Type 0} → Growth S H → ℕ → List H → List (List H)
trees_in g zero hs = []
trees_in g (suc n) [] = []
trees_in g (suc n) (h ∷ hs) = cond (g.same g.start (g.place h)) ((h ∷ front_of g (count (g.waits h)) hs) ∷ trees_in g n (after_front g (count (g.waits h)) hs)) (trees_in g n hs)

-- the trees that a tree holds, from the heads after its first
abbrev pub children_in : {S H : Type 0} → Growth S H → List H → List (List H)
children_in g hs = trees_in g (length hs) hs

-- the heads fill some places
abbrev pub Filled : {S H : Type 0} → Growth S H → List H → Type 0
Filled {S} g hs = (left : List S) × (fills g left hs ≡ true)

-- so many places can be filled by the first heads
abbrev pub enough : {S H : Type 0} → Growth S H → ℕ → List H → Bool
enough g zero hs = true
enough g (suc n) [] = false
enough g (suc n) (h ∷ hs) = enough g (n + count (g.waits h)) hs

-- no head comes before the first tree
abbrev pub at_tree : {S H : Type 0} → Growth S H → List H → Bool
at_tree g [] = true
at_tree g (h ∷ hs) = g.same g.start (g.place h)
