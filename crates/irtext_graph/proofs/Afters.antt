-- The object after another among all objects inside an object.
use Rattle.std.proofs.Common.{◌≡◌, ◌≢◌, ◌∙◌, ◌≤◌, ℕ, zero, suc, refl, sym, ap, arith, Option, Some, None, List, [], ◌∷◌, slice_get, length}
use Rattle.irtext_graph.specs.declared.object.Object.{Object}
use Rattle.irtext_graph.specs.declared.objects.Objects.{Objects}
use Rattle.irtext_graph.specs.Nested.{climb, Within}
use Rattle.irtext_graph.specs.Chained.{Among}
use Rattle.irtext_graph.specs.Objects.{up, kids, IsForest, eq_object}
use Rattle.irtext_graph.specs.Preorder.{left, after_inside, onward, slots}
use Rattle.irtext_graph.proofs.Inside.{within_up}
use Rattle.irtext_graph.proofs.Same.{object_tells}
use Rattle.irtext_graph.proofs.Rank.{way_le, no_cycle}
use Rattle.irtext_graph.proofs.Places.{code, counts}
use Rattle.irtext_graph.proofs.Preorders.{from_leaf, from_first, from_next, from_last, rest_end, comes, onward_same}

-- after the end of a list there is no element
pub none_follows : (xs : List Object) (i : ℕ) → length xs ≤ i → slice_get xs i ≡ None
none_follows [] i low = refl
none_follows (x ∷ xs) zero low = absurd (omega (arith, low))
none_follows (x ∷ xs) (suc i) low = none_follows xs i (omega (arith, low))

pub empty_list : (xs : List Object) → length xs ≤ 0 → xs ≡ []
empty_list [] low = refl
empty_list (x ∷ xs) low = absurd (omega (arith, low))

module _ {O B T : Type 0} where
  -- what comes inside o after an object and everything nested in it
  abbrev pub rest : Objects O B T → Object → Object → List Object
  rest x o q = after_inside eq_object (kids x) (up x) (suc (slots x)) o (suc (slots x)) (Some q)

  short : (x : Objects O B T) → IsForest x → (n : ℕ) (q z : Object) → climb (up x) n (Some q) ≡ Some z → n ≤ slots x
  short x s = way_le (up x) (code x) (slots x) (counts x) s.ends

  -- a child of an object inside o is not o
  pub child_not : (x : Objects O B T) (o k c : Object) → IsForest x → Within (up x) o k → up x c ≡ Some k → c ≢ o
  child_not x o k c s w e same =
      let d = s.ends o in
      let f : up x o ≡ Some k = ap (up x) (sym same) ∙ e in
      no_cycle (up x) o w.0 (ap (climb (up x) w.0) f ∙ w.1) d.0 d.0 (omega arith) d.1

  pub child_inside : (x : Objects O B T) (o k c : Object) → Within (up x) o k → up x c ≡ Some k → Within (up x) o c
  child_inside x o k c w e = within_up (up x) o c k e w

  pub leaf_left : (x : Objects O B T) (o q : Object) → IsForest x → kids x q ≡ [] → left x o (Some q) ≡ q ∷ rest x o q
  leaf_left x o q s e = from_leaf eq_object object_tells s o (slots x) (short x s) q e

  pub first_left : (x : Objects O B T) (o q c : Object) → IsForest x → Within (up x) o q → slice_get (kids x q) 0 ≡ Some c → left x o (Some q) ≡ q ∷ left x o (Some c)
  first_left x o q c s w e = from_first eq_object object_tells s o (slots x) (short x s) q c e (child_not x o q c s w (s.down q 0 c e))

  pub next_rest : (x : Objects O B T) (o q k d : Object) (i : ℕ) → IsForest x → q ≢ o → Within (up x) o k → slice_get (kids x k) i ≡ Some q → slice_get (kids x k) (suc i) ≡ Some d → rest x o q ≡ left x o (Some d)
  next_rest x o q k d i s n w e f = from_next eq_object object_tells s o (slots x) (short x s) q k d i n (child_not x o k d s w (s.down k (suc i) d f)) e f

  pub last_rest : (x : Objects O B T) (o q k : Object) (i : ℕ) → IsForest x → q ≢ o → slice_get (kids x k) i ≡ Some q → slice_get (kids x k) (suc i) ≡ None → rest x o q ≡ rest x o k
  last_rest x o q k i s n e f = from_last eq_object object_tells s o (slots x) (short x s) q k i n e f

  pub end_rest : (x : Objects O B T) (o : Object) → IsForest x → rest x o o ≡ []
  end_rest x o s = rest_end eq_object object_tells s o (slots x) (short x s)

  -- from o on, all inside o comes
  pub all_left : (x : Objects O B T) (o q : Object) → IsForest x → Within (up x) o q → Among q (left x o (Some o))
  all_left x o q s w = comes eq_object object_tells s o (slots x) (short x s) q w

  -- in the same forest of as many places the same comes
  pub same_left : (x y : Objects O B T) (o : Object) (q : Option Object) → ((p : Object) → kids y p ≡ kids x p) → ((p : Object) → up y p ≡ up x p) → slots y ≡ slots x → left y o q ≡ left x o q
  same_left x y o q same_kids same_up n =
      ap (λ (m : ℕ). onward eq_object (kids y) (up y) (suc m) o q) n ∙ onward_same eq_object (kids x) (kids y) (up x) (up y) same_kids same_up (suc (slots x)) o q
