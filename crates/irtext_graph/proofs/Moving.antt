-- An object leaves its parent and becomes a child of another.
use Rattle.std.proofs.Common.{◌≡◌, ◌≢◌, ◌≤◌, ◌∷◌, ◌∙◌, ◌⊎◌, inl, inr, ℕ, zero, suc, refl, sym, ap, arith, Bool, true, false, cond, List, [], Option, Some, None, length, slice_get, Result, Ok, Err, OnOk, OnErr}
use Rattle.std.specs.List.{insert, remove}
use Rattle.irtext_graph.specs.declared.graph.Counters.{Counters}
use Rattle.irtext_graph.specs.declared.object.Object.{Object}
use Rattle.irtext_graph.specs.declared.objects.Objects.{Objects}
use Rattle.irtext_graph.specs.Edits.{without, Inserts, MovesIn, Moves}
use Rattle.irtext_graph.specs.Graph.{GraphView, graph_of, parent, children, content, IsNew, KeepsOlder}
use Rattle.irtext_graph.specs.Nested.{Nested, Within}
use Rattle.irtext_graph.specs.Objects.{up, kids, what, SameAt, IsForest, CanInsert, Renumbers, eq_object, is_older}
use Rattle.irtext_graph.specs.Objects as objects
use Rattle.irtext_graph.proofs.Frames.{framed_keeps}
use Rattle.irtext_graph.proofs.Inserting.{still_within}
use Rattle.irtext_graph.proofs.Made.{same_keeps}
use Rattle.irtext_graph.proofs.Nests.{same_or_other, seen, some_eq}
use Rattle.irtext_graph.proofs.Once.{gives_rest}
use Rattle.irtext_graph.proofs.Same.{object_tells}
use Rattle.irtext_graph.proofs.Unlinked.{inside_was}
use Rattle.irtext_graph.proofs.Views.{up_seen, kids_seen, keeps_seen}

-- ---- lists

apart_false : (x c : Object) → x ≢ c → eq_object x c ≡ false
apart_false x c ne = go (eq_object x c) refl
  where
    go : (b : Bool) → eq_object x c ≡ b → b ≡ false
    go true e = absurd (ne (object_tells.sound x c e))
    go false e = refl

-- a list without c is unchanged
pub without_absent : (c : Object) (xs : List Object) → ((j : ℕ) → slice_get xs j ≡ Some c → ⊥) → without c xs ≡ xs
without_absent c [] none = refl
without_absent c (x ∷ xs) none =
    let here : eq_object x c ≡ false = apart_false x c (λ e. none 0 (ap Some e)) in
    ap (λ b. cond b (without c xs) (x ∷ without c xs)) here ∙ ap (λ ys. x ∷ ys) (without_absent c xs (λ j e. none (suc j) e))

-- from a list with c once, it is removed
pub without_once : (c : Object) (xs : List Object) (i : ℕ) → slice_get xs i ≡ Some c → ((j : ℕ) → slice_get xs j ≡ Some c → i ≡ j) → without c xs ≡ remove xs i
without_once c [] i at once = absurd (cc)
without_once c (x ∷ xs) zero at once =
    let same : x ≡ c = some_eq at in
    let here : eq_object x c ≡ true = ap (λ y. eq_object y c) same ∙ object_tells.same c in
    ap (λ b. cond b (without c xs) (x ∷ without c xs)) here ∙ without_absent c xs (λ j e. let k = once (suc j) e in omega (arith, k))
without_once c (x ∷ xs) (suc i) at once =
    let here : eq_object x c ≡ false = apart_false x c (λ e. let k = once 0 (ap Some e) in omega (arith, k)) in
    ap (λ b. cond b (without c xs) (x ∷ without c xs)) here ∙ ap (λ ys. x ∷ ys) (without_once c xs i at (λ j e. let k = once (suc j) e in omega (arith, k)))

-- ---- objects

module _ {O B T : Type 0} where
  -- after c was removed from its parent, each object has its other children
  pub unlinked_kids : (x y : Objects O B T) (c : Object) → IsForest x → ((q : Object) → up x c ≢ Some q → kids y q ≡ kids x q)
      → ((k : Object) (i : ℕ) → up x c ≡ Some k → slice_get (kids x k) i ≡ Some c → kids y k ≡ remove (kids x k) i) → (q : Object) → kids y q ≡ without c (kids x q)
  unlinked_kids x y c s others left q = elim (seen (up x c)) [
    | inl none ↦ others q (λ e. let f = none in cc) ∙ sym (without_absent c (kids x q) (λ j e. let f = s.down q j c e in let g = none in cc))
    | inr (k, at) ↦ elim (same_or_other object_tells q k) [
      | inl e ↦
          let m = s.listed c k at in
          let one : kids y k ≡ without c (kids x k) = left k m.0 at m.1 ∙ sym (without_once c (kids x k) m.0 m.1 (λ j f. s.once k m.0 j c m.1 f)) in
          ap (kids y) e ∙ one ∙ sym (ap (λ p. without c (kids x p)) e)
      | inr away ↦ others q (λ e. away (some_eq (sym e ∙ at))) ∙ sym (without_absent c (kids x q) (λ j e. away (some_eq (sym (s.down q j c e) ∙ at))))
    ]
  ]

  -- all unchanged, then c removed from its parent, then c inserted
  module _ (w x y : Objects O B T) (k c : Object) (i : ℕ) (s : IsForest w) (h : Renumbers w x) (free : up y c ≡ None) (ups : (q : Object) → q ≢ c → up y q ≡ up x q)
      (gone : (q : Object) → kids y q ≡ without c (kids x q)) (whats : (q : Object) → what y q ≡ what x q) where
    pub moved_can : IsForest x → (Within (up w) c k → ⊥) → CanInsert y k c
    moved_can f apart = record { free = free; apart = λ v. apart (still_within w x c k h (inside_was x y y c f free ups k v)) }

    pub moved_within : i ≤ length (without c (kids w k)) → i ≤ length (kids y k)
    moved_within l = let e : length (kids y k) ≡ length (without c (kids w k)) = ap length (gone k ∙ ap (without c) (h.at k).same_kids) in omega (arith, e, l)

    pub moves_in : (z : Objects O B T) → Inserts y z k i c → MovesIn w z k i c
    moves_in z a = record {
      here = a.here ∙ ap (λ xs. insert xs i c) (gone k ∙ ap (without c) (h.at k).same_kids);
      others = λ q n. a.others q n ∙ gone q ∙ ap (without c) (h.at q).same_kids;
      up_here = a.up_here;
      ups = λ q n. a.ups q n ∙ ups q n ∙ (h.at q).same_up;
      whats = λ q. a.whats q ∙ whats q ∙ (h.at q).same_what;
    }

-- ---- what is seen

module _ {O B T : Type 0} where
  pub moves_what : (x y : Objects O B T) (k c : Object) (i : ℕ) {E : Type 0} (r : Result (Unit {0}) E) → OnOk r (MovesIn x y k i c) → OnErr r ((q : Object) → SameAt x y q) → (q : Object) → what y q ≡ what x q
  moves_what x y k c i (Ok u) a s q = a.whats q
  moves_what x y k c i (Err e) a s q = (s q).same_what

  pub moves_seen : (m : ℕ) (v : Counters) (x y : Objects O B T) (k c : Object) (i : ℕ) {E : Type 0} (r : Result (Unit {0}) E) → objects.SamePlaces x y → OnOk r (MovesIn x y k i c) → OnOk r (Moves (graph_of m v x) (graph_of m v y) k i c)
  moves_seen m v x y k c i (Err e) p a = a
  moves_seen m v x y k c i (Ok u) p a = record {
    here = kids_seen m v y k ∙ a.here ∙ ap (λ xs. insert (without c xs) i c) (sym (kids_seen m v x k));
    others = λ o ne. kids_seen m v y o ∙ a.others o ne ∙ ap (without c) (sym (kids_seen m v x o));
    parent_here = up_seen m v y c ∙ a.up_here;
    parents = λ o ne. up_seen m v y o ∙ a.ups o ne ∙ sym (up_seen m v x o);
    objects = keeps_seen m v x y a.whats p;
  }

  pub moves_keeps : (n : ℕ) (g h : GraphView O B T) (k c : Object) (i : ℕ) → Nested (children g) (parent g) → IsNew n g k → IsNew n g c → ((p : Object) → parent g c ≡ Some p → IsNew n g p)
      → {E : Type 0} (r : Result (Unit {0}) E) → OnOk r (Moves g h k i c) → OnErr r (h ≡ g) → KeepsOlder n g h
  moves_keeps n g h k c i s nk nc np (Err e) a same = same_keeps n g h same
  moves_keeps n g h k c i s nk nc np (Ok u) a same = framed_keeps n g h (record { contents = a.objects.contents; same = kept }) (let e = a.objects.rest.made in omega (arith, e)) (let e = a.objects.rest.values in omega (arith, e)) a.objects.rest.first_place (gives_rest g h a.objects.rest (λ q e. a.objects.contents q ∙ e))
    where
      -- what is not the parent of c has no c
      absent : (q : Object) → parent g c ≢ Some q → without c (children g q) ≡ children g q
      absent q ne = without_absent c (children g q) (λ j e. ne (s.down q j c e))

      kept : (q : Object) → (IsNew n g q) ⊎ ((parent h q ≡ parent g q) × (children h q ≡ children g q))
      kept q = elim (same_or_other object_tells q k) [
        | inl e ↦ inl (ap (λ q. is_older n (content g q)) e ∙ nk)
        | inr away ↦ elim (same_or_other object_tells q c) [
          | inl e ↦ inl (ap (λ q. is_older n (content g q)) e ∙ nc)
          | inr apart ↦ elim (seen (parent g c)) [
            | inl none ↦ inr (a.parents q apart, a.others q away ∙ absent q (λ e. let f = none in cc))
            | inr (p, at) ↦ elim (same_or_other object_tells q p) [
              | inl e ↦ inl (ap (λ q. is_older n (content g q)) e ∙ np p at)
              | inr other ↦ inr (a.parents q apart, a.others q away ∙ absent q (λ e. other (some_eq (sym e ∙ at))))
            ]
          ]
        ]
      ]
