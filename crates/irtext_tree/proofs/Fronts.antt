-- The trees in a row of heads.
use Rattle.std.proofs.Common.{◌≡◌, ℕ, zero, suc, ◌+◌, ◌≤◌, ◌<◌, true, false, cond, List, [], ◌∷◌, ◌++◌, length, take, drop, Some, refl, sym, ◌∙◌, ap, ap₂, subst, append_assoc, arith, true≢false}
use Rattle.std.specs.Prelude.{◌&&◌, ◌-◌}
use Rattle.std.specs.Iterator.{MakesProgress, item_count}
use Rattle.std.proofs.Math.Bool.{Bool-set}
use Rattle.std.proofs.Math.Logic.{∥∥₁_elim, ∥∥₁_map}
use Rattle.irtext_base.proofs.Characters.{and_left, and_right}
use Rattle.irtext_tree.specs.Growths.{Growth, waiting, fills, is_tree}
use Rattle.irtext_tree.specs.Rows.{count, front_of, after_front, trees_in, children_in, enough, Filled}
use Rattle.irtext_tree.specs.declared.waits.Waits.{Waits}
use Rattle.irtext_tree.specs.declared.waits.Waits.TheVariants as waits

waiting_alone : {S : Type 0} (w : Waits S) (left : List S) → waiting w left ≡ waiting w [] ++ left
waiting_alone waits.Nothing left = refl
waiting_alone (waits.One s) left = refl
waiting_alone (waits.Two s t) left = refl

waiting_more : {S : Type 0} (w : Waits S) (left more : List S) → waiting w (left ++ more) ≡ waiting w left ++ more
waiting_more waits.Nothing left more = refl
waiting_more (waits.One s) left more = refl
waiting_more (waits.Two s t) left more = refl

waiting_length : {S : Type 0} (w : Waits S) (left : List S) → length (waiting w left) ≡ length left + count w
waiting_length waits.Nothing left = omega arith
waiting_length (waits.One s) left = omega arith
waiting_length (waits.Two s t) left = omega arith

waiting_count : {S : Type 0} (w : Waits S) → length (waiting w []) ≡ count w
waiting_count waits.Nothing = refl
waiting_count (waits.One s) = refl
waiting_count (waits.Two s t) = refl

-- an iterator that gave the first item left
pub goes_on : {S A X : Type 0} (can : S → Type 0) → ((s : S) → can s) → (rest : S → List X) (s t : S) (a : A) (x : X) → rest s ≡ x ∷ rest t → MakesProgress can (item_count rest) s (Some a) t
goes_on can always rest s t a x e = record {
  on = λ _. (always t, tt, subst (λ l. length (rest t) < length l) (sym e) (omega arith));
  keeps = always t;
  rests = λ _. tt;
}

module _ {S H : Type 0} (g : Growth S H) where
  -- how far the heads of a tree have been counted: so many places wait after the first k of them
  pub record Cut (n : ℕ) (hs : List H) (wait k : ℕ) : Type 0 where
    pub room : enough g wait (drop k hs) ≡ true
    pub front : take k hs ++ front_of g wait (drop k hs) ≡ front_of g n hs
    pub after : after_front g wait (drop k hs) ≡ after_front g n hs

  enough_fits : (n : ℕ) (hs : List H) → enough g n hs ≡ true → n ≤ length hs
  enough_fits zero hs e = omega arith
  enough_fits (suc n) [] e = absurd (true≢false (sym e))
  enough_fits (suc n) (h ∷ hs) e = let l = enough_fits (n + count (g.waits h)) hs e in omega (arith, l)

  -- no more places wait than there are heads left
  pub cut_fits : {n : ℕ} {hs : List H} {wait k : ℕ} → Cut n hs wait k → wait ≤ length (drop k hs)
  cut_fits {hs = hs} {wait = wait} {k = k} c = enough_fits wait (drop k hs) c.room

  take_one : (k : ℕ) (hs left : List H) (h : H) → drop k hs ≡ h ∷ left → take (suc k) hs ≡ take k hs ++ (h ∷ [])
  take_one zero [] left h e = absurd (cc)
  take_one zero (x ∷ hs) left h e = let p : x ≡ h = cc in ap (λ z. z ∷ []) p
  take_one (suc k) [] left h e = absurd (cc)
  take_one (suc k) (x ∷ hs) left h e = ap (λ z. x ∷ z) (take_one k hs left h e)

  -- one more head
  pub cut_more : {n : ℕ} {hs : List H} {wait k : ℕ} (h : H) (next last : ℕ) → Cut n hs wait k → drop k hs ≡ h ∷ drop last hs → last ≡ suc k → ¬ (wait ≡ 0) → next ≡ (wait - 1) + count (g.waits h) → Cut n hs next last
  cut_more {hs = hs} {wait = zero} h next last c d q o e = absurd (o refl)
  cut_more {n = n} {hs = hs} {wait = suc m} {k = k} h next last c d q o e =
      let f : next ≡ m + count (g.waits h) = omega (arith, e) in
      let room : enough g (suc m) (h ∷ drop last hs) ≡ true = subst (λ z. enough g (suc m) z ≡ true) d c.room in
      let front : take k hs ++ front_of g (suc m) (h ∷ drop last hs) ≡ front_of g n hs = subst (λ z. take k hs ++ front_of g (suc m) z ≡ front_of g n hs) d c.front in
      let after : after_front g (suc m) (h ∷ drop last hs) ≡ after_front g n hs = subst (λ z. after_front g (suc m) z ≡ after_front g n hs) d c.after in
      record {
        room = ap (λ z. enough g z (drop last hs)) f ∙ room;
        front = ap₂ (λ s z. take s hs ++ front_of g z (drop last hs)) q f
            ∙ (ap (λ z. z ++ front_of g (m + count (g.waits h)) (drop last hs)) (take_one k hs (drop last hs) h d)
            ∙ (append_assoc (take k hs) (h ∷ []) (front_of g (m + count (g.waits h)) (drop last hs)) ∙ front));
        after = ap (λ z. after_front g z (drop last hs)) f ∙ after;
      }

  -- the front of a row that fills places fills the first of these, and what comes after it the others
  front_fills : (left more : List S) (hs : List H) (n : ℕ) → n ≡ length left → fills g (left ++ more) hs ≡ true → (fills g left (front_of g n hs) ≡ true) × (fills g more (after_front g n hs) ≡ true) × (enough g n hs ≡ true)
  front_fills [] more hs zero q e = (refl, e, refl)
  front_fills [] more hs (suc n) q e = absurd (omega (arith, q))
  front_fills (s ∷ left) more hs zero q e = absurd (omega (arith, q))
  front_fills (s ∷ left) more [] (suc n) q e = absurd (true≢false (sym e))
  front_fills (s ∷ left) more (h ∷ hs) (suc n) q e =
      let here = and_left (g.same s (g.place h)) (fills g (waiting (g.waits h) (left ++ more)) hs) e in
      let there = and_right (g.same s (g.place h)) (fills g (waiting (g.waits h) (left ++ more)) hs) e in
      let l = waiting_length (g.waits h) left in
      let k = front_fills (waiting (g.waits h) left) more hs (n + count (g.waits h)) (omega (arith, q, l)) (ap (λ z. fills g z hs) (sym (waiting_more (g.waits h) left more)) ∙ there) in
      (ap (λ b. b && fills g (waiting (g.waits h) left) (front_of g (n + count (g.waits h)) hs)) here ∙ k.0, k.1, k.2)

  -- a tree at the beginning of a row
  abbrev Begun : H → List H → Type 0
  Begun h hs = (is_tree g (h ∷ front_of g (count (g.waits h)) hs) ≡ true) × (enough g (count (g.waits h)) hs ≡ true) × Filled g (after_front g (count (g.waits h)) hs)

  begun : (h : H) (hs : List H) → Filled g (h ∷ hs) → g.same g.start (g.place h) ≡ true → Begun h hs
  begun h hs ([], f) e = absurd (true≢false (sym f))
  begun h hs (s ∷ left, f) e =
      let there = and_right (g.same s (g.place h)) (fills g (waiting (g.waits h) left) hs) f in
      let k = front_fills (waiting (g.waits h) []) left hs (count (g.waits h)) (sym (waiting_count (g.waits h))) (ap (λ z. fills g z hs) (sym (waiting_alone (g.waits h) left)) ∙ there) in
      (ap (λ b. b && fills g (waiting (g.waits h) []) (front_of g (count (g.waits h)) hs)) e ∙ k.0, k.2, (left, k.1))

  pub begun_tree : (h : H) (hs own : List H) → own ≡ front_of g (count (g.waits h)) hs → ∥ Filled g (h ∷ hs) ∥₁ → g.same g.start (g.place h) ≡ true → is_tree g (h ∷ own) ≡ true
  begun_tree h hs own q f e = ap (λ z. is_tree g (h ∷ z)) q ∙ ∥∥₁_elim f (Bool-set _ _) (λ k. (begun h hs k e).0)

  pub begun_enough : (h : H) (hs : List H) → ∥ Filled g (h ∷ hs) ∥₁ → g.same g.start (g.place h) ≡ true → enough g (count (g.waits h)) hs ≡ true
  begun_enough h hs f e = ∥∥₁_elim f (Bool-set _ _) (λ k. (begun h hs k e).1)

  pub begun_left : (h : H) (hs left : List H) → left ≡ after_front g (count (g.waits h)) hs → ∥ Filled g (h ∷ hs) ∥₁ → g.same g.start (g.place h) ≡ true → ∥ Filled g left ∥₁
  begun_left h hs left q f e = subst (λ z. ∥ Filled g z ∥₁) (sym q) (∥∥₁_map f (λ k. (begun h hs k e).2))

  -- without its first head a row still fills places
  rest_filled : (h : H) (hs : List H) → Filled g (h ∷ hs) → Filled g hs
  rest_filled h hs ([], f) = absurd (true≢false (sym f))
  rest_filled h hs (s ∷ left, f) = (waiting (g.waits h) left, and_right (g.same s (g.place h)) (fills g (waiting (g.waits h) left) hs) f)

  pub without_first : (h : H) (hs : List H) → ∥ Filled g (h ∷ hs) ∥₁ → ∥ Filled g hs ∥₁
  without_first h hs f = ∥∥₁_map f (rest_filled h hs)

  -- what comes after the first head of a tree
  pub tree_filled : (h : H) (hs : List H) → is_tree g (h ∷ hs) ≡ true → ∥ Filled g hs ∥₁
  tree_filled h hs e = ∣ rest_filled h hs (g.start ∷ [], e) ∣₁

  after_short : (n : ℕ) (hs : List H) → length (after_front g n hs) ≤ length hs
  after_short zero hs = omega arith
  after_short (suc n) [] = omega arith
  after_short (suc n) (h ∷ hs) = let l = after_short (n + count (g.waits h)) hs in omega (arith, l)

  -- how many trees can come is no matter, if all heads can begin one
  enough_trees : (k m : ℕ) (hs : List H) → length hs ≤ k → length hs ≤ m → trees_in g k hs ≡ trees_in g m hs
  enough_trees zero zero hs e f = refl
  enough_trees zero (suc m) [] e f = refl
  enough_trees zero (suc m) (h ∷ hs) e f = absurd (omega (arith, e))
  enough_trees (suc k) zero [] e f = refl
  enough_trees (suc k) zero (h ∷ hs) e f = absurd (omega (arith, f))
  enough_trees (suc k) (suc m) [] e f = refl
  enough_trees (suc k) (suc m) (h ∷ hs) e f =
      let l = after_short (count (g.waits h)) hs in
      let p = enough_trees k m (after_front g (count (g.waits h)) hs) (omega (arith, e, l)) (omega (arith, f, l)) in
      let q = enough_trees k m hs (omega (arith, e)) (omega (arith, f)) in
      ap (λ z. cond (g.same g.start (g.place h)) ((h ∷ front_of g (count (g.waits h)) hs) ∷ z) (trees_in g k hs)) p
      ∙ ap (λ z. cond (g.same g.start (g.place h)) ((h ∷ front_of g (count (g.waits h)) hs) ∷ trees_in g m (after_front g (count (g.waits h)) hs)) z) q

  -- the first tree, and those after it
  pub first_child : (h : H) (hs own left : List H) → g.same g.start (g.place h) ≡ true → own ≡ front_of g (count (g.waits h)) hs → left ≡ after_front g (count (g.waits h)) hs → children_in g (h ∷ hs) ≡ (h ∷ own) ∷ children_in g left
  first_child h hs own left e p q =
      let front = front_of g (count (g.waits h)) hs in
      let after = after_front g (count (g.waits h)) hs in
      let l = after_short (count (g.waits h)) hs in
      ap (λ b. cond b ((h ∷ front) ∷ trees_in g (length hs) after) (trees_in g (length hs) hs)) e
      ∙ (ap (λ z. (h ∷ front) ∷ z) (enough_trees (length hs) (length after) after (omega (arith, l)) (omega arith))
      ∙ (ap (λ z. (h ∷ z) ∷ children_in g after) (sym p) ∙ ap (λ z. (h ∷ own) ∷ children_in g z) (sym q)))

  -- a head at which no tree begins
  pub no_child : (h : H) (hs : List H) → g.same g.start (g.place h) ≡ false → children_in g (h ∷ hs) ≡ children_in g hs
  no_child h hs e =
      ap (λ b. cond b ((h ∷ front_of g (count (g.waits h)) hs) ∷ trees_in g (length hs) (after_front g (count (g.waits h)) hs)) (trees_in g (length hs) hs)) e
