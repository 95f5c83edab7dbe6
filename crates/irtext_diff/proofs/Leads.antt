-- Steps along two lists of lines, and the changes up to them.
use Rattle.std.proofs.Common.{◌≡◌, ◌+◌, ◌-◌, ◌<◌, ◌≤◌, ℕ, List, [], ◌∷◌, ◌++◌, length, sym, ◌∙◌, subst, ap, arith, get_or, inl, inr}
use Rattle.std.specs.Prelude.{◌↔◌, IsTrue, option_map, Some}
use Rattle.std.specs.Cmp.Lexicographic.{bytes_decides}
use Rattle.std.specs.Str.{bytes_eq}
use Rattle.std.specs.Borrow.{Bor}
use Rattle.std.proofs.lemmas.Bool.{cases_lt}
use Rattle.std.proofs.lemmas.Option.{slice_get-get_or}
use Rattle.irtext_diff.specs.Changes.{Line, line, SameLines, Leads}
use Rattle.irtext_diff.specs.declared.changes.Change.{Change}

-- no lines are the same
pub same_none : (old new : List (Bor Line)) (i j : ℕ) → SameLines old new i j 0
same_none old new i j k below = absurd (omega arith)

-- the same lines, named by equal indices
pub same_at : (old new : List (Bor Line)) (i i' j j' n : ℕ) → i ≡ i' → j ≡ j' → SameLines old new i j n → SameLines old new i' j' n
same_at old new i i' j j' n p q same = subst (λ x. SameLines old new x j' n) p (subst (λ y. SameLines old new i y n) q same)

-- lines that are the same, and the lines after them
pub same_more : (old new : List (Bor Line)) (i j n m : ℕ) → SameLines old new i j n → SameLines old new (i + n) (j + n) m
    → SameLines old new i j (n + m)
same_more old new i j n m first second k below = elim (cases_lt k n) [
  | inl within ↦ first k within
  | inr beyond ↦
      let p : (i + n) + (k - n) ≡ i + k = omega arith in
      let q : (j + n) + (k - n) ≡ j + k = omega arith in
      let e : line old ((i + n) + (k - n)) ≡ line new ((j + n) + (k - n)) = second (k - n) (omega arith) in
      ap (line old) (sym p) ∙ e ∙ ap (line new) q
]

-- the line with an index below the length
line_at : (lines : List (Bor Line)) (i : ℕ) (d : Bor Line) → i < length lines → line lines i ≡ Some (get_or lines i d).now
line_at lines i d within = ap (option_map (λ s. s.now)) (slice_get-get_or lines i d within)

-- a test of the bytes of two lines tells whether they are the same
pub one_decides : (old new : List (Bor Line)) (i j : ℕ) (d : Bor Line) → i < length old → j < length new
    → IsTrue (bytes_eq (get_or old i d).now (get_or new j d).now) ↔ SameLines old new i j 1
one_decides old new i j d within within' = (
  (λ e k below.
      let same : (get_or old i d).now ≡ (get_or new j d).now = (bytes_decides (get_or old i d).now (get_or new j d).now).0 e in
      let p : i + k ≡ i = omega arith in
      let q : j + k ≡ j = omega arith in
      ap (line old) p ∙ line_at old i d within ∙ ap Some same ∙ sym (line_at new j d within') ∙ sym (ap (line new) q)),
  (λ same.
      let first : line old (i + 0) ≡ line new (j + 0) = same 0 (omega arith) in
      let p : i ≡ i + 0 = omega arith in
      let q : j + 0 ≡ j = omega arith in
      let e : Some (get_or old i d).now ≡ Some (get_or new j d).now =
      sym (line_at old i d within) ∙ ap (line old) p ∙ first ∙ ap (line new) q ∙ line_at new j d within' in
      let bytes : (get_or old i d).now ≡ (get_or new j d).now = cc in
      (bytes_decides (get_or old i d).now (get_or new j d).now).1 bytes),
)

-- changes that lead to a place, and the lines after it that are the same
pub leads_on : (old new : List (Bor Line)) (a b : ℕ) (changes : List Change) (i j n : ℕ) → SameLines old new i j n
    → Leads old new a b changes i j → Leads old new a b changes (i + n) (j + n)
leads_on old new a b [] i j n same (m, p, q, first) =
    (m + n, omega arith, omega arith, same_more old new a b m n first (same_at old new i (a + m) j (b + m) n (sym p) (sym q) same))
leads_on old new a b (c ∷ changes) i j n same (m, p, q, first, rest) =
    (m, p, q, first, leads_on old new (c.old_at + c.removed) (c.new_at + c.added) changes i j n same rest)

-- changes that lead to a place, and a change there
pub leads_over : (old new : List (Bor Line)) (a b : ℕ) (changes : List Change) (i j r s : ℕ) → Leads old new a b changes i j
    → Leads old new a b (changes ++ (record { old_at = i; removed = r; new_at = j; added = s }) ∷ []) (i + r) (j + s)
leads_over old new a b [] i j r s (m, p, q, first) = (m, p, q, first, (0, omega arith, omega arith, same_none old new (i + r) (j + s)))
leads_over old new a b (c ∷ changes) i j r s (m, p, q, first, rest) =
    (m, p, q, first, leads_over old new (c.old_at + c.removed) (c.new_at + c.added) changes i j r s rest)

-- a line that is the same, and the lines after it
pub same_before : (old new : List (Bor Line)) (i j i' j' n : ℕ) → i' + 1 ≡ i → j' + 1 ≡ j → SameLines old new i' j' 1 → SameLines old new i j n
    → SameLines old new i' j' (n + 1)
same_before old new i j i' j' n p q first rest =
    let sum : 1 + n ≡ n + 1 = omega arith in
    subst (λ m. SameLines old new i' j' m) sum
    (same_more old new i' j' 1 n first (same_at old new i (i' + 1) j (j' + 1) n (sym p) (sym q) rest))

-- changes that lead to a place, and a change from there to another
pub leads_to : (old new : List (Bor Line)) (a b : ℕ) (changes : List Change) (i j i' j' : ℕ) → i ≤ i' → j ≤ j' → Leads old new a b changes i j
    → Leads old new a b (changes ++ (record { old_at = i; removed = i' - i; new_at = j; added = j' - j }) ∷ []) i' j'
leads_to old new a b changes i j i' j' before before' leads =
    let p : i + (i' - i) ≡ i' = omega arith in
    let q : j + (j' - j) ≡ j' = omega arith in
    let all = changes ++ (record { old_at = i; removed = i' - i; new_at = j; added = j' - j }) ∷ [] in
    subst (λ x. Leads old new a b all x j') p (subst (λ y. Leads old new a b all (i + (i' - i)) y) q
    (leads_over old new a b changes i j (i' - i) (j' - j) leads))
