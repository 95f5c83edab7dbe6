-- Texts that are identifiers are passed one by one.
use Rattle.std.proofs.Common.{◌≡◌, ◌∷◌, ◌∙◌, ◌&&◌, ◌++◌, ℕ, zero, suc, sym, ap, refl, Bool, true, false, cond, List, [], Option, Some, Bor, IsTrue, map, slice_get, slice_index_or, length, ◌<◌, arith}
use Rattle.std.specs.List.{list_all}
use Rattle.std.proofs.Math.ListN.{drop, take}
use Rattle.irtext_base.specs.Faults.{Fault, Memory, name_refused}
use Rattle.irtext_base.specs.Text.{Text, is_identifier}
use Rattle.irtext_graph.proofs.Nests.{some_eq}
use Rattle.irtext_builder.specs.Drafts.{texts, names_refused}

-- whether these texts from an index on are identifiers, and why not
abbrev pub AlikeFrom : List (Bor Text) → ℕ → Type 0
AlikeFrom names i = (list_all is_identifier (texts names) ≡ list_all is_identifier (texts (drop i names)))
    × (names_refused (texts names) ≡ names_refused (texts (drop i names)))

all_passed : (x y : Bor Text) (ys : List (Bor Text)) → y ≡ x → is_identifier x.now ≡ true → list_all is_identifier (texts (y ∷ ys)) ≡ list_all is_identifier (texts ys)
all_passed x y ys same is = go (is_identifier y.now) (ap (λ (z : Bor Text). is_identifier z.now) same ∙ is)
  where
    go : (b : Bool) → b ≡ true → b && list_all is_identifier (texts ys) ≡ list_all is_identifier (texts ys)
    go true e = refl
    go false e = absurd (cc)

refused_passed : (x y : Bor Text) (ys : List (Bor Text)) → y ≡ x → is_identifier x.now ≡ true → names_refused (texts (y ∷ ys)) ≡ names_refused (texts ys)
refused_passed x y ys same is = ap (λ b. cond b (names_refused (texts ys)) (name_refused y.now)) (ap (λ (z : Bor Text). is_identifier z.now) same ∙ is)

all_steps : (xs : List (Bor Text)) (i : ℕ) (x : Bor Text) → slice_get xs i ≡ Some x → is_identifier x.now ≡ true → list_all is_identifier (texts (drop i xs)) ≡ list_all is_identifier (texts (drop (suc i) xs))
all_steps [] i x at is = absurd (cc)
all_steps (y ∷ ys) zero x at is = all_passed x y ys (some_eq at) is
all_steps (y ∷ ys) (suc i) x at is = all_steps ys i x at is

refused_steps : (xs : List (Bor Text)) (i : ℕ) (x : Bor Text) → slice_get xs i ≡ Some x → is_identifier x.now ≡ true → names_refused (texts (drop i xs)) ≡ names_refused (texts (drop (suc i) xs))
refused_steps [] i x at is = absurd (cc)
refused_steps (y ∷ ys) zero x at is = refused_passed x y ys (some_eq at) is
refused_steps (y ∷ ys) (suc i) x at is = refused_steps ys i x at is

-- one more text is passed
pub passes : (xs : List (Bor Text)) (i : ℕ) (x : Bor Text) → slice_get xs i ≡ Some x → is_identifier x.now ≡ true → AlikeFrom xs i → AlikeFrom xs (suc i)
passes xs i x at is h = (h.0 ∙ all_steps xs i x at is, h.1 ∙ refused_steps xs i x at is)

-- a text that is none is the first
pub stops : (xs : List (Bor Text)) (i : ℕ) (x : Bor Text) → slice_get xs i ≡ Some x → is_identifier x.now ≡ false
    → (list_all is_identifier (texts (drop i xs)) ≡ false) × (names_refused (texts (drop i xs)) ≡ name_refused x.now)
stops [] i x at is = absurd (cc)
stops (y ∷ ys) zero x at is = go (some_eq at)
  where
    go : y ≡ x → (list_all is_identifier (texts (y ∷ ys)) ≡ false) × (names_refused (texts (y ∷ ys)) ≡ name_refused x.now)
    go same =
        let none = ap (λ (z : Bor Text). is_identifier z.now) same ∙ is in (
          ap (λ b. b && list_all is_identifier (texts ys)) none,
          ap (λ b. cond b (names_refused (texts ys)) (name_refused y.now)) none ∙ ap (λ (z : Bor Text). name_refused z.now) same,
        )
stops (y ∷ ys) (suc i) x at is = stops ys i x at is

-- after the last text all were identifiers
pub ends : (xs : List (Bor Text)) → list_all is_identifier (texts (drop (length xs) xs)) ≡ true
ends [] = refl
ends (x ∷ xs) = ends xs

-- each of texts that are identifiers is one
pub each : (xs : List (Bor Text)) (i : ℕ) (d : Bor Text) → list_all is_identifier (texts xs) ≡ true → i < length xs → IsTrue (is_identifier (slice_index_or xs i d).now)
each [] i d all low = absurd (omega (arith, low))
each (y ∷ ys) zero d all low = so (is_identifier y.now) all
  where
    so : (b : Bool) → (b && list_all is_identifier (texts ys)) ≡ true → b ≡ true
    so true e = refl
    so false e = absurd (cc)
each (y ∷ ys) (suc i) d all low = each ys i d (so (is_identifier y.now) all) (omega (arith, low))
  where
    so : (b : Bool) → (b && list_all is_identifier (texts ys)) ≡ true → list_all is_identifier (texts ys) ≡ true
    so true e = e
    so false e = absurd (cc)

-- the names that these texts give
abbrev pub given : List (Bor Text) → List (Option Text)
given names = map (λ name. Some name) (texts names)

-- one more name
pub one_more : (xs : List (Bor Text)) (i : ℕ) (x : Bor Text) (names : List (Option Text)) → names ≡ given (take i xs) → slice_get xs i ≡ Some x → names ++ Some x.now ∷ [] ≡ given (take (suc i) xs)
one_more xs i x names is at = ap (λ l. l ++ Some x.now ∷ []) is ∙ go xs i at
  where
    go : (xs : List (Bor Text)) (i : ℕ) → slice_get xs i ≡ Some x → given (take i xs) ++ Some x.now ∷ [] ≡ given (take (suc i) xs)
    go [] i at = absurd (cc)
    go (y ∷ ys) zero at = ap (λ (z : Bor Text). Some z.now ∷ []) (sym (some_eq at))
    go (y ∷ ys) (suc i) at = ap (λ l. Some y.now ∷ l) (go ys i at)

-- all names
pub all_given : (xs : List (Bor Text)) → given (take (length xs) xs) ≡ given xs
all_given [] = refl
all_given (x ∷ xs) = ap (λ l. Some x.now ∷ l) (all_given xs)

-- texts that are all identifiers are refused for lack of memory alone
pub all_fit : (xs : List (Bor Text)) → list_all is_identifier (texts xs) ≡ true → names_refused (texts xs) ≡ Memory
all_fit [] all = refl
all_fit (x ∷ xs) all = go (is_identifier x.now) all (all_fit xs)
  where
    go : (b : Bool) → (b && list_all is_identifier (texts xs)) ≡ true → (list_all is_identifier (texts xs) ≡ true → names_refused (texts xs) ≡ Memory) → cond b (names_refused (texts xs)) (name_refused x.now) ≡ Memory
    go true e rest = rest e
    go false e rest = absurd (cc)

-- why one text is refused
pub one_refused : (name : Text) → names_refused (name ∷ []) ≡ name_refused name
one_refused name = go (is_identifier name) _
  where
    go : (b : Bool) (f : Fault) → cond b Memory (cond b Memory f) ≡ cond b Memory f
    go true f = refl
    go false f = refl
