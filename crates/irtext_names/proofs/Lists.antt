-- The numbers of a row's names, one by one.
use Rattle.std.proofs.Common.{◌≡◌, ◌<◌, ◌≤◌, ◌+◌, ◌∙◌, ℕ, zero, suc, List, [], ◌∷◌, ◌++◌, length, map, take, drop, get_or, refl, ap, arith}
use Rattle.std.proofs.lemmas.List.{take_more}
use Rattle.irtext_graph.specs.Graph.{GraphView, KeepsOlder}
use Rattle.irtext_names.specs.Rows.{AreKnown}
use Rattle.irtext_names.proofs.NamesInRow.{map-through}
use Rattle.irtext_graph.proofs.Once.{gives_itself}

-- each number is known
pub known_at : {X : Type 0} (f : X → ℕ) (count : ℕ) (xs : List X) (i : ℕ) (x : X) → i < length xs → AreKnown count (map f xs) → f (get_or xs i x) < count
known_at f count [] i x l k = absurd (omega (arith, l))
known_at f count (y ∷ xs) zero x l k = k.0
known_at f count (y ∷ xs) (suc i) x l k = known_at f count xs i x (omega (arith, l)) k.1

-- one number more
pub number_more : {X : Type 0} (f : X → ℕ) (xs : List X) (i : ℕ) (x : X) → i < length xs → map f (take (i + 1) xs) ≡ map f (take i xs) ++ f (get_or xs i x) ∷ []
number_more f xs i x l = ap (map f) (take_more xs i x l) ∙ map-through f (take i xs) (get_or xs i x) []

-- an unchanged graph keeps all older objects
pub older_itself : {O B T : Type 0} (m : ℕ) (g : GraphView O B T) → KeepsOlder m g g
older_itself m g = record { operations = λ p. refl; blocks = λ b. refl; regions = λ r. refl; made = omega arith; values = omega arith; first_place = refl; pointers = gives_itself g }

-- the numbers before one, that one, and those after it
pub number_here : {X : Type 0} (f : X → ℕ) (xs : List X) (i : ℕ) (x : X) → i < length xs → map f (take i xs) ++ f (get_or xs i x) ∷ map f (drop (suc i) xs) ≡ map f xs
number_here f [] i x l = absurd (omega (arith, l))
number_here f (y ∷ xs) zero x l = refl
number_here f (y ∷ xs) (suc i) x l = ap (λ ns. f y ∷ ns) (number_here f xs i x (omega (arith, l)))

-- as many numbers precede it as its index says
pub numbers_before : {X : Type 0} (f : X → ℕ) (xs : List X) (i : ℕ) → i ≤ length xs → length (map f (take i xs)) ≡ i
numbers_before f xs zero l = refl
numbers_before f [] (suc i) l = absurd (omega (arith, l))
numbers_before f (y ∷ xs) (suc i) l = ap suc (numbers_before f xs i (omega (arith, l)))

-- all of a list
pub take_whole : {X : Type 0} (xs : List X) (i : ℕ) → length xs ≤ i → take i xs ≡ xs
take_whole [] zero l = refl
take_whole [] (suc i) l = refl
take_whole (x ∷ xs) zero l = absurd (omega (arith, l))
take_whole (x ∷ xs) (suc i) l = ap (λ zs. x ∷ zs) (take_whole xs i (omega (arith, l)))
