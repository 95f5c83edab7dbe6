-- The uses of the first results of an operation, one result after the other.
use Rattle.std.proofs.Common.{◌≡◌, ◌<◌, ◌≤◌, ◌+◌, ◌++◌, ◌⊎◌, ℕ, zero, suc, refl, inl, inr, arith, IsSome, List, [], ◌∷◌, length, slice_get}
use Rattle.std.proofs.Math.Nat.{eq-or-lt_of_le}
use Rattle.irtext_graph.specs.declared.arena.Ptr.{Ptr}
use Rattle.irtext_graph.specs.declared.object.Defined.TheVariants.{OfValue}
use Rattle.irtext_graph.specs.declared.object.Operation.{Operation}
use Rattle.irtext_graph.specs.declared.object.Site.{Site}
use Rattle.irtext_graph.specs.declared.object.Value.TheVariants.{Result}
use Rattle.irtext_graph.specs.Chained.{Lists, Counts}
use Rattle.irtext_graph.specs.Graph.{GraphView}
use Rattle.irtext_graph.specs.Parts.{results, IsDefinedValue}
use Rattle.irtext_graph.specs.Used.{IsUse}
use Rattle.irtext_graph.proofs.Listed.{lists_alike}
use Rattle.irtext_graph_queries.specs.ResultUses.{IsUseOf}
use Rattle.irtext_graph_queries.proofs.Unions.{lists_both, counts_both, counts_alike}

within_some : {X : Type 0} (xs : List X) (k : ℕ) → IsSome (slice_get xs k) → k < length xs
within_some [] k m = absurd (cc)
within_some (x ∷ xs) zero m = omega arith
within_some (x ∷ xs) (suc k) m = let r = within_some xs k m in omega (arith, r)

some_within : {X : Type 0} (xs : List X) (k : ℕ) → k < length xs → IsSome (slice_get xs k)
some_within [] k less = absurd (omega (arith, less))
some_within (x ∷ xs) zero less = refl
some_within (x ∷ xs) (suc k) less = some_within xs k (omega (arith, less))

module _ {O B T : Type 0} (g : GraphView O B T) (p : Ptr Operation) where
  -- a result below the number of all is there
  pub result_there : (k n : ℕ) → n ≡ length (results g p) → k < n → IsDefinedValue g (Result p k)
  result_there k n count less = some_within (results g p) k (omega (arith, count, less))

  -- a result that is there is one of all
  pub result_within : (k n : ℕ) → n ≡ length (results g p) → IsDefinedValue g (Result p k) → k < n
  result_within k n count there = rw count (within_some (results g p) k there)

  -- the use names one of the first n results of the operation
  abbrev pub IsUseOfFirst : ℕ → Site → Type 0
  IsUseOfFirst n u = (k : ℕ) × (k < n) × IsUse g (OfValue (Result p k)) u

  -- an operand uses one of the first n results, or the one after them, and not both
  abbrev Either : ℕ → Site → Type 0
  Either n u = IsUseOfFirst n u ⊎ IsUse g (OfValue (Result p n)) u

  apart : (n : ℕ) (u : Site) → IsUseOfFirst n u → IsUse g (OfValue (Result p n)) u → ⊥
  apart n u (k, l, e) f =
      let same : k ≡ n = cc in
      omega (arith, l, same)

  one_more : (n : ℕ) (u : Site) → Either n u → IsUseOfFirst (n + 1) u
  one_more n u m = elim m [ inl first ↦ (first.0, omega (arith, first.1), first.2) | inr e ↦ (n, omega arith, e) ]

  either : (n : ℕ) (u : Site) → IsUseOfFirst (n + 1) u → Either n u
  either n u (k, l, e) = go (eq-or-lt_of_le (omega (arith, l)))
    where
      go : (k ≡ n) ⊎ (k < n) → Either n u
      go (inl same) = inr (rw (← same) e)
      go (inr less) = inl (k, less, e)

  -- one more result has no use
  pub next_unused : (n : ℕ) → ((u : Site) → IsUseOfFirst n u → ⊥) → ((u : Site) → IsUse g (OfValue (Result p n)) u → ⊥) → (u : Site) → IsUseOfFirst (n + 1) u → ⊥
  next_unused n first none u m = elim (either n u m) [ inl l ↦ first u l | inr e ↦ none u e ]

  -- the uses of one more result were listed
  pub next_listed : (n : ℕ) (all uses new : List Site) → new ≡ all ++ uses → Lists (IsUseOfFirst n) all → Lists (IsUse g (OfValue (Result p n))) uses → Lists (IsUseOfFirst (n + 1)) new
  next_listed n all uses new e first second = rw e (lists_alike (all ++ uses) (one_more n) (either n) (lists_both all uses (apart n) first second))

  -- the uses of one more result were counted
  pub next_counted : (n all uses new : ℕ) → new ≤ all + uses → (new < 18446744073709551615 → new ≡ all + uses) → Counts (IsUseOfFirst n) all → Counts (IsUse g (OfValue (Result p n))) uses → Counts (IsUseOfFirst (n + 1)) new
  next_counted n all uses new most exact first second = counts_alike new (one_more n) (either n) (counts_both all uses new most exact (apart n) first second)

  -- no result has no use
  pub none_listed : Lists (IsUseOfFirst 0) []
  none_listed = record {
    all = λ u m. let l = m.1 in omega (arith, l);
    only = λ u m. absurd m;
    once = λ i j u e f. absurd (cc);
  }

  pub none_counted : Counts (IsUseOfFirst 0) 0
  none_counted = record { list = []; lists = none_listed; within = omega arith; exact = λ few. refl }

  -- what uses a result uses one of the first n, where all that are used are among them
  pub all_listed : (n : ℕ) (us : List Site) → ((k : ℕ) (u : Site) → IsUse g (OfValue (Result p k)) u → k < n) → Lists (IsUseOfFirst n) us → Lists (IsUseOf g p) us
  all_listed n us below l = lists_alike us (λ u m. (m.0, m.2)) (λ u m. (m.0, below m.0 u m.1, m.1)) l

  pub all_counted : (n count : ℕ) → ((k : ℕ) (u : Site) → IsUse g (OfValue (Result p k)) u → k < n) → Counts (IsUseOfFirst n) count → Counts (IsUseOf g p) count
  all_counted n count below c = counts_alike count (λ u m. (m.0, m.2)) (λ u m. (m.0, below m.0 u m.1, m.1)) c
