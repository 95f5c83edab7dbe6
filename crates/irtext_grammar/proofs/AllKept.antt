-- What holds at each place of a store holds of all live objects.
use Rattle.std.proofs.Common.{◌≡◌, ◌<◌, ◌+◌, ◌^◌, ◌==◌, ℕ, Bool, true, false, cond, Option, Some, None, refl, ap, ◌∙◌, subst, arith, length, slice_get}
use Rattle.std.specs.Option.{option_map, option_and_then}
use Rattle.std.specs.Prelude.{IfSome}
use Rattle.std.proofs.lemmas.Bool.Decides.{nat_tests}
use Rattle.std.proofs.lemmas.Option.{slice_get_within}
use Rattle.irtext_context.specs.Context.{ContextView, OperationView, BlockView, operation, operation_of, block, block_of}
use Rattle.irtext_graph.specs.Places.{pointer, pointer_at}
use Rattle.irtext_graph.specs.Store.{Cell, Store, object_in, get}
use Rattle.irtext_graph.specs.declared.arena.Entry.{Entry}
use Rattle.irtext_graph.specs.declared.arena.Ptr.{Ptr}
use Rattle.irtext_graph.specs.declared.object.BasicBlock.{BasicBlock}
use Rattle.irtext_graph.specs.declared.object.Operation.{Operation}
use Rattle.irtext_graph.proofs.Same.{ptr_same}
use Rattle.irtext_grammar.specs.ContextParts.{IsKeptBlock, KeepsOperationAt, KeepsBlockAt, KeepsCounters, KeepsAll}
use Rattle.irtext_grammar.specs.Promises.KeptRoot.{IsKept}

module _ {X K : Type 0} (s : Store X) (p : Ptr K) (e : Entry X) where
  equal_numbers : (m n : ℕ) → (m == n) ≡ true → m ≡ n
  equal_numbers m n e = grind (arith, nat_tests)

  -- the object at a place is live under the pointer of that place
  pub pointer_back : get s p ≡ Some e → pointer_at s p.index ≡ Some p
  pointer_back h = go (slice_get s.cells p.index) refl h
    where
      under : (c : Cell X) (b : Bool) → (c.generation == p.generation) ≡ b → cond b c.object None ≡ Some e → option_map (λ (x : Entry X). pointer {K = K} p.index c.generation) c.object ≡ Some p
      under c true t q = ap (option_map (λ (x : Entry X). pointer {K = K} p.index c.generation)) q ∙ ap Some (ptr_same (pointer p.index c.generation) p refl (equal_numbers c.generation p.generation t))
      under c false t q = absurd (cc)

      go : (o : Option (Cell X)) → slice_get s.cells p.index ≡ o → object_in o p.generation ≡ Some e → pointer_at s p.index ≡ Some p
      go None t q = absurd (cc)
      go (Some c) t q = ap (option_and_then (λ (c : Cell X). option_map (λ (x : Entry X). pointer {K = K} p.index c.generation) c.object)) t ∙ under c (c.generation == p.generation) refl q

  -- and the place is one of the store
  pub place_below : get s p ≡ Some e → p.index < length s.cells
  place_below h = go (slice_get s.cells p.index) refl h
    where
      go : (o : Option (Cell X)) → slice_get s.cells p.index ≡ o → object_in o p.generation ≡ Some e → p.index < length s.cells
      go None t q = absurd (cc)
      go (Some c) t q = slice_get_within s.cells p.index c t

-- what holds below a place, and at it, holds below the next place
pub next_place : (Q : ℕ → Type 0) (n : ℕ) → ((i : ℕ) → i < n → Q i) → Q n → (i : ℕ) → i < n + 1 → Q i
next_place Q n before here i low = go (i == n) refl
  where
    apart : (i == n) ≡ false → i < n
    apart e = grind (arith, nat_tests)

    same : (i == n) ≡ true → n ≡ i
    same e = grind (arith, nat_tests)

    go : (b : Bool) → (i == n) ≡ b → Q i
    go true e = subst Q (same e) here
    go false e = before i (apart e)

module _ {T A : Type 0} (ctx : ContextView T A) where
  -- all operations
  pub every_operation : ((place : ℕ) → place < length ctx.graph.operations.cells → KeepsOperationAt ctx place) → (p : Ptr Operation) (view : OperationView T A) → operation ctx p ≡ Some view → IsKept ctx view
  every_operation each p view alive = go (get ctx.graph.operations p) refl alive
    where
      go : (o : Option (Entry _)) → get ctx.graph.operations p ≡ o → option_and_then operation_of o ≡ Some view → IsKept ctx view
      go None t q = absurd (cc)
      go (Some e) t q = subst (λ o. IfSome o (λ (p : Ptr Operation). (view : OperationView T A) → operation ctx p ≡ Some view → IsKept ctx view)) (pointer_back ctx.graph.operations p e t) (each p.index (place_below ctx.graph.operations p e t)) view alive

  -- all blocks
  pub every_block : ((place : ℕ) → place < length ctx.graph.blocks.cells → KeepsBlockAt ctx place) → (p : Ptr BasicBlock) (view : BlockView T A) → block ctx p ≡ Some view → (p.index < 2 ^ 32) × (p.generation < 2 ^ 32) × IsKeptBlock ctx view
  every_block each p view alive = go (get ctx.graph.blocks p) refl alive
    where
      go : (o : Option (Entry _)) → get ctx.graph.blocks p ≡ o → option_map block_of o ≡ Some view → (p.index < 2 ^ 32) × (p.generation < 2 ^ 32) × IsKeptBlock ctx view
      go None t q = absurd (cc)
      go (Some e) t q =
          let r = subst (λ o. IfSome o (λ (p : Ptr BasicBlock). (p.index < 2 ^ 32) × (p.generation < 2 ^ 32) × ((view : BlockView T A) → block ctx p ≡ Some view → IsKeptBlock ctx view))) (pointer_back ctx.graph.blocks p e t) (each p.index (place_below ctx.graph.blocks p e t)) in
          (r.0, r.1, r.2 view alive)

  -- all that a context keeps
  pub every_part : KeepsCounters ctx.graph → ((place : ℕ) → place < length ctx.graph.operations.cells → KeepsOperationAt ctx place) → ((place : ℕ) → place < length ctx.graph.blocks.cells → KeepsBlockAt ctx place) → KeepsAll ctx
  every_part counters operations blocks = record {
    counters = counters;
    operations = every_operation operations;
    blocks = λ b view alive. let r = every_block blocks b view alive in r.2;
    places = λ b view alive. let r = every_block blocks b view alive in (r.0, r.1);
  }
