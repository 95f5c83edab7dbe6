-- Each turn of a loop over the open frames is one step nearer to its end: it parses some of the text, or less is left to do in the frames.
use Rattle.std.proofs.Common.{◌≡◌, ℕ, ◌+◌, ◌<◌, ◌≤◌, Bool, true, false, cond, List, [], ◌∷◌, ◌++◌, Option, Some, None, length, arith, refl, ap, mul-le-mul_left, mul-suc, zero-le, option_and_then, option_map}
use Rattle.std.specs.Map.{lookup}
use Rattle.std.specs.Str.{bytes_eq}
use Rattle.irtext_base.specs.Text.{Text}
use Rattle.irtext_base.specs.Format.{Id}
use Rattle.irtext_base.specs.declared.base.identifier.OpId.{OpId}
use Rattle.irtext_context.specs.Dialects.{Known, Table, same_id}
use Rattle.irtext_context.specs.DialectTable.{registered}
use Rattle.irtext_grammar.specs.Contexts.Formats.{op_id}
use Rattle.irtext_grammar.specs.Grammar.Tree.{Part}
use Rattle.irtext_grammar.specs.Heads.{Step, flat, types, one, all, steps_of, region_steps}
use Rattle.irtext_grammar.specs.Reached.{steps_in}
use Rattle.irtext_grammar.specs.Resume.{OpenOperation, with_steps, Open, to_come, an_operation, a_region, a_block, Pops, weight, weights, to_do, work, entry_steps, all_steps, by_character}

-- ---- the steps of an operation are some of those of all formats
region_steps_fewer : (ss : List Step) → length (region_steps ss) ≤ length ss
region_steps_fewer [] = zero-le
region_steps_fewer (one i ∷ ss) = omega arith
region_steps_fewer (all ∷ ss) = omega arith
region_steps_fewer (flat d ∷ ss) = let k = region_steps_fewer ss in omega (arith, k)
region_steps_fewer (types ∷ ss) = let k = region_steps_fewer ss in omega (arith, k)

-- the steps of what is known of an operation, or none
abbrev known_steps : Option Known → ℕ
known_steps None = 0
known_steps (Some known) = length (steps_of known.format)

entry_has : (id : OpId) (es : List (OpId × Known)) → known_steps (lookup (same_id id) es) ≤ entry_steps es
entry_has id [] = zero-le
entry_has id (e ∷ es) = go (same_id id e.0) (entry_has id es)
  where
    go : (b : Bool) → known_steps (lookup (same_id id) es) ≤ entry_steps es → known_steps (cond b (Some e.1) (lookup (same_id id) es)) ≤ length (steps_of e.1.format) + entry_steps es
    go true k = omega arith
    go false k = omega (arith, k)

dialect_has : (id : OpId) (name : Text) (ds : List (Text × Table)) → known_steps (option_and_then (λ table. lookup (same_id id) table.entries) (lookup (bytes_eq name) ds)) ≤ all_steps ds
dialect_has id name [] = zero-le
dialect_has id name (d ∷ ds) = go (bytes_eq name d.0) (dialect_has id name ds)
  where
    go : (b : Bool) → known_steps (option_and_then (λ table. lookup (same_id id) table.entries) (lookup (bytes_eq name) ds)) ≤ all_steps ds
        → known_steps (option_and_then (λ table. lookup (same_id id) table.entries) (cond b (Some d.1) (lookup (bytes_eq name) ds))) ≤ entry_steps d.1.entries + all_steps ds
    go true k = let l = entry_has id d.1.entries in omega (arith, l)
    go false k = omega (arith, k)

pub steps_fewer : (dialects : List (Text × Table)) (id : Id) → length (region_steps (steps_in dialects id)) < by_character dialects
steps_fewer dialects id =
    let k = region_steps_fewer (steps_in dialects id) in
    let l = dialect_has (op_id id) id.dialect dialects in
    let m = of_known (registered dialects (op_id id)) in
    omega (arith, k, l, m)
  where
    of_known : (o : Option Known) → length {A = Step} (elim (option_map (λ known. known.format) o) [ Some f ↦ steps_of f | None ↦ [] ]) ≡ known_steps o
    of_known None = refl
    of_known (Some known) = refl

module _ {T A : Type 0} where
  weights_push : (frames : List (Open T A)) (f : Open T A) → weights (frames ++ f ∷ []) ≡ weights frames + weight f
  weights_push [] f = omega arith
  weights_push (g ∷ frames) f = let k = weights_push frames f in omega (arith, k)

  weighs : (f : Open T A) → 0 < weight f
  weighs (to_come inside) = omega arith
  weighs (an_operation o) = omega arith
  weighs (a_region iso place) = omega arith
  weighs (a_block true) = omega arith
  weighs (a_block false) = omega arith

  -- ---- where some of the text is consumed, and where the text may be unchanged
  module _ (k : ℕ) (next next' : Option (Open T A)) (frames frames' : List (Open T A)) (t t' : Text) where
    nearer_read : length t' < length t → to_do next' frames' < to_do next frames + k → work k next' frames' t' < work k next frames t
    nearer_read l w = let m = mul-le-mul_left k l in let n = mul-suc k (length t') in omega (arith, m, n, w)

    nearer : length t' ≤ length t → to_do next' frames' < to_do next frames → work k next' frames' t' < work k next frames t
    nearer l w = let m = mul-le-mul_left k l in omega (arith, m, w)

  -- ---- each turn, where as much as k is done for a character
  module _ (k : ℕ) (frames : List (Open T A)) (t t' : Text) where
    pub operation_nearer : (inside : Bool) (o : OpenOperation T A) → length o.steps < k → length t' < length t → work k (Some (an_operation o)) frames t' < work k (Some (to_come inside)) frames t
    operation_nearer inside o h l = nearer_read k (Some (to_come inside)) (Some (an_operation o)) frames frames t t' l (omega (arith, h))

    -- a piece, or the last of all regions
    pub step_nearer : (o : OpenOperation T A) (step : Step) (ss : List Step) (ps : List (Part ℕ T A)) → o.steps ≡ step ∷ ss → length t' ≤ length t
        → work k (Some (an_operation (with_steps o ss ps))) frames t' < work k (Some (an_operation o)) frames t
    step_nearer o step ss ps e l = let m = ap length e in nearer k (Some (an_operation o)) (Some (an_operation (with_steps o ss ps))) frames frames t t' l (omega (arith, m))

    -- one region
    pub region_nearer : (o : OpenOperation T A) (step : Step) (ss : List Step) (ps : List (Part ℕ T A)) (iso : Bool) (place : ℕ) → o.steps ≡ step ∷ ss → 3 < k → length t' < length t
        → work k (Some (a_region iso place)) (frames ++ an_operation (with_steps o ss ps) ∷ []) t' < work k (Some (an_operation o)) frames t
    region_nearer o step ss ps iso place e h l = let m = ap length e in let n = weights_push frames (an_operation (with_steps o ss ps)) in
        nearer_read k (Some (an_operation o)) (Some (a_region iso place)) frames (frames ++ an_operation (with_steps o ss ps) ∷ []) t t' l (omega (arith, m, n, h))

    -- one of all regions
    pub another_nearer : (o : OpenOperation T A) (iso : Bool) (place : ℕ) → 3 < k → length t' < length t → work k (Some (a_region iso place)) (frames ++ an_operation o ∷ []) t' < work k (Some (an_operation o)) frames t
    another_nearer o iso place h l = let n = weights_push frames (an_operation o) in nearer_read k (Some (an_operation o)) (Some (a_region iso place)) frames (frames ++ an_operation o ∷ []) t t' l (omega (arith, n, h))

    pub block_nearer : (iso : Bool) (place : ℕ) → 3 < k → length t' < length t → work k (Some (a_block true)) (frames ++ a_region iso place ∷ []) t' < work k (Some (a_region iso place)) frames t
    block_nearer iso place h l = let n = weights_push frames (a_region iso place) in nearer_read k (Some (a_region iso place)) (Some (a_block true)) frames (frames ++ a_region iso place ∷ []) t t' l (omega (arith, n, h))

    pub first_nearer : length t' ≤ length t → work k (Some (to_come true)) (frames ++ a_block false ∷ []) t' < work k (Some (a_block true)) frames t
    first_nearer l = let n = weights_push frames (a_block false) in nearer k (Some (a_block true)) (Some (to_come true)) frames (frames ++ a_block false ∷ []) t t' l (omega (arith, n))

    pub other_nearer : 3 < k → length t' < length t → work k (Some (to_come true)) (frames ++ a_block false ∷ []) t' < work k (Some (a_block false)) frames t
    other_nearer h l = let n = weights_push frames (a_block false) in nearer_read k (Some (a_block false)) (Some (to_come true)) frames (frames ++ a_block false ∷ []) t t' l (omega (arith, n, h))

    -- what is next ends
    pub end_nearer : (f : Open T A) (next : Option (Open T A)) (others : List (Open T A)) → Pops frames next others → length t' ≤ length t → work k next others t' < work k (Some f) frames t
    end_nearer f None others p l = let w = weighs f in nearer k (Some f) None frames others t t' l (omega (arith, w))
    end_nearer f (Some g) others p l = let n = weights_push others g in let m = ap weights p in let w = weighs f in nearer k (Some f) (Some g) frames others t t' l (omega (arith, n, m, w))
