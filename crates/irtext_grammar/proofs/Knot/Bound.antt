-- The bounds of nested parsing are enough: a region's on how deep it nests, and each loop's on its items. So a region is its blocks between
-- braces, whose operations' regions are regions.
use Rattle.std.proofs.Common.{◌≡◌, ℕ, zero, suc, ◌≤◌, ◌<◌, Bool, true, List, [], ◌∷◌, ◌++◌, codes, length, refl, arith}
use Rattle.irtext_base.specs.Text.{Text, begins, after_space}
use Rattle.irtext_base.specs.Reading.{the}
use Rattle.irtext_base.specs.Format.{Id}
use Rattle.irtext_base.specs.Locations.{AttrView}
use Rattle.irtext_context.specs.Dialects.{Table}
use Rattle.irtext_tokens.specs.Infix.{Reader, ◌▷◌}
use Rattle.irtext_tokens.specs.Tokens.{space_at}
use Rattle.irtext_tokens.proofs.Honest.{honest_space, honest_word}
use Rattle.irtext_grammar.specs.Contexts.Formats.{isolated}
use Rattle.irtext_grammar.specs.Grammar.Tree as tree
use Rattle.irtext_grammar.specs.Grammar.Tree.{Name, Part, Piece}
use Rattle.irtext_grammar.specs.Readers.Parts.{without_first}
use Rattle.irtext_grammar.specs.Readers.RestLengths.{LeavesNoMore}
use Rattle.irtext_grammar.proofs.Locations.RestLengths.{within_honest, ◌then◌, space_bound}
use Rattle.irtext_grammar.specs.declared.parsed.Setting.{Setting}
use Rattle.irtext_grammar.specs.Heads.{Step, flat, types, one, all, front_steps, region_steps, piece_at, setting}
use Rattle.irtext_grammar.specs.Reached.{Reached, tells, Actions, Reads, begins_operation, begins_region, begins_block, steps_in, regions_by, more_by, operations_by, blocks_by, front_by, steps_by, end_by, body_by, operation_by, block_by, region_by, region_within, region_at, operation_at}
use Rattle.irtext_grammar.proofs.Knot.Leaving.{brace_leaves, mark_within, piece_within, head_leaves, led_leaves}
use Rattle.irtext_grammar.proofs.Knot.Alike.{Alike, alike_came, alike_stuck, alike_either, alike_after, alike_tells, weaker, Agree, Shrink, IsLoop, loops_agree}

-- ---- loops
without_first_bound : (b : ℕ) (text : Text) → length text ≤ suc b → length (after_space (without_first text)) ≤ b
without_first_bound b [] h = space_bound b [] (omega arith)
without_first_bound b (c ∷ text) h = space_bound b text (omega (arith, h))

module _ {S : Type 0} where
  -- what follows a `;`
  abbrev pub after_semicolon : Reads S → Reads S
  after_semicolon item text s = item (after_space (without_first text)) s

  pub regions_loop : (inner : Reads S) → IsLoop begins_region inner (regions_by inner)
  regions_loop inner = record { none = λ text s. refl; more = λ n text s. refl }

  pub more_loop : (item : Reads S) → IsLoop (begins (the 59)) (after_semicolon item) (more_by item)
  more_loop item = record { none = λ text s. refl; more = λ n text s. refl }

  pub blocks_loop : (block : Reads S) → IsLoop begins_block block (blocks_by block)
  blocks_loop block = record { none = λ text s. refl; more = λ n text s. refl }

  -- a parser that shrinks agrees with its like
  pub shrunk : {b : ℕ} {f g : Reads S} → Shrink b f g → Agree b f g
  shrunk h = record { alike = λ text s k. h.alike text s (omega (arith, k)) }

  after_semicolon_agree : (b : ℕ) (f g : Reads S) → Agree b f g → Shrink b (after_semicolon f) (after_semicolon g)
  after_semicolon_agree b f g h = record { alike = λ text s k. h.alike (after_space (without_first text)) s (without_first_bound b text k) }

  -- less text is left after a `;`
  pub semicolon_shrinks : (f : Reads S) → ((b : ℕ) → Shrink b f f) → (b : ℕ) → Shrink b (after_semicolon f) (after_semicolon f)
  semicolon_shrinks f h b = after_semicolon_agree b f f (shrunk (h b))

  pub operations_agree : (b : ℕ) (f g : Reads S) → Agree b f g → Agree b (operations_by f) (operations_by g)
  operations_agree b f g h = record {
    alike = λ text s k. alike_either b (begins_operation text) _ _ _ _
        (alike_after b b (f text s) (g text s) _ _ (h.alike text s k) (λ _ t rest e.
        (loops_agree (more_loop f) (more_loop g) b (shrunk (after_semicolon_agree b f g h)) (length rest)).alike (after_space rest) t (space_bound b rest e)))
        (alike_came b tt s text k);
  }

module _ {T A S : Type 0} (dialects : List (Text × Table)) (types_at : Reader T) (attr : Reader (AttrView A)) (does : Actions T A S) where
  module _ (no_more : LeavesNoMore types_at) (none_more : LeavesNoMore attr) where
    front_agree : (b : ℕ) (at : Setting) (ss : List Step) (found : List (Part ℕ T A)) (text : Text) (s : S) → length text ≤ b
        → Alike b (front_by dialects types_at attr does at ss found text s) (front_by dialects types_at attr does at ss found text s)
    front_agree b at [] found text s k = alike_came b found s text k
    front_agree b at (step ∷ ss) found text s k = alike_tells b b _ text s _ _
        ((◌then◌ (within_honest honest_space) (piece_within no_more none_more at step)).leaves text k)
        (λ p rest e. front_agree b at ss (found ++ tree.piece p ∷ []) rest s e)

    -- ---- over parsers of regions that agree
    module _ (b : ℕ) (f g : Bool → Reads S) (agree : (iso : Bool) → Agree b (f iso) (g iso)) where
      late_agree : (iso : Bool) (place : ℕ) (id : Id) (step : Step) (found : List (Part ℕ T A)) (text : Text) (s : S)
          (next other : Piece ℕ T A → Text → Reached (List (Part ℕ T A)) S) → length text ≤ b
          → ((p : Piece ℕ T A) (rest : Text) → length rest ≤ b → Alike b (next p rest) (other p rest))
          → Alike b (tells ((space_at ▷ piece_at types_at attr (setting true does.any_key) step) text) text s next) (tells ((space_at ▷ piece_at types_at attr (setting true does.any_key) step) text) text s other)
      late_agree iso place id step found text s next other k again =
          alike_tells b b _ text s next other ((◌then◌ (within_honest honest_space) (piece_within no_more none_more (setting true does.any_key) step)).leaves text k) again

      steps_agree : (iso : Bool) (place : ℕ) (id : Id) (ss : List Step) (found : List (Part ℕ T A)) (text : Text) (s : S) → length text ≤ b
          → Alike b (steps_by dialects types_at attr does (f iso) place id ss found text s) (steps_by dialects types_at attr does (g iso) place id ss found text s)
      steps_agree iso place id [] found text s k = alike_came b found s text k
      steps_agree iso place id (one i ∷ ss) found text s k =
          alike_after b b _ _ _ _ ((agree iso).alike (after_space text) s (space_bound b text k))
          (λ _ t rest e. steps_agree iso place id ss (found ++ tree.region i ∷ []) rest t e)
      steps_agree iso place id (all ∷ ss) found text s k =
          alike_after b b _ _ _ _ ((loops_agree (regions_loop (f iso)) (regions_loop (g iso)) b (agree iso) (length text)).alike (after_space text) s (space_bound b text k))
          (λ _ t rest e. steps_agree iso place id ss (found ++ tree.regions ∷ []) rest t e)
      steps_agree iso place id (flat d ∷ ss) found text s k =
          late_agree iso place id (flat d) found text s _ _ k (λ p rest e. steps_agree iso place id ss (found ++ tree.piece p ∷ []) rest (does.late place id p s) e)
      steps_agree iso place id (types ∷ ss) found text s k =
          late_agree iso place id types found text s _ _ k (λ p rest e. steps_agree iso place id ss (found ++ tree.piece p ∷ []) rest (does.late place id p s) e)

      end_agree : (place : ℕ) (names : List (Name ℕ)) (id : Id) (parts : List (Part ℕ T A)) (text : Text) (s : S) → length text ≤ b
          → Alike b (end_by dialects types_at attr does place names id parts text s) (end_by dialects types_at attr does place names id parts text s)
      end_agree place names id parts text s k = alike_tells b b _ text _ _ _
          ((◌then◌ (within_honest honest_space) mark_within).leaves text k) (λ m rest e. alike_came b tt _ rest e)

      body_agree : (iso inside : Bool) (place : ℕ) (names : List (Name ℕ)) (id : Id) (text : Text) (s : S) → length text ≤ b
          → Alike b (body_by dialects types_at attr does (f iso) inside place names id text s) (body_by dialects types_at attr does (g iso) inside place names id text s)
      body_agree iso inside place names id text s k =
          alike_after b b _ _ _ _ (front_agree b (setting inside does.any_key) (front_steps (steps_in dialects id)) [] text s k) (λ found t rest e.
          alike_after b b _ _ _ _ (steps_agree iso place id (region_steps (steps_in dialects id)) found rest (does.uses place id found t) e) (λ parts u left e.
          end_agree place names id parts left u e))

      pub operation_agree : (inside : Bool) → Shrink b (operation_by dialects types_at attr does f inside) (operation_by dialects types_at attr does g inside)
      operation_agree inside = record {
        alike = λ text s k. alike_tells b b _ text s _ _ (led_leaves b dialects text k)
            (λ lead rest e. body_agree (isolated dialects lead.1) inside (length text) lead.0 lead.1 rest s e);
      }

    pub block_agree : (b : ℕ) (f g : Reads S) → Agree b f g → Shrink b (block_by dialects types_at attr does f) (block_by dialects types_at attr does g)
    block_agree b f g h = record {
      alike = λ text s k. alike_tells b b _ text s _ _ (head_leaves no_more none_more text k)
          (λ head rest e. h.alike (after_space rest) (does.heads head s) (space_bound b rest e));
    }

    region_agree : (b : ℕ) (f g : Reads S) → Agree b f g → (iso : Bool) → Shrink b (region_by dialects types_at attr does f iso) (region_by dialects types_at attr does g iso)
    region_agree b f g h iso = record {
      alike = λ text s k. alike_tells b b _ text _ _ _ (brace_leaves b text k)
          (λ _ rest e. alike_after b b _ _ _ _ (h.alike rest _ e)
          (λ _ u left e. alike_tells b b _ left u _ _ ((within_honest (honest_word (codes "}"))).leaves left e)
          (λ _ end e. alike_came b tt _ end e)));
    }

    -- the blocks of a region whose operations' regions are parsed by this
    abbrev pub inner_blocks : (Bool → Reads S) → Reads S
    inner_blocks inner rest t = blocks_by (block_by dialects types_at attr does (operations_by (operation_by dialects types_at attr does inner true))) (length rest) rest t

    blocks_agree : (b : ℕ) (f g : Bool → Reads S) → ((iso : Bool) → Agree b (f iso) (g iso)) → Agree b (inner_blocks f) (inner_blocks g)
    blocks_agree b f g h = record {
      alike = λ text s k. (loops_agree (blocks_loop _) (blocks_loop _) b
          (shrunk (block_agree b _ _ (operations_agree b _ _ (shrunk (operation_agree b f g h true))))) (length text)).alike text s k;
    }

    -- a region leaves less than its text
    pub within_shrinks : (n : ℕ) (b : ℕ) (iso : Bool) → Shrink b (region_within dialects types_at attr does n iso) (region_within dialects types_at attr does n iso)
    within_shrinks zero b iso = record { alike = λ text s k. alike_stuck b _ (λ x s rest e. cc e) }
    within_shrinks (suc n) b iso = region_agree b _ _ (blocks_agree b _ _ (λ iso. shrunk (within_shrinks n b iso))) iso

    enough_on : (n m b : ℕ) → b < n → b < m → (iso : Bool) → Agree b (region_within dialects types_at attr does n iso) (region_within dialects types_at attr does m iso)
    enough_on zero m b h k iso = absurd (omega (arith, h))
    enough_on (suc n) zero b h k iso = absurd (omega (arith, k))
    enough_on (suc n) (suc m) zero h k iso = record { alike = at_end }
      where
        at_end : (text : Text) (s : S) → length text ≤ zero
            → Alike zero (region_within dialects types_at attr does (suc n) iso text s) (region_within dialects types_at attr does (suc m) iso text s)
        at_end [] s i = alike_stuck zero _ (λ x s rest e. cc e)
        at_end (c ∷ text) s i = absurd (omega (arith, i))
    enough_on (suc n) (suc m) (suc b) h k iso = record {
      alike = λ text s i. weaker b (suc b) _ _ (omega arith)
          ((region_agree b _ _ (blocks_agree b _ _ (λ iso. enough_on n m b (omega (arith, h)) (omega (arith, k)) iso)) iso).alike text s i);
    }

    -- a bound above the length of the text is enough
    pub region_enough : (n m : ℕ) (iso : Bool) (text : Text) (s : S) → length text < n → length text < m
        → region_within dialects types_at attr does n iso text s ≡ region_within dialects types_at attr does m iso text s
    region_enough n m iso text s h k = ((enough_on n m (length text) h k iso).alike text s (omega arith)).same

    at_enough : (n b : ℕ) → b < n → (iso : Bool) → Agree b (region_within dialects types_at attr does n iso) (region_at dialects types_at attr does iso)
    at_enough n b h iso = record {
      alike = λ text s k. record {
        leaves = ((shrunk (within_shrinks n b iso)).alike text s k).leaves;
        same = region_enough n (suc (length text)) iso text s (omega (arith, h, k)) (omega arith);
      };
    }

    -- A region is its blocks between braces, and the regions of their operations are regions.
    pub region_is : (iso : Bool) (text : Text) (s : S)
        → region_at dialects types_at attr does iso text s ≡ region_by dialects types_at attr does (inner_blocks (region_at dialects types_at attr does)) iso text s
    region_is iso [] s = refl
    region_is iso (c ∷ text) s =
        ((region_agree (length text) _ _ (blocks_agree (length text) _ _ (λ iso. at_enough (suc (length text)) (length text) (omega arith) iso)) iso).alike (c ∷ text) s (omega arith)).same

    -- ---- what is left, and how many items are enough
    -- a region consumes at least one character
    pub region_shrinks : (b : ℕ) (iso : Bool) → Shrink b (region_at dialects types_at attr does iso) (region_at dialects types_at attr does iso)
    region_shrinks b iso = record { alike = λ text s k. (within_shrinks (suc (length text)) b iso).alike text s k }

    -- an operation consumes at least one character
    pub operation_shrinks : (b : ℕ) (inside : Bool) → Shrink b (operation_at dialects types_at attr does inside) (operation_at dialects types_at attr does inside)
    operation_shrinks b inside = operation_agree b _ _ (λ iso. shrunk (region_shrinks b iso)) inside

    -- a block of a region
    abbrev pub block_at : Reads S
    block_at = block_by dialects types_at attr does (operations_by (operation_at dialects types_at attr does true))

    -- a block consumes at least one character
    pub block_shrinks : (b : ℕ) → Shrink b block_at block_at
    block_shrinks b = block_agree b _ _ (operations_agree b _ _ (shrunk (operation_shrinks b true)))
