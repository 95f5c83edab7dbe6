-- What nests, without the bounds by which it is defined: each parser by those of what is inside it alone.
use Rattle.std.proofs.Common.{◌≡◌, ◌∙◌, ℕ, suc, ◌≤◌, Bool, true, false, cond, List, [], length, arith, refl, ap, le_refl}
use Rattle.irtext_base.specs.Text.{Text, begins, after_space}
use Rattle.irtext_base.specs.Reading.{the}
use Rattle.irtext_base.specs.Locations.{AttrView}
use Rattle.irtext_context.specs.Dialects.{Table}
use Rattle.irtext_tokens.specs.Infix.{Reader}
use Rattle.irtext_grammar.specs.Readers.Parts.{without_first}
use Rattle.irtext_grammar.specs.Readers.RestLengths.{LeavesNoMore}
use Rattle.irtext_grammar.proofs.Locations.RestLengths.{space_bound}
use Rattle.irtext_grammar.specs.Reached.{Advanced, came, Actions, Reads, begins_region, begins_block, regions_by, more_by, blocks_by, region_by, region_at, operation_at}
use Rattle.irtext_grammar.specs.Resume.{block_at}
use Rattle.irtext_grammar.proofs.Knot.Alike.{Shrink, IsLoop, came_same, loop_enough}
use Rattle.irtext_grammar.proofs.Knot.Bound.{regions_loop, more_loop, blocks_loop, semicolon_shrinks, region_is, region_shrinks, operation_shrinks, block_shrinks}

-- what regions, blocks and operations are, as long as one begins
pub record Unbounded {T A S : Type 0} (dialects : List (Text × Table)) (types_at : Reader T) (attr : Reader (AttrView A)) (does : Actions T A S) : Type 0 where
  pub region_is : (iso : Bool) (text : Text) (s : S) → region_at dialects types_at attr does iso text s
      ≡ region_by dialects types_at attr does (λ rest t. blocks_by (block_at dialects types_at attr does) (length rest) rest t) iso text s
  pub regions_are : (iso : Bool) (n : ℕ) (text : Text) (s : S) → length text ≤ n → regions_by (region_at dialects types_at attr does iso) n text s
      ≡ cond (begins_region text) (came (region_at dialects types_at attr does iso text s) (λ _ t rest. regions_by (region_at dialects types_at attr does iso) (length rest) (after_space rest) t)) (Advanced tt s text)
  pub blocks_are : (n : ℕ) (text : Text) (s : S) → length text ≤ n → blocks_by (block_at dialects types_at attr does) n text s
      ≡ cond (begins_block text) (came (block_at dialects types_at attr does text s) (λ _ t rest. blocks_by (block_at dialects types_at attr does) (length rest) (after_space rest) t)) (Advanced tt s text)
  pub more_are : (n : ℕ) (text : Text) (s : S) → length text ≤ n → more_by (operation_at dialects types_at attr does true) n text s
      ≡ cond (begins (the 59) text) (came (operation_at dialects types_at attr does true (after_space (without_first text)) s) (λ _ t rest. more_by (operation_at dialects types_at attr does true) (length rest) (after_space rest) t)) (Advanced tt s text)

module _ {S : Type 0} {test : Text → Bool} {item : Reads S} {loop : ℕ → Reads S} (i : IsLoop test item loop) (ends : test [] ≡ false) (shrink : (b : ℕ) → Shrink b item item) where
  -- the loop parses the first item and, after it, the other items
  loop_is : (n : ℕ) (text : Text) (s : S) → length text ≤ n → loop n text s ≡ cond (test text) (came (item text s) (λ _ t rest. loop (length rest) (after_space rest) t)) (Advanced tt s text)
  loop_is n text s k = loop_enough i ends shrink n (suc (length text)) text s k (omega arith) ∙ (i.more (length text) text s ∙ ap (λ z. cond (test text) z (Advanced tt s text))
      (came_same (length text) (item text s) (λ _ t rest. loop (length text) (after_space rest) t) (λ _ t rest. loop (length rest) (after_space rest) t) ((shrink (length text)).alike text s (omega arith)).leaves
      (λ _ t rest l. loop_enough i ends shrink (length text) (length rest) (after_space rest) t (space_bound (length text) rest l) (space_bound (length rest) rest (le_refl (length rest))))))

module _ {T A S : Type 0} (dialects : List (Text × Table)) (types_at : Reader T) (attr : Reader (AttrView A)) (does : Actions T A S) (no_more : LeavesNoMore types_at) (none_more : LeavesNoMore attr) where
  pub unbounded : Unbounded dialects types_at attr does
  unbounded = record {
    region_is = region_is dialects types_at attr does no_more none_more;
    regions_are = λ iso. loop_is (regions_loop (region_at dialects types_at attr does iso)) refl (λ b. region_shrinks dialects types_at attr does no_more none_more b iso);
    blocks_are = loop_is (blocks_loop (block_at dialects types_at attr does)) refl (block_shrinks dialects types_at attr does no_more none_more);
    more_are = loop_is (more_loop (operation_at dialects types_at attr does true)) refl (semicolon_shrinks (operation_at dialects types_at attr does true) (λ b. operation_shrinks dialects types_at attr does no_more none_more b true));
  }
