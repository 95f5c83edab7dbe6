-- What no item changes stays unchanged through a whole parse, also through one that is stuck: so a machine that has failed stays failed.
use Rattle.std.proofs.Common.{◌≡◌, ◌∙◌, ℕ, zero, suc, Bool, true, false, cond, List, [], ◌∷◌, ◌++◌, length, codes, refl, ap}
use Rattle.irtext_base.specs.Text.{Text, begins, after_space}
use Rattle.irtext_base.specs.Reading.{the}
use Rattle.irtext_base.specs.Format.{Id}
use Rattle.irtext_base.specs.Answers.{Outcome, Read, Missing, Bad}
use Rattle.irtext_base.specs.Locations.{AttrView}
use Rattle.irtext_context.specs.Dialects.{Table}
use Rattle.irtext_tokens.specs.Infix.{◌▷◌}
use Rattle.irtext_tokens.specs.Tokens.{space_at, word}
use Rattle.irtext_grammar.specs.Contexts.Formats.{isolated}
use Rattle.irtext_grammar.specs.Grammar.Tree as tree
use Rattle.irtext_grammar.specs.Grammar.Tree.{Name, Part}
use Rattle.irtext_grammar.specs.Readers.Parts.{without_first}
use Rattle.irtext_grammar.specs.declared.parsed.Setting.{Setting}
use Rattle.irtext_grammar.specs.Heads.{Step, one, all, front_steps, region_steps, piece_at, head_at, led_at, mark_if_at, setting}
use Rattle.irtext_grammar.specs.Reached.{Reached, Advanced, Stopped, came, tells, Actions, Reads, begins_operation, begins_region, begins_block, steps_in, regions_by, more_by, operations_by, blocks_by, front_by, steps_by, end_by, body_by, operation_by, block_by, region_by, region_within, region_at, operation_at}
use Rattle.irtext_grammar.proofs.Naming.Keeps.{Keeps}

-- the state at the point where the parse came to its end or is stuck
abbrev pub done_in : {X S : Type 0} → Reached X S → S
done_in (Advanced x s rest) = s
done_in (Stopped s cause place) = s

module _ {S : Type 0} (s : S) where
  -- a parser that leaves the state unchanged
  pub record Quiet (reader : Reads S) : Type 0 where
    pub at : (text : Text) → done_in (reader text s) ≡ s

  -- if both leave it unchanged, so does one and then the other
  pub quiet_came : {X Y : Type 0} (o : Reached X S) (next : X → S → Text → Reached Y S) → done_in o ≡ s → ((x : X) (rest : Text) → done_in (next x s rest) ≡ s) → done_in (came o next) ≡ s
  quiet_came (Advanced x t rest) next e h = ap (λ z. done_in (next x z rest)) e ∙ h x rest
  quiet_came (Stopped t cause place) next e h = e

  -- what follows a required value leaves the state unchanged, or the parse is stuck with the state unchanged
  pub quiet_tells : {X Y : Type 0} (o : Outcome X) (text : Text) (next : X → Text → Reached Y S) → ((x : X) (rest : Text) → done_in (next x rest) ≡ s) → done_in (tells o text s next) ≡ s
  quiet_tells (Read x taken rest) text next h = h x rest
  quiet_tells (Missing cause) text next h = refl
  quiet_tells (Bad cause upto) text next h = refl

  -- a parse that is begun or not
  quiet_if : {X : Type 0} (b : Bool) (o p : Reached X S) → done_in o ≡ s → done_in p ≡ s → done_in (cond b o p) ≡ s
  quiet_if true o p e f = e
  quiet_if false o p e f = f

  -- regions one after another
  pub quiet_regions : (inner : Reads S) → Quiet inner → (n : ℕ) (text : Text) → done_in (regions_by inner n text s) ≡ s
  quiet_regions inner q zero text = refl
  quiet_regions inner q (suc n) text = quiet_if (begins_region text) _ _ (quiet_came (inner text s) _ (q.at text) (λ u rest. quiet_regions inner q n (after_space rest))) refl

  -- operations after `;`
  pub quiet_more : (item : Reads S) → Quiet item → (n : ℕ) (text : Text) → done_in (more_by item n text s) ≡ s
  quiet_more item q zero text = refl
  quiet_more item q (suc n) text =
      let following = after_space (without_first text) in
      quiet_if (begins (the 59) text) _ _ (quiet_came (item following s) _ (q.at following) (λ u rest. quiet_more item q n (after_space rest))) refl

  -- the operations of a block
  pub quiet_operations : (item : Reads S) → Quiet item → (text : Text) → done_in (operations_by item text s) ≡ s
  quiet_operations item q text = quiet_if (begins_operation text) _ _ (quiet_came (item text s) _ (q.at text) (λ u rest. quiet_more item q (length rest) (after_space rest))) refl

  -- blocks one after another
  pub quiet_blocks : (one_block : Reads S) → Quiet one_block → (n : ℕ) (text : Text) → done_in (blocks_by one_block n text s) ≡ s
  quiet_blocks one_block q zero text = refl
  quiet_blocks one_block q (suc n) text = quiet_if (begins_block text) _ _ (quiet_came (one_block text s) _ (q.at text) (λ u rest. quiet_blocks one_block q n (after_space rest))) refl

module _ {T A S : Type 0} (dialects : List (Text × Table)) (types_at : Text → Outcome T) (attr : Text → Outcome (AttrView A)) (does : Actions T A S) (s : S) (keeps : Keeps does s) where
  -- parts before the first region
  pub quiet_front : (at : Setting) (ss : List Step) (found : List (Part ℕ T A)) (text : Text) → done_in (front_by dialects types_at attr does at ss found text s) ≡ s
  quiet_front at [] found text = refl
  quiet_front at (step ∷ ss) found text = quiet_tells s ((space_at ▷ piece_at types_at attr at step) text) text _ (λ p rest. quiet_front at ss (found ++ tree.piece p ∷ []) rest)

  -- parts from the first region on
  pub quiet_steps : (inner : Reads S) → Quiet s inner → (place : ℕ) (id : Id) (ss : List Step) (found : List (Part ℕ T A)) (text : Text)
      → done_in (steps_by dialects types_at attr does inner place id ss found text s) ≡ s
  quiet_steps inner q place id [] found text = refl
  quiet_steps inner q place id (one i ∷ ss) found text =
      quiet_came s (inner (after_space text) s) _ (q.at (after_space text)) (λ u rest. quiet_steps inner q place id ss (found ++ tree.region i ∷ []) rest)
  quiet_steps inner q place id (all ∷ ss) found text =
      quiet_came s (regions_by inner (length text) (after_space text) s) _ (quiet_regions s inner q (length text) (after_space text)) (λ u rest. quiet_steps inner q place id ss (found ++ tree.regions ∷ []) rest)
  quiet_steps inner q place id (step ∷ ss) found text = quiet_tells s ((space_at ▷ piece_at types_at attr (setting true does.any_key) step) text) text _ (λ p rest.
      ap (λ z. done_in (steps_by dialects types_at attr does inner place id ss (found ++ tree.piece p ∷ []) rest z)) (keeps.late place id p)
      ∙ quiet_steps inner q place id ss (found ++ tree.piece p ∷ []) rest)

  -- an operation's end
  pub quiet_end : (place : ℕ) (names : List (Name ℕ)) (id : Id) (parts : List (Part ℕ T A)) (text : Text) → done_in (end_by dialects types_at attr does place names id parts text s) ≡ s
  quiet_end place names id parts text =
      ap (λ t. done_in (tells ((space_at ▷ mark_if_at) text) text t (λ m rest. Advanced tt (does.marks m t) rest))) (keeps.closes place names id parts)
      ∙ quiet_tells s ((space_at ▷ mark_if_at) text) text (λ m rest. Advanced tt (does.marks m s) rest) (λ m rest. keeps.marks m)

  -- what follows an operation's id
  pub quiet_body : (inner : Reads S) → Quiet s inner → (inside : Bool) (place : ℕ) (names : List (Name ℕ)) (id : Id) (text : Text) → done_in (body_by dialects types_at attr does inner inside place names id text s) ≡ s
  quiet_body inner q inside place names id text =
      quiet_came s (front_by dialects types_at attr does (setting inside does.any_key) (front_steps (steps_in dialects id)) [] text s) _ (quiet_front (setting inside does.any_key) (front_steps (steps_in dialects id)) [] text) (λ found rest.
      ap (λ z. done_in (came (steps_by dialects types_at attr does inner place id (region_steps (steps_in dialects id)) found rest z)
      (λ parts u left. end_by dialects types_at attr does place names id parts left u))) (keeps.uses place id found)
      ∙ quiet_came s (steps_by dialects types_at attr does inner place id (region_steps (steps_in dialects id)) found rest s) _
      (quiet_steps inner q place id (region_steps (steps_in dialects id)) found rest) (λ parts left. quiet_end place names id parts left))

  -- an operation, where its regions do
  pub quiet_operation : (inner : Bool → Reads S) → ((iso : Bool) → Quiet s (inner iso)) → (inside : Bool) → Quiet s (operation_by dialects types_at attr does inner inside)
  quiet_operation inner q inside = record {
    at = λ text. quiet_tells s (led_at dialects text) text _ (λ lead rest. quiet_body (inner (isolated dialects lead.1)) (q (isolated dialects lead.1)) inside (length text) lead.0 lead.1 rest);
  }

  -- a block, where its operations do
  pub quiet_block : (operations : Reads S) → Quiet s operations → Quiet s (block_by dialects types_at attr does operations)
  quiet_block operations q = record {
    at = λ text. quiet_tells s (head_at types_at attr text) text _ (λ h rest. ap (λ z. done_in (operations (after_space rest) z)) (keeps.heads h) ∙ q.at (after_space rest));
  }

  -- a region, where its blocks do
  pub quiet_region : (blocks : Reads S) → Quiet s blocks → (iso : Bool) → Quiet s (region_by dialects types_at attr does blocks iso)
  quiet_region blocks q iso = record {
    at = λ text.
        ap (λ t. done_in (tells ((word (codes "{") ▷ space_at) text) text t (λ _ rest. came (blocks rest t) (λ _ u left. tells (word (codes "}") left) left u (λ _ end. Advanced tt (does.leaves iso (length text) u) end)))))
        (keeps.enters iso)
        ∙ quiet_tells s ((word (codes "{") ▷ space_at) text) text _ (λ _ rest. quiet_came s (blocks rest s) _ (q.at rest) (λ _ left.
        quiet_tells s (word (codes "}") left) left (λ _ end. Advanced tt (does.leaves iso (length text) s) end) (λ _ end. keeps.leaves iso (length text))));
  }

  quiet_within : (n : ℕ) (iso : Bool) → Quiet s (region_within dialects types_at attr does n iso)
  quiet_within zero iso = record { at = λ text. refl }
  quiet_within (suc n) iso =
      let item : Quiet s (operation_by dialects types_at attr does (region_within dialects types_at attr does n) true) = quiet_operation (region_within dialects types_at attr does n) (quiet_within n) true in
      let operations : Quiet s (operations_by (operation_by dialects types_at attr does (region_within dialects types_at attr does n) true)) = record { at = quiet_operations s _ item } in
      let block = quiet_block _ operations in
      let blocks : Quiet s (λ rest t. blocks_by (block_by dialects types_at attr does (operations_by (operation_by dialects types_at attr does (region_within dialects types_at attr does n) true))) (length rest) rest t)
      = record { at = λ rest. quiet_blocks s _ block (length rest) rest } in
      record { at = (quiet_region _ blocks iso).at }

  -- the parse of a region leaves unchanged what no item changes
  pub quiet_region_at : (iso : Bool) → Quiet s (region_at dialects types_at attr does iso)
  quiet_region_at iso = record { at = λ text. (quiet_within (suc (length text)) iso).at text }

  -- and so does an operation's
  pub quiet_operation_at : (inside : Bool) → Quiet s (operation_at dialects types_at attr does inside)
  quiet_operation_at inside = record { at = (quiet_operation (region_at dialects types_at attr does) quiet_region_at inside).at }
