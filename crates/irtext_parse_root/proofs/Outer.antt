-- The outermost parser's promise, with the section where it is looked for.
use Rattle.std.proofs.Common.{◌≡◌, ◌∙◌, ◌⊎◌, ◌↔◌, ℕ, Bool, true, false, true≢false, cond, ◌&&◌, List, [], ◌∷◌, refl, sym, subst, inl, inr}
use Rattle.std.specs.Prelude.{IsTrue}
use Rattle.irtext_base.specs.Text.{Text}
use Rattle.irtext_base.specs.Answers.{Outcome}
use Rattle.irtext_base.specs.Own.{Texts}
use Rattle.irtext_base.specs.Locations.{AttrView}
use Rattle.irtext_base.specs.Stream.{StreamView}
use Rattle.irtext_base.specs.declared.parsable.fault.ParseFault.{ParseFault}
use Rattle.irtext_base.specs.declared.text.IrText as ir_text
use Rattle.irtext_context.specs.Dialects.{Table}
use Rattle.irtext_graph.specs.declared.arena.Ptr.{Ptr}
use Rattle.irtext_graph.specs.declared.object.Operation.{Operation}
use Rattle.irtext_parse_state.specs.declared.parsable.state.StateStream.{StateStream}
use Rattle.irtext_grammar.specs.Contexts.Held.{whole}
use Rattle.irtext_grammar.specs.Promises.Root.{UnlessMemory}
use Rattle.irtext_grammar.specs.Promises.Section.{is_noted}
use Rattle.irtext_names.specs.Promises.{HasFault, BuildsTree, BuildsRoot, BuildsWith, RefusesRoot, RefusesWith}
use Rattle.irtext_names.proofs.Refuses.{refuses_tree}
use Rattle.irtext_names.proofs.Root.{root_refused}
use Rattle.irtext_parse_root.proofs.Laws.{Laws}
use Rattle.irtext_parse_root.specs.Parses.{attr, texts}

-- ---- tests
pub marks_there : {X : Type 0} (marks : List X) (b : Bool) → (IsTrue b ↔ (marks ≡ [] → ⊥)) → b ≡ true → marks ≡ [] → ⊥
marks_there marks b h e = h.0 (rw e refl)

pub marks_none : {X : Type 0} (marks : List X) (b : Bool) → (IsTrue b ↔ (marks ≡ [] → ⊥)) → b ≡ false → marks ≡ []
marks_none [] b h e = refl
marks_none (m ∷ ms) b h e = absurd (true≢false (sym (h.1 (λ f. absurd (cc f))) ∙ e))

pub both_are : (a b : Bool) → a ≡ true → b ≡ true → (a && b) ≡ true
both_are true b e f = f
both_are false b e f = absurd (true≢false (sym e))

pub first_is_not : (a b : Bool) → a ≡ false → (a && b) ≡ false
first_is_not true b e = absurd (true≢false e)
first_is_not false b e = refl

-- a mark is recorded where the marks are not none
pub noted_there : {X : Type 0} (marks : List X) (b : Bool) → (IsTrue b ↔ (marks ≡ [] → ⊥)) → b ≡ true → is_noted marks ≡ true
noted_there [] b h e = absurd (h.0 (rw e refl) refl)
noted_there (m ∷ ms) b h e = refl

-- no mark is recorded, whatever the other condition is
pub none_noted : {X : Type 0} (a : Bool) (marks : List X) (b : Bool) → (IsTrue b ↔ (marks ≡ [] → ⊥)) → b ≡ false → (a && is_noted marks) ≡ false
none_noted true [] b h e = refl
none_noted false [] b h e = refl
none_noted a (m ∷ ms) b h e = absurd (true≢false (sym (h.1 (λ e. absurd (cc e))) ∙ e))

-- what holds under a test that holds, and under one that fails
pub held_under : {P : Type 0} (Q : Type 0) (b : Bool) → b ≡ true → P → cond b P Q
held_under Q true e p = p
held_under Q false e p = absurd (true≢false (sym e))

pub held_beside : {Q : Type 0} (P : Type 0) (b : Bool) → b ≡ false → Q → cond b P Q
held_beside P true e q = absurd (true≢false e)
held_beside P false e q = q

-- ---- what was parsed
module _ {T A U : Type 0} (types : Texts T) (owns : Texts A) (attr : Text → Outcome (AttrView A)) (op : Ptr Operation) (old new : StateStream T A U) where
  -- where no section is looked for, or no mark is recorded
  pub built_alone : (look : Bool) {N : Type 0} → (look ≡ false) ⊎ N → BuildsTree types owns attr op old new → (N → BuildsRoot types owns attr op old new) → BuildsWith types owns attr look op old new
  built_alone true (inl e) tree root = absurd (true≢false e)
  built_alone true (inr n) tree root = root n
  built_alone false h tree root = tree

  -- where one is
  pub built_with : (look : Bool) → look ≡ true → BuildsRoot types owns attr op old new → BuildsWith types owns attr look op old new
  built_with true e root = root
  built_with false e root = absurd (true≢false (sym e))

module _ {T A : Type 0} (types : Texts T) (owns : Texts A) (types_at : Text → Outcome T) (attr : Text → Outcome (AttrView A)) (dialects : List (Text × Table)) where
  pub refused_with : (look : Bool) (old : StreamView) (fault : ParseFault A) → look ≡ true → UnlessMemory (RefusesRoot types owns types_at attr dialects old) fault → UnlessMemory (RefusesWith types owns types_at attr dialects look old) fault
  refused_with true old fault e h = h
  refused_with false old fault e h = absurd (true≢false (sym e))

module _ {T A : Type 0} {types : ir_text.Ghosts T A} {owns : ir_text.Ghosts A A} (laws : Laws types owns) (dialects : List (Text × Table)) where
  -- a fault of the operation, where no mark was recorded
  pub fault_with : (look : Bool) (old : StreamView) (fault : ParseFault A) (earlier : List ℕ) → earlier ≡ [] → UnlessMemory (HasFault {T = T} types.reading (attr owns) dialects earlier (whole old) old.rest) fault
      → UnlessMemory (RefusesWith (texts types) (texts owns) types.reading (attr owns) dialects look old) fault
  fault_with look old fault earlier none (inl s) = inl s
  fault_with look old fault earlier none (inr h) = inr (go look (subst (λ ms. HasFault {T = T} types.reading (attr owns) dialects ms (whole old) old.rest fault) none h))
    where
      go : (look : Bool) → HasFault {T = T} types.reading (attr owns) dialects [] (whole old) old.rest fault → RefusesWith (texts types) (texts owns) types.reading (attr owns) dialects look old fault
      go true h = root_refused types.reading types.written owns.reading owns.written dialects laws.types_split laws.splits laws.words laws.short_types laws.short_owns old fault h
      go false h = refuses_tree types.reading types.written owns.reading owns.written dialects laws.types_split laws.splits laws.words laws.short_types laws.short_owns old fault h
