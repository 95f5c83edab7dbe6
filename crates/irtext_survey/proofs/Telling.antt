-- What is found in notes stands in the text where the notes do.
use Rattle.std.proofs.Common.{◌≡◌, ◌∙◌, ◌⊎◌, inl, inr, ℕ, zero, suc, ◌-◌, Bool, true, false, true≢false, cond, List, [], ◌∷◌, length, length-append, take, Option, Some, None, slice_get, is_some, refl, sym, ap, subst, arith}
use Rattle.std.proofs.Math.Seq.{take-append_seam}
use Rattle.std.specs.Prelude.{⊤}
use Rattle.irtext_base.specs.Text.{Text, line_after, column_after}
use Rattle.irtext_base.specs.Reading.{Reading}
use Rattle.irtext_base.specs.Stream.{cut}
use Rattle.irtext_stream.specs.declared.position.SourcePosition.{SourcePosition}
use Rattle.irtext_grammar.specs.Spelling.Spellable.{Each}
use Rattle.irtext_survey.specs.Mentioned.{spelled, HasAt, Stands, IsUsedAt, IsDefinedAt}
use Rattle.irtext_survey.specs.Notes.{same_mention, has_scope, back_over, first_before, first_in_scope, first_unless, or_else, first_unresolved, first_seen, ended_at, defined_at, position_at, is_at, first_use, first_definition, IsFound}
use Rattle.irtext_survey.specs.declared.notes.Mention.{Mention}
use Rattle.irtext_survey.specs.declared.notes.Mention.TheVariants.{UsesValue, UsesLabel, DefinesValue, DefinesLabel}
use Rattle.irtext_survey.specs.declared.notes.Note.{Note}
use Rattle.irtext_survey.specs.declared.notes.Note.TheVariants.{Mentions, Enters, Leaves}
use Rattle.irtext_survey.proofs.NotedThere.{IsThereNoted}

same_is : (a b : Mention) → same_mention a b ≡ true → a ≡ b
same_is UsesValue UsesValue e = refl
same_is UsesLabel UsesLabel e = refl
same_is DefinesValue DefinesValue e = refl
same_is DefinesLabel DefinesLabel e = refl
same_is _ _ e = absurd (true≢false (sym e))

module _ (whole name : Text) where
  -- what was found is such a mention, if anything was
  abbrev pub IsSuch : Mention → Option ℕ → Type 0
  IsSuch m None = ⊤
  IsSuch m (Some k) = HasAt whole (spelled m name) k

  -- what a look has found so far is
  abbrev IsSuchSoFar : Mention → Option (ℕ × Option ℕ) → Type 0
  IsSuchSoFar m None = ⊤
  IsSuchSoFar m (Some s) = IsSuch m s.1

  over_such : (m : Mention) (note : Note ℕ) (k : ℕ) (found : Option ℕ) → IsThereNoted whole name note → IsSuch m found → IsSuchSoFar m (back_over m note (k, found))
  over_such m (Mentions other p) zero found t h = go (same_mention other m) refl
    where
      go : (b : Bool) → same_mention other m ≡ b → IsSuch m (cond b (Some p) found)
      go true e = subst (λ a. HasAt whole (spelled a name) p) (same_is other m e) t
      go false e = h
  over_such m (Mentions other p) (suc k) found t h = h
  over_such m (Leaves iso p) k found t h = h
  over_such m (Enters iso) zero found t h = go (has_scope m iso)
    where
      go : (b : Bool) → IsSuchSoFar m (cond b None (Some (zero, found)))
      go true = tt
      go false = h
  over_such m (Enters iso) (suc k) found t h = h

  -- a note that is there, if there is one
  abbrev IsThereIf : Option (Note ℕ) → Type 0
  IsThereIf None = ⊤
  IsThereIf (Some note) = IsThereNoted whole name note

  note_there : (notes : List (Note ℕ)) → Each (IsThereNoted whole name) notes → (n : ℕ) → IsThereIf (slice_get notes n)
  note_there [] e zero = tt
  note_there [] e (suc n) = tt
  note_there (x ∷ notes) e zero = e.0
  note_there (x ∷ notes) e (suc n) = note_there notes e.1 n

  module _ (notes : List (Note ℕ)) (all : Each (IsThereNoted whole name) notes) where
    before_such : (m : Mention) (n k : ℕ) (found : Option ℕ) → IsSuch m found → IsSuch m (first_before m n notes (k, found))
    before_such m zero k found h = h
    before_such m (suc n) k found h = at (λ j f g. before_such m n j f g) (slice_get notes n) (note_there notes all n)
      where
        over : ((j : ℕ) (f : Option ℕ) → IsSuch m f → IsSuch m (first_before m n notes (j, f))) → (s : Option (ℕ × Option ℕ)) → IsSuchSoFar m s → IsSuch m (elim s [ None ↦ found | Some before ↦ first_before m n notes before ])
        over again None g = h
        over again (Some s) g = again s.0 s.1 g

        at : ((j : ℕ) (f : Option ℕ) → IsSuch m f → IsSuch m (first_before m n notes (j, f))) → (a : Option (Note ℕ)) → IsThereIf a
            → IsSuch m (elim a [ None ↦ found | Some note ↦ elim (back_over m note (k, found)) [ None ↦ found | Some before ↦ first_before m n notes before ] ])
        at again None t = h
        at again (Some note) t = over again (back_over m note (k, found)) (over_such m note k found t h)

    scope_such : (m : Mention) (n : ℕ) → IsSuch m (first_in_scope m n notes)
    scope_such m n = before_such m n zero None tt

    unless_such : (m other : Mention) (n : ℕ) → IsSuch m (first_unless m other n notes)
    unless_such m other n = go (is_some (first_in_scope other n notes))
      where
        go : (b : Bool) → IsSuch m (cond b None (first_in_scope m n notes))
        go true = tt
        go false = scope_such m n

    -- a use that has no definition
    unresolved_such : (iso : Bool) (n : ℕ) → IsSuch UsesValue (first_unresolved iso n notes)
    unresolved_such iso n = either (cond iso (first_unless UsesValue DefinesValue n notes) None) (first_unless UsesLabel DefinesLabel n notes) (go iso) (unless_such UsesLabel DefinesLabel n)
      where
        either : (a b : Option ℕ) → IsSuch UsesValue a → IsSuch UsesLabel b → IsSuch UsesValue (or_else a b)
        either (Some k) b h g = h
        either None None h g = tt
        either None (Some k) h g = g

        go : (b : Bool) → IsSuch UsesValue (cond b (first_unless UsesValue DefinesValue n notes) None)
        go true = unless_such UsesValue DefinesValue n
        go false = tt

    -- a definition
    abbrev IsDefinition : Option ℕ → Type 0
    IsDefinition None = ⊤
    IsDefinition (Some k) = HasAt whole (spelled DefinesValue name) k ⊎ HasAt whole (spelled DefinesLabel name) k

    as_definition : (m : Mention) (o : Option ℕ) → IsSuch m o → IsDefinition o
    as_definition m None h = tt
    as_definition UsesValue (Some k) h = inl h
    as_definition UsesLabel (Some k) h = inl h
    as_definition DefinesValue (Some k) h = inl h
    as_definition DefinesLabel (Some k) h = inr h

  -- what the first note gives of which something is seen
  seen_such : {X : Type 0} (Is : Option ℕ → Type 0) → Is None → (sees : Note ℕ → Option X) (gives : X → ℕ → Option ℕ) → ((x : X) (n : ℕ) → Is (gives x n)) → (n : ℕ) (notes : List (Note ℕ)) → Is (first_seen sees gives n notes)
  seen_such Is none sees gives h n [] = none
  seen_such Is none sees gives h n (note ∷ notes) = go (sees note) (seen_such Is none sees gives h (suc n) notes)
    where
      go : (o : Option _) → Is (first_seen sees gives (suc n) notes) → Is (elim o [ Some x ↦ gives x n | None ↦ first_seen sees gives (suc n) notes ])
      go (Some x) more = h x n
      go None more = more

  -- ---- lines and columns
  stands_at : (reading : Reading) (k : ℕ) (at : SourcePosition) → HasAt whole reading k → at ≡ position_at whole k → Stands whole reading at
  stands_at reading k at h e =
      let n : length whole - k ≡ length h.before = omega (arith, ap length h.same, length-append h.before h.rest, h.counts) in
      let t : take (length whole - k) whole ≡ h.before = ap (λ m. take m whole) n ∙ (ap (take (length h.before)) (sym h.same) ∙ take-append_seam h.before h.rest) in
      record {
        before = h.before;
        rest = h.rest;
        same = h.same;
        is_at = (ap (λ p. p.line) e ∙ ap (λ z. cut (line_after z)) t, ap (λ p. p.column) e ∙ ap (λ z. cut (column_after z)) t);
        left = h.left;
        reads = h.reads;
      }

  used_at : (left : Option ℕ) (at : SourcePosition) → IsSuch UsesValue left → IsFound whole left (Some at) → IsUsedAt whole name at
  used_at None at h f = absurd f
  used_at (Some k) at h f = stands_at (spelled UsesValue name) k at h f

  defined_there : (notes : List (Note ℕ)) (all : Each (IsThereNoted whole name) notes) (left : Option ℕ) (at : SourcePosition) → IsDefinition notes all left → IsFound whole left (Some at) → IsDefinedAt whole name at
  defined_there notes all None at h f = absurd f
  defined_there notes all (Some k) at (inl h) f = inl (stands_at (spelled DefinesValue name) k at h f)
  defined_there notes all (Some k) at (inr h) f = inr (stands_at (spelled DefinesLabel name) k at h f)

  module _ (notes : List (Note ℕ)) (all : Each (IsThereNoted whole name) notes) where
    -- the first use that was found
    pub use_stands : (region at : SourcePosition) → IsFound whole (first_use whole region notes) (Some at) → IsUsedAt whole name at
    use_stands region at f = used_at (first_use whole region notes) at
        (seen_such (IsSuch UsesValue) tt (ended_at (is_at whole region)) (λ iso n. first_unresolved iso n notes) (λ iso n. unresolved_such notes all iso n) 0 notes) f

    -- the first definition that was found
    pub definition_stands : (second at : SourcePosition) → IsFound whole (first_definition whole second notes) (Some at) → IsDefinedAt whole name at
    definition_stands second at f = defined_there notes all (first_definition whole second notes) at
        (seen_such (IsDefinition notes all) tt (defined_at (is_at whole second)) (λ m n. first_in_scope m n notes) (λ m n. as_definition notes all m (first_in_scope m n notes) (scope_such notes all m n)) 0 notes) f
