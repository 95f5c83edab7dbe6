-- Pieces that use names, by the kind of their names: an operand or a successor, or a list of them.
use Rattle.std.proofs.Common.{◌≡◌, ◌∙◌, ◌<◌, ℕ, false, List, [], ◌∷◌, ◌++◌, length, map, slice_get, Some, Result, OnOk, refl, sym, ap, subst, arith, append-nil}
use Rattle.irtext_names.specs.Kinds.{NamesOf, NamesOf.{values, labels}, defined_as, scopes_of, use_of}
use Rattle.irtext_names.specs.Rows.{AreKnown, UsesRow}
use Rattle.irtext_names.proofs.NamesInRow.{no_uses}
use Rattle.irtext_grammar.specs.declared.parsed.ReadName.{ReadName}
use Rattle.irtext_grammar.specs.declared.parsed.ReadPiece.{ReadPiece}
use Rattle.irtext_grammar.specs.Found.{only_words}
use Rattle.irtext_scopes.specs.Scopes.{is_open}
use Rattle.irtext_names.specs.declared.gathered.Gathered.{Gathered}
use Rattle.irtext_names.specs.declared.gathered.Placed.{Placed}
use Rattle.irtext_names.specs.Items.{Names}
use Rattle.irtext_names.specs.Gathering.{single_of, list_of, half_of, with_half, CanUseAll, CanGather, Gathers, GathersHalf, GatherOutside}
use Rattle.irtext_names.specs.Uses.{KeepsScopes, TakesName}
use Rattle.irtext_names.proofs.Gathering.{Objects, Gathering, gathering_can, gathering_more}
use Rattle.irtext_names.proofs.Outcomes.{on_ok}
use Rattle.irtext_names.proofs.Pieces.{operand_one, successor_one, operands_one, successors_one, operand_outside, successor_outside, operands_outside, successors_outside}

-- ---- the numbers of the names
module _ (T A : Type 0) where
  pub single_known : {V : Type 0} (kind : NamesOf V) (count i : ℕ) (n : ReadName) → CanUseAll {T = T} {A = A} count (single_of kind i n ∷ []) → n.name < count
  single_known values count i n c = c.0
  single_known labels count i n c = c.0

  pub list_known : {V : Type 0} (kind : NamesOf V) (count : ℕ) (ns : List ReadName) → CanUseAll {T = T} {A = A} count (list_of kind ns ∷ []) → AreKnown count (map (λ n. n.name) ns)
  list_known values count ns c = c.0
  list_known labels count ns c = c.0

module _ {T A : Type 0} where
  -- ---- no scope of their kind is open
  module _ (names : Names) (g : Objects T A) where
    pub single_outside : {V : Type 0} (kind : NamesOf V) (i : ℕ) (n : ReadName) → is_open (scopes_of kind names) ≡ false → GatherOutside {T = T} {A = A} (single_of kind i n ∷ []) names g n
    single_outside values = operand_outside names g
    single_outside labels = successor_outside names g

    pub list_outside : {V : Type 0} (kind : NamesOf V) (ns : List ReadName) (n : ReadName) → slice_get ns 0 ≡ Some n → is_open (scopes_of kind names) ≡ false → GatherOutside {T = T} {A = A} (list_of kind ns ∷ []) names g n
    list_outside values = operands_outside names g
    list_outside labels = successors_outside names g

  -- ---- they were used
  module _ {old new : Names} {g h : Objects T A} where
    -- one that has a directive of its own
    pub single_half : {V : Type 0} (kind : NamesOf V) (before after : Placed V) (i : ℕ) (n : ReadName) (v : V) → after.single.items ≡ before.single.items ++ (i, v) ∷ [] → after.list.items ≡ before.list.items
        → TakesName (defined_as kind) (use_of kind) n.name old new g h v → GathersHalf kind (single_of kind i n) old g before new h after
    single_half values before after i n v single list t x is can = operand_one i n v t (single ∙ ap (λ p. p.single.items ++ (i, v) ∷ []) (sym is)) (list ∙ ap (λ p. p.list.items) (sym is)) refl refl refl refl
    single_half labels before after i n v single list t x is can = successor_one i n v t (single ∙ ap (λ p. p.single.items ++ (i, v) ∷ []) (sym is)) (list ∙ ap (λ p. p.list.items) (sym is)) refl refl refl refl

    -- a list
    pub list_half : {V : Type 0} (kind : NamesOf V) (before after : Placed V) (ns : List ReadName) (more : List V) → after.list.items ≡ before.list.items ++ more → after.single.items ≡ before.single.items
        → UsesRow (defined_as kind) (use_of kind) (map (λ n. n.name) ns) old new g h more → GathersHalf kind (list_of kind ns) old g before new h after
    list_half values before after ns more list single row x is can = operands_one ns more can.operands_once.0 row (list ∙ ap (λ p. p.list.items ++ more) (sym is)) (single ∙ ap (λ p. p.single.items) (sym is)) refl refl refl refl
    list_half labels before after ns more list single row x is can = successors_one ns more can.successors_once.0 row (list ∙ ap (λ p. p.list.items ++ more) (sym is)) (single ∙ ap (λ p. p.single.items) (sym is)) refl refl refl refl

  -- the operands, or the successors, are those of an operation
  pub half_if : {X E V : Type 0} (old new : Names) (g h : Objects T A) (kind : NamesOf V) (r : Result X E) (x : Gathered T A) (after : Placed V) (piece q : ReadPiece T A) → piece ≡ q → CanGather old x.operands.list.items x.successors.list.items (piece ∷ [])
      → OnOk r (GathersHalf kind q old g (half_of kind x) new h after) → OnOk r (Gathers (piece ∷ []) old g x new h (with_half kind x after))
  half_if old new g h kind r x after piece q e can = on_ok r (λ gathers. subst (λ p. Gathers (p ∷ []) old g x new h (with_half kind x after)) (sym e)
      (gathers x refl (subst (λ p. CanGather old x.operands.list.items x.successors.list.items (p ∷ [])) e can)))

  -- a list without names
  pub none_half : {V : Type 0} (kind : NamesOf V) (names : Names) (g : Objects T A) (placed : Placed V) (ns : List ReadName) → length ns ≡ 0 → GathersHalf kind (list_of kind ns) names g placed names g placed
  none_half kind names g placed [] none = list_half kind placed placed [] [] (sym (append-nil placed.list.items)) refl (no_uses (defined_as kind) (use_of kind) names g)
  none_half kind names g placed (n ∷ ns) none = absurd (omega (arith, none))

  -- the next piece uses names, and was gathered
  pub gathering_half : {V : Type 0} (kind : NamesOf V) {all : List (ReadPiece T A)} {old now new : Names} {g h k : Objects T A} {x y : Gathered T A} (after : Placed V) (n : ℕ) (p : ReadPiece T A) (ps : List (ReadPiece T A)) (s : Gathering all (only_words n ++ p ∷ ps) old g x now h y)
      → KeepsScopes now new h k → GathersHalf kind p now h (half_of kind y) new k after → Gathering all ps old g x new k (with_half kind y after)
  gathering_half kind {y = y} after n p ps s keeps gathers = gathering_more n p ps s keeps (gathers y refl (gathering_can n p ps s))
