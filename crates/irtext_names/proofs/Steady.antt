-- As many scopes stay open, and names still match the graph, from call to call.
use Rattle.std.proofs.Common.{◌≡◌, ◌⊎◌, ◌<◌, ◌≤◌, ◌+◌, ◌∙◌, ℕ, zero, suc, List, [], ◌∷◌, ◌++◌, length, map, get_or, slice_get, Option, Some, None, Result, Ok, Err, IfOk, OnErr, IsSome, inl, inr, refl, sym, ap, subst, arith}
use Rattle.irtext_graph.specs.declared.arena.Ptr.{Ptr}
use Rattle.irtext_graph.specs.declared.object.BasicBlock.{BasicBlock}
use Rattle.irtext_graph.specs.declared.object.Value.{Value}
use Rattle.irtext_graph.specs.declared.object.Defined.TheVariants.{OfValue}
use Rattle.std.specs.Option.{option_map}
use Rattle.irtext_graph.specs.declared.object.Operation.{Operation}
use Rattle.irtext_graph.specs.declared.object.Object.TheVariants.{TheOperation, TheRegion}
use Rattle.irtext_graph.specs.declared.object.Value.TheVariants.{Result as ValueResult}
use Rattle.irtext_graph.specs.Content.{Content, Content.{AnOperation, ARegion}, OperationContent, RegionContent}
use Rattle.irtext_graph.specs.Erasing.{without_uses}
use Rattle.irtext_graph.specs.Store.{get}
use Rattle.irtext_graph.proofs.Nests.{same_or_other}
use Rattle.irtext_graph.proofs.Same.{ptr_tells}
use Rattle.irtext_graph.specs.Graph.{GraphView, content, parent_of, content_of}
use Rattle.irtext_graph.specs.Used.{IsDefined}
use Rattle.irtext_graph.proofs.Closed.{older_on}
use Rattle.irtext_scopes.specs.declared.scopes.Entry.{Entry}
use Rattle.irtext_scopes.specs.Scopes.{Scope, find, innermost, in_innermost, is_open}
use Rattle.irtext_grammar.specs.Names.Script.{User}
use Rattle.irtext_grammar.specs.Names.TextScopes.{Word}
use Rattle.irtext_names.specs.Kinds.{NamesOf, NamesOf.{values, labels}, other, defined_as, scopes_of, use_of, BlankOf, Makes}
use Rattle.irtext_names.specs.Linked.{TakesUse}
use Rattle.irtext_names.specs.Placeholders.{Uses, MakesValue, MakesLabel, IsUnchanged}
use Rattle.irtext_names.specs.Tied.{MatchesGraph, KeepsTies}
use Rattle.irtext_names.proofs.Lists.{older_itself}
use Rattle.irtext_names.proofs.ByKind.{made_there}
use Rattle.irtext_names.proofs.NamesInRow.{use_there}
use Rattle.irtext_names.specs.Items.{Names}
use Rattle.irtext_names.specs.LosesPlaceholders.{BlanksHaveResults}
use Rattle.irtext_names.specs.Uses.{BringsNone, KeepsScopes, TakesName}
use Rattle.irtext_names.proofs.Losing.{blanks_by}

-- what is seen of an operation
abbrev pub seen_operation : (O B T : Type 0) → Option (ℕ × OperationContent (Option O) T) → Option (Content (Option O) B T)
seen_operation O B T o = option_map (λ d. AnOperation d.0 d.1) o

-- what is seen of a region
abbrev pub seen_region : (O B T : Type 0) → Option (ℕ × RegionContent) → Option (Content O B T)
seen_region O B T o = option_map (λ d. ARegion d.0 d.1) o

-- ---- scopes
-- as many scopes are open where one is
pub open_by_depth : {V : Type 0} (ss ts : List (Scope V)) → length ss ≡ length ts → is_open ss ≡ is_open ts
open_by_depth [] [] e = refl
open_by_depth [] (t ∷ ts) e = absurd (omega (arith, e))
open_by_depth (s ∷ ss) [] e = absurd (omega (arith, e))
open_by_depth (s ∷ ss) (t ∷ ts) e = refl

depth_in_innermost : {V : Type 0} (f : Scope V → Scope V) (ss : List (Scope V)) → length (in_innermost f ss) ≡ length ss
depth_in_innermost f [] = refl
depth_in_innermost f (s ∷ ss) = refl

module _ {O B T V : Type 0} (Makes : GraphView (Option O) B T → GraphView (Option O) B T → V → Type 0) (old new : List (Scope V)) (g h : GraphView (Option O) B T) (n : ℕ) where
  use_depth : (v : V) → Uses Makes old new g h n v → length new ≡ length old
  use_depth v u = go (find n (innermost old)) refl
    where
      go : (o : Option (Entry V)) → find n (innermost old) ≡ o → length new ≡ length old
      go (Some e) f = ap length (u.known e f).1
      go None f = ap length (u.unknown f).0 ∙ depth_in_innermost _ old

  -- a use opens no scope and leaves none
  pub depth_used : {E : Type 0} (r : Result V E) → IfOk r (λ v. Uses Makes old new g h n v) → OnErr r (new ≡ old) → length new ≡ length old
  depth_used (Ok v) u e = use_depth v u
  depth_used (Err x) u e = ap length e

-- ---- what comes
module _ {O B T : Type 0} where
  pub brings_itself : (g : GraphView (Option O) B T) → BringsNone g g
  brings_itself g = record { operations = λ p x e. e; blocks = λ b o e. e; regions = λ r s. s }

  pub brings_both : {g h k : GraphView (Option O) B T} → BringsNone g h → BringsNone h k → BringsNone g k
  brings_both s t = record {
    operations = λ p x e. s.operations p x (t.operations p x e);
    blocks = λ b o e. s.blocks b o (t.blocks b o e);
    regions = λ r e. s.regions r (t.regions r e);
  }

  as_before : (g h : GraphView (Option O) B T) → IsUnchanged g h → BringsNone g h
  as_before g h s = record {
    operations = λ p x e. ap (λ z. option_map (λ c. c.data_of) (option_map (λ e. e.content.content) z)) (sym (s.operations p)) ∙ e;
    blocks = λ b o e. ap (λ z. option_map TheRegion (parent_of z)) (sym (s.blocks b)) ∙ e;
    regions = λ r e. subst (λ z. IsSome (seen_region (Option O) B T (content_of z))) (s.regions r) e;
  }

  label_brings : (value : B) (g h : GraphView (Option O) B T) (b : Ptr BasicBlock) → MakesLabel value g h b → BringsNone g h
  label_brings value g h b m = record {
    operations = λ p x e. ap (λ s. option_map (λ c. c.data_of) (option_map (λ e. e.content.content) (get s p))) (sym m.operations) ∙ e;
    blocks = λ c o e. elim (same_or_other ptr_tells c b) [
      | inl same ↦ let none = ap (λ z. option_map TheRegion (parent_of z)) (ap (get h.blocks) same ∙ m.blocks.updates.changed) in let bad = sym none ∙ e in absurd (cc)
      | inr n ↦ ap (λ z. option_map TheRegion (parent_of z)) (sym (m.blocks.updates.others c n)) ∙ e
    ];
    regions = λ r e. subst (λ s. IsSome (seen_region (Option O) B T (content_of (get s r)))) m.regions e;
  }

module _ {O B T : Type 0} where
  value_brings : (g h : GraphView (Option O) B (Option T)) (v : Value) → MakesValue g h v → BringsNone g h
  value_brings g h v m = record {
    operations = λ p x e. elim (same_or_other ptr_tells p m.operation) [
      | inl same ↦ let none = ap (λ z. option_map (λ c. c.data_of) (option_map (λ e. e.content.content) z)) (ap (get h.operations) same ∙ m.makes.operations.updates.changed) in let bad = sym none ∙ e in absurd (cc)
      | inr n ↦ ap (λ z. option_map (λ c. c.data_of) (option_map (λ e. e.content.content) z)) (sym (m.makes.operations.updates.others p n)) ∙ e
    ];
    blocks = λ b o e. ap (λ s. option_map TheRegion (parent_of (get s b))) (sym m.makes.blocks) ∙ e;
    regions = λ r e. subst (λ s. IsSome (seen_region (Option O) B (Option T) (content_of (get s r)))) m.makes.regions e;
  }

  placeholder_brings : {V : Type 0} (kind : NamesOf V) (blank : BlankOf B kind) (g h : GraphView (Option O) B (Option T)) (v : V) → Makes kind blank g h v → BringsNone g h
  placeholder_brings values blank = value_brings
  placeholder_brings labels blank = label_brings blank

-- ---- operations without data
module _ {O B T : Type 0} where
  same_place : (g h : GraphView (Option O) B T) (p : Ptr Operation) → get h.operations p ≡ get g.operations p
      → option_map without_uses (content h (TheOperation p)) ≡ option_map without_uses (content g (TheOperation p))
  same_place g h p e = ap (λ z. option_map without_uses (seen_operation O B T (content_of z))) e

  -- what brings no operation brings none without a result
  same_blanks : (g h : GraphView (Option O) B T) → ((p : Ptr Operation) → get h.operations p ≡ get g.operations p) → (m : ℕ) → BlanksHaveResults m g → BlanksHaveResults m h
  same_blanks g h same = blanks_by g h (λ p. inl (same_place g h p (same p)))

module _ {O B T : Type 0} where
  -- the placeholder of a value has a result, and that of a label adds no operation
  placeholder_blanks : {V : Type 0} (kind : NamesOf V) (blank : BlankOf B kind) (g h : GraphView (Option O) B (Option T)) (v : V) → Makes kind blank g h v → IsDefined h (defined_as kind v) → (m : ℕ) → BlanksHaveResults m g → BlanksHaveResults m h
  placeholder_blanks values blank g h v m there = blanks_by g h (λ p. elim (same_or_other ptr_tells p m.operation) [
    | inl same ↦ inr (λ b. (0, subst (λ q. IsDefined h (OfValue (ValueResult q 0))) (sym same) (subst (λ w. IsDefined h (OfValue w)) m.value there)))
    | inr apart ↦ inl (same_place g h p (m.makes.operations.updates.others p apart))
  ])
  placeholder_blanks labels blank g h b m there = same_blanks g h (λ p. ap (λ s. get s p) m.operations)

-- ---- calls one after another
module _ {O B T : Type 0} where
  pub steady_itself : (names : Names) (g : GraphView (Option O) B T) → MatchesGraph names.values names.labels g → KeepsScopes names names g g
  steady_itself names g t = record { names = refl; values = refl; labels = refl; tied = t; waiting = λ m own le w. w; kept = λ m le. older_itself m g; brings = brings_itself g; blanks = λ m h. h }

  pub steady_both : {old mid new : Names} {g h k : GraphView (Option O) B T} → KeepsScopes old mid g h → KeepsScopes mid new h k → KeepsScopes old new g k
  steady_both {g} {h} {k} s t = record {
    names = t.names ∙ s.names;
    values = t.values ∙ s.values;
    labels = t.labels ∙ s.labels;
    tied = t.tied;
    waiting = λ m own le w. let up = (s.kept m le).made in t.waiting m own (omega (arith, le, up)) (s.waiting m own le w);
    kept = λ m le. let up = (s.kept m le).made in older_on m g h k (s.kept m le) (t.kept m (omega (arith, le, up)));
    brings = brings_both s.brings t.brings;
    blanks = λ m h. t.blanks m (s.blanks m h);
  }

-- ---- a name that is used
-- as many scopes of a kind stay open
pub depth_of : {O B T V : Type 0} (kind : NamesOf V) (old new : Names) (g h : GraphView (Option O) B T) → KeepsScopes old new g h → length (scopes_of kind new) ≡ length (scopes_of kind old)
depth_of values old new g h s = s.values
depth_of labels old new g h s = s.labels

module _ {O B T : Type 0} where
  -- what stays so, where a call is about names of a kind
  steady_by : {V : Type 0} (kind : NamesOf V) (old new : Names) (g h : GraphView (Option O) B T) → length (scopes_of kind new) ≡ length (scopes_of kind old) → (new.names ≡ old.names) × (scopes_of (other kind) new ≡ scopes_of (other kind) old) → KeepsTies old new g h
      → BringsNone g h → ((m : ℕ) → BlanksHaveResults m g → BlanksHaveResults m h) → KeepsScopes old new g h
  steady_by values old new g h depth rest ties brings blanks = record { names = rest.0; values = depth; labels = ap length rest.1; tied = ties.tied; waiting = ties.waiting; kept = ties.kept; brings = brings; blanks = blanks }
  steady_by labels old new g h depth rest ties brings blanks = record { names = rest.0; values = ap length rest.1; labels = depth; tied = ties.tied; waiting = ties.waiting; kept = ties.kept; brings = brings; blanks = blanks }

module _ {O B T V E : Type 0} (kind : NamesOf V) (blank : BlankOf B kind) (old new : Names) (g h : GraphView (Option O) B (Option T)) (n : ℕ) where
  -- what a use did: nothing, or it made a placeholder, or it failed
  use_did : (r : Result V E) → IfOk r (λ v. Uses (Makes kind blank) (scopes_of kind old) (scopes_of kind new) g h n v) → OnErr r (IsUnchanged g h)
      → (h ≡ g) ⊎ ((v : V) × (r ≡ Ok v) × Makes kind blank g h v) ⊎ IsUnchanged g h
  use_did (Err x) u e = inr (inr e)
  use_did (Ok v) u e = go (find n (innermost (scopes_of kind old))) refl
    where
      go : (o : Option (Entry V)) → find n (innermost (scopes_of kind old)) ≡ o → (h ≡ g) ⊎ ((w : V) × (◌≡◌ {A = Result V E} (Ok v) (Ok w)) × Makes kind blank g h w) ⊎ IsUnchanged g h
      go (Some x) f = inl (u.known x f).2
      go None f = inr (inl (v, refl, (u.unknown f).1))

  -- the name stands for what was returned
  pub takes_name : (r : Result V E) → IfOk r (λ v. Uses (Makes kind blank) (scopes_of kind old) (scopes_of kind new) g h n v) → IfOk r (λ v. IsDefined h (defined_as kind v))
      → IfOk r (λ v. (w : Word) (u : User) → slice_get old.names n ≡ Some w.name → TakesUse (use_of kind w u) old new g h u (defined_as kind v)) → IfOk r (TakesName (defined_as kind) (use_of kind) n old new g h)
  takes_name (Ok v) u t f = record { still = use_there (Makes kind blank) (scopes_of kind old) (scopes_of kind new) g h n v u (λ d m e. made_there g h kind blank v m d e); there = t; follows = f }
  takes_name (Err x) u t f = tt

  -- it brings nothing but a placeholder, and each operation without data has a result if that was so before
  pub use_steady : (r : Result V E) → IfOk r (λ v. Uses (Makes kind blank) (scopes_of kind old) (scopes_of kind new) g h n v) → IfOk r (λ v. IsDefined h (defined_as kind v))
      → OnErr r (scopes_of kind new ≡ scopes_of kind old) → OnErr r (IsUnchanged g h) → (new.names ≡ old.names) × (scopes_of (other kind) new ≡ scopes_of (other kind) old) → KeepsTies old new g h → KeepsScopes old new g h
  use_steady r uses there scopes objects rest ties = steady_by kind old new g h (depth_used (Makes kind blank) (scopes_of kind old) (scopes_of kind new) g h n r uses scopes) rest ties brings blanks
    where
      brings : BringsNone g h
      brings = elim (use_did r uses objects) [
        | inl same ↦ subst (BringsNone g) (sym same) (brings_itself g)
        | inr (inl (v, is, m)) ↦ placeholder_brings kind blank g h v m
        | inr (inr as_was) ↦ as_before g h as_was
      ]

      blanks : (m : ℕ) → BlanksHaveResults m g → BlanksHaveResults m h
      blanks = elim (use_did r uses objects) [
        | inl same ↦ same_blanks g h (λ p. ap (λ z. get z.operations p) same)
        | inr (inl (v, is, m)) ↦ placeholder_blanks kind blank g h v m (subst (λ s. IfOk s (λ v. IsDefined h (defined_as kind v))) is there)
        | inr (inr as_was) ↦ same_blanks g h (λ p. as_was.operations p)
      ]

-- ---- names in a row
pub length_names : {X Y : Type 0} (f : X → Y) (xs : List X) → length (map f xs) ≡ length xs
length_names f [] = refl
length_names f (x ∷ xs) = ap suc (length_names f xs)

pub number_here : {X Y : Type 0} (f : X → Y) (xs : List X) (i : ℕ) (x : X) → i < length xs → slice_get (map f xs) i ≡ Some (f (get_or xs i x))
number_here f [] i x l = absurd (omega (arith, l))
number_here f (y ∷ ys) zero x l = refl
number_here f (y ∷ ys) (suc i) x l = number_here f ys i x (omega (arith, l))
