-- A definition takes nothing away but the placeholder that waited for it.
use Rattle.std.proofs.Common.{◌≡◌, ◌∙◌, ◌⊎◌, inl, inr, ℕ, refl, sym, ap, subst, List, Option, Some, None, IsSome, length, slice_get}
use Rattle.std.specs.Option.{option_map}
use Rattle.irtext_graph.specs.declared.arena.Ptr.{Ptr}
use Rattle.irtext_graph.specs.declared.object.BasicBlock.{BasicBlock}
use Rattle.irtext_graph.specs.declared.object.Operation.{Operation}
use Rattle.irtext_graph.specs.declared.object.Region.{Region}
use Rattle.irtext_graph.specs.declared.object.Object.{Object}
use Rattle.irtext_graph.specs.declared.object.Object.TheVariants.{TheOperation, TheBlock, TheRegion}
use Rattle.irtext_graph.specs.declared.object.Value.TheVariants.{Result, Argument}
use Rattle.irtext_graph.specs.declared.object.Defined.{Defined}
use Rattle.irtext_graph.specs.declared.object.Defined.TheVariants.{OfValue, OfBlock}
use Rattle.irtext_graph.specs.Erasing.{without_uses, owner}
use Rattle.irtext_graph.specs.Graph.{GraphView, content, parent, IsLive, IsNew}
use Rattle.irtext_graph.specs.Objects.{is_older}
use Rattle.irtext_graph.specs.Parts.{operation_at, results}
use Rattle.irtext_graph.specs.Used.{IsDefined}
use Rattle.irtext_graph.proofs.Nests.{same_or_other, some_eq}
use Rattle.irtext_graph.proofs.Same.{object_tells}
use Rattle.irtext_grammar.specs.Unchanged.{UsesAsMany}
use Rattle.irtext_grammar.proofs.Edits.{replaced_as_many, erased_as_many, as_many_then}
use Rattle.irtext_scopes.specs.Scopes.{Scope, find, innermost, placeholder_of}
use Rattle.irtext_names.specs.Placeholders.{IsPlaceholder, SettlesIfAny, Defines}
use Rattle.irtext_names.specs.Tied.{Tied}
use Rattle.irtext_names.proofs.Pairs.{held_if}
use Rattle.irtext_names.proofs.SameBut.{SameBut, same_age, same_self, same_then, data_in, data_is, results_in, results_are, still_placeholder}
use Rattle.irtext_names.proofs.Settled.{replaced_same, erased_same}
use Rattle.irtext_names.specs.LosesPlaceholders.{BlanksHaveResults, IsPlaced, HasAsMany, StaysAlike, LosesPlaceholders}

-- ---- live objects
some_mapped : {X Y : Type 0} (f : X → Y) (o : Option X) → IsSome o → IsSome (option_map f o)
some_mapped f None h = absurd (cc)
some_mapped f (Some x) h = refl

mapped_some : {X Y : Type 0} (f : X → Y) (o : Option X) → IsSome (option_map f o) → IsSome o
mapped_some f None h = absurd (cc)
mapped_some f (Some x) h = refl

module _ {O B T : Type 0} where
  same_is_live : (g k : GraphView O B T) (q : Object) → option_map without_uses (content k q) ≡ option_map without_uses (content g q) → IsLive g q → IsLive k q
  same_is_live g k q e s = mapped_some without_uses (content k q) (subst IsSome (sym e) (some_mapped without_uses (content g q) s))

-- ---- operations without data
module _ {O B T : Type 0} (g k : GraphView (Option O) B T) where
  -- if an operation has no data, it has a result
  abbrev pub HasResult : Ptr Operation → Type 0
  HasResult p = option_map (λ c. c.data_of) (operation_at k p) ≡ Some None → (i : ℕ) × IsDefined k (OfValue (Result p i))

  -- if each operation is unchanged, except for what it uses, or has a result if it has no data, those without data have results if they had
  pub blanks_by : ((p : Ptr Operation) → (option_map without_uses (content k (TheOperation p)) ≡ option_map without_uses (content g (TheOperation p))) ⊎ HasResult p)
      → (m : ℕ) → BlanksHaveResults m g → BlanksHaveResults m k
  blanks_by same m h p e n = elim (same p) [
    | inl s ↦
        let r = h p (data_is g p ∙ (ap data_in (sym s) ∙ (sym (data_is k p) ∙ e))) (same_age m k g (TheOperation p) (sym s) ∙ n) in
        (r.0, subst (λ c. IsSome (slice_get c r.0)) (sym (results_are k p ∙ (ap results_in s ∙ sym (results_are g p)))) r.1)
    | inr u ↦ u e
  ]

module _ {O B T : Type 0} where
  many_more : (g h k : GraphView (Option O) B T) (q : Object) → HasAsMany g h q → HasAsMany h k q → HasAsMany g k q
  many_more g h k (TheOperation p) m n = as_many_then g h k p m n
  many_more g h k (TheBlock b) m n = tt
  many_more g h k (TheRegion r) m n = tt

  -- what is alike is no placeholder still
  still_placed : (g h : GraphView (Option O) B T) (q : Object) → StaysAlike g h q → IsPlaced g q → IsPlaced h q
  still_placed g h (TheOperation p) a (x, e) = (x, data_is h p ∙ (ap data_in a.contents ∙ (sym (data_is g p) ∙ e)))
  still_placed g h (TheBlock b) a s = (same_is_live g h (TheBlock b) a.contents s.0, subst IsSome (sym a.parents) s.1)
  still_placed g h (TheRegion r) a t = same_is_live g h (TheRegion r) a.contents t

  -- nothing changed
  many_itself : (g : GraphView (Option O) B T) (q : Object) → HasAsMany g g q
  many_itself g (TheOperation p) = record { as_many_operands = refl; as_many_successors = refl }
  many_itself g (TheBlock b) = tt
  many_itself g (TheRegion r) = tt

  pub loses_nothing : (g : GraphView (Option O) B T) → LosesPlaceholders g g
  loses_nothing g = record {
    operations = λ p x e. e;
    results = λ p x e. refl;
    blocks = λ b o e. (e, λ l. l);
    regions = λ r l. l;
    newer = λ m q n. n;
    made = refl;
    alike = λ q p. record { contents = refl; as_many = many_itself g q; parents = refl; lists = refl };
    brought = λ q p. p;
    blanks = λ m h. h;
  }

  pub loses_more : {g h k : GraphView (Option O) B T} → LosesPlaceholders g h → LosesPlaceholders h k → LosesPlaceholders g k
  loses_more {g} {h} {k} l m = record {
    operations = λ p x e. m.operations p x (l.operations p x e);
    results = λ p x e. m.results p x (l.operations p x e) ∙ l.results p x e;
    blocks = λ b o e. let r = l.blocks b o e in let q = m.blocks b o r.0 in (q.0, λ s. q.1 (r.1 s));
    regions = λ r s. m.regions r (l.regions r s);
    newer = λ n q h. m.newer n q (l.newer n q h);
    made = m.made ∙ l.made;
    alike = λ q p. let a = l.alike q p in let b = m.alike q (still_placed g h q a p) in record { contents = b.contents ∙ a.contents; as_many = many_more g h k q a.as_many b.as_many; parents = b.parents ∙ a.parents; lists = b.lists ∙ a.lists };
    brought = λ q p. l.brought q (m.brought q p);
    blanks = λ n h. m.blanks n (l.blanks n h);
  }

  module _ {g k : GraphView (Option O) B T} (d : Option Defined) (p : (x : Defined) → d ≡ Some x → IsPlaceholder g x) (s : SameBut g k (option_map owner d)) (same : k.made ≡ g.made)
      (many : (p : Ptr Operation) → (option_map owner d ≡ Some (TheOperation p) → ⊥) → UsesAsMany g k p) where
    -- what has data is no placeholder
    has_data : (q : Ptr Operation) (x : O) → option_map (λ c. c.data_of) (operation_at g q) ≡ Some (Some x) → option_map owner d ≡ Some (TheOperation q) → ⊥
    has_data q x e f = go d refl f
      where
        blank : (y : Defined) → IsPlaceholder g y → owner y ≡ TheOperation q → ⊥
        blank (OfValue (Result r i)) h o = let same : r ≡ q = cc in let b = subst (λ z. option_map (λ c. c.data_of) (operation_at g z) ≡ Some None) same h.blank in cc
        blank (OfValue (Argument b i)) h o = cc
        blank (OfBlock b) h o = cc

        go : (y : Option Defined) → d ≡ y → option_map owner y ≡ Some (TheOperation q) → ⊥
        go None i o = cc
        go (Some y) i o = blank y (p y i) (some_eq o)

    -- a block with a parent is not the placeholder
    is_live_in : (b : Ptr BasicBlock) (o : Object) → parent g (TheBlock b) ≡ Some o → option_map owner d ≡ Some (TheBlock b) → ⊥
    is_live_in b o e f = go d refl f
      where
        go : (y : Option Defined) → d ≡ y → option_map owner y ≡ Some (TheBlock b) → ⊥
        go None i h = cc
        go (Some y) i h = let free : parent g (TheBlock b) ≡ None = subst (λ z. parent g z ≡ None) (some_eq h) ((p y i).free) in cc

    no_region : (r : Ptr Region) → option_map owner d ≡ Some (TheRegion r) → ⊥
    no_region r f = go d f
      where
        one : (y : Defined) → owner y ≡ TheRegion r → ⊥
        one (OfValue (Result q i)) o = cc
        one (OfValue (Argument b i)) o = cc
        one (OfBlock b) o = cc

        go : (y : Option Defined) → option_map owner y ≡ Some (TheRegion r) → ⊥
        go None o = cc
        go (Some y) o = one y (some_eq o)

    -- what is no placeholder is not the one that is lost
    placed_apart : (q : Object) → IsPlaced g q → option_map owner d ≡ Some q → ⊥
    placed_apart (TheOperation q) (x, e) = has_data q x e
    placed_apart (TheBlock b) h = placed_block b (parent g (TheBlock b)) refl h.1
      where
        placed_block : (b : Ptr BasicBlock) (o : Option Object) → parent g (TheBlock b) ≡ o → IsSome o → option_map owner d ≡ Some (TheBlock b) → ⊥
        placed_block b None e h = absurd (cc)
        placed_block b (Some o) e h = is_live_in b o e
    placed_apart (TheRegion r) t = no_region r

    many_placed : (q : Object) → (option_map owner d ≡ Some q → ⊥) → HasAsMany g k q
    many_placed (TheOperation p) n = many p n
    many_placed (TheBlock b) n = tt
    many_placed (TheRegion r) n = tt

    -- an object that is no placeholder now was none before
    was_placed : (q : Object) → IsPlaced k q → IsPlaced g q
    was_placed q p = go d refl
      where
        gone : (q : Object) → content k q ≡ None → IsPlaced k q → ⊥
        gone (TheOperation p) e (x, h) = let f = sym h ∙ (data_is k p ∙ ap (λ c. data_in (option_map without_uses c)) e) in cc
        gone (TheBlock b) e h = let f = subst IsSome e h.0 in cc
        gone (TheRegion r) e h = let f = subst IsSome e h in cc

        same_placed : (q : Object) → (option_map owner d ≡ Some q → ⊥) → IsPlaced k q → IsPlaced g q
        same_placed (TheOperation p) n (x, h) = (x, data_is g p ∙ (ap data_in (sym (s.contents (TheOperation p) n)) ∙ (sym (data_is k p) ∙ h)))
        same_placed (TheBlock b) n h = (same_is_live k g (TheBlock b) (sym (s.contents (TheBlock b) n)) h.0, subst IsSome (s.parents (TheBlock b) n) h.1)
        same_placed (TheRegion r) n h = same_is_live k g (TheRegion r) (sym (s.contents (TheRegion r) n)) h

        go : (y : Option Defined) → d ≡ y → IsPlaced g q
        go None i = same_placed q (λ e. let f = ap (option_map owner) (sym i) ∙ e in cc) p
        go (Some y) i = elim (same_or_other object_tells (owner y) q) [
          | inl e ↦ absurd (gone q (s.gone q (ap (option_map owner) i ∙ ap Some e)) p)
          | inr ne ↦ same_placed q (λ e. ne (some_eq (ap (option_map owner) (sym i) ∙ e))) p
        ]

    -- each operation has the same contents as before, or, if it has no data, a result
    as_blank : (p : Ptr Operation) → (option_map without_uses (content k (TheOperation p)) ≡ option_map without_uses (content g (TheOperation p))) ⊎ HasResult g k p
    as_blank p = go d refl
      where
        go : (y : Option Defined) → d ≡ y → (option_map without_uses (content k (TheOperation p)) ≡ option_map without_uses (content g (TheOperation p))) ⊎ HasResult g k p
        go None i = inl (s.contents (TheOperation p) (λ e. let f = ap (option_map owner) (sym i) ∙ e in cc))
        go (Some y) i = elim (same_or_other object_tells (owner y) (TheOperation p)) [
          | inl e ↦ inr (λ b. let f = sym b ∙ (data_is k p ∙ ap (λ c. data_in (option_map without_uses c)) (s.gone (TheOperation p) (ap (option_map owner) i ∙ ap Some e))) in absurd (cc))
          | inr ne ↦ inl (s.contents (TheOperation p) (λ e. ne (some_eq (ap (option_map owner) (sym i) ∙ e))))
        ]

    -- an object that was new is still new, even if it was removed
    still_new : (m : ℕ) (q : Object) → IsNew m g q → IsNew m k q
    still_new m q n = go d refl
      where
        other : (option_map owner d ≡ Some q → ⊥) → IsNew m k q
        other ne = same_age m g k q (s.contents q ne) ∙ n

        go : (y : Option Defined) → d ≡ y → IsNew m k q
        go None i = other (λ e. let f = ap (option_map owner) (sym i) ∙ e in cc)
        go (Some y) i = elim (same_or_other object_tells (owner y) q) [
          | inl e ↦ ap (is_older m) (s.gone q (ap (option_map owner) i ∙ ap Some e))
          | inr ne ↦ other (λ e. ne (some_eq (ap (option_map owner) (sym i) ∙ e)))
        ]

    pub same_loses : LosesPlaceholders g k
    same_loses = record {
      operations = λ q x e. data_is k q ∙ (ap data_in (s.contents (TheOperation q) (has_data q x e)) ∙ (sym (data_is g q) ∙ e));
      results = λ q x e. ap length (results_are k q ∙ (ap results_in (s.contents (TheOperation q) (has_data q x e)) ∙ sym (results_are g q)));
      blocks = λ b o e. (s.parents (TheBlock b) (is_live_in b o e) ∙ e, same_is_live g k (TheBlock b) (s.contents (TheBlock b) (is_live_in b o e)));
      regions = λ r. same_is_live g k (TheRegion r) (s.contents (TheRegion r) (no_region r));
      newer = still_new;
      made = same;
      alike = λ q p. let apart = placed_apart q p in record { contents = s.contents q apart; as_many = many_placed q apart; parents = s.parents q apart; lists = s.lists q apart };
      brought = was_placed;
      blanks = blanks_by g k as_blank;
    }

  settled_same : {g k : GraphView (Option O) B T} (e : Defined) (d : Option Defined) → ((x : Defined) → d ≡ Some x → IsPlaceholder g x) → SettlesIfAny g k d e → SameBut g k (option_map owner d)
  settled_same {g} e None p s = rw s (same_self g)
  settled_same {g} e (Some d) p s =
      let placeholder : IsPlaceholder s.between d = still_placeholder (replaced_same s.replaces) d (λ f. cc) (p d refl) in
      same_then (replaced_same s.replaces) (erased_same placeholder s.only s.takes_out)

  -- each operation that is left has as many operands and successors
  settled_many : (g k : GraphView (Option O) B T) (e : Defined) (d : Option Defined) → SettlesIfAny g k d e → (p : Ptr Operation) → (option_map owner d ≡ Some (TheOperation p) → ⊥) → UsesAsMany g k p
  settled_many g k e None s p n = subst (λ z. UsesAsMany g z p) (sym s) (record { as_many_operands = refl; as_many_successors = refl })
  settled_many g k e (Some d) s p n = as_many_then g s.between k p (replaced_as_many g s.between d e s.replaces p) (erased_as_many s.between k (owner d) s.takes_out p (λ i. n (ap Some (sym (s.only (TheOperation p) i)))))

  settled_made : (g k : GraphView (Option O) B T) (e : Defined) (d : Option Defined) → SettlesIfAny g k d e → k.made ≡ g.made
  settled_made g k e None s = ap (λ g. g.made) s
  settled_made g k e (Some d) s = s.takes_out.made ∙ ap (λ g. g.made) s.replaces.rest

  -- a name was defined
  pub defined_loses : {V : Type 0} (of : V → Defined) (vs vs' : List (Scope V)) (g k : GraphView (Option O) B T) (n : ℕ) (v : V) → Tied of vs g → Defines of vs vs' g k n v → LosesPlaceholders g k
  defined_loses of vs vs' g k n v t d =
      let o = option_map of (placeholder_of (find n (innermost vs))) in
      same_loses o (held_if of n vs t) (settled_same (of v) o (held_if of n vs t) d.settles) (settled_made g k (of v) o d.settles) (settled_many g k (of v) o d.settles)
