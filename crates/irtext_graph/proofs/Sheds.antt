-- Objects that are no older than a mark are taken out.
use Rattle.std.proofs.Common.{◌≡◌, ◌∙◌, inl, inr, ℕ, refl, sym, ap, cond, Option, Some, None, slice_get}
use Rattle.std.proofs.lemmas.Bool.{lt-ltb, le-ltb}
use Rattle.irtext_graph.specs.Arena.{get, found, born_in, older, AtLeast, AreOlder, Sheds}
use Rattle.irtext_graph.specs.Back.{ShedsAll}
use Rattle.irtext_graph.specs.Log.{age}
use Rattle.irtext_graph.specs.declared.arena.Arena.{Arena}
use Rattle.irtext_graph.specs.declared.arena.Entry.{Entry}
use Rattle.irtext_graph.specs.declared.arena.Ptr.{Ptr}
use Rattle.irtext_graph.specs.declared.object.Object.{Object}
use Rattle.irtext_graph.specs.declared.object.Object.TheVariants.{TheOperation, TheBlock, TheRegion}
use Rattle.irtext_graph.specs.declared.objects.Objects.{Objects}
use Rattle.irtext_graph.proofs.Moves.{lower}

module _ {X : Type 0} where
  pub sheds_on : (mark : ℕ) (a b c : Arena X) → Sheds mark a b → Sheds mark b c → Sheds mark a c
  sheds_on mark a b c s t = record {
    at = λ i g. elim (t.at i g) [
      | inl same ↦ elim (s.at i g) [
        | inl before ↦ inl (same ∙ before)
        | inr gone ↦ inr (same ∙ gone.0, gone.1)
      ]
      | inr gone ↦ elim (s.at i g) [
        | inl before ↦ inr (gone.0, rw (← before) gone.1)
        | inr earlier ↦ inr (gone.0, earlier.1)
      ]
    ];
    generations = λ i. t.generations i ∙ s.generations i;
    few = λ f. t.few (s.few f);
  }

  -- an object that is no older than the mark afterwards was no older before
  pub shed_age : (mark : ℕ) (a b : Arena X) → Sheds mark a b → (i g : ℕ) → AtLeast mark (born_in (found (slice_get b.slots.items i) g)) → AtLeast mark (born_in (found (slice_get a.slots.items i) g))
  shed_age mark a b s i g l = elim (s.at i g) [
    | inl same ↦ rw (← same) l
    | inr gone ↦ gone.1
  ]

  pub older_keeps : (mark : ℕ) (e : Option (Entry X)) → (AtLeast mark (born_in e) → ⊥) → older mark e ≡ e
  older_keeps mark None n = refl
  older_keeps mark (Some e) n = elim (lower e.born mark) [
    | inl l ↦ ap (λ b. cond b (Some e) None) (lt-ltb e.born mark l)
    | inr h ↦ absurd (n h)
  ]

  pub older_drops : (mark : ℕ) (e : Option (Entry X)) → AtLeast mark (born_in e) → older mark e ≡ None
  older_drops mark None l = absurd l
  older_drops mark (Some e) l = ap (λ b. cond b (Some e) None) (le-ltb e.born mark l)

  -- where nothing is left that is no older, the arena holds what is older
  pub shed_all : {K : Type 0} (mark : ℕ) (a b : Arena X) → Sheds mark a b → ((p : Ptr K) → AtLeast mark (born_in (get b p)) → ⊥) → (p : Ptr K) → get b p ≡ older mark (get a p)
  shed_all mark a b s none p = elim (s.at p.index p.generation) [
    | inl same ↦ same ∙ sym (older_keeps mark (get a p) (λ l. none p (rw same l)))
    | inr gone ↦ gone.0 ∙ sym (older_drops mark (get a p) gone.1)
  ]

  -- what is left is as old as it was
  pub older_shed : (made mark : ℕ) (a b : Arena X) → AreOlder made a → Sheds mark a b → AreOlder made b
  older_shed made mark a b h s i g o e = elim (s.at i g) [
    | inl same ↦ h i g o (sym same ∙ e)
    | inr gone ↦ absurd (let n = gone.0 in cc)
  ]

module _ {O B T : Type 0} where
  pub sheds_all_on : (mark : ℕ) (x y z : Objects O B T) → ShedsAll mark x y → ShedsAll mark y z → ShedsAll mark x z
  sheds_all_on mark x y z s t = record {
    operations = sheds_on mark x.operations y.operations z.operations s.operations t.operations;
    blocks = sheds_on mark x.blocks y.blocks z.blocks s.blocks t.blocks;
    regions = sheds_on mark x.regions y.regions z.regions s.regions t.regions;
  }

  pub shed_object : (mark : ℕ) (x y : Objects O B T) → ShedsAll mark x y → (o : Object) → AtLeast mark (age y o) → AtLeast mark (age x o)
  shed_object mark x y s (TheOperation p) l = shed_age mark x.operations y.operations s.operations p.index p.generation l
  shed_object mark x y s (TheBlock p) l = shed_age mark x.blocks y.blocks s.blocks p.index p.generation l
  shed_object mark x y s (TheRegion p) l = shed_age mark x.regions y.regions s.regions p.index p.generation l
