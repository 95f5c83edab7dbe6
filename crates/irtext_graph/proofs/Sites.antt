-- The places of uses in a list, and how far a use is from the end of its use list.
use Rattle.std.proofs.Common.{◌≡◌, ◌<◌, ◌+◌, ◌∙◌, ◌⊎◌, ℕ, zero, suc, refl, sym, ap, subst, arith, inl, inr, Bool, true, false, cond, Option, Some, None, IsSome, List, [], ◌∷◌, ◌++◌, slice_get, length, option_map}
use Rattle.std.proofs.lemmas.Option.{slice_get_within}
use Rattle.irtext_graph.specs.declared.arena.Ptr.{Ptr}
use Rattle.irtext_graph.specs.declared.arena.Slot.{Slot}
use Rattle.irtext_graph.specs.declared.arena.Slot.TheVariants.{Vacant, Full}
use Rattle.irtext_graph.specs.declared.arena.Entry.{Entry}
use Rattle.irtext_graph.specs.declared.nest.Nest.{Nest}
use Rattle.irtext_graph.specs.declared.object.Operation.{Operation}
use Rattle.irtext_graph.specs.declared.object.BasicBlock.{BasicBlock}
use Rattle.irtext_graph.specs.declared.object.Region.{Region}
use Rattle.irtext_graph.specs.declared.object.Defined.{Defined}
use Rattle.irtext_graph.specs.declared.object.Defined.TheVariants.{OfValue, OfBlock}
use Rattle.irtext_graph.specs.declared.object.Object.TheVariants.{TheOperation, TheBlock, TheRegion}
use Rattle.irtext_graph.specs.declared.object.Object.{Object}
use Rattle.irtext_graph.specs.declared.object.Value.TheVariants.{Result, Argument}
use Rattle.irtext_graph.specs.declared.object.Site.{Site}
use Rattle.irtext_graph.specs.declared.object.Site.TheVariants.{AtOperand, AtSuccessor}
use Rattle.irtext_graph.specs.declared.objects.Objects.{Objects}
use Rattle.irtext_graph.specs.declared.objects.OperationData.{OperationData}
use Rattle.irtext_graph.specs.declared.objects.Use.{Use}
use Rattle.irtext_graph.specs.declared.objects.BlockData.{BlockData}
use Rattle.irtext_graph.specs.Arena.{get}
use Rattle.irtext_graph.specs.Nested.{climb}
use Rattle.irtext_graph.specs.Chained.{Among}
use Rattle.irtext_graph.specs.Objects.{Lives}
use Rattle.irtext_graph.specs.Uses.{use_at, val, prv, nxt, head_at, preds_in, next_of, either, operand_in, successor_in, AreUsesLinked, eq_site}
use Rattle.irtext_graph.specs.Erasing.{user, owner, IsUsedInside, IsAllUsedInside}
use Rattle.irtext_graph.proofs.Nests.{seen, some_eq}
use Rattle.irtext_graph.proofs.Linked.{site_tells}
use Rattle.irtext_graph.proofs.Arenas.{in_slot}
use Rattle.irtext_graph.proofs.Pointers.{ptr_same}
use Rattle.irtext_graph.proofs.Moves.{lower}
use Rattle.irtext_graph.proofs.Kept.{datum_back}
use Rattle.irtext_graph.proofs.Preorders.{among_left, among_right}
use Rattle.irtext_graph.proofs.Chains.{Path, path_from, among, none_left}
use Rattle.irtext_graph.proofs.Rank.{depth, Counts, deeper}

-- what f gives below a number
abbrev row : (ℕ → Site) → ℕ → List Site
row f zero = []
row f (suc n) = f n ∷ row f n

in_row : (f : ℕ → Site) (n j : ℕ) → j < n → Among (f j) (row f n)
in_row f zero j low = absurd (omega (arith, low))
in_row f (suc n) j low = elim (lower j n) [
  | inl l ↦ inr (in_row f n j l)
  | inr h ↦ inl (let e : j ≡ n = omega (arith, low, h) in ap f e)
]

-- the index of a use in a list
abbrev index_of : Site → List Site → ℕ
index_of u [] = 0
index_of u (x ∷ xs) = cond (eq_site x u) 0 (suc (index_of u xs))

at_index : (u : Site) (xs : List Site) → Among u xs → slice_get xs (index_of u xs) ≡ Some u
at_index u [] m = absurd m
at_index u (x ∷ xs) m = go (at_index u xs) (eq_site x u) refl
  where
    go : (Among u xs → slice_get xs (index_of u xs) ≡ Some u) → (b : Bool) → eq_site x u ≡ b → slice_get (x ∷ xs) (cond b 0 (suc (index_of u xs))) ≡ Some u
    go ih true e = ap Some (site_tells.sound x u e)
    go ih false e = elim m [
      | inl same ↦ absurd (let f : eq_site x u ≡ true = ap (λ y. eq_site y u) (sym same) ∙ site_tells.same u in cc)
      | inr later ↦ ih later
    ]

abbrev ptr_of : ℕ → ℕ → Ptr Operation
ptr_of i g = record { index = i; generation = g; of = record {} }

module _ {O T : Type 0} where
  -- the uses that the operation of a place makes
  abbrev of_slot : ℕ → Slot (Nest BasicBlock Region (OperationData O T)) → List Site
  of_slot i (Vacant g n) = []
  of_slot i (Full g e) = row (AtOperand (ptr_of i g)) (length e.content.data.operands) ++ row (AtSuccessor (ptr_of i g)) (length e.content.data.successors)

  -- those of all places from one on
  abbrev from : ℕ → List (Slot (Nest BasicBlock Region (OperationData O T))) → List Site
  from i [] = []
  from i (s ∷ ss) = of_slot i s ++ from (suc i) ss

  in_from : (u : Site) (k i n : ℕ) (xs : List (Slot (Nest BasicBlock Region (OperationData O T)))) (s : Slot (Nest BasicBlock Region (OperationData O T))) → slice_get xs i ≡ Some s → n ≡ k + i → Among u (of_slot n s) → Among u (from k xs)
  in_from u k i n [] s e z m = absurd (cc)
  in_from u k zero n (x ∷ xs) s e z m =
      let f : n ≡ k = omega (arith, z) in
      among_left u (of_slot k x) (from (suc k) xs) (subst (λ y. Among u (of_slot k y)) (sym (some_eq e)) (subst (λ j. Among u (of_slot j s)) f m))
  in_from u k (suc i) n (x ∷ xs) s e z m = among_right u (of_slot k x) (from (suc k) xs) (in_from u (suc k) i n xs s e (omega (arith, z)) m)

module _ {O B T : Type 0} where
  -- the places of all uses
  abbrev pub sites : Objects O B T → List Site
  sites x = from 0 x.operations.slots.items

  in_operation : (x : Objects O B T) (p : Ptr Operation) (e : Entry (Nest BasicBlock Region (OperationData O T))) (u : Site) → get x.operations p ≡ Some e → Among u (of_slot p.index (Full p.generation e)) → Among u (sites x)
  in_operation x p e u at m = in_from u 0 p.index p.index x.operations.slots.items (Full p.generation e) (in_slot (slice_get x.operations.slots.items p.index) p.generation e at) (omega arith) m

  -- a use that an operation holds in one of its lists is among them
  among_held : {D : Type 0} (x : Objects O B T) (p : Ptr Operation) (s : Entry (Nest BasicBlock Region (OperationData O T))) → get x.operations p ≡ Some s
      → (kind : D → Defined) (at : Ptr Operation → ℕ → Site) (us : List (Use D)) (i : ℕ)
      → (Among (at (ptr_of p.index p.generation) i) (row (at (ptr_of p.index p.generation)) (length us)) → Among (at (ptr_of p.index p.generation) i) (of_slot p.index (Full p.generation s)))
      → IsSome (option_map (either kind) (slice_get us i)) → Among (at p i) (sites x)
  among_held x p s e kind at us i into l = elim (seen (slice_get us i)) [
    | inl none ↦ absurd (let k = none in cc)
    | inr (o, f) ↦
        let same : ptr_of p.index p.generation ≡ p = ptr_same (ptr_of p.index p.generation) p refl refl in
        let m = into (in_row (at (ptr_of p.index p.generation)) (length us) i (slice_get_within us i o f)) in
        in_operation x p s (at p i) e (subst (λ q. Among (at q i) (of_slot p.index (Full p.generation s))) same m)
  ]

  among_sites : (x : Objects O B T) (u : Site) → IsSome (use_at x u) → Among u (sites x)
  among_sites x (AtOperand p i) l = go (get x.operations p) refl l
    where
      go : (s : Option (Entry (Nest BasicBlock Region (OperationData O T)))) → get x.operations p ≡ s → IsSome (option_map (either OfValue) (operand_in s i)) → Among (AtOperand p i) (sites x)
      go None e l = absurd (cc)
      go (Some s) e l = among_held x p s e OfValue AtOperand s.content.data.operands i (among_left _ _ _) l
  among_sites x (AtSuccessor p i) l = go (get x.operations p) refl l
    where
      go : (s : Option (Entry (Nest BasicBlock Region (OperationData O T)))) → get x.operations p ≡ s → IsSome (option_map (either OfBlock) (successor_in s i)) → Among (AtSuccessor p i) (sites x)
      go None e l = absurd (cc)
      go (Some s) e l = among_held x p s e OfBlock AtSuccessor s.content.data.successors i (among_right _ _ _) l

  next_there : (x : Objects O B T) (u w : Site) → nxt x u ≡ Some w → IsSome (use_at x u)
  next_there x u w e = go (use_at x u) e
    where
      go : (s : Option (Use Defined)) → next_of s ≡ Some w → IsSome s
      go None e = absurd (cc)
      go (Some s) e = refl

  abbrev number : Objects O B T → Site → ℕ
  number x u = index_of u (sites x)

  numbers : (x : Objects O B T) → Counts (nxt x) (number x) (length (sites x))
  numbers x = record {
    small = λ u w e. slice_get_within (sites x) (number x u) u (at_index u (sites x) (among_sites x u (next_there x u w e)));
    tells = λ u u' w w' e f same. some_eq (sym (at_index u (sites x) (among_sites x u (next_there x u u' e))) ∙ ap (slice_get (sites x)) same ∙ at_index w (sites x) (among_sites x w (next_there x w w' f)));
  }

  list_ends : (x : Objects O B T) → AreUsesLinked x → ((u : Site) → IsSome (use_at x u) → IsSome (val x u)) → (u : Site) → (n : ℕ) × (climb (nxt x) n (Some u) ≡ None)
  list_ends x c used u = elim (seen (use_at x u)) [
    | inl none ↦ (1, ap next_of none)
    | inr (s, e) ↦ elim (seen (val x u)) [
      | inl none ↦ absurd (let l = used u (rw e refl) in let k = rw none at l in cc)
      | inr (d, f) ↦ go d (c.rank u + 1) u (omega arith) f
    ]
  ]
    where
      go : (d : Defined) (n : ℕ) (u : Site) → c.rank u < n → val x u ≡ Some d → (m : ℕ) × (climb (nxt x) m (Some u) ≡ None)
      go d zero u low f = absurd (omega (arith, low))
      go d (suc n) u low f = elim (seen (nxt x u)) [
        | inl none ↦ (1, none)
        | inr (w, e) ↦ let k = c.next_ok u w d f e in let r = go d n w (let l = k.2 in omega (arith, low, l)) k.0 in (suc r.0, ap (climb (nxt x) r.0) e ∙ r.1)
      ]

  -- how many uses come from one on
  abbrev pub to_end : Objects O B T → Option Site → ℕ
  to_end x at = depth (nxt x) (suc (length (sites x))) at

  pub nearer : (x : Objects O B T) (u : Site) → AreUsesLinked x → ((u : Site) → IsSome (use_at x u) → IsSome (val x u)) → to_end x (nxt x u) < to_end x (Some u)
  nearer x u c used = elim (seen (nxt x u)) [
    | inl none ↦ let a : to_end x (nxt x u) ≡ 0 = ap (to_end x) none in omega (arith, a)
    | inr (w, e) ↦
        let a : to_end x (nxt x u) ≡ to_end x (Some w) = ap (to_end x) e in
        let b : to_end x (Some u) ≡ suc (to_end x (Some w)) = deeper (nxt x) (number x) (length (sites x)) (numbers x) (list_ends x c used) u w e in
        omega (arith, a, b)
  ]

  -- the operation of a use that is there lives
  pub user_lives : (x : Objects O B T) (u : Site) → IsSome (use_at x u) → Lives x (user u)
  user_lives x (AtOperand p i) l = go (get x.operations p) refl l
    where
      go : (s : Option (Entry (Nest BasicBlock Region (OperationData O T)))) → get x.operations p ≡ s → IsSome (option_map (either OfValue) (operand_in s i)) → Lives x (TheOperation p)
      go None e l = absurd (cc)
      go (Some s) e l = rw e refl
  user_lives x (AtSuccessor p i) l = go (get x.operations p) refl l
    where
      go : (s : Option (Entry (Nest BasicBlock Region (OperationData O T)))) → get x.operations p ≡ s → IsSome (option_map (either OfBlock) (successor_in s i)) → Lives x (TheOperation p)
      go None e l = absurd (cc)
      go (Some s) e l = rw e refl

  -- the list of d, which every use of it is in
  pub list_of : (x : Objects O B T) (d : Defined) (c : AreUsesLinked x) (h : Option Site) → head_at x d ≡ Some h → (us : List Site) × Path (val x) (prv x) (nxt x) d h us × ((u : Site) → val x u ≡ Some d → Among u us)
  list_of x d c None e = ([], refl, λ u used. absurd (none_left c d e c.bound u (omega arith) used))
  list_of x d c (Some w) e =
      let k = c.head_ok d w e in
      let p = path_from c d (c.rank w + 1) w (omega arith) k.0 in
      (p.0, p.1, λ u used. among c d p.0 (Some w) e p.1 c.bound u (omega arith) used)

  -- the first of what is left is a use
  pub first_used : (x : Objects O B T) (d : Defined) (at : Option Site) (u : Site) (us : List Site) → Path (val x) (prv x) (nxt x) d at us → at ≡ Some u → val x u ≡ Some d
  first_used x d at u [] p e = absurd (cc)
  first_used x d at u (w ∷ us) p e = let s : w ≡ u = some_eq (sym p.0 ∙ e) in ap (val x) (sym s) ∙ p.1

  -- what is left after the first
  pub stepped : (x : Objects O B T) (d : Defined) (at : Option Site) (u : Site) (us : List Site) → Path (val x) (prv x) (nxt x) d at us → at ≡ Some u
      → (ws : List Site) × Path (val x) (prv x) (nxt x) d (nxt x u) ws × ((w : Site) → Among w us → (w ≡ u) ⊎ Among w ws)
  stepped x d at u [] p e = absurd (cc)
  stepped x d at u (w ∷ us) p e =
      let s : w ≡ u = some_eq (sym p.0 ∙ e) in
      (us, subst (λ z. Path (val x) (prv x) (nxt x) d (nxt x z) us) s p.2, λ v m. elim m [ inl h ↦ inl (h ∙ s) | inr k ↦ inr k ])

  -- at the end nothing is left
  pub none_rest : (x : Objects O B T) (d : Defined) (at : Option Site) (us : List Site) → Path (val x) (prv x) (nxt x) d at us → at ≡ None → (u : Site) → Among u us → ⊥
  none_rest x d at [] p e u m = m
  none_rest x d at (w ∷ us) p e u m = let k = p.0 in absurd (cc)

  -- a definition that is not there has no uses
  pub none_beyond : (x : Objects O B T) (o : Object) (d : Defined) → AreUsesLinked x → (IsSome (head_at x d) → ⊥) → IsUsedInside x o d
  none_beyond x o d c away = record { uses = λ u e. absurd (let h = c.alive u d e in away (rw h.1 refl)) }

  pub all_results : (x : Objects O B T) (o : Object) (p : Ptr Operation) → ((i : ℕ) → IsUsedInside x o (OfValue (Result p i))) → IsAllUsedInside x o (TheOperation p)
  all_results x o p all = record { all = go }
    where
      go : (d : Defined) → owner d ≡ TheOperation p → IsUsedInside x o d
      go (OfValue (Result q i)) e = let s : q ≡ p = cc in subst (λ r. IsUsedInside x o (OfValue (Result r i))) (sym s) (all i)
      go (OfValue (Argument b i)) e = absurd (cc)
      go (OfBlock b) e = absurd (cc)

  pub all_arguments : (x : Objects O B T) (o : Object) (b : Ptr BasicBlock) → IsUsedInside x o (OfBlock b) → ((i : ℕ) → IsUsedInside x o (OfValue (Argument b i))) → IsAllUsedInside x o (TheBlock b)
  all_arguments x o b block all = record { all = go }
    where
      go : (d : Defined) → owner d ≡ TheBlock b → IsUsedInside x o d
      go (OfValue (Result q i)) e = absurd (cc)
      go (OfValue (Argument q i)) e = let s : q ≡ b = cc in subst (λ r. IsUsedInside x o (OfValue (Argument r i))) (sym s) (all i)
      go (OfBlock q) e = let s : q ≡ b = cc in subst (λ r. IsUsedInside x o (OfBlock r)) (sym s) block

  pub all_none : (x : Objects O B T) (o : Object) (r : Ptr Region) → IsAllUsedInside x o (TheRegion r)
  all_none x o r = record { all = go }
    where
      go : (d : Defined) → owner d ≡ TheRegion r → IsUsedInside x o d
      go (OfValue (Result q i)) e = absurd (cc)
      go (OfValue (Argument q i)) e = absurd (cc)
      go (OfBlock q) e = absurd (cc)

  -- a block that lives has a first use, or none
  pub block_head : (x : Objects O B T) (b : Ptr BasicBlock) → Lives x (TheBlock b) → IsSome (head_at x (OfBlock b))
  block_head x b l = go (get x.blocks b) (datum_back _ (get x.blocks b) l)
    where
      go : (s : Option (Entry (Nest Region Operation (BlockData B T)))) → IsSome s → IsSome (preds_in s)
      go None l = absurd (cc)
      go (Some s) l = refl
