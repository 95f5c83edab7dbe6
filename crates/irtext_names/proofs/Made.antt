-- An operation that is made with what is in hand leaves the state of the machine unchanged, with nothing in hand.
use Rattle.std.proofs.Common.{◌≡◌, ◌<◌, ◌+◌, ◌∙◌, inl, inr, ℕ, zero, suc, List, [], ◌∷◌, ◌++◌, length, Option, Some, IsSome, refl, sym, ap, subst, arith, slice_get}
use Rattle.std.specs.Option.{option_map}
use Rattle.irtext_graph.specs.declared.arena.Ptr.{Ptr}
use Rattle.irtext_graph.specs.declared.object.BasicBlock.{BasicBlock}
use Rattle.irtext_graph.specs.declared.object.Operation.{Operation}
use Rattle.irtext_graph.specs.declared.object.Object.TheVariants.{TheOperation}
use Rattle.irtext_graph.specs.declared.object.Value.{Value}
use Rattle.irtext_graph.specs.declared.object.Value.TheVariants.{Result}
use Rattle.irtext_graph.specs.declared.object.Defined.{Defined}
use Rattle.irtext_graph.specs.declared.object.Defined.TheVariants.{OfValue, OfBlock}
use Rattle.irtext_graph.specs.declared.object.Site.{Site}
use Rattle.irtext_graph.specs.declared.object.Site.TheVariants.{AtOperand, AtSuccessor}
use Rattle.irtext_graph.specs.Chained.{Among}
use Rattle.irtext_graph.specs.Erasing.{owner}
use Rattle.irtext_graph.specs.Graph.{GraphView, MakesOperation, numbered}
use Rattle.irtext_graph.specs.Used.{IsDefined, IsUse, user}
use Rattle.irtext_graph.proofs.Preorders.{among_left, among_right}
use Rattle.irtext_scopes.specs.declared.tracker.NameTracker.{NameTracker}
use Rattle.irtext_scopes.specs.Scopes.{Scope}
use Rattle.irtext_grammar.specs.Names.Script.{Path, Place, result, User, operand, successor}
use Rattle.irtext_grammar.specs.Names.History.{State}
use Rattle.irtext_names.specs.Linked.{Known, NamesAgree}
use Rattle.irtext_names.specs.Tied.{MatchesGraph}
use Rattle.irtext_names.proofs.Added.{made_none}
use Rattle.irtext_names.proofs.Gained.{operation_added}
use Rattle.irtext_names.proofs.Linked.Steps.{operation_made}
use Rattle.irtext_names.specs.Rows.{made_values, made_results, sites_from, with_operation, AreHeldBy, ValuesReady}

-- the use at an index is among those in a row
site_there : {X : Type 0} (user : ℕ → User) (site : ℕ → Site) (k i : ℕ) (x : X) (xs : List X) → slice_get xs i ≡ Some x → Among (user (k + i), site (k + i)) (sites_from user site k xs)
site_there user site k zero x [] e = absurd (cc)
site_there user site k (suc i) x [] e = absurd (cc)
site_there user site k zero x (y ∷ xs) e = inl (ap (λ j. (user j, site j)) (omega arith))
site_there user site k (suc i) x (y ∷ xs) e = inr (subst (λ j. Among (user j, site j) (sites_from user site (suc k) xs)) (omega arith) (site_there user site (suc k) i x xs e))

-- the same of a row from its beginning
site_first : {X : Type 0} (user : ℕ → User) (site : ℕ → Site) (i : ℕ) (x : X) (xs : List X) → slice_get xs i ≡ Some x → Among (user i, site i) (sites_from user site 0 xs)
site_first user site i x xs e = subst (λ j. Among (user j, site j) (sites_from user site 0 xs)) (omega arith) (site_there user site 0 i x xs e)

-- what is among values in a row is one of them
pub value_made : {X : Type 0} (place : ℕ → Place) (value : ℕ → Value) (k : ℕ) (xs : List X) (q : Place) (v : Value) → Among (q, v) (made_values place value k xs) → (i : ℕ) × (v ≡ value (k + i)) × (i < length xs)
value_made place value k [] q v a = absurd a
value_made place value k (x ∷ xs) q v (inl e) = (0, ap (λ z. z.1) e ∙ ap value (omega arith), omega arith)
value_made place value k (x ∷ xs) q v (inr a) = let r = value_made place value (suc k) xs q v a in (suc r.0, r.1 ∙ ap value (omega arith), let l = r.2 in omega (arith, l))

-- so many values are numbered as there are types
pub numbered_there : {T : Type 0} (n i : ℕ) (ts : List T) → i < length ts → IsSome (slice_get (numbered n ts) i)
numbered_there n i [] l = absurd (omega (arith, l))
numbered_there n zero (t ∷ ts) l = refl
numbered_there n (suc i) (t ∷ ts) l = numbered_there (n + 1) i ts (omega (arith, l))

module _ {O B T : Type 0} {g k : GraphView (Option O) B T} (op : Ptr Operation) (x : O) (types : List T) (vs : List Value) (bs : List (Ptr BasicBlock)) (make : MakesOperation g k op (Some x) types vs bs) where
  operand_here : (i : ℕ) (v : Value) → slice_get vs i ≡ Some v → IsUse k (OfValue v) (AtOperand op i)
  operand_here i v e = rw make.operations.updates.changed (ap (option_map OfValue) e)

  successor_here : (i : ℕ) (b : Ptr BasicBlock) → slice_get bs i ≡ Some b → IsUse k (OfBlock b) (AtSuccessor op i)
  successor_here i b e = rw make.operations.updates.changed (ap (option_map OfBlock) e)

  result_here : (i : ℕ) → i < length types → IsDefined k (OfValue (Result op i))
  result_here i l = rw make.operations.updates.changed (numbered_there g.values i types l)

  -- a user is at a site of the operation, and what it uses is used there
  sited : (sites : List (User × Site)) {u w : User} {d e : Defined} (at : Site) → u ≡ w → d ≡ e → user at ≡ op → Among (w, at) sites → IsUse k e at → (s : Site) × Among (u, s) sites × (user s ≡ op) × IsUse k d s
  sited sites at eu ed own among used = (at, subst (λ w. Among (w, at) sites) (sym eu) among, own, subst (λ z. IsUse k z at) (sym ed) used)

  -- it uses what is in hand, as its operands and successors, and its results are made
  pub made_agrees : (names : NameTracker Value (Ptr BasicBlock)) (known : Known) (p : Path) (held : List (User × Defined)) (st : State) → AreHeldBy p vs bs held → NamesAgree names g known held st
      → NamesAgree names k (with_operation p op vs bs types known) [] st
  made_agrees names known p held st are s = operation_made g k names known held st op x types vs bs (made_results p op 0 types)
      (sites_from (operand p) (AtOperand op) 0 vs ++ sites_from (successor p) (AtSuccessor op) 0 bs) make placed made s
    where
      placed : (u : User) (d : Defined) → Among (u, d) held → (s : Site) × Among (u, s) (sites_from (operand p) (AtOperand op) 0 vs ++ sites_from (successor p) (AtSuccessor op) 0 bs) × (user s ≡ op) × IsUse k d s
      placed u d a = elim (are.so u d a) [
        | inl (i, v, eu, ed, at) ↦ sited _ (AtOperand op i) eu ed refl
            (among_left (operand p i, AtOperand op i) (sites_from (operand p) (AtOperand op) 0 vs) (sites_from (successor p) (AtSuccessor op) 0 bs) (site_first (operand p) (AtOperand op) i v vs at)) (operand_here i v at)
        | inr (i, b, eu, ed, at) ↦ sited _ (AtSuccessor op i) eu ed refl
            (among_right (successor p i, AtSuccessor op i) (sites_from (operand p) (AtOperand op) 0 vs) (sites_from (successor p) (AtSuccessor op) 0 bs) (site_first (successor p) (AtSuccessor op) i b bs at)) (successor_here i b at)
      ]

      made : (q : Place) (v : Value) → Among (q, v) (made_results p op 0 types) → (owner (OfValue v) ≡ TheOperation op) × IsDefined k (OfValue v)
      made q v a = let r = value_made (result p) (Result op) 0 types q v a in let l = r.2 in
          (ap (λ z. owner (OfValue z)) r.1, subst (λ z. IsDefined k (OfValue z)) (sym r.1) (result_here (0 + r.0) (omega (arith, l))))

  -- it has its results, and no name waits with one of them
  pub made_ready : (vs' : List (Scope Value)) (ls : List (Scope (Ptr BasicBlock))) → MatchesGraph vs' ls g → ValuesReady (Result op) (length types) vs' k
  made_ready vs' ls t = λ i l. (result_here i l, made_none OfValue vs' (Result op i) t.value_ties (operation_added op make))
