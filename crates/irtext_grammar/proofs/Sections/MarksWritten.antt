-- The marks of what is printed of a graph are numbered on without a gap, in the order of the text, and nothing there is an entry.
use Rattle.std.proofs.Common.{◌≡◌, ℕ, zero, suc, ◌+◌, Bool, true, false, cond, ◌&&◌, nat_lt, List, [], ◌∷◌, ◌++◌, map, length, Option, Some, None, refl, sym, ap, ◌∙◌, subst, arith}
use Rattle.std.specs.Prelude.{⊤}
use Rattle.irtext_base.specs.Text.{Text}
use Rattle.irtext_base.specs.Format as format
use Rattle.irtext_base.specs.Format.{Format, same_text, ascend, count, region_places, is_regions, Id}
use Rattle.irtext_grammar.specs.Grammar.Forest.{Regions, no_regions, region, Blocks, no_blocks, block, Operations, no_operations, operation, regions_list}
use Rattle.irtext_grammar.specs.Grammar.Tree as tree
use Rattle.irtext_grammar.specs.Grammar.Tree.{Name, Attribute, Piece, Part, Op, Head, Brace, parts_of}
use Rattle.irtext_grammar.specs.Spelling.Spellable.{IsIdentifier, Enough}
use Rattle.irtext_grammar.specs.Graphs.Graph.{Graph, Limit, GraphOp, GraphBlock, Printing, value, is_marked, mark_at, own_marks, body_of, tree_op, tree_head, tree_regions, tree_blocks, tree_operations, marks_in_regions, marks_in_blocks, marks_in_operations, written, op_outlined, block_outlined}
use Rattle.irtext_grammar.specs.Names.Script.{Path, Act, Script, does, within, does_all}
use Rattle.irtext_grammar.specs.Names.Scopes.{fact_of, facts, outward}
use Rattle.irtext_grammar.specs.Names.Acts.{value_uses, label_uses, result_definitions, argument_definitions, mark_acts, key_act, entries_if, piece_acts, all_of, parts_script, closing_acts, header_acts, region_scripts, blocks_script, operations_script, tree_script, Rule, may_hold, block_may_hold}
use Rattle.irtext_grammar.specs.Graphs.Closed.{FitsFormat, FitRegions, FitBlocks, FitOperations, Fit}
use Rattle.irtext_grammar.specs.Spelling.SectionEntries.{numbers}
use Rattle.irtext_grammar.proofs.Graphs.FitsFormat.{meets, and_left, and_right}
use Rattle.irtext_grammar.proofs.Lists.Numbers.{numbers_both}
use Rattle.irtext_grammar.proofs.Graphs.WrittenSpellable.{Room, room, enough}
use Rattle.irtext_grammar.proofs.Graphs.WrittenScript.{does_both}

-- its marks are the numbers from n to below m, and it has no entries
pub record Numbered (m n : ℕ) (x : Script Text ⊤) : Type 0 where
  pub count : ℕ
  pub sum : n + count ≡ m
  pub marks : (facts same_text x).marks ≡ numbers n count
  pub entries : (facts same_text x).entries ≡ []

numbered_from : {k m n : ℕ} {x : Script Text ⊤} → n ≡ k → Numbered m k x → Numbered m n x
numbered_from {m = m} {x = x} e f = subst (λ z. Numbered m z x) (sym e) f

-- an act that marks nothing and is no entry
pub record Silent (a : Act Text ⊤) : Type 0 where
  pub marks : (fact_of a).marks ≡ []
  pub entries : (fact_of a).entries ≡ []

-- none of the acts is a mark or an entry
abbrev pub AllSilent : List (Act Text ⊤) → Type 0
AllSilent [] = ⊤
AllSilent (a ∷ rest) = Silent a × AllSilent rest

numbered_act : {m n : ℕ} (a : Act Text ⊤) {x : Script Text ⊤} → Silent a → Numbered m n x → Numbered m n (does a x)
numbered_act a {x = x} s f = record {
  count = f.count;
  sum = f.sum;
  marks = ap (λ z. z ++ (facts same_text x).marks) s.marks ∙ f.marks;
  entries = ap (λ z. z ++ (facts same_text x).entries) s.entries ∙ f.entries;
}

numbered_acts : {m n : ℕ} (xs : List (Act Text ⊤)) {x : Script Text ⊤} → AllSilent xs → Numbered m n x → Numbered m n (does_all xs x)
numbered_acts [] s f = f
numbered_acts (a ∷ rest) s f = numbered_act a s.0 (numbered_acts rest s.1 f)

values_silent : (p : Path) (k : ℕ) (ns : List (Name ⊤)) → AllSilent (value_uses p k ns)
values_silent p k [] = tt
values_silent p k (n ∷ ns) = (record { marks = refl; entries = refl }, values_silent p (suc k) ns)

labels_silent : (p : Path) (k : ℕ) (ns : List (Name ⊤)) → AllSilent (label_uses p k ns)
labels_silent p k [] = tt
labels_silent p k (n ∷ ns) = (record { marks = refl; entries = refl }, labels_silent p (suc k) ns)

results_silent : (p : Path) (k : ℕ) (ns : List (Name ⊤)) → AllSilent (result_definitions p k ns)
results_silent p k [] = tt
results_silent p k (n ∷ ns) = (record { marks = refl; entries = refl }, results_silent p (suc k) ns)

arguments_silent : {T : Type 0} (p : Path) (k : ℕ) (ns : List (Name ⊤ × T)) → AllSilent (argument_definitions p k ns)
arguments_silent p k [] = tt
arguments_silent p k (n ∷ ns) = (record { marks = refl; entries = refl }, arguments_silent p (suc k) ns)

keys_silent : {A : Type 0} (rule : Rule A) (es : List (Name ⊤ × Attribute A)) → AllSilent (map (key_act rule) es)
keys_silent rule [] = tt
keys_silent rule (e ∷ es) = (record { marks = refl; entries = refl }, keys_silent rule es)

-- the list of parts has a place for each of these, and no more
abbrev pub EnoughFor : {P T A S : Type 0} → List (Part P T A) → List S → Type 0
EnoughFor [] [] = ⊤
EnoughFor [] (r ∷ rs) = ⊥
EnoughFor (tree.piece p ∷ ps) rs = EnoughFor ps rs
EnoughFor (tree.region i ∷ ps) [] = ⊥
EnoughFor (tree.region i ∷ ps) (r ∷ rs) = EnoughFor ps rs
EnoughFor {P} {T} {A} {S} (tree.regions ∷ ps) rs = EnoughFor {S = S} ps []

-- region by region, the marks numbered on from n to e
abbrev pub NumberedRegions : ℕ → ℕ → List (Script Text ⊤ → Script Text ⊤) → Type 0
NumberedRegions n e [] = n ≡ e
NumberedRegions n e (r ∷ rs) = (k : ℕ) × ((m : ℕ) (x : Script Text ⊤) → Numbered m k x → Numbered m n (r x)) × NumberedRegions k e rs

all_numbered : (m n e : ℕ) (rs : List (Script Text ⊤ → Script Text ⊤)) (x : Script Text ⊤) → NumberedRegions n e rs → Numbered m e x → Numbered m n (all_of rs x)
all_numbered m n e [] x h f = numbered_from h f
all_numbered m n e (r ∷ rs) x (k, q, g) f = q m (all_of rs x) (all_numbered m k e rs x g f)

within_numbered : (m n k : ℕ) (iso : Bool) (body x : Script Text ⊤) → Numbered k n body → Numbered m k x → Numbered m n (within iso tt body x)
within_numbered m n k iso body x b f =
    let i = b.sum in
    let j = f.sum in
    record {
      count = b.count + f.count;
      sum = omega arith;
      marks = ap (λ z. z ++ (facts same_text x).marks) (outward_marks iso body ∙ b.marks) ∙ (ap (λ z. numbers n b.count ++ z) (f.marks ∙ ap (λ z. numbers z f.count) (sym b.sum)) ∙ numbers_both n b.count f.count);
      entries = ap (λ z. z ++ (facts same_text x).entries) (outward_entries iso body ∙ b.entries) ∙ f.entries;
    }
  where
    outward_marks : (iso : Bool) (x : Script Text ⊤) → (outward same_text iso (facts same_text x)).marks ≡ (facts same_text x).marks
    outward_marks true x = refl
    outward_marks false x = refl

    outward_entries : (iso : Bool) (x : Script Text ⊤) → (outward same_text iso (facts same_text x)).entries ≡ (facts same_text x).entries
    outward_entries true x = refl
    outward_entries false x = refl

module _ {T A : Type 0} where
  piece_silent : (p : Path) (k l : ℕ) (x : Piece ⊤ T A) → AllSilent (piece_acts p k l x)
  piece_silent p k l (tree.operand i n) = (record { marks = refl; entries = refl }, tt)
  piece_silent p k l (tree.operands ns) = values_silent p k ns
  piece_silent p k l (tree.successor i n) = (record { marks = refl; entries = refl }, tt)
  piece_silent p k l (tree.successors ns) = labels_silent p l ns
  piece_silent p k l (tree.dictionary es) = keys_silent may_hold es
  piece_silent p k l _ = tt

  parts_numbered : (m n e : ℕ) (p : Path) (k l : ℕ) (ps : List (Part ⊤ T A)) (rs : List (Script Text ⊤ → Script Text ⊤)) (x : Script Text ⊤) → EnoughFor ps rs → NumberedRegions n e rs → Numbered m e x → Numbered m n (parts_script p k l ps rs x)
  parts_numbered m n e p k l [] [] x h g f = numbered_from g f
  parts_numbered m n e p k l [] (r ∷ rs) x h g f = absurd h
  parts_numbered m n e p k l (tree.piece y ∷ ps) rs x h g f = numbered_acts _ (piece_silent p k l y) (parts_numbered m n e p k l ps rs x h g f)
  parts_numbered m n e p k l (tree.region i ∷ ps) [] x h g f = absurd h
  parts_numbered m n e p k l (tree.region i ∷ ps) (r ∷ rs) x h (j, q, g) f = q m _ (parts_numbered m j e p k l ps rs x h g f)
  parts_numbered m n e p k l (tree.regions ∷ ps) rs x h g f = all_numbered m n e rs _ g (parts_numbered m e e p k l ps [] x h refl f)

module _ {T A : Type 0} (C : Printing T A) where
  mark_numbered : (m n : ℕ) (l : Option Text) (es : List (Text × Attribute A)) (x : Script Text ⊤) → Numbered m (n + own_marks C l es) x → Numbered m n (does_all (mark_acts (mark_at C n l es)) x)
  mark_numbered m n l es x = go (is_marked C l es)
    where
      unit : ⊤
      unit = tt

      go : (b : Bool) → Numbered m (n + cond b 1 0) x → Numbered m n (does_all (mark_acts (cond b (Some (record { place = tt; index = n })) None)) x)
      go false f = numbered_from (omega arith) f
      go true f = let i = f.sum in let e : n + 1 ≡ suc n = omega arith in
          record { count = suc f.count; sum = omega arith; marks = ap (λ z. n ∷ z) (f.marks ∙ ap (λ z. numbers z f.count) e); entries = f.entries }

  module _ (isolated : Id → Bool) (given : (v : ℕ) (n : Text) → C.given v ≡ Some n → IsIdentifier n) (label : (b : ℕ × ℕ) (n : Text) → C.label b ≡ Some n → IsIdentifier n) where
    closing_numbered : (m k : ℕ) (p : Path) (o : GraphOp T A) (x : Script Text ⊤) → Numbered m (k + own_marks C o.location (op_outlined C o)) x → Numbered m k (does_all (closing_acts p (tree_op C k o)) x)
    closing_numbered m k p o x f =
        let ns = map (λ (r : ℕ × T). value C r.0) o.results in
        numbered_act _ (record { marks = refl; entries = refl })
        (subst (Numbered m k) (sym (does_both C (result_definitions p 0 ns) (mark_acts (mark_at C k o.location (op_outlined C o))) x))
        (numbered_acts _ (results_silent p 0 ns) (mark_numbered m k o.location (op_outlined C o) x f)))

    header_numbered : (m n : ℕ) (p : Path) (b : GraphBlock T A) (x : Script Text ⊤) → Numbered m (n + own_marks C b.location (block_outlined C b)) x → Numbered m n (does_all (header_acts p (tree_head C n b)) x)
    header_numbered m n p b x f =
        let k = mark_at C n b.location (block_outlined C b) in
        let pairs = map (λ (a : ℕ × T). (value C a.0, a.1)) b.arguments in
        let es = entries_if (tree_head C n b).attributes in
        subst (Numbered m n) (sym (does_both C (map (key_act block_may_hold) es) _ x))
        (numbered_acts _ (keys_silent block_may_hold es)
        (subst (Numbered m n) (sym (does_both C (argument_definitions p 0 pairs) _ x))
        (numbered_acts _ (arguments_silent p 0 pairs)
        (subst (Numbered m n) (sym (does_both C (mark_acts k) _ x))
        (mark_numbered m n b.location (block_outlined C b) _ (numbered_act _ (record { marks = refl; entries = refl }) f))))))

    enough_for : {P : Type 0} (ps : List (Part P T A)) (p : Path) (j : ℕ) (iso : Bool) (rs : Regions (Op ⊤ T A) (Head ⊤ T A) (Brace ⊤)) → Enough ps rs → EnoughFor ps (region_scripts isolated p j iso rs)
    enough_for [] p j iso no_regions h = tt
    enough_for [] p j iso (region b bs rs) h = absurd h
    enough_for (tree.piece y ∷ ps) p j iso rs h = enough_for ps p j iso rs h
    enough_for (tree.region i ∷ ps) p j iso no_regions h = absurd h
    enough_for (tree.region i ∷ ps) p j iso (region b bs rs) h = enough_for ps p (suc j) iso rs h
    enough_for (tree.regions ∷ ps) p j iso rs h = enough_for ps p j iso no_regions h

    same_length : (l : Limit) (n : ℕ) (rs : Regions (GraphOp T A) (GraphBlock T A) ⊤) → length (regions_list (tree_regions C l n rs)) ≡ length (regions_list rs)
    same_length l n no_regions = refl
    same_length None n (region r bs rs) = ap suc (same_length None (n + marks_in_blocks C None bs) rs)
    same_length (Some zero) n (region r bs rs) = ap suc (same_length (Some zero) n rs)
    same_length (Some (suc k)) n (region r bs rs) = ap suc (same_length (Some (suc k)) (n + marks_in_blocks C (Some k) bs) rs)

    -- the body that is written of an operation that fits has a place for each region
    body_enough : (l : Limit) (o : GraphOp T A) (n : ℕ) (rs : Regions (GraphOp T A) (GraphBlock T A) ⊤) (f : Option Format) → FitsFormat C isolated f o (length (regions_list rs)) → Enough (parts_of (body_of C o f)) (tree_regions C l n rs)
    body_enough l o n rs None h = absurd h
    body_enough l o n rs (Some format.canonical) h = tt
    body_enough l o n rs (Some (format.custom ds)) h =
        let five = (meets ds h.0).fifth in
        let a = and_left (ascend 0 (region_places ds) && nat_lt (count is_regions ds) 2) _ five in
        let few = and_right (ascend 0 (region_places ds)) (nat_lt (count is_regions ds) 2) a in
        let following = and_right (ascend 0 (region_places ds) && nat_lt (count is_regions ds) 2) _ five in
        enough C isolated given label ds o ds (tree_regions C l n rs) (subst (λ z. Room ds z) (sym (same_length l n rs)) (room ds (length (regions_list rs)) h.1.regions few following))

    mutual
      regions_numbered : (l : Limit) (n : ℕ) (p : Path) (j : ℕ) (iso : Bool) (rs : Regions (GraphOp T A) (GraphBlock T A) ⊤) → FitRegions C isolated rs → NumberedRegions n (n + marks_in_regions C l rs) (region_scripts isolated p j iso (tree_regions C l n rs))
      regions_numbered l n p j iso no_regions f = omega arith
      regions_numbered None n p j iso (region r bs rs) f =
          let k = n + marks_in_blocks C None bs in
          (k, (λ m x g. within_numbered m n k iso _ x (blocks_numbered None n (j ∷ p) 0 bs f.0) g), subst (λ z. NumberedRegions k z (region_scripts isolated p (suc j) iso (tree_regions C None k rs))) (omega arith) (regions_numbered None k p (suc j) iso rs f.1))
      regions_numbered (Some zero) n p j iso (region r bs rs) f = (n, (λ m x g. g), subst (λ z. NumberedRegions n z (region_scripts isolated p (suc j) iso (tree_regions C (Some zero) n rs))) (omega arith) (regions_numbered (Some zero) n p (suc j) iso rs f.1))
      regions_numbered (Some (suc i)) n p j iso (region r bs rs) f =
          let k = n + marks_in_blocks C (Some i) bs in
          (k, (λ m x g. within_numbered m n k iso _ x (blocks_numbered (Some i) n (j ∷ p) 0 bs f.0) g), subst (λ z. NumberedRegions k z (region_scripts isolated p (suc j) iso (tree_regions C (Some (suc i)) k rs))) (omega arith) (regions_numbered (Some (suc i)) k p (suc j) iso rs f.1))

      blocks_numbered : (l : Limit) (n : ℕ) (p : Path) (k : ℕ) (bs : Blocks (GraphOp T A) (GraphBlock T A) ⊤) → FitBlocks C isolated bs → Numbered (n + marks_in_blocks C l bs) n (blocks_script isolated p k (tree_blocks C l n bs))
      blocks_numbered l n p k no_blocks f = record { count = 0; sum = refl; marks = refl; entries = refl }
      blocks_numbered l n p k (block b os bs) f =
          let q = n + own_marks C b.location (block_outlined C b) in
          let m = q + marks_in_operations C l os in
          header_numbered _ n (k ∷ p) b _
          (operations_numbered l _ q (k ∷ p) 0 os _ f.0 (subst (λ z. Numbered z m (blocks_script isolated p (suc k) (tree_blocks C l m bs))) (omega arith) (blocks_numbered l m p (suc k) bs f.1)))

      operations_numbered : (l : Limit) (m n : ℕ) (p : Path) (i : ℕ) (os : Operations (GraphOp T A) (GraphBlock T A) ⊤) (x : Script Text ⊤) → FitOperations C isolated os → Numbered m (n + marks_in_operations C l os) x → Numbered m n (operations_script isolated p i (tree_operations C l n os) x)
      operations_numbered l m n p i no_operations x f g = numbered_from (omega arith) g
      operations_numbered l m n p i (operation o rs os) x f g =
          let q = n + marks_in_regions C l rs in
          let w = q + own_marks C o.location (op_outlined C o) in
          let ps = parts_of (body_of C o (C.format_of o.id)) in
          parts_numbered m n q (i ∷ p) _ _ ps _ _ (enough_for ps (i ∷ p) 0 (isolated o.id) (tree_regions C l n rs) (body_enough l o n rs (C.format_of o.id) f.0)) (regions_numbered l n (i ∷ p) 0 (isolated o.id) rs f.1)
          (closing_numbered m q (i ∷ p) o _ (operations_numbered l m w p (suc i) os x f.2 (subst (λ z. Numbered m z x) (omega arith) g)))

    -- of a whole root, before whatever is done then
    pub root_numbered : (l : Limit) (g : Graph T A) (m : ℕ) (x : Script Text ⊤) → Fit C isolated g → Numbered m (marks_in_regions C l g.regions + own_marks C g.own.location (op_outlined C g.own)) x → Numbered m 0 (tree_script isolated (written C l g) x)
    root_numbered l g m x f h =
        let q = marks_in_regions C l g.regions in
        let ps = parts_of (body_of C g.own (C.format_of g.own.id)) in
        parts_numbered m 0 q [] _ _ ps _ _ (enough_for ps [] 0 (isolated g.own.id) (tree_regions C l 0 g.regions) (body_enough l g.own 0 g.regions (C.format_of g.own.id) f.0))
        (subst (λ z. NumberedRegions 0 z (region_scripts isolated [] 0 (isolated g.own.id) (tree_regions C l 0 g.regions))) (omega arith) (regions_numbered l 0 [] 0 (isolated g.own.id) g.regions f.1))
        (closing_numbered m q [] g.own _ h)
