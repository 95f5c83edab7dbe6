-- The open frames in code and in theory: their objects stay live, they are pushed and popped, and as much is left to do of the one as of
-- the other.
use Rattle.std.proofs.Common.{◌≡◌, ◌∙◌, ◌+◌, ◌*◌, ◌≤◌, ℕ, suc, List, [], ◌∷◌, ◌++◌, map, drop, length, length-append, Option, Some, None, IsSome, refl, sym, ap, subst, arith, slice_get}
use Rattle.std.proofs.lemmas.List.{map_push}
use Rattle.std.specs.Prelude.{IfSome}
use Rattle.irtext_base.specs.Text.{Text}
use Rattle.irtext_context.specs.Context.{ContextView}
use Rattle.irtext_graph.specs.declared.object.Object.TheVariants.{TheOperation, TheBlock, TheRegion}
use Rattle.irtext_graph.specs.Graph.{GraphView}
use Rattle.irtext_scopes.specs.Names.{KeepsNames}
use Rattle.irtext_grammar.specs.Contexts.Formats.{format_of, isolated}
use Rattle.irtext_grammar.specs.Grammar.Tree.{Name}
use Rattle.irtext_grammar.specs.Names.Acts.{result_types}
use Rattle.irtext_grammar.specs.Heads.{Step}
use Rattle.irtext_grammar.specs.Naming.{body_of}
use Rattle.irtext_grammar.specs.Reached.{steps_in}
use Rattle.irtext_grammar.specs.Resume.{OpenOperation, Open, Pops, weight, weights, work, by_character}
use Rattle.irtext_grammar.specs.declared.parsed.ReadName.{ReadName}
use Rattle.irtext_grammar.specs.Parsed.{Represents, Each}
use Rattle.irtext_parse_pieces.proofs.Meanings.{still_represents}
use Rattle.irtext_parse_nested.specs.declared.frame.BegunOperation.{BegunOperation}
use Rattle.irtext_parse_nested.specs.Beginning.{HasBegun}
use Rattle.irtext_parse_nested.specs.OpenOperation.{IsBegun}
use Rattle.irtext_parse_pieces.specs.Coming.{IsStep}
use Rattle.irtext_names.specs.Items.{KeepsLive}
use Rattle.irtext_parse_root.specs.declared.frames.Frame.{Frame}
use Rattle.irtext_parse_root.specs.declared.frames.Frame.TheVariants as framed
use Rattle.irtext_parse_root.specs.Here.{IsLevel, AreLevels}
use Rattle.irtext_parse_root.specs.Turned.{TakesLast}
use Rattle.irtext_parse_root.specs.Levels.{Level, at_operation, at_region, at_block, outward, frame_of, open_of, first_frame, WaitIn, next_of, waiting, task_of, next_task, left_to_do, IsNewFrame, AreNewFrames, AreAllNew}

-- ---- the objects of open frames are still live
each_on : (names more : List Text) (text : Text) (ns : List ReadName) (xs : List (Name ℕ)) → KeepsNames names more → Each (Represents names text) ns xs → Each (Represents more text) ns xs
each_on names more text [] [] k h = tt
each_on names more text [] (x ∷ xs) k h = absurd h
each_on names more text (n ∷ ns) [] k h = absurd h
each_on names more text (n ∷ ns) (x ∷ xs) k h = (still_represents names more n x k refl h.0, each_on names more text ns xs k h.1)

module _ {T A : Type 0} (names more : List Text) (text : Text) (old new : ContextView T A) (keeps : KeepsNames names more) (lasts : KeepsLive old new) where
  pub begun_lasts : (b : BegunOperation) (o : OpenOperation T A) → IsBegun names text old b o → IsBegun more text new b o
  begun_lasts b o h = record {
    place = h.place;
    names_are = each_on names more text b.names o.names keeps h.names_are;
    id = h.id;
    known = subst (λ d. IsSome (format_of d o.id)) (sym lasts.dialects) h.known;
    steps = subst (λ d. o.steps ≡ drop b.step (steps_in d o.id)) (sym lasts.dialects) h.steps;
    counted = subst (λ d. b.steps ≡ length (steps_in d o.id)) (sym lasts.dialects) h.counted;
    coming = subst (λ d. IfSome b.coming (λ next. IsStep next (slice_get (steps_in d o.id) b.step))) (sym lasts.dialects) h.coming;
    is_isolated = subst (λ d. b.isolated ≡ isolated d o.id) (sym lasts.dialects) h.is_isolated;
    late = h.late;
    alive = lasts.operations b.op h.alive;
    counts = lasts.results b.op h.alive ∙ h.counts;
    typed = λ later none. subst (λ d. length (result_types (body_of (format_of d o.id) (o.parts ++ later))) ≡ b.results) (sym lasts.dialects) (h.typed later none);
  }

  pub level_lasts : (l : Level T A) → IsLevel names text old l → IsLevel more text new l
  level_lasts (at_operation b o own) h = (begun_lasts b o h.0, subst (λ d. HasBegun (format_of d) o own) (sym lasts.dialects) h.1)
  level_lasts (at_region r iso place last) h = record { is_isolated = h.is_isolated; placed = h.placed; alive = lasts.regions r.region h.alive }
  level_lasts (at_block b) h = let k = lasts.blocks b.block h.alive h.inside in record { is_first = h.is_first; alive = k.0; inside = subst IsSome (sym k.1) h.inside }

  pub levels_last : (ls : List (Level T A)) → AreLevels names text old ls → AreLevels more text new ls
  levels_last [] h = tt
  levels_last (l ∷ ls) h = (level_lasts l h.0, levels_last ls h.1)

-- ---- what waits
same_ends : {X : Type 0} (xs ys : List X) (x y : X) → xs ++ x ∷ [] ≡ ys ++ y ∷ [] → (xs ≡ ys) × (x ≡ y)
same_ends [] [] x y e = let f : x ≡ y = cc in (refl, f)
same_ends [] (b ∷ ys) x y e =
    let n = ap length e in let m = length-append ys (y ∷ []) in absurd (omega (arith, n, m))
same_ends (a ∷ xs) [] x y e =
    let n = ap length e in let m = length-append xs (x ∷ []) in absurd (omega (arith, n, m))
same_ends (a ∷ xs) (b ∷ ys) x y e =
    let f : a ≡ b = cc in
    let g : xs ++ x ∷ [] ≡ ys ++ y ∷ [] = cc in
    let h = same_ends xs ys x y g in
    (subst (λ z. a ∷ xs ≡ z ∷ ys) f (ap (λ zs. a ∷ zs) h.0), h.1)

ends_not : {X : Type 0} (xs : List X) (x : X) → [] ≡ xs ++ x ∷ [] → ⊥
ends_not xs x e = let n = ap length e in let m = length-append xs (x ∷ []) in absurd (omega (arith, n, m))

module _ {T A : Type 0} where
  -- the theory's innermost that waits is next
  pub theory_pops : (ls : List (Level T A)) → Pops (outward (map open_of ls)) (next_of ls) (waiting ls)
  theory_pops [] = refl
  theory_pops (l ∷ ls) = refl

  -- and the same holds in the code
  pub popped : (ls : List (Level T A)) (old new : List Frame) (f : Frame) → old ≡ outward (map frame_of ls) → old ≡ new ++ f ∷ [] → (Some f ≡ first_frame ls) × WaitIn new ls
  popped [] old new f e g = absurd (ends_not new f (sym e ∙ g))
  popped (l ∷ ls) old new f e g = let h = same_ends new (outward (map frame_of ls)) f (frame_of l) (sym g ∙ e) in (ap (λ z. Some z) h.1, h.0)

  pub popped_none : (ls : List (Level T A)) (old new : List Frame) → old ≡ outward (map frame_of ls) → length old ≡ 0 → (None ≡ first_frame ls) × WaitIn new ls
  popped_none [] old new e n = (refl, tt)
  popped_none (l ∷ ls) old new e n = let m = ap length e in let k = length-append (outward (map frame_of ls)) (frame_of l ∷ []) in absurd (omega (arith, n, m, k))

  -- what waited is next, or nothing waited
  pub taken_last : (ls : List (Level T A)) (old new : List Frame) (next : Option Frame) → old ≡ outward (map frame_of ls) → TakesLast old next new → (next ≡ first_frame ls) × WaitIn new ls
  taken_last ls old new None e t = popped_none ls old new e (t.none refl)
  taken_last ls old new (Some f) e t = popped ls old new f e t.frames

-- ---- how much is left to do
weights_ends : {T A : Type 0} (frames : List (Open T A)) (f : Open T A) → weights (frames ++ f ∷ []) ≡ weights frames + weight f
weights_ends [] f = omega arith
weights_ends (g ∷ frames) f = let k = weights_ends frames f in omega (arith, k)

module _ {T A : Type 0} (names : List Text) (text : Text) (ctx : ContextView T A) where
  weight_is : (l : Level T A) → IsLevel names text ctx l → weight (task_of {T = T} {A = A} ctx.dialects (frame_of l)) ≡ weight (open_of l)
  weight_is (at_operation b o own) h =
      ap (λ i. suc (length (drop b.step (steps_in ctx.dialects i)))) h.0.id ∙ ap (λ (ss : List Step). suc (length ss)) (sym h.0.steps)
  weight_is (at_region r iso place last) h = refl
  weight_is (at_block b) h = refl

  weights_are : (ls : List (Level T A)) → AreLevels names text ctx ls → weights (map (task_of {T = T} {A = A} ctx.dialects) (outward (map frame_of ls))) ≡ weights (outward (map open_of ls))
  weights_are [] h = refl
  weights_are (l ∷ ls) h =
      let e = ap weights (map_push (task_of {T = T} {A = A} ctx.dialects) (outward (map frame_of ls)) (frame_of l)) in
      let a = weights_ends (map (task_of {T = T} {A = A} ctx.dialects) (outward (map frame_of ls))) (task_of ctx.dialects (frame_of l)) in
      let b = weights_ends (outward (map open_of ls)) (open_of l) in
      let m = weight_is l h.0 in
      let n = weights_are ls h.1 in
      omega (arith, e, a, b, m, n)

  -- as much is left in code as in theory
  pub left_is : (ls : List (Level T A)) (next : Option Frame) (frames : List Frame) (rest : Text) → next ≡ first_frame ls → WaitIn frames ls → AreLevels names text ctx ls
      → left_to_do T A ctx.dialects next frames rest ≡ work (by_character ctx.dialects) (next_of ls) (waiting ls) rest
  left_is [] next frames rest e w h = ap (λ n. work (by_character ctx.dialects) (next_task {T = T} {A = A} ctx.dialects n) (map (task_of {T = T} {A = A} ctx.dialects) frames) rest) e
  left_is (l ∷ ls) next frames rest e w h =
      let p = ap (λ n. work (by_character ctx.dialects) (next_task {T = T} {A = A} ctx.dialects n) (map (task_of {T = T} {A = A} ctx.dialects) frames) rest) e in
      let q = ap (λ fs. work (by_character ctx.dialects) (Some (task_of {T = T} {A = A} ctx.dialects (frame_of l))) (map (task_of {T = T} {A = A} ctx.dialects) fs) rest) w in
      let m = weight_is l h.0 in
      let n = weights_are ls h.1 in
      p ∙ (q ∙ ap (λ z. by_character ctx.dialects * length rest + z) (omega (arith, m, n)))

-- ---- what was made since
module _ {O B T : Type 0} (m : ℕ) (g : GraphView O B T) where
  pub new_ends : (fs : List Frame) (f : Frame) → AreNewFrames m g fs → IsNewFrame m g f → AreNewFrames m g (fs ++ f ∷ [])
  new_ends [] f h k = (k, tt)
  new_ends (e ∷ fs) f h k = (h.0, new_ends fs f h.1 k)

  pub new_popped : (fs : List Frame) (f : Frame) → AreNewFrames m g (fs ++ f ∷ []) → IsNewFrame m g f × AreNewFrames m g fs
  new_popped [] f h = (h.0, tt)
  new_popped (e ∷ fs) f h = let k = new_popped fs f h.1 in (k.0, (h.0, k.1))

pub new_taken : {O B T : Type 0} (m : ℕ) (g : GraphView O B T) (old new : List Frame) (next : Option Frame) → TakesLast old next new → AreNewFrames m g old → AreAllNew m g next new
new_taken m g old new None t h = tt
new_taken m g old new (Some f) t h = new_popped m g new f (subst (AreNewFrames m g) t.frames h)

module _ {T A : Type 0} (m : ℕ) (old new : ContextView T A) (lasts : KeepsLive old new) (le : m ≤ old.graph.made) where
  pub frame_new : (f : Frame) → IsNewFrame m old.graph f → IsNewFrame m new.graph f
  frame_new (framed.Operation b) h = lasts.newer m (TheOperation b.op) le h
  frame_new (framed.Region r) h = lasts.newer m (TheRegion r.region) le h
  frame_new (framed.Block b) h = lasts.newer m (TheBlock b.block) le h

  pub frames_new : (fs : List Frame) → AreNewFrames m old.graph fs → AreNewFrames m new.graph fs
  frames_new [] h = tt
  frames_new (f ∷ fs) h = (frame_new f h.0, frames_new fs h.1)
