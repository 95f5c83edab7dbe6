-- Turns one after another are one turn: the innermost frame that the first leaves is replaced by what the next leaves of it.
use Rattle.std.proofs.Common.{◌≡◌, ◌<◌, ◌+◌, ◌==◌, ℕ, zero, suc, List, [], ◌∷◌, ◌++◌, length, map, drop, Bool, true, false, cond, Option, Some, None, arith, refl, ap, sym, subst, ◌∙◌, append_assoc, append-nil, length-append, inl, inr, ◌⊎◌, true≢false}
use Rattle.std.specs.Prelude.{⊤}
use Rattle.std.proofs.lemmas.List.{map-append}
use Rattle.std.specs.Str.{encode_utf8_all}
use Rattle.irtext_base.specs.Own.{Language}
use Rattle.irtext_context.specs.Context.{ContextView}
use Rattle.irtext_context.specs.declared.base.item.Item.{Item}
use Rattle.irtext_graph.specs.Parts.{blocks}
use Rattle.irtext_grammar.specs.Contexts.Formats.{isolated}
use Rattle.irtext_grammar.specs.Graphs.Graph.{Printing}
use Rattle.irtext_print.proofs.Printers.FitsTests.{counted}
use Rattle.irtext_print.proofs.Printers.Locations.{more}
use Rattle.irtext_print.specs.declared.printable.refusal.Refusal.{Refusal}
use Rattle.irtext_print.specs.declared.printable.refusal.Refusal.TheVariants.{Misfit}
use Rattle.irtext_print_ops.proofs.Opens.{turned, turned_marks}
use Rattle.irtext_print_ops.specs.Opened.{Turns, marks, open_marks, rest, open_rest, closing}
use Rattle.irtext_print_ops.specs.Faults.{OpenFault, AnyFault}
use Rattle.irtext_print_ops.specs.Steps.{begun_frames, turn_frames, ended_turn, ended_text}
use Rattle.irtext_print_ops.specs.Walk.{open_of, AllFit, FrameFits, items_left, turns_left, Steps}
use Rattle.irtext_print_ops.specs.declared.frame.Frame.{Frame}
use Rattle.irtext_print_ops.specs.declared.frame.Frame.TheVariants as frame
use Rattle.irtext_print_ops.specs.declared.frame.OperationFrame.{OperationFrame}
use Rattle.irtext_print_ops.specs.declared.frame.RegionFrame.{RegionFrame}
use Rattle.irtext_print_ops.specs.declared.frame.Turn.TheVariants as turn
use Rattle.irtext_print_ops.proofs.Turned.{region_ended}
use Rattle.irtext_print_ops.proofs.Walked.{stepped_fit, stepped_fault, stepped_misfits, stepped_fewer, items_both}

module _ {T A : Type 0} (C : Printing T A) (L : Language ⊤ T A) (ctx : ContextView T A) (width : ℕ) where
  -- a turn leaves the same frames inside of any others
  inside_any : (f : Frame) (items items' : List Item) (gs gs' hs hs' : List Frame) (old new : List ℕ) (s : Steps C L ctx width f items items' gs gs' old new) → hs' ≡ hs ++ s.pushed → Steps C L ctx width f items items' hs hs' old new
  inside_any f items items' gs gs' hs hs' old new s e = record { pushed = s.pushed; stack = e; step = s.step }

  -- inside of these as inside of none
  pub inside_others : (f : Frame) (items items' : List Item) (gs pushed : List Frame) (old new : List ℕ) →
      Steps C L ctx width f items items' [] pushed old new → Steps C L ctx width f items items' gs (gs ++ pushed) old new
  inside_others f items items' gs pushed old new s = inside_any f items items' [] pushed gs (gs ++ pushed) old new s (ap (λ z. gs ++ z) s.stack)

  module _ (f g : Frame) (items items1 items2 : List Item) (pre post : List Frame) (old mid new : List ℕ) (s : Steps C L ctx width f items items1 [] (pre ++ g ∷ []) old mid) (t : Steps C L ctx width g items1 items2 [] post mid new) where
    -- the second turn, of the innermost frame
    then_inside : Steps C L ctx width g items1 items2 pre (pre ++ post) mid new
    then_inside = inside_others g items1 items2 pre post mid new t

    -- both turns
    pub chained : Steps C L ctx width f items items2 [] (pre ++ post) old new
    chained =
        let o = open_of C L ctx in
        let n = length items in
        let k = length s.step.gathered in
        let j = length t.step.gathered in
        let left_first : s.pushed ≡ pre ++ g ∷ [] = sym s.stack in
        let count : length items1 ≡ n + k = ap length s.step.marks ∙ length-append items s.step.gathered in
        let opened : map o s.pushed ≡ map o pre ++ o g ∷ [] = ap (map o) left_first ∙ map-append o pre (g ∷ []) in
        let following : map o pre ++ map o t.pushed ≡ map o (pre ++ post) = ap (λ z. map o pre ++ map o z) (sym t.stack) ∙ sym (map-append o pre post) in
        let second : Turns C L width (o g) (n + k) t.step.text j (map o t.pushed) = subst (λ m. Turns C L width (o g) m t.step.text j (map o t.pushed)) count t.step.turned in
        let both : j + k ≡ length (s.step.gathered ++ t.step.gathered) = (let e = length-append s.step.gathered t.step.gathered in omega (arith, e)) in
        let sum : (n + k) + j ≡ n + length (s.step.gathered ++ t.step.gathered) = (let e = length-append s.step.gathered t.step.gathered in omega (arith, e)) in
        let written : rest C L width (o f) n ≡ (s.step.text ++ t.step.text) ++ open_rest C L width (map o (pre ++ post)) (n + length (s.step.gathered ++ t.step.gathered)) =
        s.step.turned.written ∙ (ap (λ z. s.step.text ++ open_rest C L width z (n + k)) opened
        ∙ (ap (λ z. s.step.text ++ z) (turned C L width (map o pre) (o g) (n + k) t.step.text j (map o t.pushed) second)
        ∙ (ap (λ z. s.step.text ++ (t.step.text ++ open_rest C L width z ((n + k) + j))) following
        ∙ (ap (λ m. s.step.text ++ (t.step.text ++ open_rest C L width (map o (pre ++ post)) m)) sum
        ∙ sym (append_assoc s.step.text t.step.text (open_rest C L width (map o (pre ++ post)) (n + length (s.step.gathered ++ t.step.gathered)))))))) in
        let inner : open_marks C (map o s.pushed) ≡ j + open_marks C (map o (pre ++ post)) =
        ap (open_marks C) opened ∙ (turned_marks C L width (map o pre) (o g) (n + k) t.step.text j (map o t.pushed) second ∙ ap (λ z. j + open_marks C z) following) in
        let counted : marks C (o f) ≡ length (s.step.gathered ++ t.step.gathered) + open_marks C (map o (pre ++ post)) = (let a = s.step.turned.counted in let b = length-append s.step.gathered t.step.gathered in omega (arith, a, b, inner)) in
        let last : items_left C L ctx (pre ++ g ∷ []) ≡ t.step.gathered ++ items_left C L ctx (pre ++ post) =
        items_both C L ctx width pre (g ∷ []) ∙ (ap (λ z. z ++ items_left C L ctx pre) (t.step.left ∙ ap (λ z. t.step.gathered ++ items_left C L ctx z) (sym t.stack))
        ∙ (append_assoc t.step.gathered (items_left C L ctx post) (items_left C L ctx pre) ∙ ap (λ z. t.step.gathered ++ z) (sym (items_both C L ctx width pre post)))) in
        record {
          pushed = pre ++ post;
          stack = refl;
          step = record {
            text = s.step.text ++ t.step.text;
            gathered = s.step.gathered ++ t.step.gathered;
            marks = t.step.marks ∙ (ap (λ z. z ++ t.step.gathered) s.step.marks ∙ append_assoc items s.step.gathered t.step.gathered);
            written = more old mid new s.step.text t.step.text s.step.written t.step.written;
            turned = record { written = written; counted = counted };
            left = s.step.left ∙ (ap (λ z. s.step.gathered ++ items_left C L ctx z) left_first ∙ (ap (λ z. s.step.gathered ++ z) last ∙ sym (append_assoc s.step.gathered t.step.gathered (items_left C L ctx (pre ++ post)))));
            fit = stepped_fit C L ctx width g items1 items2 (pre ++ g ∷ []) pre (pre ++ post) mid new refl then_inside (subst (AllFit C L ctx) left_first s.step.fit);
            faults = λ e x. s.step.faults e (subst (λ z. AnyFault C (isolated ctx.dialects) width e (map o z)) s.stack (stepped_fault C L ctx width g items1 items2 (pre ++ g ∷ []) pre (pre ++ post) mid new refl then_inside e x));
            misfits = λ x. stepped_misfits C L ctx width g items1 items2 (pre ++ g ∷ []) pre (pre ++ post) mid new refl then_inside (subst (λ z. AnyFault C (isolated ctx.dialects) width Misfit (map o z)) left_first (s.step.misfits x));
            fewer = (let a = s.step.fewer in let b = stepped_fewer C L ctx width g items1 items2 (pre ++ g ∷ []) pre (pre ++ post) mid new refl then_inside in let e = ap (turns_left C L ctx) left_first in omega (arith, a, b, e));
          };
        }

  none : {X : Type 0} (xs : List X) → (length xs == 0) ≡ true → xs ≡ []
  none [] e = refl
  none (x ∷ xs) e = absurd (true≢false (sym e ∙ counted (length xs)))

  drop_none : {X : Type 0} (xs : List X) (i : ℕ) → xs ≡ [] → drop i xs ≡ []
  drop_none xs zero e = e
  drop_none xs (suc i) e = ap (drop (suc i)) e

  -- a region that was begun is ended where it has no block
  pub ended : (before : Frame) (items items' : List Item) (f : OperationFrame) (begun : Option RegionFrame) (old mid new : List ℕ) → new ≡ mid ++ encode_utf8_all (ended_text ctx begun) →
      Steps C L ctx width before items items' [] (frame.Operation f ∷ begun_frames begun) old mid → Steps C L ctx width before items items' [] (turn_frames f (ended_turn ctx begun)) old new
  ended before items items' f None old mid new w s = subst (λ z. Steps C L ctx width before items items' [] (frame.Operation f ∷ []) old z) (sym (w ∙ append-nil mid)) s
  ended before items items' f (Some r) old mid new w s = go (length (blocks ctx.graph r.region) == 0) refl w
    where
      go : (b : Bool) → (length (blocks ctx.graph r.region) == 0) ≡ b → new ≡ mid ++ encode_utf8_all (cond b (closing r.indent) []) →
          Steps C L ctx width before items items' [] (turn_frames f (cond b turn.Stays (turn.Enters r))) old new
      go true e v = chained before (frame.Region r) items items' items' (frame.Operation f ∷ []) [] old mid new s
          (region_ended C L ctx width r items' [] mid new (drop_none (blocks ctx.graph r.region) r.block (none (blocks ctx.graph r.region) e)) v)
      go false e v = subst (λ z. Steps C L ctx width before items items' [] (frame.Operation f ∷ frame.Region r ∷ []) old z) (sym (v ∙ append-nil mid)) s

  -- what a turn leaves fits
  pub all_fit : (f : Frame) (items items' : List Item) (pushed : List Frame) (old new : List ℕ) → Steps C L ctx width f items items' [] pushed old new → AllFit C L ctx pushed
  all_fit f items items' pushed old new s = subst (AllFit C L ctx) (sym s.stack) s.step.fit

  -- a turn leaves fewer turns
  pub fewer_left : (f : Frame) (items items' : List Item) (pushed : List Frame) (old new : List ℕ) → Steps C L ctx width f items items' [] pushed old new → turns_left C L ctx pushed < turns_left C L ctx (f ∷ [])
  fewer_left f items items' pushed old new s = let a = s.step.fewer in let e = ap (turns_left C L ctx) s.stack in omega (arith, a, e)

  -- a reason why what a turn leaves fails is one why what was open fails
  pub fault_left : (f : Frame) (items items' : List Item) (pushed : List Frame) (old new : List ℕ) → Steps C L ctx width f items items' [] pushed old new →
      (e : Refusal) → AnyFault C (isolated ctx.dialects) width e (map (open_of C L ctx) pushed) → OpenFault C (isolated ctx.dialects) width e (open_of C L ctx f)
  fault_left f items items' pushed old new s e x = s.step.faults e (subst (λ z. AnyFault C (isolated ctx.dialects) width e (map (open_of C L ctx) z)) s.stack x)

  -- a turn without the frames outside
  pub alone : (f : Frame) (items items' : List Item) (gs gs' : List Frame) (old new : List ℕ) (s : Steps C L ctx width f items items' gs gs' old new) → Steps C L ctx width f items items' [] s.pushed old new
  alone f items items' gs gs' old new s = inside_any f items items' gs gs' [] s.pushed old new s refl

  -- ---- several turns of the same frame

  -- nothing was done so far
  pub record Untouched (first here : Frame) (items items' : List Item) (old now : List ℕ) : Type 0 where
    pub same : here ≡ first
    pub marks : items' ≡ items
    pub bytes : now ≡ old

  module _ (first : Frame) (items : List Item) (old : List ℕ) where
    -- what the turns so far have left of it: all of it, or less
    abbrev pub Left : Frame → List Item → List ℕ → Type 0
    Left here items' now = Untouched first here items items' old now ⊎ Steps C L ctx width first items items' [] (here ∷ []) old now

    -- what is left fits
    pub left_fits : (here : Frame) (items1 : List Item) (mid : List ℕ) → FrameFits C L ctx first → Left here items1 mid → FrameFits C L ctx here
    left_fits here items1 mid h (inl u) = subst (λ z. FrameFits C L ctx z) (sym u.same) h
    left_fits here items1 mid h (inr s) = let k = all_fit first items items1 (here ∷ []) old mid s in k.0

    -- a reason why what is left fails is one why all of it fails
    pub left_fault : (here : Frame) (items1 : List Item) (mid : List ℕ) → Left here items1 mid →
        (e : Refusal) → OpenFault C (isolated ctx.dialects) width e (open_of C L ctx here) → OpenFault C (isolated ctx.dialects) width e (open_of C L ctx first)
    left_fault here items1 mid (inl u) e x = subst (λ z. OpenFault C (isolated ctx.dialects) width e (open_of C L ctx z)) u.same x
    left_fault here items1 mid (inr s) e x = fault_left first items items1 (here ∷ []) old mid s e (inl x)

    -- one turn more
    pub left_more : (here : Frame) (items1 items2 : List Item) (pushed : List Frame) (mid new : List ℕ) → Left here items1 mid →
        Steps C L ctx width here items1 items2 [] pushed mid new → Steps C L ctx width first items items2 [] pushed old new
    left_more here items1 items2 pushed mid new (inl u) t =
        subst (λ z. Steps C L ctx width z items items2 [] pushed old new) u.same
        (subst (λ z. Steps C L ctx width here z items2 [] pushed old new) u.marks
        (subst (λ z. Steps C L ctx width here items1 items2 [] pushed z new) u.bytes t))
    left_more here items1 items2 pushed mid new (inr s) t = chained first here items items1 items2 [] pushed old mid new s t
