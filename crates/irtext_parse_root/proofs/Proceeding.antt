-- A turn was made: the open frames in code are those in theory, and less is left to do.
use Rattle.std.proofs.Common.{◌≡◌, ◌∙◌, ◌+◌, ◌<◌, ◌≤◌, ℕ, suc, Bool, true, false, List, [], ◌∷◌, ◌++◌, map, drop, length, slice_get, Option, Some, None, refl, sym, ap, subst, arith}
use Rattle.irtext_base.specs.Text.{Text, begins, after_space}
use Rattle.irtext_base.specs.Reading.{the}
use Rattle.irtext_base.specs.Stream.{StreamView}
use Rattle.irtext_base.specs.Locations.{AttrView}
use Rattle.irtext_context.specs.Context.{ContextView}
use Rattle.irtext_context.specs.Dialects.{Table}
use Rattle.irtext_graph.specs.declared.arena.Ptr.{Ptr}
use Rattle.irtext_graph.specs.declared.object.BasicBlock.{BasicBlock}
use Rattle.irtext_graph.specs.declared.object.Object.TheVariants.{TheOperation}
use Rattle.irtext_graph.specs.Graph.{IsNew}
use Rattle.irtext_tokens.specs.AttrTexts.{attr_at}
use Rattle.irtext_tokens.specs.Infix.{Reader}
use Rattle.irtext_scopes.specs.Scopes.{Scope, is_open, outer}
use Rattle.irtext_scopes.specs.Tracker.{entered, left}
use Rattle.irtext_parse_state.specs.declared.parsable.state.StateStream.{StateStream}
use Rattle.irtext_grammar.specs.Contexts.Formats.{format_of, isolated}
use Rattle.irtext_grammar.specs.Contexts.Held.{whole}
use Rattle.irtext_grammar.specs.Grammar.Tree as tree
use Rattle.irtext_grammar.specs.Grammar.Tree.{Part}
use Rattle.irtext_grammar.specs.Graphs.Build.{put_all, stored}
use Rattle.irtext_grammar.proofs.Joins.Answers.{Splits}
use Rattle.irtext_grammar.proofs.Joins.Attributes.{splits_attr}
use Rattle.irtext_grammar.specs.Heads.{Step, one, all, front_steps, setting}
use Rattle.irtext_grammar.specs.Reached.{Actions, begins_region, begins_block, steps_in}
use Rattle.irtext_grammar.specs.Resume.{OpenOperation, with_steps, Open, to_come, an_operation, a_region, a_block, work, by_character}
use Rattle.irtext_grammar.proofs.Knot.Whole.{leaves_no_more}
use Rattle.irtext_grammar.proofs.Resume.Front.{splits_piece}
use Rattle.irtext_grammar.proofs.Resume.Unbounded.{Unbounded, unbounded}
use Rattle.irtext_grammar.specs.Unchanged.{OwnSoFar}
use Rattle.irtext_parse_nested.specs.declared.frame.BegunOperation.{BegunOperation}
use Rattle.irtext_parse_nested.specs.declared.frame.BegunRegion.{BegunRegion}
use Rattle.irtext_parse_nested.specs.declared.frame.BegunBlock.{BegunBlock}
use Rattle.irtext_parse_nested.specs.Beginning.{HasBegun}
use Rattle.irtext_parse_nested.specs.OpenOperation.{IsBegun, IsRegion}
use Rattle.irtext_grammar.specs.Parsed as placing
use Rattle.irtext_names.specs.Items.{Names}
use Rattle.irtext_parse_nested.specs.Read.{begun_by, EndsRegion}
use Rattle.irtext_parse_root.specs.declared.frames.Frame.{Frame}
use Rattle.irtext_parse_root.specs.declared.frames.Frame.TheVariants as framed
use Rattle.irtext_parse_pieces.specs.declared.coming.Coming.TheVariants as comes
use Rattle.irtext_parse_root.specs.Here.{AreHere, Base, AreLevels, IsInBlock, Nest, IsHere}
use Rattle.irtext_parse_root.specs.Levels.{Level, at_operation, at_region, at_block, outward, open_of, first_frame, next_of, waiting, isolated_in, regions_in, left_to_do, IsNewFrame, AreNewFrames, AreAllNew}
use Rattle.irtext_parse_root.specs.Recorded.{recorder}
use Rattle.irtext_parse_root.specs.Turned.{Carries, TakesLast, Arrives, Proceeds}
use Rattle.irtext_parse_root.specs.OperationFollows.{operation_follows, text_there, PassesTo}
use Rattle.irtext_parse_root.specs.Turns.{IsNext, Begins, Continues, Ends, Enters, Leaves, Heads}
use Rattle.irtext_grammar.proofs.Resume.Weights.{operation_nearer, step_nearer, region_nearer, another_nearer, block_nearer, first_nearer, other_nearer, end_nearer, steps_fewer}
use Rattle.irtext_parse_root.proofs.Nearer.{moves_fewer, some_character, front_fewer, head_fewer, led_fewer, led_some, brace_fewer, semicolon_fewer}
use Rattle.irtext_parse_root.proofs.Labels.{head_place}
use Rattle.irtext_parse_root.proofs.Owns.{own_region, begun_region, piece_comes, region_comes, regions_come, end_comes, steps_here, no_steps_here}
use Rattle.irtext_parse_root.proofs.Turning.{with_stream, block_left, operation_in_block, piece_read, region_entered, another_entered, regions_over, root_over, operation_over, block_begun, region_over, base_over}
use Rattle.irtext_base.specs.Faults.{id_of}
use Rattle.irtext_parse_root.proofs.Chains.{moved_whole, carries_passed, carries_pass}
use Rattle.irtext_parse_root.proofs.Levels.{begun_lasts, level_lasts, levels_last, taken_last, left_is, new_ends, new_taken, frame_new, frames_new, theory_pops}

-- ---- which level is the innermost
module _ {T A : Type 0} where
  pub operation_first : (b : BegunOperation) (ls : List (Level T A)) → Some (framed.Operation b) ≡ first_frame ls → (o : OpenOperation T A) × (own : OwnSoFar T A) × (more : List (Level T A)) × (ls ≡ at_operation b o own ∷ more)
  operation_first b [] e = absurd (cc e)
  operation_first b (at_operation c o own ∷ more) e = let f : c ≡ b = cc e in (o, own, more, ap (λ z. at_operation z o own ∷ more) f)
  operation_first b (at_region r iso place last ∷ more) e = absurd (cc e)
  operation_first b (at_block kb ∷ more) e = absurd (cc e)

  pub region_first : (r : BegunRegion) (ls : List (Level T A)) → Some (framed.Region r) ≡ first_frame ls
      → (iso : Bool) × (place : ℕ) × (last : Option (Ptr BasicBlock)) × (more : List (Level T A)) × (ls ≡ at_region r iso place last ∷ more)
  region_first r [] e = absurd (cc e)
  region_first r (at_operation c o own ∷ more) e = absurd (cc e)
  region_first r (at_region s iso place last ∷ more) e = let f : s ≡ r = cc e in (iso, place, last, more, ap (λ z. at_region z iso place last ∷ more) f)
  region_first r (at_block kb ∷ more) e = absurd (cc e)

  -- a block's parent is the region of the frame that waits outside of it
  pub block_first : (base : Base) (dialects : List (Text × Table)) (v : ℕ) (kb : BegunBlock) (ls : List (Level T A)) → Some (framed.Block kb) ≡ first_frame ls → Nest base dialects v ls
      → (r : BegunRegion) × (iso : Bool) × (place : ℕ) × (last : Option (Ptr BasicBlock)) × (more : List (Level T A)) × (ls ≡ at_block kb ∷ at_region r iso place last ∷ more)
  block_first base dialects v kb [] e n = absurd (cc e)
  block_first base dialects v kb (at_operation c o own ∷ more) e n = absurd (cc e)
  block_first base dialects v kb (at_region s iso place last ∷ more) e n = absurd (cc e)
  block_first base dialects v kb (at_block c ∷ []) e n = absurd n.0
  block_first base dialects v kb (at_block c ∷ at_operation d o own ∷ more) e n = absurd n.0
  block_first base dialects v kb (at_block c ∷ at_block d ∷ more) e n = absurd n.0
  block_first base dialects v kb (at_block c ∷ at_region r iso place last ∷ more) e n = let f : c ≡ kb = cc e in (r, iso, place, last, more, ap (λ z. at_block z ∷ at_region r iso place last ∷ more) f)

-- ---- how many scopes are open
pub entered_more : {V : Type 0} (r : BegunRegion) (iso : Bool) (place : ℕ) (last : Option (Ptr BasicBlock)) {T A : Type 0} (ls : List (Level T A)) (v : ℕ) (ss : List (Scope V)) → length ss ≡ isolated_in ls + v
    → length (entered iso ss) ≡ isolated_in (at_region r iso place last ∷ ls) + v
entered_more r true place last ls v ss e = omega (arith, e)
entered_more r false place last ls v ss e = e

outer_less : {V : Type 0} (ss : List (Scope V)) (n : ℕ) → length ss ≡ suc n → length (outer ss) ≡ n
outer_less [] n e = absurd (omega (arith, e))
outer_less (s ∷ ss) n e = omega (arith, e)

left_less : {V : Type 0} (r : BegunRegion) (iso : Bool) (place : ℕ) (last : Option (Ptr BasicBlock)) {T A : Type 0} (ls : List (Level T A)) (v : ℕ) (ss : List (Scope V)) → length ss ≡ isolated_in (at_region r iso place last ∷ ls) + v
    → length (left iso ss) ≡ isolated_in ls + v
left_less r true place last ls v ss e = outer_less ss (isolated_in ls + v) (omega (arith, e))
left_less r false place last ls v ss e = e

pub is_open_some : {V : Type 0} (ss : List (Scope V)) → is_open ss ≡ true → 0 < length ss
is_open_some [] e = absurd (cc e)
is_open_some (s ∷ ss) e = omega arith

-- which block is the last of a region does not matter there
module _ {T A : Type 0} where
  isolated_last : (r : BegunRegion) (iso : Bool) (place : ℕ) (last other : Option (Ptr BasicBlock)) (ls : List (Level T A)) → isolated_in (at_region r iso place last ∷ ls) ≡ isolated_in (at_region r iso place other ∷ ls)
  isolated_last r true place last other ls = refl
  isolated_last r false place last other ls = refl

  nest_last : (base : Base) (dialects : List (Text × Table)) (v : ℕ) (r : BegunRegion) (iso : Bool) (place : ℕ) (last other : Option (Ptr BasicBlock)) (ls : List (Level T A)) → Nest base dialects v (at_region r iso place last ∷ ls)
      → Nest base dialects v (at_region r iso place other ∷ ls)
  nest_last base dialects v r iso place last other ls (s, l, n) = (s, subst (λ z. 0 < z + v) (isolated_last r iso place last other ls) l, n)

-- ---- how much is left
module _ {T A : Type 0} (old new : ContextView T A) (same : new.dialects ≡ old.dialects) where
  less_left : (base : Base) (v l : ℕ) (ls later : List (Level T A)) (n0 n1 : Names) (t0 t1 : Text) (f0 f1 : Option Frame) (w0 w1 : List Frame) (r0 r1 : Text) → IsHere base v l ls n0 t0 old f0 w0 → IsHere base v l later n1 t1 new f1 w1
      → work (by_character old.dialects) (next_of later) (waiting later) r1 < work (by_character old.dialects) (next_of ls) (waiting ls) r0
      → left_to_do T A old.dialects f1 w1 r1 < left_to_do T A old.dialects f0 w0 r0
  less_left base v l ls later n0 n1 t0 t1 f0 f1 w0 w1 r0 r1 h k less =
      let a = left_is n0.names t0 old ls f0 w0 r0 h.next_is h.others h.levels in
      let b = subst (λ d. left_to_do T A d f1 w1 r1 ≡ work (by_character d) (next_of later) (waiting later) r1) same (left_is n1.names t1 new later f1 w1 r1 k.next_is k.others k.levels) in
      omega (arith, a, b, less)

  -- the frames that wait are unchanged
  nest_lasts : (base : Base) (v : ℕ) (ls : List (Level T A)) → Nest base old.dialects v ls → Nest base new.dialects v ls
  nest_lasts base v ls h = subst (λ d. Nest base d v ls) (sym same) h

module _ {T A U : Type 0} (types_at : Reader T) (reading : Reader A) (h : Splits types_at) (k : Splits reading) (before : Names) (old : StateStream T A U) where
  abbrev attr : Reader (AttrView A)
  attr = attr_at reading

  abbrev ctx : ContextView T A
  ctx = old.state.ctx.now

  abbrev text : Text
  text = whole old.stream

  abbrev often : ℕ
  often = by_character ctx.dialects

  -- what nests, without bounds
  pub loops : {S : Type 0} (does : Actions T A S) → Unbounded ctx.dialects types_at attr does
  loops does = unbounded ctx.dialects types_at attr does (leaves_no_more types_at h) (leaves_no_more attr (splits_attr reading k))

  more_often : 3 < often
  more_often = omega arith

  module _ (names : Names) (new : StateStream T A U) (carries : Carries before old names new) where
    same_dialects : new.state.ctx.now.dialects ≡ ctx.dialects
    same_dialects = carries.lasts.dialects

    others_last : (ls : List (Level T A)) → AreLevels before.names text ctx ls → AreLevels names.names text new.state.ctx.now ls
    others_last ls = levels_last before.names names.names text ctx new.state.ctx.now carries.keeps carries.lasts ls

    nests_last : (base : Base) (v : ℕ) (ls : List (Level T A)) → Nest base ctx.dialects v ls → Nest base new.state.ctx.now.dialects v ls
    nests_last base v ls n = nest_lasts ctx new.state.ctx.now same_dialects base v ls n

    own_lasts : (o : OpenOperation T A) (own : OwnSoFar T A) → HasBegun (format_of ctx.dialects) o own → HasBegun (format_of new.state.ctx.now.dialects) o own
    own_lasts o own has = subst (λ d. HasBegun (format_of d) o own) (sym same_dialects) has

    -- what is made is less to do
    lessens : (base : Base) (v l : ℕ) (ls : List (Level T A)) (frame : Frame) (waits : List Frame) (next : Option Frame) (frames : List Frame) → IsHere base v l ls before text ctx (Some frame) waits
        → (a : Arrives types_at attr base v l ls before old names new next frames) → work often (next_of a.later) (waiting a.later) new.stream.rest < work often (next_of ls) (waiting ls) old.stream.rest
        → left_to_do T A ctx.dialects next frames new.stream.rest < left_to_do T A ctx.dialects (Some frame) waits old.stream.rest
    lessens base v l ls frame waits next frames here a less =
        less_left ctx new.state.ctx.now same_dialects base v l ls a.later before names text text (Some frame) next waits frames old.stream.rest new.stream.rest here a.here less

  -- the open frames became these, and less is left
  abbrev Comes : Base → ℕ → ℕ → List (Level T A) → Names → StateStream T A U → Option Frame → List Frame → Type 0
  Comes base u l ls names new next waits = (a : Arrives types_at attr base u l ls before old names new next waits) × (work often (next_of a.later) (waiting a.later) new.stream.rest < work often (next_of ls) (waiting ls) old.stream.rest)

  -- A step was made if, of whatever frames are open with this one innermost, it came to these. It is enough to show that of levels which
  -- begin with one of the frame.
  module _ (names : Names) (new : StateStream T A U) (carries : Carries before old names new) where
    proceeds_by : (f : Frame) (frames : List Frame) (next : Option Frame) (waits : List Frame)
        → ((base : Base) (u l : ℕ) (ls : List (Level T A)) → IsHere base u l ls before text ctx (Some f) frames → Comes base u l ls names new next waits)
        → ((m : ℕ) → m ≤ ctx.graph.made → AreAllNew m ctx.graph (Some f) frames → AreAllNew m new.state.ctx.now.graph next waits)
        → AreHere T A text ctx before (Some f) frames → Proceeds types_at attr f frames before old names new next waits
    proceeds_by f frames next waits comes fresh somewhere = record {
      carries = carries;
      arrives = λ base u l ls here. (comes base u l ls here).0;
      fresh = fresh;
      less =
          let a = comes somewhere.base somewhere.v somewhere.l somewhere.ls somewhere.here in
          lessens names new carries somewhere.base somewhere.v somewhere.l somewhere.ls f frames next waits somewhere.here a.0 a.1;
    }

    -- a frame of an object as new as the others was pushed
    pushed_new : (m : ℕ) → m ≤ ctx.graph.made → (frames waits : List Frame) (f : Frame) → waits ≡ frames ++ f ∷ [] → AreNewFrames m ctx.graph frames → IsNewFrame m ctx.graph f → AreNewFrames m new.state.ctx.now.graph waits
    pushed_new m le frames waits f pushed others mine = subst (AreNewFrames m new.state.ctx.now.graph) (sym pushed)
        (new_ends m new.state.ctx.now.graph frames f (frames_new m ctx new.state.ctx.now carries.lasts le frames others) (frame_new m ctx new.state.ctx.now carries.lasts le f mine))

    comes_from : (base : Base) (u l : ℕ) (ls levels : List (Level T A)) (f : Frame) (frames : List Frame) (next : Option Frame) (waits : List Frame) → ls ≡ levels
        → (IsHere base u l levels before text ctx (Some f) frames → Comes base u l levels names new next waits)
        → IsHere base u l ls before text ctx (Some f) frames → Comes base u l ls names new next waits
    comes_from base u l ls levels f frames next waits is comes here =
        subst (λ z. Comes base u l z names new next waits) (sym is) (comes (subst (λ z. IsHere base u l z before text ctx (Some f) frames) is here))

    operation_proceeds : (b : BegunOperation) (frames : List Frame) (next : Option Frame) (waits : List Frame)
        → ((base : Base) (u l : ℕ) (o : OpenOperation T A) (own : OwnSoFar T A) (more : List (Level T A)) → IsHere base u l (at_operation b o own ∷ more) before text ctx (Some (framed.Operation b)) frames
        → Comes base u l (at_operation b o own ∷ more) names new next waits)
        → ((m : ℕ) → m ≤ ctx.graph.made → AreAllNew m ctx.graph (Some (framed.Operation b)) frames → AreAllNew m new.state.ctx.now.graph next waits)
        → AreHere T A text ctx before (Some (framed.Operation b)) frames → Proceeds types_at attr (framed.Operation b) frames before old names new next waits
    operation_proceeds b frames next waits comes = proceeds_by (framed.Operation b) frames next waits
        (λ base u l ls here.
        let q = operation_first b ls here.next_is in
        comes_from base u l ls (at_operation b q.0 q.1 ∷ q.2) (framed.Operation b) frames next waits q.3 (comes base u l q.0 q.1 q.2) here)

    within_region : (r : BegunRegion) (frames : List Frame) (next : Option Frame) (waits : List Frame)
        → ((base : Base) (u l : ℕ) (iso : Bool) (place : ℕ) (last : Option (Ptr BasicBlock)) (more : List (Level T A)) → IsHere base u l (at_region r iso place last ∷ more) before text ctx (Some (framed.Region r)) frames
        → Comes base u l (at_region r iso place last ∷ more) names new next waits)
        → ((m : ℕ) → m ≤ ctx.graph.made → AreAllNew m ctx.graph (Some (framed.Region r)) frames → AreAllNew m new.state.ctx.now.graph next waits)
        → AreHere T A text ctx before (Some (framed.Region r)) frames → Proceeds types_at attr (framed.Region r) frames before old names new next waits
    within_region r frames next waits comes = proceeds_by (framed.Region r) frames next waits
        (λ base u l ls here.
        let q = region_first r ls here.next_is in
        comes_from base u l ls (at_region r q.0 q.1 q.2 ∷ q.3) (framed.Region r) frames next waits q.4 (comes base u l q.0 q.1 q.2 q.3) here)

    within_block : (kb : BegunBlock) (frames : List Frame) (next : Option Frame) (waits : List Frame)
        → ((base : Base) (u l : ℕ) (r : BegunRegion) (iso : Bool) (place : ℕ) (last : Option (Ptr BasicBlock)) (more : List (Level T A)) → IsHere base u l (at_block kb ∷ at_region r iso place last ∷ more) before text ctx (Some (framed.Block kb)) frames
        → Comes base u l (at_block kb ∷ at_region r iso place last ∷ more) names new next waits)
        → ((m : ℕ) → m ≤ ctx.graph.made → AreAllNew m ctx.graph (Some (framed.Block kb)) frames → AreAllNew m new.state.ctx.now.graph next waits)
        → AreHere T A text ctx before (Some (framed.Block kb)) frames → Proceeds types_at attr (framed.Block kb) frames before old names new next waits
    within_block kb frames next waits comes = proceeds_by (framed.Block kb) frames next waits
        (λ base u l ls here.
        let q = block_first base ctx.dialects u kb ls here.next_is here.nest in
        comes_from base u l ls (at_block kb ∷ at_region q.0 q.1 q.2 q.3 ∷ q.4) (framed.Block kb) frames next waits q.5 (comes base u l q.0 q.1 q.2 q.3 q.4) here)

  -- ---- a piece
  module _ (b next : BegunOperation) (frames : List Frame) (names : Names) (new : StateStream T A U) (c : Continues types_at attr before old b next names new) (is : IsNext ctx.dialects b comes.Piece) where
    piece_arrives : (base : Base) (v l : ℕ) (o : OpenOperation T A) (own : OwnSoFar T A) (more : List (Level T A)) → IsHere base v l (at_operation b o own ∷ more) before text ctx (Some (framed.Operation b)) frames
        → Comes base v l (at_operation b o own ∷ more) names new (Some (framed.Operation next)) frames
    piece_arrives base v l o own more here =
        let s = piece_comes (slice_get (steps_in ctx.dialects (id_of b.id)) b.step) is in
        let ss = drop (b.step + 1) (steps_in ctx.dialects (id_of b.id)) in
        let e = steps_here before.names text ctx b o here.levels.0.0 s.0 s.1 in
        let r = c.goes.reads o s.0 ss here.levels.0.0 e in
        let own_then = r.2 own here.levels.0.1 in (
          record {
            later = at_operation next (with_steps o ss (o.parts ++ tree.piece r.0.piece ∷ [])) (record own { entries = put_all own.entries (stored r.0.piece) }) ∷ more;
            here = record {
              next_is = refl;
              others = here.others;
              levels = ((r.1, own_lasts names new c.carries (with_steps o ss (o.parts ++ tree.piece r.0.piece ∷ [])) (record own { entries = put_all own.entries (stored r.0.piece) }) own_then.0), others_last names new c.carries more here.levels.1);
              nest = (subst (λ p. IsInBlock base p more) (sym c.goes.op) here.nest.0, nests_last names new c.carries base v more here.nest.1);
              values = c.depth.values ∙ here.values;
              labels = c.depth.labels ∙ here.labels;
            };
            turned = piece_read types_at attr base before old b o own more next s.0 ss names new e s.2 c.goes.op c.goes.results r.0 own_then.1 c.spares c.marks (moves_fewer old.stream new.stream c.carries.moves);
          },
          step_nearer often (waiting (at_operation b o own ∷ more)) old.stream.rest new.stream.rest o s.0 ss (o.parts ++ tree.piece r.0.piece ∷ []) e (moves_fewer old.stream new.stream c.carries.moves),
        )

    pub piece_proceeds : AreHere T A text ctx before (Some (framed.Operation b)) frames → Proceeds types_at attr (framed.Operation b) frames before old names new (Some (framed.Operation next)) frames
    piece_proceeds = operation_proceeds names new c.carries b frames (Some (framed.Operation next)) frames piece_arrives
        (λ m le all. (subst (λ p. IsNew m new.state.ctx.now.graph (TheOperation p)) (sym c.goes.op) (frame_new m ctx new.state.ctx.now c.carries.lasts le (framed.Operation b) all.0), frames_new m ctx new.state.ctx.now c.carries.lasts le frames all.1))

  -- the white space before what follows is consumed
  module _ (v : StreamView) (passes : PassesTo (after_space old.stream.rest) old.stream v) where
    same_text : whole v ≡ text
    same_text = moved_whole old.stream v passes.moves

    -- ---- a region begins
    module _ (b : BegunOperation) (frames waits : List Frame) (r : BegunRegion) (names : Names) (new : StateStream T A U) (iso : Bool) (en : Enters types_at attr before (with_stream old v) b.op iso r names new)
        (iso_is : iso ≡ isolated ctx.dialects (id_of b.id)) where
      enters_carries : Carries before old names new
      enters_carries = carries_passed v passes.moves en.carries

      -- it is open in its operation
      module _ (base : Base) (u l : ℕ) (o : OpenOperation T A) (own : OwnSoFar T A) (more : List (Level T A)) (here : IsHere base u l (at_operation b o own ∷ more) before text ctx (Some (framed.Operation b)) frames) where
        iso_here : iso ≡ isolated ctx.dialects o.id
        iso_here = iso_is ∙ ap (isolated ctx.dialects) here.levels.0.0.id

        is_within : (next : BegunOperation) (ss : List Step) (ps : List (Part ℕ T A)) → next.op ≡ b.op → waits ≡ frames ++ framed.Operation next ∷ [] → IsBegun before.names text ctx next (with_steps o ss ps) → HasBegun (format_of ctx.dialects) (with_steps o ss ps) own
            → IsHere base u l (at_region r (isolated ctx.dialects o.id) (length v.rest) None ∷ at_operation next (with_steps o ss ps) own ∷ more) names text new.state.ctx.now (Some (framed.Region r)) waits
        is_within next ss ps same pushed begun has =
            let depth : length names.values ≡ isolated_in (at_region r (isolated ctx.dialects o.id) (length v.rest) None ∷ at_operation next (with_steps o ss ps) own ∷ more) + u =
            ap length en.values ∙ (ap (λ i. length (entered i before.values)) iso_here ∙ entered_more r (isolated ctx.dialects o.id) (length v.rest) None (at_operation next (with_steps o ss ps) own ∷ more) u before.values here.values) in
            let labels = ap length en.labels in
            let outside = here.labels in
            record {
              next_is = refl;
              others = pushed ∙ ap (λ z. z ++ framed.Operation next ∷ []) here.others;
              levels = (
                subst (λ i. IsRegion names.names text new.state.ctx.now r i (length v.rest)) iso_here (subst (λ t. IsRegion names.names t new.state.ctx.now r iso (length v.rest)) same_text en.begins.region),
                (
                  (begun_lasts before.names names.names text ctx new.state.ctx.now enters_carries.keeps enters_carries.lasts next (with_steps o ss ps) begun, own_lasts names new enters_carries (with_steps o ss ps) own has),
                  others_last names new enters_carries more here.levels.1,
                ),
              );
              nest = (
                ap (λ d. isolated d o.id) (sym (same_dialects names new enters_carries)),
                subst (λ n. 0 < n) depth (is_open_some names.values en.is_in),
                (subst (λ p. IsInBlock base p more) (sym same) here.nest.0, nests_last names new enters_carries base u more here.nest.1),
              );
              values = depth;
              labels = omega (arith, labels, outside);
            }

        fewer : length new.stream.rest < length old.stream.rest
        fewer = let m = brace_fewer v.rest tt en.begins.taken new.stream.rest en.begins.read in let n = moves_fewer old.stream v passes.moves in omega (arith, m, n)

      -- ---- the one that comes next
      module _ (is : IsNext ctx.dialects b comes.Region) (next : BegunOperation) (next_is : next ≡ record b { coming = None; step = b.step + 1 }) (pushed : waits ≡ frames ++ framed.Operation next ∷ []) where
        same_op : next.op ≡ b.op
        same_op = ap (λ z. z.op) next_is

        region_arrives : (base : Base) (u l : ℕ) (o : OpenOperation T A) (own : OwnSoFar T A) (more : List (Level T A)) → IsHere base u l (at_operation b o own ∷ more) before text ctx (Some (framed.Operation b)) frames
            → Comes base u l (at_operation b o own ∷ more) names new (Some (framed.Region r)) waits
        region_arrives base u l o own more here =
            let s = region_comes (slice_get (steps_in ctx.dialects (id_of b.id)) b.step) is in
            let ss = drop (b.step + 1) (steps_in ctx.dialects (id_of b.id)) in
            let e = steps_here before.names text ctx b o here.levels.0.0 (one s.0) s.1 in
            let ps = o.parts ++ tree.region s.0 ∷ [] in (
              record {
                later = at_region r (isolated ctx.dialects o.id) (length v.rest) None ∷ at_operation next (with_steps o ss ps) own ∷ more;
                here = is_within base u l o own more here next ss ps same_op pushed (begun_region before.names text ctx b next o (one s.0) ss (tree.region s.0) e next_is tt here.levels.0.0)
                    (own_region (format_of ctx.dialects) o own (one s.0) ss (tree.region s.0) e refl refl here.levels.0.1);
                turned = region_entered types_at attr base before old b o own more (loops recorder) r v names new s.0 ss next iso e same_op (ap (λ z. z.results) next_is) (iso_here base u l o own more here) passes.rest en.begins en.came en.gains en.spares en.marks (moves_fewer old.stream new.stream enters_carries.moves);
              },
              region_nearer often (waiting (at_operation b o own ∷ more)) old.stream.rest new.stream.rest o (one s.0) ss ps (isolated ctx.dialects o.id) (length v.rest) e more_often (fewer base u l o own more here),
            )

        pub region_proceeds : AreHere T A text ctx before (Some (framed.Operation b)) frames → Proceeds types_at attr (framed.Operation b) frames before old names new (Some (framed.Region r)) waits
        region_proceeds = operation_proceeds names new enters_carries b frames (Some (framed.Region r)) waits region_arrives
            (λ m le all. (en.fresh m le, pushed_new names new enters_carries m le frames waits (framed.Operation next) pushed all.1 (subst (λ p. IsNew m ctx.graph (TheOperation p)) (sym same_op) all.0)))

      -- ---- one of all
      module _ (is : IsNext ctx.dialects b comes.Regions) (follows_on : begins_region (after_space old.stream.rest) ≡ true) (pushed : waits ≡ frames ++ framed.Operation b ∷ []) where
        another_arrives : (base : Base) (u l : ℕ) (o : OpenOperation T A) (own : OwnSoFar T A) (more : List (Level T A)) → IsHere base u l (at_operation b o own ∷ more) before text ctx (Some (framed.Operation b)) frames
            → Comes base u l (at_operation b o own ∷ more) names new (Some (framed.Region r)) waits
        another_arrives base u l o own more here =
            let e = steps_here before.names text ctx b o here.levels.0.0 all (regions_come (slice_get (steps_in ctx.dialects (id_of b.id)) b.step) is) in (
              record {
                later = at_region r (isolated ctx.dialects o.id) (length v.rest) None ∷ at_operation b (with_steps o o.steps o.parts) own ∷ more;
                here = is_within base u l o own more here b o.steps o.parts refl pushed here.levels.0.0 here.levels.0.1;
                turned = another_entered types_at attr base before old b o own more (loops recorder) r v names new (drop (b.step + 1) (steps_in ctx.dialects (id_of b.id))) iso e follows_on (iso_here base u l o own more here) passes.rest en.begins en.came en.gains en.spares en.marks (moves_fewer old.stream new.stream enters_carries.moves);
              },
              another_nearer often (waiting (at_operation b o own ∷ more)) old.stream.rest new.stream.rest o (isolated ctx.dialects o.id) (length v.rest) more_often (fewer base u l o own more here),
            )

        pub another_proceeds : AreHere T A text ctx before (Some (framed.Operation b)) frames → Proceeds types_at attr (framed.Operation b) frames before old names new (Some (framed.Region r)) waits
        another_proceeds = operation_proceeds names new enters_carries b frames (Some (framed.Region r)) waits another_arrives
            (λ m le all. (en.fresh m le, pushed_new names new enters_carries m le frames waits (framed.Operation b) pushed all.1 all.0))

    -- ---- no more regions
    module _ (b next : BegunOperation) (frames : List Frame) (is : IsNext ctx.dialects b comes.Regions) (none : begins_region (after_space old.stream.rest) ≡ false) (next_is : next ≡ record b { coming = None; step = b.step + 1 }) where
      over_carries : Carries before old before (with_stream old v)
      over_carries = carries_pass before old v passes.moves

      over_arrives : (base : Base) (u l : ℕ) (o : OpenOperation T A) (own : OwnSoFar T A) (more : List (Level T A)) → IsHere base u l (at_operation b o own ∷ more) before text ctx (Some (framed.Operation b)) frames
          → Comes base u l (at_operation b o own ∷ more) before (with_stream old v) (Some (framed.Operation next)) frames
      over_arrives base u l o own more here =
          let e = steps_here before.names text ctx b o here.levels.0.0 all (regions_come (slice_get (steps_in ctx.dialects (id_of b.id)) b.step) is) in
          let ss = drop (b.step + 1) (steps_in ctx.dialects (id_of b.id)) in (
            record {
              later = at_operation next (with_steps o ss (o.parts ++ tree.regions ∷ [])) own ∷ more;
              here = record {
                next_is = refl;
                others = here.others;
                levels = ((begun_region before.names text ctx b next o all ss tree.regions e next_is tt here.levels.0.0, own_region (format_of ctx.dialects) o own all ss tree.regions e tt refl here.levels.0.1), here.levels.1);
                nest = (subst (λ p. IsInBlock base p more) (sym (ap (λ z. z.op) next_is)) here.nest.0, here.nest.1);
                values = here.values;
                labels = here.labels;
              };
              turned = regions_over types_at attr base before old b o own more (loops recorder) ss next v e none (ap (λ z. z.op) next_is) (ap (λ z. z.results) next_is) passes.rest (moves_fewer old.stream v passes.moves);
            },
            step_nearer often (waiting (at_operation b o own ∷ more)) old.stream.rest v.rest o all ss (o.parts ++ tree.regions ∷ []) e (moves_fewer old.stream v passes.moves),
          )

      pub over_proceeds : AreHere T A text ctx before (Some (framed.Operation b)) frames → Proceeds types_at attr (framed.Operation b) frames before old before (with_stream old v) (Some (framed.Operation next)) frames
      over_proceeds = operation_proceeds before (with_stream old v) over_carries b frames (Some (framed.Operation next)) frames over_arrives
          (λ m le all. (subst (λ p. IsNew m ctx.graph (TheOperation p)) (sym (ap (λ z. z.op) next_is)) all.0, all.1))

    -- ---- a block begins
    module _ (r : BegunRegion) (frames waits : List Frame) (kb : BegunBlock) (names : Names) (new : StateStream T A U) (hd : Heads types_at attr before (with_stream old v) r.region kb names new)
        (follows_on : begins_block (after_space old.stream.rest) ≡ true) (first : kb.first ≡ true) (pushed : waits ≡ frames ++ framed.Region r ∷ []) where
      heads_carries : Carries before old names new
      heads_carries = carries_passed v passes.moves hd.carries

      block_arrives : (base : Base) (u l : ℕ) (iso : Bool) (place : ℕ) (last : Option (Ptr BasicBlock)) (more : List (Level T A)) → IsHere base u l (at_region r iso place last ∷ more) before text ctx (Some (framed.Region r)) frames
          → Comes base u l (at_region r iso place last ∷ more) names new (Some (framed.Block kb)) waits
      block_arrives base u l iso place last more here = (
        record {
          later = at_block kb ∷ at_region r iso place (Some kb.block) ∷ more;
          here = record {
            next_is = refl;
            others = pushed ∙ ap (λ z. z ++ framed.Region r ∷ []) here.others;
            levels = (
              record { is_first = refl; alive = hd.begins.block.alive; inside = hd.begins.block.inside },
              (level_lasts before.names names.names text ctx new.state.ctx.now heads_carries.keeps heads_carries.lasts (at_region r iso place last) here.levels.0, others_last names new heads_carries more here.levels.1),
            );
            nest = (refl, nest_over iso place last more base u names new heads_carries here.nest);
            values = hd.depth.values ∙ (here.values ∙ ap (λ n. n + u) (isolated_last r iso place last (Some kb.block) more));
            labels = hd.depth.labels ∙ here.labels;
          };
          turned = block_begun types_at attr base before old (loops recorder) r iso place last more v passes.rest names new kb follows_on first same_text hd.begins hd.came hd.gains hd.spares hd.noted (subst (λ n. (length new.stream.rest < n) × (n ≤ length old.stream.rest)) (sym label_there) (v_less, moves_fewer old.stream v passes.moves));
        },
        subst (λ f. work often (Some (a_block f)) (waiting (at_region r iso place last ∷ more) ++ a_region iso place ∷ []) new.stream.rest < work often (Some (a_region iso place)) (waiting (at_region r iso place last ∷ more)) old.stream.rest) (sym first)
            (block_nearer often (waiting (at_region r iso place last ∷ more)) old.stream.rest new.stream.rest iso place more_often head_less),
      )
        where
          v_less : length new.stream.rest < length v.rest
          v_less = head_fewer (leaves_no_more types_at h) (leaves_no_more attr (splits_attr reading k)) v.rest hd.begins.head hd.begins.taken new.stream.rest
              (subst (λ t. begins (λ z. true) t ≡ true) (sym passes.rest) (some_character (the 94) (after_space old.stream.rest) follows_on)) hd.begins.read

          head_less : length new.stream.rest < length old.stream.rest
          head_less = let m = v_less in let n = moves_fewer old.stream v passes.moves in omega (arith, m, n)

          label_there : hd.begins.head.label.place ≡ length v.rest
          label_there = head_place types_at attr v.rest hd.begins.head hd.begins.taken new.stream.rest hd.begins.read

          nest_over : (iso : Bool) (place : ℕ) (last : Option (Ptr BasicBlock)) (more : List (Level T A)) (base : Base) (u : ℕ) (names : Names) (new : StateStream T A U) → Carries before old names new → Nest base ctx.dialects u (at_region r iso place last ∷ more)
              → Nest base new.state.ctx.now.dialects u (at_region r iso place (Some kb.block) ∷ more)
          nest_over iso place last more base u names new carries n = subst (λ d. Nest base d u (at_region r iso place (Some kb.block) ∷ more)) (sym (same_dialects names new carries)) (nest_last base ctx.dialects u r iso place last (Some kb.block) more n)

      pub block_proceeds : AreHere T A text ctx before (Some (framed.Region r)) frames → Proceeds types_at attr (framed.Region r) frames before old names new (Some (framed.Block kb)) waits
      block_proceeds = within_region names new heads_carries r frames (Some (framed.Block kb)) waits block_arrives
          (λ m le all. (hd.fresh m le, pushed_new names new heads_carries m le frames waits (framed.Region r) pushed all.1 all.0))

    -- ---- a region ends
    module _ (r : BegunRegion) (frames waits : List Frame) (next : Option Frame) (names : Names) (new : StateStream T A U) (lv : Leaves types_at attr before (with_stream old v) r names new)
        (none : begins_block (after_space old.stream.rest) ≡ false) (takes : TakesLast frames next waits) where
      leaves_carries : Carries before old names new
      leaves_carries = carries_passed v passes.moves lv.carries

      module _ (base : Base) (u l : ℕ) (iso : Bool) (place : ℕ) (last : Option (Ptr BasicBlock)) where
        left_read : (more : List (Level T A)) → IsHere base u l (at_region r iso place last ∷ more) before text ctx (Some (framed.Region r)) frames → EndsRegion types_at attr iso place before (with_stream old v) names new
        left_read more here = subst (λ i. EndsRegion types_at attr i place before (with_stream old v) names new) here.levels.0.is_isolated
            (lv.ends place (record { is_isolated = refl; placed = subst (λ t. placing.Leaves t r.at place) (sym same_text) here.levels.0.placed; alive = here.levels.0.alive }))

        left_here : (more : List (Level T A)) → IsHere base u l (at_region r iso place last ∷ more) before text ctx (Some (framed.Region r)) frames → IsHere base u l more names text new.state.ctx.now next waits
        left_here more here =
            let t = taken_last more frames waits next here.others takes in
            let outside = here.labels in
            let labels = outer_less before.labels (regions_in more + l) (omega (arith, outside)) in
            record {
              next_is = t.0;
              others = t.1;
              levels = others_last names new leaves_carries more here.levels.1;
              nest = nests_last names new leaves_carries base u more here.nest.2;
              values = ap length lv.values ∙ (ap (λ i. length (left i before.values)) here.levels.0.is_isolated ∙ left_less r iso place last more u before.values here.values);
              labels = ap length lv.labels ∙ labels;
            }

        left_nearer : (more : List (Level T A)) → work often (next_of more) (waiting more) new.stream.rest < work often (Some (a_region iso place)) (outward (map open_of more)) old.stream.rest
        left_nearer more = end_nearer often (outward (map open_of more)) old.stream.rest new.stream.rest (a_region iso place) (next_of more) (waiting more) (theory_pops more) (moves_fewer old.stream new.stream leaves_carries.moves)

        left_arrives : (more : List (Level T A)) → IsHere base u l (at_region r iso place last ∷ more) before text ctx (Some (framed.Region r)) frames
            → Comes base u l (at_region r iso place last ∷ more) names new next waits
        left_arrives [] here = (
          record {
            later = [];
            here = left_here [] here;
            turned = base_over types_at attr base before old (loops recorder) r iso place last [] v passes.rest names new none (left_read [] here) lv.state (moves_fewer old.stream new.stream leaves_carries.moves) refl here.nest.0;
          },
          left_nearer [],
        )
        left_arrives (at_operation b o own ∷ outside) here = (
          record {
            later = at_operation b o own ∷ outside;
            here = left_here (at_operation b o own ∷ outside) here;
            turned = region_over types_at attr base before old (loops recorder) r iso place last (at_operation b o own ∷ outside) v passes.rest names new none (left_read (at_operation b o own ∷ outside) here) lv.state (moves_fewer old.stream new.stream leaves_carries.moves) b o own outside refl;
          },
          left_nearer (at_operation b o own ∷ outside),
        )
        left_arrives (at_region s i p q ∷ outside) here = absurd here.nest.0
        left_arrives (at_block kb ∷ outside) here = absurd here.nest.0

      pub left_proceeds : AreHere T A text ctx before (Some (framed.Region r)) frames → Proceeds types_at attr (framed.Region r) frames before old names new next waits
      left_proceeds = within_region names new leaves_carries r frames next waits left_arrives
          (λ m le all. new_taken m new.state.ctx.now.graph frames waits next takes (frames_new m ctx new.state.ctx.now leaves_carries.lasts le frames all.1))

  -- ---- an operation ends
  module _ (b : BegunOperation) (frames waits : List Frame) (next : Option Frame) (names : Names) (new : StateStream T A U) (en : Ends types_at attr before old b names new) (is : IsNext ctx.dialects b comes.End) (takes : TakesLast frames next waits) where
    ended_here : (base : Base) (u l : ℕ) (o : OpenOperation T A) (own : OwnSoFar T A) (more : List (Level T A)) → IsHere base u l (at_operation b o own ∷ more) before text ctx (Some (framed.Operation b)) frames → IsHere base u l more names text new.state.ctx.now next waits
    ended_here base u l o own more here =
        let t = taken_last more frames waits next here.others takes in
        record {
          next_is = t.0;
          others = t.1;
          levels = others_last names new en.carries more here.levels.1;
          nest = nests_last names new en.carries base u more here.nest.1;
          values = en.depth.values ∙ here.values;
          labels = en.depth.labels ∙ here.labels;
        }

    ended_nearer : (o : OpenOperation T A) (more : List (Level T A)) → work often (next_of more) (waiting more) new.stream.rest < work often (Some (an_operation o)) (outward (map open_of more)) old.stream.rest
    ended_nearer o more = end_nearer often (outward (map open_of more)) old.stream.rest new.stream.rest (an_operation o) (next_of more) (waiting more) (theory_pops more) (moves_fewer old.stream new.stream en.carries.moves)

    ended_arrives : (base : Base) (u l : ℕ) (o : OpenOperation T A) (own : OwnSoFar T A) (more : List (Level T A)) → IsHere base u l (at_operation b o own ∷ more) before text ctx (Some (framed.Operation b)) frames
        → Comes base u l (at_operation b o own ∷ more) names new next waits
    ended_arrives base u l o own [] here =
        let e = no_steps_here before.names text ctx b o here.levels.0.0 (end_comes (slice_get (steps_in ctx.dialects (id_of b.id)) b.step) is) in
        let x = en.ends o here.levels.0.0 in (
          record {
            later = [];
            here = ended_here base u l o own [] here;
            turned = root_over types_at attr base before old b o own [] e names new here.levels.0.1 x.0 (x.1 own) en.spares (en.noted x.0.mark x.0.taken x.0.read) (moves_fewer old.stream new.stream en.carries.moves) refl here.nest.0;
          },
          ended_nearer o [],
        )
    ended_arrives base u l o own (at_operation c p q ∷ outside) here = absurd here.nest.0
    ended_arrives base u l o own (at_region r iso place last ∷ outside) here = absurd here.nest.0
    ended_arrives base u l o own (at_block kb ∷ []) here = absurd here.nest.1.0
    ended_arrives base u l o own (at_block kb ∷ at_operation c p q ∷ outside) here = absurd here.nest.1.0
    ended_arrives base u l o own (at_block kb ∷ at_block c ∷ outside) here = absurd here.nest.1.0
    ended_arrives base u l o own (at_block kb ∷ at_region r iso place last ∷ outside) here =
        let e = no_steps_here before.names text ctx b o here.levels.0.0 (end_comes (slice_get (steps_in ctx.dialects (id_of b.id)) b.step) is) in
        let x = en.ends o here.levels.0.0 in
        let more = at_block kb ∷ at_region r iso place last ∷ outside in (
          record {
            later = more;
            here = ended_here base u l o own more here;
            turned = operation_over types_at attr base before old b o own more e names new here.levels.0.1 x.0 (x.1 own) en.spares (en.noted x.0.mark x.0.taken x.0.read) (moves_fewer old.stream new.stream en.carries.moves) kb r iso place last outside refl here.nest.1.0;
          },
          ended_nearer o more,
        )

    pub ended_proceeds : AreHere T A text ctx before (Some (framed.Operation b)) frames → Proceeds types_at attr (framed.Operation b) frames before old names new next waits
    ended_proceeds = operation_proceeds names new en.carries b frames next waits ended_arrives
        (λ m le all. new_taken m new.state.ctx.now.graph frames waits next takes (frames_new m ctx new.state.ctx.now en.carries.lasts le frames all.1))

  -- ---- a block
  module _ (kb : BegunBlock) (frames waits : List Frame) (v : StreamView) (passes : PassesTo (text_there kb.first old.stream.rest) old.stream v) where
    abbrev BlockIsHere : Base → ℕ → ℕ → BegunRegion → Bool → ℕ → Option (Ptr BasicBlock) → List (Level T A) → Type 0
    BlockIsHere base u l r iso place last more = IsHere base u l (at_block kb ∷ at_region r iso place last ∷ more) before text ctx (Some (framed.Block kb)) frames

    -- it is left
    module _ (next : Option Frame) (none : operation_follows kb.first old.stream.rest ≡ false) (takes : TakesLast frames next waits) where
      gone_carries : Carries before old before (with_stream old v)
      gone_carries = carries_pass before old v passes.moves

      gone_arrives : (base : Base) (u l : ℕ) (r : BegunRegion) (iso : Bool) (place : ℕ) (last : Option (Ptr BasicBlock)) (more : List (Level T A)) → BlockIsHere base u l r iso place last more
          → Comes base u l (at_block kb ∷ at_region r iso place last ∷ more) before (with_stream old v) next waits
      gone_arrives base u l r iso place last more here =
          let inner = at_region r iso place last ∷ more in
          let t = taken_last inner frames waits next here.others takes in (
            record {
              later = inner;
              here = record { next_is = t.0; others = t.1; levels = here.levels.1; nest = here.nest.1; values = here.values; labels = here.labels };
              turned = block_left types_at attr base before old (loops recorder) kb r iso place last more v none passes.rest (moves_fewer old.stream v passes.moves);
            },
            end_nearer often (outward (map open_of inner)) old.stream.rest v.rest (a_block kb.first) (next_of inner) (waiting inner) (theory_pops inner) (moves_fewer old.stream v passes.moves),
          )

      pub gone_proceeds : AreHere T A text ctx before (Some (framed.Block kb)) frames → Proceeds types_at attr (framed.Block kb) frames before old before (with_stream old v) next waits
      gone_proceeds = within_block before (with_stream old v) gone_carries kb frames next waits gone_arrives
          (λ m le all. new_taken m ctx.graph frames waits next takes all.1)

    -- an operation begins in it
    module _ (b : BegunOperation) (names : Names) (new : StateStream T A U) (bg : Begins types_at attr before (with_stream old v) (Some kb.block) b names new) (follows_on : operation_follows kb.first old.stream.rest ≡ true)
        (pushed : waits ≡ frames ++ framed.Block (record { block = kb.block; first = false }) ∷ []) where
      begins_carries : Carries before old names new
      begins_carries = carries_passed v passes.moves bg.carries

      abbrev begun_here : OpenOperation T A
      begun_here = begun_by types_at attr true (with_stream old v) new.stream.rest bg.begins.read

      here_text : whole v ≡ text
      here_text = moved_whole old.stream v passes.moves

      -- what precedes an operation's regions takes some of the text
      front_less : length new.stream.rest < length v.rest
      front_less =
          let lead = led_fewer ctx.dialects v.rest (bg.begins.read.names, bg.begins.read.id) bg.begins.read.lead bg.begins.read.middle
          (led_some ctx.dialects v.rest (bg.begins.read.names, bg.begins.read.id) bg.begins.read.lead bg.begins.read.middle bg.begins.read.led) bg.begins.read.led in
          let front = front_fewer (leaves_no_more types_at h) (leaves_no_more attr (splits_attr reading k)) (setting true false) (front_steps (steps_in ctx.dialects bg.begins.read.id)) bg.begins.read.middle bg.begins.read.parts bg.begins.read.taken new.stream.rest bg.begins.read.front in
          omega (arith, lead, front)

      -- as much is left to do of the one as is shown of the other
      begins_nearer : (first : Bool) (fs : List (Open T A)) → operation_follows first old.stream.rest ≡ true → v.rest ≡ text_there first old.stream.rest
          → work often (Some (an_operation begun_here)) (fs ++ a_block false ∷ []) new.stream.rest < work often (Some (a_block first)) fs old.stream.rest
      begins_nearer first fs one_is at =
          let less = front_less in
          let then = operation_nearer often (fs ++ a_block false ∷ []) v.rest new.stream.rest true begun_here (steps_fewer ctx.dialects bg.begins.read.id) less in
          let before_it = comes first one_is at in
          omega (arith, then, before_it)
        where
          comes : (first : Bool) → operation_follows first old.stream.rest ≡ true → v.rest ≡ text_there first old.stream.rest → work often (Some (to_come true)) (fs ++ a_block false ∷ []) v.rest < work often (Some (a_block first)) fs old.stream.rest
          comes true one_is at = first_nearer often fs old.stream.rest v.rest (moves_fewer old.stream v passes.moves)
          comes false one_is at = other_nearer often fs old.stream.rest v.rest more_often (semicolon_fewer old.stream.rest v.rest one_is at)

      begins_arrives : (base : Base) (u l : ℕ) (r : BegunRegion) (iso : Bool) (place : ℕ) (last : Option (Ptr BasicBlock)) (more : List (Level T A)) → BlockIsHere base u l r iso place last more
          → Comes base u l (at_block kb ∷ at_region r iso place last ∷ more) names new (Some (framed.Operation b)) waits
      begins_arrives base u l r iso place last more here =
          let inner = at_region r iso place last ∷ more in
          let block = level_lasts before.names names.names text ctx new.state.ctx.now begins_carries.keeps begins_carries.lasts (at_block kb) here.levels.0 in (
            record {
              later = at_operation b begun_here bg.own ∷ at_block (record { block = kb.block; first = false }) ∷ inner;
              here = record {
                next_is = refl;
                others = pushed ∙ ap (λ z. z ++ framed.Block (record { block = kb.block; first = false }) ∷ []) here.others;
                levels = (
                  (subst (λ t. IsBegun names.names t new.state.ctx.now b begun_here) here_text bg.begins.begun, own_lasts names new begins_carries begun_here bg.own bg.has),
                  (record { is_first = refl; alive = block.alive; inside = block.inside }, others_last names new begins_carries inner here.levels.1),
                );
                nest = (tt, (here.nest.0, nests_last names new begins_carries base u inner here.nest.1));
                values = bg.depth.values ∙ here.values;
                labels = bg.depth.labels ∙ here.labels;
              };
              turned = operation_in_block types_at attr base before old (loops recorder) kb r iso place last more v (splits_piece types_at reading h k true) b names new follows_on passes.rest here_text here.nest.0 (front_less, moves_fewer old.stream v passes.moves) bg;
            },
            begins_nearer kb.first (outward (map open_of inner)) follows_on passes.rest,
          )

      pub begins_proceeds : AreHere T A text ctx before (Some (framed.Block kb)) frames → Proceeds types_at attr (framed.Block kb) frames before old names new (Some (framed.Operation b)) waits
      begins_proceeds = within_block names new begins_carries kb frames (Some (framed.Operation b)) waits begins_arrives
          (λ m le all. (bg.fresh m le, pushed_new names new begins_carries m le frames waits (framed.Block (record { block = kb.block; first = false })) pushed all.1 all.0))
