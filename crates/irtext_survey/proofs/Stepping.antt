-- A step of the walk is a turn of the parse: what the frames and the notes represent afterwards, or where the parse is stuck.
use Rattle.std.proofs.Common.{◌≡◌, ◌∙◌, ◌<◌, ◌+◌, ◌-◌, ℕ, Bool, true, false, cond, ◌⊎◌, inl, inr, List, [], ◌∷◌, ◌++◌, codes, length, drop, slice_get, Option, Some, None, refl, sym, ap, subst, arith, append-nil}
use Rattle.irtext_base.specs.Text.{Text, after_space}
use Rattle.irtext_base.specs.Reading.{the}
use Rattle.irtext_base.specs.Faults.{Fault, id_of}
use Rattle.irtext_base.specs.Format.{Id}
use Rattle.irtext_base.specs.Stream.{StreamView}
use Rattle.irtext_base.specs.Answers.{Read, Bad, demanded}
use Rattle.irtext_tokens.proofs.Spelling.{begins_the}
use Rattle.irtext_base.specs.Locations.{AttrView}
use Rattle.irtext_base.specs.declared.parsable.fault.ParseFault.{ParseFault}
use Rattle.irtext_context.specs.Dialects.{Table}
use Rattle.irtext_tokens.specs.AttrTexts.{attr_at}
use Rattle.irtext_tokens.specs.Infix.{Reader, ◌▷◌}
use Rattle.irtext_tokens.specs.Tokens.{space_at, word}
use Rattle.irtext_tokens.proofs.Steps.{alone}
use Rattle.irtext_scopes.specs.Names.{KeepsNames}
use Rattle.irtext_grammar.specs.Contexts.Formats.{isolated}
use Rattle.irtext_grammar.specs.Contexts.Held.{whole}
use Rattle.irtext_grammar.specs.Grammar.Tree as tree
use Rattle.irtext_grammar.specs.Grammar.Tree.{Name, Part}
use Rattle.irtext_grammar.specs.Promises.Root.{UnlessMemory}
use Rattle.irtext_grammar.specs.Promises.Section.{Moves}
use Rattle.irtext_grammar.specs.Readers.Parts.{without_first}
use Rattle.irtext_grammar.specs.Heads.{Step, one, all, front_steps, piece_at, head_at, led_at, setting}
use Rattle.irtext_grammar.specs.Reached.{Actions, begins_region, begins_block, steps_in}
use Rattle.irtext_grammar.specs.Resume.{OpenOperation, with_steps, begun, is_flat, Open, to_come, an_operation, a_region, a_block, Pops, Goes, StoppedAt, front_at, work, by_character}
use Rattle.irtext_grammar.specs.Parsed.{Leaves, Each}
use Rattle.irtext_grammar.proofs.Joins.Answers.{Splits}
use Rattle.irtext_grammar.proofs.Joins.Attributes.{splits_attr}
use Rattle.irtext_grammar.proofs.Knot.Whole.{leaves_no_more}
use Rattle.irtext_grammar.proofs.Readers.Answered.{moves_more}
use Rattle.irtext_grammar.proofs.Resume.Frames.{goes_trans, stuck_at}
use Rattle.irtext_grammar.proofs.Resume.Front.{splits_inside, front_reads, front_misses}
use Rattle.irtext_grammar.proofs.Resume.Unbounded.{Unbounded, unbounded}
use Rattle.irtext_grammar.proofs.Resume.Turns.{operation_begins, no_lead, no_front, piece_reads, no_piece, operation_ends, no_end, first_operation, no_operation, region_begins, no_region, no_more_regions, another_region, block_begins, no_block, region_ends, no_brace, another_operation, no_more_operations}
use Rattle.irtext_grammar.proofs.Resume.Weights.{steps_fewer, operation_nearer, step_nearer, region_nearer, another_nearer, block_nearer, first_nearer, other_nearer, end_nearer}
use Rattle.irtext_parse_pieces.proofs.Meanings.{takes_whole}
use Rattle.irtext_parse_pieces.specs.Coming.{IsStep}
use Rattle.irtext_parse_pieces.specs.declared.coming.Coming.TheVariants as comes
use Rattle.irtext_parse_nested.proofs.FrontRead.{each_on}
use Rattle.irtext_parse_root.specs.OperationFollows.{operation_follows, text_there, PassesTo}
use Rattle.irtext_parse_root.proofs.Nearer.{moves_fewer, some_character, front_fewer, head_fewer, led_fewer, led_some, brace_fewer, semicolon_fewer}
use Rattle.irtext_parse_root.proofs.Owns.{step_first, step_none, region_comes, regions_come}
use Rattle.irtext_survey.specs.Notes.{Noted, with_notes, notes_of, noter, mentioned, piece_uses}
use Rattle.irtext_survey.specs.Walk.{IsNoted, IsHeld, IsOpen, IsNext, IsHere, IsMissed, Unread, Begun, NotBegun, PieceRead, HeadRead, EndRead, EndUnread, Entered, NotEntered, Left, Nearer, TakesLast, IsReady, AreNamed, read_as}
use Rattle.irtext_survey.specs.declared.frames.Frame.{Frame}
use Rattle.irtext_survey.specs.declared.frames.Frame.TheVariants as framed
use Rattle.irtext_survey.specs.declared.frames.OpenOperation.{OpenOperation as Held}
use Rattle.irtext_survey.specs.declared.frames.OpenRegion.{OpenRegion}
use Rattle.irtext_survey.specs.declared.notes.Mention.TheVariants.{DefinesValue}
use Rattle.irtext_survey.specs.declared.opening.Notebook.{Notebook}
use Rattle.irtext_survey.proofs.Mentions.{each_split, each_join, named_as}

-- where a region begins, its brace is there
brace_there : (u : Text) → begins_region u ≡ true → (cause : Fault) (upto : Text) → demanded ((word (codes "{") ▷ space_at) u) ≡ Bad cause upto → ⊥
brace_there u b cause upto e =
    let s = begins_the 123 u b in
    let g : demanded ((word (codes "{") ▷ space_at) (123 ∷ s.0)) ≡ Bad cause upto = subst (λ t. demanded ((word (codes "{") ▷ space_at) t) ≡ Bad cause upto) s.1 e in
    cc g

-- what moves keeps the whole text
pub moved_whole : (old new : StreamView) → Moves old new → whole new ≡ whole old
moved_whole old new m = takes_whole alone old new m.taken new.rest m.takes

-- ---- frames, while more names come
module _ {T A : Type 0} (dialects : List (Text × Table)) (text : Text) (names more : List Text) (keeps : KeepsNames names more) where
  held_on : (b : Held) (o : OpenOperation T A) → IsHeld dialects names text b o → IsHeld dialects more text b o
  held_on b o h = record { names_are = each_on names more text keeps b.names o.names h.names_are; id = h.id; steps = h.steps }

  open_on : (f : Frame) (o : Open T A) → IsOpen dialects names text f o → IsOpen dialects more text f o
  open_on (framed.Operation b) (an_operation o) h = held_on b o h
  open_on (framed.Operation b) (to_come i) h = absurd h
  open_on (framed.Operation b) (a_region i p) h = absurd h
  open_on (framed.Operation b) (a_block i) h = absurd h
  open_on (framed.Region r) (a_region i p) h = h
  open_on (framed.Region r) (to_come i) h = absurd h
  open_on (framed.Region r) (an_operation o) h = absurd h
  open_on (framed.Region r) (a_block i) h = absurd h
  open_on (framed.Block i) (a_block j) h = h
  open_on (framed.Block i) (to_come j) h = absurd h
  open_on (framed.Block i) (an_operation o) h = absurd h
  open_on (framed.Block i) (a_region j p) h = absurd h

  others_on : (fs : List Frame) (os : List (Open T A)) → Each (IsOpen dialects names text) fs os → Each (IsOpen dialects more text) fs os
  others_on [] [] e = tt
  others_on [] (o ∷ os) e = absurd e
  others_on (f ∷ fs) [] e = absurd e
  others_on (f ∷ fs) (o ∷ os) e = (open_on f o e.0, others_on fs os e.1)

-- the names are the same
pub same_names : (names : List Text) → KeepsNames names names
same_names names i t e = e

-- ---- the frame that waited last is next
module _ {T A : Type 0} (dialects : List (Text × Table)) (names : List Text) (text : Text) where
  record Popped (next : Option Frame) (waits : List Frame) (fs : List (Open T A)) : Type 0 where
    f : Option (Open T A)
    others : List (Open T A)
    pops : Pops fs f others
    next_is : IsNext dialects names text next f
    others_are : Each (IsOpen {T = T} {A = A} dialects names text) waits others

  popped : (frames : List Frame) (next : Option Frame) (waits : List Frame) (fs : List (Open T A)) → TakesLast frames next waits → Each (IsOpen {T = T} {A = A} dialects names text) frames fs → Popped next waits fs
  popped frames None waits fs t e = go frames fs (t.none refl) waits (t.frames ∙ append-nil waits) e
    where
      go : (frames : List Frame) (fs : List (Open T A)) → length frames ≡ 0 → (waits : List Frame) → frames ≡ waits → Each (IsOpen {T = T} {A = A} dialects names text) frames fs → Popped None waits fs
      go [] [] l waits same e = record { f = None; others = []; pops = refl; next_is = tt; others_are = subst (λ z. Each (IsOpen {T = T} {A = A} dialects names text) z []) same tt }
      go [] (o ∷ fs) l waits same e = absurd e
      go (g ∷ frames) fs l waits same e = absurd (cc l)
  popped frames (Some g) waits fs t e = go (each_split (IsOpen {T = T} {A = A} dialects names text) waits (g ∷ []) fs (subst (λ z. Each (IsOpen {T = T} {A = A} dialects names text) z fs) t.frames e))
    where
      last : (us vs : List (Open T A)) → fs ≡ us ++ vs → Each (IsOpen {T = T} {A = A} dialects names text) waits us → Each (IsOpen {T = T} {A = A} dialects names text) (g ∷ []) vs → Popped (Some g) waits fs
      last us [] same e f = absurd f
      last us (v ∷ w ∷ vs) same e f = absurd f.1
      last us (v ∷ []) same e f = record { f = Some v; others = us; pops = same; next_is = f.0; others_are = e }

      go : (us : List (Open T A)) × (vs : List (Open T A)) × (fs ≡ us ++ vs) × Each (IsOpen {T = T} {A = A} dialects names text) waits us × Each (IsOpen {T = T} {A = A} dialects names text) (g ∷ []) vs → Popped (Some g) waits fs
      go q = last q.0 q.1 q.2 q.3 q.4

  -- a frame waits after the others
  pushed : (frames : List Frame) (g : Frame) (waits : List Frame) (fs : List (Open T A)) (o : Open T A) → waits ≡ frames ++ g ∷ [] → Each (IsOpen {T = T} {A = A} dialects names text) frames fs → IsOpen dialects names text g o → Each (IsOpen {T = T} {A = A} dialects names text) waits (fs ++ o ∷ [])
  pushed frames g waits fs o same e is = subst (λ z. Each (IsOpen {T = T} {A = A} dialects names text) z (fs ++ o ∷ [])) (sym same) (each_join (IsOpen {T = T} {A = A} dialects names text) frames (g ∷ []) fs (o ∷ []) e (is, tt))

-- the next frame is this kind
module _ {T A : Type 0} (dialects : List (Text × Table)) (names : List Text) (text : Text) (P : Option (Open T A) → Type 0) where
  operation_next : (b : Held) (f : Option (Open T A)) → IsNext dialects names text (Some (framed.Operation b)) f → ((o : OpenOperation T A) → IsHeld dialects names text b o → P (Some (an_operation o))) → P f
  operation_next b None h k = absurd h
  operation_next b (Some (to_come i)) h k = absurd h
  operation_next b (Some (an_operation o)) h k = k o h
  operation_next b (Some (a_region i p)) h k = absurd h
  operation_next b (Some (a_block i)) h k = absurd h

  region_next : (r : OpenRegion) (f : Option (Open T A)) → IsNext dialects names text (Some (framed.Region r)) f → ((iso : Bool) (place : ℕ) → r.isolated ≡ iso → Leaves text r.at place → P (Some (a_region iso place))) → P f
  region_next r None h k = absurd h
  region_next r (Some (to_come i)) h k = absurd h
  region_next r (Some (an_operation o)) h k = absurd h
  region_next r (Some (a_region i p)) h k = k i p h.0 h.1
  region_next r (Some (a_block i)) h k = absurd h

  block_next : (first : Bool) (f : Option (Open T A)) → IsNext dialects names text (Some (framed.Block first)) f → P (Some (a_block first)) → P f
  block_next first None h k = absurd h
  block_next first (Some (to_come i)) h k = absurd h
  block_next first (Some (an_operation o)) h k = absurd h
  block_next first (Some (a_region i p)) h k = absurd h
  block_next first (Some (a_block i)) h k = subst (λ j. P (Some (a_block j))) h k

module _ {T A : Type 0} (types_at : Reader T) (reading : Reader A) (h : Splits types_at) (k : Splits reading) (dialects : List (Text × Table)) (name : Text) (before : List Text) (book : Notebook) (old : StreamView) (frames : List Frame) where
  abbrev attr : Reader (AttrView A)
  attr = attr_at reading

  abbrev does : Actions T A Noted
  does = noter name

  abbrev text : Text
  text = whole old

  abbrev often : ℕ
  often = by_character dialects

  loops : Unbounded dialects types_at attr does
  loops = unbounded dialects types_at attr does (leaves_no_more types_at h) (leaves_no_more attr (splits_attr reading k))

  more_often : 3 < often
  more_often = omega arith

  abbrev Here : Frame → Option (Open T A) → List (Open T A) → Noted → Type 0
  Here frame f fs s = IsHere dialects before text book (Some frame) frames f fs s

  abbrev Near : Frame → List Text → Notebook → Option Frame → List Frame → StreamView → Option (Open T A) → List (Open T A) → Noted → Type 0
  Near frame names later next waits new f fs s = Nearer types_at attr dialects name before book (Some frame) frames old names later next waits new f fs s

  abbrev Stuck : Notebook → Option (Open T A) → List (Open T A) → Noted → Type 0
  Stuck later f fs s = (s' : Noted) × (cause : Fault) × (place : ℕ) × StoppedAt dialects types_at attr does f fs s old.rest s' cause place × IsNoted text later s'

  -- ---- a piece
  module _ (b b' : Held) (step : Step) (there : slice_get (steps_in dialects (id_of b.id)) b.step ≡ Some step) where
    left : (o : OpenOperation T A) → IsHeld dialects before text b o → o.steps ≡ step ∷ drop (b.step + 1) (steps_in dialects o.id)
    left o is = is.steps ∙ step_first (steps_in dialects o.id) b.step step (ap (λ i. slice_get (steps_in dialects i) b.step) (sym is.id) ∙ there)

    -- the operation at the step after it
    after_step : b' ≡ record b { step = b.step + 1 } → (names : List Text) → KeepsNames before names → (o : OpenOperation T A) → IsHeld dialects before text b o → (ps : List (Part ℕ T A))
        → IsHeld dialects names text b' (with_steps o (drop (b.step + 1) (steps_in dialects o.id)) ps)
    after_step same names keeps o is ps = subst (λ z. IsHeld dialects names text z (with_steps o (drop (b.step + 1) (steps_in dialects o.id)) ps)) (sym same)
        (record { names_are = each_on before names text keeps b.names o.names is.names_are; id = is.id; steps = refl })

    pub piece_nearer : b' ≡ record b { step = b.step + 1 } → is_flat step ≡ true → (names : List Text) (later : Notebook) (new : StreamView) → PieceRead types_at attr name step before book old names later new
        → (f : Option (Open T A)) (fs : List (Open T A)) (s : Noted) → Here (framed.Operation b) f fs s → Near (framed.Operation b) names later (Some (framed.Operation b')) frames new f fs s
    piece_nearer same flat names later new r f fs s at = operation_next dialects before text (λ f. Near (framed.Operation b) names later (Some (framed.Operation b')) frames new f fs s) b f at.next_is (λ o is.
        let ss = drop (b.step + 1) (steps_in dialects o.id) in
        let ps = o.parts ++ tree.piece r.piece ∷ [] in
        record {
          arrives = record {
            f' = Some (an_operation (with_steps o ss ps));
            fs' = fs;
            s' = with_notes s (notes_of name (piece_uses r.piece));
            here = record { next_is = after_step same names r.keeps o is ps; others = others_on dialects text before names r.keeps frames fs at.others; noted = r.noted s at.noted };
            goes = piece_reads dialects types_at attr does o fs s old.rest step ss (left o is) flat r.piece r.taken new.rest r.read;
          };
          less = step_nearer often fs old.rest new.rest o step ss ps (left o is) (moves_fewer old new r.moves);
        })

    pub piece_stops : is_flat step ≡ true → (later : Notebook) (new : StreamView) → Unread ((space_at ▷ piece_at types_at attr (setting true true) step) old.rest) book old later new
        → (f : Option (Open T A)) (fs : List (Open T A)) (s : Noted) → Here (framed.Operation b) f fs s → Stuck later f fs s
    piece_stops flat later new u f fs s at = operation_next dialects before text (λ f. Stuck later f fs s) b f at.next_is (λ o is. (
      s,
      u.missed.cause,
      _,
      no_piece dialects types_at attr does o fs s old.rest step (drop (b.step + 1) (steps_in dialects o.id)) (left o is) flat u.missed.cause u.missed.upto u.missed.bad,
      subst (λ z. IsNoted text z s) (sym u.still) at.noted,
    ))

  -- ---- white space is passed
  module _ (v : StreamView) (passes : PassesTo (after_space old.rest) old v) where
    same_text : whole v ≡ text
    same_text = moved_whole old v passes.moves

    record EntersHere (iso : Bool) (r : OpenRegion) (later : Notebook) (new : StreamView) : Type 0 where
      taken : Text
      read : (word (codes "{") ▷ space_at) (after_space old.rest) ≡ Read tt taken new.rest
      is_isolated : r.isolated ≡ iso
      placed : Leaves text r.at (length (after_space old.rest))
      noted : (s : Noted) → IsNoted text book s → IsNoted text later (does.enters iso s)
      moves : Moves old new
      fewer : length new.rest < length old.rest

    enters_here : (given iso : Bool) → given ≡ iso → (r : OpenRegion) (later : Notebook) (new : StreamView) → Entered given book v r later new → EntersHere iso r later new
    enters_here given iso same r later new e = subst (λ i. EntersHere i r later new) same (record {
      taken = e.taken;
      read = subst (λ t. (word (codes "{") ▷ space_at) t ≡ Read tt e.taken new.rest) passes.rest e.read;
      is_isolated = e.is_isolated;
      placed = subst (λ t. Leaves t r.at (length (after_space old.rest))) same_text (subst (λ t. Leaves (whole v) r.at (length t)) passes.rest e.placed);
      noted = λ s n. subst (λ t. IsNoted t later (does.enters given s)) same_text (e.noted s (subst (λ t. IsNoted t book s) (sym same_text) n));
      moves = moves_more passes.moves e.moves;
      fewer = let m = brace_fewer v.rest tt e.taken new.rest e.read in let n = moves_fewer old v passes.moves in omega (arith, m, n);
    })

    record MissesHere (iso : Bool) (later : Notebook) : Type 0 where
      missed : IsMissed ((word (codes "{") ▷ space_at) (after_space old.rest))
      noted : (s : Noted) → IsNoted text book s → IsNoted text later (does.enters iso s)

    misses_here : (given iso : Bool) → given ≡ iso → (later : Notebook) (new : StreamView) → NotEntered given book v later new → MissesHere iso later
    misses_here given iso same later new e = subst (λ i. MissesHere i later) same (record {
      missed = subst (λ t. IsMissed ((word (codes "{") ▷ space_at) t)) passes.rest e.missed;
      noted = λ s n. subst (λ t. IsNoted t later (does.enters given s)) same_text (e.noted s (subst (λ t. IsNoted t book s) (sym same_text) n));
    })

    module _ (b : Held) (iso : Bool) (iso_is : iso ≡ isolated dialects (id_of b.id)) where
      -- ---- the region that comes next
      module _ (b' : Held) (same : b' ≡ record b { step = b.step + 1 }) (next : IsStep comes.Region (slice_get (steps_in dialects (id_of b.id)) b.step)) where
        abbrev the_step : (i : ℕ) × (slice_get (steps_in dialects (id_of b.id)) b.step ≡ Some (one i))
        the_step = region_comes (slice_get (steps_in dialects (id_of b.id)) b.step) next

        pub region_nearer_by : (r : OpenRegion) (names : List Text) (later : Notebook) (new : StreamView) (waits : List Frame) → names ≡ before → Entered iso book v r later new → waits ≡ frames ++ framed.Operation b' ∷ []
            → (f : Option (Open T A)) (fs : List (Open T A)) (s : Noted) → Here (framed.Operation b) f fs s → Near (framed.Operation b) before later (Some (framed.Region r)) waits new f fs s
        region_nearer_by r names later new waits still e push f fs s at = operation_next dialects before text (λ f. Near (framed.Operation b) before later (Some (framed.Region r)) waits new f fs s) b f at.next_is (λ o is.
            let ss = drop (b.step + 1) (steps_in dialects o.id) in
            let ps = o.parts ++ tree.region the_step.0 ∷ [] in
            let l = left b b' (one the_step.0) the_step.1 o is in
            let q = enters_here iso (isolated dialects o.id) (iso_is ∙ ap (isolated dialects) is.id) r later new e in
            record {
              arrives = record {
                f' = Some (a_region (isolated dialects o.id) (length (after_space old.rest)));
                fs' = fs ++ an_operation (with_steps o ss ps) ∷ [];
                s' = does.enters (isolated dialects o.id) s;
                here = record {
                  next_is = (q.is_isolated, q.placed);
                  others = pushed dialects before text frames (framed.Operation b') waits fs (an_operation (with_steps o ss ps)) push at.others (after_step b b' (one the_step.0) the_step.1 same before (same_names before) o is ps);
                  noted = q.noted s at.noted;
                };
                goes = region_begins dialects types_at attr does loops o fs s old.rest the_step.0 ss l tt q.taken new.rest q.read;
              };
              less = region_nearer often fs old.rest new.rest o (one the_step.0) ss ps (isolated dialects o.id) (length (after_space old.rest)) l more_often q.fewer;
            })

        pub region_stops : (later : Notebook) (new : StreamView) → NotEntered iso book v later new → (f : Option (Open T A)) (fs : List (Open T A)) (s : Noted) → Here (framed.Operation b) f fs s → Stuck later f fs s
        region_stops later new e f fs s at = operation_next dialects before text (λ f. Stuck later f fs s) b f at.next_is (λ o is.
            let q = misses_here iso (isolated dialects o.id) (iso_is ∙ ap (isolated dialects) is.id) later new e in (
              does.enters (isolated dialects o.id) s,
              q.missed.cause,
              _,
              no_region dialects types_at attr does loops o fs s old.rest the_step.0 (drop (b.step + 1) (steps_in dialects o.id)) (left b b' (one the_step.0) the_step.1 o is) q.missed.cause q.missed.upto q.missed.bad,
              q.noted s at.noted,
            ))

      -- ---- one of all regions
      module _ (next : IsStep comes.Regions (slice_get (steps_in dialects (id_of b.id)) b.step)) (follows_on : begins_region (after_space old.rest) ≡ true) where
        abbrev all_there : slice_get (steps_in dialects (id_of b.id)) b.step ≡ Some all
        all_there = regions_come (slice_get (steps_in dialects (id_of b.id)) b.step) next

        pub another_nearer_by : (r : OpenRegion) (later : Notebook) (new : StreamView) (waits : List Frame) → Entered iso book v r later new → waits ≡ frames ++ framed.Operation b ∷ []
            → (f : Option (Open T A)) (fs : List (Open T A)) (s : Noted) → Here (framed.Operation b) f fs s → Near (framed.Operation b) before later (Some (framed.Region r)) waits new f fs s
        another_nearer_by r later new waits e push f fs s at = operation_next dialects before text (λ f. Near (framed.Operation b) before later (Some (framed.Region r)) waits new f fs s) b f at.next_is (λ o is.
            let ss = drop (b.step + 1) (steps_in dialects o.id) in
            let l = left b b all all_there o is in
            let q = enters_here iso (isolated dialects o.id) (iso_is ∙ ap (isolated dialects) is.id) r later new e in
            record {
              arrives = record {
                f' = Some (a_region (isolated dialects o.id) (length (after_space old.rest)));
                fs' = fs ++ an_operation o ∷ [];
                s' = does.enters (isolated dialects o.id) s;
                here = record {
                  next_is = (q.is_isolated, q.placed);
                  others = pushed dialects before text frames (framed.Operation b) waits fs (an_operation o) push at.others is;
                  noted = q.noted s at.noted;
                };
                goes = another_region dialects types_at attr does loops o fs s old.rest ss l follows_on tt q.taken new.rest q.read;
              };
              less = another_nearer often fs old.rest new.rest o (isolated dialects o.id) (length (after_space old.rest)) more_often q.fewer;
            })

        pub another_stops : (later : Notebook) (new : StreamView) → NotEntered iso book v later new → (f : Option (Open T A)) (fs : List (Open T A)) (s : Noted) → Stuck later f fs s
        another_stops later new e f fs s = let m = (misses_here iso iso refl later new e).missed in absurd (brace_there (after_space old.rest) follows_on m.cause m.upto m.bad)

    -- ---- no region is left
    module _ (b b' : Held) (same : b' ≡ record b { step = b.step + 1 }) (next : IsStep comes.Regions (slice_get (steps_in dialects (id_of b.id)) b.step)) (none : begins_region (after_space old.rest) ≡ false) where
      pub regions_over : (f : Option (Open T A)) (fs : List (Open T A)) (s : Noted) → Here (framed.Operation b) f fs s → Near (framed.Operation b) before book (Some (framed.Operation b')) frames v f fs s
      regions_over f fs s at = operation_next dialects before text (λ f. Near (framed.Operation b) before book (Some (framed.Operation b')) frames v f fs s) b f at.next_is (λ o is.
          let ss = drop (b.step + 1) (steps_in dialects o.id) in
          let ps = o.parts ++ tree.regions ∷ [] in
          let there = regions_come (slice_get (steps_in dialects (id_of b.id)) b.step) next in
          let l = left b b' all there o is in
          record {
            arrives = record {
              f' = Some (an_operation (with_steps o ss ps));
              fs' = fs;
              s' = s;
              here = record { next_is = after_step b b' all there same before (same_names before) o is ps; others = at.others; noted = at.noted };
              goes = subst (λ t. Goes dialects types_at attr does (Some (an_operation o)) fs s old.rest (Some (an_operation (with_steps o ss ps))) fs s t) (sym passes.rest)
                  (no_more_regions dialects types_at attr does loops o fs s old.rest ss l none);
            };
            less = step_nearer often fs old.rest v.rest o all ss ps l (moves_fewer old v passes.moves);
          })

    -- ---- a region goes on
    module _ (r : OpenRegion) where
      -- a block begins
      module _ (follows_on : begins_block (after_space old.rest) ≡ true) where
        pub block_nearer_by : (names : List Text) (later : Notebook) (new : StreamView) (waits : List Frame) → HeadRead types_at attr name before book v names later new → waits ≡ frames ++ framed.Region r ∷ []
            → (f : Option (Open T A)) (fs : List (Open T A)) (s : Noted) → Here (framed.Region r) f fs s → Near (framed.Region r) names later (Some (framed.Block true)) waits new f fs s
        block_nearer_by names later new waits e push f fs s at = region_next dialects before text (λ f. Near (framed.Region r) names later (Some (framed.Block true)) waits new f fs s) r f at.next_is (λ iso place i l.
            let read = subst (λ t. head_at types_at attr t ≡ Read e.head e.taken new.rest) passes.rest e.read in
            let less_here = head_fewer (leaves_no_more types_at h) (leaves_no_more attr (splits_attr reading k)) (after_space old.rest) e.head e.taken new.rest (some_character (the 94) (after_space old.rest) follows_on) read in
            let m = moves_fewer old v passes.moves in
            let n = ap length passes.rest in
            record {
              arrives = record {
                f' = Some (a_block true);
                fs' = fs ++ a_region iso place ∷ [];
                s' = does.heads e.head s;
                here = record {
                  next_is = refl;
                  others = pushed dialects names text frames (framed.Region r) waits fs (a_region iso place) push (others_on dialects text before names e.keeps frames fs at.others) (i, l);
                  noted = subst (λ t. IsNoted t later (does.heads e.head s)) same_text (e.noted s (subst (λ t. IsNoted t book s) (sym same_text) at.noted));
                };
                goes = block_begins dialects types_at attr does loops iso place fs s old.rest follows_on e.head e.taken new.rest read;
              };
              less = block_nearer often fs old.rest new.rest iso place more_often (omega (arith, less_here, m, n));
            })

        pub block_stops : (later : Notebook) (new : StreamView) → Unread (head_at types_at attr v.rest) book v later new → (f : Option (Open T A)) (fs : List (Open T A)) (s : Noted) → Here (framed.Region r) f fs s → Stuck later f fs s
        block_stops later new u f fs s at = region_next dialects before text (λ f. Stuck later f fs s) r f at.next_is (λ iso place i l.
            let m = subst (λ t. IsMissed (head_at types_at attr t)) passes.rest u.missed in (
              s,
              m.cause,
              _,
              no_block dialects types_at attr does loops iso place fs s old.rest follows_on m.cause m.upto m.bad,
              subst (λ z. IsNoted text z s) (sym u.still) at.noted,
            ))

      -- it ends
      module _ (none : begins_block (after_space old.rest) ≡ false) where
        pub region_over : (later : Notebook) (new : StreamView) (next : Option Frame) (waits : List Frame) → Left r book v later new → TakesLast frames next waits
            → (f : Option (Open T A)) (fs : List (Open T A)) (s : Noted) → Here (framed.Region r) f fs s → Near (framed.Region r) before later next waits new f fs s
        region_over later new next waits e t f fs s at = region_next dialects before text (λ f. Near (framed.Region r) before later next waits new f fs s) r f at.next_is (λ iso place i l.
            let q = popped dialects before text frames next waits fs t at.others in
            let read = subst (λ t. word (codes "}") t ≡ Read tt e.taken new.rest) passes.rest e.read in
            record {
              arrives = record {
                f' = q.f;
                fs' = q.others;
                s' = does.leaves iso place s;
                here = record {
                  next_is = q.next_is;
                  others = q.others_are;
                  noted = subst (λ j. IsNoted text later (does.leaves j place s)) i
                      (subst (λ t. IsNoted t later (does.leaves r.isolated place s)) same_text (e.noted place (subst (λ t. Leaves t r.at place) (sym same_text) l) s (subst (λ t. IsNoted t book s) (sym same_text) at.noted)));
                };
                goes = region_ends dialects types_at attr does loops iso place fs s old.rest none tt e.taken new.rest q.f q.others read q.pops;
              };
              less = end_nearer often fs old.rest new.rest (a_region iso place) q.f q.others q.pops (moves_fewer old new (moves_more passes.moves e.moves));
            })

        pub region_unended : (later : Notebook) (new : StreamView) → Unread (word (codes "}") v.rest) book v later new → (f : Option (Open T A)) (fs : List (Open T A)) (s : Noted) → Here (framed.Region r) f fs s → Stuck later f fs s
        region_unended later new u f fs s at = region_next dialects before text (λ f. Stuck later f fs s) r f at.next_is (λ iso place i l.
            let m = subst (λ t. IsMissed (word (codes "}") t)) passes.rest u.missed in (
              s,
              m.cause,
              _,
              no_brace dialects types_at attr does loops iso place fs s old.rest none m.cause m.upto m.bad,
              subst (λ z. IsNoted text z s) (sym u.still) at.noted,
            ))

  -- ---- an operation ends
  module _ (b : Held) (none : slice_get (steps_in dialects (id_of b.id)) b.step ≡ None) where
    no_steps : (o : OpenOperation T A) → IsHeld dialects before text b o → o.steps ≡ []
    no_steps o is = is.steps ∙ step_none (steps_in dialects o.id) b.step (ap (λ i. slice_get (steps_in dialects i) b.step) (sym is.id) ∙ none)

    pub operation_over : (later : Notebook) (new : StreamView) (next : Option Frame) (waits : List Frame) → EndRead name before b.names book old later new → TakesLast frames next waits
        → (f : Option (Open T A)) (fs : List (Open T A)) (s : Noted) → Here (framed.Operation b) f fs s → Near (framed.Operation b) before later next waits new f fs s
    operation_over later new next waits e t f fs s at = operation_next dialects before text (λ f. Near (framed.Operation b) before later next waits new f fs s) b f at.next_is (λ o is.
        let q = popped dialects before text frames next waits fs t at.others in
        record {
          arrives = record {
            f' = q.f;
            fs' = q.others;
            s' = does.marks e.mark (does.closes o.place o.names o.id o.parts s);
            here = record { next_is = q.next_is; others = q.others_are; noted = e.noted o.names is.names_are s at.noted };
            goes = operation_ends dialects types_at attr does o fs s old.rest (no_steps o is) e.mark e.taken new.rest q.f q.others e.read q.pops;
          };
          less = end_nearer often fs old.rest new.rest (an_operation o) q.f q.others q.pops (moves_fewer old new e.moves);
        })

    pub operation_unended : (later : Notebook) (new : StreamView) → EndUnread name before b.names book old later new → (f : Option (Open T A)) (fs : List (Open T A)) (s : Noted) → Here (framed.Operation b) f fs s → Stuck later f fs s
    operation_unended later new e f fs s at = operation_next dialects before text (λ f. Stuck later f fs s) b f at.next_is (λ o is. (
      does.closes o.place o.names o.id o.parts s,
      e.missed.cause,
      _,
      no_end dialects types_at attr does o fs s old.rest (no_steps o is) e.missed.cause e.missed.upto e.missed.bad,
      e.noted o.names is.names_are s at.noted,
    ))

  -- ---- a block goes on
  module _ (first : Bool) (v : StreamView) (passes : PassesTo (text_there first old.rest) old v) where
    same_there : whole v ≡ text
    same_there = moved_whole old v passes.moves

    goes_to : (f : Option (Open T A)) (fs : List (Open T A)) (s : Noted) (g : Option (Open T A)) (gs : List (Open T A)) (u : Text) → v.rest ≡ u → Goes dialects types_at attr does f fs s old.rest g gs s u → Goes dialects types_at attr does f fs s old.rest g gs s v.rest
    goes_to f fs s g gs u e x = subst (λ z. Goes dialects types_at attr does f fs s old.rest g gs s z) (sym e) x

    -- no operation follows
    pub block_over : operation_follows first old.rest ≡ false → (next : Option Frame) (waits : List Frame) → TakesLast frames next waits
        → (f : Option (Open T A)) (fs : List (Open T A)) (s : Noted) → Here (framed.Block first) f fs s → Near (framed.Block first) before book next waits v f fs s
    block_over none next waits t f fs s at = block_next dialects before text (λ f. Near (framed.Block first) before book next waits v f fs s) first f at.next_is
        (let q = popped dialects before text frames next waits fs t at.others in
        record {
          arrives = record { f' = q.f; fs' = q.others; s' = s; here = record { next_is = q.next_is; others = q.others_are; noted = at.noted }; goes = go first none passes.rest q.f q.others q.pops };
          less = end_nearer often fs old.rest v.rest (a_block first) q.f q.others q.pops (moves_fewer old v passes.moves);
        })
      where
        go : (first : Bool) → operation_follows first old.rest ≡ false → v.rest ≡ text_there first old.rest → (g : Option (Open T A)) (gs : List (Open T A)) → Pops fs g gs → Goes dialects types_at attr does (Some (a_block first)) fs s old.rest g gs s v.rest
        go true b e g gs p = goes_to (Some (a_block true)) fs s g gs (after_space old.rest) e (no_operation dialects types_at attr does fs s old.rest g gs b p)
        go false b e g gs p = goes_to (Some (a_block false)) fs s g gs (after_space old.rest) (e ∙ ap (λ z. cond z (after_space (without_first (after_space old.rest))) (after_space old.rest)) b)
            (no_more_operations dialects types_at attr does loops fs s old.rest g gs b p)

    -- one follows
    module _ (follows_on : operation_follows first old.rest ≡ true) where
      one_comes : (fs : List (Open T A)) (s : Noted) → Goes dialects types_at attr does (Some (a_block first)) fs s old.rest (Some (to_come true)) (fs ++ a_block false ∷ []) s v.rest
      one_comes fs s = go first follows_on passes.rest
        where
          go : (first : Bool) → operation_follows first old.rest ≡ true → v.rest ≡ text_there first old.rest → Goes dialects types_at attr does (Some (a_block first)) fs s old.rest (Some (to_come true)) (fs ++ a_block false ∷ []) s v.rest
          go true b e = goes_to (Some (a_block true)) fs s (Some (to_come true)) (fs ++ a_block false ∷ []) (after_space old.rest) e (first_operation dialects types_at attr does fs s old.rest b)
          go false b e = goes_to (Some (a_block false)) fs s (Some (to_come true)) (fs ++ a_block false ∷ []) (after_space (without_first (after_space old.rest)))
              (e ∙ ap (λ z. cond z (after_space (without_first (after_space old.rest))) (after_space old.rest)) b) (another_operation dialects types_at attr does loops fs s old.rest b)

      one_nearer : (fs : List (Open T A)) → work often (Some (to_come true)) (fs ++ a_block false ∷ []) v.rest < work often (Some (a_block first)) fs old.rest
      one_nearer fs = go first follows_on passes.rest
        where
          go : (first : Bool) → operation_follows first old.rest ≡ true → v.rest ≡ text_there first old.rest → work often (Some (to_come true)) (fs ++ a_block false ∷ []) v.rest < work often (Some (a_block first)) fs old.rest
          go true b e = first_nearer often fs old.rest v.rest (moves_fewer old v passes.moves)
          go false b e = other_nearer often fs old.rest v.rest more_often (semicolon_fewer old.rest v.rest b e)

      pub operation_nearer_by : (names : List Text) (later : Notebook) (new : StreamView) (b : Held) (waits : List Frame) → Begun types_at attr dialects name before book v b names later new → waits ≡ frames ++ framed.Block false ∷ []
          → (f : Option (Open T A)) (fs : List (Open T A)) (s : Noted) → Here (framed.Block first) f fs s → Near (framed.Block first) names later (Some (framed.Operation b)) waits new f fs s
      operation_nearer_by names later new b waits e push f fs s at = block_next dialects before text (λ f. Near (framed.Block first) names later (Some (framed.Operation b)) waits new f fs s) first f at.next_is
          (let o = begun {T = T} {A = A} dialects (length v.rest) e.results e.id e.parts in
          let begins = operation_begins dialects types_at attr does (fs ++ a_block false ∷ []) true s v.rest e.results e.id e.lead e.middle e.led e.parts new.rest
          (front_reads dialects types_at attr does (setting true true) (splits_inside types_at reading h k true) (front_steps (steps_in dialects e.id)) [] e.parts e.middle e.taken new.rest s e.front) in
          let m = front_fewer (leaves_no_more types_at h) (leaves_no_more attr (splits_attr reading k)) (setting true true) (front_steps (steps_in dialects e.id)) e.middle e.parts e.taken new.rest e.front in
          let n = led_fewer dialects v.rest (e.results, e.id) e.lead e.middle (led_some dialects v.rest (e.results, e.id) e.lead e.middle e.led) e.led in
          let w = operation_nearer often (fs ++ a_block false ∷ []) v.rest new.rest true o (steps_fewer dialects e.id) (omega (arith, m, n)) in
          let x = one_nearer fs in
          record {
            arrives = record {
              f' = Some (an_operation o);
              fs' = fs ++ a_block false ∷ [];
              s' = does.uses (length v.rest) e.id e.parts s;
              here = record {
                next_is = subst (λ t. IsHeld dialects names t b o) same_there e.held;
                others = pushed dialects names text frames (framed.Block false) waits fs (a_block false) push (others_on dialects text before names e.keeps frames fs at.others) refl;
                noted = subst (λ t. IsNoted t later (does.uses (length v.rest) e.id e.parts s)) same_there (e.noted s (subst (λ t. IsNoted t book s) (sym same_there) at.noted));
              };
              goes = goes_trans (one_comes fs s) begins;
            };
            less = omega (arith, w, x);
          })

      pub operation_stops : (later : Notebook) (new : StreamView) → NotBegun types_at attr dialects name book v later new → (f : Option (Open T A)) (fs : List (Open T A)) (s : Noted) → Here (framed.Block first) f fs s → Stuck later f fs s
      operation_stops later new u f fs s at = block_next dialects before text (λ f. Stuck later f fs s) first f at.next_is (stuck u.missed)
        where
          still : IsNoted text later s
          still = subst (λ z. IsNoted text z s) (sym u.still) at.noted

          stuck : IsMissed (led_at dialects v.rest) ⊎ ((lead : (List (Name ℕ) × Id) × Text × Text) × (led_at dialects v.rest ≡ Read lead.0 lead.1 lead.2)
              × IsMissed (front_at types_at attr (setting true true) (front_steps (steps_in dialects lead.0.1)) [] lead.2)) → Stuck later (Some (a_block first)) fs s
          stuck (inl m) = (s, m.cause, _, stuck_at (one_comes fs s) (no_lead dialects types_at attr does (fs ++ a_block false ∷ []) true s v.rest m.cause m.upto m.bad), still)
          stuck (inr (lead, led, m)) = (
            s,
            m.cause,
            _,
            stuck_at (one_comes fs s) (no_front dialects types_at attr does (fs ++ a_block false ∷ []) true s v.rest lead.0.0 lead.0.1 lead.1 lead.2 led s m.cause (length lead.2 - length m.upto)
                (front_misses dialects types_at attr does (setting true true) (splits_inside types_at reading h k true) (front_steps (steps_in dialects lead.0.1)) [] lead.2 s m.cause m.upto m.bad)),
            still,
          )

-- an error is out of memory, or what follows from that of the text
pub stops_by : {A : Type 0} {P Q : Type 0} {fault : ParseFault A} → UnlessMemory (λ _. P) fault → (P → Q) → UnlessMemory (λ _. Q) fault
stops_by (inl m) f = inl m
stops_by (inr p) f = inr (f p)

-- the names of an open operation's results were parsed
pub ready_names : {T A : Type 0} (dialects : List (Text × Table)) (names : List Text) (text : Text) (book : Notebook) (b : Held) (frames : List Frame) → IsReady T A dialects names text book (Some (framed.Operation b)) frames → AreNamed names (read_as DefinesValue b.names)
ready_names dialects names text book b frames r = operation_next dialects names text (λ f. AreNamed names (read_as DefinesValue b.names)) b r.f r.here.next_is (λ o is. record {
  text = text;
  all = mentioned DefinesValue o.names;
  are = named_as names text DefinesValue b.names o.names is.names_are;
})
